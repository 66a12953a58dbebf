use Rattle.std.proofs.Common.{refl, sym, ◌∙◌, arith}
use Rattle.ipsens_core.proofs.FeedLaws.{fed_beyond, fed_end, fed_next}
use Rattle.ipsens_core.proofs.trees.feed_file.Goals as goal

pub returns-in-Ok-eq0-clause-fed : goal.returns-in-Ok-eq0-clause-fed
returns-in-Ok-eq0-clause-fed g c = fed_end _ _ _ _ _ _ _ _ _ _ c.in-Ok-eq0.field-0-test c.in-Ok-eq0.ensures.files c.in-Ok-eq0.ensures.bytes
    c.loop-n.invariant.room c.loop-n.invariant.fed

pub returns-then-n-taken-clause-too_long : goal.returns-then-n-taken-clause-too_long
returns-then-n-taken-clause-too_long g c _ =
    fed_beyond _ _ _ _ _ _ _ _ _ _ c.in-Ok-read.ensures.bound (omega arith) c.in-Ok-read.ensures.files c.in-Ok-read.ensures.bytes
    c.loop-n.invariant.fed

pub loop-n-preserved : goal.loop-n-preserved
loop-n-preserved g c = record {
  begun = c.in-Ok-read.ensures.begun;
  names = λ now is. c.loop-n.invariant.names now (sym c.in-Ok-read.ensures.names ∙ is);
  faults = c.in-Ok-read.ensures.cause.stands ∙ c.loop-n.invariant.faults;
  saves = c.in-Ok-read.ensures.saves ∙ c.loop-n.invariant.saves;
  files = λ t known. c.loop-n.invariant.files t (sym c.in-Ok-read.ensures.files ∙ known);
  unknown = λ t known lost. c.loop-n.invariant.unknown t known (sym c.in-Ok-read.ensures.files ∙ lost);
  room = omega arith;
  fed = fed_next _ _ _ _ _ _ _ _ _ _ _ _ c.in-Ok-read.ensures.files c.in-Ok-read.ensures.bytes c.in-Ok-read.ensures.bound refl
      (c.feed.ensures.read _) c.loop-n.invariant.fed;
}
