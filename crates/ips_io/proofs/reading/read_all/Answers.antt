use Rattle.std.proofs.Common.{◌++◌, Some, sym, ap, ◌∙◌, arith}
use Rattle.ips_io.proofs.PieceLaws.{reads_next, reads_end, reads_beyond, within_limit}
use Rattle.ips_io.proofs.reading.read_all.Goals as goal

pub returns-in-Ok-eq0-clause-whole : goal.returns-in-Ok-eq0-clause-whole
returns-in-Ok-eq0-clause-whole g c = reads_end _ _ _ _ _ _ _ _ c.in-Ok-eq0.field-0-test c.in-Ok-eq0.ensures.files
    c.loop-bytes.invariant.content c.in-Ok-eq0.ensures.bytes

pub returns-then-n-room-clause-too_long : goal.returns-then-n-room-clause-too_long
returns-then-n-room-clause-too_long g c _ =
    reads_beyond _ _ _ _ _ _ _ _ _ c.in-Ok-read.ensures.bound (omega arith) c.in-Ok-read.ensures.files c.loop-bytes.invariant.content
    c.in-Ok-read.ensures.bytes

pub loop-bytes-preserved : goal.loop-bytes-preserved
loop-bytes-preserved g c = record {
  begun = c.in-Ok-read.ensures.begun;
  names = λ now is. c.loop-bytes.invariant.names now (sym c.in-Ok-read.ensures.names ∙ is);
  faults = c.in-Ok-read.ensures.cause.stands ∙ c.loop-bytes.invariant.faults;
  saves = c.in-Ok-read.ensures.saves ∙ c.loop-bytes.invariant.saves;
  files = λ t known. c.loop-bytes.invariant.files t (sym c.in-Ok-read.ensures.files ∙ known);
  unknown = λ t known lost. c.loop-bytes.invariant.unknown t known (sym c.in-Ok-read.ensures.files ∙ lost);
  room = within_limit _ _ _ _ _ c.read.new.into c.in-Ok-extend_from_slice.ensures.len c.if-n-room.false c.len.ensures
      c.loop-bytes.invariant.room;
  content = λ t known.
      let here = reads_next _ _ _ _ _ _ _ _ c.in-Ok-read.ensures.files c.loop-bytes.invariant.content c.in-Ok-read.ensures.bytes t known in
      (here.0, here.1, here.2 ∙ ap (λ xs. Some (xs ++ here.0)) (sym c.in-Ok-extend_from_slice.ensures.items));
}
