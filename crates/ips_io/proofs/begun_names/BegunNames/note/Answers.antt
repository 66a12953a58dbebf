use Rattle.std.proofs.Common.{◌≡◌, ◌∙◌, ◌≤◌, ◌<◌, ◌∷◌, [], length, true, false, refl, sym, ap, arith, rules, length-append}
use Rattle.ips_io.specs.BegunNames.{total_of}
use Rattle.ips_io.proofs.NameLaws.{noted_kept, noted_beyond, noted_long, total_more}
use Rattle.ips_io.proofs.begun_names.BegunNames.note.Goals.{
  then-not-self-via-then-not-self,
}
use Rattle.ips_io.proofs.begun_names.BegunNames.note.Goals.{
  then-not-self-via-else-not-self+then-len-ge-MOST_NAMES,
}
use Rattle.ips_io.proofs.begun_names.BegunNames.note.Goals.{
  then-not-self-via-else-not-self+else-len-ge-MOST_NAMES+then-length-gt-LONGEST_NAME,
}
use Rattle.ips_io.proofs.begun_names.BegunNames.note.Goals as goal

pub returns-then-not-self : goal.returns-then-not-self
returns-then-not-self c =
    let ns = c.self.inside.lengths.items in
    let b = c.self.inside.buffer.items in
    let name = c.args.name.now in
    elim c.then-not-self.branch [
      | then-not-self-via-then-not-self w ↦
          let unknown : c.self.inside.are_known ≡ false = search rules in
          rw (← c.self.view_is, unknown) refl
      | then-not-self-via-else-not-self+then-len-ge-MOST_NAMES w ↦
          let known : c.self.inside.are_known ≡ true = search rules in
          let many : 8 ≤ length ns = omega (arith, c.self.inside.lengths.ok.0, w.if-len-ge-MOST_NAMES.true, w.len.ensures) in
          rw (← c.self.view_is, known) (sym (noted_beyond ns b name many))
      | then-not-self-via-else-not-self+else-len-ge-MOST_NAMES+then-length-gt-LONGEST_NAME w ↦
          let known : c.self.inside.are_known ≡ true = search rules in
          let size = ap length c.as_bytes-name.ensures.value in
          let long : 255 < length name = omega (arith, w.if-length-gt-LONGEST_NAME.true) in
          rw (← c.self.view_is, known) (sym (noted_long ns b name long))
    ]

pub invariant_of-self-2 : goal.invariant_of-self-2
invariant_of-self-2 c =
    let ns = c.self.inside.lengths.items in
    let more = total_more ns (length c.as_bytes-name.result.now) in
    let sum = ap total_of c.push_length.ensures.lengths in
    let bytes = ap length c.append.ensures.bytes in
    let grown = length-append c.self.inside.buffer.items c.as_bytes-name.result.now in
    let filled = c.self.invariant.0 ∙ c.self.inside.buffer.ok.0 in
    let number = ap length c.push_length.ensures.lengths in
    let listed = length-append ns (length c.as_bytes-name.result.now ∷ []) in
    (omega (arith, c.push_length.new.lengths.ok.0, c.append.new.buffer.ok.0), omega (arith), omega arith, omega arith, omega arith)

pub returns : goal.returns
returns c =
    let known : c.self.inside.are_known ≡ true = search rules in
    let filled = c.self.invariant.0 ∙ c.self.inside.buffer.ok.0 in
    let few : length c.self.inside.lengths.items < 8 =
    omega (arith, c.self.inside.lengths.ok.0, c.if-len-ge-MOST_NAMES.false, c.len.ensures) in
    let name = c.as_bytes-name.ensures.value in
    let size = ap length name in
    let short : length c.args.name.now ≤ 255 = omega (arith, c.if-length-gt-LONGEST_NAME.false) in
    let kept = noted_kept c.self.inside.lengths.items c.self.inside.buffer.items c.args.name.now filled few short in
    rw (← c.self.view_is, known, c.push_length.ensures.lengths, c.append.ensures.bytes, name) kept
