use Rattle.std.proofs.Common.{◌-◌, ◌+◌, ◌≤◌, length, arith, ap, ◌∙◌}
use Rattle.ips_io.proofs.PlaceLaws.{replaced}
use Rattle.ips_io.proofs.places.replace.Goals as goal

pub returns-clause-bytes : goal.returns-clause-bytes
returns-clause-bytes c =
    let size = c.args.buffer.now.ok.0 in
    let after = ap (λ k. k - (c.args.part.start + c.args.part.length)) (c.len.ensures ∙ size) in
    let within : c.args.part.start + c.args.part.length ≤ length c.args.buffer.now.items = omega (arith, c.requires.within) in
    replaced _ _ _ _ _ _ _ _ after within c.rotate_left.ensures.items c.truncate.ensures.items c.append.ensures.bytes
    c.rotate_left-2.ensures.items
