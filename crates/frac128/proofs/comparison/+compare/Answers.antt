use Rattle.std.proofs.Common.{arith, ◌≡◌, ◌∙◌, ◌*◌, ◌%◌, ◌+◌}
use Rattle.std.specs.declared.cmp.Ordering.TheVariants.{Less, Equal, Greater}
use Rattle.std.specs.Cmp.{nat_cmp_is}
use Rattle.frac128.proofs.Quotients.{less_floor, rests, no_rest, second_rest, first_rest, same_order}
use Rattle.frac128.proofs.comparison.+compare.Goals as goal

pub returns-then-whole-other_whole : goal.returns-then-whole-other_whole
returns-then-whole-other_whole t c = nat_cmp_is _ _ _ (less_floor c.args.a c.args.b c.args.c c.args.d c.requires.first c.requires.second
    c.if-whole-other_whole.true)

pub returns-then-other_whole-whole : goal.returns-then-other_whole-whole
returns-then-other_whole-whole t c = nat_cmp_is _ _ _ (less_floor c.args.c c.args.d c.args.a c.args.b c.requires.second c.requires.first
    c.if-other_whole-whole.true)

pub returns-then-other_rest-eq0 : goal.returns-then-other_rest-eq0
returns-then-other_rest-eq0 t c = nat_cmp_is (c.args.a * c.args.d) (c.args.c * c.args.b) Equal
    (no_rest c.args.a c.args.b c.args.c c.args.d c.requires.first c.requires.second (omega arith) c.if-rest-eq0.true
    c.if-other_rest-eq0.true)

pub returns-then-rest-eq0 : goal.returns-then-rest-eq0
returns-then-rest-eq0 t c = nat_cmp_is (c.args.a * c.args.d) (c.args.c * c.args.b) Less
    (second_rest c.args.a c.args.b c.args.c c.args.d c.requires.first c.requires.second (omega arith) c.if-rest-eq0.true (omega arith))

pub returns-then-other_rest-eq0-2 : goal.returns-then-other_rest-eq0-2
returns-then-other_rest-eq0-2 t c = nat_cmp_is (c.args.a * c.args.d) (c.args.c * c.args.b) Greater
    (first_rest c.args.a c.args.b c.args.c c.args.d c.requires.first c.requires.second (omega arith) (omega arith)
    c.if-other_rest-eq0-2.true)

pub returns : goal.returns
returns t c =
    let h = rests c.args.a c.args.b c.args.c c.args.d c.requires.first c.requires.second (omega arith) in
    let e : c.args.a * c.args.d + c.args.b * (c.args.c % c.args.d)
    ≡ c.args.c * c.args.b + c.args.d * (c.args.a % c.args.b) = omega arith in
    c.compare.ensures ∙ same_order (c.args.a * c.args.d) (c.args.c * c.args.b) (c.args.d * (c.args.a % c.args.b))
    (c.args.b * (c.args.c % c.args.d)) e
