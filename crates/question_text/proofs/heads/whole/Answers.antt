use Rattle.std.specs.Prelude.{◌≡◌, ◌<◌, ◌≤◌, true, false, Bool, ◌&&◌, ◌||◌, not, ◌==◌, List, ℕ, length}
use Rattle.std.specs.Prelude.{nat_le, slice_index_or}
use Rattle.std.specs.List.{list_all}
use Rattle.std.proofs.Common.{arith, sym, refl, ◌∙◌}
use Rattle.std.proofs.lemmas.Bool.{leb-true, true≢false}
use Rattle.std.proofs.Math.Nat.{pow-le-pow_right}
use Rattle.mps_defs.specs.Numbers.{is_digit}
use Rattle.question_text.specs.SweepFiles.{is_whole}
use Rattle.question_text.proofs.heads.whole.Goals as goal

third : (a b c d : Bool) → (a && b && c && d) ≡ true → c ≡ true
third true true true d h = refl
third true true false d h = absurd (true≢false (sym h))
third true false c d h = absurd (true≢false (sym h))
third false b c d h = absurd (true≢false (sym h))

short : (ds : List ℕ) → is_whole ds ≡ true → length ds ≤ 18
short ds h =
    leb-true (length ds) 18
    (third (list_all is_digit ds) (nat_le 1 (length ds)) (nat_le (length ds) 18) (length ds == 1 || not (slice_index_or ds 0 48 == 48)) h)

pub returns-then-is_whole-clause-small : goal.returns-then-is_whole-clause-small
returns-then-is_whole-clause-small c =
    let few = short c.args.digits.now (sym c.is_whole.ensures ∙ c.if-is_whole.true) in
    let positive : 0 < 10 = omega arith in
    let most = pow-le-pow_right positive few in
    omega (arith, most, c.value_from.ensures.small)
