-- Tight columns by a list of what the multipliers take from the costs, and how large the numerators of tight columns are.
use Rattle.std.specs.Prelude.{◌≡◌, ℕ, ◌^◌, ◌<◌, ◌≤◌, List, length, ℤ, ◌-ℤ◌, ◌*ℤ◌}
use Rattle.std.specs.Int.RustNames.{unsigned_abs}
use Rattle.std.proofs.Common.{arith, sym, subst}
use Rattle.std.proofs.lemmas.Int.{ints}
use Rattle.ip_defs.specs.Program.{at, low_at, high_at, costs_of}
use Rattle.ip_defs.specs.Limits.{IsArea}
use Rattle.ip_defs.specs.declared.certificates.Cert.{Cert}
use Rattle.ip_defs.specs.declared.programs.Parts.{Parts}
use Rattle.leaf_cert.specs.Columns.{AllSmall, taken_of}
use Rattle.leaf_cert.proofs.Steps.{size_of_product}
use Rattle.slackness.specs.Internal.Columns.{AreTightBy}
use Rattle.slackness.specs.Proposals.{HasSmallDenominator}
use Rattle.slackness.specs.Tight.{IsTightColumn, AreTightColumns}

module _ (m : Parts) (b : List (ℤ × ℤ)) (d : ℤ) (n : List ℤ) (c : Cert) (taken : List ℤ) (size : length b ≡ length m.columns)
    (is : (j : ℕ) → j < length b → at taken j ≡ taken_of m.rows c.y j) where
  pub tight_from : AreTightBy m b d n c.q taken → AreTightColumns m b d n c
  tight_from h j l =
      let inside : j < length b = omega arith in
      subst (λ z. IsTightColumn d (low_at b j) (high_at b j) (at n j) (c.q *ℤ at (costs_of m) j -ℤ z)) (is j inside) (h j inside)

  pub tight_by : AreTightColumns m b d n c → AreTightBy m b d n c.q taken
  tight_by h j l =
      let inside : j < length m.columns = omega arith in
      subst (λ z. IsTightColumn d (low_at b j) (high_at b j) (at n j) (c.q *ℤ at (costs_of m) j -ℤ z)) (sym (is j l)) (h j inside)

-- a number between two sides times a small denominator
column_small : (d low high n r : ℤ) → HasSmallDenominator d → unsigned_abs low ≤ 2 ^ 24 → unsigned_abs high ≤ 2 ^ 24 →
    IsTightColumn d low high n r → unsigned_abs n ≤ 2 ^ 74
column_small d low high n r small l h tight =
    let p = small.positive in
    let s = small.small in
    let size : unsigned_abs d ≤ 2 ^ 50 = omega (arith, ints) in
    let first = size_of_product d low (2 ^ 50) (2 ^ 24) size l in
    let second = size_of_product d high (2 ^ 50) (2 ^ 24) size h in
    let least = tight.between.at_least in
    let most = tight.between.at_most in
    omega (arith, ints)

pub numerators_small : (m : Parts) (b : List (ℤ × ℤ)) (d : ℤ) (n : List ℤ) (c : Cert) → IsArea (length m.columns) b →
    HasSmallDenominator d → length n ≡ length m.columns → AreTightColumns m b d n c → AllSmall (2 ^ 74) n
numerators_small m b d n c area small size tight j l =
    let inside : j < length m.columns = omega arith in
    column_small d (low_at b j) (high_at b j) (at n j) _ small (area.low j inside) (area.high j inside) (tight j inside)
