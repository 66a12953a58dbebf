-- Certificates of leaves: which are for the rows of a model, and how many multipliers these have.
use Rattle.std.specs.Prelude.{◌≡◌, ℕ, zero, suc, ◌<◌, ◌≤◌, nat_lt, if◌then◌else◌, Bool, true, false, List, [], ◌∷◌, length, ℤ, Option}
use Rattle.std.specs.Prelude.{Some, None, IsTrue, ◌↔◌}
use Rattle.ip_defs.specs.declared.certificates.Bound.{Bound}
use Rattle.ip_defs.specs.declared.programs.Parts.{Parts}
use Rattle.ip_defs.specs.Certificates.{leaf_bound}
use Rattle.tree_checker.specs.Internal.Leaves.{cert_bound}
use Rattle.std.specs.List.{list_all}
use Rattle.std.proofs.Common.{refl, arith, ap, sym, ◌∙◌}
use Rattle.ip_defs.specs.declared.certificates.Cert.{Cert}
use Rattle.ip_defs.specs.Limits.{IsCert, index_at}
use Rattle.ip_defs.proofs.BoolLaws.{both_true, left_true}
use Rattle.ip_defs.proofs.OrderLaws.{lt_is}
use Rattle.proof_tree.specs.Trees.{is_cert, is_multiplier}
use Rattle.proof_tree.proofs.CertLaws.{cert_exact, cert_test}
use Rattle.tree_format.proofs.CertSizes.{count_within}

-- a certificate for some rows has at most as many multipliers
pub few : (rows : ℕ) (c : Cert) → is_cert rows c ≡ true → length c.y ≤ rows
few rows c e = count_within rows c.y ((cert_exact rows c).0 e).ordered

rows_named : (rows : ℕ) (y : List (ℕ × ℤ)) → list_all (is_multiplier rows) y ≡ true → list_all (λ p. nat_lt p.0 rows) y ≡ true
rows_named rows [] e = refl
rows_named rows (p ∷ ps) e =
    let both = both_true (is_multiplier rows p) (list_all (is_multiplier rows) ps) e in
    let one = left_true (nat_lt p.0 rows) _ (left_true _ _ both.0) in
    rw (one) (rows_named rows ps both.1)

below_all : (rows : ℕ) (y : List (ℕ × ℤ)) → list_all (λ p. nat_lt p.0 rows) y ≡ true → (i : ℕ) → i < length y → index_at y i < rows
below_all rows [] e i l = absurd (omega arith)
below_all rows (p ∷ ps) e zero l = lt_is p.0 rows (both_true (nat_lt p.0 rows) (list_all (λ q. nat_lt q.0 rows) ps) e).0
below_all rows (p ∷ ps) e (suc i) l =
    below_all rows ps (both_true (nat_lt p.0 rows) (list_all (λ q. nat_lt q.0 rows) ps) e).1 i (omega arith)

-- a certificate within the limits is one for some rows exactly where it names no other row
pub cert_by_rows : (rows : ℕ) (c : Cert) → IsCert 1024 c → is_cert rows c ≡ list_all (λ p. nat_lt p.0 rows) c.y
cert_by_rows rows c h = by (list_all (λ p. nat_lt p.0 rows) c.y) (is_cert rows c) refl refl
  where
    by : (s t : Bool) → list_all (λ p. nat_lt p.0 rows) c.y ≡ s → is_cert rows c ≡ t → t ≡ s
    by true t e f = sym f ∙ (cert_exact rows c).1 (record {
      not_negative = h.not_negative;
      divisor = h.divisor;
      ordered = record { rising = h.ordered.rising; within = below_all rows c.y e; present = h.ordered.present };
      multipliers = h.multipliers;
    })
    by false false e f = refl
    by false true e f =
        let named = rows_named rows c.y (both_true _ (list_all (is_multiplier rows) c.y) f).1 in absurd (let g = sym e ∙ named in cc)

-- more multipliers than rows are no certificate for the rows
pub none_for_many : (m : Parts) (b : List (ℤ × ℤ)) (c : Cert) → length m.rows < length c.y → None ≡ cert_bound m b c
none_for_many m b c l = by (is_cert (length m.rows) c) refl
  where
    by : (t : Bool) → is_cert (length m.rows) c ≡ t → None ≡ (if t then Some (leaf_bound m b c) else None)
    by true e = absurd (omega (arith, few (length m.rows) c e))
    by false e = refl

-- ---- tests

pub bound_if : (m : Parts) (b : List (ℤ × ℤ)) (c : Cert) (t : Bool) (r : Option Bound) → (IsTrue t ↔ IsCert (length m.rows) c) → t ≡ true
    → r ≡ Some (leaf_bound m b c) → r ≡ cert_bound m b c
bound_if m b c t r h e f =
    f ∙ sym (ap (λ (s : Bool). if s then Some (leaf_bound m b c) else None) (cert_test (length m.rows) c t h ∙ e))

pub bound_unless : (m : Parts) (b : List (ℤ × ℤ)) (c : Cert) (t : Bool) → (IsTrue t ↔ IsCert (length m.rows) c) → t ≡ false
    → None ≡ cert_bound m b c
bound_unless m b c t h e =
    sym (ap (λ (s : Bool). if s then Some (leaf_bound m b c) else None) (cert_test (length m.rows) c t h ∙ e))
