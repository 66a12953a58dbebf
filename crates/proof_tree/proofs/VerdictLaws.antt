-- The claim of a proved proof is true, and the verdict is exact.
use Rattle.std.specs.Prelude.{◌≡◌, ℤ, ◌≤ℤ◌, length, Bool, true, false, Option, Some, None, if◌then◌else◌}
use Rattle.std.specs.Int.Signed.{lt_z}
use Rattle.std.proofs.Common.{refl, arith, subst}
use Rattle.std.proofs.lemmas.Int.{ints}
use Rattle.ip_defs.specs.declared.certificates.Bound.{Bound}
use Rattle.ip_defs.specs.declared.certificates.Bound.TheVariants.{At, Infinite}
use Rattle.ip_defs.specs.declared.programs.Breach.{Breach}
use Rattle.ip_defs.specs.declared.programs.Parts.{Parts}
use Rattle.ip_defs.specs.Breaches.{first_breach}
use Rattle.ip_defs.specs.Certificates.{IsAtMost}
use Rattle.ip_defs.specs.Program.{cost}
use Rattle.ip_defs.proofs.BreachLaws.{breaches_are_exact}
use Rattle.proof_tree.specs.declared.claims.Claim.{Claim}
use Rattle.proof_tree.specs.declared.claims.Claim.TheVariants.{Best, Empty}
use Rattle.proof_tree.specs.declared.verdicts.Verdict.TheVariants.{Proved, Short}
use Rattle.proof_tree.specs.Trees.{PlainTree, plain, FitsColumns, tree_bound}
use Rattle.proof_tree.specs.Verdicts.{IsAtLeast, AreProvedBy, is_at_least, on_point, judged, IsProvedVerdict, IsTrueClaim, ProofsAreTrue}
use Rattle.proof_tree.specs.Verdicts.{HasLength, VerdictsAreExact}
use Rattle.proof_tree.proofs.TreeLaws.{trees_bound}
use Rattle.ip_defs.proofs.OrderLaws.{less_false, not_less}

between : (v : Bound) (low high : ℤ) → IsAtLeast v low → IsAtMost v high → low ≤ℤ high
between (At v) low high a b = omega (arith, ints)
between Infinite low high a b = absurd b

pub claims_are_true : (m : Parts) (t : PlainTree) (c : Claim) → FitsColumns (length m.columns) t
    → AreProvedBy m c (tree_bound m t) → IsTrueClaim m c
claims_are_true m t (Best x) fits p = record
    { feasible = p.0; least = λ y ok. between (tree_bound m t) (cost m x) (cost m y) p.1 (trees_bound m t y fits ok) }
claims_are_true m t Empty fits p = λ x ok. subst (λ (v : Bound). IsAtMost v (cost m x)) p (trees_bound m t x fits ok)

pub proofs_are_true : ProofsAreTrue
proofs_are_true m p fits ok = claims_are_true m (plain p.tree) p.claim fits ok

least_of : (v : Bound) (w : ℤ) → is_at_least v w ≡ true → IsAtLeast v w
least_of Infinite w e = tt
least_of (At v) w e = by (lt_z v w) refl e
  where
    by : (t : Bool) → lt_z v w ≡ t → (if t then false else true) ≡ true → w ≤ℤ v
    by true f e = absurd cc
    by false f e = not_less v w f

least_back : (v : Bound) (w : ℤ) → IsAtLeast v w → is_at_least v w ≡ true
least_back Infinite w h = refl
least_back (At v) w h = rw (less_false v w h) refl

pub verdict_exact : (m : Parts) (c : Claim) (v : Bound) → HasLength (length m.columns) c
    → (IsProvedVerdict (judged m c v) → AreProvedBy m c v)
    × (AreProvedBy m c v → IsProvedVerdict (judged m c v))
verdict_exact m Empty (At v) size = (λ h. absurd h, λ e. absurd cc)
verdict_exact m Empty Infinite size = (λ h. refl, λ e. tt)
verdict_exact m (Best x) v size = (
  to (first_breach m x) (is_at_least v (cost m x)) refl refl,
  λ p. rw ((breaches_are_exact m x size).1 p.0, least_back v (cost m x) p.1)
      tt,
)
  where
    to : (o : Option Breach) (t : Bool) → first_breach m x ≡ o → is_at_least v (cost m x) ≡ t → IsProvedVerdict (on_point o v (cost m x))
        → AreProvedBy m (Best x) v
    to (Some br) t e f h = absurd h
    to None t e f h = ((breaches_are_exact m x size).0 e, least_of v (cost m x) (sure (is_at_least v (cost m x)) h))
      where
        sure : (t : Bool) → IsProvedVerdict (if t then Proved (Some (cost m x)) else Short v (Some (cost m x))) → t ≡ true
        sure true h = refl
        sure false h = absurd h

pub verdicts_are_exact : VerdictsAreExact
verdicts_are_exact m p size = verdict_exact m p.claim (tree_bound m (plain p.tree)) size
