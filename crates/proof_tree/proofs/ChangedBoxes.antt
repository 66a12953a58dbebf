-- The box of a program after a change of one number.
use Rattle.std.specs.Prelude.{◌≡◌, ℕ, zero, suc, ◌^◌, ◌<◌, ◌≤◌, List, [], ◌∷◌, length, map, Option, Some, None, slice_set, ℤ, pos, ◌+ℤ◌}
use Rattle.std.specs.Int.RustNames.{unsigned_abs}
use Rattle.std.proofs.Common.{arith, refl, ap, subst, sym, ◌⊎◌, inl, inr}
use Rattle.ip_defs.specs.Limits.{IsArea, IsWithinLimits}
use Rattle.ip_defs.specs.Program.{box_of, low_at, high_at}
use Rattle.ip_defs.specs.declared.programs.Column.{Column}
use Rattle.ip_defs.specs.declared.programs.Parts.{Parts}
use Rattle.ip_defs.proofs.BoxLaws.{area_cut, box_within}
use Rattle.ip_model.specs.declared.places.Place.{Place}
use Rattle.ip_model.specs.declared.places.Place.TheVariants.{Cost, Low, High, Coef, Lower, Upper}
use Rattle.ip_model.specs.Places.{changed_at, with_cost, with_lower, with_upper, raised}
use Rattle.leaf_cert.specs.Changes.{changed_by, IsChange}
use Rattle.leaf_cert.proofs.RaisedNumbers.{plus, changed_map}

abbrev sides : List Column → List (ℤ × ℤ)
sides cs = map (λ c. (c.lo, c.hi)) cs

lower_sides : (cs : List Column) (j : ℕ) (e : ℤ)
    → sides (changed_at (with_lower (plus e)) j cs) ≡ slice_set (sides cs) j (low_at (sides cs) j +ℤ e, high_at (sides cs) j)
lower_sides [] j e = refl
lower_sides (c ∷ cs) zero e = refl
lower_sides (c ∷ cs) (suc j) e = ap (λ (r : List (ℤ × ℤ)). (c.lo, c.hi) ∷ r) (lower_sides cs j e)

upper_sides : (cs : List Column) (j : ℕ) (e : ℤ)
    → sides (changed_at (with_upper (plus e)) j cs) ≡ slice_set (sides cs) j (low_at (sides cs) j, high_at (sides cs) j +ℤ e)
upper_sides [] j e = refl
upper_sides (c ∷ cs) zero e = refl
upper_sides (c ∷ cs) (suc j) e = ap (λ (r : List (ℤ × ℤ)). (c.lo, c.hi) ∷ r) (upper_sides cs j e)

-- a change of a bound sets the bounds of its column, and no other change is seen in the box
pub lower_box : (m : Parts) (j : ℕ) (e : ℤ)
    → box_of (raised m (Lower j) e) ≡ slice_set (box_of m) j (low_at (box_of m) j +ℤ e, high_at (box_of m) j)
lower_box m j e = lower_sides m.columns j e

pub upper_box : (m : Parts) (j : ℕ) (e : ℤ)
    → box_of (raised m (Upper j) e) ≡ slice_set (box_of m) j (low_at (box_of m) j, high_at (box_of m) j +ℤ e)
upper_box m j e = upper_sides m.columns j e

pub cost_box : (m : Parts) (j : ℕ) (e : ℤ) → box_of (raised m (Cost j) e) ≡ box_of m
cost_box m j e = changed_map (λ (c : Column). (c.lo, c.hi)) (with_cost (plus e)) (λ c. refl) m.columns j

pub kept_box : (m : Parts) (p : Place) (e : ℤ)
    → ((x : ℕ) × (p ≡ Cost x)) ⊎ (((x : ℕ) × (p ≡ Low x)) ⊎ (((x : ℕ) × (p ≡ High x)) ⊎ ((x : ℕ) × (y : ℕ) × (p ≡ Coef x y))))
    → box_of (raised m p e) ≡ box_of m
kept_box m p e (inl is) = rw is.1 (cost_box m is.0 e)
kept_box m p e (inr (inl is)) = rw is.1 refl
kept_box m p e (inr (inr (inl is))) = rw is.1 refl
kept_box m p e (inr (inr (inr is))) = rw is.2 refl

-- the box after a change is within the limits
raised_within : (m : Parts) (p : Place) (e : ℤ) → IsWithinLimits m → IsChange m (Some (p, e))
    → IsArea (length m.columns) (box_of (raised m p e))
raised_within m (Cost j) e limits is = subst (IsArea (length m.columns)) (sym (cost_box m j e)) (box_within m limits)
raised_within m (Low i) e limits is = box_within m limits
raised_within m (High i) e limits is = box_within m limits
raised_within m (Coef i j) e limits is = box_within m limits
raised_within m (Lower j) e limits is =
    let area = box_within m limits in
    subst (IsArea (length m.columns)) (sym (lower_box m j e)) (area_cut (box_of m) j (low_at (box_of m) j +ℤ e) (high_at (box_of m) j)
    (omega (arith, is.0, area.size)) (length m.columns) is.1 (area.high j is.0) area)
raised_within m (Upper j) e limits is =
    let area = box_within m limits in
    subst (IsArea (length m.columns)) (sym (upper_box m j e)) (area_cut (box_of m) j (low_at (box_of m) j) (high_at (box_of m) j +ℤ e)
    (omega (arith, is.0, area.size)) (length m.columns) (area.low j is.0) is.1 area)

pub changed_within : (m : Parts) (change : Option (Place × ℤ)) → IsWithinLimits m → IsChange m change
    → IsArea (length m.columns) (box_of (changed_by m change))
changed_within m None limits is = box_within m limits
changed_within m (Some c) limits is = raised_within m c.0 c.1 limits is
