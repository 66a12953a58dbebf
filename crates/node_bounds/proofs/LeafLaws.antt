-- What closes a box: its sum, its one point, or a ray on a row that its one point breaks.
use Rattle.std.specs.Prelude.{◌≡◌, ℕ, ◌<◌, Bool, true, false, if◌then◌else◌, List, [], ◌∷◌, length, slice_get, Option, Some, None}
use Rattle.std.specs.Prelude.{option_map, ℤ, pos, negsuc, ◌+ℤ◌, ◌-ℤ◌, ◌*ℤ◌, ◌<ℤ◌}
use Rattle.std.specs.Int.{int_min}
use Rattle.std.specs.Int.Signed.{lt_z}
use Rattle.std.specs.List.{list_any}
use Rattle.std.proofs.Common.{arith, refl, ap, sym, ◌∙◌, subst}
use Rattle.std.proofs.lemmas.Int.{ints, clamps}
use Rattle.std.proofs.lemmas.List.{length-map, get_or-map}
use Rattle.ring_laws.proofs.Normal.{num, ◌⊕◌, ◌⊖◌, ◌⊗◌}
use Rattle.ring_laws.proofs.Named.{ring3, ring4}
use Rattle.ring_laws.proofs.Rings.{whole}
use Rattle.ip_defs.specs.declared.certificates.Bound.{Bound}
use Rattle.ip_defs.specs.declared.certificates.Bound.TheVariants.{At, Infinite}
use Rattle.ip_defs.specs.declared.certificates.Cert.{Cert}
use Rattle.ip_defs.specs.declared.programs.Parts.{Parts}
use Rattle.ip_defs.specs.declared.programs.Row.{Row}
use Rattle.ip_defs.specs.Boxes.{IsOpen}
use Rattle.ip_defs.specs.Certificates.{coefs_of, side_for, pay, coefficient_of, reduced, column_part, dual_value, box_sum, ceiling}
use Rattle.ip_defs.specs.Certificates.{is_empty_side, bound_by, leaf_bound}
use Rattle.ip_defs.specs.Limits.{IsCert, IsWithinLimits}
use Rattle.ip_defs.specs.Program.{at, box_of, coefficient, costs_of, row_sum, low_at, high_at, IsFeasible, IsIn, cost}
use Rattle.ip_defs.specs.Sums.{sum_below}
use Rattle.ip_defs.proofs.SumLaws.{sum_same, sum_scale}
use Rattle.ip_defs.proofs.BoxLaws.{box_within, open_from, open_sides}
use Rattle.proof_tree.specs.Verdicts.{IsAtLeast}
use Rattle.node_bounds.specs.Certificates.{plain_cert}
use Rattle.node_bounds.specs.Areas.{IsPartOf, IsSearchArea, IsSingle, lowest}
use Rattle.node_bounds.specs.Cuts.{Closes, IsBelow}
use Rattle.node_bounds.specs.Nodes.{IsEnd, IsWholeEnd, greater}
use Rattle.node_bounds.specs.Internal.Leaves.{ray_on}
use Rattle.ip_defs.proofs.OrderLaws.{less_true}

-- ---- boxes of a search

-- the box of a program
pub whole_area : (m : Parts) → IsWithinLimits m → IsSearchArea m (box_of m)
whole_area m limits = record { area = box_within m limits; part = λ j l. (omega (arith, ints), omega (arith, ints)) }

-- ---- the sum of a box

pub ceiling_one : (g : ℤ) → ceiling g 1 ≡ g
ceiling_one (pos a) = omega (arith, ints)
ceiling_one (negsuc a) = omega (arith, ints)

-- of an open box the dual value bounds
pub open_bound : (m : Parts) (b : List (ℤ × ℤ)) (c : Cert) → IsOpen b → leaf_bound m b c
    ≡ bound_by c.q (box_sum m b) (dual_value m b c.q c.y)
open_bound m b c open' = ap (λ t. if t then Infinite else bound_by c.q (box_sum m b) (dual_value m b c.q c.y)) (open_sides b open')

-- the bound of the certificate without multipliers is the sum of the box
pub plain_bound : (m : Parts) (b : List (ℤ × ℤ)) → list_any is_empty_side b ≡ false → leaf_bound m b plain_cert ≡ At (box_sum m b)
plain_bound m b none = rw none (ap At (ceiling_one (pos 0 +ℤ (pos 1 *ℤ m.constant) +ℤ column_part m b (pos 1) []) ∙ omega (arith, ints)))

-- a box that the sum does not close has no empty column, and its sum is below the cost at which the search cuts
pub not_closed : (m : Parts) (b : List (ℤ × ℤ)) (cut_at : Option ℤ) (v : Bound) → v ≡ leaf_bound m b plain_cert → IsBelow v cut_at
    → IsOpen b × IsBelow (At (box_sum m b)) cut_at
not_closed m b cut_at v is below = by (list_any is_empty_side b) refl
  where
    by : (t : Bool) → list_any is_empty_side b ≡ t → IsOpen b × IsBelow (At (box_sum m b)) cut_at
    by true e = let infinite : v ≡ Infinite = is ∙ rw e refl in absurd (subst (λ (u : Bound). IsBelow u cut_at) infinite below)
    by false e = (open_from b e, subst (λ (u : Bound). IsBelow u cut_at) (is ∙ plain_bound m b e) below)

-- ---- the one point of a box
module _ (b : List (ℤ × ℤ)) (single : IsSingle b) (open' : IsOpen b) where
  point_at : (j : ℕ) → j < length b → at (lowest b) j ≡ low_at b j
  point_at j l = get_or-map (λ (s : ℤ × ℤ). s.0) b j (pos 0, pos 0) (pos 0) l

  point_size : length (lowest b) ≡ length b
  point_size = length-map b (λ (s : ℤ × ℤ). s.0)

  -- it lies in each box that the box is part of
  pub point_in : (whole_box : List (ℤ × ℤ)) → length b ≡ length whole_box → IsPartOf b whole_box → IsIn whole_box (lowest b)
  point_in whole_box size part = record {
    size = point_size ∙ size;
    low = λ j l. let l' : j < length b = omega (arith, l, size) in let is = point_at j l' in let from = (part j l').0 in
        omega (arith, ints);
    high = λ j l. let l' : j < length b = omega (arith, l, size) in let is = point_at j l' in let to' = (part j l').1 in
        let meet = open' j l' in omega (arith, ints);
  }

  -- each end of a column is its number there
  ends_meet : (d : ℤ) (j : ℕ) → j < length b → int_min (d *ℤ low_at b j) (d *ℤ high_at b j) ≡ d *ℤ at (lowest b) j
  ends_meet d j l =
      let low = single j l in
      let high = open' j l in
      let same : high_at b j ≡ low_at b j = omega (arith, ints) in
      let is = ap (λ z. d *ℤ z) same in
      let there = ap (λ z. d *ℤ z) (point_at j l) in
      omega (arith, ints, clamps)

  -- its cost is the sum of the box
  pub point_sum : (m : Parts) → box_sum m b ≡ cost m (lowest b)
  point_sum m =
      let each : (j : ℕ) → j < length b → int_min (reduced m (pos 1) [] j *ℤ low_at b j) (reduced m (pos 1) [] j *ℤ high_at b j)
      ≡ at (costs_of m) j *ℤ at (lowest b) j = λ j l.
      ends_meet (reduced m (pos 1) [] j) j l ∙ ring2' (at (costs_of m) j) (at (lowest b) j) in
      let same = sum_same (λ j. int_min (reduced m (pos 1) [] j *ℤ low_at b j) (reduced m (pos 1) [] j *ℤ high_at b j))
      (λ j. at (costs_of m) j *ℤ at (lowest b) j) (length b) each in
      let sized = ap (sum_below (λ j. at (costs_of m) j *ℤ at (lowest b) j)) point_size in
      omega (arith, ints)
    where
      ring2' : (c x : ℤ) → (pos 1 *ℤ c -ℤ pos 0) *ℤ x ≡ c *ℤ x
      ring2' c x = ring3 whole (λ c x z. (num (pos 1) ⊗ c ⊖ num (pos 0)) ⊗ x) (λ c x z. c ⊗ x) refl c x (pos 0)

  -- ---- rays
  ray_part : (m : Parts) (i : ℕ) (r : Row) (k : ℤ) → slice_get m.rows i ≡ Some r →
      column_part m b (pos 0) ((i, k) ∷ []) ≡ (pos 0 -ℤ k) *ℤ row_sum r.coefs (lowest b)
  ray_part m i r k is =
      let y : List (ℕ × ℤ) = (i, k) ∷ [] in
      let each : (j : ℕ) → j < length b → int_min (reduced m (pos 0) y j *ℤ low_at b j) (reduced m (pos 0) y j *ℤ high_at b j)
      ≡ (pos 0 -ℤ k) *ℤ (coefficient r.coefs j *ℤ at (lowest b) j) = λ j l.
      ends_meet (reduced m (pos 0) y j) j l ∙ turned (at (costs_of m) j) (coefficient_of m.rows i j) (at (lowest b) j)
      ∙ ap (λ (o : Option Row). (pos 0 -ℤ k) *ℤ (coefficient (coefs_of o) j *ℤ at (lowest b) j)) is in
      let same = sum_same (λ j. int_min (reduced m (pos 0) y j *ℤ low_at b j) (reduced m (pos 0) y j *ℤ high_at b j))
      (λ j. (pos 0 -ℤ k) *ℤ (coefficient r.coefs j *ℤ at (lowest b) j)) (length b) each in
      let scaled = sum_scale (pos 0 -ℤ k) (λ j. coefficient r.coefs j *ℤ at (lowest b) j) (length b) in
      let sized = ap (λ n. (pos 0 -ℤ k) *ℤ sum_below (λ j. coefficient r.coefs j *ℤ at (lowest b) j) n) point_size in
      same ∙ scaled ∙ sym sized
    where
      turned : (c e x : ℤ) → (pos 0 *ℤ c -ℤ (k *ℤ e +ℤ pos 0)) *ℤ x ≡ (pos 0 -ℤ k) *ℤ (e *ℤ x)
      turned c e x = ring4 whole (λ k c e x. (num (pos 0) ⊗ c ⊖ (k ⊗ e ⊕ num (pos 0))) ⊗ x) (λ k c e x. (num (pos 0) ⊖ k) ⊗ (e ⊗ x)) refl k
          c e x

  -- a ray on a row is infinite, where the multiplier pays more than the row's value
  pub ray_infinite : (m : Parts) (i : ℕ) (r : Row) (k side : ℤ) → slice_get m.rows i ≡ Some r → side_for k r ≡ Some side →
      (k *ℤ row_sum r.coefs (lowest b)) <ℤ (k *ℤ side) → leaf_bound m b (ray_on i k) ≡ Infinite
  ray_infinite m i r k side is side_is more =
      let y : List (ℕ × ℤ) = (i, k) ∷ [] in
      let part = ray_part m i r k is in
      let turned = ring3 whole (λ k v z. (num (pos 0) ⊖ k) ⊗ v) (λ k v z. num (pos 0) ⊖ k ⊗ v) refl k (row_sum r.coefs (lowest b))
      (pos 0) in
      let g = (k *ℤ side +ℤ pos 0) +ℤ (pos 0 *ℤ m.constant) +ℤ column_part m b (pos 0) y in
      let positive : lt_z (pos 0) g ≡ true = less_true (pos 0) g (omega (arith, ints)) in
      let paid : pay m.rows y ≡ Some (k *ℤ side +ℤ pos 0) = rw (is, side_is) refl in
      let dual : dual_value m b (pos 0) y ≡ Some g = ap (option_map (λ p. p +ℤ (pos 0 *ℤ m.constant) +ℤ column_part m b (pos 0) y)) paid in
      let by_ray : bound_by (pos 0) (box_sum m b) (Some g) ≡ Infinite = ap (λ t. if t then Infinite else At (box_sum m b)) positive in
      open_bound m b (ray_on i k) open' ∙ ap (bound_by (pos 0) (box_sum m b)) dual ∙ by_ray

-- the certificate without multipliers is one for any number of rows
plain_cert_ok : (rows : ℕ) → IsCert rows plain_cert
plain_cert_ok rows = record {
  not_negative = omega (arith, ints);
  divisor = omega (arith, ints);
  ordered = record {
    rising = λ i k p q. absurd (omega arith);
    within = λ i p. absurd (omega arith);
    present = λ i p. absurd (omega arith);
  };
  multipliers = λ i p. absurd (omega arith);
}

-- a box with a bound at which the search cuts ends with the certificate that bounds so
pub closed_end : (m : Parts) (b : List (ℤ × ℤ)) (cut_at : Option ℤ) (c : Cert) (v : Bound) → IsCert (length m.rows) c →
    v ≡ leaf_bound m b c → Closes cut_at v → IsEnd m b cut_at c
closed_end m b cut_at c v ok bound closes = record { cert = ok; closed = subst (Closes cut_at) bound closes }

-- so does one with the certificate without multipliers
pub plain_end : (m : Parts) (b : List (ℤ × ℤ)) (cut_at : Option ℤ) (c : Cert) (v : Bound) → c ≡ plain_cert →
    v ≡ leaf_bound m b c → Closes cut_at v → IsEnd m b cut_at c
plain_end m b cut_at c v is bound closes =
    closed_end m b cut_at c v (subst (IsCert (length m.rows)) (sym is) (plain_cert_ok (length m.rows)))
    bound closes

-- an infinite bound closes wherever the search cuts
pub infinite_closes : (cut_at : Option ℤ) (v : Bound) → v ≡ Infinite → Closes cut_at v
infinite_closes None v is = is
infinite_closes (Some w) v is = subst (λ (u : Bound). IsAtLeast u w) (sym is) tt

-- where the search cuts at the greater of two bounds and not at the first, it cuts at the second
pub greater_closes : (cut_at : Option ℤ) (u : ℤ) (v : Bound) → IsBelow (At u) cut_at → Closes cut_at (greater (At u) v) → Closes cut_at v
greater_closes None u Infinite below closes = refl
greater_closes None u (At v) below closes = absurd cc
greater_closes (Some w) u Infinite below closes = tt
greater_closes (Some w) u (At v) below closes = omega (arith, ints, clamps)

-- the one point of a box ends it, where it is feasible
pub point_end : (m : Parts) (b : List (ℤ × ℤ)) (p : List ℤ) (w : ℤ) (cut_at : Option ℤ) (c : Cert) → IsSingle b → IsOpen b → p ≡ lowest b
    → IsFeasible m p → cost m p ≡ w → IsBelow (At (box_sum m b)) cut_at → c ≡ plain_cert → IsWholeEnd m b cut_at p w c
point_end m b p w cut_at c single open' is feasible price below plain =
    let sum : box_sum m b ≡ w = point_sum b single open' m ∙ sym (ap (cost m) is) ∙ price in
    record {
      feasible = feasible;
      price = price;
      better = subst (λ (z : ℤ). IsBelow (At z) cut_at) sum below;
      ends = record {
        cert = subst (IsCert (length m.rows)) (sym plain) (plain_cert_ok (length m.rows));
        closed =
            let least : IsAtLeast (At (box_sum m b)) w = omega (arith, ints) in
            subst (λ (v : Bound). IsAtLeast v w) (sym (ap (leaf_bound m b) plain ∙ plain_bound m b (open_sides b open'))) least;
      };
    }
