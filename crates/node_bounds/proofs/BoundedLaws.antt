-- What a point of a box's relaxation and a certificate that bounds by just its cost say of the box: where a number of the point is not
-- whole the box is split there, else the point closes the box.
use Rattle.std.specs.Prelude.{◌≡◌, ℕ, zero, suc, ◌<◌, List, length, Option, Some, None, option_map, ℤ, pos, negsuc, ◌+ℤ◌, ◌*ℤ◌, ◌<ℤ◌}
use Rattle.std.proofs.Common.{arith, ap, sym, ◌∙◌, subst}
use Rattle.std.proofs.lemmas.Int.{ints}
use Rattle.ip_defs.specs.declared.certificates.Bound.{Bound}
use Rattle.ip_defs.specs.declared.certificates.Bound.TheVariants.{At}
use Rattle.ip_defs.specs.declared.certificates.Cert.{Cert}
use Rattle.ip_defs.specs.declared.programs.Parts.{Parts}
use Rattle.ip_defs.specs.Boxes.{IsOpen}
use Rattle.ip_defs.specs.Certificates.{box_sum, bound_by, dual_value, leaf_bound}
use Rattle.ip_defs.specs.Program.{at, cost, low_at, high_at, IsFeasible}
use Rattle.ip_defs.proofs.BoxLaws.{below_open, above_open}
use Rattle.frac128.specs.Fractions.{Fraction}
use Rattle.frac128.specs.Rationals.{of, mul, AtMost}
use Rattle.frac128.proofs.Rationals.{of_mul}
use Rattle.lp_duality.specs.Relaxations.{numbers_of}
use Rattle.lp_duality.proofs.CeilingLaws.{ceiling_same}
use Rattle.proof_tree.specs.Verdicts.{IsAtLeast}
use Rattle.node_bounds.specs.declared.reasons.Why.TheVariants.{Fractional}
use Rattle.node_bounds.specs.Internal.Relaxed.{IsBounded, IsSmallNumber, IsWholeNumber}
use Rattle.node_bounds.specs.Areas.{IsSearchArea}
use Rattle.node_bounds.specs.Cuts.{IsBelow}
use Rattle.node_bounds.specs.Nodes.{IsSplit, IsWholeEnd}
use Rattle.node_bounds.proofs.LeafLaws.{ceiling_one, open_bound}
use Rattle.node_bounds.proofs.PointLaws.{whole_feasible}
use Rattle.lp_duality.proofs.PointLaws.{whole_cost}
use Rattle.node_bounds.proofs.WholeLaws.{below_next, floor_below, floor_from, floor_to, of_injective, small_between, small_floor}

-- the dual value q times w bounds by w
bound_whole : (q other w : ℤ) (o : Option ℤ) → pos 0 <ℤ q → option_map of o ≡ Some (mul (of q) (of w)) → bound_by q other o ≡ At w
bound_whole (pos zero) other w o p e = absurd (omega (arith, ints))
bound_whole (negsuc n) other w o p e = absurd (omega (arith, ints))
bound_whole (pos (suc n)) other w None p e = absurd cc
bound_whole (pos (suc n)) other w (Some g) p e =
    let is : of g ≡ mul (of (pos (suc n))) (of w) = cc in
    let product : g ≡ pos (suc n) *ℤ w = of_injective g (pos (suc n) *ℤ w) (is ∙ sym (of_mul (pos (suc n)) w)) in
    ap At (ceiling_same g n w 0 (omega (arith, ints)) ∙ ceiling_one w)

module _ (m : Parts) (b : List (ℤ × ℤ)) (xs : List Fraction) (c : Cert) (h : IsBounded m b xs c) (within : IsSearchArea m b) where
  -- the numbers lie in the box, whose sides are small
  pub number_small : (j : ℕ) → j < length xs → IsSmallNumber (numbers_of xs j)
  number_small j l =
      let l' : j < length m.columns = omega (arith, l, h.size) in
      small_between (numbers_of xs j) (low_at b j) (high_at b j) (within.area.low j l') (within.area.high j l') (h.relaxed.low j l')
      (h.relaxed.high j l')

  -- ---- a number that is not whole
  pub fraction_splits : (pivots : ℕ) (col : ℕ) (cut : ℤ) → IsOpen b → col < length xs
      → (IsWholeNumber (numbers_of xs col) → ⊥) → AtMost (of cut) (numbers_of xs col) → AtMost (numbers_of xs col) (of (cut +ℤ pos 1))
      → IsSplit m pivots b col cut (Fractional xs c)
  fraction_splits pivots col cut open' l broken least most =
      let l' : col < length m.columns = omega (arith, l, h.size) in
      let inside : col < length b = omega (arith, l', within.area.size) in
      let p = numbers_of xs col in
      let from = floor_from p cut least most broken (low_at b col) (h.relaxed.low col l') in
      let to' = floor_to p cut least most broken (high_at b col) (h.relaxed.high col l') in
      record {
        reasoned = (
          record { col = inside; left = below_open b col cut inside from to' open'; right = above_open b col cut inside from to' open' },
          record {
            size = h.size;
            relaxed = h.relaxed;
            certificate = h.certificate;
            positive = h.positive;
            dual = h.dual;
            more_than_cut = floor_below p cut least most broken;
            less_than_next = below_next p cut least most broken;
          },
        );
        column = l';
        cut_small = small_floor p cut least most broken (number_small col l);
      }

  -- ---- a whole point
  module _ (x : List ℤ) (size : length x ≡ length xs) (same : (j : ℕ) → j < length xs → numbers_of xs j ≡ of (at x j)) where
    column_same : (j : ℕ) → j < length m.columns → numbers_of xs j ≡ of (at x j)
    column_same j l = same j (omega (arith, l, h.size))

    pub point_feasible : IsFeasible m x
    point_feasible = whole_feasible m (numbers_of xs) x (size ∙ h.size) column_same b h.relaxed within

    -- the certificate bounds by what it costs
    point_bound : IsOpen b → leaf_bound m b c ≡ At (cost m x)
    point_bound open' =
        let costs = whole_cost m (numbers_of xs) x (size ∙ h.size) column_same in
        open_bound m b c open' ∙ bound_whole c.q (box_sum m b) (cost m x) (dual_value m b c.q c.y) h.positive
        (h.dual ∙ ap (λ w. Some (mul (of c.q) w)) costs)

    -- so the point ends its box, where the search does not cut at the bound
    pub point_ends : (cut_at : Option ℤ) (v : Bound) (w : ℤ) → IsOpen b → v ≡ leaf_bound m b c → IsBelow v cut_at → cost m x ≡ w
        → IsWholeEnd m b cut_at x w c
    point_ends cut_at v w open' bound below is = record {
      feasible = point_feasible;
      price = is;
      better = subst (λ (u : Bound). IsBelow u cut_at) (bound ∙ point_bound open' ∙ ap At is) below;
      ends = record {
        cert = h.certificate;
        closed = let least : IsAtLeast (At (cost m x)) w = omega (arith, ints) in
            subst (λ (v : Bound). IsAtLeast v w) (sym (point_bound open')) least;
      };
    }
