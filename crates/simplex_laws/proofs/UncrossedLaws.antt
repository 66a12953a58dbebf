-- A node whose columns are not empty and whose rows are not crossed has its sides in order.
use Rattle.std.specs.Prelude.{◌≡◌, ℕ, ◌<◌, Bool, true, false, List, length, Option, Some, None, option_and_then, slice_get, ℤ, ◌≤ℤ◌}
use Rattle.std.specs.Option.{option_map_or}
use Rattle.std.specs.List.{position, list_any}
use Rattle.std.specs.Int.Signed.{lt_z}
use Rattle.std.proofs.Common.{arith, refl, ap, ◌∙◌}
use Rattle.std.proofs.lemmas.Option.{get_or_from_slice_get}
use Rattle.ip_defs.specs.Certificates.{is_empty_side}
use Rattle.ip_defs.specs.Program.{is_crossed}
use Rattle.ip_defs.specs.declared.programs.Row.{Row}
use Rattle.ip_defs.specs.declared.programs.Parts.{Parts}
use Rattle.ip_defs.proofs.BoxLaws.{open_from}
use Rattle.ip_model.specs.Sizes.{first_crossed}
use Rattle.lp_duality.specs.Relaxations.{IsUncrossed}
use Rattle.simplex_laws.proofs.ListPositionLaws.{found}
use Rattle.ip_defs.proofs.OrderLaws.{not_less}

crossed_by : (r : Row) (low high : ℤ) → r.low ≡ Some low → r.high ≡ Some high → is_crossed r ≡ lt_z high low
crossed_by r low high p q = ap (λ o. option_map_or (λ low. option_map_or (λ high. lt_z high low) r.high false) o false) p
    ∙ ap (λ o. option_map_or (λ high. lt_z high low) o false) q

-- a row that is not crossed has its sides in order
row_in_order : (rows : List Row) (k : ℕ) (low high : ℤ) → position is_crossed rows ≡ None → k < length rows →
    option_and_then (λ r. r.low) (slice_get rows k) ≡ Some low → option_and_then (λ r. r.high) (slice_get rows k) ≡ Some high → low ≤ℤ high
row_in_order rows k low high none l p q = by (slice_get rows k) refl p q
  where
    by : (o : Option Row) → slice_get rows k ≡ o → option_and_then (λ r. r.low) o ≡ Some low → option_and_then (λ r. r.high) o ≡ Some high
        → low ≤ℤ high
    by None e p q = absurd cc
    by (Some r) e p q = not_less high low (in_order (lt_z high low) refl)
      where
        in_order : (t : Bool) → lt_z high low ≡ t → lt_z high low ≡ false
        in_order false f = f
        in_order true f = absurd (found is_crossed rows k r l (ap is_crossed (get_or_from_slice_get rows k r r e)
            ∙ crossed_by r low high p q ∙ f) none)

-- a node without an empty column and without a crossed row
pub uncrossed : (m : Parts) (b : List (ℤ × ℤ)) → length b ≡ length m.columns → list_any is_empty_side b ≡ false → first_crossed m ≡ None →
    IsUncrossed m b
uncrossed m b size proper none = record {
  columns = λ j l. open_from b proper j (omega arith);
  rows = λ k low high l p q. row_in_order m.rows k low high none l p q;
}
