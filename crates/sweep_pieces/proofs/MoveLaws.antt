-- Pieces moved out of solves: what is left for later runs.
use Rattle.std.specs.Prelude.{◌≡◌, ℕ, zero, suc, ◌+◌, ◌^◌, ◌<◌, ◌≤◌, List, [], ◌∷◌, ◌++◌, length, Option, Some, None, slice_get}
use Rattle.std.specs.Prelude.{slice_set, take, ℤ}
use Rattle.std.proofs.Common.{arith, refl, ap, sym, ◌∙◌, subst, get_or}
use Rattle.std.proofs.lemmas.List.{take_more}
use Rattle.std.proofs.lemmas.Option.{get_or_from_slice_get, slice_get-get_or, slice_get_within}
use Rattle.branching.specs.Outcomes.{Pairwise}
use Rattle.ip_defs.specs.Lists.{Each}
use Rattle.ip_defs.specs.declared.programs.Parts.{Parts}
use Rattle.ip_model.specs.Places.{changed_at}
use Rattle.ip_model.proofs.ChangeLaws.{changed_is_set}
use Rattle.ip_model.specs.declared.places.Place.{Place}
use Rattle.sweep_pieces.proofs.RunLaws.{next_added}
use Rattle.sweep_pieces.specs.Internal.Moves.{AreLeft, HasShortStep, after_taking, without_claim, without_tree}
use Rattle.sweep_pieces.specs.Pieces.{IsPieceOf, claim_in, tree_in}
use Rattle.sweep_pieces.specs.Runs.{AreRuns, IsRunAfter, IsSolve, next_after, step_at, step_in, value_after, value_at}
use Rattle.sweep_pieces.specs.declared.runs.Run.{Run}
use Rattle.sweep_proof.specs.declared.row_sweeps.RowPiece.{RowPiece}
use Rattle.sweep_solves.specs.declared.made_solves.Made.{Made}

-- ---- one solve

pub short_within : (xs : List Made) (k : ℕ) → HasShortStep (slice_get xs k) → k < length xs
short_within [] k h = absurd h
short_within (x ∷ xs) zero h = omega arith
short_within (x ∷ xs) (suc k) h = let l = short_within xs k h in omega arith

pub set_is_changed : (f : Made → Made) (xs : List Made) (k : ℕ) (y d : Made) → k < length xs → y ≡ f (get_or xs k d)
    → slice_set xs k y ≡ changed_at f k xs
set_is_changed f xs k y d l e =
    ap (slice_set xs k) e ∙ sym (changed_is_set f xs k (get_or xs k d) (slice_get-get_or xs k d l))

changed_other : (f : Made → Made) (xs : List Made) (k j : ℕ) → (j ≡ k → ⊥) → slice_get (changed_at f k xs) j ≡ slice_get xs j
changed_other f [] k j other = refl
changed_other f (x ∷ xs) zero zero other = absurd (other refl)
changed_other f (x ∷ xs) zero (suc j) other = refl
changed_other f (x ∷ xs) (suc k) zero other = refl
changed_other f (x ∷ xs) (suc k) (suc j) other = changed_other f xs k j (λ e. other (ap (λ (n : ℕ). suc n) e))

-- ---- one run of many

pub run_in : (m : Parts) (ms : List Made) (next : ℕ) (before : Option (Option ℤ)) (rs : List Run) (i : ℕ) (r : Run)
    → AreRuns m ms next before rs → slice_get rs i ≡ Some r
    → IsRunAfter m ms (next_after ms next (take i rs)) (value_after m ms before (take i rs)) r
run_in m ms next before [] i r all at = absurd cc
run_in m ms next before (q ∷ rs) zero r all at = let same : q ≡ r = cc in subst (IsRunAfter m ms next before) same all.0
run_in m ms next before (q ∷ rs) (suc i) r all at =
    run_in m ms (step_at ms q.last + 1) (Some (value_at m ms q.first)) rs i r all.1 at

pub rises : (m : Parts) (ms : List Made) (next : ℕ) (before : Option (Option ℤ)) (rs : List Run) → AreRuns m ms next before rs
    → next ≤ next_after ms next rs
rises m ms next before [] all = omega arith
rises m ms next before (r ∷ rs) all =
    let from = all.0.from in
    let order = all.0.run.order in
    let rest = rises m ms (step_at ms r.last + 1) (Some (value_at m ms r.first)) rs all.1 in
    omega arith

pub ends_before : (m : Parts) (ms : List Made) (next : ℕ) (before : Option (Option ℤ)) (rs : List Run) (i : ℕ) (r : Run)
    → AreRuns m ms next before rs → slice_get rs i ≡ Some r → step_at ms r.last + 1 ≤ next_after ms next rs
ends_before m ms next before [] i r all at = absurd cc
ends_before m ms next before (q ∷ rs) zero r all at =
    let same : q ≡ r = cc in
    subst (λ (p : Run). step_at ms p.last + 1 ≤ next_after ms (step_at ms q.last + 1) rs) same
    (rises m ms (step_at ms q.last + 1) (Some (value_at m ms q.first)) rs all.1)
ends_before m ms next before (q ∷ rs) (suc i) r all at =
    ends_before m ms (step_at ms q.last + 1) (Some (value_at m ms q.first)) rs i r all.1 at

-- ---- what is left

-- a solve within a list is at a short step
short_in : (m : Parts) (d : List (Place × ℤ)) (ms : List Made) (k : ℕ) → Each (IsSolve m d) ms → k < length ms → step_at ms k ≤ 10 ^ 6
    → HasShortStep (slice_get ms k)
short_in m d [] k all l few = absurd (omega arith)
short_in m d (s ∷ ms) zero all l few = record { step = all.0.step; few = few }
short_in m d (s ∷ ms) (suc k) all l few = short_in m d ms k all.1 (omega arith) few

-- a run whose solves are still whole
pub record IsWhole (ms ls : List Made) (r : Run) : Type 0 where
  pub first : slice_get ls r.first ≡ slice_get ms r.first
  pub last : slice_get ls r.last ≡ slice_get ms r.last

pub whole_run : (m : Parts) (ms ls : List Made) (next : ℕ) (before : Option (Option ℤ)) (r : Run) → AreLeft ms next ls
    → IsRunAfter m ms next before r → IsWhole ms ls r
whole_run m ms ls next before r left h =
    let from = h.from in
    let order = h.run.order in
    record { first = left r.first (omega arith); last = left r.last (omega arith) }

pub short_first : (m : Parts) (d : List (Place × ℤ)) (ms ls : List Made) (next : ℕ) (before : Option (Option ℤ)) (r : Run)
    → Each (IsSolve m d) ms → IsWhole ms ls r → IsRunAfter m ms next before r → step_at ms r.last + 1 ≤ 10 ^ 6 + 1
    → HasShortStep (slice_get ls r.first)
short_first m d ms ls next before r solves whole h few =
    let order = h.run.order in
    subst HasShortStep (sym whole.first) (short_in m d ms r.first solves h.run.start (omega arith))

pub short_last : (m : Parts) (d : List (Place × ℤ)) (ms ls : List Made) (next : ℕ) (before : Option (Option ℤ)) (r : Run)
    → Each (IsSolve m d) ms → IsWhole ms ls r → IsRunAfter m ms next before r → step_at ms r.last + 1 ≤ 10 ^ 6 + 1
    → HasShortStep (slice_get ls r.last)
short_last m d ms ls next before r solves whole h few =
    subst HasShortStep (sym whole.last) (short_in m d ms r.last solves h.run.end (omega arith))

-- its piece is that of the solves as they were
pub whole_piece : (ms ls : List Made) (r : Run) (p : RowPiece) → IsWhole ms ls r → IsPieceOf ls r p → IsPieceOf ms r p
whole_piece ms ls r p whole h = record {
  from = h.from ∙ ap step_in whole.first;
  to = h.to ∙ ap step_in whole.last;
  claim = ap claim_in (sym whole.first) ∙ h.claim;
  tree = ap tree_in (sym whole.last) ∙ h.tree;
}

-- and the later solves are left
pub left_after : (m : Parts) (ms ls : List Made) (next : ℕ) (before : Option (Option ℤ)) (r : Run) → AreLeft ms next ls
    → IsRunAfter m ms next before r → AreLeft ms (step_at ms r.last + 1) (after_taking r ls)
left_after m ms ls next before r left h k later =
    let from = h.from in
    let order = h.run.order in
    let not_last : k ≡ r.last → ⊥ = λ e. absurd (let same = ap (step_at ms) e in omega arith) in
    let not_first : k ≡ r.first → ⊥ = λ e. absurd (let same = ap (step_at ms) e in omega arith) in
    changed_other without_tree (changed_at without_claim r.first ls) r.last k not_last
    ∙ changed_other without_claim ls r.first k not_first ∙ left k (omega arith)

-- ---- one turn of the loop

-- run i, whose piece is taken next
pub record IsTurn (ms ls : List Made) (rs : List Run) (i : ℕ) (r : Run) : Type 0 where
  pub whole : IsWhole ms ls r
  pub start : HasShortStep (slice_get ls r.first)
  pub end : HasShortStep (slice_get ls r.last)
  pub later : AreLeft ms (next_after ms 0 (take (i + 1) rs)) (after_taking r ls)

pub turn : (m : Parts) (d : List (Place × ℤ)) (ms ls : List Made) (rs : List Run) (i : ℕ) (r : Run) → Each (IsSolve m d) ms
    → AreRuns m ms 0 None rs → next_after ms 0 rs ≤ 10 ^ 6 + 1 → AreLeft ms (next_after ms 0 (take i rs)) ls → slice_get rs i ≡ Some r
    → IsTurn ms ls rs i r
turn m d ms ls rs i r solves all few left at =
    let next = next_after ms 0 (take i rs) in
    let before = value_after m ms None (take i rs) in
    let own = run_in m ms 0 None rs i r all at in
    let whole = whole_run m ms ls next before r left own in
    let ends = ends_before m ms 0 None rs i r all at in
    let more : take (i + 1) rs ≡ take i rs ++ r ∷ [] = take_more rs i r (slice_get_within rs i r at)
    ∙ ap (λ (q : Run). take i rs ++ q ∷ []) (get_or_from_slice_get rs i r r at) in
    let reach : next_after ms 0 (take (i + 1) rs) ≡ step_at ms r.last + 1 = ap (next_after ms 0) more ∙ next_added ms 0 (take i rs) r in
    record {
      whole = whole;
      start = short_first m d ms ls next before r solves whole own (omega arith);
      end = short_last m d ms ls next before r solves whole own (omega arith);
      later = subst (λ (n : ℕ). AreLeft ms n (after_taking r ls)) (sym reach) (left_after m ms ls next before r left own);
    }

-- pieces for runs, and one more
pub pairs_more : (ms : List Made) (rs : List Run) (ps : List RowPiece) (i : ℕ) (d : Run) (p : RowPiece) → i < length rs
    → Pairwise (IsPieceOf ms) (take i rs) ps → IsPieceOf ms (get_or rs i d) p → Pairwise (IsPieceOf ms) (take (i + 1) rs) (ps ++ p ∷ [])
pairs_more ms rs ps i d p l all one =
    subst (λ (qs : List Run). Pairwise (IsPieceOf ms) qs (ps ++ p ∷ [])) (sym (take_more rs i d l))
    (pairs_added (take i rs) ps (get_or rs i d) p all one)
  where
    pairs_added : (qs : List Run) (ps : List RowPiece) (q : Run) (p : RowPiece) → Pairwise (IsPieceOf ms) qs ps → IsPieceOf ms q p
        → Pairwise (IsPieceOf ms) (qs ++ q ∷ []) (ps ++ p ∷ [])
    pairs_added [] [] q p all one = (one, tt)
    pairs_added [] (y ∷ ys) q p all one = absurd all
    pairs_added (x ∷ xs) [] q p all one = absurd all
    pairs_added (x ∷ xs) (y ∷ ys) q p all one = (all.0, pairs_added xs ys q p all.1 one)
