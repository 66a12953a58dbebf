-- Lines of a text, taken one by one.
use Rattle.std.specs.Prelude.{◌≡◌, ℕ, suc, ◌+◌, ◌<◌, ◌≤◌, true, false, cond, not, Option, None, Some, option_map, List, []}
use Rattle.std.specs.Prelude.{◌∷◌, ◌++◌, length, map, take, drop, Result, Ok, Err, refl}
use Rattle.std.specs.List.{cons_option, before_first, position_or_len}
use Rattle.std.proofs.Common.{arith, ap, sym, subst, ◌∙◌, get_or, Bor, Global, Vec}
use Rattle.std.proofs.lemmas.List.{append_assoc, at_drop_more}
use Rattle.question_text.specs.Lines.{Line, is_end, line_in, line_of, lines_from, read_words, Answers}
use Rattle.question_text.specs.Internal.Taking.{AreNumbered, IsTaken}
use Rattle.question_text.specs.declared.errors.TextError.{TextError}

-- the lines that are read of a first line and others
one_more : (n : ℕ) (x : List ℕ) (xs : List (List ℕ)) → lines_from n (x ∷ xs) ≡ lines_from n (x ∷ []) ++ lines_from (n + 1) xs
one_more n x xs = by (line_in (n, x))
  where
    by : (o : Option Line) → cons_option o (lines_from (n + 1) xs) ≡ cons_option o [] ++ lines_from (n + 1) xs
    by None = refl
    by (Some l) = refl

-- the lines that are read of one more line of a text
pub line_read : {X : Type 0} (view : X → List ℕ) (old new : List Line) (n : ℕ) (items : List X) (i : ℕ) (d : X) → i < length items
    → new ≡ old ++ lines_from n (view (get_or items i d) ∷ [])
    → new ++ lines_from (n + 1) (map view (drop (i + 1) items)) ≡ old ++ lines_from n (map view (drop i items))
line_read view old new n items i d within is =
    let x = view (get_or items i d) in
    let left = map view (drop (i + 1) items) in
    ap (λ ls. ls ++ lines_from (n + 1) left) is
    ∙ append_assoc old (lines_from n (x ∷ [])) (lines_from (n + 1) left)
    ∙ ap (λ ls. old ++ ls) (sym (one_more n x left))
    ∙ sym (at_drop_more (λ xs. old ++ lines_from n (map view xs)) items i d within)

-- a line that is read, of its number and its words
abbrev pub read_line : ℕ × Vec (Bor (List ℕ)) Global → Line
read_line p = line_of p.0 (map (λ w. w.now) p.1.items)

-- the same number and words are the same line
pub same_line : {A D : Type 0} (wanted : D → List Line → Result A TextError) (old same new : D) (ws : List (Bor (List ℕ)))
    (item at : ℕ × Vec (Bor (List ℕ)) Global) (r : Result (Unit {0}) TextError) → same ≡ old → ws ≡ item.1.items → item ≡ at
    → IsTaken wanted same new (line_of item.0 (map (λ w. w.now) ws) ∷ []) r → IsTaken wanted old new (read_line at ∷ []) r
same_line wanted old same new ws item at r is are at_is h =
    subst (λ p. IsTaken wanted old new (read_line p ∷ []) r) at_is
    (subst (λ vs. IsTaken wanted old new (line_of item.0 (map (λ w. w.now) vs) ∷ []) r) are
    (subst (λ d. IsTaken wanted d new (line_of item.0 (map (λ w. w.now) ws) ∷ []) r) is h))

-- a line is taken
pub next_taken : {X A D : Type 0} (wanted : D → List Line → Result A TextError) (view : X → Line) (old new : D) (items : List X)
    (i : ℕ) (d : X) → i < length items → IsTaken wanted old new (view (get_or items i d) ∷ []) (Ok tt)
    → wanted old (map view (drop i items)) ≡ wanted new (map view (drop (i + 1) items))
next_taken wanted view old new items i d within h =
    at_drop_more (λ xs. wanted old (map view xs)) items i d within ∙ h (map view (drop (i + 1) items))

-- or it has the first fault
pub next_refused : {X A D : Type 0} (wanted : D → List Line → Result A TextError) (view : X → Line) (old new : D) (items : List X)
    (i : ℕ) (d : X) (e : TextError) → i < length items → IsTaken wanted old new (view (get_or items i d) ∷ []) (Err e)
    → Answers (wanted old (map view (drop i items))) (Err e)
next_refused wanted view old new items i d e within h =
    subst (λ r. Answers r (Err e)) (sym (at_drop_more (λ xs. wanted old (map view xs)) items i d within))
    (h (map view (drop (i + 1) items)))

-- ---- the numbers of lines

numbered_from : (m n : ℕ) (ls : List Line) → m ≤ n → AreNumbered n ls → AreNumbered m ls
numbered_from m n [] le h = tt
numbered_from m n (l ∷ ls) le h = (omega (arith, le, h.0), h.1)

pub lines_numbered : (n : ℕ) (texts : List (List ℕ)) → AreNumbered n (lines_from n texts)
lines_numbered n [] = tt
lines_numbered n (x ∷ xs) = by (read_words x) (lines_numbered (n + 1) xs)
  where
    by : (o : Option (List (List ℕ))) → AreNumbered (n + 1) (lines_from (n + 1) xs)
        → AreNumbered n (cons_option (option_map (line_of n) o) (lines_from (n + 1) xs))
    by None h = numbered_from n (n + 1) (lines_from (n + 1) xs) (omega arith) h
    by (Some ws) h = (omega arith, h)

-- the lines before the end
pub before_end : (l : Line) (ls : List Line) → is_end l ≡ true → before_first is_end (l ∷ ls) ≡ []
before_end l ls h = ap (λ t. take (cond (not t) (1 + position_or_len is_end ls) 0) (l ∷ ls)) h

pub before_others : (l : Line) (ls : List Line) → is_end l ≡ false → before_first is_end (l ∷ ls) ≡ l ∷ before_first is_end ls
before_others l ls h =
    ap (λ t. take (cond (not t) (1 + position_or_len is_end ls) 0) (l ∷ ls)) h
    ∙ ap (λ n. take n (l ∷ ls)) (more (position_or_len is_end ls))
  where
    more : (n : ℕ) → 1 + n ≡ suc n
    more n = omega arith
