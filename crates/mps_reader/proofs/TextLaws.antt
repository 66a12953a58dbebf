-- The lines of a text, taken one by one.
use Rattle.std.specs.Prelude.{◌≡◌, ℕ, ◌+◌, ◌<◌, ◌≤◌, Bool, true, false, List, [], ◌∷◌, ◌++◌, length, map, filter, Some, option_map, ◌&&◌}
use Rattle.std.specs.Prelude.{take, drop, slice_get, if◌then◌else◌, refl, Result, Ok, Err}
use Rattle.std.specs.Option.{option_or}
use Rattle.std.specs.List.{list_any, slice_split, enumerate_from}
use Rattle.std.proofs.Common.{sym, ◌∙◌, ap, subst, arith, get_or}
use Rattle.std.proofs.lemmas.List.{take_more, take-append-drop, length-map, length-take-le, append-nil, append_assoc, map-append}
use Rattle.std.proofs.lemmas.Option.{slice_get_within, slice_get-map, slice_get-get_or, get_or_from_slice_get}
use Rattle.std.proofs.lemmas.List.Folds.{list_any-append}
use Rattle.ip_defs.specs.Lists.{first_of, when}
use Rattle.mps_defs.specs.Lists.{with_earlier, after_those, through_first}
use Rattle.mps_defs.specs.Records.{Line, is_end_line, line_of, without_return, is_line_end, is_read}
use Rattle.mps_defs.specs.Faults.{all_line_faults, faults_after}
use Rattle.mps_defs.specs.declared.reading.MpsError.{MpsError}
use Rattle.mps_defs.specs.declared.reading.MpsError.TheVariants as Out
use Rattle.mps_reader.specs.Internal.Progress.{IsFirstFault, Stands}
use Rattle.mps_reader.specs.Internal.Reading.{lines_by, IsLineTaken}
use Rattle.ip_defs.proofs.BoolLaws.{left_true, right_true}
use Rattle.ip_defs.proofs.ListLaws.{filter-append, enumerate-append}
use Rattle.mps_defs.proofs.ListLaws.{through-append, first_of-append, after_append, one_kept}
use Rattle.std.proofs.lemmas.Bool.{or_from}
use Rattle.mps_defs.proofs.FaultLaws.{faults_append}
use Rattle.mps_reader.specs.declared.draft.Draft.{Draft}

-- the lines that are read of the lines of a text, from a number on
abbrev pub read_from : ℕ → List (List ℕ) → List (ℕ × List ℕ)
read_from n xs = filter is_read (enumerate_from n (map without_return xs))

pub read_append : (n : ℕ) (xs ys : List (List ℕ)) → read_from n (xs ++ ys) ≡ read_from n xs ++ read_from (n + length xs) ys
read_append n xs ys =
    ap (λ k. filter is_read (enumerate_from n k)) (map-append without_return xs ys)
    ∙ ap (filter is_read) (enumerate-append n (map without_return xs) (map without_return ys))
    ∙ filter-append is_read (enumerate_from n (map without_return xs))
    (enumerate_from (n + length (map without_return xs)) (map without_return ys))
    ∙ ap (λ k. read_from n xs ++ filter is_read (enumerate_from (n + k) (map without_return ys))) (length-map xs without_return)

pub read_one : (n : ℕ) (x : List ℕ) → read_from n (x ∷ []) ≡ when (is_read (n, without_return x)) (n, without_return x)
read_one n x = one_kept (is_read (n, without_return x)) (n, without_return x)

-- ---- up to the ENDATA line

through_none : {A : Type 0} (test : A → Bool) (xs : List A) → list_any test xs ≡ false → through_first test xs ≡ xs
through_none test xs none = ap (through_first test) (sym (append-nil xs)) ∙ through-append test xs [] none ∙ append-nil xs

-- what comes after an element, or nothing where it is the last one
through_next : {A : Type 0} (test : A → Bool) (x : A) (xs : List A) → (ys : List A) × (through_first test (x ∷ xs) ≡ x ∷ ys)
through_next {A} test x xs = by (test x) refl
  where
    by : (t : Bool) → test x ≡ t → (ys : List A) × (through_first test (x ∷ xs) ≡ x ∷ ys)
    by true e = ([], ap (λ t. if t then x ∷ [] else x ∷ through_first test xs) e)
    by false e = (through_first test xs, ap (λ t. if t then x ∷ [] else x ∷ through_first test xs) e)

-- ---- the first fault of lines is that of those before

lines_append : (ps qs : List (ℕ × List ℕ)) → lines_by (ps ++ qs) ≡ lines_by ps ++ map line_of (after_those ps qs)
lines_append ps qs = ap (map line_of) (after_append [] ps qs) ∙ map-append line_of (with_earlier ps) (after_those ps qs)

-- a first fault stays, whatever lines follow
fault_stays : (ps qs : List (ℕ × List ℕ)) (e : MpsError) → first_of (all_line_faults (lines_by ps)) ≡ Some e
    → first_of (all_line_faults (lines_by (ps ++ qs))) ≡ Some e
fault_stays ps qs e h =
    let later = faults_after (lines_by ps) (map line_of (after_those ps qs)) in
    ap (λ ls. first_of (all_line_faults ls)) (lines_append ps qs)
    ∙ ap first_of (faults_append [] (lines_by ps) (map line_of (after_those ps qs)))
    ∙ first_of-append (all_line_faults (lines_by ps)) later
    ∙ ap (λ o. option_or o (first_of later)) h

refusal_stays : (ps qs : List (ℕ × List ℕ)) (e : MpsError) → IsFirstFault (all_line_faults (lines_by ps)) e
    → IsFirstFault (all_line_faults (lines_by (ps ++ qs))) e
refusal_stays ps qs Out.Memory h = tt
refusal_stays ps qs e h = fault_stays ps qs e h

-- ---- the lines of a text so far

-- one more line
pub one_more : (xs : List (List ℕ)) (i : ℕ) (x : List ℕ) → slice_get xs i ≡ Some x
    → read_from 1 (take (i + 1) xs) ≡ read_from 1 (take i xs) ++ when (is_read (i + 1, without_return x)) (i + 1, without_return x)
one_more xs i x at =
    let within = slice_get_within xs i x at in
    ap (read_from 1) (take_more xs i x within ∙ ap (λ y. take i xs ++ y ∷ []) (get_or_from_slice_get xs i x x at))
    ∙ read_append 1 (take i xs) (x ∷ [])
    ∙ ap (λ k. read_from 1 (take i xs) ++ read_from k (x ∷ []))
    (ap (λ n. 1 + n) (length-take-le i xs (omega (arith, within))) ∙ omega arith)
    ∙ ap (λ ps. read_from 1 (take i xs) ++ ps) (read_one (i + 1) x)

-- the lines so far and others are all
pub some_and_others : (xs : List (List ℕ)) (j : ℕ) → (ys : List (ℕ × List ℕ)) × (read_from 1 xs ≡ read_from 1 (take j xs) ++ ys)
some_and_others xs j =
    (read_from (1 + length (take j xs)) (drop j xs), ap (read_from 1) (sym (take-append-drop j xs)) ∙ read_append 1 (take j xs) (drop j xs))

-- lines are read up to the ENDATA line, so far as it did not come
up_to : (done : List (ℕ × List ℕ)) (p : ℕ × List ℕ) (t : Bool) (ys : List (ℕ × List ℕ)) → list_any is_end_line done ≡ false
    → (zs : List (ℕ × List ℕ)) × (through_first is_end_line ((done ++ when t p) ++ ys) ≡ (done ++ when t p) ++ zs)
up_to done p true ys going =
    let next = through_next is_end_line p ys in (
      next.0,
      ap (through_first is_end_line) (append_assoc done (p ∷ []) ys)
          ∙ through-append is_end_line done (p ∷ ys) going
          ∙ ap (λ k. done ++ k) next.1
          ∙ sym (append_assoc done (p ∷ []) next.0),
    )
up_to done p false ys going = (
  through_first is_end_line ys,
  ap (λ k. through_first is_end_line (k ++ ys)) (append-nil done)
      ∙ through-append is_end_line done ys going
      ∙ ap (λ k. k ++ through_first is_end_line ys) (sym (append-nil done)),
)

-- what the lines of a text say
abbrev pub said_by : List (List ℕ) → List Line
said_by xs = lines_by (through_first is_end_line (read_from 1 xs))

-- the ENDATA line is the last one
pub at_end : (xs : List (List ℕ)) (i : ℕ) (x : List ℕ) → slice_get xs i ≡ Some x → list_any is_end_line (read_from 1 (take i xs)) ≡ false
    → (is_read (i + 1, without_return x) && is_end_line (i + 1, without_return x)) ≡ true
    → lines_by (read_from 1 (take i xs) ++ when (is_read (i + 1, without_return x)) (i + 1, without_return x)) ≡ said_by xs
at_end xs i x at going ended =
    let others = some_and_others xs (i + 1) in
    ap lines_by (ap (λ t. done ++ when t p) read
    ∙ sym (ap (λ t. done ++ (if t then p ∷ [] else p ∷ through_first is_end_line others.0)) ends)
    ∙ sym (through-append is_end_line done (p ∷ others.0) going)
    ∙ ap (through_first is_end_line) (sym (append_assoc done (p ∷ []) others.0)
    ∙ sym (ap (λ k. k ++ others.0) (one_more xs i x at ∙ ap (λ t. done ++ when t p) read))
    ∙ sym others.1))
  where
    p : ℕ × List ℕ
    p = (i + 1, without_return x)

    done : List (ℕ × List ℕ)
    done = read_from 1 (take i xs)

    read : is_read p ≡ true
    read = left_true (is_read p) (is_end_line p) ended

    ends : is_end_line p ≡ true
    ends = right_true (is_read p) (is_end_line p) ended

-- without one all lines are read
pub all_read : (xs : List (List ℕ)) → list_any is_end_line (read_from 1 xs) ≡ false → lines_by (read_from 1 xs) ≡ said_by xs
all_read xs going = ap lines_by (sym (through_none is_end_line (read_from 1 xs) going))

-- the fault of a line is the first one of the text
pub refused_at : (xs : List (List ℕ)) (i : ℕ) (x : List ℕ) (e : MpsError) → slice_get xs i ≡ Some x
    → list_any is_end_line (read_from 1 (take i xs)) ≡ false
    → IsFirstFault
    (all_line_faults (lines_by (read_from 1 (take i xs) ++ when (is_read (i + 1, without_return x)) (i + 1, without_return x)))) e
    → IsFirstFault (all_line_faults (said_by xs)) e
refused_at xs i x e at going fault =
    subst (λ ps. IsFirstFault (all_line_faults (lines_by ps)) e)
    (sym rest.1 ∙ ap (through_first is_end_line) (sym (others.1 ∙ ap (λ k. k ++ others.0) (one_more xs i x at))))
    (refusal_stays (done ++ when (is_read p) p) rest.0 e fault)
  where
    p : ℕ × List ℕ
    p = (i + 1, without_return x)

    done : List (ℕ × List ℕ)
    done = read_from 1 (take i xs)

    others : (ys : List (ℕ × List ℕ)) × (read_from 1 xs ≡ read_from 1 (take (i + 1) xs) ++ ys)
    others = some_and_others xs (i + 1)

    rest : (zs : List (ℕ × List ℕ)) ×
        (through_first is_end_line ((done ++ when (is_read p) p) ++ others.0) ≡ (done ++ when (is_read p) p) ++ zs)
    rest = up_to done p (is_read p) others.0 going

-- it goes on where the line is not the ENDATA line
pub goes_on : (done : List (ℕ × List ℕ)) (p : ℕ × List ℕ) → list_any is_end_line done ≡ false → (is_read p && is_end_line p) ≡ false
    → list_any is_end_line (done ++ when (is_read p) p) ≡ false
goes_on done p going here =
    list_any-append is_end_line done (when (is_read p) p)
    ∙ or_from (list_any is_end_line done) (list_any is_end_line (when (is_read p) p)) going (by (is_read p) here)
  where
    by : (t : Bool) → (t && is_end_line p) ≡ false → list_any is_end_line (when t p) ≡ false
    by true e = or_from (is_end_line p) false e refl
    by false e = refl

-- ---- what taking the next line says of the text

-- the answer on the next line, by the number of the lines before it
abbrev NextTaken : List (List ℕ) → ℕ → ℕ → List ℕ → Draft → Result Bool MpsError → Type 0
NextTaken xs i n x new r =
    (slice_get xs i ≡ Some x) × (n ≡ i) × (list_any is_end_line (read_from 1 (take i xs)) ≡ false)
    × IsLineTaken (read_from 1 (take i xs)) (n + 1, without_return x) new r

-- places in a list that a function is applied to
item_at : {A B : Type 0} (f : A → B) (xs : List A) (i : ℕ) (d : A) → i < length xs → slice_get (map f xs) i ≡ Some (f (get_or xs i d))
item_at f xs i d within = slice_get-map f xs i ∙ ap (option_map f) (slice_get-get_or xs i d within)

pub next_taken : {A : Type 0} (f : A → List ℕ) (items : List A) (i n : ℕ) (d : A) (draft new : Draft) (r : Result Bool MpsError)
    → i < length items
    → (n ≡ i) × (list_any is_end_line (read_from 1 (take i (map f items))) ≡ false)
    × Stands (lines_by (read_from 1 (take i (map f items)))) draft
    → ((done : List (ℕ × List ℕ)) → Stands (lines_by done) draft → list_any is_end_line done ≡ false
    → IsLineTaken done (n + 1, without_return (f (get_or items i d))) new r)
    → NextTaken (map f items) i n (f (get_or items i d)) new r
next_taken f items i n d draft new r within so_far taken =
    (item_at f items i d within, so_far.0, so_far.1, taken (read_from 1 (take i (map f items))) so_far.2 so_far.1)

pub next_ended : (xs : List (List ℕ)) (i n : ℕ) (x : List ℕ) (new : Draft) (r : Result Bool MpsError) (ended : Bool)
    → NextTaken xs i n x new r
    → r ≡ Ok ended → ended ≡ true → Stands (said_by xs) new
next_ended xs i n x new r ended next is over =
    let here : IsLineTaken (read_from 1 (take i xs)) (i + 1, without_return x) new (Ok ended) =
    subst (λ k. IsLineTaken (read_from 1 (take i xs)) (k + 1, without_return x) new (Ok ended)) next.1
    (subst (IsLineTaken (read_from 1 (take i xs)) (n + 1, without_return x) new) is next.3) in
    subst (λ ls. Stands ls new) (at_end xs i x next.0 next.2 (sym here.0 ∙ over)) here.1

pub next_refused : (xs : List (List ℕ)) (i n : ℕ) (x : List ℕ) (new : Draft) (r : Result Bool MpsError) (e : MpsError)
    → NextTaken xs i n x new r
    → r ≡ Err e → IsFirstFault (all_line_faults (said_by xs)) e
next_refused xs i n x new r e next is =
    refused_at xs i x e next.0 next.2
    (subst (λ k. IsLineTaken (read_from 1 (take i xs)) (k + 1, without_return x) new (Err e)) next.1
    (subst (IsLineTaken (read_from 1 (take i xs)) (n + 1, without_return x) new) is next.3))

pub next_goes_on : (xs : List (List ℕ)) (i n : ℕ) (x : List ℕ) (new : Draft) (r : Result Bool MpsError) (ended : Bool)
    → NextTaken xs i n x new r
    → r ≡ Ok ended → ended ≡ false
    → (n + 1 ≡ i + 1) × (list_any is_end_line (read_from 1 (take (i + 1) xs)) ≡ false)
    × Stands (lines_by (read_from 1 (take (i + 1) xs))) new
next_goes_on xs i n x new r ended next is on =
    let here : IsLineTaken (read_from 1 (take i xs)) (i + 1, without_return x) new (Ok ended) =
    subst (λ k. IsLineTaken (read_from 1 (take i xs)) (k + 1, without_return x) new (Ok ended)) next.1
    (subst (IsLineTaken (read_from 1 (take i xs)) (n + 1, without_return x) new) is next.3) in
    let more = sym (one_more xs i x next.0) in (
      ap (λ k. k + 1) next.1,
      subst (λ ps. list_any is_end_line ps ≡ false) more
          (goes_on (read_from 1 (take i xs)) (i + 1, without_return x) next.2 (sym here.0 ∙ on)),
      subst (λ ps. Stands (lines_by ps) new) more here.1,
    )
