-- Each entry that is kept is the one that is found at its place.
use Rattle.std.specs.Prelude.{◌≡◌, ℕ, ◌≤◌, Bool, true, false, ◌&&◌, ◌||◌, cond, List, [], ◌∷◌, ◌++◌, filter, find, Some, bytes_eq, codes}
use Rattle.std.specs.List.{list_any}
use Rattle.std.proofs.Common.{refl, ap, sym, ◌∙◌, subst}
use Rattle.std.proofs.lemmas.Slice.Eq.{bytes_eq-Decides}
use Rattle.ip_defs.specs.Lists.{Each}
use Rattle.mps_defs.specs.Numbers.{decimals_of}
use Rattle.mps_defs.specs.Records.{Line, Entry, is_columns, is_kept, all_entries, kept_entries}
use Rattle.mps_defs.specs.Faults.{same_place}
use Rattle.text_laws.proofs.EachLaws.{EachAfter}
use Rattle.text_laws.proofs.SoundLaws.{IsSound, is_late}
use Rattle.text_laws.proofs.KeptReadLaws.{IsNewKept, HasPairs, entries_new}
use Rattle.ip_defs.proofs.BoolLaws.{both_true, left_false, right_false}
use Rattle.ip_defs.proofs.TextLaws.{text_turned, text_self}
use Rattle.ip_defs.proofs.ListLaws.{each_append, filter-append}
use Rattle.std.proofs.lemmas.List.{append-nil, append_assoc}
use Rattle.mps_defs.proofs.ListLaws.{none_of_fewer}
use Rattle.mps_defs.proofs.EntryLaws.{kept_in_set, one_set}
use Rattle.mps_defs.specs.TextModels.{number_or_zero}

-- new among what is kept, and kept
pub record IsOnly (word : List ℕ) (all : List Line) (before : List Entry) (e : Entry) : Type 0 where
  pub once : list_any (same_place e) before ≡ false
  pub few : decimals_of (number_or_zero e.text) ≤ 9
  pub kept : is_kept word all e ≡ true

kept_only : (word : List ℕ) (all : List Line) (seen es : List Entry) → EachAfter (IsNewKept word all) seen es
    → EachAfter (IsOnly word all) (filter (is_kept word all) seen) (filter (is_kept word all) es)
kept_only word all seen [] h = tt
kept_only word all seen (e ∷ es) h = by (is_kept word all e) refl (kept_only word all (seen ++ e ∷ []) es h.1)
  where
    keeps : Entry → Bool
    keeps = is_kept word all

    grown : filter keeps (seen ++ e ∷ []) ≡ filter keeps seen ++ cond (keeps e) (e ∷ []) []
    grown = filter-append keeps seen (e ∷ [])

    by : (t : Bool) → keeps e ≡ t → EachAfter (IsOnly word all) (filter keeps (seen ++ e ∷ [])) (filter keeps es)
        → EachAfter (IsOnly word all) (filter keeps seen) (cond t (e ∷ filter keeps es) (filter keeps es))
    by true f rest =
        let new = h.0 f in (
          record { once = none_of_fewer (same_place e) keeps seen new.once; few = new.few; kept = f },
          subst (λ s. EachAfter (IsOnly word all) s (filter keeps es)) (grown ∙ ap (λ t. filter keeps seen ++ cond t (e ∷ []) []) f) rest,
        )
    by false f rest =
        subst (λ s. EachAfter (IsOnly word all) s (filter keeps es))
        (grown ∙ ap (λ t. filter keeps seen ++ cond t (e ∷ []) []) f ∙ append-nil (filter keeps seen)) rest

-- the kept entries of a section
pub only_kept : (word : List ℕ) (ls : List Line) → HasPairs word → is_late word ≡ true → IsSound [] [] ls
    → EachAfter (IsOnly word ls) [] (kept_entries word ls)
only_kept word ls has late sound = kept_only word ls [] (all_entries word ls) (entries_new word [] [] ls ls has late sound refl)

-- ---- what is found

-- the entry that is found by a test which an entry gives
pub record IsFound (word : List ℕ) (ls : List Line) (test : Entry → Entry → Bool) (e : Entry) : Type 0 where
  pub found : find (test e) (kept_entries word ls) ≡ Some e
  pub few : decimals_of (number_or_zero e.text) ≤ 9
  pub kept : is_kept word ls e ≡ true

find_after : {A : Type 0} (test : A → Bool) (xs : List A) (y : A) (ys : List A) → list_any test xs ≡ false → test y ≡ true
    → find test (xs ++ y ∷ ys) ≡ Some y
find_after test [] y ys none e = ap (λ t. cond t (Some y) (find test ys)) e
find_after test (x ∷ xs) y ys none e =
    ap (λ t. cond t (Some x) (find test (xs ++ y ∷ ys))) (left_false (test x) (list_any test xs) none)
    ∙ find_after test xs y ys (right_false (test x) (list_any test xs) none) e

none_stronger : {A : Type 0} (Q : A → Type 0) (p q : A → Bool) (xs : List A) → ((x : A) → Q x → q x ≡ true → p x ≡ true) → Each Q xs
    → list_any p xs ≡ false → list_any q xs ≡ false
none_stronger Q p q [] h all none = refl
none_stronger {A} Q p q (x ∷ xs) h all none =
    by (q x) refl (none_stronger Q p q xs h all.1 (right_false (p x) (list_any p xs) none))
  where
    by : (t : Bool) → q x ≡ t → list_any q xs ≡ false → (q x || list_any q xs) ≡ false
    by true e rest = absurd (let yes = h x all.0 e in let no = left_false (p x) (list_any p xs) none in cc)
    by false e rest = ap (λ t. t || list_any q xs) e ∙ rest

found_each : (word : List ℕ) (ls : List Line) (test : Entry → Entry → Bool)
    → ((e f : Entry) → is_kept word ls e ≡ true → is_kept word ls f ≡ true → test e f ≡ true → same_place e f ≡ true)
    → ((e : Entry) → test e e ≡ true)
    → (seen es : List Entry) → kept_entries word ls ≡ seen ++ es → Each (λ f. is_kept word ls f ≡ true) seen
    → EachAfter (IsOnly word ls) seen es → Each (IsFound word ls test) es
found_each word ls test alone self seen [] is all h = tt
found_each word ls test alone self seen (e ∷ es) is all h =
    let only = h.0 in (
      record {
        found = ap (find (test e)) is
            ∙ find_after (test e) seen e es
            (none_stronger (λ f. is_kept word ls f ≡ true) (same_place e) (test e) seen (λ f g. alone e f only.kept g) all only.once)
            (self e);
        few = only.few;
        kept = only.kept;
      },
      found_each word ls test alone self (seen ++ e ∷ []) es (is ∙ sym (append_assoc seen (e ∷ []) es))
          (each_append (λ f. is_kept word ls f ≡ true) seen (e ∷ []) all (only.kept, tt)) h.1,
    )

-- by row and column
abbrev pub at_place : Entry → Entry → Bool
at_place e f = bytes_eq f.row e.row && bytes_eq f.owner e.owner

place_alone : (e f : Entry) → at_place e f ≡ true → same_place e f ≡ true
place_alone e f h =
    let parts = both_true (bytes_eq f.row e.row) (bytes_eq f.owner e.owner) h in ap (λ t. t && bytes_eq e.row f.row)
    (text_turned e.owner f.owner ∙ parts.1)
    ∙ text_turned e.row f.row
    ∙ parts.0

place_self : (e : Entry) → at_place e e ≡ true
place_self e = ap (λ t. t && bytes_eq e.owner e.owner) (text_self e.row) ∙ text_self e.owner

pub columns_found : (ls : List Line) → HasPairs (codes "COLUMNS") → IsSound [] [] ls
    → Each (IsFound (codes "COLUMNS") ls at_place) (kept_entries (codes "COLUMNS") ls)
columns_found ls has sound =
    found_each (codes "COLUMNS") ls at_place (λ e f h k t. place_alone e f t) place_self [] (kept_entries (codes "COLUMNS") ls) refl tt
    (only_kept (codes "COLUMNS") ls has refl sound)

-- by row, in the set that is kept
abbrev pub of_row : Entry → Entry → Bool
of_row e f = bytes_eq f.row e.row

pub set_found : (word : List ℕ) (ls : List Line) → HasPairs word → is_late word ≡ true → is_columns word ≡ false → IsSound [] [] ls
    → Each (IsFound word ls of_row) (kept_entries word ls)
set_found word ls has late other sound =
    found_each word ls of_row
    (λ e f h k t.
    let owner : bytes_eq e.owner f.owner ≡ true =
    (bytes_eq-Decides e.owner f.owner).1
    (one_set word ls e.owner f.owner (kept_in_set word ls e other h) (kept_in_set word ls f other k)) in
    ap (λ u. u && bytes_eq e.row f.row) owner ∙ text_turned e.row f.row ∙ t)
    (λ e. text_self e.row) [] (kept_entries word ls) refl tt (only_kept word ls has late sound)
