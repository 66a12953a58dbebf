-- A printable program that was read of a text without a fault is canonical, so that its canonical text is read as the same program.
use Rattle.std.specs.Prelude.{◌≡◌, ℕ, ◌≤◌, Bool, true, false, ◌&&◌, not, cond, if◌then◌else◌, List, [], ◌∷◌, ◌++◌, map, filter, flat_map}
use Rattle.std.specs.Prelude.{find, Option, None, Some, option_map, unwrap_or, bytes_eq, codes}
use Rattle.std.specs.Option.{is_none}
use Rattle.std.specs.Str.{is_utf8}
use Rattle.std.proofs.Common.{refl, ap, sym, ◌∙◌, subst}
use Rattle.std.proofs.lemmas.Str.{is_utf8-from_IsUtf8}
use Rattle.ip_defs.specs.Lists.{first_of, when, Each}
use Rattle.mps_defs.specs.Lists.{with_earlier, AreDistinct}
use Rattle.ip_defs.specs.Limits.{IsRow, IsWithinLimits, limits_of}
use Rattle.mps_defs.specs.Records.{is_new_column, Line, lines_of, row_lines, row_kind, row_name, is_free, objective, column_name}
use Rattle.mps_defs.specs.Records.{column_names, first_lines}
use Rattle.mps_defs.specs.TextModels.{largest, row_decimals, row_from, column_from, model_from}
use Rattle.mps_defs.specs.Faults.{all_line_faults, is_ended, continuous_faults, bound_missing, upper_faults, limit_faults, faults_of_lines}
use Rattle.mps_defs.specs.Faults.{mps_fault, model_of}
use Rattle.ip_defs.specs.declared.programs.Column.{Column}
use Rattle.ip_defs.specs.declared.programs.Row.{Row}
use Rattle.ip_defs.specs.declared.programs.Parts.{Parts}
use Rattle.ip_defs.specs.declared.limits.Limit as Exceeded
use Rattle.mps_defs.specs.declared.reading.How.{How}
use Rattle.mps_defs.specs.declared.reading.MpsError.TheVariants.{NoEnd, NoObjective, NotUtf8, Limit}
use Rattle.ip_model.proofs.LimitLaws.{within_limits}
use Rattle.text_laws.specs.ReadBack.{HasLeastDecimals, HasTextNames, IsCanonical, ModelsReadAreCanonical, ModelsReadArePrintedAndReadBack}
use Rattle.text_laws.specs.ReadBack.{needed_decimals, row_amounts}
use Rattle.text_laws.proofs.EachLaws.{each_filter, each_of_map, each_those}
use Rattle.text_laws.proofs.Utf8ReadLaws.{IsTextLine, lines_utf8, field_utf8}
use Rattle.text_laws.proofs.SoundLaws.{sound_read}
use Rattle.text_laws.proofs.DistinctReadLaws.{columns_distinct, row_names_distinct}
use Rattle.text_laws.proofs.LeastDecimalLaws.{AreRead, entries_read, row_least, cost_least}
use Rattle.text_laws.proofs.ShapeReadLaws.{well_shaped}
use Rattle.text_laws.proofs.ModelReadLaws.{model_read}
use Rattle.text_laws.proofs.NoFaultLaws.{none_found}
use Rattle.ip_defs.proofs.ListLaws.{each_weaker, each_get, none_append, none_when, no_first}
use Rattle.mps_defs.proofs.ListLaws.{get_from_map}

-- what it says of a text that it has no fault
pub record IsFaultless (text : List ℕ) (how : How) : Type 0 where
  pub valid : is_utf8 text ≡ true
  pub lines : all_line_faults (lines_of text) ≡ []
  pub objective : (l : Line) × (find is_free (row_lines (lines_of text)) ≡ Some l)
  pub limits : limits_of (model_of text how) ≡ []

no_limits : (m : Parts) → limit_faults m ≡ [] → limits_of m ≡ []
no_limits m e = by (limits_of m) e
  where
    by : (ls : List Exceeded.Limit) → map Limit ls ≡ [] → ls ≡ []
    by [] f = refl
    by (l ∷ ls) f = absurd cc

pub faultless : (text : List ℕ) (how : How) → mps_fault text how ≡ None → IsFaultless text how
faultless text how none = by (is_utf8 text) refl none
  where
    ls : List Line
    ls = lines_of text

    from : is_utf8 text ≡ true → faults_of_lines ls how ≡ [] → IsFaultless text how
    from valid e =
        let names = column_names ls in
        let first = all_line_faults ls in
        let end = when (not (is_ended ls)) NoEnd in
        let aim = when (is_none (objective ls)) NoObjective in
        let continuous = flat_map (continuous_faults ls) names in
        let bounds = flat_map (bound_missing ls how) names in
        let uppers = flat_map (upper_faults ls) names in
        let g = none_append (first ++ end ++ aim ++ continuous ++ bounds ++ uppers) (limit_faults (model_from ls how)) e in
        let f = none_append (first ++ end ++ aim ++ continuous ++ bounds) uppers g.0 in
        let d = none_append (first ++ end ++ aim ++ continuous) bounds f.0 in
        let c = none_append (first ++ end ++ aim) continuous d.0 in
        let b = none_append (first ++ end) aim c.0 in
        let a = none_append first end b.0 in
        record {
          valid = valid;
          lines = a.0;
          objective = there (find is_free (row_lines ls)) refl (none_when (is_none (objective ls)) NoObjective b.1);
          limits = no_limits (model_from ls how) g.1;
        }
      where
        there : (o : Option Line) → find is_free (row_lines ls) ≡ o → is_none (option_map row_name (find is_free (row_lines ls))) ≡ false
            → (l : Line) × (find is_free (row_lines ls) ≡ Some l)
        there None at some =
            absurd (let no : is_none (option_map row_name (find is_free (row_lines ls))) ≡ true = ap
            (λ o. is_none (option_map row_name o)) at in cc)
        there (Some l) at some = (l, at)

    by : (t : Bool) → is_utf8 text ≡ t → (if t then first_of (faults_of_lines ls how) else Some NotUtf8) ≡ None → IsFaultless text how
    by true valid e = from valid (no_first (faults_of_lines ls how) e)
    by false valid e = absurd cc

-- ---- the rows and the columns of the model of lines

abbrev pub bound_lines : List Line → List Line
bound_lines ls = filter (λ l. not (is_free l)) (row_lines ls)

abbrev pub read_row : How → List Line → Line → Row
read_row how ls l = row_from ls how (row_kind l) (row_name l)

abbrev pub read_column : How → List Line → List ℕ → Column
read_column how ls =
    column_from ls how (unwrap_or (objective ls) []) (row_decimals ls how (unwrap_or (objective ls) []))

-- ---- names

pub find_each : {A : Type 0} (P : A → Type 0) (test : A → Bool) (xs : List A) (x : A) → Each P xs → find test xs ≡ Some x → P x
find_each P test [] x all at = absurd cc
find_each {A} P test (y ∷ ys) x all at = by (test y) at (λ g. find_each P test ys x all.1 g)
  where
    by : (t : Bool) → cond t (Some y) (find test ys) ≡ Some x → (find test ys ≡ Some x → P x) → P x
    by true e later = let same : y ≡ x = cc in subst P same all.0
    by false e later = later e

names_back : {A : Type 0} (named : A → List ℕ) (made : List ℕ → A) → ((n : List ℕ) → named (made n) ≡ n) → (ns : List (List ℕ))
    → map named (map made ns) ≡ ns
names_back named made h [] = refl
names_back named made h (n ∷ ns) = ap (λ m. m ∷ map named (map made ns)) (h n) ∙ ap (λ ms. n ∷ ms) (names_back named made h ns)

rows_back : (how : How) (ls ks : List Line)
    → map (λ (r : Row). r.name) (map (λ l. row_from ls how (row_kind l) (row_name l)) ks) ≡ map row_name ks
rows_back how ls [] = refl
rows_back how ls (k ∷ ks) = ap (λ ms. row_name k ∷ ms) (rows_back how ls ks)

text_names : (text : List ℕ) (how : How) → IsFaultless text how → HasTextNames (model_of text how)
text_names text how h = record {
  objective = ap (λ o. is_utf8 (unwrap_or (option_map row_name o) [])) (h.objective).1
      ∙ is_utf8-from_IsUtf8 (row_name (h.objective).0)
      (field_utf8 (h.objective).0 1 (find_each IsTextLine is_free (row_lines ls) (h.objective).0 rows (h.objective).1));
  columns = λ j c at. each_get (λ (x : Column). is_utf8 x.name ≡ true) (map (read_column how ls) (column_names ls)) j c
      (each_of_map (λ (x : Column). is_utf8 x.name ≡ true) (read_column how ls) (column_names ls) names) at;
  rows = λ i r at. each_get (λ (x : Row). is_utf8 x.name ≡ true) (map (read_row how ls) (bound_lines ls)) i r
      (each_of_map (λ (x : Row). is_utf8 x.name ≡ true) (read_row how ls) (bound_lines ls)
      (each_weaker IsTextLine (λ l. is_utf8 (row_name l)
      ≡ true) (bound_lines ls) (λ l f. is_utf8-from_IsUtf8 (row_name l) (field_utf8 l 1 f))
      (each_filter IsTextLine (λ l. not (is_free l)) (row_lines ls) rows))) at;
}
  where
    ls : List Line
    ls = lines_of text

    all : Each IsTextLine ls
    all = lines_utf8 text h.valid

    rows : Each IsTextLine (row_lines ls)
    rows = each_filter IsTextLine (λ l. l.is_item && bytes_eq l.section (codes "ROWS")) ls all

    names : Each (λ n. is_utf8 n ≡ true) (column_names ls)
    names = each_of_map (λ n. is_utf8 n ≡ true) (λ (p : List Line × Line). column_name p.1) (first_lines ls)
        (each_filter (λ (p : List Line × Line). is_utf8 (column_name p.1) ≡ true) (λ p. is_new_column p.0 p.1) (with_earlier ls)
        (each_weaker (λ (p : List Line × Line). IsTextLine p.1) (λ p. is_utf8 (column_name p.1) ≡ true) (with_earlier ls)
        (λ p f. is_utf8-from_IsUtf8 (column_name p.1) (field_utf8 p.1 0 f)) (each_those IsTextLine [] ls all)))

-- ---- the law

pub models_canonical : ModelsReadAreCanonical
models_canonical text how digits none printable = record {
  printable = printable;
  limits = limits;
  texts = text_names text how h;
  columns = subst AreDistinct (sym (names_back (λ (c : Column). c.name) (read_column how ls) (λ n. refl) (column_names ls)))
      (columns_distinct ls);
  rows = subst AreDistinct
      (ap (λ o. row_name l ∷ o) (sym (rows_back how ls (bound_lines ls)))
      ∙ ap (λ o. unwrap_or (option_map row_name o) [] ∷ map (λ (r : Row). r.name) (map (read_row how ls) (bound_lines ls))) (sym at))
      (row_names_distinct ls l
      (sound_read text h.lines) at);
  digits = digits;
  decimals = record {
    costs = cost_least ls how read (row_name l) (ap (option_map row_name) at);
    rows = λ i r g. (let made = get_from_map (read_row how ls) (bound_lines ls) i r g in
        subst (λ (x : Row). x.decimals ≡ largest how.digits (map (needed_decimals x.decimals) (row_amounts x))) made.2
        (row_least ls how (row_kind made.0) (row_name made.0) read (subst IsRow (sym made.2) (limits.rows i r g))));
  };
}
  where
    ls : List Line
    ls = lines_of text

    h : IsFaultless text how
    h = faultless text how none

    l : Line
    l = (h.objective).0

    at : find is_free (row_lines ls) ≡ Some l
    at = (h.objective).1

    read : AreRead ls
    read = entries_read ls (sound_read text h.lines)

    limits : IsWithinLimits (model_of text how)
    limits = within_limits (model_of text how) (well_shaped ls how read digits) h.limits

-- what is canonical for one reading is so for each with the same digits
with_digits : (m : Parts) (how again : How) → again.digits ≡ how.digits → IsCanonical m how → IsCanonical m again
with_digits m how again same h =
    let d = subst (λ (n : ℕ). n ≤ 9) (sym same) h.digits in
    let ds = subst (λ (n : ℕ). HasLeastDecimals n m) (sym same) h.decimals in
    record { printable = h.printable; limits = h.limits; texts = h.texts; columns = h.columns; rows = h.rows; digits = d; decimals = ds }

pub models_read_back : ModelsReadArePrintedAndReadBack
models_read_back text how again digits same none printable =
    let canonical = with_digits (model_of text how) how again same (models_canonical text how digits none printable) in
    (none_found (model_of text how) again canonical, model_read (model_of text how) again canonical)
