-- Of what a sweep that is answered was made: a head, and lines after it without a fault.
use Rattle.std.specs.Prelude.{◌≡◌, ℕ, ℤ, Bool, true, false, if◌then◌else◌, Option, None, Some, List, [], ◌∷◌, ◌++◌, flat_map, drop, codes}
use Rattle.std.specs.Prelude.{not, Result, Ok, Err, refl}
use Rattle.std.specs.List.{before_first, list_any}
use Rattle.std.specs.Str.{is_utf8}
use Rattle.std.proofs.Common.{subst}
use Rattle.ip_defs.specs.Lists.{when}
use Rattle.ip_defs.proofs.ListLaws.{none_append}
use Rattle.mps_defs.specs.Lists.{after_those}
use Rattle.question_text.specs.Lines.{Line, begins, is_end, line_after, lines_of}
use Rattle.question_text.specs.SweepFiles.{after_head_faults, cost_head, cost_line, head_in, integer_of, is_interval, is_small, rows_head}
use Rattle.question_text.specs.SweepFiles.{rows_line, steps_of, sweep_after, sweep_in, sweep_of, with_directions}
use Rattle.question_text.specs.declared.errors.TextError.{TextError}
use Rattle.question_text.specs.declared.errors.TextError.TheVariants as Refused
use Rattle.question_text.specs.declared.sweeps.Sweep.{Sweep}
use Rattle.question_text.specs.declared.sweeps.Sweep.TheVariants.{Cost, Rows}
use Rattle.question_text.proofs.AnswerLaws.{no_fault}

-- ---- the head: an interval or steps within their limits, and no direction

interval_by : (P : Sweep → Type 0) → ((from to : ℤ) → is_interval from to ≡ true → P (Cost from to [])) → (n : ℕ) (s : Sweep) (from to : ℤ)
    → (if is_interval from to then Ok (Cost from to []) else Err (Refused.Interval n)) ≡ Ok s → P s
interval_by P costs n s from to h = by (is_interval from to) refl h
  where
    by : (t : Bool) → is_interval from to ≡ t → (if t then Ok (Cost from to []) else Err (Refused.Interval n)) ≡ Ok s → P s
    by true e g = let same : Cost from to [] ≡ s = cc g in subst P same (costs from to e)
    by false e g = absurd (cc g)

steps_by : (P : Sweep → Type 0) → ((steps : ℕ) → is_small steps ≡ true → P (Rows steps [])) → (n : ℕ) (s : Sweep) (steps : ℕ)
    → (if is_small steps then Ok (Rows steps []) else Err (Refused.Interval n)) ≡ Ok s → P s
steps_by P rows n s steps h = by (is_small steps) refl h
  where
    by : (t : Bool) → is_small steps ≡ t → (if t then Ok (Rows steps []) else Err (Refused.Interval n)) ≡ Ok s → P s
    by true e g = let same : Rows steps [] ≡ s = cc g in subst P same (rows steps e)
    by false e g = absurd (cc g)

costs_by : (P : Sweep → Type 0) → ((from to : ℤ) → is_interval from to ≡ true → P (Cost from to [])) → (n : ℕ) (ws : List (List ℕ))
    (s : Sweep) → cost_line n ws ≡ Ok s → P s
costs_by P costs n [] s h = absurd (cc h)
costs_by P costs n (a ∷ []) s h = absurd (cc h)
costs_by P costs n (a ∷ b ∷ d ∷ ws) s h = absurd (cc h)
costs_by P costs n (from ∷ to ∷ []) s h = by (integer_of from) (integer_of to) h
  where
    by : (o p : Option ℤ) → cost_head n o p ≡ Ok s → P s
    by None p e = absurd (cc e)
    by (Some a) None e = absurd (cc e)
    by (Some a) (Some b) e = interval_by P costs n s a b e

rows_by : (P : Sweep → Type 0) → ((steps : ℕ) → is_small steps ≡ true → P (Rows steps [])) → (n : ℕ) (ws : List (List ℕ)) (s : Sweep)
    → rows_line n ws ≡ Ok s → P s
rows_by P rows n [] s h = absurd (cc h)
rows_by P rows n (a ∷ b ∷ ws) s h = absurd (cc h)
rows_by P rows n (steps ∷ []) s h = by (steps_of steps) h
  where
    by : (o : Option ℕ) → rows_head n o ≡ Ok s → P s
    by None e = absurd (cc e)
    by (Some k) e = steps_by P rows n s k e

pub head_by : (P : Sweep → Type 0) → ((from to : ℤ) → is_interval from to ≡ true → P (Cost from to []))
    → ((steps : ℕ) → is_small steps ≡ true → P (Rows steps [])) → (n : ℕ) (ws : List (List ℕ)) (s : Sweep) → head_in n ws ≡ Ok s → P s
head_by P costs rows n ws s h = by (begins (codes "cost") ws) (begins (codes "rows") ws) h
  where
    by : (t u : Bool) → (if t then cost_line n (drop 1 ws) else (if u then rows_line n (drop 1 ws) else Err (Refused.Word n))) ≡ Ok s → P s
    by true u e = costs_by P costs n (drop 1 ws) s e
    by false true e = rows_by P rows n (drop 1 ws) s e
    by false false e = absurd (cc e)

-- ---- the lines after it

pub record IsMade (s : Sweep) : Type 0 where
  pub number : ℕ
  pub words : List (List ℕ)
  pub head : Sweep
  pub lines : List Line
  pub head_is : head_in number words ≡ Ok head
  pub none : flat_map (λ p. after_head_faults head p.0 p.1) (after_those [] lines) ≡ []
  pub is : with_directions head (before_first is_end lines) ≡ s

lines_made : (after : ℕ) (ls : List Line) (s : Sweep) → sweep_in after ls ≡ Ok s → IsMade s
lines_made after [] s h = absurd (cc h)
lines_made after (l ∷ ls) s h = by (head_in l.number l.words) refl h
  where
    by : (r : Result Sweep TextError) → head_in l.number l.words ≡ r → sweep_after l.number r ls ≡ Ok s → IsMade s
    by (Err e) is made = absurd (cc made)
    by (Ok head) is made =
        let found = no_fault (flat_map (λ p. after_head_faults head p.0 p.1) (after_those [] ls)
        ++ when (not (list_any is_end ls)) (Refused.Unended l.number)) (with_directions head (before_first is_end ls)) s made in
        record {
          number = l.number;
          words = l.words;
          head = head;
          lines = ls;
          head_is = is;
          none = (none_append (flat_map (λ p. after_head_faults head p.0 p.1) (after_those [] ls)) _ found.0).0;
          is = found.1;
        }

pub text_made : (text : List ℕ) (s : Sweep) → sweep_of text ≡ Ok s → IsMade s
text_made text s h = by (is_utf8 text) h
  where
    by : (t : Bool) → (if t then sweep_in (line_after text) (lines_of text) else Err (Refused.Word 0)) ≡ Ok s → IsMade s
    by true e = lines_made (line_after text) (lines_of text) s e
    by false e = absurd (cc e)
