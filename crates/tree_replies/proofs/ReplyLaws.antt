-- Replies to questions, one more at a time; and that edits keep the columns and rows of a program, so that a tree fits as before.
use Rattle.std.specs.Prelude.{◌≡◌, ℕ, suc, ◌+◌, ◌≤◌, Bool, true, false, cond, nat_lt, ◌||◌, List, [], ◌∷◌, ◌++◌, length}
use Rattle.std.specs.Prelude.{take, drop, slice_get, ℤ, Option, None, Some, Result, Ok, Err}
use Rattle.std.specs.Option.{option_or}
use Rattle.std.proofs.Common.{arith, refl, ap, sym, ◌∙◌, subst}
use Rattle.std.proofs.Math.Seq.{drop-cons}
use Rattle.std.proofs.lemmas.List.{drop_all, take_all, take_more}
use Rattle.std.proofs.lemmas.Option.{get_or_from_slice_get, slice_get_within}
use Rattle.ip_defs.specs.Limits.{exceeds}
use Rattle.ip_defs.specs.declared.programs.Parts.{Parts}
use Rattle.ip_model.specs.Places.{changed, limit_of, number_of, with_coef, with_cost, with_high, with_low, with_lower, with_upper}
use Rattle.ip_model.specs.declared.places.Place.{Place}
use Rattle.ip_model.specs.declared.places.Place.TheVariants as At
use Rattle.ip_model.proofs.ChangeLaws.{length_changed}
use Rattle.leaf_cert.specs.declared.workspaces.Scratch.{Scratch}
use Rattle.mps_defs.specs.Numbers.{exact_units}
use Rattle.mps_defs.specs.declared.reading.Number.{Number}
use Rattle.mps_defs.specs.declared.reading.Number.TheVariants.{Dec, Large}
use Rattle.perturbation.specs.Edits.{by_number, by_place, by_units, changed_within, decimals_at, edited, edited_by, edited_from}
use Rattle.perturbation.specs.Edits.{entries, located, new_number, unless_refused, written}
use Rattle.perturbation.specs.declared.edits.Change.{Change}
use Rattle.perturbation.specs.declared.edits.Edit.{Edit}
use Rattle.perturbation.specs.declared.edits.EditError.{EditError}
use Rattle.perturbation.specs.declared.edits.EditError.TheVariants as Refused
use Rattle.perturbation.specs.declared.edits.PlaceError.{PlaceError}
use Rattle.perturbation.specs.declared.edits.PlaceError.TheVariants as Lacks
use Rattle.proof_tree.specs.Scratches.{FitsWalk}
use Rattle.proof_tree.specs.Trees.{FitsColumns, FitsModel, FitsRows, PlainTree, first_from}
use Rattle.proof_tree.specs.declared.claims.Claim.{Claim}
use Rattle.question_text.specs.declared.questions.Question.{Question}
use Rattle.question_text.specs.declared.questions.Question.TheVariants.{Ask, Range}
use Rattle.sens_report.specs.declared.replies.Reply.{Reply}
use Rattle.tree_replies.specs.Refusals.{IsErrorOf, first_refusal, refusal_at}
use Rattle.tree_replies.specs.Replies.{AreReplies, IsReply}
use Rattle.tree_replies.specs.declared.refusals.QuestionError.{QuestionError}
use Rattle.tree_replies.specs.declared.refusals.QuestionError.TheVariants as Ends

-- ---- edits keep the columns and the rows

-- a program has as many columns and as many rows as another
pub record IsAlike (m n : Parts) : Type 0 where
  pub columns : length n.columns ≡ length m.columns
  pub rows : length n.rows ≡ length m.rows

alike_changed : (m : Parts) (place : Place) (f : ℤ → ℤ) → IsAlike m (changed m place f)
alike_changed m (At.Cost j) f = record { columns = length_changed (with_cost f) m.columns j; rows = refl }
alike_changed m (At.Lower j) f = record { columns = length_changed (with_lower f) m.columns j; rows = refl }
alike_changed m (At.Upper j) f = record { columns = length_changed (with_upper f) m.columns j; rows = refl }
alike_changed m (At.Low i) f = record { columns = refl; rows = length_changed (with_low f) m.rows i }
alike_changed m (At.High i) f = record { columns = refl; rows = length_changed (with_high f) m.rows i }
alike_changed m (At.Coef i j) f = record { columns = refl; rows = length_changed (with_coef j f) m.rows i }

alike_within : (m : Parts) (k : ℕ) (place : Place) (f : ℤ → ℤ) (n : Parts) → changed_within m k place f ≡ Ok n → IsAlike m n
alike_within m k place f n e =
    by (exceeds (limit_of place) (f (number_of m place)) || nat_lt 200000 (entries (changed m place f))) e
  where
    by : (t : Bool) → cond t (Err (Refused.Limit k)) (Ok (changed m place f)) ≡ Ok n → IsAlike m n
    by true e = absurd cc
    by false e = let same : changed m place f ≡ n = cc in subst (IsAlike m) same (alike_changed m place f)

alike_number : (m : Parts) (k : ℕ) (place : Place) (change : Change) (number : Number) (n : Parts)
    → by_number m k place change number ≡ Ok n → IsAlike m n
alike_number m k place change (Large negative) n e = absurd cc
alike_number m k place change (Dec units decimals) n e = by (exact_units (Dec units decimals) (decimals_at m place)) e
  where
    by : (o : Option ℤ) → by_units m k place change o ≡ Ok n → IsAlike m n
    by None e = absurd cc
    by (Some z) e = alike_within m k place (new_number change z) n e

alike_edited : (m : Parts) (k : ℕ) (edit : Edit) (n : Parts) → edited m k edit ≡ Ok n → IsAlike m n
alike_edited m k edit n e = by (located m edit.datum) e
  where
    by : (r : Result Place PlaceError) → by_place m k edit.change r ≡ Ok n → IsAlike m n
    by (Err Lacks.UnknownName) e = absurd cc
    by (Err Lacks.NoSide) e = absurd cc
    by (Ok place) e = alike_number m k place edit.change (written edit.change) n e

alike_from : (k : ℕ) (m n : Parts) (es : List Edit) → edited_from k m es ≡ Ok n → IsAlike m n
alike_from k m n [] e = let same : m ≡ n = cc in subst (IsAlike m) same (record { columns = refl; rows = refl })
alike_from k m n (x ∷ es) e = by (λ mid g. alike_from (k + 1) mid n es g) (edited m k x) refl e
  where
    by : ((mid : Parts) → edited_from (k + 1) mid es ≡ Ok n → IsAlike mid n) → (r : Result Parts EditError) → edited m k x ≡ r
        → unless_refused r (λ mid. edited_from (k + 1) mid es) ≡ Ok n → IsAlike m n
    by more (Err error) is e = absurd cc
    by more (Ok mid) is e =
        let first = alike_edited m k x mid is in
        let rest = more mid e in
        record { columns = rest.columns ∙ first.columns; rows = rest.rows ∙ first.rows }

pub edited_alike : (m n : Parts) (es : List Edit) → edited_by m es ≡ Ok n → IsAlike m n
edited_alike m n es e = alike_from 1 m n es e

-- so a tree and a scratch that fit a program fit the edited one, and a scratch back
pub fits_edited : (m n : Parts) (es : List Edit) (t : PlainTree) → edited_by m es ≡ Ok n → FitsModel m t → FitsModel n t
fits_edited m n es t e fits =
    let same = edited_alike m n es e in
    record {
      columns = subst (λ k. FitsColumns k t) (sym same.columns) fits.columns;
      rows = subst (λ k. FitsRows k t) (sym same.rows) fits.rows;
    }

pub walk_edited : (m n : Parts) (es : List Edit) (s : Scratch) → edited_by m es ≡ Ok n → FitsWalk (length m.columns) s
    → FitsWalk (length n.columns) s
walk_edited m n es s e fits = subst (λ k. FitsWalk k s) (sym (edited_alike m n es e).columns) fits

pub walk_unedited : (m n : Parts) (es : List Edit) (s : Scratch) → edited_by m es ≡ Ok n → FitsWalk (length n.columns) s
    → FitsWalk (length m.columns) s
walk_unedited m n es s e fits = subst (λ k. FitsWalk k s) (edited_alike m n es e).columns fits

-- ---- one question

-- a question with a reply is not refused
replied_accepted : (m : Parts) (c : Claim) (t : PlainTree) (k : ℕ) (q : Question) (r : Reply) → IsReply m c t q r
    → refusal_at m c k q ≡ None
replied_accepted m c t k (Ask es) r is = rw is.edited refl
replied_accepted m c t k (Range datum aim) r is = rw is.asked refl

-- ---- questions in order

-- the first k questions have replies, and what is refused first of the others is refused first of all
pub record AreReplied (m : Parts) (c : Claim) (t : PlainTree) (qs : List Question) (k : ℕ) (rs : List Reply) : Type 0 where
  pub replies : AreReplies m c t (take k qs) rs
  pub left : first_refusal m c qs ≡ first_from (refusal_at m c) (k + 1) (drop k qs)

replies_more : (m : Parts) (c : Claim) (t : PlainTree) (qs : List Question) (rs : List Reply) (q : Question) (r : Reply)
    → AreReplies m c t qs rs → IsReply m c t q r → AreReplies m c t (qs ++ q ∷ []) (rs ++ r ∷ [])
replies_more m c t [] [] q r before is = (is, tt)
replies_more m c t [] (s ∷ rs) q r before is = absurd before
replies_more m c t (p ∷ qs) [] q r before is = absurd before
replies_more m c t (p ∷ qs) (s ∷ rs) q r before is = (before.0, replies_more m c t qs rs q r before.1 is)

-- the element at a place is the first of what is left there, and the last of what is taken with it
drop_at : {A : Type 0} (xs : List A) (i : ℕ) (x : A) → slice_get xs i ≡ Some x → drop i xs ≡ x ∷ drop (i + 1) xs
drop_at xs i x e =
    let next : suc i ≡ i + 1 = omega arith in
    drop-cons xs i x (slice_get_within xs i x e) ∙ ap (λ y. y ∷ drop (suc i) xs) (get_or_from_slice_get xs i x x e)
    ∙ ap (λ k. x ∷ drop k xs) next

take_at : {A : Type 0} (xs : List A) (i : ℕ) (x : A) → slice_get xs i ≡ Some x → take (i + 1) xs ≡ take i xs ++ x ∷ []
take_at xs i x e = take_more xs i x (slice_get_within xs i x e) ∙ ap (λ y. take i xs ++ y ∷ []) (get_or_from_slice_get xs i x x e)

pub none_replied : (m : Parts) (c : Claim) (t : PlainTree) (qs : List Question) → AreReplied m c t qs 0 []
none_replied m c t qs = record { replies = tt; left = refl }

pub one_replied : (m : Parts) (c : Claim) (t : PlainTree) (qs : List Question) (k : ℕ) (rs : List Reply) (q : Question) (r : Reply)
    → AreReplied m c t qs k rs → slice_get qs k ≡ Some q → IsReply m c t q r → AreReplied m c t qs (k + 1) (rs ++ r ∷ [])
one_replied m c t qs k rs q r before at is = record {
  replies = subst (λ ps. AreReplies m c t ps (rs ++ r ∷ [])) (sym (take_at qs k q at)) (replies_more m c t (take k qs) rs q r
      before.replies is);
  left = before.left ∙ ap (first_from (refusal_at m c) (k + 1)) (drop_at qs k q at)
      ∙ ap (λ o. option_or o (first_from (refusal_at m c) (k + 1 + 1) (drop (k + 1) qs))) (replied_accepted m c t (k + 1) q r is);
}

pub one_refused : (m : Parts) (c : Claim) (t : PlainTree) (qs : List Question) (k : ℕ) (rs : List Reply) (q : Question)
    (error : QuestionError) → AreReplied m c t qs k rs → slice_get qs k ≡ Some q → IsErrorOf (refusal_at m c (k + 1) q) error
    → IsErrorOf (first_refusal m c qs) error
one_refused m c t qs k rs q (Ends.Refused n why) before at is =
    before.left ∙ ap (first_from (refusal_at m c) (k + 1)) (drop_at qs k q at)
    ∙ ap (λ o. option_or o (first_from (refusal_at m c) (k + 1 + 1) (drop (k + 1) qs))) is
one_refused m c t qs k rs q Ends.Memory before at is = tt

pub all_replied : (m : Parts) (c : Claim) (t : PlainTree) (qs : List Question) (k : ℕ) (rs : List Reply) → AreReplied m c t qs k rs
    → length qs ≤ k → AreReplies m c t qs rs
all_replied m c t qs k rs before past = subst (λ ps. AreReplies m c t ps rs) (take_all k qs past) before.replies

pub none_refused : (m : Parts) (c : Claim) (t : PlainTree) (qs : List Question) (k : ℕ) (rs : List Reply) → AreReplied m c t qs k rs
    → length qs ≤ k → first_refusal m c qs ≡ None
none_refused m c t qs k rs before past = before.left ∙ ap (first_from (refusal_at m c) (k + 1)) (drop_all k qs past)
