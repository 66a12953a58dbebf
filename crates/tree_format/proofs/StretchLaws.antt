-- Stretches of bytes that a reader reads.
use Rattle.std.specs.Prelude.{◌≡◌, ℕ, ◌+◌, ◌<◌, ◌≤◌, List, [], ◌∷◌, ◌++◌, length, take, drop, Option, Some, Result, Ok, Err}
use Rattle.std.proofs.Common.{arith, refl, ap, ◌∙◌, sym, subst, get_or, add-one}
use Rattle.std.proofs.Math.Seq.{drop-cons}
use Rattle.std.proofs.lemmas.List.{drop_all, take_more}
use Rattle.tree_format.specs.Readings.{Reading, stopped, parts_then}
use Rattle.tree_format.specs.Grammar.{IsErrorOf, shown}
use Rattle.tree_format.specs.Internal.Remaining.{remaining, HasRead, IsStep, ended_by, fault_of}
use Rattle.tree_format.specs.Internal.Stretches.{ReadsOn}
use Rattle.tree_format.specs.declared.errors.TreeError.{TreeError}
use Rattle.tree_format.specs.declared.errors.TreeError.TheVariants as faults
use Rattle.tree_format.specs.declared.progress.Progress.{Progress}
use Rattle.tree_format.specs.declared.tokens.Token.{Token}
use Rattle.tree_format.specs.declared.tokens.Token.TheVariants.{Nothing, Claimed, Coordinate, SplitAt, LeafQ, Parts, Part}
use Rattle.tree_format.proofs.ReadLaws.{parts_then_more, stepped}

-- nothing is read yet
pub none_read : (bytes : List ℕ) (s : Progress) (i : ℕ) → ReadsOn bytes s i s i []
none_read bytes s i = record { left = refl; read = λ h. h; within = λ l. l }

-- two stretches, one after the other
pub both_read : (bytes : List ℕ) (s t u : Progress) (i j k : ℕ) (xs ys : List Token) → ReadsOn bytes s i t j xs
    → ReadsOn bytes t j u k ys → ReadsOn bytes s i u k (xs ++ ys)
both_read bytes s t u i j k xs ys a b = record {
  left = a.left ∙ ap (parts_then xs) b.left ∙ parts_then_more xs ys (remaining u (drop k bytes));
  read = λ h. b.read (a.read h);
  within = λ l. b.within (a.within l);
}

next_byte : (bytes : List ℕ) (i : ℕ) → i < length bytes → drop i bytes ≡ get_or bytes i 0 ∷ drop (i + 1) bytes
next_byte bytes i l = drop-cons bytes i 0 l ∙ ap (λ (k : ℕ). get_or bytes i 0 ∷ drop k bytes) (sym (add-one i))

one_more : (bytes : List ℕ) (i : ℕ) → i < length bytes → take (i + 1) bytes ≡ take i bytes ++ get_or bytes i 0 ∷ []
one_more bytes i l = take_more bytes i 0 l

-- one byte without a fault
pub byte_read : (bytes : List ℕ) (s t : Progress) (i : ℕ) (token : Token) → i < length bytes
    → IsStep s t (get_or bytes i 0) (Ok token) → ReadsOn bytes s i t (i + 1) (shown token)
byte_read bytes s t i token l step = record {
  left = ap (remaining s) (next_byte bytes i l) ∙ sym (step.left (drop (i + 1) bytes));
  read = λ h. subst (HasRead t) (sym (one_more bytes i l)) (stepped s t (take i bytes) (get_or bytes i 0) (Ok token) step h);
  within = λ h. omega arith;
}

is_error : (fault : Option TreeError) (e : TreeError) → fault ≡ Some e → IsErrorOf fault e
is_error fault faults.Memory h = tt
is_error fault (faults.Magic p) h = h
is_error fault (faults.Cut p) h = h
is_error fault (faults.LongNumber p) h = h
is_error fault (faults.Order p) h = h
is_error fault (faults.Zero p) h = h
is_error fault (faults.Width p) h = h
is_error fault (faults.TooDeep p) h = h
is_error fault (faults.TooMany p) h = h
is_error fault (faults.Tail p) h = h
is_error fault (faults.Tag p) h = h

-- one byte with a fault
pub byte_fails : (bytes : List ℕ) (s t : Progress) (i : ℕ) (e : TreeError) → i < length bytes
    → IsStep s t (get_or bytes i 0) (Err e) → IsErrorOf (remaining s (drop i bytes)).fault e
byte_fails bytes s t i e l step =
    is_error _ e (ap (λ (bs : List ℕ). (remaining s bs).fault) (next_byte bytes i l)
    ∙ ap (λ (r : Reading Token). r.fault) (sym (step.left (drop (i + 1) bytes))))

-- an error after a stretch is one before it
pub error_before : (bytes : List ℕ) (s t : Progress) (i j : ℕ) (xs : List Token) (e : TreeError) → ReadsOn bytes s i t j xs
    → IsErrorOf (remaining t (drop j bytes)).fault e → IsErrorOf (remaining s (drop i bytes)).fault e
error_before bytes s t i j xs e a h =
    subst (λ (o : Option TreeError). IsErrorOf o e) (sym (ap (λ (r : Reading Token). r.fault) a.left)) h

-- no byte is left
pub at_end : (bytes : List ℕ) (i : ℕ) → length bytes ≤ i → drop i bytes ≡ []
at_end bytes i l = drop_all i bytes l

-- a token that is a part
pub shown_part : (token : Token) → (token ≡ Nothing → ⊥) → shown token ≡ token ∷ []
shown_part Nothing h = absurd (h refl)
shown_part Claimed h = refl
shown_part (Coordinate z) h = refl
shown_part (SplitAt col at) h = refl
shown_part (LeafQ q) h = refl
shown_part (Parts n) h = refl
shown_part (Part row m) h = refl

-- a fault where no byte is left
pub error_at_end : (bytes : List ℕ) (s : Progress) (i : ℕ) (e : TreeError) → length bytes ≤ i → remaining s [] ≡ stopped e
    → IsErrorOf (remaining s (drop i bytes)).fault e
error_at_end bytes s i e l h =
    is_error _ e (ap (λ (bs : List ℕ). (remaining s bs).fault) (at_end bytes i l) ∙ ap (λ (r : Reading Token). r.fault) h)

-- the fault after a stretch is the one before it
pub fault_before : (bytes : List ℕ) (s t : Progress) (i j : ℕ) (xs : List Token) → ReadsOn bytes s i t j xs
    → (remaining s (drop i bytes)).fault ≡ (remaining t (drop j bytes)).fault
fault_before bytes s t i j xs a = ap (λ (r : Reading Token). r.fault) a.left

pub byte_stops : (bytes : List ℕ) (s t : Progress) (i : ℕ) (e : TreeError) → i < length bytes
    → IsStep s t (get_or bytes i 0) (Err e) → (remaining s (drop i bytes)).fault ≡ Some e
byte_stops bytes s t i e l step =
    ap (λ (bs : List ℕ). (remaining s bs).fault) (next_byte bytes i l)
    ∙ ap (λ (r : Reading Token). r.fault) (sym (step.left (drop (i + 1) bytes)))

pub end_stops : (bytes : List ℕ) (s : Progress) (i : ℕ) (r : Result (Unit {0}) TreeError) → length bytes ≤ i → remaining s [] ≡ ended_by r
    → (remaining s (drop i bytes)).fault ≡ fault_of r
end_stops bytes s i (Ok done) l h =
    ap (λ (bs : List ℕ). (remaining s bs).fault) (at_end bytes i l) ∙ ap (λ (r : Reading Token). r.fault) h
end_stops bytes s i (Err e) l h =
    ap (λ (bs : List ℕ). (remaining s bs).fault) (at_end bytes i l) ∙ ap (λ (r : Reading Token). r.fault) h
