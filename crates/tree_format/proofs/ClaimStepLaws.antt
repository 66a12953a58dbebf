-- Reading a claim that stands at a place of bytes, part by part.
use Rattle.std.specs.Prelude.{◌≡◌, ℕ, zero, suc, ◌+◌, ◌^◌, ◌<◌, ◌≤◌, List, [], ◌∷◌, ◌++◌, length, drop, ℤ}
use Rattle.std.specs.Int.RustNames.{unsigned_abs}
use Rattle.std.specs.List.{flat_map}
use Rattle.std.proofs.Common.{arith, refl, ap, ◌∙◌, sym, subst, lit<, length-append}
use Rattle.std.proofs.lemmas.List.{flat_map_more}
use Rattle.ip_defs.specs.Lists.{Each}
use Rattle.tree_format.specs.Readings.{Reading, part_then, stopped}
use Rattle.tree_format.specs.Spellings.{number, signed_number}
use Rattle.tree_format.specs.Grammar.{coordinates_at, point_at, claim_at, IsErrorOf}
use Rattle.tree_format.specs.Internal.Steps.{Stands, IsFault, IsNumberFault}
use Rattle.tree_format.specs.declared.errors.TreeError.{TreeError}
use Rattle.tree_format.specs.declared.errors.TreeError.TheVariants as faults
use Rattle.tree_format.specs.declared.tokens.Token.{Token}
use Rattle.tree_format.specs.declared.tokens.Token.TheVariants.{Claimed}
use Rattle.tree_format.proofs.FieldLaws.{apart}
use Rattle.tree_format.proofs.NumberStepLaws.{both_stand, number_reads, signed_reads, error_of, stops}

-- two readings have one fault, whatever is to follow
abbrev pub HasFaultOf : ((ℕ → List ℕ → Reading Token) → Reading Token) → ((ℕ → List ℕ → Reading Token) → Reading Token) → Type 0
HasFaultOf r s = (next : ℕ → List ℕ → Reading Token) → (r next).fault ≡ (s next).fault

pub same_fault : (r s : (ℕ → List ℕ → Reading Token) → Reading Token) (e : TreeError) → HasFaultOf r s → IsFault s e → IsFault r e
same_fault r s e same h next = error_of (r next) (s next) e (same next) (h next)

-- a list with a property of each element has it with one more
pub each_more : {A : Type 0} (P : A → Type 0) (xs : List A) (x : A) → Each P xs → P x → Each P (xs ++ x ∷ [])
each_more P [] x each p = (p, tt)
each_more P (y ∷ ys) x each p = (each.0, each_more P ys x each.1 p)

pub nothing_stands : (bytes : List ℕ) (i : ℕ) → i ≤ length bytes → Stands bytes i i []
nothing_stands bytes i l = record { is = refl; place = omega arith; within = l }

-- ---- coordinates

-- some coordinates are read
pub record CoordinatesRead (bytes : List ℕ) (i at counter count : ℕ) (x : List ℤ) : Type 0 where
  pub size : length x ≡ counter
  pub small : Each (λ z. unsigned_abs z ≤ 2 ^ 24) x
  pub on : Stands bytes i at (flat_map signed_number x)
  pub more : ℕ
  pub all : more + counter ≡ count
  pub left : HasFaultOf (coordinates_at count i (drop i bytes)) (coordinates_at more at (drop at bytes))

pub no_coordinate : (bytes : List ℕ) (i count : ℕ) → i ≤ length bytes → CoordinatesRead bytes i i 0 count []
no_coordinate bytes i count l = record {
  size = refl;
  small = tt;
  on = nothing_stands bytes i l;
  more = count;
  all = omega arith;
  left = λ next. refl;
}

-- one coordinate more
pub coordinate_read : (bytes : List ℕ) (i at counter count j : ℕ) (x : List ℤ) (z : ℤ) → counter < count
    → CoordinatesRead bytes i at counter count x → unsigned_abs z ≤ 2 ^ 24 → Stands bytes at j (signed_number z)
    → CoordinatesRead bytes i j (counter + 1) count (x ++ z ∷ [])
coordinate_read bytes i at counter count j x z l r small s = by r.more r.all r.left
  where
    by : (n : ℕ) → n + counter ≡ count
        → HasFaultOf (coordinates_at count i (drop i bytes)) (coordinates_at n at (drop at bytes))
        → CoordinatesRead bytes i j (counter + 1) count (x ++ z ∷ [])
    by zero all left = absurd (omega arith)
    by (suc n) all left = record {
      size = (let size = r.size in let one = length-append x (z ∷ []) in omega arith);
      small = each_more (λ z. unsigned_abs z ≤ 2 ^ 24) x z r.small small;
      on = subst (λ (bs : List ℕ). Stands bytes i j bs) (flat_map_more signed_number [] x z)
          (both_stand bytes i at j (flat_map signed_number x) (signed_number z) r.on s);
      more = n;
      all = omega arith;
      left = λ next. left next ∙ ap (λ (r : Reading Token). r.fault) (signed_reads (2 ^ 24) bytes at z j (lit< tt) small s _);
    }

-- a coordinate that fails
pub coordinate_fails : (bytes : List ℕ) (i at counter count : ℕ) (x : List ℤ) (e : TreeError) → counter < count
    → CoordinatesRead bytes i at counter count x → IsNumberFault (2 ^ 25) at (drop at bytes) e
    → IsFault (coordinates_at count i (drop i bytes)) e
coordinate_fails bytes i at counter count x e l r h = by r.more r.all r.left
  where
    by : (n : ℕ) → n + counter ≡ count
        → HasFaultOf (coordinates_at count i (drop i bytes)) (coordinates_at n at (drop at bytes))
        → IsFault (coordinates_at count i (drop i bytes)) e
    by zero all left = absurd (omega arith)
    by (suc n) all left =
        same_fault (coordinates_at count i (drop i bytes)) (coordinates_at (suc n) at (drop at bytes)) e left (λ next. h _)

-- ---- points

pub point_stands : (bytes : List ℕ) (i j k n : ℕ) (x : List ℤ) → length x ≡ n → Stands bytes i j (number n)
    → Stands bytes j k (flat_map signed_number x) → Stands bytes i k (number (length x) ++ flat_map signed_number x)
point_stands bytes i j k n x size a b =
    both_stand bytes i j k (number (length x)) (flat_map signed_number x)
    (subst (λ (m : ℕ). Stands bytes i j (number m)) (sym size) a) b

-- the coordinates after their count fail
pub coordinates_fail : (bytes : List ℕ) (i j n : ℕ) (e : TreeError) → n ≤ 4096 → Stands bytes i j (number n)
    → IsFault (coordinates_at n j (drop j bytes)) e → IsFault (point_at i (drop i bytes)) e
coordinates_fail bytes i j n e fits s h =
    same_fault (point_at i (drop i bytes)) (coordinates_at n j (drop j bytes)) e
    (λ next. ap (λ (r : Reading Token). r.fault) (number_reads 4096 bytes i n j (lit< tt) fits s _)) h

-- ---- claims

-- the byte of a point before a point
pub point_claimed : (bytes : List ℕ) (i j k b : ℕ) (x : List ℤ) → Stands bytes i j (b ∷ []) → b ≡ 66
    → Stands bytes j k (number (length x) ++ flat_map signed_number x)
    → Stands bytes i k (66 ∷ (number (length x) ++ flat_map signed_number x))
point_claimed bytes i j k b x s e p =
    both_stand bytes i j k (66 ∷ []) (number (length x) ++ flat_map signed_number x)
    (subst (λ (c : ℕ). Stands bytes i j (c ∷ [])) e s) p

-- what a claim begins with is its byte
claim_begins : (bytes : List ℕ) (i j b : ℕ) (next : ℕ → List ℕ → Reading Token) → Stands bytes i j (b ∷ [])
    → claim_at i (drop i bytes) next ≡ claim_at i (b ∷ drop j bytes) next
claim_begins bytes i j b next s = ap (λ (bs : List ℕ). claim_at i bs next) s.is

pub point_fails : (bytes : List ℕ) (i j b : ℕ) (e : TreeError) → Stands bytes i j (b ∷ []) → b ≡ 66
    → IsFault (point_at j (drop j bytes)) e → IsFault (claim_at i (drop i bytes)) e
point_fails bytes i j b e s is h =
    same_fault (claim_at i (drop i bytes)) (point_at j (drop j bytes)) e
    (λ next. ap (λ (r : Reading Token). r.fault) (claim_begins bytes i j b next s
    ∙ ap (λ (c : ℕ). claim_at i (c ∷ drop j bytes) next) is
    ∙ ap (λ (p : ℕ). part_then Claimed (point_at p (drop j bytes) next)) (sym s.place))) h

other_claim : (i b : ℕ) (bytes : List ℕ) (next : ℕ → List ℕ → Reading Token) → (b ≡ 66 → ⊥) → (b ≡ 69 → ⊥)
    → claim_at i (b ∷ bytes) next ≡ stopped (faults.Tag i)
other_claim i b bytes next not_point not_empty = rw (claim_at, apart b 66 not_point, apart b 69 not_empty) refl

pub claim_fails : (bytes : List ℕ) (i j b : ℕ) → Stands bytes i j (b ∷ []) → (b ≡ 66 → ⊥) → (b ≡ 69 → ⊥)
    → IsFault (claim_at i (drop i bytes)) (faults.Tag i)
claim_fails bytes i j b s not_point not_empty next =
    stops _ (faults.Tag i) (claim_begins bytes i j b next s ∙ other_claim i b (drop j bytes) next not_point not_empty)

-- no byte is left for a claim
pub claim_cut : (bytes : List ℕ) (i : ℕ) (e : TreeError) → (e ≡ faults.Cut i) × (drop i bytes ≡ [])
    → IsFault (claim_at i (drop i bytes)) e
claim_cut bytes i e h next =
    subst (λ (x : TreeError). IsErrorOf (claim_at i (drop i bytes) next).fault x) (sym h.0)
    (stops _ (faults.Cut i) (ap (λ (bs : List ℕ). claim_at i bs next) h.1))
