-- Pairs by rising number, as what is written for a row by column.
use Rattle.std.specs.Prelude.{ℕ, zero, suc, ◌+◌, ◌<◌, ◌≤◌, ◌==◌, Bool, true, false, not, cond, List, [], ◌∷◌, length, map, filter}
use Rattle.std.specs.Prelude.{filter_map, Option, None, Some, option_map, ℤ, ⊤}
use Rattle.std.specs.Int.RustNames.{unsigned_abs}
use Rattle.std.specs.List.{enumerate_from, cons_option}
use Rattle.std.proofs.Common.{arith}
use Rattle.ip_defs.specs.Limits.{index_at}
use Rattle.mps_defs.specs.Records.{Entry}
use Rattle.mps_defs.specs.TextModels.{units, written_at, written_in, placed, coefs_in}
use Rattle.mps_defs.specs.declared.reading.Number.{Number}

-- the numbers rise from lo on and stay below hi
abbrev pub Rises : {V : Type 0} → ℕ → ℕ → List (ℕ × V) → Type 0
Rises lo hi [] = ⊤
Rises lo hi (p ∷ ps) = ((lo ≤ p.0) × (p.0 < hi)) × Rises (suc p.0) hi ps

pub rises_from : {V : Type 0} (n lo hi : ℕ) (ps : List (ℕ × V)) → lo ≤ n → Rises n hi ps → Rises lo hi ps
rises_from n lo hi [] l h = tt
rises_from n lo hi (p ∷ ps) l h = let first = h.0 in ((omega (arith, first.0), first.1), h.1)

pub mapped_rises : {V W : Type 0} (f : V → W) (lo hi : ℕ) (ps : List (ℕ × V)) → Rises lo hi ps → Rises lo hi (map (λ p. (p.0, f p.1)) ps)
mapped_rises f lo hi [] h = tt
mapped_rises f lo hi (p ∷ ps) h = (h.0, mapped_rises f (suc p.0) hi ps h.1)

pub filtered_rises : {V : Type 0} (keeps : ℕ × V → Bool) (lo hi : ℕ) (ps : List (ℕ × V)) → Rises lo hi ps → Rises lo hi (filter keeps ps)
filtered_rises keeps lo hi [] h = tt
filtered_rises {V} keeps lo hi (p ∷ ps) h = by (keeps p) (filtered_rises keeps (suc p.0) hi ps h.1)
  where
    by : (t : Bool) → Rises (suc p.0) hi (filter keeps ps) → Rises lo hi (cond t (p ∷ filter keeps ps) (filter keeps ps))
    by true rest = (h.0, rest)
    by false rest = let first = h.0 in rises_from (suc p.0) lo hi (filter keeps ps) (omega (arith, first.0)) rest

-- ---- by place

pub rises_within : (lo hi : ℕ) (ps : List (ℕ × ℤ)) → Rises lo hi ps → (i : ℕ) → i < length ps
    → (lo ≤ index_at ps i) × (index_at ps i < hi)
rises_within lo hi [] h i l = absurd (omega arith)
rises_within lo hi (p ∷ ps) h zero l = h.0
rises_within lo hi (p ∷ ps) h (suc i) l =
    let first = h.0 in
    let rest = rises_within (suc p.0) hi ps h.1 i (omega arith) in
    (omega (arith, first.0, rest.0), rest.1)

pub rises_at : (lo hi : ℕ) (ps : List (ℕ × ℤ)) → Rises lo hi ps → (i k : ℕ) → i < k → k < length ps → index_at ps i < index_at ps k
rises_at lo hi [] h i k l m = absurd (omega arith)
rises_at lo hi (p ∷ ps) h i zero l m = absurd (omega arith)
rises_at lo hi (p ∷ ps) h zero (suc k) l m = let rest = rises_within (suc p.0) hi ps h.1 k (omega arith) in omega (arith, rest.0)
rises_at lo hi (p ∷ ps) h (suc i) (suc k) l m = rises_at (suc p.0) hi ps h.1 i k (omega arith) (omega arith)

-- ---- what is written for a row

written_rises : (es : List Entry) (row : List ℕ) (n hi : ℕ) (names : List (List ℕ)) → n + length names ≤ hi
    → Rises n hi (filter_map (placed es row) (enumerate_from n names))
written_rises es row n hi [] l = tt
written_rises es row n hi (c ∷ cs) l = by (written_at es row c) (written_rises es row (n + 1) hi cs (omega arith))
  where
    rest : List (ℕ × Number)
    rest = filter_map (placed es row) (enumerate_from (n + 1) cs)

    by : (o : Option Number) → Rises (n + 1) hi rest → Rises n hi (cons_option (option_map (λ x. (n, x)) o) rest)
    by None h = rises_from (n + 1) n hi rest (omega arith) h
    by (Some x) h = ((omega arith, omega arith), rises_from (n + 1) (suc n) hi rest (omega arith) h)

-- the coefficients of a row rise by column
pub coefs_rise : (es : List Entry) (names : List (List ℕ)) (row : List ℕ) (k : ℕ) → Rises 0 (length names) (coefs_in es names row k)
coefs_rise es names row k =
    let pairs : List (ℕ × ℤ) = map (λ (p : ℕ × Number). (p.0, units k p.1)) (written_in es names row) in
    let all : 0 + length names ≤ length names = omega arith in
    filtered_rises (λ (p : ℕ × ℤ). not (unsigned_abs p.1 == 0)) 0 (length names) pairs
    (mapped_rises (units k) 0 (length names) (written_in es names row) (written_rises es row 0 (length names) names all))
