-- What is left of each field of a tree file.
use Rattle.std.specs.Prelude.{◌≡◌, ℕ, zero, suc, ◌+◌, ◌^◌, ◌<◌, Bool, true, false, List, [], ◌∷◌, Some, None}
use Rattle.std.proofs.Common.{arith, refl, ap, ◌∙◌, sym, ◌==◌, eq-eqb, get_or, drop, add-one, ◌++◌, ◌&&◌}
use Rattle.std.proofs.Math.Seq.{drop-cons}
use Rattle.std.proofs.lemmas.Bool.{eqb-true}
use Rattle.ip_defs.proofs.OrderLaws.{lt_true}
use Rattle.tree_format.specs.Readings.{Reading, stopped, complete}
use Rattle.tree_format.specs.Numbers.{number_from, next_digit}
use Rattle.tree_format.specs.Spellings.{longest, opening}
use Rattle.tree_format.specs.Grammar.{opening_at, tree_at, begins_with}
use Rattle.tree_format.specs.Internal.Fields.{field_from, after_number, greatest_of, IsFieldSound, is_whole}
use Rattle.tree_format.specs.Internal.Remaining.{trees_at}
use Rattle.tree_format.specs.declared.numbers.Digit.TheVariants.{Ends}
use Rattle.tree_format.specs.declared.errors.TreeError.TheVariants.{Cut, Magic}
use Rattle.tree_format.specs.declared.fields.Field.{Field}
use Rattle.tree_format.specs.declared.fields.Field.TheVariants as fields
use Rattle.tree_format.specs.declared.tokens.Token.{Token}

some_is : (k g : ℕ) → Some k ≡ Some g → k ≡ g
some_is k g e = cc

same_greatest : (f : Field) (k g read low start : ℕ) (trees : ℕ → List ℕ → Reading Token) (bytes : List ℕ) → Some k ≡ Some g
    → number_from longest k read low start bytes (after_number f start trees)
    ≡ number_from longest g read low start bytes (after_number f start trees)
same_greatest f k g read low start trees bytes e =
    ap (λ (k : ℕ). number_from longest k read low start bytes (after_number f start trees)) (some_is k g e)

-- a field of a number is read as a number up to its greatest one, and what follows it
pub number_field : (f : Field) (g read low start : ℕ) (trees : ℕ → List ℕ → Reading Token) (bytes : List ℕ)
    → greatest_of f ≡ Some g
    → field_from f read low start trees bytes ≡ number_from longest g read low start bytes (after_number f start trees)
number_field (fields.Opening seen) g read low start trees bytes e = absurd cc
number_field fields.Claim g read low start trees bytes e = absurd cc
number_field fields.Node g read low start trees bytes e = absurd cc
number_field fields.CoordinateCount g read low start trees bytes e =
    same_greatest fields.CoordinateCount 4096 g read low start trees bytes e
number_field (fields.Coordinate more) g read low start trees bytes e =
    same_greatest (fields.Coordinate more) (2 ^ 25) g read low start trees bytes e
number_field fields.Divisor g read low start trees bytes e = same_greatest fields.Divisor (2 ^ 36) g read low start trees bytes e
number_field fields.MultiplierCount g read low start trees bytes e =
    same_greatest fields.MultiplierCount 1024 g read low start trees bytes e
number_field (fields.Row more least) g read low start trees bytes e =
    same_greatest (fields.Row more least) 1023 g read low start trees bytes e
number_field (fields.Multiplier more row) g read low start trees bytes e =
    same_greatest (fields.Multiplier more row) (2 ^ 37) g read low start trees bytes e
number_field fields.Column g read low start trees bytes e = same_greatest fields.Column 4095 g read low start trees bytes e
number_field (fields.Cut col) g read low start trees bytes e = same_greatest (fields.Cut col) (2 ^ 25) g read low start trees bytes e

-- a byte that ends the number of a field
pub number_ended : (f : Field) (g read low start b v : ℕ) (trees : ℕ → List ℕ → Reading Token) (bytes : List ℕ) → greatest_of f ≡ Some g
    → next_digit longest g read low start b ≡ Ends v
    → field_from f read low start trees (b ∷ bytes) ≡ after_number f start trees v (start + (read + 1)) bytes
number_ended f g read low start b v trees bytes e d =
    number_field f g read low start trees (b ∷ bytes) e ∙ rw (number_from, d) refl

-- the bytes end where a file goes on
pub field_cut : (f : Field) (read low start nodes : ℕ) (pending : List ℕ) → (greatest_of f ≡ None → read ≡ 0) → IsFieldSound f
    → is_whole f pending ≡ false → field_from f read low start (trees_at pending nodes) [] ≡ stopped (Cut (start + read))
field_cut (fields.Opening zero) read low start nodes pending bare l e = rw (bare refl) (ap (λ (k : ℕ). stopped (Cut k)) (omega arith))
field_cut (fields.Opening (suc zero)) read low start nodes pending bare l e = rw (bare refl) (ap (λ (k : ℕ). stopped (Cut k)) (omega
    arith))
field_cut (fields.Opening (suc (suc zero))) read low start nodes pending bare l e =
    rw (bare refl) (ap (λ (k : ℕ). stopped (Cut k)) (omega arith))
field_cut (fields.Opening (suc (suc (suc zero)))) read low start nodes pending bare l e =
    rw (bare refl) (ap (λ (k : ℕ). stopped (Cut k)) (omega arith))
field_cut (fields.Opening (suc (suc (suc (suc zero))))) read low start nodes pending bare l e =
    rw (bare refl) (ap (λ (k : ℕ). stopped (Cut k)) (omega arith))
field_cut (fields.Opening (suc (suc (suc (suc (suc n)))))) read low start nodes pending bare l e = absurd (omega (arith, l))
field_cut fields.Claim read low start nodes pending bare l e = rw (bare refl) (ap (λ (k : ℕ). stopped (Cut k)) (omega arith))
field_cut fields.Node read low start nodes [] bare l e = absurd cc
field_cut fields.Node read low start nodes (zero ∷ more) bare l e = rw (bare refl) (ap (λ (k : ℕ). stopped (Cut k)) (omega arith))
field_cut fields.Node read low start nodes (suc k ∷ more) bare l e = rw (bare refl) (ap (λ (k : ℕ). stopped (Cut k)) (omega arith))
field_cut fields.CoordinateCount read low start nodes pending bare l e = refl
field_cut (fields.Coordinate more) read low start nodes pending bare l e = refl
field_cut fields.Divisor read low start nodes pending bare l e = refl
field_cut fields.MultiplierCount read low start nodes pending bare l e = refl
field_cut (fields.Row more least) read low start nodes pending bare l e = refl
field_cut (fields.Multiplier more row) read low start nodes pending bare l e = refl
field_cut fields.Column read low start nodes pending bare l e = refl
field_cut (fields.Cut col) read low start nodes pending bare l e = refl

-- nothing is left of a file that is whole
pub field_whole : (f : Field) (read low start nodes : ℕ) (pending : List ℕ) → is_whole f pending ≡ true
    → field_from f read low start (trees_at pending nodes) [] ≡ complete
field_whole fields.Node read low start nodes [] e = refl
field_whole fields.Node read low start nodes (k ∷ more) e = absurd cc
field_whole (fields.Opening seen) read low start nodes pending e = absurd cc
field_whole fields.Claim read low start nodes pending e = absurd cc
field_whole fields.CoordinateCount read low start nodes pending e = absurd cc
field_whole (fields.Coordinate more) read low start nodes pending e = absurd cc
field_whole fields.Divisor read low start nodes pending e = absurd cc
field_whole fields.MultiplierCount read low start nodes pending e = absurd cc
field_whole (fields.Row more least) read low start nodes pending e = absurd cc
field_whole (fields.Multiplier more row) read low start nodes pending e = absurd cc
field_whole fields.Column read low start nodes pending e = absurd cc
field_whole (fields.Cut col) read low start nodes pending e = absurd cc

-- ---- the opening

pub apart : (a b : ℕ) → (a ≡ b → ⊥) → (a == b) ≡ false
apart a b h = by (a == b) refl
  where
    by : (t : Bool) → (a == b) ≡ t → t ≡ false
    by false e = refl
    by true e = absurd (h (eqb-true a b e))

pub wrong_byte : (wanted start b : ℕ) (more bytes : List ℕ) (next : ℕ → List ℕ → Reading Token) → (b ≡ wanted → ⊥)
    → opening_at (wanted ∷ more) start (b ∷ bytes) next ≡ stopped (Magic start)
wrong_byte wanted start b more bytes next h = rw (opening_at, apart b wanted h) refl

pub right_byte : (wanted start b : ℕ) (more bytes : List ℕ) (next : ℕ → List ℕ → Reading Token) → b ≡ wanted
    → opening_at (wanted ∷ more) start (b ∷ bytes) next ≡ opening_at more (start + 1) bytes next
right_byte wanted start b more bytes next e = rw (opening_at, eq-eqb b wanted e) refl

next_wanted : (seen : ℕ) → seen < 5 → drop seen opening ≡ get_or opening seen 0 ∷ drop (seen + 1) opening
next_wanted seen l = drop-cons opening seen 0 l ∙ ap (λ (k : ℕ). get_or opening seen 0 ∷ drop k opening) (sym (add-one seen))

-- a byte of the opening that differs, and one that does not
pub opening_wrong : (seen start b : ℕ) (bytes : List ℕ) (next : ℕ → List ℕ → Reading Token) → seen < 5
    → (b ≡ get_or opening seen 0 → ⊥) → opening_at (drop seen opening) start (b ∷ bytes) next ≡ stopped (Magic start)
opening_wrong seen start b bytes next l h =
    ap (λ (ms : List ℕ). opening_at ms start (b ∷ bytes) next) (next_wanted seen l)
    ∙ wrong_byte (get_or opening seen 0) start b (drop (seen + 1) opening) bytes next h

pub opening_right : (seen start b : ℕ) (bytes : List ℕ) (next : ℕ → List ℕ → Reading Token) → seen < 5
    → b ≡ get_or opening seen 0
    → opening_at (drop seen opening) start (b ∷ bytes) next ≡ opening_at (drop (seen + 1) opening) (start + 1) bytes next
opening_right seen start b bytes next l e =
    ap (λ (ms : List ℕ). opening_at ms start (b ∷ bytes) next) (next_wanted seen l)
    ∙ right_byte (get_or opening seen 0) start b (drop (seen + 1) opening) bytes next e

pub opening_last : (seen start b : ℕ) (bytes : List ℕ) (next : ℕ → List ℕ → Reading Token) → seen ≡ 4 → b ≡ get_or opening seen 0
    → opening_at (drop seen opening) start (b ∷ bytes) next ≡ next (start + 1) bytes
opening_last seen start b bytes next last e =
    opening_right seen start b bytes next (omega arith) e
    ∙ ap (λ (k : ℕ). opening_at (drop (k + 1) opening) (start + 1) bytes next) last

-- and whether bytes begin with the opening and the byte of a point's claim
pub claim_wrong : (seen b : ℕ) (bytes : List ℕ) → seen < 5 → (b ≡ get_or opening seen 0 → ⊥)
    → begins_with (drop seen opening ++ 66 ∷ []) (b ∷ bytes) ≡ false
claim_wrong seen b bytes l h =
    ap (λ (ms : List ℕ). begins_with (ms ++ 66 ∷ []) (b ∷ bytes)) (next_wanted seen l)
    ∙ ap (λ (t : Bool). t && begins_with (drop (seen + 1) opening ++ 66 ∷ []) bytes) (apart b (get_or opening seen 0) h)

pub claim_right : (seen b : ℕ) (bytes : List ℕ) → seen < 5 → b ≡ get_or opening seen 0
    → begins_with (drop seen opening ++ 66 ∷ []) (b ∷ bytes) ≡ begins_with (drop (seen + 1) opening ++ 66 ∷ []) bytes
claim_right seen b bytes l e =
    ap (λ (ms : List ℕ). begins_with (ms ++ 66 ∷ []) (b ∷ bytes)) (next_wanted seen l)
    ∙ ap (λ (t : Bool). t && begins_with (drop (seen + 1) opening ++ 66 ∷ []) bytes) (eq-eqb b (get_or opening seen 0) e)

pub claim_last : (seen b : ℕ) (bytes : List ℕ) → seen ≡ 4 → b ≡ get_or opening seen 0
    → begins_with (drop seen opening ++ 66 ∷ []) (b ∷ bytes) ≡ begins_with (66 ∷ []) bytes
claim_last seen b bytes last e =
    claim_right seen b bytes (omega arith) e ∙ ap (λ (k : ℕ). begins_with (drop (k + 1) opening ++ 66 ∷ []) bytes) last

-- ---- nodes

-- the byte of a split: its numbers come next, and both its sides are pending in its place
pub node_split : (j nodes start : ℕ) (ks bytes : List ℕ) → nodes < 1000000
    → number_from longest 4095 0 0 (start + 1) bytes (after_number fields.Column (start + 1) (trees_at (j ∷ j ∷ ks) (nodes + 1)))
    ≡ trees_at (suc j ∷ ks) nodes start (83 ∷ bytes)
node_split j nodes start ks bytes l = rw (tree_at, lt_true nodes 1000000 l) refl
