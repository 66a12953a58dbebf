-- A fault stands whatever follows it.
use Rattle.std.specs.Prelude.{◌≡◌, ℕ, zero, suc, ◌+◌, ◌^◌, ◌==◌, Bool, true, false, nat_lt, List, [], ◌∷◌, ◌++◌, Some}
use Rattle.std.proofs.Common.{refl, sym, ap, ◌∙◌}
use Rattle.tree_format.specs.Readings.{Reading, stopped, part_then}
use Rattle.tree_format.specs.Numbers.{number_from, next_digit, signed}
use Rattle.tree_format.specs.Spellings.{longest, opening}
use Rattle.tree_format.specs.Grammar.{opening_at, coordinates_at, point_at, claim_at, claim_kind, of_point, of_emptiness, of_neither}
use Rattle.tree_format.specs.Grammar.{ClaimKind, multiplier_at, multipliers_at, cert_at, split_at, NodeKind, node_kind, leaf_kind}
use Rattle.tree_format.specs.Grammar.{split_kind, no_kind, node_at, tree_at, end_at, unless_cut}
use Rattle.tree_format.specs.Laws.{FaultsStand}
use Rattle.tree_format.specs.declared.errors.TreeError.{TreeError}
use Rattle.tree_format.specs.declared.errors.TreeError.TheVariants as faults
use Rattle.tree_format.specs.declared.numbers.Digit.{Digit}
use Rattle.tree_format.specs.declared.numbers.Digit.TheVariants.{GoesOn, Ends, Fails}
use Rattle.tree_format.specs.declared.tokens.Token.{Token}
use Rattle.tree_format.specs.declared.tokens.Token.TheVariants.{Claimed, Part}
use Rattle.tree_format.proofs.NumberLaws.{from_ends, from_on, from_fails}

-- a fault of one reading, other than that the bytes end, is one of another
abbrev Stays : Reading Token → Reading Token → Type 0
Stays r s = (e : TreeError) → unless_cut r.fault ≡ Some e → unless_cut s.fault ≡ Some e

-- the same of what follows, from each place, when bytes are added at the end
abbrev Follows : List ℕ → (ℕ → List ℕ → Reading Token) → Type 0
Follows more next = (p : ℕ) (rest : List ℕ) → Stays (next p rest) (next p (rest ++ more))

number_stays : (more : List ℕ) (g read low start : ℕ) (bytes : List ℕ) (next : ℕ → ℕ → List ℕ → Reading Token)
    → ((v p : ℕ) (rest : List ℕ) → Stays (next v p rest) (next v p (rest ++ more)))
    → Stays (number_from longest g read low start bytes next) (number_from longest g read low start (bytes ++ more) next)
number_stays more g read low start [] next h e f = absurd cc
number_stays more g read low start (b ∷ bytes) next h e f =
    by (next_digit longest g read low start b) refl (λ v. number_stays more g (read + 1) v start bytes next h e)
  where
    of : List ℕ → Reading Token
    of rest = number_from longest g read low start (b ∷ rest) next

    by : (d : Digit) → next_digit longest g read low start b ≡ d
        → ((v : ℕ) → unless_cut (number_from longest g (read + 1) v start bytes next).fault ≡ Some e
        → unless_cut (number_from longest g (read + 1) v start (bytes ++ more) next).fault ≡ Some e)
        → unless_cut (of (bytes ++ more)).fault ≡ Some e
    by (GoesOn v) d on =
        ap (λ (r : Reading Token). unless_cut r.fault) (from_on longest g read low start b v (bytes ++ more) next d)
        ∙ on v (sym (ap (λ (r : Reading Token). unless_cut r.fault) (from_on longest g read low start b v bytes next d)) ∙ f)
    by (Ends v) d on =
        ap (λ (r : Reading Token). unless_cut r.fault) (from_ends longest g read low start b v (bytes ++ more) next d)
        ∙ h v (start + (read + 1)) bytes e
        (sym (ap (λ (r : Reading Token). unless_cut r.fault) (from_ends longest g read low start b v bytes next d)) ∙ f)
    by (Fails x) d on =
        ap (λ (r : Reading Token). unless_cut r.fault) (from_fails longest g read low start b x (bytes ++ more) next d)
        ∙ sym (ap (λ (r : Reading Token). unless_cut r.fault) (from_fails longest g read low start b x bytes next d)) ∙ f

coordinates_stay : (more : List ℕ) (n place : ℕ) (bytes : List ℕ) (next : ℕ → List ℕ → Reading Token) → Follows more next
    → Stays (coordinates_at n place bytes next) (coordinates_at n place (bytes ++ more) next)
coordinates_stay more zero place bytes next h = h place bytes
coordinates_stay more (suc n) place bytes next h =
    number_stays more (2 ^ 25) 0 0 place bytes _ (λ v p rest. coordinates_stay more n p rest next h)

multiplier_stays : (more : List ℕ) (row place : ℕ) (bytes : List ℕ) (next : ℕ → List ℕ → Reading Token) → Follows more next
    → Stays (multiplier_at row place bytes next) (multiplier_at row place (bytes ++ more) next)
multiplier_stays more row place bytes next h =
    number_stays more (2 ^ 37) 0 0 place bytes _ (λ v p rest. by v p rest (v == 0))
  where
    by : (v p : ℕ) (rest : List ℕ) (t : Bool) → Stays
        (elim t [ true ↦ stopped (faults.Zero place) | false ↦ part_then (Part row (signed v)) (next p rest) ])
        (elim t [ true ↦ stopped (faults.Zero place) | false ↦ part_then (Part row (signed v)) (next p (rest ++ more)) ])
    by v p rest true = λ e f. f
    by v p rest false = h p rest

multipliers_stay : (more : List ℕ) (n least place : ℕ) (bytes : List ℕ) (next : ℕ → List ℕ → Reading Token) → Follows more next
    → Stays (multipliers_at n least place bytes next) (multipliers_at n least place (bytes ++ more) next)
multipliers_stay more zero least place bytes next h = h place bytes
multipliers_stay more (suc n) least place bytes next h =
    number_stays more 1023 0 0 place bytes _ (λ row p rest. by row p rest (nat_lt row least)
    (λ q others. multipliers_stay more n (row + 1) q others next h))
  where
    by : (row p : ℕ) (rest : List ℕ) (t : Bool) → Follows more (λ p rest. multipliers_at n (row + 1) p rest next) → Stays
        (elim t [
          | true ↦ stopped (faults.Order place)
          | false ↦ multiplier_at row p rest (λ p rest. multipliers_at n (row + 1) p rest next)
        ])
        (elim t [
          | true ↦ stopped (faults.Order place)
          | false ↦ multiplier_at row p (rest ++ more) (λ p rest. multipliers_at n (row + 1) p rest next)
        ])
    by row p rest true on = λ e f. f
    by row p rest false on = multiplier_stays more row p rest (λ p rest. multipliers_at n (row + 1) p rest next) on

cert_stays : (more : List ℕ) (place : ℕ) (bytes : List ℕ) (next : ℕ → List ℕ → Reading Token) → Follows more next
    → Stays (cert_at place bytes next) (cert_at place (bytes ++ more) next)
cert_stays more place bytes next h =
    number_stays more (2 ^ 36) 0 0 place bytes _ (λ q p rest.
    number_stays more 1024 0 0 p rest _ (λ n p rest. multipliers_stay more n 0 p rest next h))

split_stays : (more : List ℕ) (place : ℕ) (bytes : List ℕ) (next : ℕ → List ℕ → Reading Token) → Follows more next
    → Stays (split_at place bytes next) (split_at place (bytes ++ more) next)
split_stays more place bytes next h =
    number_stays more 4095 0 0 place bytes _ (λ col p rest.
    number_stays more (2 ^ 25) 0 0 p rest _ (λ v p rest. h p rest))

tree_stays : (more : List ℕ) (levels nodes place : ℕ) (bytes : List ℕ) (next : ℕ → ℕ → List ℕ → Reading Token)
    → ((n : ℕ) → Follows more (next n)) → Stays (tree_at levels nodes place bytes next) (tree_at levels nodes place (bytes ++ more) next)
tree_stays more zero nodes place [] next h = λ e f. absurd cc
tree_stays more zero nodes place (b ∷ bytes) next h = λ e f. f
tree_stays more (suc levels) nodes place [] next h = λ e f. absurd cc
tree_stays more (suc levels) nodes place (b ∷ bytes) next h = by (nat_lt nodes 1000000) (node_kind b)
    (λ p rest. tree_stays more levels (nodes + 1) p rest (λ n p rest. tree_at levels n p rest next)
    (λ n p rest. tree_stays more levels n p rest next h))
  where
    by : (t : Bool) (kind : NodeKind) → Follows more (λ p rest. tree_at levels (nodes + 1) p rest (λ n p rest. tree_at levels n p
        rest next))
        → Stays
        (node_at t kind place (cert_at (place + 1) bytes (next (nodes + 1)))
        (split_at (place + 1) bytes (λ p rest. tree_at levels (nodes + 1) p rest (λ n p rest. tree_at levels n p rest next))))
        (node_at t kind place (cert_at (place + 1) (bytes ++ more) (next (nodes + 1)))
        (split_at (place + 1) (bytes ++ more) (λ p rest. tree_at levels (nodes + 1) p rest (λ n p rest. tree_at levels n p rest next))))
    by false kind on = λ e f. f
    by true leaf_kind on = cert_stays more (place + 1) bytes (next (nodes + 1)) (h (nodes + 1))
    by true split_kind on = split_stays more (place + 1) bytes _ on
    by true no_kind on = λ e f. f

end_stays : (more : List ℕ) (place : ℕ) (bytes : List ℕ) → Stays (end_at place bytes) (end_at place (bytes ++ more))
end_stays more place [] = λ e f. absurd cc
end_stays more place (b ∷ bytes) = λ e f. f

claim_stays : (more : List ℕ) (place : ℕ) (bytes : List ℕ) (next : ℕ → List ℕ → Reading Token) → Follows more next
    → Stays (claim_at place bytes next) (claim_at place (bytes ++ more) next)
claim_stays more place [] next h = λ e f. absurd cc
claim_stays more place (b ∷ bytes) next h = by (claim_kind b)
  where
    by : (kind : ClaimKind) → Stays
        (elim kind [
          | of_point ↦ part_then Claimed (point_at (place + 1) bytes next)
          | of_emptiness ↦ part_then Claimed (next (place + 1) bytes)
          | of_neither ↦ stopped (faults.Tag place)
        ])
        (elim kind [
          | of_point ↦ part_then Claimed (point_at (place + 1) (bytes ++ more) next)
          | of_emptiness ↦ part_then Claimed (next (place + 1) (bytes ++ more))
          | of_neither ↦ stopped (faults.Tag place)
        ])
    by of_point = number_stays more 4096 0 0 (place + 1) bytes _ (λ n p rest. coordinates_stay more n p rest next h)
    by of_emptiness = h (place + 1) bytes
    by of_neither = λ e f. f

opening_stays : (more wanted : List ℕ) (place : ℕ) (bytes : List ℕ) (next : ℕ → List ℕ → Reading Token) → Follows more next
    → Stays (opening_at wanted place bytes next) (opening_at wanted place (bytes ++ more) next)
opening_stays more [] place bytes next h = h place bytes
opening_stays more (w ∷ ws) place [] next h = λ e f. absurd cc
opening_stays more (w ∷ ws) place (b ∷ bytes) next h = by (b == w) (opening_stays more ws (place + 1) bytes next h)
  where
    by : (t : Bool) → Stays (opening_at ws (place + 1) bytes next) (opening_at ws (place + 1) (bytes ++ more) next) → Stays
        (elim t [ true ↦ opening_at ws (place + 1) bytes next | false ↦ stopped (faults.Magic place) ])
        (elim t [ true ↦ opening_at ws (place + 1) (bytes ++ more) next | false ↦ stopped (faults.Magic place) ])
    by true on = on
    by false on = λ e f. f

pub faults_stand : FaultsStand
faults_stand bytes more e =
    opening_stays more opening 0 bytes _ (λ p rest. claim_stays more p rest _ (λ p rest. tree_stays more 801 0 p rest _
    (λ n p rest. end_stays more p rest))) e
