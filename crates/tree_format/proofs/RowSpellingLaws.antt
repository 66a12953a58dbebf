-- What spells a row sweep is read, piece by piece, whatever follows it.
use Rattle.std.specs.Prelude.{◌≡◌, ℕ, suc, ◌+◌, ◌^◌, ◌≤◌, List, [], ◌∷◌, ◌++◌, length}
use Rattle.std.specs.List.{flat_map}
use Rattle.std.proofs.Common.{arith, refl, ap, ◌∙◌, sym, append_assoc, length-append, lit<}
use Rattle.std.proofs.lemmas.List.{append-nil}
use Rattle.std.proofs.lemmas.List.Sums.{sum_by-cons}
use Rattle.ip_defs.specs.Lists.{Each}
use Rattle.proof_tree.specs.LabelledTrees.{node_count}
use Rattle.tree_format.specs.Readings.{Reading, parts_then}
use Rattle.tree_format.specs.Spellings.{number, claim_bytes, tree_bytes, claim_parts}
use Rattle.tree_format.specs.Grammar.{number_at, claim_at, tree_at, end_at}
use Rattle.tree_format.specs.RowSpellings.{PlainPiece, row_opening, piece_bytes, row_spelling, IsPieceWithin, nodes_of, AreRowsWithin}
use Rattle.tree_format.specs.RowGrammar.{count_at, piece_at, pieces_at, first_row_fault}
use Rattle.tree_format.specs.RowLaws.{RowSpellingsAreRead}
use Rattle.tree_format.specs.declared.tokens.Token.{Token}
use Rattle.tree_format.proofs.FieldLaws.{apart}
use Rattle.tree_format.proofs.SpellingLaws.{number_is_read, claim_is_read, tree_is_read}

-- the nodes of a piece before others
pub nodes_first : (p : PlainPiece) (ps : List PlainPiece) → nodes_of (p ∷ ps) ≡ node_count p.tree + nodes_of ps
nodes_first p ps = sum_by-cons (λ p. node_count p.tree) p ps

pub piece_is_read : (p : PlainPiece) (nodes place : ℕ) (bytes : List ℕ) (next : ℕ → ℕ → List ℕ → Reading Token) → IsPieceWithin p
    → nodes + node_count p.tree ≤ 1000000
    → (piece_at nodes place (piece_bytes p ++ bytes) next).fault
    ≡ (next (nodes + node_count p.tree) (place + length (piece_bytes p)) bytes).fault
piece_is_read p nodes place bytes next within few =
    ap (λ (r : Reading Token). r.fault) read
    ∙ ap (λ (r : Reading Token). r.fault) (tree_is_read p.tree 800 nodes three bytes next within.tree.deep few within.tree.numbers)
    ∙ ap (λ (q : ℕ). (next (nodes + node_count p.tree) q bytes).fault) ended
  where
    first : List ℕ
    first = number p.from

    second : List ℕ
    second = number p.to

    third : List ℕ
    third = claim_bytes p.claim

    fourth : List ℕ
    fourth = tree_bytes p.tree

    three : ℕ
    three = place + length first + length second + length third

    after_claim : ℕ → List ℕ → Reading Token
    after_claim q rest = tree_at 801 nodes q rest next

    after_to : ℕ → ℕ → List ℕ → Reading Token
    after_to to q rest = claim_at q rest after_claim

    after_from : ℕ → ℕ → List ℕ → Reading Token
    after_from from q rest = number_at (10 ^ 6) q rest after_to

    bytes_are : piece_bytes p ++ bytes ≡ first ++ (second ++ (third ++ (fourth ++ bytes)))
    bytes_are = append_assoc (first ++ second ++ third) fourth bytes ∙ append_assoc (first ++ second) third (fourth ++ bytes)
        ∙ append_assoc first second (third ++ (fourth ++ bytes))

    read : piece_at nodes place (piece_bytes p ++ bytes) next
        ≡ parts_then (claim_parts p.claim) (tree_at 801 nodes three (fourth ++ bytes) next)
    read = ap (λ (bs : List ℕ). piece_at nodes place bs next) bytes_are
        ∙ number_is_read (10 ^ 6) p.from place (second ++ (third ++ (fourth ++ bytes))) after_from within.from (lit< tt)
        ∙ number_is_read (10 ^ 6) p.to (place + length first) (third ++ (fourth ++ bytes)) after_to within.to (lit< tt)
        ∙ claim_is_read p.claim (place + length first + length second) (fourth ++ bytes) after_claim within.claim

    ended : three + length fourth ≡ place + length (piece_bytes p)
    ended =
        let a = length-append (first ++ second ++ third) fourth in
        let b = length-append (first ++ second) third in
        let c = length-append first second in
        omega arith

pub pieces_are_read : (ps : List PlainPiece) (nodes place : ℕ) (bytes : List ℕ) (next : ℕ → List ℕ → Reading Token)
    → Each IsPieceWithin ps → nodes + nodes_of ps ≤ 1000000
    → (pieces_at (length ps) nodes place (flat_map piece_bytes ps ++ bytes) next).fault
    ≡ (next (place + length (flat_map piece_bytes ps)) bytes).fault
pieces_are_read [] nodes place bytes next each few = ap (λ (q : ℕ). (next q bytes).fault) (omega arith)
pieces_are_read (p ∷ ps) nodes place bytes next each few =
    let first = piece_bytes p in
    let others = flat_map piece_bytes ps in
    let counted = nodes_first p ps in
    ap (λ (bs : List ℕ). (pieces_at (suc (length ps)) nodes place bs next).fault) (append_assoc first others bytes)
    ∙ piece_is_read p nodes place (others ++ bytes) (λ m q rest. pieces_at (length ps) m q rest next) each.0 (omega arith)
    ∙ pieces_are_read ps (nodes + node_count p.tree) (place + length first) bytes next each.1 (omega arith)
    ∙ ap (λ (q : ℕ). (next q bytes).fault) (let l = length-append first others in omega arith)

pub count_is_read : (n place : ℕ) (bytes : List ℕ) (next : ℕ → ℕ → List ℕ → Reading Token) → 1 ≤ n → n ≤ 10000
    → count_at place (number n ++ bytes) next ≡ next n (place + length (number n)) bytes
count_is_read n place bytes next some few =
    number_is_read 10000 n place bytes _ few (lit< tt) ∙ rw (apart n 0 (λ e. omega arith)) refl

-- the spelling of a sweep, before other bytes
pub regrouped : (ps : List PlainPiece) (more : List ℕ) → row_spelling ps ++ more
    ≡ row_opening ++ (number (length ps) ++ (flat_map piece_bytes ps ++ more))
regrouped ps more = append_assoc (row_opening ++ number (length ps)) (flat_map piece_bytes ps) more
    ∙ append_assoc row_opening (number (length ps)) (flat_map piece_bytes ps ++ more)

-- a spelling with bytes after it
pub followed : (ps : List PlainPiece) (more : List ℕ) → AreRowsWithin ps → (place : ℕ)
    × (first_row_fault (row_spelling ps ++ more) ≡ (end_at place more).fault)
followed ps more within = (
  5 + length (number (length ps)) + length (flat_map piece_bytes ps),
  ap first_row_fault (regrouped ps more)
      ∙ ap (λ (r : Reading Token). r.fault) (count_is_read (length ps) 5 (flat_map piece_bytes ps ++ more)
      (λ n p rest. pieces_at n 0 p rest (λ p rest. end_at p rest)) within.some within.few)
      ∙ pieces_are_read ps 0 (5 + length (number (length ps))) more (λ p rest. end_at p rest) within.each
      (let few = within.nodes in omega arith),
)

pub row_spellings_are_read : RowSpellingsAreRead
row_spellings_are_read bytes ps s =
    ap first_row_fault (s.spelled ∙ sym (append-nil (row_spelling ps))) ∙ (followed ps [] s.within).1
