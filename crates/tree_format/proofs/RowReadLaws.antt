-- Bytes without a fault spell a row sweep, piece by piece.
use Rattle.std.specs.Prelude.{◌≡◌, ℕ, zero, suc, ◌+◌, ◌^◌, ◌==◌, ◌≤◌, ◌<◌, Bool, true, false, List, [], ◌∷◌, ◌++◌, length, Some, None}
use Rattle.std.specs.List.{flat_map}
use Rattle.std.proofs.Common.{arith, refl, ap, ◌∙◌, sym, append_assoc, lit<}
use Rattle.std.proofs.lemmas.Bool.{eqb-false}
use Rattle.std.proofs.lemmas.List.{append-nil}
use Rattle.ip_defs.specs.Lists.{Each}
use Rattle.proof_tree.specs.LabelledTrees.{node_count}
use Rattle.tree_format.specs.Readings.{Reading, stopped}
use Rattle.tree_format.specs.Spellings.{number, claim_bytes, tree_bytes}
use Rattle.tree_format.specs.Grammar.{end_at}
use Rattle.tree_format.specs.RowSpellings.{PlainPiece, row_opening, piece_bytes, IsPieceWithin, nodes_of}
use Rattle.tree_format.specs.RowGrammar.{count_at, pieces_at}
use Rattle.tree_format.specs.RowLaws.{RowReadingsAreSpelled}
use Rattle.tree_format.specs.declared.errors.TreeError.TheVariants as faults
use Rattle.tree_format.specs.declared.tokens.Token.{Token}
use Rattle.tree_format.proofs.GrammarLaws.{Taken, number_taken, claim_taken, tree_taken, opening_taken, nothing_left}
use Rattle.tree_format.proofs.RowSpellingLaws.{nodes_first}

-- four lists one after another at the front of bytes
four : (bytes ks ls ms ns u v w x : List ℕ) → bytes ≡ ks ++ u → u ≡ ls ++ v → v ≡ ms ++ w → w ≡ ns ++ x
    → bytes ≡ (ks ++ ls ++ ms ++ ns) ++ x
four bytes ks ls ms ns u v w x e f g h =
    e ∙ ap (λ (r : List ℕ). ks ++ r) f ∙ sym (append_assoc ks ls v)
    ∙ ap (λ (r : List ℕ). ks ++ ls ++ r) g ∙ sym (append_assoc (ks ++ ls) ms w)
    ∙ ap (λ (r : List ℕ). ks ++ ls ++ ms ++ r) h ∙ sym (append_assoc (ks ++ ls ++ ms) ns x)

-- the count at the front of bytes
count_taken : (place : ℕ) (bytes : List ℕ) (next : ℕ → ℕ → List ℕ → Reading Token) → Each (λ b. b < 256) bytes
    → (count_at place bytes next).fault ≡ None
    → Taken (λ n. (1 ≤ n) × (n ≤ 10000)) number (λ n rest. next n (place + length (number n)) rest) bytes
count_taken place bytes next each none = by (n.value == 0) refl
  where
    n : Taken (λ n. n ≤ 10000) number
        (λ n rest. elim (n == 0) [ true ↦ stopped (faults.Zero place) | false ↦ next n (place + length (number n)) rest ]) bytes
    n = number_taken 10000 place bytes _ (lit< tt) each none

    by : (t : Bool) → (n.value == 0) ≡ t
        → Taken (λ n. (1 ≤ n) × (n ≤ 10000)) number (λ n rest. next n (place + length (number n)) rest) bytes
    by true e = absurd (let no : Some (faults.Zero place) ≡ None = rw e at n.none in cc)
    by false e = record {
      value = n.value;
      fits = ((let some = eqb-false n.value 0 e in omega arith), n.fits);
      others = n.others;
      is = n.is;
      are_bytes = n.are_bytes;
      none = rw e at n.none;
    }

-- pieces at the front of bytes, and what follows them, where the rest has no fault either
record PiecesTaken (n nodes : ℕ) (bytes : List ℕ) (next : ℕ → List ℕ → Reading Token) : Type 0 where
  pieces : List PlainPiece
  size : length pieces ≡ n
  each : Each IsPieceWithin pieces
  few : nodes + nodes_of pieces ≤ 1000000
  others : List ℕ
  is : bytes ≡ flat_map piece_bytes pieces ++ others
  place : ℕ
  none : (next place others).fault ≡ None

pieces_taken : (n nodes place : ℕ) (bytes : List ℕ) (next : ℕ → List ℕ → Reading Token) → nodes ≤ 1000000
    → Each (λ b. b < 256) bytes → (pieces_at n nodes place bytes next).fault ≡ None → PiecesTaken n nodes bytes next
pieces_taken zero nodes place bytes next few each none =
    record { pieces = []; size = refl; each = tt; few = omega arith; others = bytes; is = refl; place = place; none = none }
pieces_taken (suc n) nodes place bytes next few each none =
    let from = number_taken (10 ^ 6) place bytes _ (lit< tt) each none in
    let to = number_taken (10 ^ 6) (place + length (number from.value)) from.others _ (lit< tt) from.are_bytes from.none in
    let third = place + length (number from.value) + length (number to.value) in
    let claim = claim_taken third to.others _ to.are_bytes to.none in
    let tree = tree_taken 801 nodes (third + length (claim_bytes claim.value)) claim.others (λ m p rest. pieces_at n m p rest next)
    claim.are_bytes claim.none in
    let fits = tree.fits in
    let own = node_count tree.value in
    let more = pieces_taken n (nodes + own) _ tree.others next fits.count tree.are_bytes tree.none in
    let p : PlainPiece = record { from = from.value; to = to.value; claim = claim.value; tree = tree.value } in
    let deep = fits.deep in
    let count = fits.count in
    let first = nodes_first p more.pieces in
    let all = more.few in
    record {
      pieces = p ∷ more.pieces;
      size = ap suc more.size;
      each = (
        record {
          from = from.fits;
          to = to.fits;
          claim = claim.fits;
          tree = record { count = omega arith; deep = omega arith; numbers = fits.numbers };
        },
        more.each,
      );
      few = omega arith;
      others = more.others;
      is = four bytes (number p.from) (number p.to) (claim_bytes p.claim) (tree_bytes p.tree) from.others to.others claim.others
          tree.others from.is to.is claim.is tree.is
          ∙ ap (λ (r : List ℕ). piece_bytes p ++ r) more.is
          ∙ sym (append_assoc (piece_bytes p) (flat_map piece_bytes more.pieces) more.others);
      place = more.place;
      none = more.none;
    }

pub row_readings_are_spelled : RowReadingsAreSpelled
row_readings_are_spelled bytes each none =
    let o = opening_taken row_opening 0 bytes _ each none in
    let n = count_taken 5 o.others _ o.are_bytes o.none in
    let t = pieces_taken n.value 0 (5 + length (number n.value)) n.others (λ p rest. end_at p rest) (omega arith) n.are_bytes n.none in
    let end = nothing_left t.place t.others t.none in
    let size = t.size in
    let some = n.fits.0 in
    let few = n.fits.1 in
    let all = t.few in
    let pieces = flat_map piece_bytes t.pieces in (
      t.pieces,
      record {
        within = record { some = omega arith; few = omega arith; each = t.each; nodes = omega arith };
        spelled = o.is ∙ ap (λ (r : List ℕ). row_opening ++ r) n.is
            ∙ ap (λ (k : ℕ). row_opening ++ (number k ++ n.others)) (sym size)
            ∙ ap (λ (r : List ℕ). row_opening ++ (number (length t.pieces) ++ r)) (t.is ∙ ap (λ (r : List ℕ). pieces ++ r) end
            ∙ append-nil pieces)
            ∙ sym (append_assoc row_opening (number (length t.pieces)) pieces);
      },
    )
