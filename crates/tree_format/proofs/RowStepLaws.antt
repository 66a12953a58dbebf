-- Reading a row sweep from its bytes, piece by piece.
use Rattle.std.specs.Prelude.{◌≡◌, ℕ, zero, suc, ◌+◌, ◌^◌, ◌≤◌, ◌<◌, List, [], ◌∷◌, ◌++◌, length, take, drop, map}
use Rattle.std.specs.List.{flat_map}
use Rattle.std.proofs.Common.{arith, refl, ap, ◌∙◌, sym, subst, length-append, lit<, get_or}
use Rattle.std.proofs.lemmas.List.{append-nil, flat_map_more, map-append, take_all, take_more}
use Rattle.std.proofs.lemmas.List.Sums.{sum_by_push}
use Rattle.proof_tree.specs.LabelledTrees.{node_count}
use Rattle.proof_tree.specs.Trees.{PlainTree}
use Rattle.proof_tree.specs.declared.claims.Claim.{Claim}
use Rattle.sweep_proof.specs.declared.row_sweeps.RowPiece.{RowPiece}
use Rattle.tree_format.specs.Readings.{Reading, stopped}
use Rattle.tree_format.specs.Spellings.{number, claim_bytes, tree_bytes, IsClaimWithin}
use Rattle.tree_format.specs.Grammar.{opening_at, claim_at, tree_at, end_at, IsErrorOf}
use Rattle.tree_format.specs.RowSpellings.{PlainPiece, plain_piece, row_opening, piece_bytes, row_spelling, IsPieceWithin}
use Rattle.tree_format.specs.RowSpellings.{SpellsRows}
use Rattle.tree_format.specs.RowGrammar.{count_at, piece_at, pieces_at, row_reading, IsRowRefusal}
use Rattle.tree_format.specs.Internal.Steps.{Stands, IsFault, IsValueFault, IsNumberFault, IsTreeStep, IsPieceStep, ArePieces}
use Rattle.tree_format.specs.declared.errors.TreeError.{TreeError}
use Rattle.tree_format.specs.declared.errors.TreeError.TheVariants as faults
use Rattle.tree_format.specs.declared.tokens.Token.{Token}
use Rattle.tree_format.proofs.FieldLaws.{wrong_byte, right_byte}
use Rattle.tree_format.proofs.SpellingLaws.{claim_is_read}
use Rattle.tree_format.proofs.ClaimStepLaws.{HasFaultOf, same_fault, each_more, nothing_stands}
use Rattle.tree_format.proofs.NumberStepLaws.{both_stand, number_reads, stops, error_at, next_drop, nothing_dropped}
use Rattle.tree_format.proofs.RowSpellingLaws.{piece_is_read, pieces_are_read, count_is_read}

-- ---- the opening

-- some bytes of the opening are read
pub record OpeningRead (bytes wanted : List ℕ) (i at k : ℕ) : Type 0 where
  pub on : Stands bytes i at (take k wanted)
  pub left : HasFaultOf (opening_at wanted i (drop i bytes)) (opening_at (drop k wanted) at (drop at bytes))

pub no_byte : (bytes wanted : List ℕ) (i : ℕ) → i ≤ length bytes → OpeningRead bytes wanted i i 0
no_byte bytes wanted i l = record { on = nothing_stands bytes i l; left = λ next. refl }

-- the byte that is wanted next, and a byte that is read
opening_next : (bytes wanted : List ℕ) (at k : ℕ) (next : ℕ → List ℕ → Reading Token) → k < length wanted
    → opening_at (drop k wanted) at (drop at bytes) next ≡ opening_at (get_or wanted k 0 ∷ drop (k + 1) wanted) at (drop at bytes) next
opening_next bytes wanted at k next l = ap (λ (ws : List ℕ). opening_at ws at (drop at bytes) next) (next_drop wanted k l)

pub byte_read : (bytes wanted : List ℕ) (i at j k b : ℕ) → k < length wanted → OpeningRead bytes wanted i at k
    → Stands bytes at j (b ∷ []) → b ≡ get_or wanted k 0 → OpeningRead bytes wanted i j (k + 1)
byte_read bytes wanted i at j k b l o s e = record {
  on = subst (λ (bs : List ℕ). Stands bytes i j bs)
      (ap (λ (c : ℕ). take k wanted ++ c ∷ []) e ∙ sym (take_more wanted k 0 l))
      (both_stand bytes i at j (take k wanted) (b ∷ []) o.on s);
  left = λ next. o.left next ∙ ap (λ (r : Reading Token). r.fault) (opening_next bytes wanted at k next l
      ∙ ap (λ (bs : List ℕ). opening_at (get_or wanted k 0 ∷ drop (k + 1) wanted) at bs next) s.is
      ∙ right_byte (get_or wanted k 0) at b (drop (k + 1) wanted) (drop j bytes) next e
      ∙ ap (λ (p : ℕ). opening_at (drop (k + 1) wanted) p (drop j bytes) next) (sym s.place));
}

-- another byte than the one that is wanted
pub byte_fails : (bytes wanted : List ℕ) (i at j k b : ℕ) → k < length wanted → OpeningRead bytes wanted i at k
    → Stands bytes at j (b ∷ []) → (b ≡ get_or wanted k 0 → ⊥) → IsFault (opening_at wanted i (drop i bytes)) (faults.Magic at)
byte_fails bytes wanted i at j k b l o s differs =
    same_fault (opening_at wanted i (drop i bytes)) (opening_at (drop k wanted) at (drop at bytes)) (faults.Magic at) o.left
    (λ next. stops _ (faults.Magic at) (opening_next bytes wanted at k next l
    ∙ ap (λ (bs : List ℕ). opening_at (get_or wanted k 0 ∷ drop (k + 1) wanted) at bs next) s.is
    ∙ wrong_byte (get_or wanted k 0) at b (drop (k + 1) wanted) (drop j bytes) next differs))

-- no byte is left
pub opening_cut : (bytes wanted : List ℕ) (i at k : ℕ) (e : TreeError) → k < length wanted → OpeningRead bytes wanted i at k
    → (e ≡ faults.Cut at) × (drop at bytes ≡ []) → IsFault (opening_at wanted i (drop i bytes)) e
opening_cut bytes wanted i at k e l o h =
    same_fault (opening_at wanted i (drop i bytes)) (opening_at (drop k wanted) at (drop at bytes)) e o.left
    (λ next. subst (λ (x : TreeError). IsErrorOf (opening_at (drop k wanted) at (drop at bytes) next).fault x) (sym h.0)
    (stops _ (faults.Cut at) (opening_next bytes wanted at k next l
    ∙ ap (λ (bs : List ℕ). opening_at (get_or wanted k 0 ∷ drop (k + 1) wanted) at bs next) h.1)))

pub opening_read : (bytes wanted : List ℕ) (i at : ℕ) → OpeningRead bytes wanted i at (length wanted) → Stands bytes i at wanted
opening_read bytes wanted i at o = subst (λ (ws : List ℕ). Stands bytes i at ws) (take_all (length wanted) wanted (omega arith)) o.on

-- ---- the count

pub zero_fails : (bytes : List ℕ) (i j n : ℕ) → n ≡ 0 → Stands bytes i j (number n)
    → IsValueFault (count_at i (drop i bytes)) (faults.Zero i)
zero_fails bytes i j n e s next =
    stops _ (faults.Zero i)
    (number_reads 10000 bytes i 0 j (lit< tt) (omega arith) (subst (λ (m : ℕ). Stands bytes i j (number m)) e s) _)

-- ---- a piece

-- the steps of a piece stand between two places
pub record AreSteps (bytes : List ℕ) (i j k from to : ℕ) : Type 0 where
  pub first : from ≤ 10 ^ 6
  pub last : to ≤ 10 ^ 6
  pub one : Stands bytes i j (number from)
  pub other : Stands bytes j k (number to)

pub to_fails : (bytes : List ℕ) (i j nodes from : ℕ) (e : TreeError) → from ≤ 10 ^ 6 → Stands bytes i j (number from)
    → IsNumberFault (10 ^ 6) j (drop j bytes) e → IsValueFault (piece_at nodes i (drop i bytes)) e
to_fails bytes i j nodes from e fits s h next =
    error_at _ _ e (ap (λ (r : Reading Token). r.fault) (number_reads (10 ^ 6) bytes i from j (lit< tt) fits s _)) (h _)

steps_follow : (bytes : List ℕ) (i j k nodes from to : ℕ) (next : ℕ → ℕ → List ℕ → Reading Token) → AreSteps bytes i j k from to
    → (piece_at nodes i (drop i bytes) next).fault ≡ (claim_at k (drop k bytes) (λ p rest. tree_at 801 nodes p rest next)).fault
steps_follow bytes i j k nodes from to next s =
    ap (λ (r : Reading Token). r.fault) (number_reads (10 ^ 6) bytes i from j (lit< tt) s.first s.one _)
    ∙ ap (λ (r : Reading Token). r.fault) (number_reads (10 ^ 6) bytes j to k (lit< tt) s.last s.other _)

pub piece_claim_fails : (bytes : List ℕ) (i j k nodes from to : ℕ) (e : TreeError) → AreSteps bytes i j k from to
    → IsFault (claim_at k (drop k bytes)) e → IsValueFault (piece_at nodes i (drop i bytes)) e
piece_claim_fails bytes i j k nodes from to e s h next = error_at _ _ e (steps_follow bytes i j k nodes from to next s) (h _)

claim_follows : (bytes : List ℕ) (k l : ℕ) (c : Claim) (next : ℕ → List ℕ → Reading Token) → IsClaimWithin c
    → Stands bytes k l (claim_bytes c) → (claim_at k (drop k bytes) next).fault ≡ (next l (drop l bytes)).fault
claim_follows bytes k l c next within s =
    ap (λ (r : Reading Token). r.fault) (ap (λ (bs : List ℕ). claim_at k bs next) s.is ∙ claim_is_read c k (drop l bytes) next within)
    ∙ ap (λ (p : ℕ). (next p (drop l bytes)).fault) (sym s.place)

pub piece_tree_fails : (bytes : List ℕ) (i j k l nodes from to : ℕ) (c : Claim) (e : TreeError) → AreSteps bytes i j k from to
    → IsClaimWithin c → Stands bytes k l (claim_bytes c) → IsValueFault (tree_at 801 nodes l (drop l bytes)) e
    → IsValueFault (piece_at nodes i (drop i bytes)) e
piece_tree_fails bytes i j k l nodes from to c e s within t h next =
    error_at _ _ e (steps_follow bytes i j k nodes from to next s
    ∙ claim_follows bytes k l c (λ p rest. tree_at 801 nodes p rest next) within t) (h next)

pub piece_step : (bytes : List ℕ) (i j k nodes after from to : ℕ) (c : Claim) (t : PlainTree) → AreSteps bytes i j k from to
    → IsClaimWithin c → IsTreeStep 801 nodes after t
    → IsPieceStep nodes after (record { from = from; to = to; claim = c; tree = t })
piece_step bytes i j k nodes after from to c t s within h = record {
  within = record {
    from = s.first;
    to = s.last;
    claim = within;
    tree = record {
      count = (let counted = h.counted in let few = h.few in omega arith);
      deep = (let deep = h.deep in omega arith);
      numbers = h.numbers;
    };
  };
  counted = h.counted;
  few = h.few;
}

pub piece_stands : (bytes : List ℕ) (i j k l m from to : ℕ) (c : Claim) (t : PlainTree) → AreSteps bytes i j k from to
    → Stands bytes k l (claim_bytes c) → Stands bytes l m (tree_bytes t)
    → Stands bytes i m (piece_bytes (record { from = from; to = to; claim = c; tree = t }))
piece_stands bytes i j k l m from to c t s claim tree =
    both_stand bytes i l m (number from ++ number to ++ claim_bytes c) (tree_bytes t)
    (both_stand bytes i k l (number from ++ number to) (claim_bytes c)
    (both_stand bytes i j k (number from) (number to) s.one s.other) claim) tree

-- ---- pieces

-- some pieces are read
pub record PiecesRead (bytes : List ℕ) (i at nodes counter count : ℕ) (ps : List RowPiece) : Type 0 where
  pub these : ArePieces counter nodes (map plain_piece ps)
  pub on : Stands bytes i at (flat_map piece_bytes (map plain_piece ps))
  pub more : ℕ
  pub all : more + counter ≡ count
  pub left : HasFaultOf (pieces_at count 0 i (drop i bytes)) (pieces_at more nodes at (drop at bytes))

pub no_piece : (bytes : List ℕ) (i count : ℕ) → i ≤ length bytes → PiecesRead bytes i i 0 0 count []
no_piece bytes i count l = record {
  these = record { size = refl; each = tt; counted = refl; few = omega arith };
  on = nothing_stands bytes i l;
  more = count;
  all = omega arith;
  left = λ next. refl;
}

-- a piece that stands is read
piece_follows : (bytes : List ℕ) (i j before after : ℕ) (p : PlainPiece) (next : ℕ → ℕ → List ℕ → Reading Token)
    → IsPieceStep before after p → Stands bytes i j (piece_bytes p)
    → (piece_at before i (drop i bytes) next).fault ≡ (next after j (drop j bytes)).fault
piece_follows bytes i j before after p next h s =
    ap (λ (bs : List ℕ). (piece_at before i bs next).fault) s.is
    ∙ piece_is_read p before i (drop j bytes) next h.within (let few = h.few in let counted = h.counted in omega arith)
    ∙ ap (λ (n : ℕ). (next n (i + length (piece_bytes p)) (drop j bytes)).fault) (sym h.counted)
    ∙ ap (λ (q : ℕ). (next after q (drop j bytes)).fault) (sym s.place)

-- one piece more among pieces
these_more : (counter before after : ℕ) (ps : List PlainPiece) (p : PlainPiece) → ArePieces counter before ps
    → IsPieceStep before after p → ArePieces (counter + 1) after (ps ++ p ∷ [])
these_more counter before after ps p these h = record {
  size = (let size = these.size in let one = length-append ps (p ∷ []) in omega arith);
  each = each_more IsPieceWithin ps p these.each h.within;
  counted = (let all = sum_by_push (λ p. node_count p.tree) ps p in let before = these.counted in let own = h.counted in omega arith);
  few = h.few;
}

pub piece_read : (bytes : List ℕ) (i at j before after counter count : ℕ) (ps : List RowPiece) (p : RowPiece) → counter < count
    → PiecesRead bytes i at before counter count ps → IsPieceStep before after (plain_piece p)
    → Stands bytes at j (piece_bytes (plain_piece p)) → PiecesRead bytes i j after (counter + 1) count (ps ++ p ∷ [])
piece_read bytes i at j before after counter count ps p l r h s = by r.more r.all r.left
  where
    plain_all : map plain_piece (ps ++ p ∷ []) ≡ map plain_piece ps ++ plain_piece p ∷ []
    plain_all = map-append plain_piece ps (p ∷ [])

    by : (n : ℕ) → n + counter ≡ count → HasFaultOf (pieces_at count 0 i (drop i bytes)) (pieces_at n before at (drop at bytes))
        → PiecesRead bytes i j after (counter + 1) count (ps ++ p ∷ [])
    by zero all left = absurd (omega arith)
    by (suc n) all left = record {
      these = subst (λ (qs : List PlainPiece). ArePieces (counter + 1) after qs) (sym plain_all)
          (these_more counter before after (map plain_piece ps) (plain_piece p) r.these h);
      on = subst (λ (qs : List PlainPiece). Stands bytes i j (flat_map piece_bytes qs)) (sym plain_all)
          (subst (λ (bs : List ℕ). Stands bytes i j bs) (flat_map_more piece_bytes [] (map plain_piece ps) (plain_piece p))
          (both_stand bytes i at j (flat_map piece_bytes (map plain_piece ps)) (piece_bytes (plain_piece p)) r.on s));
      more = n;
      all = omega arith;
      left = λ next. left next
          ∙ piece_follows bytes at j before after (plain_piece p) (λ m q rest. pieces_at n m q rest next) h s;
    }

pub piece_fails : (bytes : List ℕ) (i at nodes counter count : ℕ) (ps : List RowPiece) (e : TreeError) → counter < count
    → PiecesRead bytes i at nodes counter count ps → IsValueFault (piece_at nodes at (drop at bytes)) e
    → IsFault (pieces_at count 0 i (drop i bytes)) e
piece_fails bytes i at nodes counter count ps e l r h = by r.more r.all r.left
  where
    by : (n : ℕ) → n + counter ≡ count → HasFaultOf (pieces_at count 0 i (drop i bytes)) (pieces_at n nodes at (drop at bytes))
        → IsFault (pieces_at count 0 i (drop i bytes)) e
    by zero all left = absurd (omega arith)
    by (suc n) all left =
        same_fault (pieces_at count 0 i (drop i bytes)) (pieces_at (suc n) nodes at (drop at bytes)) e left (λ next. h _)

-- ---- the whole file

-- what the opening is followed by
opening_follows : (bytes : List ℕ) (j : ℕ) (next : ℕ → List ℕ → Reading Token) → Stands bytes 0 j row_opening
    → opening_at row_opening 0 bytes next ≡ next j (drop j bytes)
opening_follows bytes j next s =
    ap (λ (bs : List ℕ). opening_at row_opening 0 bs next) s.is ∙ ap (λ (p : ℕ). next p (drop j bytes)) (sym s.place)

pub rows_count_fails : (bytes : List ℕ) (j : ℕ) (e : TreeError) → Stands bytes 0 j row_opening
    → IsValueFault (count_at j (drop j bytes)) e → IsRowRefusal bytes e
rows_count_fails bytes j e s h = error_at _ _ e (ap (λ (r : Reading Token). r.fault) (opening_follows bytes j _ s)) (h _)

-- the opening and the count of a file
pub record HasCount (bytes : List ℕ) (j k n : ℕ) : Type 0 where
  pub opened : Stands bytes 0 j row_opening
  pub count : Stands bytes j k (number n)
  pub some : 1 ≤ n
  pub few : n ≤ 10000

count_follows : (bytes : List ℕ) (j k n : ℕ) → HasCount bytes j k n → (row_reading bytes).fault
    ≡ (pieces_at n 0 k (drop k bytes) (λ p rest. end_at p rest)).fault
count_follows bytes j k n h =
    ap (λ (r : Reading Token). r.fault) (opening_follows bytes j _ h.opened
    ∙ ap (λ (bs : List ℕ). count_at j bs pieces) h.count.is
    ∙ count_is_read n j (drop k bytes) pieces h.some h.few
    ∙ ap (λ (p : ℕ). pieces n p (drop k bytes)) (sym h.count.place))
  where
    pieces : ℕ → ℕ → List ℕ → Reading Token
    pieces n p rest = pieces_at n 0 p rest (λ p rest. end_at p rest)

pub rows_piece_fails : (bytes : List ℕ) (j k n : ℕ) (e : TreeError) → HasCount bytes j k n
    → IsFault (pieces_at n 0 k (drop k bytes)) e → IsRowRefusal bytes e
rows_piece_fails bytes j k n e h f = error_at _ _ e (count_follows bytes j k n h) (f _)

-- pieces that stand are read
pieces_follow : (bytes : List ℕ) (k l n nodes : ℕ) (ps : List PlainPiece) (next : ℕ → List ℕ → Reading Token) → ArePieces n nodes ps
    → Stands bytes k l (flat_map piece_bytes ps) → (pieces_at n 0 k (drop k bytes) next).fault ≡ (next l (drop l bytes)).fault
pieces_follow bytes k l n nodes ps next these s =
    ap (λ (bs : List ℕ). (pieces_at n 0 k bs next).fault) s.is
    ∙ ap (λ (m : ℕ). (pieces_at m 0 k (flat_map piece_bytes ps ++ drop l bytes) next).fault) (sym these.size)
    ∙ pieces_are_read ps 0 k (drop l bytes) next these.each (let counted = these.counted in let few = these.few in omega arith)
    ∙ ap (λ (p : ℕ). (next p (drop l bytes)).fault) (sym s.place)

tail_at : (l : ℕ) (bytes : List ℕ) → l < length bytes → end_at l (drop l bytes) ≡ stopped (faults.Tail l)
tail_at l bytes more = ap (end_at l) (next_drop bytes l more)

pub rows_tail : (bytes : List ℕ) (j k l n nodes : ℕ) (ps : List PlainPiece) → HasCount bytes j k n → ArePieces n nodes ps
    → Stands bytes k l (flat_map piece_bytes ps) → l < length bytes → IsRowRefusal bytes (faults.Tail l)
rows_tail bytes j k l n nodes ps h these s more =
    count_follows bytes j k n h ∙ pieces_follow bytes k l n nodes ps (λ p rest. end_at p rest) these s
    ∙ ap (λ (r : Reading Token). r.fault) (tail_at l bytes more)

pub rows_read : (bytes : List ℕ) (j k l n nodes : ℕ) (ps : List PlainPiece) → HasCount bytes j k n → ArePieces n nodes ps
    → Stands bytes k l (flat_map piece_bytes ps) → length bytes ≤ l → SpellsRows bytes ps
rows_read bytes j k l n nodes ps h these s over = record {
  within = record {
    some = (let size = these.size in let some = h.some in omega arith);
    few = (let size = these.size in let few = h.few in omega arith);
    each = these.each;
    nodes = (let counted = these.counted in let few = these.few in omega arith);
  };
  spelled = all.is ∙ ap (λ (bs : List ℕ). row_spelling ps ++ bs) (nothing_dropped bytes l over) ∙ append-nil (row_spelling ps);
}
  where
    all : Stands bytes 0 l (row_spelling ps)
    all = both_stand bytes 0 k l (row_opening ++ number (length ps)) (flat_map piece_bytes ps)
        (both_stand bytes 0 j k row_opening (number (length ps)) h.opened
        (subst (λ (m : ℕ). Stands bytes j k (number m)) (sym these.size) h.count)) s
