-- What a check has taken, byte by byte, and its answer to a whole file.
use Rattle.std.specs.Prelude.{◌≡◌, ℕ, ◌+◌, ◌<◌, ◌≤◌, List, [], ◌∷◌, ◌++◌, length, ℤ, pos, Bool, true, false, Option, Some, None, Result}
use Rattle.std.specs.Prelude.{Ok, Err}
use Rattle.std.specs.List.{flat_map}
use Rattle.std.specs.Option.{option_or}
use Rattle.std.proofs.Common.{refl, arith, ap, sym, ◌∙◌, subst, take, drop, get_or, append_assoc}
use Rattle.std.proofs.lemmas.List.{length-map, take_all, take_more, take-append-drop}
use Rattle.ip_defs.specs.declared.certificates.Bound.TheVariants.{Infinite}
use Rattle.ip_defs.specs.declared.programs.Column.{Column}
use Rattle.ip_defs.specs.declared.programs.Parts.{Parts}
use Rattle.ip_defs.specs.Program.{box_of}
use Rattle.ip_defs.proofs.FirstLaws.{either_none}
use Rattle.ip_defs.proofs.ListLaws.{each_append}
use Rattle.proof_tree.specs.Internal.Numbered.{passed_over}
use Rattle.proof_tree.specs.LabelledTrees.{nodes}
use Rattle.proof_tree.specs.Trees.{PlainTree, tree_bound, tree_misfit, misfit_at}
use Rattle.proof_tree.specs.Verdicts.{claim_misfit, judged}
use Rattle.proof_tree.specs.declared.claims.Claim.{Claim}
use Rattle.proof_tree.specs.declared.claims.Claim.TheVariants.{Best, Empty}
use Rattle.proof_tree.specs.declared.faults.Shape.{Shape}
use Rattle.proof_tree.specs.declared.verdicts.Verdict.{Verdict}
use Rattle.proof_tree.proofs.NumberedLaws.{pass_none, pass_some}
use Rattle.tree_format.proofs.GrammarLaws.{readings_are_spelled}
use Rattle.tree_format.proofs.SpellingLaws.{spellings_are_read}
use Rattle.tree_format.proofs.StandLaws.{faults_stand}
use Rattle.tree_format.specs.Grammar.{first_fault, fault_so_far, parts_so_far, unless_cut, claims_point, shown, IsAnswer}
use Rattle.tree_format.specs.Internal.Remaining.{HasRead}
use Rattle.tree_format.specs.Internal.Stretches.{claim_of}
use Rattle.tree_format.specs.Spellings.{Spells, claim_parts, tree_parts, coordinate_part, IsClaimWithin}
use Rattle.tree_format.specs.declared.errors.TreeError.{TreeError}
use Rattle.tree_format.specs.declared.progress.Progress.{Progress}
use Rattle.tree_format.specs.declared.tokens.Token.{Token}
use Rattle.tree_format.specs.declared.tokens.Token.TheVariants.{Nothing, Claimed, Coordinate, SplitAt, LeafQ, Parts as Count, Part}
use Rattle.tree_checker.specs.Internal.Streaming.{IsWalked, IsStreamingBy, IsStreaming}
use Rattle.tree_checker.specs.Internal.Walks.{walk_of, taken, unless_misfit, walked, start_of}
use Rattle.tree_checker.specs.declared.streams.Streaming.{Streaming}
use Rattle.tree_checker.specs.declared.walks.Walk.{Walk}
use Rattle.tree_checker.specs.Streams.{HasStreamed, first_misfit}
use Rattle.tree_checker.proofs.PartLaws.{IsAfter, walked_both, point_walked}
use Rattle.tree_checker.proofs.TreeLaws.{tree_walked}
use Rattle.tree_format.specs.declared.errors.TreeError.TheVariants as faults

-- ---- a byte

-- a token is walked through as the part that it is
token_walked : (m : Parts) (w : Walk) (token : Token) → walked m w (shown token) ≡ taken m w token
token_walked m w Nothing = by w.misfit
  where
    by : (o : Option Shape) → w ≡ unless_misfit o w w
    by None = refl
    by (Some e) = refl
token_walked m w Claimed = refl
token_walked m w (Coordinate z) = refl
token_walked m w (SplitAt col at) = refl
token_walked m w (LeafQ q) = refl
token_walked m w (Count n) = refl
token_walked m w (Part row k) = refl

-- the fault of bytes stands
pub still_failed : (m : Parts) (s : Streaming) (e : TreeError) (bytes more : List ℕ) → s.fault ≡ Some e → IsStreaming m s bytes
    → IsStreaming m s (bytes ++ more)
still_failed m s e bytes more f h =
    let one = subst (λ (o : Option TreeError). IsStreamingBy o m s bytes) f h in
    subst (λ (o : Option TreeError). IsStreamingBy o m s (bytes ++ more)) (sym f) (faults_stand bytes more e one)

pub failed_fault : (m : Parts) (s : Streaming) (e : TreeError) (bytes : List ℕ) → s.fault ≡ Some e → IsStreaming m s bytes
    → fault_so_far bytes ≡ Some e
failed_fault m s e bytes f h = subst (λ (o : Option TreeError). IsStreamingBy o m s bytes) f h

pub unfailed : (m : Parts) (s : Streaming) (bytes : List ℕ) → s.fault ≡ None → IsStreaming m s bytes → IsWalked m s bytes
unfailed m s bytes f h = subst (λ (o : Option TreeError). IsStreamingBy o m s bytes) f h

pub byte_walked : (m : Parts) (s : Streaming) (r : Progress) (w : Walk) (b : ℕ) (token : Token) (bytes : List ℕ) → s.fault ≡ None → b < 256
    → ((bytes : List ℕ) → HasRead s.reader bytes → IsAnswer bytes b (Ok token))
    → ((bytes : List ℕ) → HasRead s.reader bytes → HasRead r (bytes ++ b ∷ [])) → w ≡ taken m s.walk token → IsStreaming m s bytes
    → IsStreaming m (record { reader = r; walk = w; fault = s.fault }) (bytes ++ b ∷ [])
byte_walked m s r w b token bytes none small answer read is h =
    let one = unfailed m s bytes none h in
    let on = answer bytes one.read in
    let parts = walked_both m (start_of m) (parts_so_far bytes) (shown token) in
    subst (λ (o : Option TreeError). IsStreamingBy o m (record { reader = r; walk = w; fault = s.fault }) (bytes ++ b ∷ [])) (sym none)
    (record {
      read = read bytes one.read;
      each = each_append (λ i. i < 256) bytes (b ∷ []) one.each (small, tt);
      none = on.0;
      walk = is ∙ ap (λ (v : Walk). taken m v token) one.walk ∙ sym (token_walked m (walked m (start_of m) (parts_so_far bytes)) token)
          ∙ sym parts ∙ ap (walked m (start_of m)) (sym on.1);
    })

-- ---- the end

pub sure_fault : (o : Option TreeError) (e : TreeError) → unless_cut o ≡ Some e → o ≡ Some e
sure_fault None e h = absurd cc
sure_fault (Some (faults.Cut p)) e h = absurd cc
sure_fault (Some (faults.Magic p)) e h = h
sure_fault (Some (faults.LongNumber p)) e h = h
sure_fault (Some (faults.Order p)) e h = h
sure_fault (Some (faults.Zero p)) e h = h
sure_fault (Some (faults.Width p)) e h = h
sure_fault (Some (faults.TooDeep p)) e h = h
sure_fault (Some (faults.TooMany p)) e h = h
sure_fault (Some (faults.Tail p)) e h = h
sure_fault (Some (faults.Tag p)) e h = h
sure_fault (Some faults.Memory) e h = h

-- a walk through all parts of a proof
pub record IsProofWalk (m : Parts) (c : Claim) (t : PlainTree) (kind : Bool) (w : Walk) : Type 0 where
  pub claim : claim_of kind w.point ≡ c
  pub misfit : tree_misfit (length m.columns) (length m.rows) t ≡ w.misfit
  pub bound : w.misfit ≡ None → w.bound ≡ tree_bound m t

-- the walk before the first node
abbrev before_tree : Parts → List ℤ → Walk
before_tree m x = walk_of x (pos 0) 0 [] (record { area = box_of m; cuts = [] }) 0 None Infinite

abbrev point_of : Claim → List ℤ
point_of (Best x) = x
point_of Empty = []

abbrev kind_of : Claim → Bool
kind_of (Best x) = true
kind_of Empty = false

claim_walked : (m : Parts) (c : Claim) (ps : List Token) → IsClaimWithin c
    → walked m (start_of m) (claim_parts c ++ ps) ≡ walked m (before_tree m (point_of c)) ps
claim_walked m (Best x) ps h =
    walked_both m (start_of m) (flat_map coordinate_part x) ps
    ∙ ap (λ (w : Walk). walked m w ps) (point_walked m [] x (record { area = box_of m; cuts = [] }) Infinite (omega (arith, h.0)))
claim_walked m Empty ps h = refl

claim_is : (c : Claim) → claim_of (kind_of c) (point_of c) ≡ c
claim_is (Best x) = refl
claim_is Empty = refl

kind_is : (bytes : List ℕ) (c : Claim) (t : PlainTree) → Spells bytes c t → claims_point bytes ≡ kind_of c
kind_is bytes (Best x) t s = ap claims_point s.spelled
kind_is bytes Empty t s = ap claims_point s.spelled

after_all : (m : Parts) (c : Claim) (t : PlainTree) (kind : Bool) (r : Result ℕ Shape) (w : Walk) → kind ≡ kind_of c
    → passed_over (misfit_at (length m.columns) (length m.rows)) 0 (nodes t) ≡ r
    → IsAfter m (point_of c) (record { area = box_of m; cuts = [] }) Infinite t r w → IsProofWalk m c t kind w
after_all m c t kind (Ok k) w e p h = record {
  claim = ap (λ (v : Walk). claim_of kind v.point) h ∙ ap (λ (b : Bool). claim_of b (point_of c)) e ∙ claim_is c;
  misfit = pass_none (misfit_at (length m.columns) (length m.rows)) 0 (nodes t) k p ∙ sym (ap (λ (v : Walk). v.misfit) h);
  bound = λ none. ap (λ (v : Walk). v.bound) h;
}
after_all m c t kind (Err s) w e p h = record {
  claim = ap (claim_of kind) h.1 ∙ ap (λ (b : Bool). claim_of b (point_of c)) e ∙ claim_is c;
  misfit = pass_some (misfit_at (length m.columns) (length m.rows)) 0 (nodes t) s p ∙ sym h.0;
  bound = λ none. absurd (let both = sym none ∙ h.0 in cc);
}

pub proof_walked : (m : Parts) (bytes : List ℕ) (c : Claim) (t : PlainTree) → Spells bytes c t
    → IsProofWalk m c t (claims_point bytes) (walked m (start_of m) (parts_so_far bytes))
proof_walked m bytes c t s =
    let size = length-map m.columns (λ (col : Column). (col.lo, col.hi)) in
    let deep = s.tree.deep in
    let on = tree_walked m t (point_of c) (record { area = box_of m; cuts = [] }) 0 Infinite s.tree.numbers (omega arith)
    (omega (arith, s.tree.count)) size in
    let is = ap (walked m (start_of m)) (spellings_are_read bytes c t s).1 ∙ claim_walked m c (tree_parts t) s.claim in
    subst (IsProofWalk m c t (claims_point bytes)) (sym is)
    (after_all m c t (claims_point bytes) (passed_over (misfit_at (length m.columns) (length m.rows)) 0 (nodes t)) _
    (kind_is bytes c t s) refl on)

-- bytes without a fault spell a proof that was walked through
pub record IsWhole (m : Parts) (bytes : List ℕ) (w : Walk) : Type 0 where
  pub c : Claim
  pub t : PlainTree
  pub spells : Spells bytes c t
  pub walk : IsProofWalk m c t (claims_point bytes) w

pub whole_walked : (m : Parts) (s : Streaming) (bytes : List ℕ) → IsWalked m s bytes → None ≡ first_fault bytes → IsWhole m bytes s.walk
whole_walked m s bytes h none =
    let spelled = readings_are_spelled bytes h.each (sym none) in
    record {
      c = spelled.0;
      t = spelled.1;
      spells = spelled.2;
      walk = subst (IsProofWalk m spelled.0 spelled.1 (claims_point bytes)) (sym h.walk)
          (proof_walked m bytes spelled.0 spelled.1 spelled.2);
    }

-- what is known of a check at the end of its file, where no byte had a fault
pub record IsEnd (m : Parts) (bytes : List ℕ) (model : Parts) (s : Streaming) (kind : Bool) : Type 0 where
  pub same : model ≡ m
  pub whole : IsWhole m bytes s.walk
  pub claims : kind ≡ claims_point bytes

pub ended : (m : Parts) (bytes : List ℕ) (model : Parts) (s : Streaming) (kind : Bool) (v : Parts × Streaming) → (model, s) ≡ v
    → s.fault ≡ None → HasStreamed m v bytes → (HasRead s.reader bytes → None ≡ first_fault bytes)
    → (HasRead s.reader bytes → kind ≡ claims_point bytes) → IsEnd m bytes model s kind
ended m bytes model s kind v is none h fault point =
    let streamed = subst (λ (w : Parts × Streaming). HasStreamed m w bytes) (sym is) h in
    let walked = unfailed m s bytes none streamed.1 in
    record { same = streamed.0; whole = whole_walked m s bytes walked (fault walked.read); claims = point walked.read }

pub columns_are : (columns : List Column) (parts model m : Parts) → columns ≡ parts.columns → parts ≡ model → model ≡ m
    → length columns ≡ length m.columns
columns_are columns parts model m first second third =
    ap (λ (xs : List Column). length xs) (first ∙ ap (λ (p : Parts). p.columns) (second ∙ third))

-- the misfit of a walk is that of the proof
pub misfit_is : (m : Parts) (c : Claim) (t : PlainTree) (kind : Bool) (w : Walk) → IsProofWalk m c t kind w
    → option_or (claim_misfit (length m.columns) (claim_of kind w.point)) w.misfit ≡ first_misfit m c t
misfit_is m c t kind w h =
    ap (λ (d : Claim). option_or (claim_misfit (length m.columns) d) w.misfit) h.claim
    ∙ ap (option_or (claim_misfit (length m.columns) c)) (sym h.misfit)

-- where there is none the verdict is that on the proof
pub verdict_is : (m : Parts) (c : Claim) (t : PlainTree) (kind : Bool) (w : Walk) → IsProofWalk m c t kind w → first_misfit m c t ≡ None
    → judged m (claim_of kind w.point) w.bound ≡ judged m c (tree_bound m t)
verdict_is m c t kind w h none =
    let both = either_none (claim_misfit (length m.columns) c) (tree_misfit (length m.columns) (length m.rows) t) none in
    ap (λ (d : Claim). judged m d w.bound) h.claim ∙ ap (judged m c) (h.bound (sym h.misfit ∙ both.1))

pub misfit_found : (m : Parts) (bytes : List ℕ) (w : Walk) (kind : Bool) (columns : ℕ) (o : Option Shape) (h : IsWhole m bytes w)
    → kind ≡ claims_point bytes → columns ≡ length m.columns → o ≡ option_or (claim_misfit columns (claim_of kind w.point)) w.misfit
    → first_misfit m h.c h.t ≡ o
misfit_found m bytes w kind columns o h e f is =
    sym (is ∙ ap (λ (n : ℕ). option_or (claim_misfit n (claim_of kind w.point)) w.misfit) f
    ∙ ap (λ (b : Bool). option_or (claim_misfit (length m.columns) (claim_of b w.point)) w.misfit) e
    ∙ misfit_is m h.c h.t (claims_point bytes) w h.walk)

pub verdict_found : (m : Parts) (bytes : List ℕ) (w : Walk) (kind : Bool) (v : Verdict) (h : IsWhole m bytes w) → kind ≡ claims_point bytes
    → first_misfit m h.c h.t ≡ None → v ≡ judged m (claim_of kind w.point) w.bound → v ≡ judged m h.c (tree_bound m h.t)
verdict_found m bytes w kind v h e none is =
    is ∙ ap (λ (b : Bool). judged m (claim_of b w.point) w.bound) e ∙ verdict_is m h.c h.t (claims_point bytes) w h.walk none

-- ---- pieces

-- a check that has taken part of a piece takes its next byte
pub piece_on : (old mid new : Parts × Streaming) (piece : List ℕ) (i : ℕ) → i < length piece
    → ((m : Parts) (bytes : List ℕ) → HasStreamed m old bytes → HasStreamed m mid (bytes ++ take i piece))
    → ((m : Parts) (bytes : List ℕ) → HasStreamed m mid bytes → HasStreamed m new (bytes ++ get_or piece i 0 ∷ []))
    → (m : Parts) (bytes : List ℕ) → HasStreamed m old bytes → HasStreamed m new (bytes ++ take (i + 1) piece)
piece_on old mid new piece i l before step m bytes h =
    subst (HasStreamed m new) (append_assoc bytes (take i piece) (get_or piece i 0 ∷ [])
    ∙ ap (λ (more : List ℕ). bytes ++ more) (sym (take_more piece i 0 l))) (step m (bytes ++ take i piece) (before m bytes h))

-- all bytes of a piece are taken
pub piece_whole : (m : Parts) (s : Parts × Streaming) (bytes piece : List ℕ) (i : ℕ) → length piece ≤ i
    → HasStreamed m s (bytes ++ take i piece) → HasStreamed m s (bytes ++ piece)
piece_whole m s bytes piece i l h = subst (λ (more : List ℕ). HasStreamed m s (bytes ++ more)) (take_all i piece l) h

-- a fault in a piece is that of the whole piece
pub piece_failed : (m : Parts) (s : Parts × Streaming) (bytes piece : List ℕ) (i : ℕ) (e : TreeError) → s.1.fault ≡ Some e
    → HasStreamed m s (bytes ++ take i piece) → HasStreamed m s (bytes ++ piece)
piece_failed m s bytes piece i e f h =
    subst (HasStreamed m s) (append_assoc bytes (take i piece) (drop i piece)
    ∙ ap (λ (more : List ℕ). bytes ++ more) (take-append-drop i piece))
    (h.0, still_failed m s.1 e (bytes ++ take i piece) (drop i piece) f h.1)

-- a check knows its model
pub own_model : (m : Parts) (s : Parts × Streaming) (bytes : List ℕ) → HasStreamed m s bytes → HasStreamed s.0 s bytes
own_model m s bytes h = (refl, subst (λ n. IsStreaming n s.1 bytes) (sym h.0) h.1)
