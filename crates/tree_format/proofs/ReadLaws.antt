-- What a reader has read, a byte at a time.
use Rattle.std.specs.Prelude.{◌≡◌, ℕ, zero, suc, ◌<◌, Bool, true, false, List, [], ◌∷◌, ◌++◌, Option, Some, None, Result, Ok, Err}
use Rattle.std.proofs.Common.{arith, refl, ap, ◌∙◌, sym, subst, append_assoc, lit<, lit≤, drop}
use Rattle.std.proofs.lemmas.List.{append-nil}
use Rattle.tree_format.specs.Readings.{Reading, stopped, parts_then}
use Rattle.tree_format.specs.Grammar.{reading, first_fault, fault_so_far, parts_so_far, unless_cut, claims_point, shown, begins_with}
use Rattle.tree_format.specs.Grammar.{IsAnswer}
use Rattle.tree_format.specs.Internal.Fields.{is_whole, token_then, claim_from, IsUnclaimed, IsFieldSound}
use Rattle.tree_format.specs.Spellings.{opening}
use Rattle.tree_format.specs.declared.fields.Field.{Field}
use Rattle.tree_format.specs.declared.fields.Field.TheVariants as fields
use Rattle.tree_format.specs.Internal.Remaining.{remaining, left_of, unless_fault, answer_then, claim_unless, HasRead, IsSound}
use Rattle.tree_format.specs.Internal.Remaining.{IsSoundUnless, IsStep, start_with}
use Rattle.tree_format.specs.declared.errors.TreeError.{TreeError}
use Rattle.tree_format.specs.declared.progress.Progress.{Progress}
use Rattle.tree_format.specs.declared.tokens.Token.{Token}
use Rattle.tree_format.proofs.FieldLaws.{field_cut, field_whole}

pub parts_then_more : {A : Type 0} (xs ys : List A) (r : Reading A) → parts_then xs (parts_then ys r) ≡ parts_then (xs ++ ys) r
parts_then_more xs ys r = ap (λ ps. record { parts = ps; fault = r.fault }) (sym (append_assoc xs ys r.parts))

-- ---- the end

-- where no more bytes come no part is left, and no fault but that the bytes end
pub record IsOver (r : Reading Token) : Type 0 where
  pub parts : r.parts ≡ []
  pub fault : unless_cut r.fault ≡ None

over : (s : Progress) → IsSound s → IsOver (left_of s [])
over s sound = by (is_whole s.field s.pending) refl
  where
    by : (t : Bool) → is_whole s.field s.pending ≡ t → IsOver (left_of s [])
    by true e = subst IsOver (sym (field_whole s.field s.read s.low s.start s.nodes s.pending e)) (record { parts = refl; fault = refl })
    by false e = subst IsOver (sym (field_cut s.field s.read s.low s.start s.nodes s.pending sound.bare sound.field e))
        (record { parts = refl; fault = refl })

-- ---- one byte more

-- the whole of bytes with one more and any others
whole : (s t : Progress) (bytes more : List ℕ) (b : ℕ) (answer : Result Token TreeError) → HasRead s bytes
    → answer_then answer (remaining t more) ≡ remaining s (b ∷ more)
    → reading ((bytes ++ b ∷ []) ++ more) ≡ parts_then (parts_so_far bytes) (answer_then answer (remaining t more))
whole s t bytes more b answer h e =
    ap reading (append_assoc bytes (b ∷ []) more) ∙ h.left (b ∷ more) ∙ ap (parts_then (parts_so_far bytes)) (sym e)

no_fault : (t : Progress) → t.fault ≡ None → IsSoundUnless t.fault t → IsOver (remaining t [])
no_fault t none sound =
    let is : remaining t [] ≡ left_of t [] = ap (λ (o : Option TreeError). unless_fault o (left_of t [])) none in
    subst IsOver (sym is) (over t (subst (λ (o : Option TreeError). IsSoundUnless o t) none sound))

-- where the byte has no fault
pub record IsOn (t : Progress) (bytes : List ℕ) (b : ℕ) (token : Token) : Type 0 where
  pub parts : parts_so_far (bytes ++ b ∷ []) ≡ parts_so_far bytes ++ shown token
  pub fault : fault_so_far (bytes ++ b ∷ []) ≡ None
  pub left : (more : List ℕ) → reading ((bytes ++ b ∷ []) ++ more) ≡ parts_then (parts_so_far (bytes ++ b ∷ [])) (remaining t more)

pub read_on : (s t : Progress) (bytes : List ℕ) (b : ℕ) (token : Token) → HasRead s bytes → t.fault ≡ None → IsSoundUnless t.fault t
    → ((more : List ℕ) → token_then token (remaining t more) ≡ remaining s (b ∷ more)) → IsOn t bytes b token
read_on s t bytes b token h none sound e = record {
  parts = parts;
  fault = ap (λ (r : Reading Token). unless_cut r.fault) here ∙ last.fault;
  left = λ more. all more ∙ ap (λ (ps : List Token). parts_then ps (remaining t more)) (sym parts);
}
  where
    last : IsOver (remaining t [])
    last = no_fault t none sound

    all : (more : List ℕ) → reading ((bytes ++ b ∷ []) ++ more) ≡ parts_then (parts_so_far bytes ++ shown token) (remaining t more)
    all more = whole s t bytes more b (Ok token) h (e more) ∙ parts_then_more (parts_so_far bytes) (shown token) (remaining t more)

    here : reading (bytes ++ b ∷ []) ≡ parts_then (parts_so_far bytes ++ shown token) (remaining t [])
    here = ap reading (sym (append-nil (bytes ++ b ∷ []))) ∙ all []

    parts : parts_so_far (bytes ++ b ∷ []) ≡ parts_so_far bytes ++ shown token
    parts = ap (λ (r : Reading Token). r.parts) here ∙ ap (λ (ps : List Token). (parts_so_far bytes ++ shown token) ++ ps) last.parts
        ∙ append-nil (parts_so_far bytes ++ shown token)

-- where the byte has a fault
pub record IsOff (t : Progress) (bytes : List ℕ) (b : ℕ) (e : TreeError) : Type 0 where
  pub fault : fault_so_far (bytes ++ b ∷ []) ≡ Some e
  pub left : (more : List ℕ) → reading ((bytes ++ b ∷ []) ++ more) ≡ parts_then (parts_so_far (bytes ++ b ∷ [])) (remaining t more)

pub read_off : (s t : Progress) (bytes : List ℕ) (b : ℕ) (e : TreeError) → HasRead s bytes → t.fault ≡ Some e → IsSoundUnless t.fault t
    → ((more : List ℕ) → stopped e ≡ remaining s (b ∷ more)) → IsOff t bytes b e
read_off s t bytes b e h some sound stop = record {
  fault = ap (λ (r : Reading Token). unless_cut r.fault) here ∙ subst (λ (o : Option TreeError). IsSoundUnless o t) some sound;
  left = λ more. all more ∙ ap (λ (ps : List Token). parts_then ps (stopped e)) (sym parts)
      ∙ ap (parts_then (parts_so_far (bytes ++ b ∷ []))) (sym (ap (λ (o : Option TreeError). unless_fault o (left_of t more)) some));
}
  where
    all : (more : List ℕ) → reading ((bytes ++ b ∷ []) ++ more) ≡ parts_then (parts_so_far bytes) (stopped e)
    all more = ap reading (append_assoc bytes (b ∷ []) more) ∙ h.left (b ∷ more) ∙ ap (parts_then (parts_so_far bytes)) (sym (stop more))

    here : reading (bytes ++ b ∷ []) ≡ parts_then (parts_so_far bytes) (stopped e)
    here = ap reading (sym (append-nil (bytes ++ b ∷ []))) ∙ all []

    parts : parts_so_far (bytes ++ b ∷ []) ≡ parts_so_far bytes
    parts = ap (λ (r : Reading Token). r.parts) here ∙ append-nil (parts_so_far bytes)

pub answered : (s t : Progress) (bytes : List ℕ) (b : ℕ) (answer : Result Token TreeError) → IsStep s t b answer → HasRead s bytes
    → IsAnswer bytes b answer
answered s t bytes b (Ok token) step h = let on = read_on s t bytes b token h step.fault step.sound step.left in (on.fault, on.parts)
answered s t bytes b (Err e) step h = (read_off s t bytes b e h step.fault step.sound step.left).fault

claim_on : (s t : Progress) (bytes : List ℕ) (b : ℕ) (answer : Result Token TreeError) → IsStep s t b answer → HasRead s bytes
    → (more : List ℕ) → claims_point ((bytes ++ b ∷ []) ++ more) ≡ claim_unless t.fault t more
claim_on s t bytes b answer step h more = ap claims_point (append_assoc bytes (b ∷ []) more) ∙ h.claim (b ∷ more) ∙ sym (step.claim more)

pub stepped : (s t : Progress) (bytes : List ℕ) (b : ℕ) (answer : Result Token TreeError) → IsStep s t b answer → HasRead s bytes
    → HasRead t (bytes ++ b ∷ [])
stepped s t bytes b (Ok token) step h = record {
  left = (read_on s t bytes b token h step.fault step.sound step.left).left;
  claim = claim_on s t bytes b (Ok token) step h;
}
stepped s t bytes b (Err e) step h = record {
  left = (read_off s t bytes b e h step.fault step.sound step.left).left;
  claim = claim_on s t bytes b (Err e) step h;
}

-- ---- the start and the end

-- before the first byte
pub started : HasRead (start_with (801 ∷ [])) []
started = record { left = λ more. refl; claim = λ more. refl }

pub start_sound : IsSound (start_with (801 ∷ []))
start_sound = record {
  read = lit< tt;
  low = lit< tt;
  bare = λ e. refl;
  field = lit< tt;
  place = lit≤ tt;
  nodes = lit≤ tt;
  pending = lit≤ tt;
  claim = refl;
}

-- the fault of the bytes so far
pub ended : (s : Progress) (bytes : List ℕ) → HasRead s bytes → (remaining s []).fault ≡ first_fault bytes
ended s bytes h = sym (ap (λ (bs : List ℕ). first_fault bs) (sym (append-nil bytes)) ∙ ap (λ (r : Reading Token). r.fault) (h.left []))

-- the claim of the bytes so far
pub claimed : (s : Progress) (bytes : List ℕ) → IsSoundUnless s.fault s → HasRead s bytes → s.claims_point ≡ claims_point bytes
claimed s bytes sound h = by s.fault refl ∙ sym (h.claim []) ∙ ap claims_point (append-nil bytes)
  where
    before : (f : Field) (known : Bool) → IsUnclaimed f known → IsFieldSound f → known ≡ claim_from f known []
    before (fields.Opening seen) known e l = e ∙ sym (none seen l)
      where
        none : (seen : ℕ) → seen < 5 → begins_with (drop seen opening ++ 66 ∷ []) [] ≡ false
        none zero l = refl
        none (suc zero) l = refl
        none (suc (suc zero)) l = refl
        none (suc (suc (suc zero))) l = refl
        none (suc (suc (suc (suc zero)))) l = refl
        none (suc (suc (suc (suc (suc n))))) l = absurd (omega (arith, l))
    before fields.Claim known e l = e
    before other known e l = refl

    by : (o : Option TreeError) → s.fault ≡ o → s.claims_point ≡ claim_unless s.fault s []
    by None e =
        let is = subst (λ (o : Option TreeError). IsSoundUnless o s) e sound in
        before s.field s.claims_point is.claim is.field ∙ ap (λ (o : Option TreeError). claim_unless o s []) (sym e)
    by (Some x) e = ap (λ (o : Option TreeError). claim_unless o s []) (sym e)
