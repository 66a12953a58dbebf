-- The coefficients of a row are read in their order.
use Rattle.std.specs.Prelude.{◌≡◌, ◌≢◌, ℕ, zero, suc, ◌+◌, ◌<◌, ◌≤◌, ◌^◌, ◌==◌, nat_le, Bool, true, false, not, cond, List, [], ◌∷◌}
use Rattle.std.specs.Prelude.{length}
use Rattle.std.specs.Prelude.{map, filter, filter_map, find, Option, None, Some, option_map, slice_get, ℤ, pos, negsuc, ⊤}
use Rattle.std.specs.List.{enumerate_from, cons_option}
use Rattle.std.specs.Int.RustNames.{unsigned_abs}
use Rattle.std.proofs.Common.{refl, arith, ap, sym, ◌∙◌, subst, leb-false}
use Rattle.std.proofs.lemmas.Bool.{ne_eqb, eqb-true, eqb-false, leb-true}
use Rattle.ip_defs.specs.Limits.{AreOrdered, AreSmall, index_at as place_at}
use Rattle.mps_defs.specs.Numbers.{decimal_text}
use Rattle.mps_defs.specs.Records.{Entry}
use Rattle.mps_defs.specs.TextModels.{units, written_at, number_or_zero}
use Rattle.mps_defs.specs.declared.reading.Number.{Number}
use Rattle.text_laws.proofs.NumberTextLaws.{decimal_text_units}

-- pairs whose numbers rise from one number on and stay below another, with values that are not 0
abbrev pub IsFrom : ℕ → ℕ → List (ℕ × ℤ) → Type 0
IsFrom lo hi [] = ⊤
IsFrom lo hi (p ∷ ps) = ((lo ≤ p.0) × (p.0 < hi)) × ((p.1 ≢ pos 0) × (unsigned_abs p.1 < 2 ^ 64)) × IsFrom (suc p.0) hi ps

pub ordered_from : (n lo : ℕ) (ps : List (ℕ × ℤ)) → AreOrdered n ps → AreSmall (2 ^ 40) ps → ((i : ℕ) → i < length ps → lo ≤ place_at ps i)
    → IsFrom lo n ps
ordered_from n lo [] o s b = tt
ordered_from n lo (p ∷ ps) o s b =
    let inside : 0 < length (p ∷ ps) = omega arith in
    let small = s 0 inside in (
      (b 0 inside, o.within 0 inside),
      (o.present 0 inside, omega arith),
      ordered_from n (suc p.0) ps (record {
        rising = λ i k l m. o.rising (suc i) (suc k) (omega arith) (omega arith);
        within = λ i l. o.within (suc i) (omega arith);
        present = λ i l. o.present (suc i) (omega arith);
      })
          (λ i l. s (suc i) (omega arith))
          (λ i l. let up = o.rising 0 (suc i) (omega arith) (omega arith) in omega arith),
    )

-- no pair has a number below the first one
pub find_above : (j lo hi : ℕ) (ps : List (ℕ × ℤ)) → IsFrom lo hi ps → j < lo → find (λ p. p.0 == j) ps ≡ None
find_above j lo hi [] h l = refl
find_above j lo hi (p ∷ ps) h l =
    let low = h.0.0 in
    ap (λ t. cond t (Some p) (find (λ q. q.0 == j) ps)) (ne_eqb p.0 j (λ e. omega arith)) ∙ find_above j (suc p.0) hi ps h.2 (omega arith)

abbrev shown : ℕ → Option (ℕ × ℤ) → Option Number
shown k o = option_map (λ (p : ℕ × ℤ). number_or_zero (decimal_text p.1 k)) o

abbrev coefs_from : List Entry → List ℕ → ℕ → ℕ → List (List ℕ) → List (ℕ × ℤ)
coefs_from es row k j cs =
    filter (λ (p : ℕ × ℤ). not (unsigned_abs p.1 == 0))
    (map (λ (p : ℕ × Number). (p.0, units k p.1))
    (filter_map (λ (p : ℕ × List ℕ). option_map (λ n. (p.0, n)) (written_at es row p.1)) (enumerate_from j cs)))

one_more : (es : List Entry) (row : List ℕ) (k j : ℕ) (c : List ℕ) (cs : List (List ℕ)) (o : Option Number) → written_at es row c ≡ o
    → coefs_from es row k j (c ∷ cs) ≡ filter (λ (p : ℕ × ℤ). not (unsigned_abs p.1 == 0))
    (map (λ (p : ℕ × Number). (p.0, units k p.1)) (cons_option (option_map (λ n. (j, n)) o)
    (filter_map (λ (p : ℕ × List ℕ). option_map (λ n. (p.0, n)) (written_at es row p.1)) (enumerate_from (suc j) cs))))
one_more es row k j c cs o e =
    let next : j + 1 ≡ suc j = omega arith in
    ap (λ u. filter (λ (p : ℕ × ℤ). not (unsigned_abs p.1 == 0))
    (map (λ (p : ℕ × Number). (p.0, units k p.1))
    (cons_option (option_map (λ n. (j, n)) u)
    (filter_map (λ (p : ℕ × List ℕ). option_map (λ n. (p.0, n)) (written_at es row p.1)) (enumerate_from (j + 1) cs))))) e
    ∙ ap (λ i. filter (λ (p : ℕ × ℤ). not (unsigned_abs p.1 == 0))
    (map (λ (p : ℕ × Number). (p.0, units k p.1))
    (cons_option (option_map (λ n. (j, n)) o)
    (filter_map (λ (p : ℕ × List ℕ). option_map (λ n. (p.0, n)) (written_at es row p.1)) (enumerate_from i cs))))) next

some_size : (z : ℤ) → z ≢ pos 0 → (unsigned_abs z == 0) ≡ false
some_size (pos zero) h = absurd (h refl)
some_size (pos (suc n)) h = ne_eqb (suc n) 0 (λ e. omega arith)
some_size (negsuc n) h = ne_eqb (suc n) 0 (λ e. omega arith)

pub coefs_read : (es : List Entry) (row : List ℕ) (k j : ℕ) (cs : List (List ℕ)) (ps : List (ℕ × ℤ)) → k ≤ 9 → IsFrom j (j + length cs) ps
    → ((i : ℕ) (c : List ℕ) → slice_get cs i ≡ Some c → written_at es row c ≡ shown k (find (λ p. p.0 == j + i) ps))
    → coefs_from es row k j cs ≡ ps
coefs_read es row k j [] [] most f h = refl
coefs_read es row k j [] (p ∷ ps) most f h = absurd (let a = f.0.0 in let b = f.0.1 in omega arith)
coefs_read es row k j (c ∷ cs) [] most f h =
    one_more es row k j c cs None (h 0 c refl) ∙ coefs_read es row k (suc j) cs [] most tt (λ i d e. h (suc i) d e)
coefs_read es row k j (c ∷ cs) (p ∷ ps) most f h = by (p.0 == j) refl
    (λ same. coefs_read es row k (suc j) cs ps most
    (subst (λ (x : ℕ). IsFrom x (suc j + length cs) ps) (ap suc same)
    (later (suc p.0) (j + length (c ∷ cs)) (suc j + length cs) ps f.2 (omega arith))) (λ i d e. h (suc i) d e
    ∙ skip i same))
    (λ apart. coefs_read es row k (suc j) cs (p ∷ ps) most (up apart) (λ i d e. h (suc i) d e ∙ moved i))
  where
    later : (lo hi hi' : ℕ) (qs : List (ℕ × ℤ)) → IsFrom lo hi qs → hi ≡ hi' → IsFrom lo hi' qs
    later lo hi hi' qs g e = subst (λ (x : ℕ). IsFrom lo x qs) e g

    up : (p.0 ≡ j → ⊥) → IsFrom (suc j) (suc j + length cs) (p ∷ ps)
    up apart =
        let low = f.0.0 in let high = f.0.1 in
        ((above apart low, omega arith), f.1, later (suc p.0) (j + length (c ∷ cs)) (suc j + length cs) ps f.2 (omega arith))
      where
        above : (p.0 ≡ j → ⊥) → j ≤ p.0 → suc j ≤ p.0
        above a l = reached (p.0 == suc j) refl
          where
            reached : (t : Bool) → (p.0 == suc j) ≡ t → suc j ≤ p.0
            reached true e = let s = eqb-true p.0 (suc j) e in omega arith
            reached false e = not_less (nat_le (suc j) p.0) refl
              where
                not_less : (u : Bool) → nat_le (suc j) p.0 ≡ u → suc j ≤ p.0
                not_less true g = leb-true (suc j) p.0 g
                not_less false g = absurd (a (let m = leb-false (suc j) p.0 g in omega arith))

    moved : (i : ℕ) → shown k (find (λ q. q.0 == j + suc i) (p ∷ ps)) ≡ shown k (find (λ q. q.0 == suc j + i) (p ∷ ps))
    moved i = let e : j + suc i ≡ suc j + i = omega arith in ap (λ (x : ℕ). shown k (find (λ q. q.0 == x) (p ∷ ps))) e

    skip : (i : ℕ) → p.0 ≡ j → shown k (find (λ q. q.0 == j + suc i) (p ∷ ps)) ≡ shown k (find (λ q. q.0 == suc j + i) ps)
    skip i same =
        let e : j + suc i ≡ suc j + i = omega arith in
        ap (λ t. shown k (cond t (Some p) (find (λ q. q.0 == j + suc i) ps))) (ne_eqb p.0 (j + suc i) (λ s. omega arith))
        ∙ ap (λ (x : ℕ). shown k (find (λ q. q.0 == x) ps)) e

    start : find (λ q. q.0 == j + 0) (p ∷ ps) ≡ cond (p.0 == j) (Some p) (find (λ q. q.0 == j) ps)
    start = let e : j + 0 ≡ j = omega arith in ap (λ (x : ℕ). find (λ q. q.0 == x) (p ∷ ps)) e

    by : (t : Bool) → (p.0 == j) ≡ t → (p.0 ≡ j → coefs_from es row k (suc j) cs ≡ ps)
        → ((p.0 ≡ j → ⊥) → coefs_from es row k (suc j) cs ≡ p ∷ ps) → coefs_from es row k j (c ∷ cs) ≡ p ∷ ps
    by true e here there =
        let same = eqb-true p.0 j e in
        let value = decimal_text_units p.1 k f.1.1 most in
        one_more es row k j c cs (Some (number_or_zero (decimal_text p.1 k)))
        (h 0 c refl ∙ ap (shown k) (start ∙ ap (λ t. cond t (Some p) (find (λ q. q.0 == j) ps)) e))
        ∙ ap (λ (z : ℤ). cond (not (unsigned_abs z == 0)) ((j, z) ∷ coefs_from es row k (suc j) cs) (coefs_from es row k (suc j) cs)) value
        ∙ ap (λ t. cond (not t) ((j, p.1) ∷ coefs_from es row k (suc j) cs) (coefs_from es row k (suc j) cs)) (some_size p.1 f.1.0)
        ∙ ap (λ l. (j, p.1) ∷ l) (here same)
        ∙ ap (λ (x : ℕ). (x, p.1) ∷ ps) (sym same)
    by false e here there =
        let apart : p.0 ≡ j → ⊥ = λ s. eqb-false p.0 j e s in
        let low = f.0.0 in
        one_more es row k j c cs None
        (h 0 c refl
        ∙ ap (shown k) (start
        ∙ ap (λ t. cond t (Some p) (find (λ q. q.0 == j) ps)) e
        ∙ find_above j (suc p.0) (j + length (c ∷ cs)) ps f.2 (omega arith)))
        ∙ there apart
