-- Chains of solves: a link dropped, further solves, the two halves of a link, and the count of solves.
use Rattle.std.specs.Prelude.{◌≡◌, ◌≢◌, ℕ, zero, suc, ◌+◌, ◌*◌, ◌/◌, ◌^◌, ◌<◌, ◌≤◌, ◌⊎◌, List, [], ◌∷◌, ◌++◌, length, Option, ℤ}
use Rattle.std.proofs.Common.{arith, refl, ap, sym, ◌∙◌, subst, inl, inr, ⊎_elim}
use Rattle.std.proofs.lemmas.Bool.{cases_lt}
use Rattle.std.proofs.lemmas.List.{length-append}
use Rattle.std.proofs.Math.Nat.{pow-suc}
use Rattle.ip_defs.specs.Lists.{Each}
use Rattle.ip_defs.specs.declared.programs.Parts.{Parts}
use Rattle.ip_defs.proofs.ListLaws.{each_weaker}
use Rattle.rhs_sweep.specs.RowSolves.{IsValueOf, NoneBetween}
use Rattle.rhs_sweep.specs.Internal.Walks.{AreFewWith, IsChain, IsChainTo, IsLink, end_of}
use Rattle.sweep_pieces.proofs.RunLaws.{step_kept, value_kept}
use Rattle.sweep_pieces.specs.Runs.{step_at, step_of, value_at}
use Rattle.sweep_solves.specs.declared.made_solves.Made.{Made}

-- ---- numbers

pub less_or_not : (x y : ℕ) → (x ≤ y) ⊎ (y < x)
less_or_not x y = ⊎_elim (λ l. inr l) (λ le. inl le) (cases_lt y x)

pub old_or_new : (k n : ℕ) → k < n + 1 → (k < n) ⊎ (k ≡ n)
old_or_new k n l = ⊎_elim (λ less. inl less) (λ ge. inr (omega arith)) (cases_lt k n)

-- t lies strictly between a and b
pub record IsHalf (a b t : ℕ) : Type 0 where
  pub more : a < t
  pub less : t < b

pub half_between : (a b t : ℕ) → a < b → b ≢ a + 1 → t ≡ (a + b) / 2 → IsHalf a b t
half_between a b t less apart is = by (half a b t is) (wide a b less apart)
  where
    wide : (a b : ℕ) → a < b → b ≢ a + 1 → a + 2 ≤ b
    wide a b less apart = omega arith

    half : (a b t : ℕ) → t ≡ (a + b) / 2 → (2 * t ≤ a + b) × (a + b ≤ 2 * t + 1)
    half a b t is = (omega arith, omega arith)

    by : (2 * t ≤ a + b) × (a + b ≤ 2 * t + 1) → a + 2 ≤ b → IsHalf a b t
    by h w = let down = h.0 in let up = h.1 in record { more = omega arith; less = omega arith }

-- both parts of a gap are at most p
pub record AreHalves (a b t p : ℕ) : Type 0 where
  pub first : t ≤ a + p
  pub second : b ≤ t + p

pub double : (a b j : ℕ) → b ≤ a + 2 ^ suc j → b ≤ a + 2 * 2 ^ j
double a b j le = by (2 ^ j) (2 ^ suc j) (pow-suc 2 j) le
  where
    by : (p q : ℕ) → q ≡ p * 2 → b ≤ a + q → b ≤ a + 2 * p
    by p q twice le = omega arith

pub halves_of : (a b t p : ℕ) → t ≡ (a + b) / 2 → a < b → b ≤ a + 2 * p → AreHalves a b t p
halves_of a b t p is less le = record { first = omega arith; second = omega arith }

-- a gap of more than one step takes a halving
pub one_gap : (a b k : ℕ) → a < b → b ≢ a + 1 → b ≤ a + 2 ^ k → (j : ℕ) × (k ≡ suc j)
one_gap a b zero less apart le = absurd (apart (omega arith))
one_gap a b (suc j) less apart le = (j, refl)

-- ---- chains

fewer_with : (m : Parts) (ms : List Made) (n k : ℕ) → AreFewWith m ms n → k ≤ n → AreFewWith m ms k
fewer_with m ms n k h le = record {
  values = h.values;
  among = h.among;
  different = h.different;
  few = let few = h.few in omega arith;
}

-- the chain without it
pub chain_passed : (m : Parts) (steps : ℕ) (ms : List Made) (a b : ℕ) (ns : List ℕ) → IsChainTo m steps ms a (b ∷ ns)
    → IsChainTo m steps ms b ns
chain_passed m steps ms a b ns h = record {
  halvings = h.chain.1;
  chain = h.chain.4;
  end = h.end;
  counted = fewer_with m ms h.halvings h.chain.1 h.counted (let le = h.chain.3 in omega arith);
}

pub before_end : (m : Parts) (ms : List Made) (a : ℕ) (ns : List ℕ) (n : ℕ) → IsChain m ms a ns n → step_at ms a ≤ step_at ms (end_of a ns)
before_end m ms a [] n h = omega arith
before_end m ms a (b ∷ ns) n h =
    let rest = before_end m ms b ns h.1 h.4 in
    let apart = h.2.apart in
    omega arith

-- ---- one more solve

-- a number in a list with one more solve is one of the others, or the last
number_more : (ms : List Made) (one : Made) (k : ℕ) (P : Type 0) → k < length (ms ++ one ∷ []) → (k < length ms → P)
    → (k ≡ length ms → P) → P
number_more ms one k P l old new = ⊎_elim old (λ ge. new (let sum = length-append ms (one ∷ []) in omega arith)) (cases_lt k (length ms))

longer : (ms : List Made) (one : Made) (k : ℕ) → k < length ms → k < length (ms ++ one ∷ [])
longer ms one k l = let sum = length-append ms (one ∷ []) in omega arith

last_in : (ms : List Made) (one : Made) → length ms < length (ms ++ one ∷ [])
last_in ms one = let sum = length-append ms (one ∷ []) in omega arith

pub one_longer : (ms : List Made) (one : Made) → length (ms ++ one ∷ []) ≡ length ms + 1
one_longer ms one = length-append ms (one ∷ [])

-- the last one's step
pub new_step : (ms : List Made) (one : Made) → step_at (ms ++ one ∷ []) (length ms) ≡ step_of one
new_step [] one = refl
new_step (s ∷ ms) one = new_step ms one

none_kept : (ms : List Made) (one : Made) (x y : ℕ) → NoneBetween ms x y → (x < step_of one → step_of one < y → ⊥)
    → NoneBetween (ms ++ one ∷ []) x y
none_kept ms one x y none out k l p q = number_more ms one k ⊥ l
    (λ old. let same = step_kept ms (one ∷ []) k old in none k old (subst (λ (j : ℕ). x < j) same p) (subst (λ (j : ℕ). j < y) same q))
    (λ e. let same = ap (step_at (ms ++ one ∷ [])) e ∙ new_step ms one in
    out (subst (λ (j : ℕ). x < j) same p) (subst (λ (j : ℕ). j < y) same q))

-- a link of which its step is no inner one
link_kept : (m : Parts) (ms : List Made) (one : Made) (a b k : ℕ) → a < length ms → step_of one ≤ step_at ms a → IsLink m ms a b k
    → IsLink m (ms ++ one ∷ []) a b k
link_kept m ms one a b k in_a before h =
    let from = step_kept ms (one ∷ []) a in_a in
    let to = step_kept ms (one ∷ []) b h.inside in
    let apart = h.apart in
    record {
      inside = longer ms one b h.inside;
      apart = omega arith;
      none = none_kept ms one (step_at (ms ++ one ∷ []) a) (step_at (ms ++ one ∷ []) b)
          (subst (λ (x : ℕ). NoneBetween ms x (step_at (ms ++ one ∷ []) b)) (sym from)
          (subst (λ (y : ℕ). NoneBetween ms (step_at ms a) y) (sym to) h.none))
          (λ p q. absurd (omega arith));
      few = h.few;
      gap = λ differ. subst (λ (x : ℕ). step_at (ms ++ one ∷ []) b ≤ x + 2 ^ k) (sym from)
          (subst (λ (y : ℕ). y ≤ step_at ms a + 2 ^ k) (sym to)
          (h.gap (λ e. differ (value_kept m ms (one ∷ []) a in_a ∙ e ∙ sym (value_kept m ms (one ∷ []) b h.inside)))));
    }

pub chain_kept : (m : Parts) (ms : List Made) (one : Made) (a : ℕ) (ns : List ℕ) (n : ℕ) → a < length ms → step_of one ≤ step_at ms a
    → IsChain m ms a ns n → IsChain m (ms ++ one ∷ []) a ns n
chain_kept m ms one a [] n in_a before h = tt
chain_kept m ms one a (b ∷ ns) n in_a before h = (
  h.0,
  h.1,
  link_kept m ms one a b h.0 in_a before h.2,
  h.3,
  chain_kept m ms one b ns h.1 h.2.inside (let apart = h.2.apart in omega arith) h.4,
)

pub end_inside : (m : Parts) (ms : List Made) (a : ℕ) (ns : List ℕ) (n : ℕ) → a < length ms → IsChain m ms a ns n → end_of a ns < length ms
end_inside m ms a [] n in_a h = in_a
end_inside m ms a (b ∷ ns) n in_a h = end_inside m ms b ns h.1 h.2.inside h.4

-- the values that were found
values_kept : (m : Parts) (ms : List Made) (one : Made) (vs : List (Option ℤ)) → Each (IsValueOf m ms) vs
    → Each (IsValueOf m (ms ++ one ∷ [])) vs
values_kept m ms one vs h = each_weaker (IsValueOf m ms) (IsValueOf m (ms ++ one ∷ [])) vs
    (λ v is. (is.0, longer ms one is.0 is.1, value_kept m ms (one ∷ []) is.0 is.1 ∙ is.2)) h

-- ---- the two halves of a link

pub left_link : (m : Parts) (ms : List Made) (one : Made) (a b : ℕ) → a < length ms → b < length ms
    → NoneBetween ms (step_at ms a) (step_at ms b) → step_at ms a < step_of one → step_of one < step_at ms b → (i : ℕ) → i ≤ 20
    → (value_at m (ms ++ one ∷ []) a ≢ value_at m (ms ++ one ∷ []) (length ms) → step_of one ≤ step_at ms a + 2 ^ i)
    → IsLink m (ms ++ one ∷ []) a (length ms) i
left_link m ms one a b in_a in_b free after before i few gap =
    let from = step_kept ms (one ∷ []) a in_a in
    let to = new_step ms one in
    record {
      inside = last_in ms one;
      apart = omega arith;
      none = none_kept ms one (step_at (ms ++ one ∷ []) a) (step_at (ms ++ one ∷ []) (length ms))
          (λ j l p q. free j l (subst (λ (x : ℕ). x < step_at ms j) from p) (omega arith))
          (λ p q. absurd (omega arith));
      few = few;
      gap = λ differ. subst (λ (x : ℕ). step_at (ms ++ one ∷ []) (length ms) ≤ x + 2 ^ i) (sym from)
          (subst (λ (y : ℕ). y ≤ step_at ms a + 2 ^ i) (sym to) (gap differ));
    }

pub right_link : (m : Parts) (ms : List Made) (one : Made) (a b : ℕ) → a < length ms → b < length ms
    → NoneBetween ms (step_at ms a) (step_at ms b) → step_at ms a < step_of one → step_of one < step_at ms b → (i : ℕ) → i ≤ 20
    → (value_at m (ms ++ one ∷ []) (length ms) ≢ value_at m (ms ++ one ∷ []) b → step_at ms b ≤ step_of one + 2 ^ i)
    → IsLink m (ms ++ one ∷ []) (length ms) b i
right_link m ms one a b in_a in_b free after before i few gap =
    let from = new_step ms one in
    let to = step_kept ms (one ∷ []) b in_b in
    record {
      inside = longer ms one b in_b;
      apart = omega arith;
      none = none_kept ms one (step_at (ms ++ one ∷ []) (length ms)) (step_at (ms ++ one ∷ []) b)
          (λ j l p q. free j l (omega arith) (subst (λ (y : ℕ). step_at ms j < y) to q))
          (λ p q. absurd (omega arith));
      few = few;
      gap = λ differ. subst (λ (x : ℕ). step_at (ms ++ one ∷ []) b ≤ x + 2 ^ i) (sym from)
          (subst (λ (y : ℕ). y ≤ step_of one + 2 ^ i) (sym to) (gap differ));
    }

-- ---- the count

-- one halving fewer where the value is not new
pub same_count : (m : Parts) (ms : List Made) (one : Made) (n k : ℕ) → AreFewWith m ms n → k + 1 ≤ n → AreFewWith m (ms ++ one ∷ []) k
same_count m ms one n k h le = record {
  values = h.values;
  among = values_kept m ms one h.values h.among;
  different = h.different;
  few = let few = h.few in let sum = one_longer ms one in omega arith;
}

-- up to 20 solves more where it is new
pub more_count : (m : Parts) (ms : List Made) (one : Made) (n k : ℕ) → AreFewWith m ms n → k ≤ n + 19
    → ((i : ℕ) → i < length ms → value_at m ms i ≢ value_at m (ms ++ one ∷ []) (length ms)) → AreFewWith m (ms ++ one ∷ []) k
more_count m ms one n k h le new = record {
  values = value_at m (ms ++ one ∷ []) (length ms) ∷ h.values;
  among = ((length ms, last_in ms one, refl), values_kept m ms one h.values h.among);
  different = (
    each_weaker (IsValueOf m ms) (λ w. w ≢ value_at m (ms ++ one ∷ []) (length ms)) h.values
        (λ w is e. new is.0 is.1 (is.2 ∙ e)) h.among,
    h.different,
  );
  few = let few = h.few in let sum = one_longer ms one in omega arith;
}
