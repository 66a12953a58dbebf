-- A chain with one more solve half-way in its first gap: the value there is one of those at the ends of the gap, or a new one.
use Rattle.std.specs.Prelude.{◌≡◌, ◌≢◌, ◌⊎◌, ℕ, suc, ◌+◌, ◌/◌, ◌^◌, ◌<◌, ◌≤◌, List, [], ◌∷◌, ◌++◌, length, Option, ℤ, pos}
use Rattle.std.proofs.Common.{arith, refl, sym, ◌∙◌, subst, inl, inr}
use Rattle.ip_defs.specs.declared.programs.Parts.{Parts}
use Rattle.rhs_sweep.specs.RowSolves.{IsNextStep}
use Rattle.rhs_sweep.specs.RowSolves.IsNamedStep.{half_way}
use Rattle.rhs_sweep.specs.Internal.Walks.{AreFewWith, IsChainTo, IsLink, end_of}
use Rattle.rhs_sweep.proofs.ChainLaws.{IsHalf, AreHalves, double, half_between, halves_of, one_gap, one_longer, less_or_not}
use Rattle.rhs_sweep.proofs.ChainLaws.{before_end, chain_kept, end_inside, left_link, new_step, right_link, same_count, more_count}
use Rattle.rhs_sweep.proofs.ValueLaws.{IsAtMostValue, same_or_not, same_values}
use Rattle.sweep_pieces.proofs.RunLaws.{step_kept, value_kept}
use Rattle.sweep_pieces.specs.Runs.{step_at, step_of, value_at}
use Rattle.sweep_solves.specs.declared.made_solves.Made.{Made}

-- values never rise along the steps of solves
abbrev pub NeverRise : Parts → List Made → Type 0
NeverRise m ms = (i j : ℕ) → i < length ms → j < length ms → step_at ms i ≤ step_at ms j → IsAtMostValue (value_at m ms j) (value_at m ms i)

-- a value in a gap that is neither of its ends is that of no solve
new_value : (m : Parts) (ms : List Made) (one : Made) (a b i : ℕ) → a < length ms → b < length ms
    → ((k : ℕ) → k < length ms → step_at ms a < step_at ms k → step_at ms k < step_at ms b → ⊥)
    → step_at ms a < step_of one → step_of one < step_at ms b → NeverRise m (ms ++ one ∷ [])
    → value_at m (ms ++ one ∷ []) (length ms) ≢ value_at m (ms ++ one ∷ []) a
    → value_at m (ms ++ one ∷ []) (length ms) ≢ value_at m (ms ++ one ∷ []) b
    → i < length ms → value_at m ms i ≢ value_at m (ms ++ one ∷ []) (length ms)
new_value m ms one a b i in_a in_b none more less fall not_a not_b in_i e =
    by (less_or_not (step_at ms i) (step_at ms a)) (less_or_not (step_at ms b) (step_at ms i))
  where
    all : List Made
    all = ms ++ one ∷ []

    x : ℕ
    x = length ms

    by : (step_at ms i ≤ step_at ms a) ⊎ (step_at ms a < step_at ms i) → (step_at ms b ≤ step_at ms i) ⊎ (step_at ms i < step_at ms b) → ⊥
    by (inl l) other =
        let long = one_longer ms one in
        let si = step_kept ms (one ∷ []) i in_i in
        let sa = step_kept ms (one ∷ []) a in_a in
        let sx = new_step ms one in
        let first = fall i a (omega arith) (omega arith) (omega arith) in
        let second = fall a x (omega arith) (omega arith) (omega arith) in
        let same = value_kept m ms (one ∷ []) i in_i ∙ e in
        not_a (same_values (value_at m (ms ++ one ∷ []) x) (value_at m (ms ++ one ∷ []) a) second
        (subst (λ (v : Option ℤ). IsAtMostValue (value_at m (ms ++ one ∷ []) a) v) same first))
    by (inr l) (inl u) =
        let long = one_longer ms one in
        let si = step_kept ms (one ∷ []) i in_i in
        let sb = step_kept ms (one ∷ []) b in_b in
        let sx = new_step ms one in
        let first = fall b i (omega arith) (omega arith) (omega arith) in
        let second = fall x b (omega arith) (omega arith) (omega arith) in
        let same = value_kept m ms (one ∷ []) i in_i ∙ e in
        not_b (same_values (value_at m (ms ++ one ∷ []) x) (value_at m (ms ++ one ∷ []) b)
        (subst (λ (v : Option ℤ). IsAtMostValue v (value_at m (ms ++ one ∷ []) b)) same first) second)
    by (inr l) (inr u) = none i in_i l u

pub halved_chain : (m : Parts) (steps : ℕ) (ms : List Made) (one : Made) (a b : ℕ) (ns : List ℕ) → a < length ms
    → IsChainTo m steps ms a (b ∷ ns) → value_at m ms a ≢ value_at m ms b → step_at ms b ≢ step_at ms a + 1
    → step_of one ≡ (step_at ms a + step_at ms b) / 2 → NeverRise m (ms ++ one ∷ [])
    → IsChainTo m steps (ms ++ one ∷ []) a (length ms ∷ b ∷ ns)
halved_chain m steps ms one a b ns in_a h differ apart middle fall =
    by (same_or_not (value_at m (ms ++ one ∷ []) (length ms)) (value_at m (ms ++ one ∷ []) a))
    (same_or_not (value_at m (ms ++ one ∷ []) (length ms)) (value_at m (ms ++ one ∷ []) b))
  where
    rest : ℕ
    rest = h.chain.1

    link : IsLink m ms a b h.chain.0
    link = h.chain.2

    half : IsHalf (step_at ms a) (step_at ms b) (step_of one)
    half = half_between (step_at ms a) (step_at ms b) (step_of one) link.apart apart middle

    power : (j : ℕ) × (h.chain.0 ≡ suc j)
    power = one_gap (step_at ms a) (step_at ms b) h.chain.0 link.apart apart (link.gap differ)

    j : ℕ
    j = power.0

    halves : AreHalves (step_at ms a) (step_at ms b) (step_of one) (2 ^ power.0)
    halves = halves_of (step_at ms a) (step_at ms b) (step_of one) (2 ^ power.0) middle link.apart
        (double (step_at ms a) (step_at ms b) power.0
        (subst (λ (k : ℕ). step_at ms b ≤ step_at ms a + 2 ^ k) power.1 (link.gap differ)))

    few_one : power.0 ≤ 19
    few_one = let e = power.1 in let few = link.few in omega arith

    build : (i k : ℕ) → IsLink m (ms ++ one ∷ []) a (length ms) i → IsLink m (ms ++ one ∷ []) (length ms) b k
        → AreFewWith m (ms ++ one ∷ []) (i + (k + h.chain.1)) → IsChainTo m steps (ms ++ one ∷ []) a (length ms ∷ b ∷ ns)
    build i k left right few = record {
      halvings = i + (k + h.chain.1);
      chain = (
        i,
        k + h.chain.1,
        left,
        omega arith,
        (k, h.chain.1, right, omega arith, chain_kept m ms one b ns h.chain.1 link.inside (let less = half.less in omega arith) h.chain.4),
      );
      end = step_kept ms (one ∷ []) (end_of b ns) (end_inside m ms b ns h.chain.1 link.inside h.chain.4) ∙ h.end;
      counted = few;
    }

    first : (i : ℕ) → i ≤ 20
        → (value_at m (ms ++ one ∷ []) a ≢ value_at m (ms ++ one ∷ []) (length ms) → step_of one ≤ step_at ms a + 2 ^ i)
        → IsLink m (ms ++ one ∷ []) a (length ms) i
    first i few gap = left_link m ms one a b in_a link.inside link.none half.more half.less i few gap

    second : (i : ℕ) → i ≤ 20
        → (value_at m (ms ++ one ∷ []) (length ms) ≢ value_at m (ms ++ one ∷ []) b → step_at ms b ≤ step_of one + 2 ^ i)
        → IsLink m (ms ++ one ∷ []) (length ms) b i
    second i few gap = right_link m ms one a b in_a link.inside link.none half.more half.less i few gap

    by : (value_at m (ms ++ one ∷ []) (length ms) ≡ value_at m (ms ++ one ∷ []) a)
        ⊎ (value_at m (ms ++ one ∷ []) (length ms) ≢ value_at m (ms ++ one ∷ []) a)
        → (value_at m (ms ++ one ∷ []) (length ms) ≡ value_at m (ms ++ one ∷ []) b)
        ⊎ (value_at m (ms ++ one ∷ []) (length ms) ≢ value_at m (ms ++ one ∷ []) b)
        → IsChainTo m steps (ms ++ one ∷ []) a (length ms ∷ b ∷ ns)
    by (inl e) other = build 0 power.0 (first 0 (omega arith) (λ differ. absurd (differ (sym e))))
        (second power.0 (let few = few_one in omega arith) (λ differ. halves.second))
        (same_count m ms one h.halvings (0 + (power.0 + h.chain.1)) h.counted (let le = h.chain.3 in let e = power.1 in omega arith))
    by (inr not_a) (inl e) = build power.0 0 (first power.0 (let few = few_one in omega arith) (λ differ. halves.first))
        (second 0 (omega arith) (λ differ. absurd (differ e)))
        (same_count m ms one h.halvings (power.0 + (0 + h.chain.1)) h.counted (let le = h.chain.3 in let e = power.1 in omega arith))
    by (inr not_a) (inr not_b) = build power.0 power.0 (first power.0 (let few = few_one in omega arith) (λ differ. halves.first))
        (second power.0 (let few = few_one in omega arith) (λ differ. halves.second))
        (more_count m ms one h.halvings (power.0 + (power.0 + h.chain.1)) h.counted
        (let le = h.chain.3 in let e = power.1 in let few = few_one in omega arith)
        (λ i l. new_value m ms one a b i in_a link.inside link.none half.more half.less fall not_a not_b l))

-- the step half-way is one that may come next
pub half_is_next : (m : Parts) (steps : ℕ) (ms : List Made) (a b t : ℕ) (ns : List ℕ) → a < length ms
    → IsChainTo m steps ms a (b ∷ ns) → value_at m ms a ≢ value_at m ms b → step_at ms b ≢ step_at ms a + 1
    → t ≡ (step_at ms a + step_at ms b) / 2 → IsNextStep m steps ms (pos t) (pos 1)
half_is_next m steps ms a b t ns in_a h differ apart middle =
    let link = h.chain.2 in
    let half = half_between (step_at ms a) (step_at ms b) t link.apart apart middle in
    record {
      whole = refl;
      step = refl;
      new_step = λ k l e. link.none k l (let more = half.more in omega arith) (let less = half.less in omega arith);
      named = half_way (record {
        left = a;
        right = b;
        left_in = in_a;
        right_in = link.inside;
        apart = link.apart;
        differ = differ;
        none = link.none;
        middle = middle;
      });
    }

pub half_within : (m : Parts) (steps : ℕ) (ms : List Made) (a b t : ℕ) (ns : List ℕ) → IsChainTo m steps ms a (b ∷ ns)
    → t ≡ (step_at ms a + step_at ms b) / 2 → t ≤ steps
half_within m steps ms a b t ns h middle =
    let apart = h.chain.2.apart in
    let before = before_end m ms b ns h.chain.1 h.chain.4 in
    let end = h.end in
    omega arith
