-- Files that are read agree with the table that is known, one after another.
use Rattle.std.specs.Prelude.{◌≡◌, ℕ, suc, ◌+◌, ◌<◌, List, [], ◌∷◌, ◌++◌, length, take, replicate, Option, Some, None}
use Rattle.std.proofs.Common.{refl, arith, ap, sym, subst, ◌∙◌, append_assoc}
use Rattle.std.specs.Option.{MatchOption}
use Rattle.std.proofs.lemmas.List.{append-nil, length-replicate}
use Rattle.ips_io.specs.Files.{Began, BeganFirst, Files, Keeps, Names, file_of}
use Rattle.ips_io.specs.Shelves.{IsTooLong, BecomesUnknown, IsWhole}
use Rattle.ipsens_core.specs.Internal.Files.{IsFileTooLong}
use Rattle.ipsens_core.specs.Reads.{Agrees, AreOf, Reads}

-- one file that was read whole
pub one_read : (before after : Option Files) (name bytes : List ℕ) → Keeps before after → BecomesUnknown before after name →
    IsWhole after name bytes
    → Agrees before after ((name, bytes) ∷ [])
one_read None None name bytes keeps unknown whole = refl
one_read None (Some u) name bytes keeps unknown whole = absurd (cc (keeps u refl))
one_read (Some t) None name bytes keeps unknown whole = rw (unknown t refl refl) refl
one_read (Some t) (Some u) name bytes keeps unknown whole =
    let same : t ≡ u = cc (keeps u refl) in
    let found : file_of t name ≡ Some bytes = rw same (whole u refl) in
    rw found (refl, rw same refl)

-- no file was read
pub none_read : (table : Option Files) → Agrees table table []
none_read None = refl
none_read (Some t) = refl

-- one file, then the others
pub agrees_more : (before mid after : Option Files) (r : List ℕ × List ℕ) (rs : Reads) → Agrees before mid (r ∷ []) → Agrees mid after rs
    → Agrees before after (r ∷ rs)
agrees_more None mid after r rs one more = subst (λ t. Agrees t after rs) one more
agrees_more (Some t) mid after r rs one more = by (file_of t r.0) one
  where
    by : (o : Option (List ℕ)) → MatchOption o (mid ≡ None) (λ bytes. (bytes ≡ r.1) × (mid ≡ Some t))
        → MatchOption o (after ≡ None) (λ bytes. (bytes ≡ r.1) × AreOf t after rs)
    by None e = subst (λ u. Agrees u after rs) e more
    by (Some bytes) p = (p.0, subst (λ u. Agrees u after rs) p.1 more)

longer : (n : ℕ) → n < length {A = ℕ} (replicate (n + 1) 0)
longer n = let e : length {A = ℕ} (replicate (n + 1) 0) ≡ n + 1 = length-replicate (n + 1) 0 in rw e (omega arith)

-- a file that is too long
pub long_read : (before after : Option Files) (name : List ℕ) (most : ℕ) → Keeps before after → BecomesUnknown before after name →
    IsTooLong after name most
    → IsFileTooLong before after name most
long_read before None name most keeps unknown long =
    record {
      bytes = replicate (most + 1) 0;
      long = longer most;
      agrees = one_read before None name (replicate (most + 1) 0) keeps unknown (λ u is. absurd (cc is));
    }
long_read before (Some u) name most keeps unknown long =
    let p = long u refl in
    record {
      bytes = p.0;
      long = p.2;
      agrees = one_read before (Some u) name p.0 keeps unknown (λ v is. let same : u ≡ v = cc is in
          rw (sym same) p.1);
    }

-- ---- the names that were begun

-- no name
pub began_none : (table : Option Names) (names : Names) → BeganFirst table table names
began_none table names = (0, λ now is. (now, is, sym (append-nil now)))

-- one name, then the first of others
pub began_then : (before mid after : Option Names) (name : List ℕ) (names : Names) → Began before mid (name ∷ [])
    → (more : BeganFirst mid after names) → Began before after (name ∷ take more.0 names)
began_then before mid after name names one more =
    λ now is.
    let last = more.1 now is in
    let first = one last.0 last.1 in (
      first.0,
      first.1,
      last.2 ∙ ap (λ xs. xs ++ take more.0 names) first.2
          ∙ append_assoc first.0 (name ∷ []) (take more.0 names),
    )

pub began_more : (before mid after : Option Names) (name : List ℕ) (names : Names) → Began before mid (name ∷ [])
    → BeganFirst mid after names → BeganFirst before after (name ∷ names)
began_more before mid after name names one more = (suc more.0, began_then before mid after name names one more)

-- one name alone
pub began_one : (before after : Option Names) (name : List ℕ) (names : Names) → Began before after (name ∷ [])
    → BeganFirst before after (name ∷ names)
began_one before after name names one = (1, one)
