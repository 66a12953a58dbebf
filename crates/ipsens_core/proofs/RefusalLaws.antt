-- The lines of refusals: of a column without a bound, and of a fault with a numbered place.
use Rattle.std.specs.Prelude.{◌≡◌, ℕ, List, ◌++◌, codes, string_bytes, Result, IfOk}
use Rattle.std.proofs.Common.{ap, sym, subst, ◌∙◌, append_assoc, String, Global}
use Rattle.ip_defs.specs.declared.memory.Memory.{Memory}
use Rattle.mps_defs.specs.CanonicalText.{newline}
use Rattle.mps_defs.specs.declared.reading.Side.TheVariants.{Lower, Upper}
use Rattle.ipsens_core.specs.ModelRefusals.{on_column, refused_model, side_text}
use Rattle.ipsens_core.specs.Refusals.{refused}

pub no_lower_is : (name : List ℕ) → codes "refused model M15 column " ++ name ++ codes " lower\n"
    ≡ refused_model (codes "M15" ++ on_column name ++ side_text Lower)
no_lower_is name = ap (λ bs. codes "refused model M15 column " ++ bs) (sym (append_assoc name (codes " lower") (codes "\n")))

pub no_upper_is : (name : List ℕ) → codes "refused model M15 column " ++ name ++ codes " upper\n"
    ≡ refused_model (codes "M15" ++ on_column name ++ side_text Upper)
no_upper_is name = ap (λ bs. codes "refused model M15 column " ++ bs) (sym (append_assoc name (codes " upper") (codes "\n")))

-- ---- lines with a numbered place

-- the parts of a line, one after another
pub line_parts : (file word kind number : List ℕ)
    → codes "refused " ++ (file ++ (codes " " ++ (word ++ (codes " " ++ (kind ++ (codes " " ++ (number ++ newline)))))))
    ≡ refused file (word ++ (codes " " ++ (kind ++ (codes " " ++ number))))
line_parts file word kind number =
    let inner = append_assoc kind (codes " " ++ number) newline in
    let whole = append_assoc word (codes " " ++ (kind ++ (codes " " ++ number))) newline in
    ap (λ t. codes "refused " ++ (file ++ (codes " " ++ t))) (sym (whole ∙ ap (λ t. word ++ (codes " " ++ t)) inner))

-- the line of a fault that is known by its word and place
pub same_line : (file why other : List ℕ) (result : Result (String Global) Memory) → why ≡ other
    → IfOk result (λ s. string_bytes s ≡ refused file other) → IfOk result (λ s. string_bytes s ≡ refused file why)
same_line file why other result is line = subst (λ t. IfOk result (λ s. string_bytes s ≡ refused file t)) (sym is) line
