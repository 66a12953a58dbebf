use Rattle.std.proofs.Common.{◌∙◌, ap, Option, List, ℕ}
use Rattle.std.specs.Prelude.{[], unwrap_or}
use Rattle.ips_words.proofs.options.operand.Goals as goal

pub returns-in-None : goal.returns-in-None
returns-in-None c =
    c.new-in-None-2.ensures ∙ c.new-in-None.ensures.bytes ∙ ap (λ (o : Option (List ℕ)). unwrap_or o []) c.in-None.ensures

pub returns-in_ok-from_str-in-Some : goal.returns-in_ok-from_str-in-Some
returns-in_ok-from_str-in-Some c =
    c.new.ensures ∙ c.in_ok-from_str-in-Some.ensures.ok ∙ ap (λ (o : Option (List ℕ)). unwrap_or o []) c.in-Some.ensures
