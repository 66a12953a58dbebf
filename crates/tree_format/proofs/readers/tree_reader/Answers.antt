use Rattle.std.proofs.Common.{◌≡◌, ◌∙◌, sym, subst, ap, ◌∷◌, List, ℕ, []}
use Rattle.tree_format.specs.Internal.Remaining.{HasRead, IsSoundUnless, start_with}
use Rattle.tree_format.specs.declared.progress.Progress.{Progress}
use Rattle.tree_format.proofs.ReadLaws.{started, start_sound}
use Rattle.tree_format.proofs.readers.tree_reader.Goals as goal

start_is : (c : goal.After-start-progress) → start_with (801 ∷ []) ≡ c.start-progress.result
start_is c = sym (c.start-progress.ensures ∙ ap start_with (c.push.ensures ∙ ap (λ (ks : List ℕ). 801 ∷ ks) c.in_ok-pending.ensures))

pub invariant_of-result : goal.invariant_of-result
invariant_of-result c = subst (λ (s : Progress). IsSoundUnless s.fault s) (start_is c) start_sound

pub returns : goal.returns
returns c = subst (λ (s : Progress). HasRead s []) (start_is c) started
