-- One element of a list that is written in its place.
use Rattle.std.specs.Prelude.{◌≡◌, ℕ, ◌<◌, List, length, slice_set}
use Rattle.std.proofs.Common.{arith, ap, sym, ◌∙◌, get_or}
use Rattle.ip_model.specs.Places.{changed_at}
use Rattle.ip_model.proofs.ChangeLaws.{changed_is_set}
use Rattle.ip_model.proofs.PlaceLaws.{read_at}

-- what is written over an element that was read is the list with that element changed
pub written_at : {A : Type 0} (f : A → A) {xs ys zs : List A} {j : ℕ} {x y : A} → ys ≡ xs → j < length xs → x ≡ get_or ys j x → y ≡ f x
    → zs ≡ slice_set ys j y → zs ≡ changed_at f j xs
written_at f {xs = xs} {ys = ys} {j = j} {x = x} {y = y} same l read is e =
    let counted = ap length same in
    e ∙ ap (λ k. slice_set k j y) same ∙ ap (λ z. slice_set xs j z) is
    ∙ sym (changed_is_set f xs j x (read_at xs ys j x same (omega arith) read))
