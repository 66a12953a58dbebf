-- What two facts of a value say of it together, where there is a value.
use Rattle.std.specs.Prelude.{Result, Ok, Err, IfOk}

pub ok_of_both : {X E : Type 0} (r : Result X E) (P Q R : X → Type 0) → ((x : X) → P x → Q x → R x) → IfOk r P → IfOk r Q → IfOk r R
ok_of_both (Ok x) P Q R f p q = f x p q
ok_of_both (Err e) P Q R f p q = tt
