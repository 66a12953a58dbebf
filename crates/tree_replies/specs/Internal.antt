-- What only the contracts of private functions of this crate speak of: answers with references against those without.
use Rattle.std.specs.Prelude.{◌≡◌, Result, Ok, Err}
use Rattle.ip_model.specs.declared.places.Place.{Place}
use Rattle.range_finder.specs.Aims.{plain_aim}
use Rattle.range_finder.specs.declared.aims.Aim.{Aim}
use Rattle.range_laws.specs.Ranges.{PlainAim}
use Rattle.tree_replies.specs.declared.refusals.Refusal.{Refusal}

-- an aim, or a refusal, is the one that is due
abbrev pub IsAim : Result PlainAim Refusal → Result Aim Refusal → Type 0
IsAim due (Ok aim) = due ≡ Ok (plain_aim aim)
IsAim due (Err why) = due ≡ Err why

-- a place and an aim, or a refusal, are those that are due
abbrev pub IsAskedRange : Result (Place × PlainAim) Refusal → Result (Place × Aim) Refusal → Type 0
IsAskedRange due (Ok asked) = due ≡ Ok (asked.0, plain_aim asked.1)
IsAskedRange due (Err why) = due ≡ Err why
