-- What holds of each request of a command line, and the line that is printed for words that are none.
use Rattle.std.specs.Prelude.{◌≡◌, ℕ, ◌≤◌, ◌<◌, ◌^◌, true, List, ◌++◌, Option, IfSome, codes, ℤ}
use Rattle.mps_defs.specs.TextModels.{IsHow}
use Rattle.ips_words.specs.Commands.{Word, is_name, solve, check, ask, sweep, recheck, show, trial, tree_choice, proof_choice}
use Rattle.ips_words.specs.declared.requests.Request.{Request}
use Rattle.ips_words.specs.declared.requests.Request.TheVariants.{Solve, Check, Ask, Sweep, Recheck, Show, Trial}

-- a name of a file is not empty and does not begin with a minus
abbrev pub IsName : Word → Type 0
IsName w = is_name w ≡ true

-- the limits of a search are numbers that their options take
abbrev pub AreLimits : ℕ → ℕ → ℕ → Type 0
AreLimits nodes depth pivots = (1 ≤ nodes) × (nodes ≤ 1000000) × (depth ≤ 800) × (pivots ≤ 100000)

-- so is how the model is read
abbrev pub IsReading : ℕ → Option ℤ → Type 0
IsReading digits box_side = IsHow (record { digits = digits; box_side = box_side })

-- the names and numbers of a request are such as its words may give
abbrev pub AreInRange : Request → Type 0
AreInRange (Solve model tree nodes depth pivots digits box_side) =
    IsName model × IfSome tree IsName × AreLimits nodes depth pivots × IsReading digits box_side
AreInRange (Check model tree digits box_side) = IsName model × IsName tree × IsReading digits box_side
AreInRange (Ask model tree questions digits box_side) =
    IsName model × IsName tree × IsName questions × IsReading digits box_side
AreInRange (Sweep model sweep_file proof nodes depth pivots digits box_side) =
    IsName model × IsName sweep_file × IfSome proof IsName × AreLimits nodes depth pivots × IsReading digits box_side
AreInRange (Recheck model sweep_file proof digits box_side) =
    IsName model × IsName sweep_file × IsName proof × IsReading digits box_side
AreInRange (Show model digits box_side) = IsName model × IsReading digits box_side
AreInRange (Trial number) = number < 2 ^ 32

-- the command of a request is built, and so is each option that names a file
abbrev pub IsBuilt : Request → Type 0
IsBuilt (Solve model tree nodes depth pivots digits box_side) =
    (solve.built ≡ true) × IfSome tree (λ name. tree_choice.built ≡ true)
IsBuilt (Check model tree digits box_side) = check.built ≡ true
IsBuilt (Ask model tree questions digits box_side) = ask.built ≡ true
IsBuilt (Sweep model sweep_file proof nodes depth pivots digits box_side) =
    (sweep.built ≡ true) × IfSome proof (λ name. proof_choice.built ≡ true)
IsBuilt (Recheck model sweep_file proof digits box_side) = recheck.built ≡ true
IsBuilt (Show model digits box_side) = show.built ≡ true
IsBuilt (Trial number) = trial.built ≡ true

-- what is printed for words that are no request
abbrev pub usage_text : List ℕ
usage_text =
    codes "usage: ipsens solve MODEL | check MODEL TREE | ask MODEL TREE QUESTIONS | "
    ++ codes "sweep MODEL SWEEP | recheck MODEL SWEEP PROOF | show MODEL | trial N\n"
