-- Requests of words, computed.
use Rattle.std.specs.Prelude.{◌≡◌, List, [], ◌∷◌, map, codes, refl, Option, None, Some, pos}
use Rattle.ips_words.specs.Commands.{Word, request_of, commands}
use Rattle.ips_words.specs.declared.requests.Request.{Request}
use Rattle.ips_words.specs.declared.requests.Request.TheVariants.{Solve, Check, Ask, Sweep, Recheck, Show}

-- what words ask for
abbrev AskFor : List (List Word × Option Request) → Type 0
AskFor cases = map (λ c. request_of c.0) cases ≡ map (λ c. c.1) cases

-- the words after `solve m`
abbrev solve_m : List Word → List Word
solve_m ws = codes "solve" ∷ codes "m" ∷ ws

-- the words after `sweep m s`
abbrev sweep_m_s : List Word → List Word
sweep_m_s ws = codes "sweep" ∷ codes "m" ∷ codes "s" ∷ ws

pub requests : AskFor (
    (solve_m [], Some (Solve (codes "m") None 100000 800 5000 0 None))
    ∷ (
      solve_m (codes "--pivots" ∷ codes "0" ∷ codes "--nodes" ∷ codes "5" ∷ codes "--depth" ∷ codes "7" ∷ []),
      Some (Solve (codes "m") None 5 7 0 0 None),
    )
    ∷ (
      solve_m (codes "--box" ∷ codes "5" ∷ codes "--digits" ∷ codes "2" ∷ []),
      Some (Solve (codes "m") None 100000 800 5000 2 (Some (pos 5))),
    )
    ∷ (solve_m (codes "--tree" ∷ codes "t" ∷ []), Some (Solve (codes "m") (Some (codes "t")) 100000 800 5000 0 None))
    ∷ (
      codes "check" ∷ codes "m" ∷ codes "t" ∷ codes "--digits" ∷ codes "2" ∷ [],
      Some (Check (codes "m") (codes "t") 2 None),
    )
    ∷ (codes "ask" ∷ codes "m" ∷ codes "t" ∷ codes "q" ∷ [], Some (Ask (codes "m") (codes "t") (codes "q") 0 None))
    ∷ (sweep_m_s [], Some (Sweep (codes "m") (codes "s") None 100000 800 5000 0 None))
    ∷ (
      sweep_m_s (codes "--proof" ∷ codes "p" ∷ codes "--nodes" ∷ codes "5" ∷ codes "--digits" ∷ codes "2" ∷ []),
      Some (Sweep (codes "m") (codes "s") (Some (codes "p")) 5 800 5000 2 None),
    )
    ∷ (
      codes "recheck" ∷ codes "m" ∷ codes "s" ∷ codes "p" ∷ codes "--box" ∷ codes "5" ∷ [],
      Some (Recheck (codes "m") (codes "s") (codes "p") 0 (Some (pos 5))),
    )
    ∷ (codes "show" ∷ codes "m" ∷ [], Some (Show (codes "m") 0 None))
    ∷ (codes "show" ∷ codes "m" ∷ codes "--box" ∷ codes "16777216" ∷ [], Some (Show (codes "m") 0 (Some (pos 16777216))))
    -- a number out of its range, or with a leading zero
    ∷ (solve_m (codes "--nodes" ∷ codes "0" ∷ []), None)
    ∷ (solve_m (codes "--digits" ∷ codes "10" ∷ []), None)
    ∷ (solve_m (codes "--digits" ∷ codes "01" ∷ []), None)
    ∷ (solve_m (codes "--box" ∷ codes "16777217" ∷ []), None)
    -- an option and its value in one word, without a value, or twice
    ∷ (solve_m (codes "--nodes=5" ∷ []), None)
    ∷ (solve_m (codes "--digits" ∷ []), None)
    ∷ (solve_m (codes "--digits" ∷ codes "2" ∷ codes "--digits" ∷ codes "2" ∷ []), None)
    -- no search is made to show a model
    ∷ (codes "show" ∷ codes "m" ∷ codes "--nodes" ∷ codes "5" ∷ [], None)
    -- one operand of two, or two of three
    ∷ (codes "check" ∷ codes "m" ∷ [], None)
    ∷ (codes "recheck" ∷ codes "m" ∷ codes "s" ∷ [], None)
    -- a search for a check, and a saved file of another command
    ∷ (codes "check" ∷ codes "m" ∷ codes "t" ∷ codes "--depth" ∷ codes "5" ∷ [], None)
    ∷ (codes "recheck" ∷ codes "m" ∷ codes "s" ∷ codes "p" ∷ codes "--nodes" ∷ codes "5" ∷ [], None)
    ∷ (sweep_m_s (codes "--tree" ∷ codes "t" ∷ []), None)
    ∷ (solve_m (codes "--proof" ∷ codes "p" ∷ []), None)
    -- a command that is not built
    ∷ (codes "trial" ∷ codes "7" ∷ [], None)
    -- a name that begins with a minus, an empty name, and no words
    ∷ (solve_m (codes "--tree" ∷ codes "-t" ∷ []), None)
    ∷ (codes "solve" ∷ codes "-m" ∷ [], None)
    ∷ (codes "solve" ∷ [] ∷ [], None)
    ∷ ([], None)
    ∷ [])
unfolding commands
requests = refl
