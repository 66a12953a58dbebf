-- What taking lines of a text owes.
use Rattle.std.specs.Prelude.{◌≡◌, ℕ, ◌+◌, ◌≤◌, List, [], ◌∷◌, ◌++◌, Result, Ok, Err, Option, Some}
use Rattle.question_text.specs.Lines.{Line, allowed, faults_in, read_in, Answers}
use Rattle.question_text.specs.declared.errors.TextError.{TextError}

-- lines are taken: what is due for them and for those that are left stays, or is this fault
abbrev pub IsTaken : {A D : Type 0} → (D → List Line → Result A TextError) → D → D → List Line → Result (Unit {0}) TextError → Type 0
IsTaken wanted old new taken (Ok done) = (left : List Line) → wanted old (taken ++ left) ≡ wanted new left
IsTaken wanted old new taken (Err e) = (left : List Line) → Answers (wanted old (taken ++ left)) (Err e)

-- what a line writes is added to a list, or its fault is the answer
abbrev pub IsPushed : {A : Type 0} → Result A TextError → List A → List A → Result (Unit {0}) TextError → Type 0
IsPushed {A} wanted old new (Ok done) = (x : A) × (wanted ≡ Ok x) × (new ≡ old ++ x ∷ [])
IsPushed wanted old new (Err e) = Answers wanted (Err e)

-- the same of the next state
abbrev pub IsNext : {A D : Type 0} → (Option D → List Line → Result A TextError) → Option D → List Line → Result D TextError → Type 0
IsNext wanted old taken (Ok new) = (left : List Line) → wanted old (taken ++ left) ≡ wanted (Some new) left
IsNext wanted old taken (Err e) = (left : List Line) → Answers (wanted old (taken ++ left)) (Err e)

-- a direction is added to a list, or the first fault is the answer
abbrev pub IsAdded : {A : Type 0} → List TextError → Result A TextError → List A → List A → Result (Unit {0}) TextError → Type 0
IsAdded faults wanted old new (Ok done) = (faults ++ faults_in wanted ≡ []) × (new ≡ old ++ read_in wanted)
IsAdded faults wanted old new (Err e) = Answers (allowed (faults ++ faults_in wanted)) (Err e)

-- the numbers of lines rise, and the first is n or more
abbrev pub AreNumbered : ℕ → List Line → Type 0
AreNumbered n [] = Unit {0}
AreNumbered n (l ∷ ls) = (n ≤ l.number) × AreNumbered (l.number + 1) ls
