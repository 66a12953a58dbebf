-- The number of a status, with which the program ends, and what is written to standard error.
use Rattle.std.specs.Prelude.{◌≡◌, ◌⊎◌, ℕ, List, [], take, Option, codes}
use Rattle.ips_io.specs.Causes.{Rose}
use Rattle.ips_io.specs.Files.{Takes}
use Rattle.ipsens_core.specs.declared.statuses.Status.{Status}
use Rattle.ipsens_core.specs.declared.statuses.Status.TheVariants.{Answered, NotProved, Usage, Refused, Budget, Wide, ReadFault}
use Rattle.ipsens_core.specs.declared.statuses.Status.TheVariants.{WriteFault, Memory}

-- the number of a status
abbrev pub code_of : Status → ℕ
code_of Answered = 0
code_of NotProved = 1
code_of Usage = 2
code_of Refused = 3
code_of Budget = 4
code_of Wide = 5
code_of ReadFault = 6
code_of WriteFault = 7
code_of Memory = 8

-- what is written to standard error at a status: a line where a failure or lack of memory ended the run, else nothing
abbrev pub complaint_of : Status → List ℕ
complaint_of Answered = []
complaint_of NotProved = []
complaint_of Usage = []
complaint_of Refused = []
complaint_of Budget = []
complaint_of Wide = []
complaint_of ReadFault = codes "read fault\n"
complaint_of WriteFault = codes "write fault\n"
complaint_of Memory = codes "out of memory\n"

-- a text was written whole, or writing failed after some of it
abbrev pub IsReported : Option (List ℕ) → Option (List ℕ) → ℕ → ℕ → List ℕ → Type 0
IsReported before after faults faults_after text =
    ((faults_after ≡ faults) × Takes before after text)
    ⊎ (Rose faults faults_after × ((most : ℕ) × Takes before after (take most text)))
