-- Printed answers, computed.
use Rattle.std.specs.Prelude.{◌≡◌, ℕ, List, [], ◌∷◌, ◌++◌, codes, refl, None, Some, pos}
use Rattle.std.specs.Fmt.{digits}
use Rattle.mps_defs.specs.Faults.{model_of}
use Rattle.mps_defs.specs.declared.reading.How.{How}
use Rattle.sens_report.specs.AnswerTexts.{answer_lines, budget_lines}

abbrev plain_how : How
plain_how = record { digits = 0; box_side = None }

-- least -5a - 4b - 3c under three rows
abbrev three_rows : List ℕ
three_rows = codes "NAME example\nROWS\n N cost\n L r1\n L r2\n L r3\nCOLUMNS\n M 'MARKER' 'INTORG'\n"
    ++ codes " a cost -5 r1 2\n a r2 4 r3 3\n b cost -4 r1 3\n b r2 1 r3 4\n c cost -3 r1 1\n c r2 2 r3 2\n M 'MARKER' 'INTEND'\n"
    ++ codes "RHS\n RHS r1 5 r2 11\n RHS r3 8\nBOUNDS\n UP BND a 10\n UP BND b 10\n UP BND c 10\nENDATA\n"

pub optimum : answer_lines (model_of three_rows plain_how) (Some (pos 2 ∷ pos 0 ∷ pos 1 ∷ [])) 1 0
    ≡ codes "optimum -13\nvalue a 2\nvalue b 0\nvalue c 1\nnodes 1\nskipped 0\n"
unfolding digits
optimum = refl

pub emptiness : answer_lines (model_of three_rows plain_how) None 5 2 ≡ codes "empty\nnodes 5\nskipped 2\n"
unfolding digits
emptiness = refl

pub stop : budget_lines (model_of three_rows plain_how) (codes "depth") 11 3 None ≡ codes "budget depth\nnodes 11\nskipped 3\nbest none\n"
unfolding digits
stop = refl
