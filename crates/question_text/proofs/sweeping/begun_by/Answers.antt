use Rattle.std.specs.Prelude.{map}
use Rattle.question_text.specs.Lines.{line_of}
use Rattle.question_text.proofs.SweepLaws.{head_taken}
use Rattle.question_text.proofs.sweeping.begun_by.Goals as goal

pub returns-clause-begun : goal.returns-clause-begun
returns-clause-begun c after left =
    head_taken after (line_of c.args.line (map (λ w. w.now) c.args.words.now)) left _ c.in_ok-sweep.ensures.head
