use Rattle.std.proofs.Common.{subst, sym}
use Rattle.ips_io.specs.Files.{BeganFirst}
use Rattle.ipsens_core.specs.Runs.{files_after}
use Rattle.ipsens_core.proofs.commands.answer_to.Goals as goal

pub returns-in-Check-clause-names : goal.returns-in-Check-clause-names
returns-in-Check-clause-names g c =
    subst (λ q. BeganFirst (g.S.Shelf.begun_names c.args.shelf.now) (g.S.Shelf.begun_names c.checked.new.shelf) (files_after q))
    (sym c.in-Check.is) c.checked.ensures.names

pub returns-in-Ask-clause-names : goal.returns-in-Ask-clause-names
returns-in-Ask-clause-names g c =
    subst (λ q. BeganFirst (g.S.Shelf.begun_names c.args.shelf.now) (g.S.Shelf.begun_names c.asked.new.shelf) (files_after q))
    (sym c.in-Ask.is) c.asked.ensures.names
