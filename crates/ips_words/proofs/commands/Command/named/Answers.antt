use Rattle.std.proofs.Common.{sym}
use Rattle.ips_words.proofs.PlainLaws.{no_command}
use Rattle.ips_words.proofs.commands.Command.named.Goals as goal

pub returns-in_default : goal.returns-in_default
returns-in_default c =
    let n = c.in_default in
    sym (no_command c.args.word.now n.not-solve n.not-check n.not-ask n.not-sweep n.not-recheck n.not-show n.not-trial)
