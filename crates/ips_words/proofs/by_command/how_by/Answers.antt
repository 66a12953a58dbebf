use Rattle.std.proofs.Common.{◌≡◌, codes, arith}
use Rattle.clap.specs.Words.{first_value, found_of}
use Rattle.ips_words.specs.Commands.{digits_of}
use Rattle.ips_words.proofs.RangeLaws.{number_within}
use Rattle.ips_words.proofs.by_command.how_by.Goals as goal

pub overflow_cast-result : goal.overflow_cast-result
overflow_cast-result c =
    let value = first_value (found_of c.args.matches.now) in
    let within = number_within (codes "--digits") 0 9 0 value (omega arith) (omega arith) c.requires.digits in
    let is : c.number_of.result ≡ digits_of value = c.number_of.ensures in
    omega arith
