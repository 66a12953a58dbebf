-- The parser of words, which takes plain words apart: three operands, and each option with its value.
use Rattle.std.specs.Prelude.{ℕ, zero, suc, List, [], Some, codes, unwrap_or}
use Rattle.clap.specs.Words.{App, Row, Rule, first_value, matches_of, new_app, new_rule, with_rule}
use Rattle.clap.specs.declared.parser.matches.Found.{Found}
use Rattle.ips_words.specs.Commands.{Word}

abbrev pub option_rule : Word → Word → Rule
option_rule id long = record (new_rule id) { long = Some long }

-- a parser with an operand more, and with an option more
abbrev pub with_operand : App → Word → App
with_operand a id = with_rule a (new_rule id)

abbrev pub with_option : App → Word → Word → App
with_option a id long = with_rule a (option_rule id long)

abbrev pub operands_parser : App
operands_parser = with_operand (with_operand (with_operand (new_app (codes "ipsens")) (codes "first")) (codes "second")) (codes "third")

abbrev pub files_parser : App
files_parser = with_option (with_option operands_parser (codes "--tree") (codes "tree")) (codes "--proof") (codes "proof")

abbrev pub search_parser : App
search_parser = with_option (with_option files_parser (codes "--nodes") (codes "nodes")) (codes "--depth") (codes "depth")

abbrev pub limits_parser : App
limits_parser = with_option search_parser (codes "--pivots") (codes "pivots")

abbrev pub words_parser : App
words_parser = with_option (with_option limits_parser (codes "--digits") (codes "digits")) (codes "--box") (codes "box")

-- what the parser makes of words, of which the first is the command
unfoldable pub words_rows : List Word → List Row
words_rows ws = matches_of words_parser ws

-- an operand that was read, by its place
abbrev pub operand_id : ℕ → Word
operand_id zero = codes "first"
operand_id (suc zero) = codes "second"
operand_id (suc (suc i)) = codes "third"

abbrev pub read_operand : Found → ℕ → Word
read_operand f i = unwrap_or (first_value f (operand_id i)) []
