use Rattle.std.proofs.Common.{map, string_bytes}
use Rattle.std.proofs.lemmas.Result.{IfOk-weaker}
use Rattle.clap.specs.Words.{app_of}
use Rattle.ips_words.proofs.ParseLaws.{read_rows}
use Rattle.ips_words.proofs.parser.parsed.Goals as goal

pub returns : goal.returns
returns c =
    let parser = app_of c.in_ok-parser.parser in
    let words = map string_bytes c.args.words.now in
    let parse = c.try_get_matches_from in
    IfOk-weaker parse.result _ _ (λ m h. read_rows parser words m c.in_ok-parser.ensures h) parse.ensures.matches
