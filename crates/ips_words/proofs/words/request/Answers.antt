use Rattle.std.proofs.Common.{◌∙◌, Some, ap, map, option_map, string_bytes, sym}
use Rattle.clap.specs.Words.{found_of}
use Rattle.ips_words.specs.Commands.{command_named}
use Rattle.ips_words.specs.Internal.Rows.{command_row}
use Rattle.ips_words.proofs.ParseLaws.{number_read, numbers_read, plain_words, request_is, same_request}
use Rattle.ips_words.proofs.RangeLaws.{is_in_range, is_request_built}
use Rattle.ips_words.proofs.words.request.Goals as goal

pub request_by-requires-clause-limits : goal.request_by-requires-clause-limits
request_by-requires-clause-limits c =
    (numbers_read c.in-Some.command (map string_bytes c.args.words.now) (found_of c.in-Ok.matches)
    (plain_words string_bytes c.args.words.now c.in-Some.command _ c.are_plain.ensures c.if-not-are_plain.false) c.in-Ok.ensures).1

pub request_by-requires-clause-reading : goal.request_by-requires-clause-reading
request_by-requires-clause-reading c =
    (numbers_read c.in-Some.command (map string_bytes c.args.words.now) (found_of c.in-Ok.matches)
    (plain_words string_bytes c.args.words.now c.in-Some.command _ c.are_plain.ensures c.if-not-are_plain.false) c.in-Ok.ensures).0

pub request_by-requires-clause-number : goal.request_by-requires-clause-number
request_by-requires-clause-number c =
    number_read c.in-Some.command (map string_bytes c.args.words.now) (found_of c.in-Ok.matches)
    (plain_words string_bytes c.args.words.now c.in-Some.command _ c.are_plain.ensures c.if-not-are_plain.false) c.in-Ok.ensures

pub returns-in-Ok-request_by-clause-request : goal.returns-in-Ok-request_by-clause-request
returns-in-Ok-request_by-clause-request c =
    let command = c.in-Some.command in
    let words = c.args.words.now in
    let plain = plain_words string_bytes words command _ c.are_plain.ensures c.if-not-are_plain.false in
    let named = sym (ap (option_map command_row) c.in-Some.is) ∙ c.named.ensures ∙ ap command_named c.as_str.ensures.value in
    let read = same_request command (map string_bytes words) (found_of c.in-Ok.matches) plain c.in-Ok.ensures in
    request_is string_bytes words c.first-item.result command c.in-len1-up.len_at_least c.first-item.is named plain
    ∙ ap Some (sym (c.in-Ok-request_by.ensures ∙ read))

pub returns-in-Ok-request_by-clause-ranges : goal.returns-in-Ok-request_by-clause-ranges
returns-in-Ok-request_by-clause-ranges c =
    let plain = plain_words string_bytes c.args.words.now c.in-Some.command _ c.are_plain.ensures c.if-not-are_plain.false in
    rw (c.in-Ok-request_by.ensures ∙ same_request c.in-Some.command _ (found_of c.in-Ok.matches) plain c.in-Ok.ensures)
    (is_in_range c.in-Some.command _ plain)

pub returns-in-Ok-request_by-clause-built : goal.returns-in-Ok-request_by-clause-built
returns-in-Ok-request_by-clause-built c =
    let plain = plain_words string_bytes c.args.words.now c.in-Some.command _ c.are_plain.ensures c.if-not-are_plain.false in
    rw (c.in-Ok-request_by.ensures ∙ same_request c.in-Some.command _ (found_of c.in-Ok.matches) plain c.in-Ok.ensures)
    (is_request_built c.in-Some.command _ plain)
