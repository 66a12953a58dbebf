use Rattle.std.proofs.Common.{◌∙◌, map, string_bytes, sym, true, false}
use Rattle.ips_words.specs.Internal.Rows.{choice_row}
use Rattle.ips_words.proofs.PlainLaws.{options_step}
use Rattle.ips_words.proofs.plain.are_options.Goals as goal

pub returns-then-not-is_new_choice : goal.returns-then-not-is_new_choice
returns-then-not-is_new_choice c =
    let new = rw (c.as_str.ensures.value, c.as_str-in-len2-up.ensures.value) at c.is_new_choice.ensures in
    sym (c.loop-rest.invariant
    ∙ options_step string_bytes (map choice_row c.args.choices.now) c.loop-rest.rest.now c.option-item.result c.value-item.result _ false
    c.in-len2-up.len_at_least c.option-item.is c.value-item.is new c.if-not-is_new_choice.true)

pub loop-rest-preserved : goal.loop-rest-preserved
loop-rest-preserved c =
    let new = rw (c.as_str.ensures.value, c.as_str-in-len2-up.ensures.value) at c.is_new_choice.ensures in
    c.loop-rest.invariant
    ∙ options_step string_bytes (map choice_row c.args.choices.now) c.loop-rest.rest.now c.option-item.result c.value-item.result _ true
    c.in-len2-up.len_at_least c.option-item.is c.value-item.is new c.if-not-is_new_choice.false
