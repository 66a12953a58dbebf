use Rattle.std.proofs.Common.{bytes_eq, rules, tests}
use Rattle.std.proofs.lemmas.Iterator.Search.{find_from_yields_List}
use Rattle.std.proofs.lemmas.Iterator.{YieldsList-from_slice}
use Rattle.ips_words.proofs.plain.choice_named.Goals as goal

pub returns : goal.returns
returns c =
    find_from_yields_List (λ d. bytes_eq d.word.now c.args.option.now) _ _ _ c.find.ensures.ran
    (YieldsList-from_slice c.args.choices.now cc) (λ x b q k. search (rules, tests))
