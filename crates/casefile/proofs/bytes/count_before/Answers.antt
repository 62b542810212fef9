use Rattle.std.proofs.Common.{◌≡◌, eqb, length, unwrap_or, ap, ◌∙◌, rules, tests}
use Rattle.std.specs.List.{position}
use Rattle.std.proofs.lemmas.Iterator.{YieldsList-from_slice}
use Rattle.std.proofs.lemmas.Iterator.Search.{position_from_yields_List}
use Rattle.casefile.proofs.Parting.{before_position}
use Rattle.casefile.proofs.bytes.count_before.Goals as goal

pub returns-clause-result : goal.returns-clause-result
returns-clause-result c =
    let bytes = c.args.bytes.now in
    let found : c.position.result ≡ position (λ b. eqb b c.args.mark) bytes =
    position_from_yields_List _ _ _ _ c.position.ensures.ran (YieldsList-from_slice bytes cc) (λ x b q k. search (rules, tests)) in
    c.unwrap_or.ensures ∙ ap (λ o. unwrap_or o (length bytes)) found ∙ before_position c.args.mark bytes
