use Rattle.std.proofs.Common.{◌≡◌, [], take, length, drop, refl, ap, ◌∙◌, rules}
use Rattle.std.proofs.lemmas.List.{take_at}
use Rattle.cases.specs.Rows.{lines}
use Rattle.cases.specs.CaseViews.{view}
use Rattle.cases.proofs.Dues.{made_if_granted}
use Rattle.cases.proofs.Histories.{continues}
use Rattle.cases.proofs.case.Case.sign.Goals as goal

pub returns-in_err-check_sign-clause-history : goal.returns-in_err-check_sign-clause-history
returns-in_err-check_sign-clause-history c = continues _ _ _ (search rules)

pub returns-clause-history : goal.returns-clause-history
returns-clause-history c =
    let told = c.sign.ensures in
    let written = lines (view c.args.self.now).rows in
    let wrote : take c.sign.result c.sign.new.out ≡ written =
    ap (λ n. take n c.sign.new.out) told.result ∙ ap (take (length written)) told.list ∙ take_at written (drop (length written) c.args.out.now) (length written) refl in
    continues _ _ _ (search rules, search rules, wrote ∙ made_if_granted _ _ _ _ written [] c.in_ok-check_sign.ensures.result)
