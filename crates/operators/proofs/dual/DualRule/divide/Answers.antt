use Rattle.std.proofs.Common.{◌≡◌, ◌-◌, length, ap, ◌∙◌, rules}
use Rattle.division.specs.Amounts.{total}
use Rattle.division.specs.Refusals.{due}
use Rattle.operators.specs.Operators.{dual}
use Rattle.operators.proofs.Problems.{awarded, dual_made}
use Rattle.operators.proofs.dual.DualRule.divide.Goals as goal

pub returns-clause-awards : goal.returns-clause-awards
returns-clause-awards g c =
    let claims = c.args.claims.now in
    let estate = c.args.estate in
    let rule = c.args.self.now.rule in
    let out = c.args.out.now in
    let checked = c.in_ok-problem.ensures.result in
    let same = checked.0 in
    let same_estate = checked.1 in
    let passed = checked.2 in
    let loss_is : c.loss-loss.result ≡ total claims - estate = c.loss-loss.ensures.result ∙ ap (λ cs. total cs - c.in_ok-problem.problem.estate) same ∙ ap (λ n. total claims - n) same_estate in
    awarded (due claims estate (length out)) passed.none (dual (g.R.Rule.awards rule) claims estate) out c.less_awards.new.awards
    (search (rules, dual_made (g.R.Rule.awards rule) (g.R.Rule.lawful rule) claims estate (length out) c.loss-loss.result passed.sound passed.room_is loss_is))
