use Rattle.std.proofs.Common.{ap, ◌∙◌, arith}
use Rattle.division.specs.Amounts.{less}
use Rattle.division.specs.AmountLaws.{less_over_same}
use Rattle.division.proofs.talmud.pay_losses.Goals as goal

pub returns : goal.returns
returns c =
    let claims = c.args.problem.now.claims.now in
    let paid = c.pay_on_halves.new.out in
    record { awards = c.less_awards.ensures.awards ∙ less_over_same claims paid (omega arith) ∙ ap (less claims) c.pay_on_halves.ensures.awards }
