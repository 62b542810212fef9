use Rattle.std.proofs.Common.{◌≡◌, eqb, ap, sym, ◌∙◌, arith}
use Rattle.std.proofs.lemmas.Bool.{cond-true, eq-eqb}
use Rattle.division.specs.Amounts.{total, nothing}
use Rattle.division.specs.AmountLaws.{nothing_left}
use Rattle.division.specs.Refusals.{unless_due}
use Rattle.division.specs.Proportion.{proportion}
use Rattle.division.proofs.proportion.ProportionRule.divide.Goals as goal

pub returns-then-problem-eq0-clause-awards : goal.returns-then-problem-eq0-clause-awards
returns-then-problem-eq0-clause-awards c =
    let claims = c.args.claims.now in
    let estate = c.args.estate in
    let passed = c.in_ok-problem.ensures.result in
    let none : total claims ≡ 0 = omega (arith, passed.2.sum_is) in
    c.copy_from_slice.ensures.after
    ∙ nothing_left claims none
    ∙ sym (cond-true (eqb (total claims) 0) (nothing claims) _ (eq-eqb (total claims) 0 none))
    ∙ sym (ap (λ d. unless_due d (proportion claims estate) c.args.out.now) passed.2.none)
