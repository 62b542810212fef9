use Rattle.std.proofs.Common.{arith}
use Rattle.division.specs.ProportionLawful.{parts_within}
use Rattle.division.proofs.proportion.pay_parts.Goals as goal

pub overflow_sub-estate : goal.overflow_sub-estate
overflow_sub-estate c =
    let problem = c.args.problem.now in
    omega (arith, c.base_total-paid.ensures.result, parts_within problem.estate problem.sum problem.claims.now problem.sum_is c.requires.some)
