use Rattle.std.proofs.Common.{arith}
use Rattle.division.specs.TalmudLawful.{total-halves}
use Rattle.division.proofs.talmud.pay_by_range.Goals as goal

pub overflow_add-middle : goal.overflow_add-middle
overflow_add-middle c = omega (arith, total-halves c.args.problem.now.claims.now, c.args.problem.now.sound.small, c.base_total-middle.ensures.result, c.marked_count.ensures.result)

pub pay_losses-requires-clause-covered : goal.pay_losses-requires-clause-covered
pay_losses-requires-clause-covered c = omega (arith, total-halves c.args.problem.now.claims.now, c.base_total-middle.ensures.result, c.marked_count.ensures.result, c.loss.ensures.result, c.args.problem.now.sound.covered)
