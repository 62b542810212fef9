use Rattle.std.proofs.Common.{◌-◌, ◌∙◌, rules}
use Rattle.operators.proofs.Made.{rights_made}
use Rattle.operators.proofs.amounts.rights_of.Goals as goal

pub returns : goal.returns
returns c = record { rights = c.of_each.ensures.amounts (λ n. n - c.args.loss) (λ n a made. search rules) ∙ rights_made c.args.loss c.args.problem.now.claims.now }
