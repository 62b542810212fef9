use Rattle.std.proofs.Common.{min, ◌∙◌, rules}
use Rattle.operators.proofs.Made.{cut_made}
use Rattle.operators.proofs.amounts.cut_claims.Goals as goal

pub returns : goal.returns
returns c = record { claims = c.of_each.ensures.amounts (λ n. min n c.args.most) (λ n a made. search rules) ∙ cut_made c.args.most c.args.problem.now.claims.now }
