use Rattle.std.proofs.Common.{ℕ, ◌-◌, min, ltb, ap, ◌∙◌}
use Rattle.division.specs.Amounts.{total, cut}
use Rattle.division.specs.Units.{topped_up}
use Rattle.division.specs.EqualAwardsLawful.{level_unique}
use Rattle.division.proofs.equal_awards.pay_equally.Goals as goal

pub returns : goal.returns
returns c =
    let claims = c.args.problem.now.claims.now in
    let estate = c.args.problem.now.estate in
    let l = c.find_level-level.result.0 in
    record {
      awards = c.hand_out.ensures.awards
          ∙ ap (λ r. topped_up (λ n. min n l) (λ n. ltb l n) r claims) c.find_level-level.ensures.rest
          ∙ ap (λ (k : ℕ). topped_up (λ n. min n k) (λ n. ltb k n) (estate - total (cut k claims)) claims) (level_unique claims estate l c.find_level-level.ensures.level);
    }
