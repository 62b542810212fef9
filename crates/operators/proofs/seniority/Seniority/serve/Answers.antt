use Rattle.std.proofs.Common.{◌≡◌, ℕ, length, take, replicate, ap, arith, length-take}
use lib.ListN.{length-replicate}
use Rattle.division.specs.Amounts.{total}
use Rattle.division.specs.Problem.{most_claims}
use Rattle.operators.specs.ClassLaws.{total-of_class}
use Rattle.operators.proofs.Problems.{never_refused}
use Rattle.operators.proofs.Turns.{Turn, turn}
use Rattle.operators.proofs.seniority.Seniority.serve.Given as given
use Rattle.operators.proofs.seniority.Seniority.serve.Goals as goal
use Rattle.operators.proofs.seniority.Seniority.serve.Goals.{After-divide}

-- the rule was asked the class's own problem
asked : (g : given.Over) (c : After-divide g) → Turn c.args.class c.args.self.now.classes c.args.problem.now.claims.now c.args.left c.claims_of.new.out c.min-share.result
asked g c =
    turn c.args.class c.args.self.now.classes c.args.problem.now.claims.now c.args.left _ _ _ c.args.problem.now.estate c.args.problem.now.sound
    c.claims_of.ensures.claims
    c.total_of.ensures.result
    c.min-share.ensures

-- with a place for each claim
room : (g : given.Over) (c : After-divide g) → length (take (length c.args.problem.now.claims.now) (replicate {A = ℕ} most_claims 0)) ≡ length c.claims_of.new.out
room g c =
    let claims = c.args.problem.now.claims.now in
    omega (arith, length-take {A = ℕ} (length claims) (replicate most_claims 0), length-replicate {A = ℕ} most_claims 0, (asked g c).as_long, c.args.problem.now.sound.few)

pub total_of-requires : goal.total_of-requires
total_of-requires g c =
    let claims = c.args.problem.now.claims.now in
    record { small = omega (arith, ap total c.claims_of.ensures.claims, total-of_class c.args.class c.args.self.now.classes claims, c.args.problem.now.sound.small) }

pub returns-in_err-divide : goal.returns-in_err-divide
returns-in_err-divide g c =
    let at = (goal.at.returns-in_err-divide g c).After-divide in
    absurd (never_refused _ _ _ (asked g at).sound (room g at) _ _ c.divide.ensures.result c.in_err-divide.was)
