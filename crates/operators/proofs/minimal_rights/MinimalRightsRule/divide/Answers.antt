use Rattle.std.proofs.Common.{◌≡◌, ◌-◌, length, None, ap, ◌∙◌, arith}
use Rattle.division.specs.Amounts.{total, cut}
use Rattle.division.specs.Refusals.{due}
use Rattle.operators.specs.Operators.{rights, minimal_rights}
use Rattle.operators.specs.RightsLawful.{rights_fit}
use Rattle.operators.proofs.Problems.{never_refused, asked_awards, awarded}
use Rattle.operators.proofs.Rights.{Parted, parted, rights_first, rights_and_awards}
use Rattle.operators.proofs.minimal_rights.MinimalRightsRule.divide.Given as given
use Rattle.operators.proofs.minimal_rights.MinimalRightsRule.divide.Goals as goal
use Rattle.operators.proofs.minimal_rights.MinimalRightsRule.divide.Goals.{After-divide}

-- the rule was asked to share the rest
asked : (g : given.Over) (c : After-divide g) → Parted c.args.claims.now c.args.estate (length c.args.out.now) c.rights_of.new.out c.total_of-own_total.result c.cut_claims.new.out
asked g c =
    let checked = c.in_ok-problem.ensures.result in
    let loss = c.loss-loss.result in
    let same = checked.0 in
    let same_estate = checked.1 in
    let loss_is : loss ≡ total c.args.claims.now - c.args.estate = c.loss-loss.ensures.result ∙ ap (λ cs. total cs - c.in_ok-problem.problem.estate) same ∙ ap (λ n. total c.args.claims.now - n) same_estate in
    parted c.args.claims.now c.args.estate _ loss _ _ _ checked.2.sound checked.2.room_is loss_is
    (c.rights_of.ensures.rights ∙ ap (rights loss) same)
    c.total_of-own_total.ensures.result
    (c.cut_claims.ensures.claims ∙ ap (cut loss) same)

-- and gave its awards for it
given_rest : (g : given.Over) (c : After-divide g) → c.divide.new.out ≡ g.R.Rule.awards c.args.self.now.rule c.cut_claims.new.out (c.args.estate - c.total_of-own_total.result)
given_rest g c = asked_awards _ _ _ (asked g c).rest_sound (asked g c).room_is _ _ _ c.divide.ensures.awards

pub total_of-own_total-requires : goal.total_of-own_total-requires
total_of-own_total-requires g c =
    let problem = c.in_ok-problem.problem in
    let own_is = c.rights_of.ensures.rights ∙ ap (λ n. rights n problem.claims.now) c.loss-loss.ensures.result in
    record { small = omega (arith, ap total own_is, rights_fit problem.claims.now problem.estate problem.sound, problem.sound.covered, problem.sound.small) }

pub overflow_sub-estate : goal.overflow_sub-estate
overflow_sub-estate g c =
    let problem = c.in_ok-problem.problem in
    let own_is = c.rights_of.ensures.rights ∙ ap (λ n. rights n problem.claims.now) c.loss-loss.ensures.result in
    omega (arith, c.total_of-own_total.ensures.result, ap total own_is, rights_fit problem.claims.now problem.estate problem.sound, c.in_ok-problem.ensures.result.1)

pub returns-in_err-divide : goal.returns-in_err-divide
returns-in_err-divide g c =
    let problem = asked g (goal.at.returns-in_err-divide g c).After-divide in
    absurd (never_refused _ _ _ problem.rest_sound problem.room_is _ _ c.divide.ensures.result c.in_err-divide.was)

pub add_to-requires : goal.add_to-requires
add_to-requires g c =
    let at = (goal.at.add_to-requires g c).After-divide in
    let rule = c.args.self.now.rule in
    let both = rights_and_awards (asked g at) (g.R.Rule.awards rule) (g.R.Rule.lawful rule) _ (given_rest g at) in
    record { long = both.0; small = both.1 }

pub returns-clause-awards : goal.returns-clause-awards
returns-clause-awards g c =
    let at = (goal.at.returns-clause-awards g c).After-divide in
    let claims = c.args.claims.now in
    let estate = c.args.estate in
    let f = g.R.Rule.awards c.args.self.now.rule in
    let refusal = due claims estate (length c.args.out.now) in
    let none : refusal ≡ None = c.in_ok-problem.ensures.result.2.none in
    awarded refusal none (minimal_rights f claims estate) c.args.out.now c.add_to.new.awards
    (rights_first (asked g at) f _ _ (given_rest g at) c.add_to.ensures.awards)
