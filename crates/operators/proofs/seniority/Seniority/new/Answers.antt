use Rattle.std.proofs.Common.{take, sym, subst}
use Rattle.division.specs.Problem.{most_claims}
use Rattle.operators.specs.Operators.{Classed}
use Rattle.operators.specs.Classes.{order_of, ServeAlike}
use Rattle.operators.specs.ClassListLaws.{classed_if_none_due, kept_classed, kept_serves, kept_as_front}
use Rattle.operators.proofs.ClassTests.{passed_none}
use Rattle.operators.proofs.seniority.Seniority.new.Goals as goal

pub invariant_of-result : goal.invariant_of-result
invariant_of-result g c =
    let classes = c.args.classes.now in
    let classed = classed_if_none_due classes (passed_none _ c.in-Ok.ensures.result) in
    record { classed = subst Classed (sym c.keep.ensures.result) (kept_classed classes classed) }

pub returns-in-Ok-clause-meaning : goal.returns-in-Ok-clause-meaning
returns-in-Ok-clause-meaning g c =
    let classes = c.args.classes.now in
    let order = order_of c.args.order in
    subst (λ ks. ServeAlike order ks (take most_claims classes) × ServeAlike order ks classes) (sym c.keep.ensures.result) (kept_as_front order classes, kept_serves order classes)
