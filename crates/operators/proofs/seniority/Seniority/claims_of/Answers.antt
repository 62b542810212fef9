use Rattle.std.proofs.Common.{cond, eqb, get_or, sym, ap, ◌∙◌, arith}
use Rattle.std.proofs.lemmas.List.{get_or_default}
use Rattle.operators.specs.Operators.{of_class}
use Rattle.operators.specs.ClassLaws.{length-of_class, slice_index-of_class}
use Rattle.operators.proofs.Writes.{partly_more, partly_all}
use Rattle.operators.proofs.seniority.Seniority.claims_of.Goals as goal

pub loop-place-preserved : goal.loop-place-preserved
loop-place-preserved g c =
    let class = c.args.class in
    let classes = c.args.self.now.classes in
    let claims = c.args.problem.now.claims.now in
    let place = c.loop-place.place in
    let own = get_or_default classes place 0 8 (omega arith) in
    partly_more (of_class class classes claims) c.args.out.now c.loop-place.out place _ c.loop-place.invariant (omega arith)
    (c.claim_in.ensures.result ∙ ap (λ j. cond (eqb j class) (get_or claims place 0) 0) own ∙ sym (slice_index-of_class class classes claims place))

pub returns : goal.returns
returns g c =
    let class = c.args.class in
    let classes = c.args.self.now.classes in
    let claims = c.args.problem.now.claims.now in
    let long = length-of_class class classes claims in
    record { claims = partly_all (of_class class classes claims) c.args.out.now c.loop-place.out c.loop-place.place c.loop-place.invariant (omega arith) (omega arith) }
