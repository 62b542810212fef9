use Rattle.std.proofs.Common.{length, sym, ◌∙◌, ⊎_elim, arith, ext_get_or}
use Rattle.std.proofs.lemmas.Bool.{cases_lt}
use Rattle.std.proofs.lemmas.List.{length-take-le}
use Rattle.division.specs.Amounts.{less_over}
use Rattle.division.specs.AmountLaws.{length-less_over, less_over_inside, less_over_behind}
use Rattle.division.proofs.amounts.less_awards.Goals as goal

pub returns : goal.returns
returns c =
    let claims = c.args.claims.now in
    let before = c.args.awards.now in
    let cut = length-take-le c.min-count.result claims (omega (arith, c.min-count.ensures)) in
    record {
      awards = ext_get_or 0 _ (less_over claims before) (omega (arith, length-less_over claims before))
          (λ i h. ⊎_elim
          (λ inside. c.loop-place.invariant.0 i (omega (arith, cut)) ∙ sym (less_over_inside claims before i inside (omega arith)))
          (λ behind. c.loop-place.invariant.1 i (omega (arith, cut)) ∙ sym (less_over_behind claims before i behind))
          (cases_lt i (length claims)));
    }
