use Rattle.std.proofs.Common.{subst, sym, ap, ◌∙◌}
use Rattle.division.specs.Amounts.{total}
use Rattle.division.specs.Problem.{Sound}
use Rattle.division.specs.TalmudLawful.{halves_sound}
use Rattle.division.proofs.talmud.pay_on_halves.Goals as goal

pub invariant_of-halved : goal.invariant_of-halved
invariant_of-halved c =
    let problem = c.args.problem.now in
    let made = c.write_parts.ensures.parts in
    record {
      sound = subst (λ cs. Sound cs c.args.shared) (sym made) (halves_sound problem.claims.now problem.estate c.args.shared problem.sound c.requires.covered);
      sum_is = c.base_total.ensures.result ∙ sym (ap total made);
    }
