use Rattle.std.proofs.Common.{◌≡◌, length, None, sym, ap, ◌∙◌, subst, arith}
use Rattle.division.specs.Amounts.{cut}
use Rattle.division.specs.AmountLaws.{length-cut}
use Rattle.division.specs.Problem.{Sound}
use Rattle.division.specs.Refusals.{due, answer}
use Rattle.operators.specs.Operators.{truncation}
use Rattle.operators.specs.TruncationLawful.{cut_sound}
use Rattle.operators.proofs.Problems.{sound_passes, asked_awards, answered, awarded}
use Rattle.operators.proofs.truncation.TruncationRule.divide.Goals as goal

pub returns : goal.returns
returns g c =
    let claims = c.args.claims.now in
    let estate = c.args.estate in
    let out = c.args.out.now in
    let f = g.R.Rule.awards c.args.self.now.rule in
    let checked = c.in_ok-problem.ensures.result in
    let asked = c.cut_claims.new.out in
    let cut_is : asked ≡ cut estate claims = c.cut_claims.ensures.claims ∙ ap (cut estate) checked.0 in
    let sound : Sound asked estate = subst (λ xs. Sound xs estate) (sym cut_is) (cut_sound claims estate checked.2.sound) in
    let room : length out ≡ length asked = omega (arith, ap length cut_is, length-cut estate claims, checked.2.room_is) in
    let refusal = due claims estate (length out) in
    let none : refusal ≡ None = checked.2.none in
    record {
      result = c.divide.ensures.result ∙ ap (λ o. answer o tt) (sound_passes asked estate _ sound room) ∙ answered refusal none;
      awards = awarded refusal none (truncation f claims estate) out c.divide.new.out (asked_awards asked estate _ sound room _ _ _ c.divide.ensures.awards ∙ ap (λ xs. f xs estate) cut_is);
    }
