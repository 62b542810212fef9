use Rattle.std.proofs.Common.{ℕ, List, ap, ◌∙◌}
use Rattle.operators.specs.Operators.{served}
use Rattle.operators.specs.Classes.{order_of, kept}
use Rattle.operators.specs.ClassListLaws.{kept_serves}
use Rattle.normal_form.specs.Letters.{applied}
use Rattle.normal_form.specs.FormParts.{parts}
use Rattle.normal_form.specs.Layers.{from_outer_truncation}
use Rattle.normal_form.proofs.Laying.{served_under}
use Rattle.normal_form.proofs.form.layers.in_order.Goals as goal

pub returns : goal.returns
returns g c =
    let meaning = g.R.Rule.awards in
    let letters = from_outer_truncation (parts c.args.form.now) in
    let problem = c.args.asked.now.problem in
    let classes = c.args.asked.now.classes.now in
    let claims = problem.claims.now in
    let estate = problem.estate in
    let layer = c.in-Ok.layer in
    let told = c.in-Ok.ensures in
    record {
      awards = c.outer_truncation.ensures.awards classes
          ∙ ap (λ o. applied letters classes (served (order_of o) layer.classes (meaning layer.rule.rule.now)) claims estate) told.result.1
          ∙ ap (λ b. applied letters classes (served (order_of c.args.order) layer.classes (meaning b.rule.now)) claims estate) told.result.0
          ∙ ap (λ r. applied letters classes (served (order_of c.args.order) layer.classes (meaning r)) claims estate) c.new.ensures.result
          ∙ ap (λ (ks : List ℕ). applied letters classes (served (order_of c.args.order) ks (meaning c.args.rule.now)) claims estate) told.result.2
          ∙ served_under letters classes (order_of c.args.order) (kept classes) classes (meaning c.args.rule.now) claims estate (kept_serves (order_of c.args.order) classes) problem.sound;
    }
