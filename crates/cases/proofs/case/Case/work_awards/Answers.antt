use Rattle.std.proofs.Common.{◌≡◌, ℕ, true, length, None, ap, ◌∙◌, arith}
use Rattle.division.specs.Refusals.{answer}
use Rattle.normal_form.specs.Piles.{pile_due}
use Rattle.cases.specs.Rows.{classes_of}
use Rattle.cases.specs.Cases.{estate_of}
use Rattle.cases.specs.CaseViews.{view}
use Rattle.cases.proofs.Divisions.{never_refused}
use Rattle.cases.proofs.case.Case.work_awards.Goals as goal

pub unreachable-requires : goal.unreachable-requires
unreachable-requires g c =
    let v = view c.args.self.now in
    let table = c.args.self.now.table in
    let room = length c.args.awards.now in
    let none : pile_due true c.write_classes.new.out c.write_claims.new.out (estate_of v) room ≡ None =
    ap (λ ks. pile_due true ks c.write_claims.new.out (estate_of v) room) c.write_classes.ensures.classes
    ∙ ap (λ cs. pile_due true (classes_of v.rows) cs (estate_of v) room) c.write_claims.ensures.claims
    ∙ never_refused v room (omega (arith, table.few, table.rows.ok.0)) c.requires.room table.small table.classed c.requires.due in
    let never : ◌≡◌ {A = ℕ} 0 1 = cc (c.in-Err.ensures.result, ap (λ o. answer o (tt {0})) none) in
    omega arith
