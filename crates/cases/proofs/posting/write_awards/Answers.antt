use Rattle.std.proofs.Common.{get_or, set, sym, ap, ◌∙◌}
use Rattle.cases.specs.Rows.{no_row, set_award}
use Rattle.cases.proofs.Payments.{awards_none, awards_more}
use Rattle.cases.proofs.posting.write_awards.Goals as goal

pub loop-i-init : goal.loop-i-init
loop-i-init c = sym (awards_none c.args.rows.now)

pub loop-i-preserved : goal.loop-i-preserved
loop-i-preserved c =
    let i = c.loop-i.i in
    let awards = c.args.awards.now in
    ap (λ rows. set rows i (set_award (get_or awards i 0) (get_or rows i no_row))) c.loop-i.invariant
    ∙ awards_more awards c.args.rows.now i no_row c.requires c.loop-i-test.true
