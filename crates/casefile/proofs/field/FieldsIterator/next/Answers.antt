use Rattle.std.proofs.Common.{length, ap, ◌∙◌, arith}
use Rattle.casefile.specs.Fields.{fields_left}
use Rattle.casefile.proofs.Fielding.{cut_off}
use Rattle.casefile.proofs.field.FieldsIterator.next.Goals as goal

pub returns-clause-steps : goal.returns-clause-steps
returns-clause-steps c =
    ap fields_left c.in_ok-text.was ∙ cut_off c.in_ok-text.text.now c.count_before-count.result c.get-self.result c.count_before-count.ensures.result c.get-self.ensures.lookup

pub returns-clause-goes : goal.returns-clause-goes
returns-clause-goes c =
    let gives = ap fields_left c.in_ok-text.was ∙ cut_off c.in_ok-text.text.now c.count_before-count.result c.get-self.result c.count_before-count.ensures.result c.get-self.ensures.lookup in
    record { on = λ _. (tt, tt, omega (arith, ap length gives)); keeps = tt; rests = λ _. tt }
