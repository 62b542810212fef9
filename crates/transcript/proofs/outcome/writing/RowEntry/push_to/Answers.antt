use Rattle.std.proofs.Common.{◌++◌, codes, ap, ◌∙◌, arith}
use Rattle.std.proofs.lemmas.Fmt.{length-decimal-le}
use Rattle.transcript.proofs.Writing.{numbers_line}
use Rattle.transcript.proofs.outcome.writing.RowEntry.push_to.Goals as goal

pub push_numbers-requires : goal.push_numbers-requires
push_numbers-requires c =
    let row = c.args.self.now in
    omega (arith, length-decimal-le 5 row.number (omega arith) (omega arith) (omega arith), length-decimal-le 10 row.award (omega arith) (omega arith) (omega arith))

pub returns-clause-few : goal.returns-clause-few
returns-clause-few c =
    let row = c.args.self.now in
    omega (arith, length-decimal-le 5 row.number (omega arith) (omega arith) (omega arith), length-decimal-le 10 row.award (omega arith) (omega arith) (omega arith))

pub returns-clause-text : goal.returns-clause-text
returns-clause-text c =
    let row = c.args.self.now in
    c.push_numbers.ensures.text ∙ ap (λ line. c.args.text.now ++ line) (numbers_line (codes "award") row.number row.award (omega arith) (omega arith))
