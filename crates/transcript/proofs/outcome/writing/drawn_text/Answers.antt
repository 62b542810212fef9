use Rattle.std.proofs.Common.{[], ◌∷◌, ◌++◌, length, codes, ap, ◌∙◌, arith}
use Rattle.std.proofs.lemmas.Fmt.{length-decimal-le}
use Rattle.casefile.specs.Decimal.{digits}
use Rattle.transcript.proofs.Writing.{numbers_line, first_line}
use Rattle.transcript.proofs.outcome.writing.drawn_text.Goals as goal

pub push_numbers-requires : goal.push_numbers-requires
push_numbers-requires c =
    omega (arith, ap length c.new-text.ensures, length-decimal-le 20 c.args.rows (omega arith) (omega arith) (omega arith), length-decimal-le 20 c.args.total (omega arith) (omega arith) (omega arith))

pub returns : goal.returns
returns c =
    let rows = c.args.rows in
    let total = c.args.total in
    first_line c.new-text.result c.push_numbers.new.self (codes "sheet" ∷ digits rows ∷ digits total ∷ []) c.new-text.ensures
    (c.push_numbers.ensures.text ∙ ap (λ line. c.new-text.result ++ line) (numbers_line (codes "sheet") rows total (omega arith) (omega arith)))
