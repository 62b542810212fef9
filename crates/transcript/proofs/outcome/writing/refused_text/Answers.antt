use Rattle.std.proofs.Common.{◌++◌, length, codes, ap, ◌∙◌, arith}
use Rattle.std.proofs.lemmas.Fmt.{length-decimal-le}
use Rattle.transcript.specs.Texts.{refused_fields}
use Rattle.transcript.proofs.Writing.{numbers_line, first_line}
use Rattle.transcript.proofs.outcome.writing.refused_text.Goals as goal

pub push_numbers-requires : goal.push_numbers-requires
push_numbers-requires c =
    omega (arith, ap length c.new-text.ensures, length-decimal-le 20 c.args.line (omega arith) (omega arith) (omega arith), length-decimal-le 3 c.args.number (omega arith) (omega arith) (omega arith))

pub returns : goal.returns
returns c =
    first_line c.new-text.result c.push_numbers.new.self (refused_fields c.args.line c.args.number) c.new-text.ensures
    (c.push_numbers.ensures.text ∙ ap (λ line. c.new-text.result ++ line) (numbers_line (codes "refused") c.args.line c.args.number (omega arith) (omega arith)))
