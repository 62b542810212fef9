use Rattle.std.proofs.Common.{◌++◌, ap, ◌∙◌, arith, w64, SFits, rules}
use Rattle.std.proofs.lemmas.Fmt.{length-decimal-le}
use Rattle.transcript.proofs.Writing.{posting_few, post_line}
use Rattle.transcript.proofs.outcome.writing.PostingEntry.push_to.Goals as goal

pub push_numbers-requires : goal.push_numbers-requires
push_numbers-requires c =
    let posting = c.args.self.now in
    let fits : SFits w64 posting.amount = search rules in
    omega (arith, length-decimal-le 5 posting.number (omega arith) (omega arith) (omega arith), posting_few posting c.requires.short fits)

pub returns-clause-few : goal.returns-clause-few
returns-clause-few c =
    let posting = c.args.self.now in
    let fits : SFits w64 posting.amount = search rules in
    omega (arith, length-decimal-le 5 posting.number (omega arith) (omega arith) (omega arith), posting_few posting c.requires.short fits)

pub returns-clause-text : goal.returns-clause-text
returns-clause-text c =
    let posting = c.args.self.now in
    let fits : SFits w64 posting.amount = search rules in
    c.push_numbers.ensures.text ∙ ap (λ line. c.args.text.now ++ line) (post_line posting (omega arith) fits)
