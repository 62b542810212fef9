use Rattle.std.proofs.Common.{rules}
use Rattle.normal_form.specs.Letters.{letters_in}
use Rattle.normal_form.proofs.Answering.{says_same, says_differ}
use Rattle.normal_form.proofs.compare.compare.Goals as goal

pub returns-then-same : goal.returns-then-same
returns-then-same c =
    let read = c.in_ok-first.ensures.result in
    let read_too = c.in_ok-second.ensures.result in
    record { result = says_same c.in_ok-first.first c.in_ok-second.second (letters_in c.args.left.now) (letters_in c.args.right.now) (search rules) (search rules) (search rules) }

pub returns-else-same : goal.returns-else-same
returns-else-same c =
    let read = c.in_ok-first.ensures.result in
    let read_too = c.in_ok-second.ensures.result in
    record { result = says_differ c.in_ok-first.first c.in_ok-second.second (letters_in c.args.left.now) (letters_in c.args.right.now) (search rules) (search rules) (search rules) }
