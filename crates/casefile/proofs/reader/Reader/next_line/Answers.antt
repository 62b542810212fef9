use Rattle.std.proofs.Common.{◌≡◌, ◌+◌, ◌-◌, min, length, take, drop, ap, ◌∙◌, subst, arith}
use Rattle.std.proofs.lemmas.List.{take_rest}
use Rattle.casefile.specs.Marks.{before}
use Rattle.casefile.specs.Lines.{line_end, NextLine}
use Rattle.casefile.proofs.Walking.{line_found}
use Rattle.casefile.proofs.reader.Reader.next_line.Goals as goal

pub returns-clause-line : goal.returns-clause-line
returns-clause-line c =
    let file = c.args.self.now.file.now in
    let place = c.args.self.now.place in
    let count = c.count_before.result in
    let counted : count ≡ length (before line_end (drop place file)) =
    c.count_before.ensures.result ∙ ap (λ rest. length (before line_end rest)) (take_rest file place) in
    let after_is : c.min-self.result ≡ min (place + count + 1) (length file) = omega arith in
    let size : count ≡ (place + count) - place = omega arith in
    subst (λ n. NextLine file place (take n (drop place file)) c.min-self.result) size
    (line_found file place count c.min-self.result c.if-self-length.false counted after_is)
