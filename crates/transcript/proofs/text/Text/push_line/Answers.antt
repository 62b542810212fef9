use Rattle.std.proofs.Common.{[], ◌∷◌, ◌++◌, take, ap, ◌∙◌, arith}
use Rattle.std.proofs.lemmas.List.{take_all}
use Rattle.casefile.specs.Lines.{line_end}
use Rattle.transcript.proofs.Writing.{behind_word, line_is}
use Rattle.transcript.proofs.text.Text.push_line.Goals as goal

pub returns-clause-text : goal.returns-clause-text
returns-clause-text c =
    let fields = c.args.fields.now in
    c.push_byte-2.ensures
    ∙ ap (λ t. t ++ line_end ∷ []) (c.loop-field.invariant.0 ∙ ap (λ t. t ++ behind_word (take c.loop-field.field-index fields)) c.push.ensures ∙ ap (λ fs. (c.args.self.now ++ c.args.word.now) ++ behind_word fs) (take_all c.loop-field.field-index fields (omega arith)))
    ∙ line_is c.args.self.now c.args.word.now fields
