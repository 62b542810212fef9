use Rattle.std.proofs.Common.{[], ◌∷◌, sym, ap, ◌∙◌}
use Rattle.transcript.specs.Texts.{text_of, refused_fields, as_text}
use Rattle.transcript.specs.Outcomes.{told}
use Rattle.transcript.proofs.Writing.{begins_as, begins_none}
use Rattle.transcript.proofs.outcome.Outcome.put_text.Goals as goal

pub returns-in-Accepted-clause-text : goal.returns-in-Accepted-clause-text
returns-in-Accepted-clause-text c = begins_as _ _ _ _ _ (c.word_text.ensures ∙ ap (λ o. text_of c.args.line (told o)) (sym c.in-Accepted.is)) (c.put.ensures.text [] _ (begins_none _))

pub returns-in-Drawn-clause-text : goal.returns-in-Drawn-clause-text
returns-in-Drawn-clause-text c = begins_as _ _ _ _ _ (c.drawn_text.ensures ∙ ap (λ o. text_of c.args.line (told o)) (sym c.in-Drawn.is)) (c.put-in-Drawn.ensures.text [] _ (begins_none _))

pub returns-in-Returned-clause-text : goal.returns-in-Returned-clause-text
returns-in-Returned-clause-text c = begins_as _ _ _ _ _ (c.word_text-in-Returned.ensures ∙ ap (λ o. text_of c.args.line (told o)) (sym c.in-Returned.is)) (c.put-in-Returned.ensures.text [] _ (begins_none _))

pub returns-in-Compared-clause-text : goal.returns-in-Compared-clause-text
returns-in-Compared-clause-text c = begins_as _ _ _ _ _ (c.comparison_text.ensures c.args.line ∙ ap (λ o. text_of c.args.line (told o)) (sym c.in-Compared.is)) (c.put-in-Compared.ensures.text [] _ (begins_none _))

pub returns-in-Refused-clause-text : goal.returns-in-Refused-clause-text
returns-in-Refused-clause-text c = begins_as _ _ _ _ _ (c.refused_text.ensures ∙ ap (λ n. as_text (refused_fields c.args.line n ∷ [])) c.number.ensures.result ∙ ap (λ o. text_of c.args.line (told o)) (sym c.in-Refused.is)) (c.put-in-Refused.ensures.text [] _ (begins_none _))
