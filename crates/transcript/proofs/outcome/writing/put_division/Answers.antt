use Rattle.std.proofs.Common.{◌≡◌, [], ◌∷◌, ◌++◌, map, codes, sym, ap, ◌∙◌, arith}
use Rattle.casefile.specs.Decimal.{digits}
use Rattle.casefile.proofs.Numbering.{digits_decimal_is}
use Rattle.transcript.specs.Texts.{award_fields, as_line, as_text}
use Rattle.transcript.proofs.Writing.{begins_as, line_behind}
use Rattle.transcript.proofs.outcome.writing.put_division.Goals as goal

pub returns-clause-text : goal.returns-clause-text
returns-clause-text c =
    let division = c.args.division.now in
    let rows = map award_fields division.rows.items in
    let total = codes "total" ∷ digits division.estate ∷ [] in
    let estate = c.as_bytes.ensures.value ∙ c.format.ensures.text ∙ sym (digits_decimal_is division.estate (omega arith)) in
    let line : c.push_line.new.self ≡ as_line total =
    c.push_line.ensures.text
    ∙ ap (λ t. t ++ as_line (codes "total" ∷ c.as_bytes.result.now ∷ [])) c.new-line.ensures
    ∙ ap (λ n. as_line (codes "total" ∷ n ∷ [])) estate in
    begins_as _ _ _ _ _
    (ap (λ rs. as_text (map award_fields rs) ++ c.push_line.new.self) c.rows.ensures.result ∙ ap (λ l. as_text rows ++ l) line ∙ line_behind rows total)
    (c.put.ensures.text _ _ c.put_entries-at.ensures.text)
