use Rattle.std.proofs.Common.{◌≡◌, Some, sym, ap, ◌∙◌}
use Rattle.std.specs.Result.{result_ok}
use Rattle.normal_form.specs.Letters.{letters_in}
use Rattle.casefile.specs.Calls.{field_letters, handed}
use Rattle.transcript.specs.Turns.{operators_of, forms_told}
use Rattle.transcript.proofs.Comparing.{compare_told}
use Rattle.transcript.proofs.in_hand.calls.compare_fields.Goals as goal

pub returns : goal.returns
returns c =
    let l = c.in_ok-left.left.now in
    let r = c.in_ok-right.right.now in
    let left : field_letters c.args.left.now ≡ Some l = sym c.letters_of.ensures.result ∙ ap handed (c.ok_or.ensures.ok_part ∙ ap result_ok c.in_ok-left.was) in
    let right : field_letters c.args.right.now ≡ Some r = sym c.letters_of-2.ensures.result ∙ ap handed (c.ok_or-2.ensures.ok_part ∙ ap result_ok c.in_ok-right.was) in
    record {
      result = compare_told (letters_in l) (letters_in r) c.in_ok-compare.field-0 c.in_ok-compare.ensures.result
          ∙ ap (λ o. forms_told (operators_of o) (letters_in r)) (sym left)
          ∙ ap (λ o. forms_told (operators_of (field_letters c.args.left.now)) (operators_of o)) (sym right);
    }
