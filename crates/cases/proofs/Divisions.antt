-- A case that divides hands on a problem that no rule refuses. Assumes nothing.
use Rattle.std.proofs.Common.{◌≡◌, ℕ, ◌≤◌, true, List, length, None, arith}
use lib.ListN.{length-map}
use Rattle.std.proofs.lemmas.Bool.Decides.{nat_tests}
use Rattle.division.specs.Amounts.{total}
use Rattle.division.specs.Problem.{most_claims, most_total}
use Rattle.operators.specs.Operators.{Classed}
use Rattle.operators.specs.Classes.{all_classed}
use Rattle.operators.specs.ClassListLaws.{tested_if_classed}
use Rattle.normal_form.specs.Piles.{pile_due}
use Rattle.cases.specs.Rows.{amounts, classes_of}
use Rattle.cases.specs.Cases.{View, divide_due, estate_of}

passes : (classes claims : List ℕ) (estate room : ℕ) → length claims ≤ most_claims → room ≡ length claims → length classes ≡ length claims → total claims ≤ most_total → estate ≤ total claims → all_classed classes ≡ true → pile_due true classes claims estate room ≡ None
passes classes claims estate room few same long small covered classed = grind (arith, nat_tests)

covers : (v : View) → divide_due v ≡ None → estate_of v ≤ total (amounts v.rows)
covers v none = grind (arith, nat_tests)

pub never_refused : (v : View) (room : ℕ) → length v.rows ≤ most_claims → room ≡ length v.rows → total (amounts v.rows) ≤ most_total → Classed (classes_of v.rows) → divide_due v ≡ None → pile_due true (classes_of v.rows) (amounts v.rows) (estate_of v) room ≡ None
never_refused v room few same small classed none =
    let rows = v.rows in
    let claims_long = length-map rows (λ row. row.amount) in
    let classes_long = length-map rows (λ row. row.class) in
    passes (classes_of rows) (amounts rows) (estate_of v) room (omega arith) (omega arith) (omega arith) small (covers v none) (tested_if_classed (classes_of rows) classed)
