-- Serving the classes in turn keeps a rule lawful, in any order that serves each class once. Assumes nothing.
use Rattle.std.proofs.Common.{ap, subst, arith}
use Rattle.std.specs.Prelude.{ℕ, ◌≤◌, List}
use Rattle.division.specs.Amounts.{total}
use Rattle.division.specs.Problem.{Divides, Meaning, Lawful}
use Rattle.operators.specs.Operators.{Classed, served, seniority, reverse_seniority, senior_first, junior_first}
use Rattle.operators.specs.ClassLaws.{EachOnce, of_order, of_whole_order, served_divides, senior_once, junior_once}

pub served_lawful : (order classes : List ℕ) → EachOnce order → Classed classes → (f : Meaning) → Lawful f → Lawful (served order classes f)
served_lawful order classes once classed f law claims estate s =
    let whole = of_whole_order order classes claims once classed in
    let fits : estate ≤ total (of_order order classes claims) = omega (arith, ap total whole, s.covered) in
    subst (λ xs. Divides xs estate (served order classes f claims estate)) whole (served_divides order classes f law claims estate s estate fits)

pub seniority_lawful : (classes : List ℕ) → Classed classes → (f : Meaning) → Lawful f → Lawful (seniority classes f)
seniority_lawful classes classed = served_lawful senior_first classes senior_once classed

pub reverse_seniority_lawful : (classes : List ℕ) → Classed classes → (f : Meaning) → Lawful f → Lawful (reverse_seniority classes f)
reverse_seniority_lawful classes classed = served_lawful junior_first classes junior_once classed
