-- The loops over a table's rows, and what the table's calls keep of its rows. Assumes nothing.
use Rattle.std.proofs.Common.{◌≡◌, ℕ, zero, suc, ◌+◌, true, leb, List, [], ◌∷◌, ◌++◌, map, length, get_or, set, sum, sym, refl, ap, ◌∙◌, arith}
use Rattle.std.specs.List.{AllZip}
use Rattle.std.proofs.lemmas.List.{map-set, set-get_or}
use Rattle.std.proofs.lemmas.List.Recursion.{is_sum_by}
use Rattle.std.proofs.lemmas.Bool.{and_parts, leb-true}
use Rattle.division.specs.Amounts.{total}
use Rattle.operators.specs.Operators.{Classed, last_class}
use Rattle.operators.specs.Classes.{is_class_number}
use Rattle.cases.specs.declared.row.Row.{Row}
use Rattle.cases.specs.Rows.{amounts, classes_of, set_amount, with_awards, settled}

pub total_push : (xs : List ℕ) (y : ℕ) → total (xs ++ y ∷ []) ≡ total xs + y
total_push [] y = omega arith
total_push (x ∷ xs) y = omega (arith, total_push xs y)

-- a row more with a class from 1 to 8 keeps every class there
pub classed_push : (rows : List Row) (row : Row) → Classed (classes_of rows) → is_class_number row.class ≡ true → Classed (classes_of (rows ++ row ∷ []))
classed_push [] row h is zero =
    let ends = and_parts (leb 1 row.class) (leb row.class last_class) is in
    (leb-true 1 row.class ends.0, leb-true row.class last_class ends.1)
classed_push [] row h is (suc i) = h i
classed_push (r ∷ rows) row h is zero = h 0
classed_push (r ∷ rows) row h is (suc i) = classed_push rows row (λ k. h (suc k)) is i

-- another amount in a row changes no class
pub classes_amended : (rows : List Row) (i amount : ℕ) (row : Row) → row.class ≡ get_or (classes_of rows) i row.class → classes_of (set rows i (set_amount amount row)) ≡ classes_of rows
classes_amended rows i amount row is =
    map-set (λ r. r.class) rows i (set_amount amount row) ∙ ap (set (classes_of rows) i) is ∙ set-get_or (classes_of rows) i row.class

-- awards change neither amounts nor classes nor how many rows there are
pub amounts_awarded : (new : List ℕ) (rows : List Row) → amounts (with_awards new rows) ≡ amounts rows
amounts_awarded new [] = refl
amounts_awarded [] (row ∷ rows) = refl
amounts_awarded (a ∷ new) (row ∷ rows) = ap (λ l. row.amount ∷ l) (amounts_awarded new rows)

pub classes_awarded : (new : List ℕ) (rows : List Row) → classes_of (with_awards new rows) ≡ classes_of rows
classes_awarded new [] = refl
classes_awarded [] (row ∷ rows) = refl
classes_awarded (a ∷ new) (row ∷ rows) = ap (λ l. row.class ∷ l) (classes_awarded new rows)

pub length-awarded : (new : List ℕ) (rows : List Row) → length (with_awards new rows) ≡ length rows
length-awarded new [] = refl
length-awarded [] (row ∷ rows) = refl
length-awarded (a ∷ new) (row ∷ rows) = ap suc (length-awarded new rows)

-- nor does a payment
pub amounts_settled : (rows : List Row) → amounts (map settled rows) ≡ amounts rows
amounts_settled [] = refl
amounts_settled (row ∷ rows) = ap (λ l. row.amount ∷ l) (amounts_settled rows)

pub classes_settled : (rows : List Row) → classes_of (map settled rows) ≡ classes_of rows
classes_settled [] = refl
classes_settled (row ∷ rows) = ap (λ l. row.class ∷ l) (classes_settled rows)

-- what a chain adds up is the total
pub sum_is_total : (xs : List ℕ) → sum xs ≡ total xs
sum_is_total xs = sym (is_sum_by total (λ x. x) refl (λ _ _. refl) xs)

-- a list made value by value is a map
pub made_is_map : {A B : Type 0} (v : A → B) (R : A → B → Type 0) (xs : List A) (ys : List B) → AllZip R xs ys → ((x : A) (y : B) → R x y → y ≡ v x) → ys ≡ map v xs
made_is_map v R [] [] h each = refl
made_is_map v R [] (y ∷ ys) h each = absurd h
made_is_map v R (x ∷ xs) [] h each = absurd h
made_is_map v R (x ∷ xs) (y ∷ ys) h each = cc (each x y h.0, made_is_map v R xs ys h.1 each)
