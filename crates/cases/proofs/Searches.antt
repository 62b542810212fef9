-- What the search by claimant number tells of the table. Assumes nothing.
use Rattle.std.proofs.Common.{◌≡◌, ℕ, zero, suc, ◌+◌, ◌<◌, ◌≤◌, List, [], ◌∷◌, length, get_or, set, is_some, Some, None, Option, refl, arith}
use Rattle.std.proofs.lemmas.Bool.Decides.{nat_tests}
use Rattle.division.specs.Amounts.{total}
use Rattle.cases.specs.declared.row.Row.{Row}
use Rattle.cases.specs.Rows.{amounts, on_table, with_amount, set_amount, no_row}
use Rattle.cases.specs.Search.{FirstBearing}

pub found_on_table : (rows : List Row) (n : ℕ) (r : Option ℕ) → FirstBearing (λ row. row.number) n rows r → is_some r ≡ on_table n rows
found_on_table [] n None h = refl
found_on_table [] n (Some i) h = absurd (omega (arith, h.0))
found_on_table (row ∷ rows) n None h =
    let other = h 0 row (omega arith) in
    let rest = found_on_table rows n None (λ k d below. h (suc k) d (omega arith)) in
    grind (arith, nat_tests)
found_on_table (row ∷ rows) n (Some zero) h = let here = h.1 row in grind (arith, nat_tests)
found_on_table (row ∷ rows) n (Some (suc i)) h =
    let other = h.2 0 row (omega arith) in
    let rest = found_on_table rows n (Some i) (omega (arith, h.0), h.1, (λ k d below. h.2 (suc k) d (omega arith))) in
    grind (arith, nat_tests)

-- the amount under a number is that of the first row that bears it
pub amount_at : (rows : List Row) (n amount i : ℕ) → FirstBearing (λ row. row.number) n rows (Some i) → with_amount n amount rows ≡ set rows i (set_amount amount (get_or rows i no_row))
amount_at [] n amount i h = absurd (omega (arith, h.0))
amount_at (row ∷ rows) n amount zero h = let here = h.1 row in grind (arith, nat_tests)
amount_at (row ∷ rows) n amount (suc i) h =
    let other = h.2 0 row (omega arith) in
    let rest = amount_at rows n amount i (omega (arith, h.0), h.1, (λ k d below. h.2 (suc k) d (omega arith))) in
    grind (arith, nat_tests)

-- and no amount changes where no row bears it
pub amount_nowhere : (rows : List Row) (n amount : ℕ) → FirstBearing (λ row. row.number) n rows None → with_amount n amount rows ≡ rows
amount_nowhere [] n amount h = refl
amount_nowhere (row ∷ rows) n amount h =
    let other = h 0 row (omega arith) in
    let rest = amount_nowhere rows n amount (λ k d below. h (suc k) d (omega arith)) in
    grind (arith, nat_tests)

-- what the amounts add up to after one was changed
pub total-amended : (rows : List Row) (i amount : ℕ) → i < length rows → total (amounts (set rows i (set_amount amount (get_or rows i no_row)))) + (get_or rows i no_row).amount ≡ total (amounts rows) + amount
total-amended [] i amount h = absurd (omega arith)
total-amended (row ∷ rows) zero amount h = omega arith
total-amended (row ∷ rows) (suc i) amount h = omega (arith, total-amended rows i amount (omega arith))

-- one amount is no more than all of them
pub amount_within : (rows : List Row) (i : ℕ) → (get_or rows i no_row).amount ≤ total (amounts rows)
amount_within [] i = omega arith
amount_within (row ∷ rows) zero = omega arith
amount_within (row ∷ rows) (suc i) = omega (arith, amount_within rows i)
