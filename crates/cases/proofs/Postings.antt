-- What the postings of a sign add up to: under each number, to the estate and to all others. Assumes nothing.
use Rattle.std.proofs.Common.{◌≡◌, ℕ, true, false, cond, eqb, List, [], ◌∷◌, map, pos, ◌+ℤ◌, ◌-ℤ◌, sym, refl, subst, inl, inr, arith}
use Rattle.std.proofs.lemmas.Int.{ints}
use Rattle.std.proofs.lemmas.Bool.Decides.{nat_tests}
use Rattle.std.proofs.lemmas.Bool.{cases_Bool, eqb-true, ne_eqb}
use Rattle.cases.specs.declared.row.Row.{Row}
use Rattle.cases.specs.declared.row.Posting.{Posting}
use Rattle.cases.specs.Rows.{estate_number, balance, row_posting, lines}
use Rattle.cases.specs.Ledger.{under, others}
use Rattle.cases.proofs.Tying.{entry_of, listed, Distinct, found, paid, awarded}

-- nothing is posted under a number that no row bears
under_none : (n : ℕ) (rows : List Row) → listed n (map entry_of rows) ≡ false → under n (map row_posting rows) ≡ pos 0
under_none n [] h = refl
under_none n (row ∷ rows) h = let rest = under_none n rows in grind (arith, nat_tests)

-- under a claimant's number stands his award less what was paid to him
pub under_rows : (n : ℕ) (rows : List Row) → Distinct (map entry_of rows) → under n (map row_posting rows) ≡ pos (found awarded n rows) -ℤ pos (found paid n rows)
under_rows n [] d = refl
under_rows n (row ∷ rows) d = elim (cases_Bool (eqb row.number n)) [
  | inl same ↦ (
      let others_none : under n (map row_posting rows) ≡ pos 0 = under_none n rows (subst (λ m. listed m (map entry_of rows) ≡ false) (eqb-true row.number n same) d.0) in
      rw same (omega (arith, ints)))
  | inr other ↦ rw other (under_rows n rows d.1)
]

-- the estate's own posting is under no claimant's number
pub under_lines : (n : ℕ) (rows : List Row) → (n ≡ estate_number → ⊥) → Distinct (map entry_of rows) → under n (lines rows) ≡ pos (found awarded n rows) -ℤ pos (found paid n rows)
under_lines n rows claimant d = rw (ne_eqb estate_number n (λ e. claimant (sym e))) (under_rows n rows d)

-- what is posted to the estate and to all others is all that is posted
pub estate_and_others : (ps : List Posting) → under estate_number ps +ℤ others ps ≡ balance ps
estate_and_others [] = refl
estate_and_others (p ∷ ps) =
    let rest = estate_and_others ps in
    elim (eqb p.number estate_number) as (λ b. cond b (p.amount +ℤ under estate_number ps) (under estate_number ps) +ℤ cond b (others ps) (p.amount +ℤ others ps) ≡ p.amount +ℤ balance ps) [
      | true ↦ omega (arith, ints)
      | false ↦ omega (arith, ints)
    ]

-- and the lines of a sign add up to zero
pub lines_balance : (rows : List Row) → balance (lines rows) ≡ pos 0
lines_balance rows = omega (arith, ints)
