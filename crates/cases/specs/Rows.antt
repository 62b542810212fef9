-- The rows of a case, and the postings that signing writes for them. Assumes nothing.
use Rattle.std.specs.Prelude.{ℕ, ◌<◌, Bool, false, cond, ◌||◌, List, [], ◌∷◌, map, ℤ, pos, ◌+ℤ◌, ◌-ℤ◌, neg_ℤ, ◌≤ℤ◌, ◌==◌, slice_index_or}
use Rattle.cases.specs.declared.row.Row.{Row}
use Rattle.cases.specs.declared.row.Posting.{Posting}

-- the number under which the estate's own posting stands
abbrev pub estate_number : ℕ
estate_number = 0

-- the number that is the owner's
abbrev pub owner_number : ℕ
owner_number = 65535

-- no claimant bears the estate's number or the owner's
abbrev pub is_reserved_number : ℕ → Bool
is_reserved_number n = n == estate_number || n == owner_number

-- what is claimed, place by place
abbrev pub amounts : List Row → List ℕ
amounts rows = map (λ row. row.amount) rows

-- the class of each claim
abbrev pub classes_of : List Row → List ℕ
classes_of rows = map (λ row. row.class) rows

-- the awards worked last
abbrev pub awards_of : List Row → List ℕ
awards_of rows = map (λ row. row.award) rows

-- whether a claimant number is on the table
abbrev pub on_table : ℕ → List Row → Bool
on_table n [] = false
on_table n (row ∷ rows) = row.number == n || on_table n rows

-- a claim as it is admitted: nothing paid, nothing awarded
abbrev pub new_row : ℕ → ℕ → ℕ → Row
new_row number amount class = record { number = number; amount = amount; class = class; paid = 0; award = 0 }

-- what stands past the end of a table
abbrev pub no_row : Row
no_row = new_row 0 0 0

-- a row with another amount
abbrev pub set_amount : ℕ → Row → Row
set_amount amount row = record { number = row.number; amount = amount; class = row.class; paid = row.paid; award = row.award }

-- the rows with another amount under one number
abbrev pub with_amount : ℕ → ℕ → List Row → List Row
with_amount n amount [] = []
with_amount n amount (row ∷ rows) = cond (row.number == n) (set_amount amount row ∷ rows) (row ∷ with_amount n amount rows)

-- a row with another award
abbrev pub set_award : ℕ → Row → Row
set_award award row = record { number = row.number; amount = row.amount; class = row.class; paid = row.paid; award = award }

-- the rows with new awards, place by place
abbrev pub with_awards : List ℕ → List Row → List Row
with_awards new [] = []
with_awards [] (row ∷ rows) = row ∷ rows
with_awards (a ∷ new) (row ∷ rows) = set_award a row ∷ with_awards new rows

-- a row whose award is paid
abbrev pub settled : Row → Row
settled row = record { number = row.number; amount = row.amount; class = row.class; paid = row.award; award = row.award }

-- what is to be posted for a row: its award less what was paid, which may be negative
abbrev pub row_posting : Row → Posting
row_posting row = record { number = row.number; amount = pos row.award -ℤ pos row.paid }

-- what postings add up to
abbrev pub balance : List Posting → ℤ
balance [] = pos 0
balance (p ∷ ps) = p.amount +ℤ balance ps

-- the estate's posting: the negative of what the rows' postings add up to
abbrev pub estate_posting : List Row → Posting
estate_posting rows = record { number = estate_number; amount = neg_ℤ (balance (map row_posting rows)) }

-- the lines that signing writes: the estate's, and then one for each row in order
abbrev pub lines : List Row → List Posting
lines rows = estate_posting rows ∷ map row_posting rows

-- the most that a posting can move: 64 awards of 32 bits
abbrev pub most_posted : ℕ
most_posted = 274877906944

-- a posting that moves no more than that, to its bearer or from him
abbrev pub Postable : Posting → Type 0
Postable p = (neg_ℤ (pos most_posted) ≤ℤ p.amount) × (p.amount ≤ℤ pos most_posted)

-- what stands past the end of a list of postings
abbrev pub no_posting : Posting
no_posting = record { number = 0; amount = pos 0 }

-- the postings at the first so many places of a list move no more than that
abbrev pub PostableFront : ℕ → List Posting → Type 0
PostableFront count list = (k : ℕ) → k < count → Postable (slice_index_or list k no_posting)
