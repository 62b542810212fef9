-- The search by claimant number, the same for rows and for postings. Assumes nothing.
use Rattle.std.specs.Prelude.{◌≡◌, ℕ, ◌<◌, List, length, Some, None, Option, ◌≢◌, slice_index_or}
use Rattle.cases.specs.declared.row.Posting.{Posting}

-- no place of the list before the i-th bears the number
abbrev pub NoneBefore : {T : Type 0} → (T → ℕ) → ℕ → List T → ℕ → Type 0
NoneBefore {T} bears number items i = (k : ℕ) (d : T) → k < i → bears (slice_index_or items k d) ≢ number

-- the first place that bears the number, or none where no place does
abbrev pub FirstBearing : {T : Type 0} → (T → ℕ) → ℕ → List T → Option ℕ → Type 0
FirstBearing bears number items None = NoneBefore bears number items (length items)
FirstBearing {T} bears number items (Some i) = (i < length items) × ((d : T) → bears (slice_index_or items i d) ≡ number) × NoneBefore bears number items i

-- the posting at the first place that bears the number, or none where no place does
abbrev pub FirstPosting : ℕ → List Posting → Option Posting → Type 0
FirstPosting number items None = FirstBearing (λ p. p.number) number items None
FirstPosting number items (Some posting) = (i : ℕ) × FirstBearing (λ p. p.number) number items (Some i) × (posting ≡ slice_index_or items i posting)
