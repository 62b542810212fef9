-- Loops that write a list place by place, from the first on. Assumes nothing.
use Rattle.std.proofs.Common.{◌≡◌, ℕ, ◌+◌, ◌<◌, ◌≤◌, ◌≢◌, List, length, get_or, set, ◌∙◌, inl, inr, arith, get_or-set_other, get_or-set_same, ext_get_or}
use Rattle.std.proofs.lemmas.Bool.{cases_lt}

-- below `place` the list holds what it is to hold
abbrev Below : List ℕ → List ℕ → ℕ → Type 0
Below target held place = (k : ℕ) → k < place → get_or held k 0 ≡ get_or target k 0

below_more : (target held : List ℕ) (place amount : ℕ) → Below target held place → place < length held → amount ≡ get_or target place 0 → Below target (set held place amount) (place + 1)
below_more target held place amount below within right k h = elim (cases_lt k place) [
  | inl lower ↦ (let other : k ≢ place = omega arith in rw get_or-set_other (below k lower))
  | inr higher ↦ (let same : k ≡ place = omega arith in rw same (get_or-set_same held place amount 0 within ∙ right))
]

-- a list that is written over: from `place` on it still holds what it held before
pub record Partly (target before held : List ℕ) (place : ℕ) : Type 0 where
  pub below : Below target held place
  pub above : (k : ℕ) → place ≤ k → get_or held k 0 ≡ get_or before k 0

pub partly_more : (target before held : List ℕ) (place amount : ℕ) → Partly target before held place → place < length held → amount ≡ get_or target place 0 → Partly target before (set held place amount) (place + 1)
partly_more target before held place amount so_far within right = record {
  below = below_more target held place amount so_far.below within right;
  above = λ k h. let other : k ≢ place = omega arith in rw get_or-set_other (so_far.above k (omega arith));
}

pub partly_all : (target before held : List ℕ) (place : ℕ) → Partly target before held place → length held ≡ length target → length held ≤ place → held ≡ target
partly_all target before held place so_far long past = ext_get_or 0 held target long (λ k h. so_far.below k (omega arith))
