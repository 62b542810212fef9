-- Bytes parted by a mark: a file by its line ends, a line by its commas. Assumes nothing.
use Rattle.std.specs.Prelude.{ℕ, cond, List, [], ◌∷◌, ◌++◌, ◌==◌, ◌≢◌}
use Rattle.std.specs.List.{AllByRecursion}

-- the bytes before the first mark, all of them where there is none
abbrev pub before : ℕ → List ℕ → List ℕ
before mark [] = []
before mark (b ∷ bs) = cond (b == mark) [] (b ∷ before mark bs)

-- the bytes behind the first mark
abbrev pub behind : ℕ → List ℕ → List ℕ
behind mark [] = []
behind mark (b ∷ bs) = cond (b == mark) bs (behind mark bs)

-- a byte put in front of the first of some texts
abbrev pub in_front : ℕ → List (List ℕ) → List (List ℕ)
in_front b [] = (b ∷ []) ∷ []
in_front b (text ∷ texts) = (b ∷ text) ∷ texts

-- texts joined, with the mark between each and the next
abbrev pub joined_by : ℕ → List (List ℕ) → List ℕ
joined_by mark [] = []
joined_by mark (text ∷ []) = text
joined_by mark (text ∷ next ∷ texts) = text ++ (mark ∷ joined_by mark (next ∷ texts))

-- none of the texts holds the mark
abbrev pub Without : ℕ → List (List ℕ) → Type 0
Without mark texts = AllByRecursion (λ text. AllByRecursion (λ b. b ≢ mark) text) texts
