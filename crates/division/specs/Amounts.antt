-- Lists of amounts, place by place: one amount for each claimant, in the order of the claims. Assumes nothing.
use Rattle.std.specs.Prelude.{ℕ, ◌+◌, ◌-◌, min, List, [], ◌∷◌}

-- what the amounts add up to
abbrev pub total : List ℕ → ℕ
total [] = 0
total (x ∷ xs) = x + total xs

-- each amount less the amount at its place in the second list
abbrev pub less : List ℕ → List ℕ → List ℕ
less [] ys = []
less (x ∷ xs) [] = x ∷ xs
less (x ∷ xs) (y ∷ ys) = (x - y) ∷ less xs ys

-- each amount of the second list turned into what the amount at its place in the first is more, as far as both go
abbrev pub less_over : List ℕ → List ℕ → List ℕ
less_over xs [] = []
less_over [] (y ∷ ys) = y ∷ ys
less_over (x ∷ xs) (y ∷ ys) = (x - y) ∷ less_over xs ys

-- each amount cut to at most the cap
abbrev pub cut : ℕ → List ℕ → List ℕ
cut cap [] = []
cut cap (x ∷ xs) = min x cap ∷ cut cap xs

-- each amount and the amount at its place in the second list together
abbrev pub plus : List ℕ → List ℕ → List ℕ
plus [] ys = ys
plus (x ∷ xs) [] = x ∷ xs
plus (x ∷ xs) (y ∷ ys) = (x + y) ∷ plus xs ys

-- nothing at each of so many places
abbrev pub nothing : List ℕ → List ℕ
nothing [] = []
nothing (x ∷ xs) = 0 ∷ nothing xs
