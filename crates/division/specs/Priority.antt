-- Priority: the claims in listed order, each paid as far as what is left goes. Assumes nothing.
use Rattle.std.specs.Prelude.{ℕ, ◌-◌, min, List, [], ◌∷◌}

-- each claim in turn gets the smaller of itself and what is left
abbrev pub priority : List ℕ → ℕ → List ℕ
priority [] left = []
priority (c ∷ cs) left = min c left ∷ priority cs (left - min c left)
