-- Lists made claim by claim, as the definitions name them. Assumes nothing.
use Rattle.std.proofs.Common.{◌≡◌, ℕ, ◌-◌, min, List, [], ◌∷◌, map, refl, ap}
use Rattle.division.specs.Amounts.{cut}
use Rattle.operators.specs.Operators.{rights}

pub cut_made : (most : ℕ) (claims : List ℕ) → map (λ c. min c most) claims ≡ cut most claims
cut_made most [] = refl
cut_made most (c ∷ cs) = ap (λ xs. min c most ∷ xs) (cut_made most cs)

pub rights_made : (loss : ℕ) (claims : List ℕ) → map (λ c. c - loss) claims ≡ rights loss claims
rights_made loss [] = refl
rights_made loss (c ∷ cs) = ap (λ xs. (c - loss) ∷ xs) (rights_made loss cs)
