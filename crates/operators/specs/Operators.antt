-- The five operators: what each makes of a rule's meaning. Assumes nothing.
use Rattle.std.specs.Prelude.{ℕ, ◌-◌, ◌≤◌, min, cond, List, [], ◌∷◌, ◌==◌, slice_index_or}
use Rattle.division.specs.Amounts.{total, less, cut, plus, nothing}
use Rattle.division.specs.Problem.{Meaning}

-- duality, sharing losses: each claim less its award at what the estate leaves unpaid
abbrev pub dual : Meaning → Meaning
dual f claims estate = less claims (f claims (total claims - estate))

-- truncation: the rule on claims cut to at most the estate
abbrev pub truncation : Meaning → Meaning
truncation f claims estate = f (cut estate claims) estate

-- what of each claim the loss cannot reach: the claim less the loss, or nothing
abbrev pub rights : ℕ → List ℕ → List ℕ
rights loss [] = []
rights loss (c ∷ cs) = (c - loss) ∷ rights loss cs

-- minimal rights first: each gets what the loss cannot reach, and the rule shares the rest of the estate over the rest
-- of the claims
abbrev pub minimal_rights : Meaning → Meaning
minimal_rights f claims estate =
    let own = rights (total claims - estate) claims in
    plus own (f (less claims own) (estate - total own))

-- the class of each place that its class list does not reach
abbrev pub last_class : ℕ
last_class = 8

-- each place has a class from 1 to 8
abbrev pub Classed : List ℕ → Type 0
Classed classes = (i : ℕ) → (1 ≤ slice_index_or classes i last_class) × (slice_index_or classes i last_class ≤ last_class)

-- the claims of one class, with nothing at the other places
abbrev pub of_class : ℕ → List ℕ → List ℕ → List ℕ
of_class k classes [] = []
of_class k [] (c ∷ cs) = cond (last_class == k) c 0 ∷ of_class k [] cs
of_class k (j ∷ js) (c ∷ cs) = cond (j == k) c 0 ∷ of_class k js cs

-- the classes served in the order given: a class's share is the smaller of what it claims and what is left, and the
-- rule divides that share over the claims of the class
abbrev pub served : List ℕ → List ℕ → Meaning → Meaning
served [] classes f claims left = nothing claims
served (k ∷ order) classes f claims left =
    let mine = of_class k classes claims in
    let share = min (total mine) left in
    plus (f mine share) (served order classes f claims (left - share))

-- from the most senior class to the least
abbrev pub senior_first : List ℕ
senior_first = 1 ∷ 2 ∷ 3 ∷ 4 ∷ 5 ∷ 6 ∷ 7 ∷ 8 ∷ []

-- from the least senior class to the most
abbrev pub junior_first : List ℕ
junior_first = 8 ∷ 7 ∷ 6 ∷ 5 ∷ 4 ∷ 3 ∷ 2 ∷ 1 ∷ []

-- seniority: class 1 is served first
abbrev pub seniority : List ℕ → Meaning → Meaning
seniority classes f = served senior_first classes f

-- reverse seniority: class 8 is served first
abbrev pub reverse_seniority : List ℕ → Meaning → Meaning
reverse_seniority classes f = served junior_first classes f
