-- When two strings of letters are alike, and the nine problems that tell those apart which are not. Assumes nothing.
use Rattle.std.specs.Prelude.{◌≡◌, ℕ, ◌-◌, ◌≤◌, List, [], ◌∷◌, slice_index_or}
use Rattle.division.specs.Problem.{Meaning, Sound, Lawful}
use Rattle.division.specs.Priority.{priority}
use Rattle.division.specs.Proportion.{proportion}
use Rattle.operators.specs.Operators.{Classed}
use Rattle.normal_form.specs.declared.letter.Operator.{Operator}
use Rattle.normal_form.specs.Letters.{applied}

-- two meanings that give the same awards on every sound problem
pub record Agree (f g : Meaning) : Type 0 where
  pub same : (claims : List ℕ) (estate : ℕ) → Sound claims estate → f claims estate ≡ g claims estate

-- two strings of letters that give the same awards over every lawful rule and every class list, on every sound problem
abbrev pub Alike : List Operator → List Operator → Type 0
Alike left right =
    (f : Meaning) → Lawful f → (classes : List ℕ) → Classed classes
    → (claims : List ℕ) (estate : ℕ) → Sound claims estate → applied left classes f claims estate ≡ applied right classes f claims estate

-- a problem that tells strings apart: a rule, claims, a class list and an estate
pub record Telling : Type 0 where
  pub rule : Meaning
  pub claims : List ℕ
  pub classes : List ℕ
  pub estate : ℕ

-- the first of the nine problems
abbrev pub first_telling : Telling
first_telling = record { rule = priority; claims = 2 ∷ 2 ∷ []; classes = 1 ∷ 1 ∷ []; estate = 2 }

-- the nine problems, numbered from 1
abbrev pub tellings : List Telling
tellings =
    first_telling
    ∷ record { rule = priority; claims = 2 ∷ 2 ∷ []; classes = 2 ∷ 1 ∷ []; estate = 2 }
    ∷ record { rule = priority; claims = 2 ∷ 2 ∷ []; classes = 1 ∷ 2 ∷ []; estate = 2 }
    ∷ record { rule = proportion; claims = 100 ∷ 200 ∷ 300 ∷ []; classes = 1 ∷ 1 ∷ 1 ∷ []; estate = 100 }
    ∷ record { rule = proportion; claims = 100 ∷ 200 ∷ 300 ∷ []; classes = 1 ∷ 1 ∷ 1 ∷ []; estate = 500 }
    ∷ record { rule = proportion; claims = 100 ∷ 100 ∷ 200 ∷ 300 ∷ []; classes = 1 ∷ 2 ∷ 2 ∷ 2 ∷ []; estate = 200 }
    ∷ record { rule = proportion; claims = 100 ∷ 100 ∷ 200 ∷ 300 ∷ []; classes = 2 ∷ 1 ∷ 1 ∷ 1 ∷ []; estate = 200 }
    ∷ record { rule = proportion; claims = 100 ∷ 100 ∷ 200 ∷ 300 ∷ []; classes = 2 ∷ 1 ∷ 1 ∷ 1 ∷ []; estate = 500 }
    ∷ record { rule = proportion; claims = 100 ∷ 100 ∷ 200 ∷ 300 ∷ []; classes = 1 ∷ 2 ∷ 2 ∷ 2 ∷ []; estate = 500 }
    ∷ []

-- the problem with a number from 1 to 9
abbrev pub telling : ℕ → Telling
telling n = slice_index_or tellings (n - 1) first_telling

-- the awards of a problem under a string of letters
abbrev pub told : List Operator → Telling → List ℕ
told letters t = applied letters t.classes t.rule t.claims t.estate

-- two strings that give different awards on one of the nine problems
pub record ToldApart (left right : List Operator) : Type 0 where
  pub number : ℕ
  pub from_one : 1 ≤ number
  pub to_nine : number ≤ 9
  pub differ : told left (telling number) ≡ told right (telling number) → ⊥
