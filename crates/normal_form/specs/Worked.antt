-- Worked examples: awards under letters, and normal forms, as one table. Assumes nothing.
use Rattle.std.specs.Prelude.{◌≡◌, ℕ, List, [], ◌∷◌, map, codes}
use Rattle.division.specs.Problem.{Meaning}
use Rattle.division.specs.EqualAwards.{equal_awards}
use Rattle.division.specs.Proportion.{proportion}
use Rattle.division.specs.Talmud.{talmud}
use Rattle.normal_form.specs.Letters.{applied}
use Rattle.normal_form.specs.Forms.{normal_form, written}
use Rattle.normal_form.specs.Piles.{operators_in}

-- a rule under letters, with claims, their classes and an estate, and the awards
pub record Example : Type 0 where
  pub rule : Meaning
  pub letters : List ℕ
  pub claims : List ℕ
  pub classes : List ℕ
  pub estate : ℕ
  pub awards : List ℕ

abbrev pub examples : List Example
examples =
    record { rule = talmud; letters = []; claims = 100 ∷ 200 ∷ 300 ∷ []; classes = []; estate = 100; awards = 34 ∷ 33 ∷ 33 ∷ [] }
    ∷ record { rule = talmud; letters = []; claims = 100 ∷ 50 ∷ []; classes = []; estate = 100; awards = 75 ∷ 25 ∷ [] }
    ∷ record { rule = talmud; letters = []; claims = 3 ∷ 3 ∷ 3 ∷ []; classes = []; estate = 4; awards = 2 ∷ 1 ∷ 1 ∷ [] }
    ∷ record { rule = equal_awards; letters = codes "d"; claims = 10 ∷ 2 ∷ 7 ∷ []; classes = []; estate = 4; awards = 3 ∷ 0 ∷ 1 ∷ [] }
    ∷ record { rule = proportion; letters = codes "t"; claims = 100 ∷ 200 ∷ 300 ∷ []; classes = []; estate = 100; awards = 34 ∷ 33 ∷ 33 ∷ [] }
    ∷ record { rule = proportion; letters = codes "m"; claims = 100 ∷ 200 ∷ 300 ∷ []; classes = []; estate = 500; awards = 67 ∷ 167 ∷ 266 ∷ [] }
    ∷ record { rule = proportion; letters = codes "st"; claims = 100 ∷ 100 ∷ 200 ∷ 300 ∷ []; classes = 1 ∷ 2 ∷ 2 ∷ 2 ∷ []; estate = 200; awards = 100 ∷ 20 ∷ 40 ∷ 40 ∷ [] }
    ∷ []

-- a string of letters, and its normal form as written
pub record FormExample : Type 0 where
  pub letters : List ℕ
  pub form : List ℕ

abbrev pub form_examples : List FormExample
form_examples =
    record { letters = codes "td"; form = codes "dm" }
    ∷ record { letters = codes "tstd"; form = codes "dmr" }
    ∷ record { letters = codes "strm"; form = codes "trm" }
    ∷ record { letters = []; form = codes "-" }
    ∷ []

-- every example comes out as the table says
pub record ExamplesHold : Type 0 where
  pub awards : map (λ e. applied (operators_in e.letters) e.classes e.rule e.claims e.estate) examples ≡ map (λ e. e.awards) examples
  pub forms : map (λ e. written (normal_form (operators_in e.letters))) form_examples ≡ map (λ e. e.form) form_examples
