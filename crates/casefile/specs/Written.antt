-- A line written for what it asks for, and what reading keeps of it. Assumes nothing.
use Rattle.std.specs.Prelude.{◌≡◌, ℕ, ◌≤◌, true, false, List, [], ◌∷◌, length, Ok, codes, ◌≢◌}
use Rattle.std.specs.List.{AllByRecursion}
use Rattle.casefile.specs.declared.call.RuleName.{RuleName}
use Rattle.casefile.specs.declared.call.RuleName.TheVariants.{Priority, Equal, Proportion, Talmud}
use Rattle.casefile.specs.Marks.{joined_by}
use Rattle.casefile.specs.Fields.{comma}
use Rattle.casefile.specs.Decimal.{digits}
use Rattle.casefile.specs.LineKinds.{most_line, is_remark}
use Rattle.casefile.specs.Calls.{Asked, asks_claim, asks_amend, asks_fund, asks_press, asks_divide, asks_draw, asks_sign, asks_return, asks_compare, asks_nothing, most_claimant, most_class, most_amount, reading}

-- the name of a rule
abbrev pub name_of : RuleName → List ℕ
name_of Priority = codes "priority"
name_of Equal = codes "equal"
name_of Proportion = codes "proportion"
name_of Talmud = codes "talmud"

-- the fields of the line that asks for something; no fields ask for nothing
abbrev pub fields_for : Asked → List (List ℕ)
fields_for (asks_claim number amount class) = codes "claim" ∷ digits number ∷ digits amount ∷ digits class ∷ []
fields_for (asks_amend number amount) = codes "amend" ∷ digits number ∷ digits amount ∷ []
fields_for (asks_fund amount) = codes "fund" ∷ digits amount ∷ []
fields_for (asks_press letters) = codes "press" ∷ letters ∷ []
fields_for (asks_divide rule) = codes "divide" ∷ name_of rule ∷ []
fields_for asks_draw = codes "draw" ∷ []
fields_for asks_sign = codes "sign" ∷ []
fields_for asks_return = codes "return" ∷ []
fields_for (asks_compare left right) = codes "compare" ∷ left ∷ right ∷ []
fields_for asks_nothing = []

-- the line that asks for it
abbrev pub line_for : Asked → List ℕ
line_for asks = joined_by comma (fields_for asks)

-- no comma is among the letters
abbrev pub NoComma : List ℕ → Type 0
NoComma letters = AllByRecursion (λ b. b ≢ comma) letters

-- what a line can ask for: numbers within their limits, and letters that a comma does not part
abbrev pub Askable : Asked → Type 0
Askable (asks_claim number amount class) = (number ≤ most_claimant) × (amount ≤ most_amount) × (class ≤ most_class)
Askable (asks_amend number amount) = (number ≤ most_claimant) × (amount ≤ most_amount)
Askable (asks_fund amount) = amount ≤ most_amount
Askable (asks_press letters) = NoComma letters
Askable (asks_divide rule) = Unit {0}
Askable asks_draw = Unit {0}
Askable asks_sign = Unit {0}
Askable asks_return = Unit {0}
Askable (asks_compare left right) = NoComma left × NoComma right
Askable asks_nothing = ⊥

-- a line asks for something exactly if it is the line for that, is not too long and keeps the limits; a remark that is
-- not too long asks for nothing
pub record ReadingLaws : Type 0 where
  pub only_written : (line : List ℕ) (asks : Asked) → is_remark line ≡ false → reading line ≡ Ok asks → (line ≡ line_for asks) × (length line ≤ most_line) × Askable asks
  pub all_written : (asks : Asked) → Askable asks → length (line_for asks) ≤ most_line → reading (line_for asks) ≡ Ok asks
  pub remarks : (line : List ℕ) → is_remark line ≡ true → length line ≤ most_line → reading line ≡ Ok asks_nothing
