-- The fields of a line, parted by commas. Assumes nothing.
use Rattle.std.specs.Prelude.{◌≡◌, ℕ, cond, List, [], ◌∷◌, Some, None, Option, ◌==◌}
use Rattle.std.specs.Borrow.{Bor}
use Rattle.casefile.specs.Marks.{in_front, joined_by, Without}

-- the byte that parts two fields
abbrev pub comma : ℕ
comma = 44

-- each comma ends a field and begins the next, so that a line always has a field
abbrev pub fields : List ℕ → List (List ℕ)
fields [] = [] ∷ []
fields (b ∷ bs) = cond (b == comma) ([] ∷ fields bs) (in_front b (fields bs))

-- the fields behind the first one, where there are any
abbrev pub fields_left : Option (Bor (List ℕ)) → List (List ℕ)
fields_left None = []
fields_left (Some rest) = fields rest.now

-- what the fields of every line keep: joined by commas they are the line, and none of them holds a comma
pub record FieldLaws : Type 0 where
  pub whole : (line : List ℕ) → joined_by comma (fields line) ≡ line
  pub without_commas : (line : List ℕ) → Without comma (fields line)
