-- The lines of a file. Assumes nothing.
use Rattle.std.specs.Prelude.{◌≡◌, ℕ, ◌+◌, ◌<◌, ◌≤◌, min, cond, List, [], ◌∷◌, ◌++◌, length, take, drop, ◌==◌}
use Rattle.casefile.specs.Marks.{in_front, joined_by, Without}

-- the byte that ends a line
abbrev pub line_end : ℕ
line_end = 10

-- a line ends with its line end or with the file; no line follows a last line end
abbrev pub lines : List ℕ → List (List ℕ)
lines [] = []
lines (b ∷ bs) = cond (b == line_end) ([] ∷ lines bs) (in_front b (lines bs))

-- the line end that a file may have as its last byte
abbrev pub last_end : List ℕ → List ℕ
last_end [] = []
last_end (b ∷ []) = cond (b == line_end) (b ∷ []) []
last_end (b ∷ next ∷ bs) = last_end (next ∷ bs)

-- the line that begins at a place: these bytes of the file, then the place behind its line end, from which the other
-- lines follow
pub record NextLine (file : List ℕ) (place : ℕ) (line : List ℕ) (after : ℕ) : Type 0 where
  pub begins : place < length file
  pub ends : place + length line ≤ length file
  pub bytes : line ≡ take (length line) (drop place file)
  pub after_is : after ≡ min (place + length line + 1) (length file)
  pub others : lines (drop place file) ≡ line ∷ lines (drop after file)

-- at the end of the file there is no line, and the place stays
pub record NoLine (file : List ℕ) (place after : ℕ) : Type 0 where
  pub ended : length file ≤ place
  pub stays : after ≡ place
  pub none_left : lines (drop place file) ≡ []

-- what the lines of every file keep: joined by line ends they are the file, a last line end apart, and none of them
-- holds a line end
pub record LineLaws : Type 0 where
  pub whole : (file : List ℕ) → joined_by line_end (lines file) ++ last_end file ≡ file
  pub without_ends : (file : List ℕ) → Without line_end (lines file)
