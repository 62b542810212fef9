-- Why a line is refused before anyone is called. Assumes nothing.
use Rattle.std.specs.Prelude.{ℕ, Ok, Err, Result}
use Rattle.casefile.specs.declared.refusal.LineRefusal.{LineRefusal}
use Rattle.casefile.specs.declared.refusal.LineRefusal.TheVariants.{TooLong, UnknownForm, BadNumber, UnknownRule}

-- the number of each refusal, as it is printed
abbrev pub line_number : LineRefusal → ℕ
line_number TooLong = 16
line_number UnknownForm = 17
line_number BadNumber = 18
line_number UnknownRule = 19

-- what was accepted, seen in another way; a refusal stays as it is
abbrev pub seen_as : {X Y : Type 0} → (X → Y) → Result X LineRefusal → Result Y LineRefusal
seen_as see (Ok x) = Ok (see x)
seen_as see (Err e) = Err e

-- one step, and then another with what the first accepted
abbrev pub and_then : {X Y : Type 0} → Result X LineRefusal → (X → Result Y LineRefusal) → Result Y LineRefusal
and_then (Ok x) next = next x
and_then (Err e) next = Err e
