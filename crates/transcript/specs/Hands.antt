-- The case in hand: a case, and its sheet while it is out. Assumes nothing.
use Rattle.std.specs.Prelude.{Bool, not, Some, None, Option}
use Rattle.cases.specs.declared.sheet.Sheet.{Sheet}
use Rattle.cases.specs.Cases.{View, is_its_sheet}

-- a sheet is in hand exactly while the case has one out, and it is the case's own
abbrev pub in_order : View → Option Sheet → Bool
in_order v None = not v.out
in_order v (Some sheet) = is_its_sheet v sheet
