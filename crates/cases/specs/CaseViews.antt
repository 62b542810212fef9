-- What the code's case holds, as the laws speak of it. Assumes nothing.
use Rattle.std.specs.Prelude.{Bool, true, false, vec_items}
use Rattle.normal_form.specs.FormParts.{parts}
use Rattle.cases.specs.declared.case.Stage.{Stage}
use Rattle.cases.specs.declared.case.Stage.TheVariants.{Unworked, Worked, SheetOut}
use Rattle.cases.specs.declared.case.Case.{Case}
use Rattle.cases.specs.Cases.{View}

-- the mark that the awards are worked
abbrev pub is_marked : Stage → Bool
is_marked Unworked = false
is_marked Worked = true
is_marked SheetOut = true

-- whether a sheet is out
abbrev pub is_out : Stage → Bool
is_out Unworked = false
is_out Worked = false
is_out SheetOut = true

abbrev pub view : Case → View
view c = record { number = c.number; fund = c.fund; form = parts c.form; rows = vec_items c.table.rows; marked = is_marked c.stage; out = is_out c.stage }
