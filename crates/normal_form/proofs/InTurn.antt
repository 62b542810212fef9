-- Pressing the letters of a string one by one, by what is left of the string. Assumes nothing.
use Rattle.std.proofs.Common.{List, Some, None, Option}
use Rattle.normal_form.specs.declared.letter.Operator.{Operator}
use Rattle.normal_form.specs.Forms.{Parts, pressed_in_turn}

-- a form with the letters that are left pressed on it, or none where one of them is not known
abbrev pub after : Parts → Option (List Operator) → Option Parts
after p None = None
after p (Some letters) = Some (pressed_in_turn p letters)
