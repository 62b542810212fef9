use Rattle.std.proofs.Common.{◌≡◌, drop}
use Rattle.normal_form.specs.Letters.{letters_in}
use Rattle.normal_form.specs.FormParts.{parts}
use Rattle.normal_form.proofs.InTurn.{after}
use Rattle.normal_form.proofs.form.Form.press_all.Given as goal

-- what is left of the string does to the form in hand what the whole does to the form at the start
abbrev pub invariant-loop-byte : goal.invariant-loop-byte
invariant-loop-byte l = after (parts l.form) (letters_in (drop l.byte-index l.letters)) ≡ after (parts l.self) (letters_in l.letters)
