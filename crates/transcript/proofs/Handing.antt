-- The sheet in hand stays the case's own. Assumes nothing.
use Rattle.std.proofs.Common.{◌≡◌, true, not, ◌&&◌, eqb, Some, None, Option, ap, ◌∙◌}
use Rattle.division.specs.Refusals.{unless_due}
use Rattle.cases.specs.declared.sheet.Sheet.{Sheet}
use Rattle.cases.specs.Cases.{View}
use Rattle.transcript.specs.Hands.{in_order}

-- it depends on the case's number, and on whether a sheet is out
same_order : (sheet : Option Sheet) (v w : View) → w.out ≡ v.out → w.number ≡ v.number → in_order w sheet ≡ in_order v sheet
same_order None v w out number = ap not out
same_order (Some sheet) v w out number = ap (λ b. b && eqb sheet.number w.number) out ∙ ap (λ n. v.out && eqb sheet.number n) number

-- a call that leaves both as they were
pub kept_in_order : {R : Type 0} (sheet : Option Sheet) (due : Option R) (new old w : View) → w ≡ unless_due due new old → new.out ≡ old.out → new.number ≡ old.number → in_order old sheet ≡ true → in_order w sheet ≡ true
kept_in_order sheet None new old w is out number h = ap (λ u. in_order u sheet) is ∙ same_order sheet old new out number ∙ h
kept_in_order sheet (Some e) new old w is out number h = ap (λ u. in_order u sheet) is ∙ h
