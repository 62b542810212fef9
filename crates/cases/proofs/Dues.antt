-- What a call did, by whether a refusal was due: every call of a case is either accepted or refused. Assumes nothing.
use Rattle.std.proofs.Common.{◌≡◌, Some, None, Ok, Err, Option, Result, sym, refl, subst}
use Rattle.division.specs.Refusals.{answer, unless_due}
use Rattle.cases.specs.declared.sheet.Sheet.{Sheet}
use Rattle.cases.specs.declared.refusal.SheetRefusal.{SheetRefusal}
use Rattle.cases.specs.Cases.{answer_with}

-- a call that answers with a refusal alone
pub by_due : {R X Y : Type 0} (P : Result X R → Y → Type 0) (o : Option R) (value : X) (new old : Y) (r : Result X R) (y : Y) → r ≡ answer o value → y ≡ unless_due o new old → (o ≡ None → P (Ok value) new) → ((e : R) → P (Err e) old) → P r y
by_due P None value new old r y e f accepted refused = subst (λ s. P s y) (sym e) (subst (λ z. P (Ok value) z) (sym f) (accepted refl))
by_due P (Some x) value new old r y e f accepted refused = subst (λ s. P s y) (sym e) (subst (λ z. P (Err x) z) (sym f) (refused x))

-- a call that hands a sheet back with its refusal
pub by_sheet_due : {X Y : Type 0} (P : Result X (Sheet × SheetRefusal) → Y → Type 0) (o : Option SheetRefusal) (value : X) (sheet : Sheet) (new old : Y) (r : Result X (Sheet × SheetRefusal)) (y : Y) → r ≡ answer_with o value sheet → y ≡ unless_due o new old → (o ≡ None → P (Ok value) new) → ((e : Sheet × SheetRefusal) → P (Err e) old) → P r y
by_sheet_due P None value sheet new old r y e f accepted refused = subst (λ s. P s y) (sym e) (subst (λ z. P (Ok value) z) (sym f) (accepted refl))
by_sheet_due P (Some x) value sheet new old r y e f accepted refused = subst (λ s. P s y) (sym e) (subst (λ z. P (Err (sheet, x)) z) (sym f) (refused (sheet, x)))

-- a refused call leaves what stood
pub left_if_refused : {R X Y : Type 0} (o : Option R) (value : X) (e : R) (new old : Y) → Err e ≡ answer o value → old ≡ unless_due o new old
left_if_refused None value e new old is = (cc)
left_if_refused (Some x) value e new old is = refl

-- and one that a sheet's holder is granted leaves what it makes
pub made_if_granted : {X Y : Type 0} (o : Option SheetRefusal) (value x : X) (sheet : Sheet) (new old : Y) → Ok x ≡ answer_with o value sheet → new ≡ unless_due o new old
made_if_granted None value x sheet new old is = refl
made_if_granted (Some e) value x sheet new old is = (cc)
