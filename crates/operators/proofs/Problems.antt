-- A sound problem is refused by no rule. Assumes nothing.
use Rattle.std.proofs.Common.{◌≡◌, ℕ, ◌-◌, List, length, None, Ok, Err, Option, Result, sym, ap, ◌∙◌, arith}
use Rattle.std.proofs.lemmas.Bool.Decides.{nat_tests}
use Rattle.division.specs.Amounts.{total, less, less_over}
use Rattle.division.specs.AmountLaws.{less_over_same}
use Rattle.division.specs.Problem.{Sound, Meaning, Lawful}
use Rattle.operators.specs.Operators.{dual}
use Rattle.division.specs.Refusals.{due, answer, unless_due}
use Rattle.division.specs.declared.refusal.RuleRefusal.{RuleRefusal}

pub sound_passes : (claims : List ℕ) (estate room : ℕ) → Sound claims estate → room ≡ length claims → due claims estate room ≡ None
sound_passes claims estate room s same = grind (arith, nat_tests)

-- so a rule that is asked a sound problem does not answer a refusal
pub never_refused : (claims : List ℕ) (estate room : ℕ) → Sound claims estate → room ≡ length claims → (r : Result (Unit {0}) RuleRefusal) (e : RuleRefusal) → r ≡ answer (due claims estate room) tt → r ≡ Err e → ⊥
never_refused claims estate room s same r e answered refused =
    let passed = ap (λ o. answer {X = Unit {0}} o tt) (sound_passes claims estate room s same) in
    let z : ◌≡◌ {A = ℕ} 0 1 = cc in
    omega arith

-- and writes its awards
pub asked_awards : (claims : List ℕ) (estate room : ℕ) → Sound claims estate → room ≡ length claims → (new old held : List ℕ) → held ≡ unless_due (due claims estate room) new old → held ≡ new
asked_awards claims estate room s same new old held written = written ∙ ap (λ o. unless_due o new old) (sound_passes claims estate room s same)

-- what a layer owes where no refusal is due
pub answered : (o : Option RuleRefusal) → o ≡ None → Ok tt ≡ answer {X = Unit {0}} o tt
answered o none = sym (ap (λ o'. answer {X = Unit {0}} o' tt) none)

pub awarded : (o : Option RuleRefusal) → o ≡ None → (new old held : List ℕ) → held ≡ new → held ≡ unless_due o new old
awarded o none new old held right = right ∙ sym (ap (λ o'. unless_due o' new old) none)

-- the dual's awards, from those of the rule at the loss
pub dual_made : (f : Meaning) → Lawful f → (claims : List ℕ) (estate room loss : ℕ) → Sound claims estate → room ≡ length claims → loss ≡ total claims - estate → (old held after : List ℕ) → held ≡ unless_due (due claims loss room) (f claims loss) old → after ≡ less_over claims held → after ≡ dual f claims estate
dual_made f law claims estate room loss s same is old held after written lost =
    let at_loss : Sound claims loss = record { few = s.few; small = s.small; covered = omega arith } in
    let awarded = asked_awards claims loss room at_loss same (f claims loss) old held written in
    lost
    ∙ ap (less_over claims) awarded
    ∙ less_over_same claims (f claims loss) (sym (law claims loss at_loss).as_long)
    ∙ ap (λ n. less claims (f claims n)) is
