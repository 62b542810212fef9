-- What the layers of a form make of a rule. Assumes nothing.
use Rattle.std.proofs.Common.{◌≡◌, ℕ, List, length, None, arith}
use Rattle.std.proofs.lemmas.Bool.Decides.{nat_tests}
use Rattle.division.specs.Problem.{Meaning, Sound}
use Rattle.division.specs.Refusals.{due}
use Rattle.operators.specs.Operators.{served}
use Rattle.operators.specs.Classes.{ServeAlike}
use Rattle.normal_form.specs.declared.letter.Operator.{Operator}
use Rattle.normal_form.specs.Letters.{applied}
use Rattle.normal_form.proofs.Piles.{applied_agree}

-- a problem that no rule refuses is sound
pub sound_if_none_due : (claims : List ℕ) (estate room : ℕ) → due claims estate room ≡ None → Sound claims estate
sound_if_none_due claims estate room none = record { few = grind (arith, nat_tests); small = grind (arith, nat_tests); covered = grind (arith, nat_tests) }

-- and a sound problem is refused by none
pub passes_if_sound : (claims : List ℕ) (estate room : ℕ) → Sound claims estate → room ≡ length claims → due claims estate room ≡ None
passes_if_sound claims estate room s same = grind (arith, nat_tests)

-- a class list that serves as another does so under any letters
pub served_under : (letters : List Operator) (classes : List ℕ) (order own others : List ℕ) (f : Meaning) (claims : List ℕ) (estate : ℕ) → ServeAlike order own others → Sound claims estate → applied letters classes (served order own f) claims estate ≡ applied letters classes (served order others f) claims estate
served_under letters classes order own others f claims estate alike sound =
    (applied_agree letters classes (served order own f) (served order others f) (record { same = λ cs e s. alike f cs e s.few })).same claims estate sound
