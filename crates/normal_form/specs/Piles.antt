-- Applying a string of letters to a rule: which refusal is due, and its number. Assumes nothing.
use Rattle.std.specs.Prelude.{◌≡◌, ℕ, Bool, true, not, List, [], ◌∷◌, length, is_some, None, Option, ◌==◌, nat_lt}
use Rattle.std.specs.Option.{unwrap_or}
use Rattle.division.specs.Amounts.{total}
use Rattle.division.specs.Problem.{most_claims, most_total}
use Rattle.division.specs.Refusals.{first_due, rule_number, Applies}
use Rattle.division.specs.declared.refusal.RuleRefusal.TheVariants.{TooManyClaims, AwardListLength, TotalAboveLimit, EstateAboveTotal}
use Rattle.operators.specs.Operators.{Classed}
use Rattle.operators.specs.Classes.{class_number, all_classed}
use Rattle.operators.specs.declared.classes.ClassRefusal.TheVariants.{ClassOutsideRange}
use Rattle.normal_form.specs.declared.letter.Operator.{Operator}
use Rattle.normal_form.specs.declared.letter.LetterRefusal.TheVariants.{UnknownLetter}
use Rattle.normal_form.specs.declared.pile.PileRefusal.{PileRefusal}
use Rattle.normal_form.specs.declared.pile.PileRefusal.TheVariants.{Rule, ClassListLength, Class, Letter}
use Rattle.normal_form.specs.Letters.{letters_in, letter_number}

-- the number of each refusal, as it is printed
abbrev pub pile_number : PileRefusal → ℕ
pile_number (Rule e) = rule_number e
pile_number ClassListLength = 2
pile_number (Class e) = class_number e
pile_number (Letter e) = letter_number e

-- when a refusal applies: to letters that are known or not, a class list, a problem, and an award list with so much room
abbrev pub PileApplies : Bool → List ℕ → List ℕ → ℕ → ℕ → PileRefusal → Type 0
PileApplies known classes claims estate room (Rule e) = Applies claims estate room e
PileApplies known classes claims estate room ClassListLength = length classes ≡ length claims → ⊥
PileApplies known classes claims estate room (Class e) = Classed classes → ⊥
PileApplies known classes claims estate room (Letter e) = known ≡ true → ⊥

-- the tests, in the order in which they are made
abbrev pub pile_tests : Bool → List ℕ → List ℕ → ℕ → ℕ → List (Bool × PileRefusal)
pile_tests known classes claims estate room =
    (nat_lt most_claims (length claims), Rule TooManyClaims)
    ∷ (not (room == length claims), Rule AwardListLength)
    ∷ (not (length classes == length claims), ClassListLength)
    ∷ (nat_lt most_total (total claims), Rule TotalAboveLimit)
    ∷ (nat_lt (total claims) estate, Rule EstateAboveTotal)
    ∷ (not (all_classed classes), Class ClassOutsideRange)
    ∷ (not known, Letter UnknownLetter)
    ∷ []

-- the refusal due, if any
abbrev pub pile_due : Bool → List ℕ → List ℕ → ℕ → ℕ → Option PileRefusal
pile_due known classes claims estate room = first_due (pile_tests known classes claims estate room)

-- whether every byte of a string is one of the five letters
abbrev pub all_letters : List ℕ → Bool
all_letters letters = is_some (letters_in letters)

-- the operators that a string of letters names, in the order of the letters
abbrev pub operators_in : List ℕ → List Operator
operators_in letters = unwrap_or (letters_in letters) []

-- what is asked once no refusal is due: the classes, the claims and the estate that were handed in, with a place for each
-- claim
pub record AskedIs (classes claims : List ℕ) (estate room : ℕ) (asked_classes asked_claims : List ℕ) (asked_estate : ℕ) : Type 0 where
  pub classes_is : asked_classes ≡ classes
  pub claims_is : asked_claims ≡ claims
  pub estate_is : asked_estate ≡ estate
  pub room_is : room ≡ length claims
  pub none : pile_due true classes claims estate room ≡ None
