-- Why a rule refuses a problem, and which refusal is answered where several apply. Assumes nothing.
use Rattle.std.specs.Prelude.{◌≡◌, ℕ, ◌<◌, ◌≤◌, Bool, true, cond, not, ◌⊎◌, List, [], ◌∷◌, length, Some, None, Ok, Err, Option, Result, ◌==◌, nat_lt}
use Rattle.division.specs.Amounts.{total}
use Rattle.division.specs.Problem.{most_claims, most_total, Sound}
use Rattle.division.specs.declared.refusal.RuleRefusal.{RuleRefusal}
use Rattle.division.specs.declared.refusal.RuleRefusal.TheVariants.{TooManyClaims, AwardListLength, TotalAboveLimit, EstateAboveTotal}

-- the refusal of the first test that holds
abbrev pub first_due : {R : Type 0} → List (Bool × R) → Option R
first_due [] = None
first_due (t ∷ ts) = cond t.0 (Some t.1) (first_due ts)

-- a refusal stands in the list beside a test that holds
abbrev pub Stands : {R : Type 0} → List (Bool × R) → R → Type 0
Stands [] e = ⊥
Stands (t ∷ ts) e = ((t.0 ≡ true) × (t.1 ≡ e)) ⊎ Stands ts e

-- the answer is a refusal that applies, and none with a smaller number applies; there is no answer where none applies
pub record SmallestOf {R : Type 0} (number : R → ℕ) (Applies : R → Type 0) (answer : Option R) : Type 0 where
  pub applies : (e : R) → answer ≡ Some e → Applies e
  pub smallest : (e other : R) → answer ≡ Some e → Applies other → number e ≤ number other
  pub none_left : answer ≡ None → (other : R) → Applies other → ⊥

-- the number of each refusal, as it is printed
abbrev pub rule_number : RuleRefusal → ℕ
rule_number TooManyClaims = 1
rule_number AwardListLength = 2
rule_number TotalAboveLimit = 3
rule_number EstateAboveTotal = 4

-- when a refusal applies to a problem and an award list with so much room
abbrev pub Applies : List ℕ → ℕ → ℕ → RuleRefusal → Type 0
Applies claims estate room TooManyClaims = most_claims < length claims
Applies claims estate room AwardListLength = room ≡ length claims → ⊥
Applies claims estate room TotalAboveLimit = most_total < total claims
Applies claims estate room EstateAboveTotal = total claims < estate

-- the tests of a problem, in the order in which they are made
abbrev pub rule_tests : List ℕ → ℕ → ℕ → List (Bool × RuleRefusal)
rule_tests claims estate room =
    (nat_lt most_claims (length claims), TooManyClaims)
    ∷ (not (room == length claims), AwardListLength)
    ∷ (nat_lt most_total (total claims), TotalAboveLimit)
    ∷ (nat_lt (total claims) estate, EstateAboveTotal)
    ∷ []

-- the refusal due, if any
abbrev pub due : List ℕ → ℕ → ℕ → Option RuleRefusal
due claims estate room = first_due (rule_tests claims estate room)

-- the value where no refusal is due, and else the refusal
abbrev pub answer : {R X : Type 0} → Option R → X → Result X R
answer None value = Ok value
answer (Some e) value = Err e

-- what a list holds after the call: its new contents where no refusal is due, and else what it held
abbrev pub unless_due : {R X : Type 0} → Option R → X → X → X
unless_due None new old = new
unless_due (Some e) new old = old

-- a problem that no refusal applies to, with what its claims add up to
pub record Passed (claims : List ℕ) (estate room sum : ℕ) : Type 0 where
  pub sound : Sound claims estate
  pub room_is : room ≡ length claims
  pub sum_is : sum ≡ total claims
  pub none : due claims estate room ≡ None
