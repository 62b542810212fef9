-- Class lists: when one is refused, what a layer keeps of one, and the two orders of service. Assumes nothing.
use Rattle.std.specs.Prelude.{◌≡◌, ℕ, ◌-◌, ◌≤◌, Bool, true, not, ◌&&◌, List, [], ◌∷◌, ◌++◌, length, take, replicate, Option, nat_le}
use Rattle.division.specs.Problem.{Meaning, most_claims}
use Rattle.division.specs.Refusals.{first_due}
use Rattle.operators.specs.Operators.{last_class, served, senior_first, junior_first}
use Rattle.operators.specs.declared.classes.ClassRefusal.{ClassRefusal}
use Rattle.operators.specs.declared.classes.ClassRefusal.TheVariants.{ClassOutsideRange}
use Rattle.operators.specs.declared.classes.ClassOrder.{ClassOrder}
use Rattle.operators.specs.declared.classes.ClassOrder.TheVariants.{SeniorFirst, JuniorFirst}

-- the number of the refusal, as it is printed
abbrev pub class_number : ClassRefusal → ℕ
class_number ClassOutsideRange = 5

-- a class lies from 1 to 8
abbrev pub is_class_number : ℕ → Bool
is_class_number k = nat_le 1 k && nat_le k last_class

-- every class of the list does
abbrev pub all_classed : List ℕ → Bool
all_classed [] = true
all_classed (k ∷ ks) = is_class_number k && all_classed ks

-- the refusal due for a class list, if any
abbrev pub class_due : List ℕ → Option ClassRefusal
class_due classes = first_due ((not (all_classed classes), ClassOutsideRange) ∷ [])

-- the classes in the order in which they are served
abbrev pub order_of : ClassOrder → List ℕ
order_of SeniorFirst = senior_first
order_of JuniorFirst = junior_first

-- what a layer keeps of a class list: its first 64 classes, and class 8 at each place that it does not reach
abbrev pub kept : List ℕ → List ℕ
kept classes = take most_claims classes ++ replicate (most_claims - length classes) last_class

-- two class lists that serve every rule alike, on problems with no more claims than a rule has to answer
abbrev pub ServeAlike : List ℕ → List ℕ → List ℕ → Type 0
ServeAlike order classes others = (f : Meaning) (claims : List ℕ) (estate : ℕ) → length claims ≤ most_claims → served order classes f claims estate ≡ served order others f claims estate
