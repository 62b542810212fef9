-- Priority is lawful. Assumes nothing.
use Rattle.std.specs.Prelude.{◌≡◌, ℕ, zero, suc, ◌-◌, ◌≤◌, min, List, [], ◌∷◌, length, refl}
use Rattle.std.proofs.Common.{ap, arith}
use Rattle.division.specs.Amounts.{total}
use Rattle.division.specs.AmountLaws.{Within}
use Rattle.division.specs.Problem.{Lawful}
use Rattle.division.specs.Priority.{priority}

pub length-priority : (claims : List ℕ) (left : ℕ) → length (priority claims left) ≡ length claims
length-priority [] left = refl
length-priority (c ∷ cs) left = ap suc (length-priority cs (left - min c left))

within_priority : (claims : List ℕ) (left : ℕ) → Within (priority claims left) claims
within_priority [] left i = omega arith
within_priority (c ∷ cs) left zero = omega arith
within_priority (c ∷ cs) left (suc i) = within_priority cs (left - min c left) i

total-priority : (claims : List ℕ) (left : ℕ) → left ≤ total claims → total (priority claims left) ≡ left
total-priority [] left h = omega arith
total-priority (c ∷ cs) left h = omega (arith, total-priority cs (left - min c left) (omega arith))

pub priority_lawful : Lawful priority
priority_lawful claims estate sound = record {
  as_long = length-priority claims estate;
  bounded = within_priority claims estate;
  spent = total-priority claims estate sound.covered;
}
