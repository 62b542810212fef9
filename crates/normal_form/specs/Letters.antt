-- The letters d, t, m, s and r, and what a string of them makes of a rule. A pile is such a string, the first letter
-- next to the rule and the last outermost. Assumes nothing.
use Rattle.std.specs.Prelude.{ℕ, cond, List, [], ◌∷◌, Some, None, Ok, Err, Option, Result, ◌==◌}
use Rattle.division.specs.Problem.{Meaning}
use Rattle.operators.specs.Operators.{dual, truncation, minimal_rights, seniority, reverse_seniority}
use Rattle.normal_form.specs.declared.letter.Operator.{Operator}
use Rattle.normal_form.specs.declared.letter.Operator.TheVariants.{Dual, Truncation, MinimalRights, Seniority, ReverseSeniority}
use Rattle.normal_form.specs.declared.letter.LetterRefusal.{LetterRefusal}
use Rattle.normal_form.specs.declared.letter.LetterRefusal.TheVariants.{UnknownLetter}

-- the operator that a letter names, d, t, m, s or r as a byte; another byte names none
abbrev pub letter_of : ℕ → Option Operator
letter_of byte =
    cond (byte == 100) (Some Dual)
    (cond (byte == 116) (Some Truncation)
    (cond (byte == 109) (Some MinimalRights)
    (cond (byte == 115) (Some Seniority)
    (cond (byte == 114) (Some ReverseSeniority) None))))

-- an operator before others, where all of them are known
abbrev pub before_others : Option Operator → Option (List Operator) → Option (List Operator)
before_others None others = None
before_others (Some o) None = None
before_others (Some o) (Some os) = Some (o ∷ os)

-- the operators that a string of bytes names, or none if one of its bytes names no operator
abbrev pub letters_in : List ℕ → Option (List Operator)
letters_in [] = Some []
letters_in (b ∷ bs) = before_others (letter_of b) (letters_in bs)

-- the number of the refusal, as it is printed
abbrev pub letter_number : LetterRefusal → ℕ
letter_number UnknownLetter = 7

-- what an operator makes of a rule, over one class list
abbrev pub operator : Operator → List ℕ → Meaning → Meaning
operator Dual classes f = dual f
operator Truncation classes f = truncation f
operator MinimalRights classes f = minimal_rights f
operator Seniority classes f = seniority classes f
operator ReverseSeniority classes f = reverse_seniority classes f

-- what a string of letters makes of a rule: each letter in turn, the first next to the rule
abbrev pub applied : List Operator → List ℕ → Meaning → Meaning
applied [] classes f = f
applied (o ∷ os) classes f = applied os classes (operator o classes f)

-- what is known, and else the refusal
abbrev pub known : {X : Type 0} → Option X → Result X LetterRefusal
known None = Err UnknownLetter
known (Some x) = Ok x

-- accepted where all letters are known, and else refused
abbrev pub accepted : Option (List Operator) → Result (Unit {0}) LetterRefusal
accepted None = Err UnknownLetter
accepted (Some letters) = Ok tt
