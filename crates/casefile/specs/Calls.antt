-- What a line asks for, once its numbers and its rule are read. Assumes nothing.
use Rattle.std.specs.Prelude.{ℕ, cond, List, [], ◌∷◌, Some, None, Ok, Err, codes, Option, Result}
use Rattle.std.specs.Borrow.{Bor}
use Rattle.std.specs.Str.{bytes_eq}
use Rattle.casefile.specs.declared.call.Call.{Call}
use Rattle.casefile.specs.declared.call.Call.TheVariants.{Claim, Amend, Fund, Press, Divide, Draw, Sign, Return, Compare, Remark}
use Rattle.casefile.specs.declared.call.RuleName.{RuleName}
use Rattle.casefile.specs.declared.call.RuleName.TheVariants.{Priority, Equal, Proportion, Talmud}
use Rattle.casefile.specs.declared.refusal.LineRefusal.{LineRefusal}
use Rattle.casefile.specs.declared.refusal.LineRefusal.TheVariants.{BadNumber, UnknownRule}
use Rattle.casefile.specs.Decimal.{number_in}
use Rattle.casefile.specs.LineKinds.{Kind, claim_line, amend_line, fund_line, press_line, divide_line, draw_line, sign_line, return_line, compare_line, remark_line, line_kind}
use Rattle.casefile.specs.LineRefusals.{and_then}

-- the largest claimant number that a line may name
abbrev pub most_claimant : ℕ
most_claimant = 65535

-- the largest class that a line may name
abbrev pub most_class : ℕ
most_class = 255

-- the largest amount that a line may name
abbrev pub most_amount : ℕ
most_amount = 4294967295

-- what is asked for, with letters as the bytes of their field
pub data Asked : Type 0 where
  asks_claim : ℕ → ℕ → ℕ → Asked
  asks_amend : ℕ → ℕ → Asked
  asks_fund : ℕ → Asked
  asks_press : List ℕ → Asked
  asks_divide : RuleName → Asked
  asks_draw : Asked
  asks_sign : Asked
  asks_return : Asked
  asks_compare : List ℕ → List ℕ → Asked
  asks_nothing : Asked

-- what a call of the program asks for
abbrev pub asked : Call → Asked
asked (Claim number amount class) = asks_claim number amount class
asked (Amend number amount) = asks_amend number amount
asked (Fund amount) = asks_fund amount
asked (Press letters) = asks_press letters.now
asked (Divide rule) = asks_divide rule
asked Draw = asks_draw
asked Sign = asks_sign
asked Return = asks_return
asked (Compare left right) = asks_compare left.now right.now
asked Remark = asks_nothing

-- a number where there is one, and else the refusal
abbrev pub needed : Option ℕ → Result ℕ LineRefusal
needed None = Err BadNumber
needed (Some n) = Ok n

-- the number in a field, at most the limit
abbrev pub limited : List ℕ → ℕ → Result ℕ LineRefusal
limited text limit = needed (number_in text limit)

-- the rule of a name
abbrev pub rule_named : List ℕ → Result RuleName LineRefusal
rule_named name =
    cond (bytes_eq name (codes "priority")) (Ok Priority)
    (cond (bytes_eq name (codes "equal")) (Ok Equal)
    (cond (bytes_eq name (codes "proportion")) (Ok Proportion)
    (cond (bytes_eq name (codes "talmud")) (Ok Talmud) (Err UnknownRule))))

-- the fields of a line of a known kind are read from left to right
abbrev pub call_of : Kind → Result Asked LineRefusal
call_of (claim_line number amount class) =
    and_then (limited number most_claimant) (λ n.
    and_then (limited amount most_amount) (λ a.
    and_then (limited class most_class) (λ c. Ok (asks_claim n a c))))
call_of (amend_line number amount) =
    and_then (limited number most_claimant) (λ n.
    and_then (limited amount most_amount) (λ a. Ok (asks_amend n a)))
call_of (fund_line amount) = and_then (limited amount most_amount) (λ a. Ok (asks_fund a))
call_of (press_line letters) = Ok (asks_press letters)
call_of (divide_line rule) = and_then (rule_named rule) (λ r. Ok (asks_divide r))
call_of draw_line = Ok asks_draw
call_of sign_line = Ok asks_sign
call_of return_line = Ok asks_return
call_of (compare_line left right) = Ok (asks_compare left right)
call_of remark_line = Ok asks_nothing

-- what a line asks for: its length is tested first, then whether it is a remark, its form, its numbers and its rule
abbrev pub reading : List ℕ → Result Asked LineRefusal
reading line = and_then (line_kind line) call_of

-- the letters that a field stands for: a hyphen alone for none, and an empty field for nothing at all
abbrev pub field_letters : List ℕ → Option (List ℕ)
field_letters [] = None
field_letters (b ∷ bs) = cond (bytes_eq (b ∷ bs) (codes "-")) (Some []) (Some (b ∷ bs))

-- the bytes that are handed on, if any
abbrev pub handed : Option (Bor (List ℕ)) → Option (List ℕ)
handed None = None
handed (Some bytes) = Some bytes.now
