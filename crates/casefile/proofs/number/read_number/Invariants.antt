use Rattle.std.proofs.Common.{◌≡◌, ◌≤◌, drop}
use Rattle.casefile.specs.Decimal.{number_in}
use Rattle.casefile.proofs.Numbering.{read_on}
use Rattle.casefile.proofs.number.read_number.Given as goal

-- what is left of the text, behind the number read so far, gives the number in the text
abbrev pub invariant-loop-byte : goal.invariant-loop-byte
invariant-loop-byte l = (read_on l.limit l.value (drop l.byte-index l.text) ≡ number_in l.text l.limit) × (l.value ≤ l.limit)
