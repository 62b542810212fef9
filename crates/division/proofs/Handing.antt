-- Awards handed over to the list of whoever asked. Assumes nothing.
use Rattle.std.proofs.Common.{◌≡◌, ℕ, List, length, ap, sym, ◌∙◌}
use Rattle.division.specs.Problem.{Meaning, Lawful, Sound}

-- the awards of a sound problem are as many as the places of a list that is as long as the claims
pub as_long_as_room : (f : Meaning) → Lawful f → (claims asked awards : List ℕ) (estate room : ℕ) → Sound claims estate → claims ≡ asked → room ≡ length asked → awards ≡ f claims estate → room ≡ length awards
as_long_as_room f lawful claims asked awards estate room sound same is made =
    is ∙ sym (ap length same) ∙ sym (lawful claims estate sound).as_long ∙ sym (ap length made)
