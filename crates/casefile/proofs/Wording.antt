-- A text that was told by its bytes is looked up as the word that has these bytes. Assumes nothing.
use Rattle.std.proofs.Common.{◌≡◌, ℕ, List, length, sym, ap}
use Rattle.std.proofs.lemmas.Slice.Eq.{HasBytesAt, text_from_reads}

pub looked_up : {X : Type 0} (found : List ℕ → X) (text word : List ℕ) → length text ≡ length word → HasBytesAt text 0 word → found word ≡ found text
looked_up found text word long reads = sym (ap found (text_from_reads text word long reads))
