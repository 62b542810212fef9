-- What comes of a whole file: what is told line by line, the text that is printed, the calls that the lines make, and the
-- case afterwards. Assumes nothing.
use Rattle.std.specs.Prelude.{ℕ, ◌+◌, Bool, cond, List, [], ◌∷◌, ◌++◌, length, nat_lt}
use Rattle.cases.specs.Cases.{View}
use Rattle.cases.specs.Ledger.{Event}
use Rattle.casefile.specs.Lines.{lines}
use Rattle.transcript.specs.declared.refusal.RunRefusal.TheVariants.{FileTooLong}
use Rattle.transcript.specs.Outcomes.{Told, run_number}
use Rattle.transcript.specs.Texts.{refused_fields, as_text, text_of}
use Rattle.transcript.specs.Turns.{InHand, new_in_hand, turn, ending, ending_calls, ending_case}

-- the most bytes that a file may have
abbrev pub most_file : ℕ
most_file = 32768

-- whether a file has more
abbrev pub too_long : List ℕ → Bool
too_long file = nat_lt most_file (length file)

-- what is told of lines in turn, and at the end
abbrev pub tellings : InHand → List (List ℕ) → List Told
tellings h [] = ending h.sheet
tellings h (line ∷ rest) = (turn line h).told ∷ tellings (turn line h).hand rest

-- the text of all that is told, from a line with a number on
abbrev pub texts : ℕ → List Told → List ℕ
texts number [] = []
texts number (t ∷ ts) = text_of number t ++ texts (number + 1) ts

-- the calls that lines make, and the one at the end, behind the calls of a past; the newest first
abbrev pub calls_after : InHand → List (List ℕ) → List Event → List Event
calls_after h [] past = ending_calls h ++ past
calls_after h (line ∷ rest) past = calls_after (turn line h).hand rest ((turn line h).calls ++ past)

-- the case after lines and after the end
abbrev pub case_after : InHand → List (List ℕ) → View
case_after h [] = ending_case h
case_after h (line ∷ rest) = case_after (turn line h).hand rest

-- the number of the case that a file is run against
abbrev pub file_case : ℕ
file_case = 1

-- the lines that are run: those of the file, none if the file is too long
abbrev pub lines_run : List ℕ → List (List ℕ)
lines_run file = cond (too_long file) [] (lines file)

-- the calls that a file makes on a new case, the newest first
abbrev pub calls_of : List ℕ → List Event
calls_of file = calls_after (new_in_hand file_case) (lines_run file) []

-- the case that a file leaves
abbrev pub case_of : List ℕ → View
case_of file = case_after (new_in_hand file_case) (lines_run file)

-- the text that is printed for a file: the texts of its lines, or one refusal if it is too long
abbrev pub transcript : List ℕ → List ℕ
transcript file =
    cond (too_long file) (as_text (refused_fields 0 (run_number FileTooLong) ∷ [])) (texts 1 (tellings (new_in_hand file_case) (lines file)))
