use Rattle.std.proofs.Common.{◌≡◌, suc, ◌+◌, ◌++◌, length, take}
use Rattle.std.specs.List.{sum_by}
use Rattle.transcript.proofs.Writing.{behind_word}
use Rattle.transcript.proofs.text.Text.push_line.Given as goal

abbrev pub invariant-loop-field : goal.invariant-loop-field
invariant-loop-field l =
    (l.self ≡ l.initial.self ++ behind_word (take l.field-index l.fields))
    × (length l.self ≡ length l.initial.self + sum_by (λ f. suc (length f.now)) (take l.field-index l.fields))
