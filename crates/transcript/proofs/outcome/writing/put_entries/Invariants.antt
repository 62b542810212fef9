use Rattle.std.proofs.Common.{◌*◌, ◌≤◌, map, take}
use Rattle.transcript.specs.Texts.{as_text, Begins}
use Rattle.transcript.proofs.outcome.writing.put_entries.Given as goal

abbrev pub invariant-loop-entry : goal.invariant-loop-entry
invariant-loop-entry g l = (l.at ≤ 30 * l.entry-index) × Begins (as_text (map g.E.Entry.fields (take l.entry-index l.entries))) l.at l.out l.initial.out
