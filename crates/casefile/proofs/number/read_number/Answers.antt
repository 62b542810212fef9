use Rattle.std.proofs.Common.{◌+◌, ◌-◌, ◌*◌, ◌<◌, get_or, drop, sym, ◌∙◌, arith, rules}
use Rattle.casefile.proofs.Numbering.{reads_back, read_digit, read_other, read_above, read_end}
use Rattle.casefile.proofs.number.read_number.Goals as goal

pub returns-in-empty-2-clause-written : goal.returns-in-empty-2-clause-written
returns-in-empty-2-clause-written c = search (rules, reads_back)

pub returns-then-not-is_ascii_digit : goal.returns-then-not-is_ascii_digit
returns-then-not-is_ascii_digit c =
    let text = c.args.text.now in
    let i = c.loop-byte.byte-index in
    let answer = sym (read_other c.args.limit c.loop-byte.value text i c.loop-byte-test.true (sym c.if-not-is_ascii_digit.ensures.value)) ∙ c.loop-byte.invariant.0 in
    record { result = answer; written = reads_back text c.args.limit _ (omega arith) answer }

pub returns-then-value-from : goal.returns-then-value-from
returns-then-value-from c =
    let text = c.args.text.now in
    let i = c.loop-byte.byte-index in
    let above : c.args.limit < c.loop-byte.value * 10 + (get_or text i 0 - 48) = omega arith in
    let answer = sym (read_digit c.args.limit c.loop-byte.value text i c.loop-byte-test.true (sym c.if-not-is_ascii_digit.ensures.value)
    ∙ read_above c.args.limit _ (drop (i + 1) text) above) ∙ c.loop-byte.invariant.0 in
    record { result = answer; written = reads_back text c.args.limit _ (omega arith) answer }

pub returns : goal.returns
returns c =
    let text = c.args.text.now in
    let answer = sym (read_end c.args.limit c.loop-byte.value text c.loop-byte.byte-index (omega arith) (omega arith)) ∙ c.loop-byte.invariant.0 in
    record { result = answer; written = reads_back text c.args.limit _ (omega arith) answer }
