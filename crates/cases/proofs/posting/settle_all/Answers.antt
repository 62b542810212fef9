use Rattle.std.proofs.Common.{◌≡◌, ℕ, ◌<◌, List, ◌++◌, map, length, get_or, take, drop, set, sym, ap, ◌∙◌, subst, arith}
use Rattle.std.specs.List.{AllByRecursion}
use Rattle.std.proofs.lemmas.List.{map_more}
use Rattle.std.proofs.ByRecursion.{All-push}
use Rattle.std.proofs.lemmas.Int.{ints}
use Rattle.cases.specs.declared.row.Row.{Row}
use Rattle.cases.specs.Rows.{no_row, settled, row_posting, balance, Postable}
use Rattle.cases.proofs.Payments.{mapped_more, next_as_was, balance_push}
use Rattle.cases.proofs.posting.settle_all.Goals as goal

-- the row in turn is still as it was before the loop
in_turn : (rows before : List Row) (i : ℕ) → rows ≡ map settled (take i before) ++ drop i before → i < length before → get_or rows i no_row ≡ get_or before i no_row
in_turn rows before i is within = ap (λ (rs : List Row). get_or rs i no_row) is ∙ next_as_was before i no_row within

pub loop-i-preserved : goal.loop-i-preserved
loop-i-preserved c =
    let rows = c.args.rows.now in
    let i = c.loop-i.i in
    let same = in_turn c.loop-i.rows rows i c.loop-i.invariant.0 c.loop-i-test.true in
    let posting = c.settle-posting.ensures.result ∙ ap row_posting same in
    let amount = ap (λ p. p.amount) posting in
    let row = c.settle-posting.ensures.row ∙ ap settled same in
    let sums = ap balance (map_more row_posting rows i no_row c.loop-i-test.true) ∙ balance_push (map row_posting (take i rows)) (row_posting (get_or rows i no_row)) in (
      ap (λ r. set c.loop-i.rows i r) row ∙ ap (λ l. set l i (settled (get_or rows i no_row))) c.loop-i.invariant.0 ∙ mapped_more settled rows rows i no_row c.loop-i-test.true (omega arith),
      ap (λ p. set c.loop-i.out i p) posting ∙ ap (λ l. set l i (row_posting (get_or rows i no_row))) c.loop-i.invariant.1 ∙ mapped_more row_posting rows c.args.out.now i no_row c.loop-i-test.true c.requires.room,
      omega (arith, ints, sums, amount, c.settle-posting.ensures.bound, c.loop-i.invariant.2, c.loop-i.invariant.3, c.loop-i.invariant.4),
      omega (arith, ints, c.settle-posting.ensures.bound, c.loop-i.invariant.3, c.loop-i.invariant.4),
      omega (arith, ints, c.settle-posting.ensures.bound, c.loop-i.invariant.3, c.loop-i.invariant.4),
      subst (AllByRecursion Postable) (sym (map_more row_posting rows i no_row c.loop-i-test.true))
          (All-push Postable (map row_posting (take i rows)) (row_posting (get_or rows i no_row)) c.loop-i.invariant.5
          (subst Postable posting (omega (arith, ints, c.settle-posting.ensures.bound), omega (arith, ints, c.settle-posting.ensures.bound)))),
    )
