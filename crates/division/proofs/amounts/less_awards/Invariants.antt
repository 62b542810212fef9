use Rattle.std.proofs.Common.{◌≡◌, ℕ, ◌-◌, ◌<◌, ◌≤◌, slice_index}
use Rattle.division.proofs.amounts.less_awards.Given as goal

abbrev pub invariant-loop-place : goal.invariant-loop-place
invariant-loop-place l =
    ((k : ℕ) → k < l.place → slice_index l.awards k ≡ slice_index l.claims k - slice_index l.initial.awards k)
    × ((k : ℕ) → l.place ≤ k → slice_index l.awards k ≡ slice_index l.initial.awards k)
