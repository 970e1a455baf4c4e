-- The laws of the shared words.
use Rattle.std.proofs.Common.{◌^◌, ◌<◌, arith}
use Rattle.mc_core.specs.declared.shape.Shape.{Shape}
use Rattle.mc_cover.specs.Rule.{Shared, IsKept}
use Rattle.mc_cover.specs.Steps.{StepsKeep, IsMove}
use Rattle.mc_cover.proofs.Hits.{kept_hit, move_hit}
use Rattle.mc_cover.proofs.Claims.{kept_drawn, move_claim, different}
use Rattle.mc_cover.proofs.Joins.{kept_fork, kept_join}
use Rattle.mc_cover.proofs.Looks.{kept_look}
use Rattle.mc_cover.proofs.Counts.{times_of_contains, below_of_once}

pub keep : (k : Shape) (s : Shared) → IsKept k s → StepsKeep k s
keep k s kept = record {
  fork = λ id v at is few. kept_fork k s kept id v at is few;
  claim = λ id v at is not_over. kept_drawn k s kept id v at is not_over;
  hit = λ id v b t at live in_b claimed.
      let some = times_of_contains t v.claims claimed in
      let few = different k s kept id v at t in
      let less = below_of_once t k.tests (omega arith) in kept_hit k s kept id b t v at in_b (omega arith) live claimed;
  join = λ id v other w at bt is is'. kept_join k s kept id v other w at bt is is';
  look = λ id v index at live. kept_look k s kept id v at index live;
}

pub moves : (k : Shape) (s : Shared) → k.tests < 2 ^ 32 → IsKept k s → IsMove k s
moves k s few kept = record {
  claim = move_claim k s few kept;
  hit = move_hit k s kept;
}
