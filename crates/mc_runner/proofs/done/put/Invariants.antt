use Rattle.std.proofs.Common.{◌≡◌, ℕ, List, All, ◌++◌, map, vec_len}
use Rattle.mc_meaning.specs.Seen.{Told}
use Rattle.mc_runner.specs.Jobs.{AreFilled}
use Rattle.mc_runner.proofs.Jobs.{IsToldAt}
use Rattle.mc_runner.proofs.done.put.Given as goal

abbrev pub invariant-loop-test : goal.invariant-loop-test
invariant-loop-test l = record {
  whole : vec_len l.results ≡ vec_len l.initial.results;
  filled : (told : List Told) (before : List ℕ) → AreFilled told before l.initial.results.items → All (IsToldAt told) l.yielded
      → AreFilled told (before ++ map (λ x. x.0) l.yielded) l.results.items;
}
