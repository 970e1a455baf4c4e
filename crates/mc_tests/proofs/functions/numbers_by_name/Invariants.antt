use Rattle.std.proofs.Common.{◌≡◌, ◌++◌, ℕ, List, length, map, drop, option_map}
use Rattle.mc_typed.specs.Views.{function_of}
use Rattle.name_table.specs.Tables.{last_of}
use Rattle.mc_tests.specs.Lines.{function_named}
use Rattle.mc_tests.proofs.functions.numbers_by_name.Given as goal

abbrev pub invariant-loop-left : goal.invariant-loop-left
invariant-loop-left l = record {
  whole : l.left ++ drop (length l.left) l.fn.functions ≡ l.fn.functions;
  numbers : (q : List ℕ) → last_of q l.numbers ≡ option_map (λ found. found.0) (function_named q (length l.left) (map function_of (drop (length l.left) l.fn.functions)));
}

abbrev pub decreases-loop-left : goal.decreases-loop-left
decreases-loop-left l = length l.left
