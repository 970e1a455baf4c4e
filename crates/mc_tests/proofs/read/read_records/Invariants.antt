use Rattle.std.proofs.Common.{◌≡◌, ◌+◌, [], List, length, map}
use Rattle.mc_typed.specs.Views.{function_of}
use Rattle.mc_tests.specs.File.{records_from}
use Rattle.mc_tests.specs.Lines.{Line}
use Rattle.mc_tests.specs.Seen.{Stand, plans_in}
use Rattle.mc_tests.specs.Tests.{tests_of}
use Rattle.mc_tests.proofs.read.read_records.Given as goal

abbrev pub invariant-reading : goal.invariant-reading
invariant-reading l = (lines : List Line) × (record {
  stand : Stand l.tests;
  fuel : l.tests.fuel ≡ l.fuel;
  plans : plans_in l.tests ≡ tests_of l.fuel lines;
  count : l.row ≡ 2 + length lines;
  left : records_from (map function_of l.functions) l.fuel 2 [] l.fn.rows ≡ records_from (map function_of l.functions) l.fuel l.row lines l.rows;
})

abbrev pub decreases-reading : goal.decreases-reading
decreases-reading l = length l.rows
