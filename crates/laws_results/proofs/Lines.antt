-- The lines on tests are those of a report, since both are written by the same definitions.
use Rattle.std.proofs.Common.{refl}
use Rattle.laws_results.specs.Laws.{CountsAreLoads, TestLinesAreReports}

pub lines_are : TestLinesAreReports
lines_are s p plan = refl

pub counts_are : CountsAreLoads
counts_are states = refl
