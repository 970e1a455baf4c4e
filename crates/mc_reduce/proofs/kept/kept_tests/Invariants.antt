use Rattle.std.specs.Prelude.{reverse}
use Rattle.mc_probe.specs.BitMaps.{map_of}
use Rattle.mc_reduce.specs.steps.Counts.{AreWordsAt}
use Rattle.mc_reduce.proofs.Steps.{IsTurn}
use Rattle.mc_reduce.proofs.kept.kept_tests.Given as goal

abbrev pub invariant-turns : goal.invariant-turns
invariant-turns l = record {
  turn : IsTurn (map_of l.map) l.matrix l.mode l.left (reverse l.kept.items) l.counts l.shown;
  words : AreWordsAt l.matrix l.columns.row l.columns.words.items;
}

abbrev pub decreases-turns : goal.decreases-turns
decreases-turns l = l.left
