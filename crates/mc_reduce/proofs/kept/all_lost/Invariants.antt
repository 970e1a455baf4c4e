use Rattle.std.proofs.Common.{take}
use Rattle.std.specs.List.{AllZip}
use Rattle.mc_probe.specs.BitMaps.{map_of}
use Rattle.mc_oblige.specs.Shown.{HasEvent}
use Rattle.mc_reduce.specs.Kept.{IsFirstLost}
use Rattle.mc_reduce.specs.steps.Counts.{AreWordsAt}
use Rattle.mc_reduce.proofs.kept.all_lost.Given as goal

abbrev pub invariant-loop-test : goal.invariant-loop-test
invariant-loop-test l = record {
  lost : AllZip (IsFirstLost (HasEvent (map_of l.map) l.matrix) (map_of l.map) l.mode l.kept) (take l.test-index l.kept) l.lost.items;
  words : AreWordsAt l.matrix l.columns.row l.columns.words.items;
}
