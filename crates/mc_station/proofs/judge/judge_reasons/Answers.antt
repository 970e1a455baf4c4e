use Rattle.mc_oblige.specs.Obligations.{obligations_of}
use Rattle.mc_probe.specs.BitMaps.{map_of}
use Rattle.mc_justify.specs.Justifications.{justifications_of}
use Rattle.mc_station.proofs.Few.{few_obligations}
use Rattle.mc_station.proofs.judge.judge_reasons.Goals as goal

pub read_justifications-requires : goal.read_justifications-requires
read_justifications-requires c =
    let m = map_of c.args.accepted.now.map in
    rw (c.deref.ensures.value, c.in_ok-obligations.ensures) (few_obligations m c.requires.tree.is_map.kept)

pub returns-clause-judges : goal.returns-clause-judges
returns-clause-judges c =
    let m = map_of c.args.accepted.now.map in
    c.stop_of.ensures (justifications_of c.args.bytes.now (obligations_of m) c.args.accepted.now.source.now) (rw (c.deref.ensures.value, c.in_ok-obligations.ensures) at c.in-Err.ensures.justifications)
