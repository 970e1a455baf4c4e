use Rattle.mc_typed.specs.Views.{program_of}
use Rattle.mc_probe.specs.BitMaps.{map_of}
use Rattle.mc_station.proofs.Counted.{never_large}
use Rattle.mc_station.proofs.source.decisions_again.Goals as goal

pub unreachable-requires : goal.unreachable-requires
unreachable-requires c =
    let p = program_of c.args.accepted.now.tree.program in
    let large = rw (c.in-Err-TooManyConditions.field-0-is, c.program.ensures.program) at c.in-Err-TooManyConditions.ensures.refused in
    never_large p (map_of c.args.accepted.now.map) c.requires.tree.is_map large.0 large.1 c.in-Err-TooManyConditions.field-0-0 c.in-Err-TooManyConditions.field-0-1 large.2
