use Rattle.std.proofs.Common.{map}
use Rattle.mc_typed.specs.Views.{program_of}
use Rattle.decide_rules.specs.Seen.{decision_of}
use Rattle.mc_probe.specs.BitMaps.{map_of}
use Rattle.mc_station.specs.Seen.{seen_accepted}
use Rattle.mc_station.specs.declared.accepted.Accepted.{Accepted}
use Rattle.mc_station.proofs.Decided.{accepts, refuses_bits, refuses_paths}
use Rattle.mc_station.proofs.Instrumenting.{accepted_is, instrumented}
use Rattle.mc_station.proofs.source.mapped.Goals as goal

pub returns-in-Ok-clause-judges : goal.returns-in-Ok-clause-judges
returns-in-Ok-clause-judges c =
    let a : Accepted = record { source = c.args.source; tree = c.in-Ok.tree; map = c.in-Ok.map } in
    rw c.new.ensures.parts (accepts c.args.source.now (program_of c.args.program.now) (map decision_of c.args.decisions.items) (map_of a.map) (seen_accepted a) c.in-Ok.ensures.few c.in-Ok.ensures.instrumented.is_map
    (accepted_is a (program_of c.args.program.now) c.in-Ok.ensures.erases))

pub returns-in-Ok-clause-instrumented : goal.returns-in-Ok-clause-instrumented
returns-in-Ok-clause-instrumented c =
    let a : Accepted = record { source = c.args.source; tree = c.in-Ok.tree; map = c.in-Ok.map } in
    let sound = rw c.new.ensures.parts at c.new.ensures.sound in
    rw c.new.ensures.parts (instrumented a (program_of c.args.program.now) c.in-Ok.ensures.erases c.requires.short c.requires.tokens sound c.in-Ok.ensures.instrumented)

pub returns-in-Err-TooManyPaths-clause-judges : goal.returns-in-Err-TooManyPaths-clause-judges
returns-in-Err-TooManyPaths-clause-judges c =
    refuses_paths c.args.source.now (program_of c.args.program.now) (map decision_of c.args.decisions.items) c.in-Err-TooManyPaths.at c.in-Err-TooManyPaths.count c.place_within.result.line c.place_within.result.column
    (rw c.in-Err-TooManyPaths.field-0-is at c.in-Err-TooManyPaths.ensures.refused) c.place_within.ensures.line c.place_within.ensures.column

pub returns-in-Err-TooManyBits-clause-judges : goal.returns-in-Err-TooManyBits-clause-judges
returns-in-Err-TooManyBits-clause-judges c =
    refuses_bits c.args.source.now (program_of c.args.program.now) (map decision_of c.args.decisions.items) c.in-Err-TooManyBits.count (rw c.in-Err-TooManyBits.field-0-is at c.in-Err-TooManyBits.ensures.refused)
