use Rattle.std.proofs.Common.{ap}
use Rattle.mc_oblige.specs.Shown.{HasEvent}
use Rattle.mc_station.specs.Seen.{seen_accepted}
use Rattle.mc_station.proofs.Reducing.{are_in}
use Rattle.mc_station.proofs.commands.reduce.reduced.Goals as goal

-- what is kept are tests, and what is lost without them are obligations
pub reduced_lines-requires : goal.reduced_lines-requires
reduced_lines-requires c =
    let a = seen_accepted c.args.accepted.now in
    let ran = c.args.ran.now in
    rw (c.deref.ensures.value, c.deref-2.ensures.value)
    (are_in (HasEvent a.map ran.matrix) a.map _ ran.matrix.shape.tests _ _ ran.names.items _ c.in_ok-reduced.ensures.reduced (ap (λ s. s.tests) c.requires.told.shape) c.in_ok-obligations.ensures)
