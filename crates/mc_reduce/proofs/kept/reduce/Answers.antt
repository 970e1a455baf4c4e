use Rattle.mc_probe.specs.BitMaps.{map_of}
use Rattle.mc_oblige.specs.Shown.{HasEvent}
use Rattle.mc_reduce.proofs.Keeping.{kept_show}
use Rattle.mc_reduce.proofs.Steps.{under_tests}
use Rattle.mc_reduce.proofs.kept.reduce.Goals as goal

pub returns-clause-same : goal.returns-clause-same
returns-clause-same c =
    let m = map_of c.args.map.now in
    let x = c.args.matrix.now in
    kept_show (HasEvent m x) m c.args.mode x.shape.tests c.in_ok-kept.kept.items (under_tests m x c.args.mode) c.in_ok-kept.ensures.kept
