use Rattle.std.proofs.Common.{◌++◌}
use Rattle.mc_oblige.specs.steps.Tested.{tested}
use Rattle.mc_oblige.proofs.Tested.{tested_step}
use Rattle.mc_oblige.proofs.evaluated.add_paths.Goals as goal

pub loop-path-preserved : goal.loop-path-preserved
loop-path-preserved c =
    tested_step c.args.d c.loop-path.path c.args.tests.now c.loop-path-test.true c.loop-path.found.items c.add_path.new.found.items
    (c.args.found.now.items ++ tested c.args.d 0 c.args.tests.now) c.loop-path.invariant c.in_ok-add_path.ensures
