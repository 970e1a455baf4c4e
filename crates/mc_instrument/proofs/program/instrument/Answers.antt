use Rattle.std.proofs.Common.{◌∙◌, ap, subst}
use Rattle.mc_typed.specs.Views.{program_of}
use Rattle.mc_probe.specs.BitMaps.{map_of}
use Rattle.mc_probe.specs.Erase.{erase}
use Rattle.mc_probe.specs.Trees.{tree_of}
use Rattle.mc_probe.specs.Tree as p
use Rattle.laws_simulation.proofs.Erased.{program_away}
use Rattle.laws_simulation.proofs.Tests.{simulated}
use Rattle.mc_instrument.proofs.program.instrument.Goals as goal

pub with_probes-requires : goal.with_probes-requires
with_probes-requires c = c.in-Ok.ensures.is_map

pub returns-clause-instrumented : goal.returns-clause-instrumented
returns-clause-instrumented c = record {
  is_map = c.in-Ok.ensures.is_map;
  is_tree = c.in_ok-tree.ensures.tree;
}

pub returns-clause-erases : goal.returns-clause-erases
returns-clause-erases c =
    ap (λ (x : p.Tree). erase x.program) c.in_ok-tree.ensures.tree
    ∙ program_away (map_of c.in-Ok.map) (program_of c.args.program.now)

pub returns-clause-runs : goal.returns-clause-runs
returns-clause-runs c = λ plan fits.
    simulated (program_of c.args.program.now) (map_of c.in-Ok.map) (tree_of c.in_ok-tree.tree) plan c.in_ok-tree.ensures.sound fits
    (record { is_map = c.in-Ok.ensures.is_map; is_tree = c.in_ok-tree.ensures.tree })
