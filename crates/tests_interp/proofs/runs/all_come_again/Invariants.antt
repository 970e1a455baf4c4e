use Rattle.std.proofs.Common.{◌≤◌, drop}
use denote.Shadow.{shadow}
use denote.Text.{Utf8}
use Rattle.mc_probe.specs.Erase.{erase}
use Rattle.mc_probe.specs.Trees.{tree_of}
use Rattle.mc_tests.specs.File.{AllFit}
use Rattle.mc_tests.specs.Seen.{seen_plans}
use Rattle.tests_interp.proofs.runs.all_come_again.Given as goal

abbrev pub invariant-loop-plan : goal.invariant-loop-plan
invariant-loop-plan l =
    shadow (Utf8 l.left)
    × AllFit (erase (tree_of l.machine.program).program) (seen_plans (drop l.plan-index l.plans))
    × (l.machine.program.bits ≤ 65536)
