use Rattle.std.proofs.Common.{◌≡◌, ◌++◌, drop}
use Rattle.mc_tests.specs.Seen.{seen_plans}
use Rattle.mc_station.specs.Tests.{names}
use Rattle.mc_station.proofs.ran.names.Given as goal

abbrev pub invariant-loop-plan : goal.invariant-loop-plan
invariant-loop-plan l = l.all.items ++ names (seen_plans (drop l.plan-index l.plans)) ≡ names (seen_plans l.plans)
