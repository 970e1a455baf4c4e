-- What workers share may be seen from several threads.
use denote.Param.Send.{IsSync, recorded_sync, sendable}
use denote.Ref.{NamedLft}
use Rattle.std.proofs.Crossing as std
use Rattle.mc_cond.specs.contracts.tree.CondTree
use Rattle.mc_cond.proofs.tree.CondTree.TheLaws.TheKnot as trees
use Rattle.mc_typed.proofs.Shared as tree
use Rattle.decide_rules.specs.contracts.decision.Decision
use Rattle.mc_mutate.specs.contracts.kills.runs.Task

pub conditions : IsSync (CondTree.the_field).row
conditions = search (trees.crosses, std.crosses, sendable) depth 40

pub decision : IsSync Decision.the_row
decision = search (conditions, std.crosses, sendable) depth 40

field : (t a : NamedLft) → IsSync (Task.the_field t a).row
field t a = search (tree.program, decision, std.crosses, sendable) depth 40 fits 100000

pub task : (t a : NamedLft) → IsSync (Task.the_row t a)
task t a = recorded_sync (Task.the_field t a).row _ _ (Task.the_type t a).to_one (field t a)
