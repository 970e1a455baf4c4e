use Rattle.std.proofs.Common.{ℕ, subst, true, false, arith}
use Rattle.mc_paths.specs.Graph.{Outcome, graph_of, at_outcome}
use Rattle.mc_paths.proofs.Along.{Adds, edges_add, stands_whole}
use Rattle.mc_paths.proofs.laws.increment_of_graph.Goals as goal

pub returns : goal.returns
returns c = λ t k m short n e.
    let P : ℕ → Type 0 = λ i. Adds (graph_of t) i m in
    subst P (omega arith)
    (edges_add (graph_of t) t 0 (Outcome true) (Outcome false) 1 1 short n.in_order (stands_whole (graph_of t)) at_outcome at_outcome k m e)
