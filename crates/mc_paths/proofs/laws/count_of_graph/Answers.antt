use Rattle.std.proofs.Common.{ℕ, subst, sym, true, false}
use Rattle.mc_paths.specs.Graph.{Condition, Outcome, first_of, graph_of, Lead, at_outcome}
use Rattle.mc_paths.specs.Paths.{count_of}
use Rattle.mc_paths.proofs.Counting.{count_short}
use Rattle.mc_paths.proofs.Along.{lead_from, first_is, stands_whole}
use Rattle.mc_paths.proofs.laws.count_of_graph.Goals as goal

pub returns : goal.returns
returns c = λ t short n.
    let P : ℕ → Type 0 = λ k. Lead (graph_of t) (Condition k) (count_of t) in
    let Q : ℕ → Type 0 = λ m. Lead (graph_of t) (Condition (first_of t)) m in
    subst P (first_is t 0 n.in_order) (subst Q (sym (count_short t short))
    (lead_from (graph_of t) t 0 (Outcome true) (Outcome false) 1 1 short n.in_order (stands_whole (graph_of t)) at_outcome at_outcome))
