use Rattle.std.proofs.Common.{ℕ, subst, true, false}
use Rattle.mc_cond.specs.Vectors.{Evaluation, evaluated}
use Rattle.mc_paths.specs.Graph.{Condition, Outcome, first_of, graph_of, GoAlong}
use Rattle.mc_paths.proofs.Along.{along, first_is, stands_whole, at_end}
use Rattle.mc_paths.proofs.laws.vector_along_graph.Goals as goal

pub returns : goal.returns
returns c = λ t v short n is.
    let P : ℕ → Type 0 = λ k. GoAlong (graph_of t) v.answers v.outcome (Condition k) in
    let Q : Evaluation → Type 0 = λ w. GoAlong (graph_of t) w.answers w.outcome (Condition (first_of t)) in
    let e = evaluated t is.0 in
    subst P (first_is t 0 n.in_order) (subst Q is.1
    (along (graph_of t) e.answers e.outcome t 0 (Outcome true) (Outcome false) is.0 short n.in_order (stands_whole (graph_of t)) (stands_whole e.answers) (at_end (graph_of t) e.answers e.outcome)))
