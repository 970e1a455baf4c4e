-- What follows from the definitions.
use Rattle.std.specs.Prelude.{◌≡◌, ℕ, List, slice_get, Some, All}
use Rattle.mc_cond.specs.Vectors.{IsVector}
use Rattle.mc_typed.specs.Tree.{Expression, Program}
use Rattle.mc_typed.specs.Plans.{Plan}
use Rattle.decide_rules.specs.declared.role.Role.{Role}
use Rattle.decide_rules.specs.Nodes as nodes
use Rattle.decide_rules.specs.Roots as roots
use Rattle.decide_rules.specs.Conditions.{tree_from}
use Rattle.decide_rules.specs.Decisions.{Decision, AreDecisions}
use Rattle.mc_steps.specs.Runs.{State, Gave}
use Rattle.mc_steps.specs.Points as points
use Rattle.mc_meaning.specs.Stores.{Store}
use Rattle.mc_steps.specs.Events.{Event, Evaluated}
use Rattle.mc_meaning.specs.Within.{Within}
use Rattle.mc_meaning.specs.Decisions.{Judged, vector_of}
use Rattle.mc_meaning.specs.Expressions.{evaluate}
use Rattle.mc_meaning.specs.Tests.{plain_run}

-- What an expression gives of its conditions is a vector of the tree that it is, from its top down,
-- whether it is a root or a node of the tree of a decision around it.
abbrev pub AnswersAreVectors : Type 0
AnswersAreVectors =
    (e : Expression) (role : Role) (w : Within) (s t : State Store) (j : Judged) (first : ℕ)
    → (evaluate e role w s).out ≡ Gave j t
    → IsVector (tree_from first (nodes.expression e)) (vector_of j)

-- An evaluation is of the decision with its number, and its vector is one of that decision's tree.
abbrev pub IsOfDecision : List Decision → Event → Type 0
IsOfDecision ds (Evaluated number v) =
    (d : Decision) × (slice_get ds number ≡ Some d) × IsVector d.tree v
IsOfDecision ds _ = Unit {0}

-- What a run evaluates are the program's decisions, each under its number in the list of all.
abbrev pub EvaluationsAreOfDecisions : Type 0
EvaluationsAreOfDecisions =
    (p : Program) (plan : Plan) (ds : List Decision) → AreDecisions p.functions ds
    → All (IsOfDecision ds) (plain_run p plan).events

-- Integer constant expressions are the same for the statements that complete as for decisions.
abbrev pub ConstantsAgree : Type 0
ConstantsAgree = (e : Expression) → points.is_constant e ≡ roots.is_constant (nodes.expression e)
