-- What the mutants of a program change, told from the roots of its decisions.
use Rattle.std.specs.Prelude.{Bool, true, false, List, [], ◌∷◌, ◌++◌}
use Rattle.mc_span.specs.declared.span.Span.{Span}
use Rattle.decide_rules.specs.Nodes.{Node, Constant, Not, Logic, Expression, Whole, Top, Operator, Other}
use Rattle.decide_rules.specs.Roots.{Found}
use Rattle.mc_mutate.specs.declared.changes.Change.{Change}
use Rattle.mc_mutate.specs.declared.changes.MutantKind.{MutantKind}
use Rattle.mc_mutate.specs.declared.changes.MutantKind.TheVariants.{Exchanged, Negated, FixedTrue, FixedFalse, Shifted}

abbrev pub changed : MutantKind → Span → Change
changed kind span = record { kind = kind; at = span.start }

-- the nodes from this one down, in preorder
abbrev pub node_changes : Node → List Change
node_changes (Constant span) = []
node_changes (Not a span) = node_changes a
node_changes (Logic operator a b span) =
    changed Exchanged span ∷ (node_changes a ++ node_changes b)
node_changes (Expression top ps span) = []
node_changes (Whole ps) = []

abbrev pub relates : Top → Bool
relates (Operator compares) = compares
relates Other = false

abbrev pub shift_changes : Bool → Span → List Change
shift_changes true span = changed Shifted span ∷ []
shift_changes false span = []

abbrev pub of_one : Bool → Span → List Change
of_one compares span =
    changed Negated span ∷ (changed FixedTrue span ∷ (changed FixedFalse span
    ∷ shift_changes compares span))

-- the conditions from this node down, in the order of the text
abbrev pub condition_changes : Node → List Change
condition_changes (Constant span) = of_one false span
condition_changes (Not a span) = condition_changes a
condition_changes (Logic operator a b span) = condition_changes a ++ condition_changes b
condition_changes (Expression top ps span) = of_one (relates top) span
condition_changes (Whole ps) = []

abbrev pub root_changes : Node → List Change
root_changes a = node_changes a ++ condition_changes a

-- decision by decision
abbrev pub all_changes : List Found → List Change
all_changes [] = []
all_changes (f ∷ fs) = root_changes f.node ++ all_changes fs
