-- One decision with the change at which a search comes to its end, node by node.
use Rattle.std.specs.Prelude.{ℕ, ◌==◌, false, if◌then◌else◌, Option, Some, None}
use Rattle.mc_span.specs.declared.span.Span.{Span}
use Rattle.mc_value.specs.declared.int_type.IntType.{IntType}
use Rattle.mc_typed.specs.declared.operators.Operator.{Operator}
use Rattle.mc_typed.specs.declared.operators.Operator.TheVariants.{Binary}
use Rattle.mc_typed.specs.declared.operators.LogicOperator.{LogicOperator}
use Rattle.mc_typed.specs.declared.operators.LogicOperator.TheVariants.{And, Or}
use Rattle.mc_typed.specs.Tree as t
use Rattle.decide_rules.specs.declared.operators.FullOperator.{FullOperator}
use Rattle.decide_rules.specs.Nodes as n
use Rattle.mc_mutate.specs.declared.changes.MutantKind.TheVariants.{Exchanged}
use Rattle.mc_mutate.specs.declared.search.sought.Sought.{Sought}
use Rattle.mc_mutate.specs.declared.search.sought.Sought.TheVariants.{Left, Found}
use Rattle.mc_mutate.specs.Changes.{converted_from_int, exchanged, exchanged_full, shifted, truth_at}
use Rattle.mc_mutate.specs.steps.Search.{passed, in_nodes, in_conditions}

abbrev pub operator_at : Sought → LogicOperator → LogicOperator
operator_at (Found c) operator = operator
operator_at (Left k) operator = if k == 0 then exchanged operator else operator

abbrev pub full_at : Option FullOperator → Sought → Operator → Operator
full_at None s operator = operator
full_at (Some full) (Found c) operator = operator
full_at (Some full) (Left k) operator = if k == 0 then Binary (exchanged_full full) else operator

-- an expression where an operator is no full one, and else another
abbrev pub unless_full : Option FullOperator → t.Expression → t.Expression → t.Expression
unless_full None e f = e
unless_full (Some full) e f = f

abbrev pub nodes_changed : t.Expression → Sought → t.Expression
nodes_changed (t.Not e span) s = t.Not (nodes_changed e s) span
nodes_changed (t.Binary operator a e f span) s =
    unless_full (n.full_operator operator e f) (t.Binary operator a e f span)
    (t.Binary (full_at (n.full_operator operator e f) s operator) a
    (nodes_changed e (passed Exchanged span s))
    (nodes_changed f (in_nodes (n.expression e) (passed Exchanged span s))) span)
nodes_changed (t.Logic operator e f span) s =
    t.Logic (operator_at s operator) (nodes_changed e (passed Exchanged span s))
    (nodes_changed f (in_nodes (n.expression e) (passed Exchanged span s))) span
nodes_changed e s = e

abbrev pub or_same : Option Operator → Operator → Operator
or_same None operator = operator
or_same (Some other) operator = other

abbrev pub relation_changed : t.Expression → t.Expression
relation_changed (t.Binary operator a e f span) =
    t.Binary (or_same (shifted operator) operator) a e f span
relation_changed e = e

-- the mutant with this number of the condition c, which stands so in what is around it, or what
-- stands there where it has no more
abbrev pub truth_changed : Span → t.Expression → (t.Expression → t.Expression) → t.Expression → ℕ
    → t.Expression
truth_changed span c around whole k =
    if k == 0 then around (t.Not c span)
    else if k == 1 then around (t.Logic Or c (truth_at 1 span) span)
    else if k == 2 then around (t.Logic And c (truth_at 0 span) span)
    else whole

abbrev pub plain_at : t.Expression → ℕ → t.Expression
plain_at e k =
    truth_changed (t.span_of e) e (λ x. x) (if k == 3 then relation_changed e else e) k

abbrev pub converted_at : IntType → t.Expression → Span → ℕ → t.Expression
converted_at a c span k =
    truth_changed span c (converted_from_int a span) (t.Convert a false c span) k

abbrev pub condition_at : t.Expression → ℕ → t.Expression
condition_at (t.Convert a false c span) k = converted_at a c span k
condition_at e k = plain_at e k

abbrev pub condition_changed : t.Expression → Sought → t.Expression
condition_changed e (Found c) = e
condition_changed e (Left k) = condition_at e k

abbrev pub conditions_changed : t.Expression → Sought → t.Expression
conditions_changed (t.Not e span) s = t.Not (conditions_changed e s) span
conditions_changed (t.Binary operator a e f span) s =
    unless_full (n.full_operator operator e f) (condition_changed (t.Binary operator a e f span) s)
    (t.Binary operator a (conditions_changed e s)
    (conditions_changed f (in_conditions (n.expression e) s)) span)
conditions_changed (t.Logic operator e f span) s =
    t.Logic operator (conditions_changed e s)
    (conditions_changed f (in_conditions (n.expression e) s)) span
conditions_changed e s = condition_changed e s
