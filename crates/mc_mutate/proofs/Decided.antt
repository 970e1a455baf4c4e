-- The search in a decision passes the mutants of the decision.
use Rattle.std.proofs.Common.{◌≡◌, ◌∙◌, refl, ap, Bool, true, false, if◌then◌else◌, ◌++◌, Option, Some, None}
use Rattle.mc_span.specs.declared.span.Span.{Span}
use Rattle.mc_value.specs.declared.int_type.IntType.{IntType}
use Rattle.mc_value.specs.declared.operators.BinOp.{BinOp}
use Rattle.mc_value.specs.declared.operators.BinOp.TheVariants.{Lt, Le, Gt, Ge, Eq, Ne}
use Rattle.mc_typed.specs.declared.operators.Operator as code
use Rattle.mc_typed.specs.declared.operators.Operator.TheVariants.{Binary}
use Rattle.mc_typed.specs.Tree.{Expression}
use Rattle.mc_typed.specs.Tree as t
use Rattle.decide_rules.specs.declared.operators.FullOperator.{FullOperator}
use Rattle.decide_rules.specs.declared.role.Role.{Role}
use Rattle.decide_rules.specs.Nodes as n
use Rattle.decide_rules.specs.Roots.{is_root}
use Rattle.mc_mutate.specs.declared.changes.MutantKind.TheVariants.{Exchanged}
use Rattle.mc_mutate.specs.declared.search.sought.Sought.{Sought}
use Rattle.mc_mutate.specs.Changes.{mutant, within, shifted, where_shifted, of_full, of_nodes, of_condition, of_operator, of_conditions, of_decision}
use Rattle.mc_mutate.specs.Mutants as m
use Rattle.mc_mutate.specs.steps.Search.{past, passed, in_nodes, past_three, in_condition, in_conditions, in_decision, own, inside, searched}
use Rattle.mc_mutate.proofs.Past.{past_append, one, two}

-- an operator between two operands, by whether it is a full one
full_found : (full : Option FullOperator) (operator : code.Operator) (a : IntType) (e f : Expression) (span : Span) (s : Sought) → ((u : Sought) → past (of_nodes e) u ≡ in_nodes (n.expression e) u) → ((u : Sought) → past (of_nodes f) u ≡ in_nodes (n.expression f) u) → past (of_full full (λ (other : BinOp). mutant Exchanged span (t.Binary (Binary other) a e f span)) (within (λ (x : Expression). t.Binary operator a x f span) (of_nodes e) ++ within (λ (x : Expression). t.Binary operator a e x span) (of_nodes f))) s ≡ in_nodes (n.evaluates_both full operator (n.expression e) (n.expression f) span) s
full_found None operator a e f span s left right = refl
full_found (Some full) operator a e f span s left right =
    let begun : Sought = passed Exchanged span s in
    two (of_nodes e) (of_nodes f) (λ (x : Expression). t.Binary operator a x f span) (λ (x : Expression). t.Binary operator a e x span)
    begun (left begun) (right (in_nodes (n.expression e) begun))

pub nodes_found : (e : Expression) (s : Sought) → past (of_nodes e) s ≡ in_nodes (n.expression e) s
nodes_found (t.Constant v a span) s = refl
nodes_found (t.Read place a) s = refl
nodes_found (t.Unary operator a e span) s = refl
nodes_found (t.Convert a written e span) s = refl
nodes_found (t.Not e span) s =
    one (of_nodes e) (λ (x : Expression). t.Not x span) s (nodes_found e s)
nodes_found (t.Binary operator a e f span) s =
    full_found (n.full_operator operator e f) operator a e f span s (nodes_found e) (nodes_found f)
nodes_found (t.Logic operator e f span) s =
    let begun : Sought = passed Exchanged span s in
    two (of_nodes e) (of_nodes f) (λ (x : Expression). t.Logic operator x f span) (λ (x : Expression). t.Logic operator e x span)
    begun (nodes_found e begun) (nodes_found f (in_nodes (n.expression e) begun))
nodes_found (t.Choice e f g a span) s = refl
nodes_found (t.Call k a) s = refl
nodes_found (t.Input span) s = refl

relation_found : (operator : code.Operator) (with_operator : code.Operator → Expression) (span : Span) (s : Sought) → past (where_shifted (shifted operator) with_operator span) (past_three span s) ≡ in_condition (n.is_comparison operator) span s
relation_found (Binary Lt) with_operator span s = refl
relation_found (Binary Le) with_operator span s = refl
relation_found (Binary Gt) with_operator span s = refl
relation_found (Binary Ge) with_operator span s = refl
relation_found (Binary Eq) with_operator span s = refl
relation_found (Binary Ne) with_operator span s = refl
relation_found _ with_operator span s = refl

operator_found : (full : Option FullOperator) (operator : code.Operator) (a : IntType) (e f : Expression) (span : Span) (s : Sought) → ((u : Sought) → past (of_conditions e) u ≡ in_conditions (n.expression e) u) → ((u : Sought) → past (of_conditions f) u ≡ in_conditions (n.expression f) u) → past (of_operator full (of_condition (t.Binary operator a e f span)) (within (λ (x : Expression). t.Binary operator a x f span) (of_conditions e) ++ within (λ (x : Expression). t.Binary operator a e x span) (of_conditions f))) s ≡ in_conditions (n.evaluates_both full operator (n.expression e) (n.expression f) span) s
operator_found None operator a e f span s left right =
    relation_found operator (λ (other : code.Operator). t.Binary other a e f span) span s
operator_found (Some full) operator a e f span s left right =
    two (of_conditions e) (of_conditions f) (λ (x : Expression). t.Binary operator a x f span) (λ (x : Expression). t.Binary operator a e x span)
    s (left s) (right (in_conditions (n.expression e) s))

pub conditions_found : (e : Expression) (s : Sought) → past (of_conditions e) s ≡ in_conditions (n.expression e) s
conditions_found (t.Constant v a span) s = refl
conditions_found (t.Read place a) s = refl
conditions_found (t.Unary operator a e span) s = refl
conditions_found (t.Convert a true e span) s = refl
conditions_found (t.Convert a false e span) s = refl
conditions_found (t.Not e span) s =
    one (of_conditions e) (λ (x : Expression). t.Not x span) s (conditions_found e s)
conditions_found (t.Binary operator a e f span) s =
    operator_found (n.full_operator operator e f) operator a e f span s (conditions_found e) (conditions_found f)
conditions_found (t.Logic operator e f span) s =
    two (of_conditions e) (of_conditions f) (λ (x : Expression). t.Logic operator x f span) (λ (x : Expression). t.Logic operator e x span)
    s (conditions_found e s) (conditions_found f (in_conditions (n.expression e) s))
conditions_found (t.Choice e f g a span) s = refl
conditions_found (t.Call k a) s = refl
conditions_found (t.Input span) s = refl

pub decision_found : (e : Expression) (s : Sought) → past (of_decision e) s ≡ in_decision (n.expression e) s
decision_found e s =
    past_append (of_nodes e) (of_conditions e) s
    ∙ (ap (past (of_conditions e)) (nodes_found e s) ∙ conditions_found e (in_nodes (n.expression e) s))

own_as : (b : Bool) (e : Expression) (s : Sought) → past (m.own b e) s ≡ (if b then in_decision (n.expression e) s else s)
own_as true e s = decision_found e s
own_as false e s = refl

pub own_found : (role : Role) (e : Expression) (s : Sought) → past (m.own (is_root role (n.expression e)) e) s ≡ own role (n.expression e) s
own_found role e s = own_as (is_root role (n.expression e)) e s

-- what stands inside an operator that evaluates both of its operands
pub both_inside : (full : Option FullOperator) (operator : code.Operator) (a b : n.Node) (span : Span) (s : Sought) → searched (m.under full) b (searched (m.under full) a s) ≡ inside (n.evaluates_both full operator a b span) s
both_inside None operator a b span s = refl
both_inside (Some full) operator a b span s = refl

-- an expression, from what stands inside
pub whole : (role : Role) (e : Expression) (s : Sought) → ((u : Sought) → past (m.inside e) u ≡ inside (n.expression e) u) → past (m.in_expression role e) s ≡ searched role (n.expression e) s
whole role e s h =
    past_append (m.own (is_root role (n.expression e)) e) (m.inside e) s
    ∙ (ap (past (m.inside e)) (own_found role e s) ∙ h (own role (n.expression e) s))
