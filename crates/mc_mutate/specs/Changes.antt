-- The mutants of one decision: what stands at its root is changed in one node of its tree, or in
-- one of its conditions.
use Rattle.std.specs.Prelude.{ℕ, pos, false, List, [], ◌∷◌, ◌++◌, map, Option, Some, None}
use Rattle.mc_span.specs.declared.span.Span.{Span}
use Rattle.mc_value.specs.declared.int_type.IntType.{IntType}
use Rattle.mc_value.specs.declared.int_type.IntType.TheVariants.{Int}
use Rattle.mc_value.specs.declared.operators.BinOp.{BinOp}
use Rattle.mc_value.specs.declared.operators.BinOp.TheVariants.{Lt, Le, Gt, Ge, Eq, Ne}
use Rattle.mc_value.specs.declared.operators.BinOp.TheVariants as bits
use Rattle.mc_typed.specs.declared.operators.Operator as code
use Rattle.mc_typed.specs.declared.operators.Operator.TheVariants.{Binary}
use Rattle.mc_typed.specs.declared.operators.LogicOperator.{LogicOperator}
use Rattle.mc_typed.specs.declared.operators.LogicOperator.TheVariants.{And, Or}
use Rattle.mc_typed.specs.Tree.{Expression, span_of}
use Rattle.mc_typed.specs.Tree as typed
use Rattle.decide_rules.specs.declared.operators.FullOperator.{FullOperator}
use Rattle.decide_rules.specs.declared.operators.FullOperator.TheVariants as full
use Rattle.decide_rules.specs.Nodes.{full_operator}
use Rattle.mc_mutate.specs.declared.changes.Change.{Change}
use Rattle.mc_mutate.specs.declared.changes.MutantKind.{MutantKind}
use Rattle.mc_mutate.specs.declared.changes.MutantKind.TheVariants.{Exchanged, Negated, FixedTrue, FixedFalse, Shifted}

-- a part of a program with one change, and what is changed
pub record Mutant (X : Type 0) : Type 0 where
  pub change : Change
  pub tree : X

abbrev pub mutant : {X : Type 0} → MutantKind → Span → X → Mutant X
mutant kind span x = record { change = record { kind = kind; at = span.start }; tree = x }

-- the mutants of what a part stands in, from those of the part
abbrev pub within : {X Y : Type 0} → (X → Y) → List (Mutant X) → List (Mutant Y)
within around = map (λ m. record { change = m.change; tree = around m.tree })

-- ---- nodes

abbrev pub exchanged : LogicOperator → LogicOperator
exchanged And = Or
exchanged Or = And

-- operators that are evaluated in full: `&` and `|` become each other, and `^` becomes `|`
abbrev pub exchanged_full : FullOperator → BinOp
exchanged_full full.And = bits.Or
exchanged_full full.Or = bits.And
exchanged_full full.Xor = bits.Or

-- where an operator is a full one, its own mutant and then those of its operands
abbrev pub of_full : Option FullOperator → (BinOp → Mutant Expression) → List (Mutant Expression)
    → List (Mutant Expression)
of_full None own others = []
of_full (Some operator) own others = own (exchanged_full operator) ∷ others

-- Each `&&` and `||` is exchanged for the other, and each full operator for another one, from the
-- root down: a node before its operands, and the left operand before the right one. A `!` has no
-- mutant.
abbrev pub of_nodes : Expression → List (Mutant Expression)
of_nodes (typed.Not e span) = within (λ x. typed.Not x span) (of_nodes e)
of_nodes (typed.Binary operator a e f span) =
    of_full (full_operator operator e f)
    (λ other. mutant Exchanged span (typed.Binary (Binary other) a e f span))
    (within (λ x. typed.Binary operator a x f span) (of_nodes e)
    ++ within (λ x. typed.Binary operator a e x span) (of_nodes f))
of_nodes (typed.Logic operator e f span) =
    mutant Exchanged span (typed.Logic (exchanged operator) e f span)
    ∷ (within (λ x. typed.Logic operator x f span) (of_nodes e)
    ++ within (λ x. typed.Logic operator e x span) (of_nodes f))
of_nodes _ = []

-- ---- conditions

-- a relational operator gains or loses its equality, and `==` and `!=` become each other (C17
-- 6.5.8, 6.5.9)
abbrev pub shifted : code.Operator → Option code.Operator
shifted (Binary Lt) = Some (Binary Le)
shifted (Binary Le) = Some (Binary Lt)
shifted (Binary Gt) = Some (Binary Ge)
shifted (Binary Ge) = Some (Binary Gt)
shifted (Binary Eq) = Some (Binary Ne)
shifted (Binary Ne) = Some (Binary Eq)
shifted _ = None

abbrev pub where_shifted : Option code.Operator → (code.Operator → Expression) → Span
    → List (Mutant Expression)
where_shifted None with_operator span = []
where_shifted (Some operator) with_operator span =
    mutant Shifted span (with_operator operator) ∷ []

abbrev pub of_relation : Expression → List (Mutant Expression)
of_relation (typed.Binary operator a e f span) =
    where_shifted (shifted operator) (λ other. typed.Binary other a e f span) span
of_relation _ = []

abbrev pub truth_at : ℕ → Span → Expression
truth_at v span = typed.Constant (pos v) Int span

-- `!c`, `c || 1` and `c && 0`, which stand where c stood
abbrev pub of_truth : Span → Expression → (Expression → Expression) → List (Mutant Expression)
of_truth span c around =
    mutant Negated span (around (typed.Not c span))
    ∷ (mutant FixedTrue span (around (typed.Logic Or c (truth_at 1 span) span))
    ∷ (mutant FixedFalse span (around (typed.Logic And c (truth_at 0 span) span)) ∷ []))

-- a number of type int, converted to the common type of an operator (C17 6.3.1.8)
abbrev pub converted_from_int : IntType → Span → Expression → Expression
converted_from_int Int span e = e
converted_from_int a span e = typed.Convert a false e span

-- A condition c becomes `!c`, `c || 1` and `c && 0`. One with a relational or equality operator on
-- top has a fourth mutant. An implied conversion is no operator of the text: the condition is what
-- is converted, and each of its mutants, which are of type int, is converted where that is needed.
abbrev pub of_condition : Expression → List (Mutant Expression)
of_condition (typed.Convert a false c span) = of_truth span c (converted_from_int a span)
of_condition c = of_truth (span_of c) c (λ x. x) ++ of_relation c

-- of an operator between two operands: where it is a full one, the conditions are in these
abbrev pub of_operator : Option FullOperator → List (Mutant Expression) → List (Mutant Expression)
    → List (Mutant Expression)
of_operator None own others = own
of_operator (Some operator) own others = others

-- the conditions in the order of the text
abbrev pub of_conditions : Expression → List (Mutant Expression)
of_conditions (typed.Not e span) = within (λ x. typed.Not x span) (of_conditions e)
of_conditions (typed.Binary operator a e f span) =
    of_operator (full_operator operator e f) (of_condition (typed.Binary operator a e f span))
    (within (λ x. typed.Binary operator a x f span) (of_conditions e)
    ++ within (λ x. typed.Binary operator a e x span) (of_conditions f))
of_conditions (typed.Logic operator e f span) =
    within (λ x. typed.Logic operator x f span) (of_conditions e)
    ++ within (λ x. typed.Logic operator e x span) (of_conditions f)
of_conditions c = of_condition c

-- ---- the decision

-- those of its nodes, and then those of its conditions
abbrev pub of_decision : Expression → List (Mutant Expression)
of_decision e = of_nodes e ++ of_conditions e
