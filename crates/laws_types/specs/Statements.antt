-- What each statement stands for, with its parts in their order, and where its keyword stands (C17
-- 6.8): the statement begins at the byte 30.
use Rattle.std.specs.Prelude.{◌≡◌, ℕ, ◌+◌, pos, true, false, List, [], ◌∷◌, map, Some, None}
use Rattle.mc_span.specs.declared.span.Span.{Span}
use Rattle.mc_tree.specs.declared.expressions.assignment_operator.AssignmentOperator.TheVariants as assign
use Rattle.mc_tree.specs.Tree as tree
use Rattle.mc_value.specs.declared.int_type.IntType.TheVariants.{Char, Int, Long}
use Rattle.mc_typed.specs.Tree as typed
use Rattle.types_rules.specs.Types.{Integer}
use Rattle.types_rules.specs.Statements.{Around, alone}
use Rattle.types_rules.specs.Bodies.{judge_statement}
use Rattle.laws_types.specs.Written.{here, there, scope, named, digit, object, read, read_as}

-- in a loop of a function that gives a long
abbrev pub around : Around
around = record { result = Some (Integer Long); breaks = true; continues = true; is_body = false }

-- the first so many bytes of the statement
abbrev pub word : ℕ → Span
word size = record { start = 30; end = 30 + size }

abbrev pub null : tree.Statement
null = tree.Null here

-- i=l, l=i
abbrev pub first : tree.Expression
first = tree.Assignment assign.Assign (named Int) (named Long) here

abbrev pub second : tree.Expression
second = tree.Assignment assign.Assign (named Long) (named Int) here

abbrev pub items : List tree.Statement → tree.BlockItems
items [] = tree.no_block_items
items (s ∷ rest) = tree.statement s (items rest)

abbrev pub written : List tree.Statement
written =
    tree.Null there
    ∷ tree.ExpressionStatement (named Int) there
    ∷ tree.Compound (items (null ∷ tree.Break here ∷ [])) there
    ∷ tree.If (named Char) null there
    ∷ tree.IfElse (named Char) null (tree.Break here) there
    ∷ tree.Switch (named Char) (tree.Compound (items
    (tree.Case (digit 1) here (tree.Case (digit 2) here null here) here
    ∷ tree.Break here ∷ tree.Default here null here ∷ [])) here) there
    ∷ tree.While (named Char) null there
    ∷ tree.DoWhile null (named Char) there
    ∷ tree.For (tree.StartsExpression (Some first)) (Some (named Char)) (Some second) null there
    ∷ tree.For (tree.StartsExpression None) None None null there
    ∷ tree.Break there
    ∷ tree.Continue there
    ∷ tree.Return (Some (named Char)) there
    ∷ []

-- ---- what they stand for

abbrev pub nothing : typed.Statement
nothing = typed.Null here

abbrev pub body : List typed.Statement → typed.Statements
body [] = typed.no_statements
body (s ∷ rest) = typed.statements s (body rest)

abbrev pub one : typed.Effect
one = typed.Assign (object Int) Int (read_as Int Long) here

abbrev pub other : typed.Effect
other = typed.Assign (object Long) Long (read_as Long Int) here

-- a `while` is a loop without clauses, and labels stand beside what they label
abbrev pub meant : List typed.Statement
meant =
    typed.Null there
    ∷ typed.EffectStatement (typed.NumberEffect (read Int) true) there
    ∷ typed.Compound (body (nothing ∷ typed.Break here ∷ [])) there
    ∷ typed.If (read Char) nothing (word 2) there
    ∷ typed.IfElse (read Char) nothing (typed.Break here) (word 2) there
    ∷ typed.Switch (read_as Int Char) (body (typed.Label (Some (pos 1)) here
    ∷ typed.Label (Some (pos 2)) here ∷ nothing ∷ typed.Break here ∷ typed.Label None here
    ∷ nothing ∷ [])) (word 6) there
    ∷ typed.For (typed.StartEffects []) (Some (read Char)) [] nothing (word 5) there
    ∷ typed.DoWhile nothing (read Char) (word 2) there
    ∷ typed.For (typed.StartEffects (one ∷ [])) (Some (read Char)) (other ∷ []) nothing (word 3) there
    ∷ typed.For (typed.StartEffects []) None [] nothing (word 3) there
    ∷ typed.Break there
    ∷ typed.Continue there
    ∷ typed.Return (typed.ReturnNumber (read_as Long Char)) there
    ∷ []

abbrev pub StatementsAreKept : Type 0
StatementsAreKept =
    map (λ s. (judge_statement around s scope).value) written ≡ map (λ s. Some (alone s)) meant
