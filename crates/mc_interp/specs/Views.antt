-- Which tree a prepared body is.
use Rattle.std.specs.Prelude.{map, option_map}
use Rattle.mc_value.specs.declared.int_type.IntType.TheVariants.{Int}
use Rattle.mc_value.specs.declared.operators.BinOp.{BinOp}
use Rattle.mc_value.specs.declared.operators.BinOp.TheVariants as binary
use Rattle.mc_typed.specs.declared.operators.Operator.TheVariants.{Binary}
use Rattle.mc_typed.specs.declared.probes.Probe.TheVariants as probe
use Rattle.mc_probe.specs.Tree as probed
use Rattle.mc_probe.specs.Views as view
use Rattle.mc_interp.specs.declared.prepared.leaves.Leaf.{Leaf}
use Rattle.mc_interp.specs.declared.prepared.leaves.Leaf.TheVariants as leaves
use Rattle.mc_interp.specs.declared.prepared.questions.Relation.{Relation}
use Rattle.mc_interp.specs.declared.prepared.questions.Relation.TheVariants as relations
use Rattle.mc_interp.specs.declared.prepared.questions.Note.{Note}
use Rattle.mc_interp.specs.declared.prepared.questions.Question.{Question}
use Rattle.mc_interp.specs.declared.prepared.questions.Question.TheOpen.{Question-F}
use Rattle.mc_interp.specs.declared.prepared.questions.Question.TheFolds.{fold-Question}
use Rattle.mc_interp.specs.declared.prepared.controls.Test.{Test}
use Rattle.mc_interp.specs.declared.prepared.controls.Test.TheVariants as tests
use Rattle.mc_interp.specs.declared.prepared.steps.Step.{Step}
use Rattle.mc_interp.specs.declared.prepared.steps.Step.TheVariants as steps
use Rattle.mc_interp.specs.declared.prepared.statements.Prepared.{Prepared}
use Rattle.mc_interp.specs.declared.prepared.statements.Prepared.TheOpen.{Prepared-F}
use Rattle.mc_interp.specs.declared.prepared.statements.Prepared.TheFolds.{fold-Prepared}

-- an object of the activation, which is read (C17 6.3.2.1p2), or a constant (C17 6.4.4)
abbrev pub leaf_of : Leaf → probed.Expression
leaf_of (leaves.Local slot span of) = probed.Read (probed.Local slot span) of
leaf_of (leaves.Constant value of span) = probed.Constant value of span

-- relational and equality operators (C17 6.5.8, 6.5.9)
abbrev pub operator_of : Relation → BinOp
operator_of relations.Less = binary.Lt
operator_of relations.Greater = binary.Gt
operator_of relations.LessOrEqual = binary.Le
operator_of relations.GreaterOrEqual = binary.Ge
operator_of relations.Equal = binary.Eq
operator_of relations.NotEqual = binary.Ne

-- an expression with the probe of a condition round it
abbrev pub condition_of : Note → probed.Expression → probed.Expression
condition_of n e = probed.Probe (probe.Condition n.register n.on_true n.on_false) e

-- conditions, joined by `!`, `&&` and `||` (C17 6.5.3.3, 6.5.13, 6.5.14)
abbrev pub node_question : Question-F probed.Expression → probed.Expression
node_question (Question-F.Compared note relation of left right span) =
    condition_of note
    (probed.Binary (Binary (operator_of relation)) of (leaf_of left) (leaf_of right) span)
node_question (Question-F.Leaf note leaf) = condition_of note (leaf_of leaf)
node_question (Question-F.Not operand span) = probed.Not operand.value span
node_question (Question-F.Logic operator left right span) =
    probed.Logic operator left.value right.value span

abbrev pub question_of : Question → probed.Expression
question_of = fold-Question probed.Expression node_question

-- the controlling expression of an `if` or a loop (C17 6.8.4.1, 6.8.5)
abbrev pub test_of : Test → probed.Expression
test_of (tests.Asked register base question) =
    probed.Probe (probe.Decision register base) (question_of question.value)
test_of (tests.Walked tree) = view.expression_of tree.now

-- assignments (C17 6.5.16), and effects that are walked
abbrev pub effect_of : Step → probed.Effect
effect_of (steps.Add slot place right span) =
    probed.Update (probed.Local slot place) Int (Binary binary.Add) Int (leaf_of right) span
effect_of (steps.Assign slot place of right span) =
    probed.Assign (probed.Local slot place) of (leaf_of right) span
effect_of (steps.Update slot place of operator common right span) =
    probed.Update (probed.Local slot place) of operator common (leaf_of right) span
effect_of (steps.Walked tree) = view.effect_of tree.now

-- statements (C17 6.8)
abbrev pub node_statement : Prepared-F probed.Statement → probed.Statement
node_statement (Prepared-F.Compound items span) =
    probed.Compound (view.statements_from items.items) span
node_statement (Prepared-F.Label value span mark) = probed.Label value span mark
node_statement (Prepared-F.Declaration declarators span bit) =
    probed.Declaration (map view.declarator_of declarators.now) span bit
node_statement (Prepared-F.Null span bit) = probed.Null span bit
node_statement (Prepared-F.Effect step span bit) = probed.EffectStatement (effect_of step) span bit
node_statement (Prepared-F.If test chosen keyword span bit) =
    probed.If (test_of test) chosen.value keyword span bit
node_statement (Prepared-F.IfElse test chosen other keyword span bit) =
    probed.IfElse (test_of test) chosen.value other.value keyword span bit
node_statement (Prepared-F.Switch value items keyword span bit absent) =
    probed.Switch (view.expression_of value.now) (view.statements_from items.items) keyword span bit
    absent
node_statement (Prepared-F.For start test step body keyword span bit) =
    probed.For (view.start_of start.now) (option_map test_of test) (map effect_of step.items)
    body.value keyword span bit
node_statement (Prepared-F.DoWhile body test keyword span bit) =
    probed.DoWhile body.value (test_of test) keyword span bit
node_statement (Prepared-F.Break span bit) = probed.Break span bit
node_statement (Prepared-F.Continue span bit) = probed.Continue span bit
node_statement (Prepared-F.Return value span bit exit) =
    probed.Return (view.return_value_of value.now) span bit exit

abbrev pub statement_of : Prepared → probed.Statement
statement_of = fold-Prepared probed.Statement node_statement
