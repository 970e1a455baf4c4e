-- A text and its typed program, and both where each byte stands twice as far.
use Rattle.std.specs.Prelude.{◌+◌, pos, List, [], ◌∷◌, codes, Some}
use Rattle.mc_span.specs.declared.span.Span.{Span}
use Rattle.mc_tree.specs.declared.expressions.step_operator.StepOperator.TheVariants as step
use Rattle.mc_tree.specs.Tree.{Item}
use Rattle.mc_tree.specs.Tree as tree
use Rattle.mc_value.specs.declared.int_type.IntType.TheVariants as the
use Rattle.mc_value.specs.declared.operators.BinOp.TheVariants as op
use Rattle.mc_typed.specs.declared.expressions.Slot.{Slot}
use Rattle.mc_typed.specs.declared.operators.Operator.TheVariants.{Binary}
use Rattle.mc_typed.specs.Layout as layout
use Rattle.mc_typed.specs.Tree.{Program}
use Rattle.mc_typed.specs.Tree as typed
use Rattle.types_rules.specs.Sampled.{int, name, span, void}
use Rattle.reread_law_texts.specs.alike.Moves.{Move}

abbrev pub doubled : Move
doubled = record { start = λ n. n + n; end = λ n. n + n }

-- `void f(int a){if(a)a++;}`
abbrev pub short_unit : List Item
short_unit =
    tree.Defined (void 0)
    (tree.function 0 (name (codes "f") 5)
    (tree.Listed
    (tree.parameters
    (tree.parameter (int 7) 0 (Some (name (codes "a") 11)) tree.no_lengths (span 7 12))
    tree.no_parameters) (span 6 13))
    (span 5 13))
    (tree.statement
    (tree.If (tree.Named (name (codes "a") 17))
    (tree.ExpressionStatement
    (tree.PostfixStep step.Increment (tree.Named (name (codes "a") 19)) (span 19 22))
    (span 19 23))
    (span 14 23))
    tree.no_block_items)
    (span 0 24) ∷ []

-- the first object of the function
abbrev pub first : Slot
first = record { object = 0; start = 0 }

-- its typed program, from these places: of the name, of the two uses of `a`, of `++`, the step, its
-- statement, of `if`, the statement, and of `}`
abbrev pub program_at : Span → Span → Span → Span → Span → Span → Span → Span → Span → Program
program_at at test target one update effect word statement brace = record {
  functions = (record {
    name = codes "f";
    name_span = at;
    parameters = typed.NumberParameter the.Int ∷ [];
    result = typed.NoResult;
    objects = record { object_type = layout.Scalar the.Int; cells = 1; start = 0 } ∷ [];
    body = typed.statements
        (typed.If (typed.Read (typed.Local first test) the.Int)
        (typed.EffectStatement
        (typed.Update (typed.Local first target) the.Int (Binary op.Add) the.Int
        (typed.Constant (pos 1) the.Int one) update) effect) word statement) typed.no_statements;
    closing = brace;
  } ∷ []);
  statics = [];
  structures = [];
}

abbrev pub short_program : Program
short_program =
    program_at (span 5 6) (span 17 18) (span 19 20) (span 20 22) (span 19 22) (span 19 23)
    (span 14 16) (span 14 23) (span 23 24)

-- `++`, `if` and `}` have as many bytes as before, so they do not stand where all bytes do
abbrev pub doubled_program : Program
doubled_program =
    program_at (span 10 12) (span 34 36) (span 38 40) (span 42 44) (span 38 44) (span 38 46)
    (span 28 30) (span 28 46) (span 47 48)
