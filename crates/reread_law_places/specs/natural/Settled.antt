-- A typed program without the places that are cut out of others by counting bytes: of the word
-- with which a statement begins, of the brace that closes a body, and of the 1 that `++` and `--`
-- add and subtract. A move says where whole tokens and nodes go, and not where such a part goes.
use Rattle.std.specs.Prelude.{false, List, map}
use Rattle.mc_span.specs.declared.span.Span.{Span}
use Rattle.mc_typed.specs.Tree.{Expression, Effect, ForStart, Statement, Statements, Function, Program}
use Rattle.mc_typed.specs.Tree as typed

-- one place for all of them
abbrev pub nowhere : Span
nowhere = record { start = 0; end = 0 }

-- the right operand of an update: a constant, also where it is converted without a cast, may be the
-- 1 of a step
abbrev pub settled_operand : Expression → Expression
settled_operand (typed.Constant v a span) = typed.Constant v a nowhere
settled_operand (typed.Convert b false (typed.Constant v a span) place) =
    typed.Convert b false (typed.Constant v a nowhere) nowhere
settled_operand e = e

abbrev pub settled_effect : Effect → Effect
settled_effect (typed.Update target a operator common e span) =
    typed.Update target a operator common (settled_operand e) span
settled_effect (typed.ChoiceEffect e a b span) =
    typed.ChoiceEffect e (settled_effect a) (settled_effect b) span
settled_effect (typed.Discard effect span) = typed.Discard (settled_effect effect) span
settled_effect effect = effect

abbrev pub settled_effects : List Effect → List Effect
settled_effects effects = map settled_effect effects

abbrev pub settled_for_start : ForStart → ForStart
settled_for_start (typed.StartEffects effects) = typed.StartEffects (settled_effects effects)
settled_for_start (typed.StartDeclaration all) = typed.StartDeclaration all

abbrev mutual
  pub settled_statement : Statement → Statement
  settled_statement (typed.Compound items span) =
      typed.Compound (settled_statements items) span
  settled_statement (typed.Label v span) = typed.Label v span
  settled_statement (typed.Declaration all span) = typed.Declaration all span
  settled_statement (typed.Null span) = typed.Null span
  settled_statement (typed.EffectStatement effect span) =
      typed.EffectStatement (settled_effect effect) span
  settled_statement (typed.If e one keyword span) =
      typed.If e (settled_statement one) nowhere span
  settled_statement (typed.IfElse e one other keyword span) =
      typed.IfElse e (settled_statement one) (settled_statement other) nowhere span
  settled_statement (typed.Switch e items keyword span) =
      typed.Switch e (settled_statements items) nowhere span
  settled_statement (typed.For start test step one keyword span) =
      typed.For (settled_for_start start) test (settled_effects step) (settled_statement one)
      nowhere span
  settled_statement (typed.DoWhile one e keyword span) =
      typed.DoWhile (settled_statement one) e nowhere span
  settled_statement (typed.Break span) = typed.Break span
  settled_statement (typed.Continue span) = typed.Continue span
  settled_statement (typed.Return value span) = typed.Return value span

  pub settled_statements : Statements → Statements
  settled_statements typed.no_statements = typed.no_statements
  settled_statements (typed.statements one rest) =
      typed.statements (settled_statement one) (settled_statements rest)

abbrev pub settled_function : Function → Function
settled_function f = record f { body = settled_statements f.body; closing = nowhere }

abbrev pub settled_functions : List Function → List Function
settled_functions all = map settled_function all

abbrev pub settled : Program → Program
settled p = record p { functions = settled_functions p.functions }
