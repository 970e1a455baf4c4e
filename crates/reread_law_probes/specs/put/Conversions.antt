-- Programs in which no implied conversion stands where C has none: each has the place of its
-- operand and is no conversion of another one; there is none round what is tested, nor round
-- operands of `!`, `&&` and `||`; and round an operand of `&`, `|` or `^` between two Boolean
-- operands only one of a `_Bool`, which is promoted (C17 6.3.1.1p2).
use Rattle.std.specs.Prelude.{◌≡◌, Bool, true, false, List, [], ◌∷◌, Option, Some, None}
use Rattle.mc_span.specs.declared.span.Span.{Span}
use Rattle.mc_typed.specs.Sound.{type_of}
use Rattle.mc_typed.specs.Tree.{span_of}
use Rattle.mc_typed.specs.Tree as t
use Rattle.decide_rules.specs.declared.operators.FullOperator.{FullOperator}
use Rattle.decide_rules.specs.Nodes.{full_operator, is_flag}

abbrev pub IsWritten : t.Expression → Type 0
IsWritten (t.Convert a false e span) = ⊥
IsWritten _ = Unit {0}

-- it is written, or a `_Bool` is converted
abbrev pub IsFlagged : t.Expression → Type 0
IsFlagged (t.Convert a false e span) = is_flag (type_of e) ≡ true
IsFlagged _ = Unit {0}

abbrev pub AreFlagged : Option FullOperator → t.Expression → t.Expression → Type 0
AreFlagged None e f = Unit {0}
AreFlagged (Some operator) e f = IsFlagged e × IsFlagged f

abbrev pub StandsThere : Bool → t.Expression → Span → Type 0
StandsThere true e span = Unit {0}
StandsThere false e span = (span_of e ≡ span) × IsWritten e

-- ---- expressions

abbrev mutual
  pub ConvertsPlace : t.Place → Type 0
  ConvertsPlace (t.Local slot span) = Unit {0}
  ConvertsPlace (t.Static slot span) = Unit {0}
  ConvertsPlace (t.Parameter array stride index span) = Converts index
  ConvertsPlace (t.Item array n stride index span) = ConvertsPlace array × Converts index
  ConvertsPlace (t.Member structure i offset span) = ConvertsPlace structure

  pub Converts : t.Expression → Type 0
  Converts (t.Constant v a span) = Unit {0}
  Converts (t.Read place a) = ConvertsPlace place
  Converts (t.Unary operator a e span) = Converts e
  Converts (t.Convert a written e span) = StandsThere written e span × Converts e
  Converts (t.Not e span) = IsWritten e × Converts e
  Converts (t.Binary operator a e f span) =
      AreFlagged (full_operator operator e f) e f × Converts e × Converts f
  Converts (t.Logic operator e f span) = IsWritten e × Converts e × IsWritten f × Converts f
  Converts (t.Choice e f g a span) = IsWritten e × Converts e × Converts f × Converts g
  Converts (t.Call k a) = ConvertsCall k
  Converts (t.Input span) = Unit {0}

  pub ConvertsStructure : t.StructureValue → Type 0
  ConvertsStructure (t.Stored place) = ConvertsPlace place
  ConvertsStructure (t.Returned k) = ConvertsCall k

  pub ConvertsCall : t.FunctionCall → Type 0
  ConvertsCall (t.call f given result span) = ConvertsArguments given

  pub ConvertsArgument : t.Argument → Type 0
  ConvertsArgument (t.NumberArgument e) = Converts e
  ConvertsArgument (t.StructureArgument value copy) = ConvertsStructure value
  ConvertsArgument (t.ArrayArgument place n) = ConvertsPlace place
  ConvertsArgument (t.AgainArgument array span) = Unit {0}

  pub ConvertsArguments : t.Arguments → Type 0
  ConvertsArguments t.no_arguments = Unit {0}
  ConvertsArguments (t.arguments a rest) = ConvertsArgument a × ConvertsArguments rest

-- what is tested: as it is written
abbrev pub ConvertsTest : t.Expression → Type 0
ConvertsTest e = IsWritten e × Converts e

-- ---- effects and initializers

abbrev pub ConvertsEffect : t.Effect → Type 0
ConvertsEffect (t.Assign target a e span) = ConvertsPlace target × Converts e
ConvertsEffect (t.Update target a operator common e span) = ConvertsPlace target × Converts e
ConvertsEffect (t.Copy target value n span) = ConvertsPlace target × ConvertsStructure value
ConvertsEffect (t.NumberEffect e whole) = Converts e
ConvertsEffect (t.StructureEffect value whole) = ConvertsStructure value
ConvertsEffect (t.CallEffect k) = ConvertsCall k
ConvertsEffect (t.Output e span) = Converts e
ConvertsEffect (t.ChoiceEffect e a b span) =
    ConvertsTest e × ConvertsEffect a × ConvertsEffect b
ConvertsEffect (t.Discard a span) = ConvertsEffect a

abbrev pub ConvertsEffects : List t.Effect → Type 0
ConvertsEffects [] = Unit {0}
ConvertsEffects (a ∷ rest) = ConvertsEffect a × ConvertsEffects rest

abbrev mutual
  pub ConvertsInitializer : t.Initializer → Type 0
  ConvertsInitializer (t.NumberInitializer e) = Converts e
  ConvertsInitializer (t.StructureInitializer value n) = ConvertsStructure value
  ConvertsInitializer (t.ListInitializer items n) = ConvertsInitializers items
  ConvertsInitializer (t.ZeroInitializer e n) = Unit {0}

  pub ConvertsInitializers : t.Initializers → Type 0
  ConvertsInitializers t.no_initializers = Unit {0}
  ConvertsInitializers (t.initializers i rest) = ConvertsInitializer i × ConvertsInitializers rest

abbrev pub ConvertsInitial : Option t.Initializer → Type 0
ConvertsInitial None = Unit {0}
ConvertsInitial (Some i) = ConvertsInitializer i

abbrev pub ConvertsDeclarators : List t.Declarator → Type 0
ConvertsDeclarators [] = Unit {0}
ConvertsDeclarators (d ∷ rest) = ConvertsInitial d.value × ConvertsDeclarators rest

-- ---- statements

abbrev pub ConvertsStart : t.ForStart → Type 0
ConvertsStart (t.StartEffects effects) = ConvertsEffects effects
ConvertsStart (t.StartDeclaration declarators) = ConvertsDeclarators declarators

abbrev pub ConvertsOptional : Option t.Expression → Type 0
ConvertsOptional None = Unit {0}
ConvertsOptional (Some e) = ConvertsTest e

abbrev pub ConvertsValue : t.ReturnValue → Type 0
ConvertsValue t.ReturnNothing = Unit {0}
ConvertsValue (t.ReturnNumber e) = Converts e
ConvertsValue (t.ReturnStructure value n) = ConvertsStructure value

abbrev mutual
  pub ConvertsStatement : t.Statement → Type 0
  ConvertsStatement (t.Compound items span) = ConvertsStatements items
  ConvertsStatement (t.Label v span) = Unit {0}
  ConvertsStatement (t.Declaration declarators span) = ConvertsDeclarators declarators
  ConvertsStatement (t.Null span) = Unit {0}
  ConvertsStatement (t.EffectStatement a span) = ConvertsEffect a
  ConvertsStatement (t.If e s keyword span) = ConvertsTest e × ConvertsStatement s
  ConvertsStatement (t.IfElse e s u keyword span) =
      ConvertsTest e × ConvertsStatement s × ConvertsStatement u
  ConvertsStatement (t.Switch e items keyword span) = Converts e × ConvertsStatements items
  ConvertsStatement (t.For start test step s keyword span) =
      ConvertsStart start × ConvertsOptional test × ConvertsEffects step × ConvertsStatement s
  ConvertsStatement (t.DoWhile s e keyword span) = ConvertsStatement s × ConvertsTest e
  ConvertsStatement (t.Break span) = Unit {0}
  ConvertsStatement (t.Continue span) = Unit {0}
  ConvertsStatement (t.Return value span) = ConvertsValue value

  pub ConvertsStatements : t.Statements → Type 0
  ConvertsStatements t.no_statements = Unit {0}
  ConvertsStatements (t.statements s rest) = ConvertsStatement s × ConvertsStatements rest

-- ---- programs

abbrev pub ConvertsFunctions : List t.Function → Type 0
ConvertsFunctions [] = Unit {0}
ConvertsFunctions (f ∷ rest) = ConvertsStatements f.body × ConvertsFunctions rest

abbrev pub ConversionsStand : t.Program → Type 0
ConversionsStand program = ConvertsFunctions program.functions
