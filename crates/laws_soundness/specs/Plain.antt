-- Typed programs whose tests are as they were written, and whose lists for 0 hold 0.
use Rattle.std.specs.Prelude.{◌≡◌, pos, false, List, [], ◌∷◌, Option, Some, None}
use Rattle.mc_typed.specs.Tree.{Place, Expression, StructureValue, FunctionCall, Argument, Arguments, Effect, Initializer, Initializers, Declarator, ForStart, ReturnValue, Statement, Statements, Function, Program}
use Rattle.mc_typed.specs.Tree as typed
use Rattle.mc_typed.specs.Constants.{constant_value}

-- What is compared with 0 is converted only where a cast is written: the rules ask for no
-- conversion of an operand of `!`, `&&` and `||`, of the first one of `?:`, nor of a controlling
-- expression of `if` and of the loops (C17 6.5.3.3p5, 6.5.13p3, 6.5.14p3, 6.5.15p4, 6.8.4.1p2,
-- 6.8.5p4).
abbrev pub IsNotImplied : Expression → Type 0
IsNotImplied (typed.Convert a false e span) = ⊥
IsNotImplied _ = Unit {0}

-- it reads no object, calls nothing and takes no input (C17 6.6p6)
abbrev pub IsConstant : Expression → Type 0
IsConstant (typed.Constant v a span) = Unit {0}
IsConstant (typed.Read place a) = ⊥
IsConstant (typed.Unary operator a e span) = IsConstant e
IsConstant (typed.Convert a written e span) = IsConstant e
IsConstant (typed.Not e span) = IsConstant e
IsConstant (typed.Binary operator a e f span) = IsConstant e × IsConstant f
IsConstant (typed.Logic operator e f span) = IsConstant e × IsConstant f
IsConstant (typed.Choice e f g a span) = IsConstant e × IsConstant f × IsConstant g
IsConstant (typed.Call k a) = ⊥
IsConstant (typed.Input span) = ⊥

-- ---- expressions

abbrev mutual
  pub IsPlainPlace : Place → Type 0
  IsPlainPlace (typed.Local slot span) = Unit {0}
  IsPlainPlace (typed.Static slot span) = Unit {0}
  IsPlainPlace (typed.Parameter array stride index span) = IsPlain index
  IsPlainPlace (typed.Item array n stride index span) = IsPlainPlace array × IsPlain index
  IsPlainPlace (typed.Member structure i offset span) = IsPlainPlace structure

  pub IsPlain : Expression → Type 0
  IsPlain (typed.Constant v a span) = Unit {0}
  IsPlain (typed.Read place a) = IsPlainPlace place
  IsPlain (typed.Unary operator a e span) = IsPlain e
  IsPlain (typed.Convert a written e span) = IsPlain e
  IsPlain (typed.Not e span) = IsNotImplied e × IsPlain e
  IsPlain (typed.Binary operator a e f span) = IsPlain e × IsPlain f
  IsPlain (typed.Logic operator e f span) =
      (IsNotImplied e × IsPlain e) × (IsNotImplied f × IsPlain f)
  IsPlain (typed.Choice e f g a span) = (IsNotImplied e × IsPlain e) × IsPlain f × IsPlain g
  IsPlain (typed.Call k a) = IsPlainCall k
  IsPlain (typed.Input span) = Unit {0}

  pub IsPlainStructure : StructureValue → Type 0
  IsPlainStructure (typed.Stored place) = IsPlainPlace place
  IsPlainStructure (typed.Returned k) = IsPlainCall k

  pub IsPlainCall : FunctionCall → Type 0
  IsPlainCall (typed.call f given result span) = ArePlainArguments given

  pub ArePlainArguments : Arguments → Type 0
  ArePlainArguments typed.no_arguments = Unit {0}
  ArePlainArguments (typed.arguments a rest) = IsPlainArgument a × ArePlainArguments rest

  pub IsPlainArgument : Argument → Type 0
  IsPlainArgument (typed.NumberArgument e) = IsPlain e
  IsPlainArgument (typed.StructureArgument value copy) = IsPlainStructure value
  IsPlainArgument (typed.ArrayArgument place n) = IsPlainPlace place
  IsPlainArgument (typed.AgainArgument array span) = Unit {0}

-- what is compared with 0
abbrev pub IsTested : Expression → Type 0
IsTested e = IsNotImplied e × IsPlain e

abbrev pub IsPlainEffect : Effect → Type 0
IsPlainEffect (typed.Assign target a e span) = IsPlainPlace target × IsPlain e
IsPlainEffect (typed.Update target a operator common e span) = IsPlainPlace target × IsPlain e
IsPlainEffect (typed.Copy target value n span) = IsPlainPlace target × IsPlainStructure value
IsPlainEffect (typed.NumberEffect e whole) = IsPlain e
IsPlainEffect (typed.StructureEffect value whole) = IsPlainStructure value
IsPlainEffect (typed.CallEffect k) = IsPlainCall k
IsPlainEffect (typed.Output e span) = IsPlain e
IsPlainEffect (typed.ChoiceEffect e a b span) = IsTested e × IsPlainEffect a × IsPlainEffect b
IsPlainEffect (typed.Discard effect span) = IsPlainEffect effect

-- ---- initializers

-- a list `{E}` that sets an object to 0 holds an integer constant expression of value 0
abbrev mutual
  pub IsPlainInitializer : Initializer → Type 0
  IsPlainInitializer (typed.NumberInitializer e) = IsPlain e
  IsPlainInitializer (typed.StructureInitializer value n) = IsPlainStructure value
  IsPlainInitializer (typed.ListInitializer items n) = ArePlainInitializers items
  IsPlainInitializer (typed.ZeroInitializer e n) =
      IsPlain e × IsConstant e × (constant_value e ≡ Some (pos 0))

  pub ArePlainInitializers : Initializers → Type 0
  ArePlainInitializers typed.no_initializers = Unit {0}
  ArePlainInitializers (typed.initializers i rest) = IsPlainInitializer i × ArePlainInitializers
      rest

abbrev pub IsPlainInitial : Option Initializer → Type 0
IsPlainInitial None = Unit {0}
IsPlainInitial (Some i) = IsPlainInitializer i

abbrev pub ArePlainDeclarators : List Declarator → Type 0
ArePlainDeclarators [] = Unit {0}
ArePlainDeclarators (d ∷ ds) = IsPlainInitial d.value × ArePlainDeclarators ds

-- ---- statements

abbrev pub ArePlainClauses : List Effect → Type 0
ArePlainClauses [] = Unit {0}
ArePlainClauses (e ∷ es) = IsPlainEffect e × ArePlainClauses es

abbrev pub IsPlainStart : ForStart → Type 0
IsPlainStart (typed.StartEffects effects) = ArePlainClauses effects
IsPlainStart (typed.StartDeclaration declarators) = ArePlainDeclarators declarators

abbrev pub IsPlainTest : Option Expression → Type 0
IsPlainTest None = Unit {0}
IsPlainTest (Some e) = IsTested e

abbrev pub IsPlainReturn : ReturnValue → Type 0
IsPlainReturn typed.ReturnNothing = Unit {0}
IsPlainReturn (typed.ReturnNumber e) = IsPlain e
IsPlainReturn (typed.ReturnStructure value n) = IsPlainStructure value

-- the controlling expression of a `switch` is promoted, and that of each other statement a test
abbrev mutual
  pub IsPlainStatement : Statement → Type 0
  IsPlainStatement (typed.Compound items span) = ArePlainStatements items
  IsPlainStatement (typed.Label v span) = Unit {0}
  IsPlainStatement (typed.Declaration declarators span) = ArePlainDeclarators declarators
  IsPlainStatement (typed.Null span) = Unit {0}
  IsPlainStatement (typed.EffectStatement effect span) = IsPlainEffect effect
  IsPlainStatement (typed.If e s keyword span) = IsTested e × IsPlainStatement s
  IsPlainStatement (typed.IfElse e s u keyword span) =
      IsTested e × IsPlainStatement s × IsPlainStatement u
  IsPlainStatement (typed.Switch e items keyword span) = IsPlain e × ArePlainStatements items
  IsPlainStatement (typed.For start test step s keyword span) =
      IsPlainStart start × IsPlainTest test × ArePlainClauses step × IsPlainStatement s
  IsPlainStatement (typed.DoWhile s e keyword span) = IsPlainStatement s × IsTested e
  IsPlainStatement (typed.Break span) = Unit {0}
  IsPlainStatement (typed.Continue span) = Unit {0}
  IsPlainStatement (typed.Return value span) = IsPlainReturn value

  pub ArePlainStatements : Statements → Type 0
  ArePlainStatements typed.no_statements = Unit {0}
  ArePlainStatements (typed.statements s rest) = IsPlainStatement s × ArePlainStatements rest

-- ---- programs

abbrev pub ArePlainFunctions : List Function → Type 0
ArePlainFunctions [] = Unit {0}
ArePlainFunctions (f ∷ fs) = ArePlainStatements f.body × ArePlainFunctions fs

abbrev pub IsPlainProgram : Program → Type 0
IsPlainProgram p = ArePlainFunctions p.functions
