-- Typed programs whose implied conversions are those that C asks for. `Sound` of `mc_typed` says that
-- operands have the type that their operator works in; here it is said which type that is, that no
-- conversion leads to the type that is there already, and where none is implied at all.
use Rattle.std.specs.Prelude.{◌≡◌, ◌≢◌, true, false, List, [], ◌∷◌, Option, Some, None}
use Rattle.mc_tree.specs.Tree.{Item}
use Rattle.mc_value.specs.declared.int_type.IntType.{IntType}
use Rattle.mc_value.specs.Conversions.{promoted, common_of}
use Rattle.mc_typed.specs.declared.operators.Operator.{Operator}
use Rattle.mc_typed.specs.declared.operators.Operator.TheVariants.{Binary, Shift}
use Rattle.mc_typed.specs.Sound.{type_of}
use Rattle.mc_typed.specs.Tree.{Place, Expression, StructureValue, FunctionCall, Argument, Arguments, Effect, Initializer, Initializers, Declarator, ForStart, ReturnValue, Statement, Statements, Function, Program}
use Rattle.mc_typed.specs.Tree as typed
use Rattle.types_rules.specs.Typing.{typing_of}

-- ---- conversions

-- An expression as it is written is none (C17 6.3p1): a cast is, and one that is implied is not.
abbrev pub IsWritten : Expression → Type 0
IsWritten (typed.Convert a false e span) = ⊥
IsWritten _ = Unit {0}

-- the type before an implied conversion, where there is one
abbrev pub own_type : Expression → IntType
own_type (typed.Convert a false e span) = type_of e
own_type e = type_of e

-- A conversion that is implied is one of what is written, and changes its type.
abbrev pub IsNeeded : Expression → Type 0
IsNeeded (typed.Convert a false e span) = (type_of e ≢ a) × IsWritten e
IsNeeded _ = Unit {0}

-- a cast is one of what is written; where a conversion is implied, its place says more
abbrev pub IsCast : Expression → Type 0
IsCast (typed.Convert a true e span) = IsWritten e
IsCast _ = Unit {0}

-- The operands of `*`, `/`, `%`, `+`, `-`, of comparisons and of `&`, `^`, `|` are worked on in the
-- type that is common to them (C17 6.3.1.8p1), a shift in the promoted type of its left operand, with
-- the right one promoted by itself (6.5.7p3). `right` is the right operand, and the types are the
-- operator's and the operands' own.
abbrev pub WorksIn : Operator → IntType → IntType → Expression → Type 0
WorksIn (Binary operator) a left right = a ≡ common_of left (own_type right)
WorksIn (Shift operator) a left right =
    (a ≡ promoted left) × (type_of right ≡ promoted (own_type right))

-- the operand of `+`, `-` and `~`, and the controlling expression of a `switch` (C17 6.5.3.3p2 to p4,
-- 6.8.4.2p5)
abbrev pub IsPromoted : Expression → Type 0
IsPromoted e = type_of e ≡ promoted (own_type e)

-- ---- expressions

abbrev mutual
  pub IsExactPlace : Place → Type 0
  IsExactPlace (typed.Local slot span) = Unit {0}
  IsExactPlace (typed.Static slot span) = Unit {0}
  IsExactPlace (typed.Parameter array stride index span) = IsWritten index × IsExact index
  IsExactPlace (typed.Item array n stride index span) =
      IsExactPlace array × (IsWritten index × IsExact index)
  IsExactPlace (typed.Member structure i offset span) = IsExactPlace structure

  pub IsExact : Expression → Type 0
  IsExact (typed.Constant v a span) = Unit {0}
  IsExact (typed.Read place a) = IsExactPlace place
  IsExact (typed.Unary operator a e span) = IsPromoted e × (IsNeeded e × IsExact e)
  IsExact (typed.Convert a written e span) = IsCast (typed.Convert a written e span) × IsExact e
  IsExact (typed.Not e span) = IsWritten e × IsExact e
  IsExact (typed.Binary operator a e f span) =
      WorksIn operator a (own_type e) f × (IsNeeded e × IsExact e) × (IsNeeded f × IsExact f)
  IsExact (typed.Logic operator e f span) =
      (IsWritten e × IsExact e) × (IsWritten f × IsExact f)
  IsExact (typed.Choice e f g a span) =
      (IsWritten e × IsExact e) × (a ≡ common_of (own_type f) (own_type g))
      × (IsNeeded f × IsExact f) × (IsNeeded g × IsExact g)
  IsExact (typed.Call k a) = IsExactCall k
  IsExact (typed.Input span) = Unit {0}

  pub IsExactStructure : StructureValue → Type 0
  IsExactStructure (typed.Stored place) = IsExactPlace place
  IsExactStructure (typed.Returned k) = IsExactCall k

  pub IsExactCall : FunctionCall → Type 0
  IsExactCall (typed.call f given result span) = AreExactArguments given

  pub AreExactArguments : Arguments → Type 0
  AreExactArguments typed.no_arguments = Unit {0}
  AreExactArguments (typed.arguments a rest) = IsExactArgument a × AreExactArguments rest

  pub IsExactArgument : Argument → Type 0
  IsExactArgument (typed.NumberArgument e) = IsNeeded e × IsExact e
  IsExactArgument (typed.StructureArgument value copy) = IsExactStructure value
  IsExactArgument (typed.ArrayArgument place n) = IsExactPlace place
  IsExactArgument (typed.AgainArgument array span) = Unit {0}

-- what stands as it is written, and what is converted where that is needed
abbrev pub IsTested : Expression → Type 0
IsTested e = IsWritten e × IsExact e

abbrev pub IsOperand : Expression → Type 0
IsOperand e = IsNeeded e × IsExact e

-- The right side of `=` is converted to the type of the left one; a compound assignment works as its
-- operator does with both sides (C17 6.5.16.1p2, 6.5.16.2p3).
abbrev pub IsExactEffect : Effect → Type 0
IsExactEffect (typed.Assign target a e span) = IsExactPlace target × (type_of e ≡ a) × IsOperand e
IsExactEffect (typed.Update target a operator common e span) =
    IsExactPlace target × WorksIn operator common a e × IsOperand e
IsExactEffect (typed.Copy target value n span) = IsExactPlace target × IsExactStructure value
IsExactEffect (typed.NumberEffect e whole) = IsTested e
IsExactEffect (typed.StructureEffect value whole) = IsExactStructure value
IsExactEffect (typed.CallEffect k) = IsExactCall k
IsExactEffect (typed.Output e span) = IsOperand e
IsExactEffect (typed.ChoiceEffect e a b span) = IsTested e × IsExactEffect a × IsExactEffect b
IsExactEffect (typed.Discard effect span) = IsExactEffect effect

-- ---- initializers

abbrev mutual
  pub IsExactInitializer : Initializer → Type 0
  IsExactInitializer (typed.NumberInitializer e) = IsOperand e
  IsExactInitializer (typed.StructureInitializer value n) = IsExactStructure value
  IsExactInitializer (typed.ListInitializer items n) = AreExactInitializers items
  IsExactInitializer (typed.ZeroInitializer e n) = IsTested e

  pub AreExactInitializers : Initializers → Type 0
  AreExactInitializers typed.no_initializers = Unit {0}
  AreExactInitializers (typed.initializers i rest) = IsExactInitializer i × AreExactInitializers
      rest

abbrev pub IsExactInitial : Option Initializer → Type 0
IsExactInitial None = Unit {0}
IsExactInitial (Some i) = IsExactInitializer i

abbrev pub AreExactDeclarators : List Declarator → Type 0
AreExactDeclarators [] = Unit {0}
AreExactDeclarators (d ∷ ds) = IsExactInitial d.value × AreExactDeclarators ds

-- ---- statements

abbrev pub AreExactClauses : List Effect → Type 0
AreExactClauses [] = Unit {0}
AreExactClauses (e ∷ es) = IsExactEffect e × AreExactClauses es

abbrev pub IsExactStart : ForStart → Type 0
IsExactStart (typed.StartEffects effects) = AreExactClauses effects
IsExactStart (typed.StartDeclaration declarators) = AreExactDeclarators declarators

abbrev pub IsExactTest : Option Expression → Type 0
IsExactTest None = Unit {0}
IsExactTest (Some e) = IsTested e

abbrev pub IsExactReturn : ReturnValue → Type 0
IsExactReturn typed.ReturnNothing = Unit {0}
IsExactReturn (typed.ReturnNumber e) = IsOperand e
IsExactReturn (typed.ReturnStructure value n) = IsExactStructure value

-- the controlling expression of a `switch` is promoted, and that of each other statement a test
abbrev mutual
  pub IsExactStatement : Statement → Type 0
  IsExactStatement (typed.Compound items span) = AreExactStatements items
  IsExactStatement (typed.Label v span) = Unit {0}
  IsExactStatement (typed.Declaration declarators span) = AreExactDeclarators declarators
  IsExactStatement (typed.Null span) = Unit {0}
  IsExactStatement (typed.EffectStatement effect span) = IsExactEffect effect
  IsExactStatement (typed.If e s keyword span) = IsTested e × IsExactStatement s
  IsExactStatement (typed.IfElse e s u keyword span) =
      IsTested e × IsExactStatement s × IsExactStatement u
  IsExactStatement (typed.Switch e items keyword span) =
      (IsPromoted e × IsOperand e) × AreExactStatements items
  IsExactStatement (typed.For start test step s keyword span) =
      IsExactStart start × IsExactTest test × AreExactClauses step × IsExactStatement s
  IsExactStatement (typed.DoWhile s e keyword span) = IsExactStatement s × IsTested e
  IsExactStatement (typed.Break span) = Unit {0}
  IsExactStatement (typed.Continue span) = Unit {0}
  IsExactStatement (typed.Return value span) = IsExactReturn value

  pub AreExactStatements : Statements → Type 0
  AreExactStatements typed.no_statements = Unit {0}
  AreExactStatements (typed.statements s rest) = IsExactStatement s × AreExactStatements rest

-- ---- programs

abbrev pub AreExactFunctions : List Function → Type 0
AreExactFunctions [] = Unit {0}
AreExactFunctions (f ∷ fs) = AreExactStatements f.body × AreExactFunctions fs

abbrev pub IsExactProgram : Program → Type 0
IsExactProgram p = AreExactFunctions p.functions

-- ---- the law

-- of the typed program of every unit
abbrev pub UnitsAreExact : Type 0
UnitsAreExact = (items : List Item) (p : Program) → typing_of items ≡ Some p → IsExactProgram p
