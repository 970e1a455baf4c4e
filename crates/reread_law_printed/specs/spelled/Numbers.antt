-- The numbers that a printed text has for its probes: registers, bits, bases and increments. Each
-- is at most 4294967295, the greatest `unsigned` of 32 bits (C17 5.2.4.2.1).
use Rattle.std.specs.Prelude.{◌≤◌, ℕ, List, [], ◌∷◌, Option, Some, None}
use Rattle.mc_typed.specs.declared.probes.Mark.{Mark}
use Rattle.mc_typed.specs.declared.probes.Probe.{Probe}
use Rattle.mc_typed.specs.declared.probes.Probe.TheVariants as probe
use Rattle.mc_probe.specs.Tree as p

abbrev pub IsShort : ℕ → Type 0
IsShort n = n ≤ 4294967295

abbrev pub IsShortBit : Option ℕ → Type 0
IsShortBit None = Unit {0}
IsShortBit (Some bit) = IsShort bit

abbrev pub IsShortMark : Option Mark → Type 0
IsShortMark None = Unit {0}
IsShortMark (Some m) = IsShort m.register × IsShort m.bit

abbrev pub IsShortProbe : Probe → Type 0
IsShortProbe (probe.Decision r base) = IsShort r × IsShort base
IsShortProbe (probe.Condition r on_true on_false) = IsShort r × IsShort on_true × IsShort on_false
IsShortProbe (probe.Switch r) = IsShort r

-- ---- expressions

abbrev mutual
  pub ShortPlace : p.Place → Type 0
  ShortPlace (p.Local slot span) = Unit {0}
  ShortPlace (p.Static slot span) = Unit {0}
  ShortPlace (p.Parameter array stride index span) = Short index
  ShortPlace (p.Item array n stride index span) = ShortPlace array × Short index
  ShortPlace (p.Member structure i offset span) = ShortPlace structure

  pub Short : p.Expression → Type 0
  Short (p.Constant v a span) = Unit {0}
  Short (p.Read place a) = ShortPlace place
  Short (p.Unary operator a e span) = Short e
  Short (p.Convert a written e span) = Short e
  Short (p.Not e span) = Short e
  Short (p.Binary operator a e f span) = Short e × Short f
  Short (p.Logic operator e f span) = Short e × Short f
  Short (p.Choice e f g a span) = Short e × Short f × Short g
  Short (p.Call k a) = ShortCall k
  Short (p.Input span) = Unit {0}
  Short (p.Probe probe e) = IsShortProbe probe × Short e

  pub ShortStructure : p.StructureValue → Type 0
  ShortStructure (p.Stored place) = ShortPlace place
  ShortStructure (p.Returned k) = ShortCall k

  pub ShortCall : p.FunctionCall → Type 0
  ShortCall (p.call f given result span) = ShortArguments given

  pub ShortArgument : p.Argument → Type 0
  ShortArgument (p.NumberArgument e) = Short e
  ShortArgument (p.StructureArgument value copy) = ShortStructure value
  ShortArgument (p.ArrayArgument place n) = ShortPlace place
  ShortArgument (p.AgainArgument array span) = Unit {0}

  pub ShortArguments : p.Arguments → Type 0
  ShortArguments p.no_arguments = Unit {0}
  ShortArguments (p.arguments a rest) = ShortArgument a × ShortArguments rest

-- ---- effects and initializers

abbrev pub ShortEffect : p.Effect → Type 0
ShortEffect (p.Assign target a e span) = ShortPlace target × Short e
ShortEffect (p.Update target a operator common e span) = ShortPlace target × Short e
ShortEffect (p.Copy target value n span) = ShortPlace target × ShortStructure value
ShortEffect (p.NumberEffect e whole) = Short e
ShortEffect (p.StructureEffect value whole) = ShortStructure value
ShortEffect (p.CallEffect k) = ShortCall k
ShortEffect (p.Output e span) = Short e
ShortEffect (p.ChoiceEffect e a b span) = Short e × ShortEffect a × ShortEffect b
ShortEffect (p.Discard a span) = ShortEffect a

abbrev pub ShortEffects : List p.Effect → Type 0
ShortEffects [] = Unit {0}
ShortEffects (a ∷ rest) = ShortEffect a × ShortEffects rest

abbrev mutual
  pub ShortInitializer : p.Initializer → Type 0
  ShortInitializer (p.NumberInitializer e) = Short e
  ShortInitializer (p.StructureInitializer value n) = ShortStructure value
  ShortInitializer (p.ListInitializer items n) = ShortInitializers items
  ShortInitializer (p.ZeroInitializer e n) = Short e

  pub ShortInitializers : p.Initializers → Type 0
  ShortInitializers p.no_initializers = Unit {0}
  ShortInitializers (p.initializers i rest) = ShortInitializer i × ShortInitializers rest

abbrev pub ShortInitial : Option p.Initializer → Type 0
ShortInitial None = Unit {0}
ShortInitial (Some i) = ShortInitializer i

abbrev pub ShortDeclarators : List p.Declarator → Type 0
ShortDeclarators [] = Unit {0}
ShortDeclarators (d ∷ rest) = ShortInitial d.value × ShortDeclarators rest

-- ---- statements

abbrev pub ShortStart : p.ForStart → Type 0
ShortStart (p.StartEffects effects) = ShortEffects effects
ShortStart (p.StartDeclaration declarators) = ShortDeclarators declarators

abbrev pub ShortTest : Option p.Expression → Type 0
ShortTest None = Unit {0}
ShortTest (Some e) = Short e

abbrev pub ShortValue : p.ReturnValue → Type 0
ShortValue p.ReturnNothing = Unit {0}
ShortValue (p.ReturnNumber e) = Short e
ShortValue (p.ReturnStructure value n) = ShortStructure value

abbrev mutual
  pub ShortStatement : p.Statement → Type 0
  ShortStatement (p.Compound items span) = ShortStatements items
  ShortStatement (p.Label v span mark) = IsShortMark mark
  ShortStatement (p.Declaration declarators span bit) =
      IsShortBit bit × ShortDeclarators declarators
  ShortStatement (p.Null span bit) = IsShortBit bit
  ShortStatement (p.EffectStatement a span bit) = IsShortBit bit × ShortEffect a
  ShortStatement (p.If e s keyword span bit) = IsShortBit bit × Short e × ShortStatement s
  ShortStatement (p.IfElse e s u keyword span bit) =
      IsShortBit bit × Short e × ShortStatement s × ShortStatement u
  ShortStatement (p.Switch e items keyword span bit absent) =
      IsShortBit bit × Short e × ShortStatements items × IsShortMark absent
  ShortStatement (p.For start test step s keyword span bit) =
      IsShortBit bit × ShortStart start × ShortTest test × ShortEffects step × ShortStatement s
  ShortStatement (p.DoWhile s e keyword span bit) = IsShortBit bit × ShortStatement s × Short e
  ShortStatement (p.Break span bit) = IsShortBit bit
  ShortStatement (p.Continue span bit) = IsShortBit bit
  ShortStatement (p.Return value span bit exit) =
      IsShortBit bit × IsShortBit exit × ShortValue value

  pub ShortStatements : p.Statements → Type 0
  ShortStatements p.no_statements = Unit {0}
  ShortStatements (p.statements s rest) = ShortStatement s × ShortStatements rest

-- ---- functions and programs

abbrev pub ShortFunction : p.Function → Type 0
ShortFunction f =
    IsShort f.registers × IsShortBit f.entry × IsShortBit f.exit × ShortStatements f.body

abbrev pub ShortFunctions : List p.Function → Type 0
ShortFunctions [] = Unit {0}
ShortFunctions (f ∷ rest) = ShortFunction f × ShortFunctions rest

abbrev pub HasShortNumbers : p.Tree → Type 0
HasShortNumbers tree = ShortFunctions tree.program.functions
