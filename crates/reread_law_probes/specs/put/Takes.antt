-- Trees with all probes of the table, each where the walk that puts probes back looks for it. At an
-- implied conversion it looks outside or inside, as `has_round` says. A conversion that is implied
-- stands where its operand stands.
use Rattle.std.specs.Prelude.{◌≡◌, Bool, true, false, List, [], ◌∷◌, map, Option, Some, None}
use Rattle.mc_span.specs.declared.span.Span.{Span}
use Rattle.mc_typed.specs.Sound.{type_of}
use Rattle.mc_steps.specs.Points.{has_default, initializes}
use Rattle.mc_probe.specs.Bare.{bare_expression}
use Rattle.mc_probe.specs.Erase.{erase_declarator, erase_expression, erase_statements}
use Rattle.mc_probe.specs.Tree as p
use Rattle.reread_law_rows.specs.inserted.Rows.{extent, row_of_probe}
use Rattle.reread_put_back.specs.Back.{has_round, is_outer}

abbrev pub IsSet : {A : Type 0} → Option A → Type 0
IsSet None = ⊥
IsSet (Some a) = Unit {0}

-- ---- implied conversions

-- the operand of an implied conversion: no such conversion itself, and no probe stands round it
-- that would stand round the conversion
abbrev pub IsInside : p.Expression → Type 0
IsInside (p.Probe q e) = is_outer (type_of (erase_expression e)) (row_of_probe q) ≡ false
IsInside (p.Convert a false e span) = ⊥
IsInside _ = Unit {0}

abbrev pub IsConverted : Bool → p.Expression → Span → Type 0
IsConverted true e span = Unit {0}
IsConverted false e span = (extent e ≡ span) × IsInside e

-- ---- expressions

abbrev mutual
  pub TakesPlace : p.Place → Type 0
  TakesPlace (p.Local slot span) = Unit {0}
  TakesPlace (p.Static slot span) = Unit {0}
  TakesPlace (p.Parameter array stride index span) = Takes index
  TakesPlace (p.Item array n stride index span) = TakesPlace array × Takes index
  TakesPlace (p.Member structure i offset span) = TakesPlace structure

  pub Takes : p.Expression → Type 0
  Takes (p.Constant v a span) = Unit {0}
  Takes (p.Read place a) = TakesPlace place
  Takes (p.Unary operator a e span) = Takes e
  Takes (p.Convert a written e span) = IsConverted written e span × Takes e
  Takes (p.Not e span) = Takes e
  Takes (p.Binary operator a e f span) = Takes e × Takes f
  Takes (p.Logic operator e f span) = Takes e × Takes f
  Takes (p.Choice e f g a span) = Takes e × Takes f × Takes g
  Takes (p.Call k a) = TakesCall k
  Takes (p.Input span) = Unit {0}
  Takes (p.Probe q e) = (has_round (erase_expression e) (row_of_probe q) ≡ true) × Takes e

  pub TakesStructure : p.StructureValue → Type 0
  TakesStructure (p.Stored place) = TakesPlace place
  TakesStructure (p.Returned k) = TakesCall k

  pub TakesCall : p.FunctionCall → Type 0
  TakesCall (p.call f given result span) = TakesArguments given

  pub TakesArgument : p.Argument → Type 0
  TakesArgument (p.NumberArgument e) = Takes e
  TakesArgument (p.StructureArgument value copy) = TakesStructure value
  TakesArgument (p.ArrayArgument place n) = TakesPlace place
  TakesArgument (p.AgainArgument array span) = Unit {0}

  pub TakesArguments : p.Arguments → Type 0
  TakesArguments p.no_arguments = Unit {0}
  TakesArguments (p.arguments a rest) = TakesArgument a × TakesArguments rest

-- ---- effects and initializers

abbrev pub TakesEffect : p.Effect → Type 0
TakesEffect (p.Assign target a e span) = TakesPlace target × Takes e
TakesEffect (p.Update target a operator common e span) = TakesPlace target × Takes e
TakesEffect (p.Copy target value n span) = TakesPlace target × TakesStructure value
TakesEffect (p.NumberEffect e whole) = Takes e
TakesEffect (p.StructureEffect value whole) = TakesStructure value
TakesEffect (p.CallEffect k) = TakesCall k
TakesEffect (p.Output e span) = Takes e
TakesEffect (p.ChoiceEffect e a b span) = Takes e × TakesEffect a × TakesEffect b
TakesEffect (p.Discard a span) = TakesEffect a

abbrev pub TakesEffects : List p.Effect → Type 0
TakesEffects [] = Unit {0}
TakesEffects (a ∷ rest) = TakesEffect a × TakesEffects rest

-- A list `{E}` that sets each cell to zero evaluates no expression, so that no probe stands in it.
abbrev mutual
  pub TakesInitializer : p.Initializer → Type 0
  TakesInitializer (p.NumberInitializer e) = Takes e
  TakesInitializer (p.StructureInitializer value n) = TakesStructure value
  TakesInitializer (p.ListInitializer items n) = TakesInitializers items
  TakesInitializer (p.ZeroInitializer e n) = bare_expression (erase_expression e) ≡ e

  pub TakesInitializers : p.Initializers → Type 0
  TakesInitializers p.no_initializers = Unit {0}
  TakesInitializers (p.initializers i rest) = TakesInitializer i × TakesInitializers rest

abbrev pub TakesInitial : Option p.Initializer → Type 0
TakesInitial None = Unit {0}
TakesInitial (Some i) = TakesInitializer i

abbrev pub TakesDeclarators : List p.Declarator → Type 0
TakesDeclarators [] = Unit {0}
TakesDeclarators (d ∷ rest) = TakesInitial d.value × TakesDeclarators rest

-- ---- statements

abbrev pub TakesStart : p.ForStart → Type 0
TakesStart (p.StartEffects effects) = TakesEffects effects
TakesStart (p.StartDeclaration declarators) = TakesDeclarators declarators

abbrev pub TakesTest : Option p.Expression → Type 0
TakesTest None = Unit {0}
TakesTest (Some e) = Takes e

abbrev pub TakesValue : p.ReturnValue → Type 0
TakesValue p.ReturnNothing = Unit {0}
TakesValue (p.ReturnNumber e) = Takes e
TakesValue (p.ReturnStructure value n) = TakesStructure value

-- a declaration that initializes something has a probe, and no other declaration has one
abbrev pub IsSetWhere : {A : Type 0} → Bool → Option A → Type 0
IsSetWhere true bit = IsSet bit
IsSetWhere false bit = bit ≡ None

-- a `switch` without `default` has a probe for it, and no other `switch`
abbrev pub IsSetUnless : {A : Type 0} → Bool → Option A → Type 0
IsSetUnless true mark = mark ≡ None
IsSetUnless false mark = IsSet mark

abbrev mutual
  pub TakesStatement : p.Statement → Type 0
  TakesStatement (p.Compound items span) = TakesStatements items
  TakesStatement (p.Label v span mark) = IsSet mark
  TakesStatement (p.Declaration declarators span bit) =
      IsSetWhere (initializes (map erase_declarator declarators)) bit
      × TakesDeclarators declarators
  TakesStatement (p.Null span bit) = IsSet bit
  TakesStatement (p.EffectStatement a span bit) = IsSet bit × TakesEffect a
  TakesStatement (p.If e s keyword span bit) = IsSet bit × Takes e × TakesStatement s
  TakesStatement (p.IfElse e s u keyword span bit) =
      IsSet bit × Takes e × TakesStatement s × TakesStatement u
  TakesStatement (p.Switch e items keyword span bit absent) =
      IsSet bit × Takes e × TakesStatements items
      × IsSetUnless (has_default (erase_statements items)) absent
  TakesStatement (p.For start test step s keyword span bit) =
      IsSet bit × TakesStart start × TakesTest test × TakesEffects step × TakesStatement s
  TakesStatement (p.DoWhile s e keyword span bit) = IsSet bit × TakesStatement s × Takes e
  TakesStatement (p.Break span bit) = IsSet bit
  TakesStatement (p.Continue span bit) = IsSet bit
  TakesStatement (p.Return value span bit exit) = IsSet bit × TakesValue value × IsSet exit

  pub TakesStatements : p.Statements → Type 0
  TakesStatements p.no_statements = Unit {0}
  TakesStatements (p.statements s rest) = TakesStatement s × TakesStatements rest

-- ---- functions and programs

abbrev pub TakesFunction : p.Function → Type 0
TakesFunction f = IsSet f.entry × TakesStatements f.body

abbrev pub TakesFunctions : List p.Function → Type 0
TakesFunctions [] = Unit {0}
TakesFunctions (f ∷ rest) = TakesFunction f × TakesFunctions rest

abbrev pub TakesAll : p.Tree → Type 0
TakesAll tree = TakesFunctions tree.program.functions
