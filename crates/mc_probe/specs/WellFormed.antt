-- Well-formed trees: the program under the probes is sound, each register that a probe names is one
-- of its function's, and each probe stands where the instrumented text can have one. Increments and
-- bits are free.
use Rattle.std.specs.Prelude.{◌≡◌, ℕ, ◌<◌, Bool, true, false, List, [], ◌∷◌, map, Option, Some, None}
use Rattle.mc_typed.specs.declared.probes.Probe as code
use Rattle.mc_typed.specs.declared.probes.Probe.TheVariants as probe
use Rattle.mc_typed.specs.declared.probes.Mark.{Mark}
use Rattle.mc_typed.specs.Sound.{IsSound}
use Rattle.mc_steps.specs.Points.{has_default, initializes}
use Rattle.mc_probe.specs.Tree.{Place, Expression, StructureValue, FunctionCall, Argument, Arguments, Effect, Initializer, Initializers, Declarator, ForStart, ReturnValue, Statement, Statements, Function, Program, Tree}
use Rattle.mc_probe.specs.Tree as probed
use Rattle.mc_probe.specs.Erase.{erase, erase_declarator, erase_statements}

abbrev pub register_of : code.Probe → ℕ
register_of (probe.Decision register base) = register
register_of (probe.Condition register on_true on_false) = register
register_of (probe.Switch register) = register

-- ---- where no probe stands round an expression

-- A list `{E}` that sets each cell to zero evaluates no expression, so that no probe stands in it.
abbrev mutual
  pub IsBarePlace : Place → Type 0
  IsBarePlace (probed.Local slot span) = Unit {0}
  IsBarePlace (probed.Static slot span) = Unit {0}
  IsBarePlace (probed.Parameter array stride index span) = IsBare index
  IsBarePlace (probed.Item array n stride index span) = IsBarePlace array × IsBare index
  IsBarePlace (probed.Member structure i offset span) = IsBarePlace structure

  pub IsBare : Expression → Type 0
  IsBare (probed.Constant v a span) = Unit {0}
  IsBare (probed.Read place a) = IsBarePlace place
  IsBare (probed.Unary operator a e span) = IsBare e
  IsBare (probed.Convert a written e span) = IsBare e
  IsBare (probed.Not e span) = IsBare e
  IsBare (probed.Binary operator a e f span) = IsBare e × IsBare f
  IsBare (probed.Logic operator e f span) = IsBare e × IsBare f
  IsBare (probed.Choice e f g a span) = IsBare e × IsBare f × IsBare g
  IsBare (probed.Call k a) = IsBareCall k
  IsBare (probed.Input span) = Unit {0}
  IsBare (probed.Probe q e) = ⊥

  pub IsBareStructure : StructureValue → Type 0
  IsBareStructure (probed.Stored place) = IsBarePlace place
  IsBareStructure (probed.Returned k) = IsBareCall k

  pub IsBareCall : FunctionCall → Type 0
  IsBareCall (probed.call f given result span) = AreBareArguments given

  pub IsBareArgument : Argument → Type 0
  IsBareArgument (probed.NumberArgument e) = IsBare e
  IsBareArgument (probed.StructureArgument value copy) = IsBareStructure value
  IsBareArgument (probed.ArrayArgument place n) = IsBarePlace place
  IsBareArgument (probed.AgainArgument array span) = Unit {0}

  pub AreBareArguments : Arguments → Type 0
  AreBareArguments probed.no_arguments = Unit {0}
  AreBareArguments (probed.arguments a rest) = IsBareArgument a × AreBareArguments rest

-- ---- the probes of a function with so many registers

module _ (registers : ℕ) where
  abbrev mutual
    pub FitsPlace : Place → Type 0
    FitsPlace (probed.Local slot span) = Unit {0}
    FitsPlace (probed.Static slot span) = Unit {0}
    FitsPlace (probed.Parameter array stride index span) = Fits index
    FitsPlace (probed.Item array n stride index span) = FitsPlace array × Fits index
    FitsPlace (probed.Member structure i offset span) = FitsPlace structure

    pub Fits : Expression → Type 0
    Fits (probed.Constant v a span) = Unit {0}
    Fits (probed.Read place a) = FitsPlace place
    Fits (probed.Unary operator a e span) = Fits e
    Fits (probed.Convert a written e span) = Fits e
    Fits (probed.Not e span) = Fits e
    Fits (probed.Binary operator a e f span) = Fits e × Fits f
    Fits (probed.Logic operator e f span) = Fits e × Fits f
    Fits (probed.Choice e f g a span) = Fits e × Fits f × Fits g
    Fits (probed.Call k a) = FitsCall k
    Fits (probed.Input span) = Unit {0}
    Fits (probed.Probe q e) = (register_of q < registers) × Fits e

    pub FitsStructure : StructureValue → Type 0
    FitsStructure (probed.Stored place) = FitsPlace place
    FitsStructure (probed.Returned k) = FitsCall k

    pub FitsCall : FunctionCall → Type 0
    FitsCall (probed.call f given result span) = FitArguments given

    pub FitsArgument : Argument → Type 0
    FitsArgument (probed.NumberArgument e) = Fits e
    FitsArgument (probed.StructureArgument value copy) = FitsStructure value
    FitsArgument (probed.ArrayArgument place n) = FitsPlace place
    FitsArgument (probed.AgainArgument array span) = Unit {0}

    pub FitArguments : Arguments → Type 0
    FitArguments probed.no_arguments = Unit {0}
    FitArguments (probed.arguments a rest) = FitsArgument a × FitArguments rest

  abbrev pub FitsEffect : Effect → Type 0
  FitsEffect (probed.Assign target a e span) = FitsPlace target × Fits e
  FitsEffect (probed.Update target a operator common e span) = FitsPlace target × Fits e
  FitsEffect (probed.Copy target value n span) = FitsPlace target × FitsStructure value
  FitsEffect (probed.NumberEffect e whole) = Fits e
  FitsEffect (probed.StructureEffect value whole) = FitsStructure value
  FitsEffect (probed.CallEffect k) = FitsCall k
  FitsEffect (probed.Output e span) = Fits e
  FitsEffect (probed.ChoiceEffect e a b span) = Fits e × FitsEffect a × FitsEffect b
  FitsEffect (probed.Discard a span) = FitsEffect a

  abbrev pub FitEffects : List Effect → Type 0
  FitEffects [] = Unit {0}
  FitEffects (a ∷ rest) = FitsEffect a × FitEffects rest

  abbrev mutual
    pub FitsInitializer : Initializer → Type 0
    FitsInitializer (probed.NumberInitializer e) = Fits e
    FitsInitializer (probed.StructureInitializer value n) = FitsStructure value
    FitsInitializer (probed.ListInitializer items n) = FitInitializers items
    FitsInitializer (probed.ZeroInitializer e n) = IsBare e

    pub FitInitializers : Initializers → Type 0
    FitInitializers probed.no_initializers = Unit {0}
    FitInitializers (probed.initializers i rest) = FitsInitializer i × FitInitializers rest

  abbrev pub FitsInitial : Option Initializer → Type 0
  FitsInitial None = Unit {0}
  FitsInitial (Some i) = FitsInitializer i

  abbrev pub FitDeclarators : List Declarator → Type 0
  FitDeclarators [] = Unit {0}
  FitDeclarators (d ∷ rest) = FitsInitial d.value × FitDeclarators rest

  abbrev pub FitsStart : ForStart → Type 0
  FitsStart (probed.StartEffects effects) = FitEffects effects
  FitsStart (probed.StartDeclaration declarators) = FitDeclarators declarators

  abbrev pub FitsTest : Option Expression → Type 0
  FitsTest None = Unit {0}
  FitsTest (Some e) = Fits e

  abbrev pub FitsReturn : ReturnValue → Type 0
  FitsReturn probed.ReturnNothing = Unit {0}
  FitsReturn (probed.ReturnNumber e) = Fits e
  FitsReturn (probed.ReturnStructure value n) = FitsStructure value

  abbrev pub FitsMark : Option Mark → Type 0
  FitsMark None = Unit {0}
  FitsMark (Some m) = m.register < registers

  -- a declaration that initializes nothing has no probe
  abbrev pub FitsDeclaration : Bool → Option ℕ → Type 0
  FitsDeclaration true bit = Unit {0}
  FitsDeclaration false bit = bit ≡ None

  -- the probe of an absent `default` stands where none is
  abbrev pub FitsAbsent : Bool → Option Mark → Type 0
  FitsAbsent true mark = mark ≡ None
  FitsAbsent false mark = FitsMark mark

  abbrev mutual
    pub FitsStatement : Statement → Type 0
    FitsStatement (probed.Compound items span) = FitStatements items
    FitsStatement (probed.Label v span mark) = FitsMark mark
    FitsStatement (probed.Declaration declarators span bit) =
        FitDeclarators declarators
        × FitsDeclaration (initializes (map erase_declarator declarators)) bit
    FitsStatement (probed.Null span bit) = Unit {0}
    FitsStatement (probed.EffectStatement effect span bit) = FitsEffect effect
    FitsStatement (probed.If e s keyword span bit) = Fits e × FitsStatement s
    FitsStatement (probed.IfElse e s u keyword span bit) = Fits e × FitsStatement s ×
        FitsStatement u
    FitsStatement (probed.Switch e items keyword span bit absent) =
        Fits e × FitStatements items × FitsAbsent (has_default (erase_statements items)) absent
    FitsStatement (probed.For start test step s keyword span bit) =
        FitsStart start × FitsTest test × FitEffects step × FitsStatement s
    FitsStatement (probed.DoWhile s e keyword span bit) = FitsStatement s × Fits e
    FitsStatement (probed.Break span bit) = Unit {0}
    FitsStatement (probed.Continue span bit) = Unit {0}
    FitsStatement (probed.Return value span bit exit) = FitsReturn value

    pub FitStatements : Statements → Type 0
    FitStatements probed.no_statements = Unit {0}
    FitStatements (probed.statements s rest) = FitsStatement s × FitStatements rest

abbrev pub FitFunctions : List Function → Type 0
FitFunctions [] = Unit {0}
FitFunctions (f ∷ rest) = FitStatements f.registers f.body × FitFunctions rest

pub record IsWellFormed (tree : Tree) : Type 0 where
  pub sound : IsSound (erase tree.program)
  pub probes : FitFunctions tree.program.functions
