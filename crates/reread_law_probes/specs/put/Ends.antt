-- The bits that the probes of a tree name, or reach by the paths of a decision: each below a limit.
use Rattle.std.specs.Prelude.{ℕ, ◌<◌, ◌≤◌, List, [], ◌∷◌, Option, Some, None}
use Rattle.mc_typed.specs.declared.probes.Mark.{Mark}
use Rattle.mc_probe.specs.Tree as p
use Rattle.reread_law_rows.specs.inserted.Rows.{row_of_probe}
use Rattle.reread_put_back.specs.Back.{end_round}

module _ (limit : ℕ) where
  abbrev pub EndBit : Option ℕ → Type 0
  EndBit None = Unit {0}
  EndBit (Some bit) = bit < limit

  abbrev pub EndMark : Option Mark → Type 0
  EndMark None = Unit {0}
  EndMark (Some m) = m.bit < limit

  -- ---- expressions

  abbrev mutual
    pub EndPlace : p.Place → Type 0
    EndPlace (p.Local slot span) = Unit {0}
    EndPlace (p.Static slot span) = Unit {0}
    EndPlace (p.Parameter array stride index span) = End index
    EndPlace (p.Item array n stride index span) = EndPlace array × End index
    EndPlace (p.Member structure i offset span) = EndPlace structure

    pub End : p.Expression → Type 0
    End (p.Constant v a span) = Unit {0}
    End (p.Read place a) = EndPlace place
    End (p.Unary operator a e span) = End e
    End (p.Convert a written e span) = End e
    End (p.Not e span) = End e
    End (p.Binary operator a e f span) = End e × End f
    End (p.Logic operator e f span) = End e × End f
    End (p.Choice e f g a span) = End e × End f × End g
    End (p.Call k a) = EndCall k
    End (p.Input span) = Unit {0}
    End (p.Probe q e) = (end_round (row_of_probe q) e ≤ limit) × End e

    pub EndStructure : p.StructureValue → Type 0
    EndStructure (p.Stored place) = EndPlace place
    EndStructure (p.Returned k) = EndCall k

    pub EndCall : p.FunctionCall → Type 0
    EndCall (p.call f given result span) = EndArguments given

    pub EndArgument : p.Argument → Type 0
    EndArgument (p.NumberArgument e) = End e
    EndArgument (p.StructureArgument value copy) = EndStructure value
    EndArgument (p.ArrayArgument place n) = EndPlace place
    EndArgument (p.AgainArgument array span) = Unit {0}

    pub EndArguments : p.Arguments → Type 0
    EndArguments p.no_arguments = Unit {0}
    EndArguments (p.arguments a rest) = EndArgument a × EndArguments rest

  -- ---- effects and initializers

  abbrev pub EndEffect : p.Effect → Type 0
  EndEffect (p.Assign target a e span) = EndPlace target × End e
  EndEffect (p.Update target a operator common e span) = EndPlace target × End e
  EndEffect (p.Copy target value n span) = EndPlace target × EndStructure value
  EndEffect (p.NumberEffect e whole) = End e
  EndEffect (p.StructureEffect value whole) = EndStructure value
  EndEffect (p.CallEffect k) = EndCall k
  EndEffect (p.Output e span) = End e
  EndEffect (p.ChoiceEffect e a b span) = End e × EndEffect a × EndEffect b
  EndEffect (p.Discard a span) = EndEffect a

  abbrev pub EndEffects : List p.Effect → Type 0
  EndEffects [] = Unit {0}
  EndEffects (a ∷ rest) = EndEffect a × EndEffects rest

  abbrev mutual
    pub EndInitializer : p.Initializer → Type 0
    EndInitializer (p.NumberInitializer e) = End e
    EndInitializer (p.StructureInitializer value n) = EndStructure value
    EndInitializer (p.ListInitializer items n) = EndInitializers items
    EndInitializer (p.ZeroInitializer e n) = Unit {0}

    pub EndInitializers : p.Initializers → Type 0
    EndInitializers p.no_initializers = Unit {0}
    EndInitializers (p.initializers i rest) = EndInitializer i × EndInitializers rest

  abbrev pub EndInitial : Option p.Initializer → Type 0
  EndInitial None = Unit {0}
  EndInitial (Some i) = EndInitializer i

  abbrev pub EndDeclarators : List p.Declarator → Type 0
  EndDeclarators [] = Unit {0}
  EndDeclarators (d ∷ rest) = EndInitial d.value × EndDeclarators rest

  -- ---- statements

  abbrev pub EndStart : p.ForStart → Type 0
  EndStart (p.StartEffects effects) = EndEffects effects
  EndStart (p.StartDeclaration declarators) = EndDeclarators declarators

  abbrev pub EndTest : Option p.Expression → Type 0
  EndTest None = Unit {0}
  EndTest (Some e) = End e

  abbrev pub EndValue : p.ReturnValue → Type 0
  EndValue p.ReturnNothing = Unit {0}
  EndValue (p.ReturnNumber e) = End e
  EndValue (p.ReturnStructure value n) = EndStructure value

  abbrev mutual
    pub EndStatement : p.Statement → Type 0
    EndStatement (p.Compound items span) = EndStatements items
    EndStatement (p.Label v span mark) = EndMark mark
    EndStatement (p.Declaration declarators span bit) = EndBit bit × EndDeclarators declarators
    EndStatement (p.Null span bit) = EndBit bit
    EndStatement (p.EffectStatement a span bit) = EndBit bit × EndEffect a
    EndStatement (p.If e s keyword span bit) = EndBit bit × End e × EndStatement s
    EndStatement (p.IfElse e s u keyword span bit) =
        EndBit bit × End e × EndStatement s × EndStatement u
    EndStatement (p.Switch e items keyword span bit absent) =
        EndBit bit × End e × EndStatements items × EndMark absent
    EndStatement (p.For start test step s keyword span bit) =
        EndBit bit × EndStart start × EndTest test × EndEffects step × EndStatement s
    EndStatement (p.DoWhile s e keyword span bit) = EndBit bit × EndStatement s × End e
    EndStatement (p.Break span bit) = EndBit bit
    EndStatement (p.Continue span bit) = EndBit bit
    EndStatement (p.Return value span bit exit) = EndBit bit × EndValue value × EndBit exit

    pub EndStatements : p.Statements → Type 0
    EndStatements p.no_statements = Unit {0}
    EndStatements (p.statements s rest) = EndStatement s × EndStatements rest

  -- ---- functions and programs

  abbrev pub EndFunction : p.Function → Type 0
  EndFunction f = EndBit f.entry × EndStatements f.body × EndBit f.exit

  abbrev pub EndFunctions : List p.Function → Type 0
  EndFunctions [] = Unit {0}
  EndFunctions (f ∷ rest) = EndFunction f × EndFunctions rest

-- each bit of the tree is below this limit
abbrev pub EndsBelow : ℕ → p.Tree → Type 0
EndsBelow limit tree = EndFunctions limit tree.program.functions
