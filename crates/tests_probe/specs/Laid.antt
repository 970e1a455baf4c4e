-- The worked programs, laid out: each object after the one before it. The plain run does not look
-- at where objects begin, the run of an instrumented program does.
use Rattle.std.specs.Prelude.{ℕ, ◌+◌, List, [], ◌∷◌, map, slice_get, Option, Some, None, option_map}
use Rattle.mc_typed.specs.declared.expressions.Slot.{Slot}
use Rattle.mc_typed.specs.Tree.{Object, StaticObject}
use Rattle.mc_typed.specs.Tree as t

abbrev pub laid_objects : ℕ → List Object → List Object
laid_objects from [] = []
laid_objects from (o ∷ rest) =
    record { object_type = o.object_type; cells = o.cells; start = from }
    ∷ laid_objects (from + o.cells) rest

abbrev pub laid_statics : ℕ → List StaticObject → List StaticObject
laid_statics from [] = []
laid_statics from (o ∷ rest) =
    record {
      object = record { object_type = o.object.object_type; cells = o.object.cells; start = from };
      initial = o.initial;
    } ∷ laid_statics (from + o.object.cells) rest

abbrev pub start_of : Option Object → ℕ
start_of None = 0
start_of (Some o) = o.start

abbrev pub located : List Object → Slot → Slot
located objects slot =
    record { object = slot.object; start = start_of (slice_get objects slot.object) }

module _ (static local : Slot → Slot) where
  abbrev mutual
    pub laid_place : t.Place → t.Place
    laid_place (t.Local slot span) = t.Local (local slot) span
    laid_place (t.Static slot span) = t.Static (static slot) span
    laid_place (t.Parameter array stride index span) =
        t.Parameter array stride (laid_expression index) span
    laid_place (t.Item array n stride index span) =
        t.Item (laid_place array) n stride (laid_expression index) span
    laid_place (t.Member structure i offset span) = t.Member (laid_place structure) i offset span

    pub laid_expression : t.Expression → t.Expression
    laid_expression (t.Constant v a span) = t.Constant v a span
    laid_expression (t.Read place a) = t.Read (laid_place place) a
    laid_expression (t.Unary operator a e span) = t.Unary operator a (laid_expression e) span
    laid_expression (t.Convert a written e span) = t.Convert a written (laid_expression e) span
    laid_expression (t.Not e span) = t.Not (laid_expression e) span
    laid_expression (t.Binary operator a e f span) =
        t.Binary operator a (laid_expression e) (laid_expression f) span
    laid_expression (t.Logic operator e f span) =
        t.Logic operator (laid_expression e) (laid_expression f) span
    laid_expression (t.Choice e f g a span) =
        t.Choice (laid_expression e) (laid_expression f) (laid_expression g) a span
    laid_expression (t.Call k a) = t.Call (laid_call k) a
    laid_expression (t.Input span) = t.Input span

    pub laid_structure : t.StructureValue → t.StructureValue
    laid_structure (t.Stored place) = t.Stored (laid_place place)
    laid_structure (t.Returned k) = t.Returned (laid_call k)

    pub laid_call : t.FunctionCall → t.FunctionCall
    laid_call (t.call f given result span) =
        t.call f (laid_arguments given) (option_map local result) span

    pub laid_argument : t.Argument → t.Argument
    laid_argument (t.NumberArgument e) = t.NumberArgument (laid_expression e)
    laid_argument (t.StructureArgument value copy) =
        t.StructureArgument (laid_structure value) (local copy)
    laid_argument (t.ArrayArgument place n) = t.ArrayArgument (laid_place place) n
    laid_argument (t.AgainArgument array span) = t.AgainArgument array span

    pub laid_arguments : t.Arguments → t.Arguments
    laid_arguments t.no_arguments = t.no_arguments
    laid_arguments (t.arguments a rest) = t.arguments (laid_argument a) (laid_arguments rest)

  abbrev pub laid_effect : t.Effect → t.Effect
  laid_effect (t.Assign target a e span) =
      t.Assign (laid_place target) a (laid_expression e) span
  laid_effect (t.Update target a operator common e span) =
      t.Update (laid_place target) a operator common (laid_expression e) span
  laid_effect (t.Copy target value n span) =
      t.Copy (laid_place target) (laid_structure value) n span
  laid_effect (t.NumberEffect e whole) = t.NumberEffect (laid_expression e) whole
  laid_effect (t.StructureEffect value whole) = t.StructureEffect (laid_structure value) whole
  laid_effect (t.CallEffect k) = t.CallEffect (laid_call k)
  laid_effect (t.Output e span) = t.Output (laid_expression e) span
  laid_effect (t.ChoiceEffect e a b span) =
      t.ChoiceEffect (laid_expression e) (laid_effect a) (laid_effect b) span
  laid_effect (t.Discard a span) = t.Discard (laid_effect a) span

  abbrev mutual
    pub laid_initializer : t.Initializer → t.Initializer
    laid_initializer (t.NumberInitializer e) = t.NumberInitializer (laid_expression e)
    laid_initializer (t.StructureInitializer value n) =
        t.StructureInitializer (laid_structure value) n
    laid_initializer (t.ListInitializer items n) = t.ListInitializer (laid_initializers items) n
    laid_initializer (t.ZeroInitializer e n) = t.ZeroInitializer (laid_expression e) n

    pub laid_initializers : t.Initializers → t.Initializers
    laid_initializers t.no_initializers = t.no_initializers
    laid_initializers (t.initializers i rest) =
        t.initializers (laid_initializer i) (laid_initializers rest)

  abbrev pub laid_declarator : t.Declarator → t.Declarator
  laid_declarator d =
      record { slot = local d.slot; cells = d.cells; value = option_map laid_initializer d.value }

  abbrev pub laid_start : t.ForStart → t.ForStart
  laid_start (t.StartEffects effects) = t.StartEffects (map laid_effect effects)
  laid_start (t.StartDeclaration declarators) =
      t.StartDeclaration (map laid_declarator declarators)

  abbrev pub laid_return : t.ReturnValue → t.ReturnValue
  laid_return t.ReturnNothing = t.ReturnNothing
  laid_return (t.ReturnNumber e) = t.ReturnNumber (laid_expression e)
  laid_return (t.ReturnStructure value n) = t.ReturnStructure (laid_structure value) n

  abbrev mutual
    pub laid_statement : t.Statement → t.Statement
    laid_statement (t.Compound items span) = t.Compound (laid_statements items) span
    laid_statement (t.Label v span) = t.Label v span
    laid_statement (t.Declaration declarators span) =
        t.Declaration (map laid_declarator declarators) span
    laid_statement (t.Null span) = t.Null span
    laid_statement (t.EffectStatement effect span) = t.EffectStatement (laid_effect effect) span
    laid_statement (t.If e s keyword span) =
        t.If (laid_expression e) (laid_statement s) keyword span
    laid_statement (t.IfElse e s u keyword span) =
        t.IfElse (laid_expression e) (laid_statement s) (laid_statement u) keyword span
    laid_statement (t.Switch e items keyword span) =
        t.Switch (laid_expression e) (laid_statements items) keyword span
    laid_statement (t.For start test step s keyword span) =
        t.For (laid_start start) (option_map laid_expression test) (map laid_effect step)
        (laid_statement s) keyword span
    laid_statement (t.DoWhile s e keyword span) =
        t.DoWhile (laid_statement s) (laid_expression e) keyword span
    laid_statement (t.Break span) = t.Break span
    laid_statement (t.Continue span) = t.Continue span
    laid_statement (t.Return value span) = t.Return (laid_return value) span

    pub laid_statements : t.Statements → t.Statements
    laid_statements t.no_statements = t.no_statements
    laid_statements (t.statements s rest) =
        t.statements (laid_statement s) (laid_statements rest)

abbrev pub laid_function : List StaticObject → t.Function → t.Function
laid_function statics f =
    let objects = laid_objects 0 f.objects in
    record f {
      objects = objects;
      body = laid_statements (located (map (λ o. o.object) statics)) (located objects) f.body;
    }

abbrev pub laid_out : t.Program → t.Program
laid_out p =
    let statics = laid_statics 0 p.statics in
    record p { functions = map (laid_function statics) p.functions; statics = statics }
