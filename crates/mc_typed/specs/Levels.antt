-- How high the typed body of a function is. The body is at level 1, and each statement or
-- expression inside is one level deeper. A local declaration counts as a statement, a label does
-- not, nor does a conversion that C implies.
use Rattle.std.specs.Prelude.{ℕ, ◌+◌, ◌-◌, ◌^◌, max, min, true, false, List, [], ◌∷◌, Option, Some, None}
use Rattle.mc_typed.specs.Tree.{Place, Expression, StructureValue, FunctionCall, Argument, Arguments, Effect, Initializer, Initializers, Declarator, ForStart, ReturnValue, Statement, Statements, Function}
use Rattle.mc_typed.specs.Tree as typed

-- `deeper` gives the number of one level more.
module _ (deeper : ℕ → ℕ) where
  abbrev mutual
    -- the name of the array that a parameter names is an expression too
    pub height_place : Place → ℕ
    height_place (typed.Local slot span) = 1
    height_place (typed.Static slot span) = 1
    height_place (typed.Parameter array stride index span) = deeper (max 1 (height index))
    height_place (typed.Item array length stride index span) =
        deeper (max (height_place array) (height index))
    height_place (typed.Member structure i offset span) = deeper (height_place structure)

    pub height : Expression → ℕ
    height (typed.Constant v a span) = 1
    height (typed.Read place a) = height_place place
    height (typed.Unary operator a e span) = deeper (height e)
    height (typed.Convert a true e span) = deeper (height e)
    height (typed.Convert a false e span) = height e
    height (typed.Not e span) = deeper (height e)
    height (typed.Binary operator a e f span) = deeper (max (height e) (height f))
    height (typed.Logic operator e f span) = deeper (max (height e) (height f))
    height (typed.Choice e f g a span) = deeper (max (height e) (max (height f) (height g)))
    height (typed.Call k a) = height_call k
    height (typed.Input span) = 1

    pub height_structure : StructureValue → ℕ
    height_structure (typed.Stored place) = height_place place
    height_structure (typed.Returned k) = height_call k

    pub height_call : FunctionCall → ℕ
    height_call (typed.call f given result span) = deeper (height_arguments given)

    pub height_argument : Argument → ℕ
    height_argument (typed.NumberArgument e) = height e
    height_argument (typed.StructureArgument value copy) = height_structure value
    height_argument (typed.ArrayArgument place length) = height_place place
    height_argument (typed.AgainArgument array span) = 1

    pub height_arguments : Arguments → ℕ
    height_arguments typed.no_arguments = 0
    height_arguments (typed.arguments a rest) = max (height_argument a) (height_arguments rest)

  abbrev pub height_effect : Effect → ℕ
  height_effect (typed.Assign target a e span) = deeper (max (height_place target) (height e))
  height_effect (typed.Update target a operator common e span) =
      deeper (max (height_place target) (height e))
  height_effect (typed.Copy target value n span) =
      deeper (max (height_place target) (height_structure value))
  height_effect (typed.NumberEffect e whole) = height e
  height_effect (typed.StructureEffect value whole) = height_structure value
  height_effect (typed.CallEffect k) = height_call k
  height_effect (typed.Output e span) = deeper (height e)
  height_effect (typed.ChoiceEffect e a b span) =
      deeper (max (height e) (max (height_effect a) (height_effect b)))
  height_effect (typed.Discard a span) = deeper (height_effect a)

  abbrev pub height_effects : List Effect → ℕ
  height_effects [] = 0
  height_effects (a ∷ rest) = max (height_effect a) (height_effects rest)

  -- the lists of an initializer are no levels
  abbrev mutual
    pub height_initializer : Initializer → ℕ
    height_initializer (typed.NumberInitializer e) = height e
    height_initializer (typed.StructureInitializer value n) = height_structure value
    height_initializer (typed.ListInitializer items n) = height_initializers items
    height_initializer (typed.ZeroInitializer e n) = height e

    pub height_initializers : Initializers → ℕ
    height_initializers typed.no_initializers = 0
    height_initializers (typed.initializers i rest) =
        max (height_initializer i) (height_initializers rest)

  abbrev pub height_value : Option Initializer → ℕ
  height_value None = 0
  height_value (Some i) = height_initializer i

  abbrev pub height_declarators : List Declarator → ℕ
  height_declarators [] = 0
  height_declarators (d ∷ rest) = max (height_value d.value) (height_declarators rest)

  abbrev pub height_optional : Option Expression → ℕ
  height_optional None = 0
  height_optional (Some e) = height e

  -- a declaration is a level of its own
  abbrev pub height_start : ForStart → ℕ
  height_start (typed.StartEffects effects) = height_effects effects
  height_start (typed.StartDeclaration declarators) = deeper (height_declarators declarators)

  abbrev pub height_return : ReturnValue → ℕ
  height_return typed.ReturnNothing = 0
  height_return (typed.ReturnNumber e) = height e
  height_return (typed.ReturnStructure value n) = height_structure value

  abbrev mutual
    pub height_statement : Statement → ℕ
    height_statement (typed.Compound items span) = deeper (height_statements items)
    height_statement (typed.Label value span) = 0
    height_statement (typed.Declaration declarators span) = deeper (height_declarators declarators)
    height_statement (typed.Null span) = 1
    height_statement (typed.EffectStatement effect span) = deeper (height_effect effect)
    height_statement (typed.If e s keyword span) = deeper (max (height e) (height_statement s))
    height_statement (typed.IfElse e s u keyword span) =
        deeper (max (height e) (max (height_statement s) (height_statement u)))
    height_statement (typed.Switch e items keyword span) =
        deeper (max (height e) (deeper (height_statements items)))
    height_statement (typed.For start test step s keyword span) =
        deeper (max (max (height_start start) (max (height_optional test) (height_effects step)))
        (height_statement s))
    height_statement (typed.DoWhile s e keyword span) = deeper (max (height_statement s) (height e))
    height_statement (typed.Break span) = 1
    height_statement (typed.Continue span) = 1
    height_statement (typed.Return value span) = deeper (height_return value)

    pub height_statements : Statements → ℕ
    height_statements typed.no_statements = 0
    height_statements (typed.statements s rest) = max (height_statement s) (height_statements rest)

abbrev pub one_more : ℕ → ℕ
one_more n = n + 1

-- the levels of an activation of a function
abbrev pub levels_of : Function → ℕ
levels_of f = height_statements one_more f.body + 1

-- a number, or 2^32 - 1 where it is greater
unfoldable pub limited : ℕ → ℕ
limited n = min n (2 ^ 32 - 1)

abbrev pub limited_more : ℕ → ℕ
limited_more n = limited (n + 1)
