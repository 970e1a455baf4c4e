-- The mutants of a program, in their order: decision by decision, as the decisions stand in the
-- text, the outer one first.
use Rattle.std.specs.Prelude.{◌≡◌, ℕ, ◌-◌, ◌≤◌, Bool, true, false, List, [], ◌∷◌, ◌++◌, length, slice_get, Option, Some, None, option_map}
use Rattle.mc_typed.specs.Tree.{Place, Expression, StructureValue, FunctionCall, Argument, Arguments, Effect, Initializer, Initializers, Declarator, ForStart, ReturnValue, Statement, Statements, Function, Program}
use Rattle.mc_typed.specs.Tree as typed
use Rattle.decide_rules.specs.declared.role.Role.{Role}
use Rattle.decide_rules.specs.declared.role.Role.TheVariants.{Controlling, Inner, Plain}
use Rattle.decide_rules.specs.declared.operators.FullOperator.{FullOperator}
use Rattle.decide_rules.specs.Nodes.{full_operator}
use Rattle.decide_rules.specs.Nodes as nodes
use Rattle.decide_rules.specs.Roots.{is_root}
use Rattle.mc_mutate.specs.declared.changes.Change.{Change}
use Rattle.mc_mutate.specs.Changes.{Mutant, within, of_decision}

-- A part of a program has the mutants of the decisions in it. Each of them changes one of its parts
-- and leaves the others as they are.

-- ---- expressions

abbrev pub own : Bool → Expression → List (Mutant Expression)
own true e = of_decision e
own false e = []

-- the mutants of an expression that stands so in what is around it: its own where it is the root of
-- a decision, and then those of the decisions inside
abbrev pub all : Role → Expression → List (Mutant Expression) → List (Mutant Expression)
all role e others = own (is_root role (nodes.expression e)) e ++ others

-- how the operands of an operator stand that evaluates both of them
abbrev pub under : Option FullOperator → Role
under (Some operator) = Inner
under None = Plain

abbrev mutual
  pub in_place : Place → List (Mutant Place)
  in_place (typed.Local slot span) = []
  in_place (typed.Static slot span) = []
  in_place (typed.Parameter array stride index span) =
      within (λ x. typed.Parameter array stride x span) (all Plain index (inside index))
  in_place (typed.Item array n stride index span) =
      within (λ x. typed.Item x n stride index span) (in_place array)
      ++ within (λ x. typed.Item array n stride x span) (all Plain index (inside index))
  in_place (typed.Member structure i offset span) =
      within (λ x. typed.Member x i offset span) (in_place structure)

  -- those of the decisions inside an expression
  pub inside : Expression → List (Mutant Expression)
  inside (typed.Constant v a span) = []
  inside (typed.Read place a) = within (λ x. typed.Read x a) (in_place place)
  inside (typed.Unary operator a e span) =
      within (λ x. typed.Unary operator a x span) (all Plain e (inside e))
  inside (typed.Convert a written e span) =
      within (λ x. typed.Convert a written x span) (all Plain e (inside e))
  inside (typed.Not e span) = within (λ x. typed.Not x span) (all Inner e (inside e))
  inside (typed.Binary operator a e f span) =
      within (λ x. typed.Binary operator a x f span)
      (all (under (full_operator operator e f)) e (inside e))
      ++ within (λ x. typed.Binary operator a e x span)
      (all (under (full_operator operator e f)) f (inside f))
  inside (typed.Logic operator e f span) =
      within (λ x. typed.Logic operator x f span) (all Inner e (inside e))
      ++ within (λ x. typed.Logic operator e x span) (all Inner f (inside f))
  inside (typed.Choice e f g a span) =
      within (λ x. typed.Choice x f g a span) (all Controlling e (inside e))
      ++ (within (λ x. typed.Choice e x g a span) (all Plain f (inside f))
      ++ within (λ x. typed.Choice e f x a span) (all Plain g (inside g)))
  inside (typed.Call k a) = within (λ x. typed.Call x a) (in_call k)
  inside (typed.Input span) = []

  pub in_structure : StructureValue → List (Mutant StructureValue)
  in_structure (typed.Stored place) = within typed.Stored (in_place place)
  in_structure (typed.Returned k) = within typed.Returned (in_call k)

  pub in_call : FunctionCall → List (Mutant FunctionCall)
  in_call (typed.call f given result span) =
      within (λ x. typed.call f x result span) (in_arguments given)

  pub in_argument : Argument → List (Mutant Argument)
  in_argument (typed.NumberArgument e) = within typed.NumberArgument (all Plain e (inside e))
  in_argument (typed.StructureArgument value copy) =
      within (λ x. typed.StructureArgument x copy) (in_structure value)
  in_argument (typed.ArrayArgument array n) =
      within (λ x. typed.ArrayArgument x n) (in_place array)
  in_argument (typed.AgainArgument array span) = []

  pub in_arguments : Arguments → List (Mutant Arguments)
  in_arguments typed.no_arguments = []
  in_arguments (typed.arguments a rest) =
      within (λ x. typed.arguments x rest) (in_argument a)
      ++ within (λ x. typed.arguments a x) (in_arguments rest)

abbrev pub in_expression : Role → Expression → List (Mutant Expression)
in_expression role e = all role e (inside e)

-- ---- effects (C17 6.8.3)

abbrev pub in_effect : Effect → List (Mutant Effect)
in_effect (typed.Assign target a e span) =
    within (λ x. typed.Assign x a e span) (in_place target)
    ++ within (λ x. typed.Assign target a x span) (in_expression Plain e)
in_effect (typed.Update target a operator common e span) =
    within (λ x. typed.Update x a operator common e span) (in_place target)
    ++ within (λ x. typed.Update target a operator common x span) (in_expression Plain e)
in_effect (typed.Copy target value n span) =
    within (λ x. typed.Copy x value n span) (in_place target)
    ++ within (λ x. typed.Copy target x n span) (in_structure value)
in_effect (typed.NumberEffect e whole) =
    within (λ x. typed.NumberEffect x whole) (in_expression Plain e)
in_effect (typed.StructureEffect value whole) =
    within (λ x. typed.StructureEffect x whole) (in_structure value)
in_effect (typed.CallEffect k) = within typed.CallEffect (in_call k)
in_effect (typed.Output e span) = within (λ x. typed.Output x span) (in_expression Plain e)
in_effect (typed.ChoiceEffect e a b span) =
    within (λ x. typed.ChoiceEffect x a b span) (in_expression Controlling e)
    ++ (within (λ x. typed.ChoiceEffect e x b span) (in_effect a)
    ++ within (λ x. typed.ChoiceEffect e a x span) (in_effect b))
in_effect (typed.Discard a span) = within (λ x. typed.Discard x span) (in_effect a)

abbrev pub in_effects : List Effect → List (Mutant (List Effect))
in_effects [] = []
in_effects (a ∷ rest) =
    within (λ x. x ∷ rest) (in_effect a) ++ within (λ x. a ∷ x) (in_effects rest)

-- ---- initializers (C17 6.7.9)

abbrev mutual
  pub in_initializer : Initializer → List (Mutant Initializer)
  in_initializer (typed.NumberInitializer e) =
      within typed.NumberInitializer (in_expression Plain e)
  in_initializer (typed.StructureInitializer value n) =
      within (λ x. typed.StructureInitializer x n) (in_structure value)
  in_initializer (typed.ListInitializer items n) =
      within (λ x. typed.ListInitializer x n) (in_initializers items)
  in_initializer (typed.ZeroInitializer e n) =
      within (λ x. typed.ZeroInitializer x n) (in_expression Plain e)

  pub in_initializers : Initializers → List (Mutant Initializers)
  in_initializers typed.no_initializers = []
  in_initializers (typed.initializers i rest) =
      within (λ x. typed.initializers x rest) (in_initializer i)
      ++ within (λ x. typed.initializers i x) (in_initializers rest)

abbrev pub in_initial : Option Initializer → List (Mutant (Option Initializer))
in_initial None = []
in_initial (Some i) = within Some (in_initializer i)

abbrev pub in_declarators : List Declarator → List (Mutant (List Declarator))
in_declarators [] = []
in_declarators (d ∷ rest) =
    within (λ x. record d { value = x } ∷ rest) (in_initial d.value)
    ++ within (λ x. d ∷ x) (in_declarators rest)

-- ---- statements (C17 6.8)

abbrev pub in_start : ForStart → List (Mutant ForStart)
in_start (typed.StartEffects clauses) = within typed.StartEffects (in_effects clauses)
in_start (typed.StartDeclaration declared) =
    within typed.StartDeclaration (in_declarators declared)

abbrev pub in_optional : Option Expression → List (Mutant (Option Expression))
in_optional None = []
in_optional (Some e) = within Some (in_expression Controlling e)

abbrev pub in_return : ReturnValue → List (Mutant ReturnValue)
in_return typed.ReturnNothing = []
in_return (typed.ReturnNumber e) = within typed.ReturnNumber (in_expression Plain e)
in_return (typed.ReturnStructure value n) =
    within (λ x. typed.ReturnStructure x n) (in_structure value)

abbrev mutual
  pub in_statement : Statement → List (Mutant Statement)
  in_statement (typed.Compound items span) =
      within (λ x. typed.Compound x span) (in_statements items)
  in_statement (typed.Label value span) = []
  in_statement (typed.Declaration declared span) =
      within (λ x. typed.Declaration x span) (in_declarators declared)
  in_statement (typed.Null span) = []
  in_statement (typed.EffectStatement effect span) =
      within (λ x. typed.EffectStatement x span) (in_effect effect)
  in_statement (typed.If e s keyword span) =
      within (λ x. typed.If x s keyword span) (in_expression Controlling e)
      ++ within (λ x. typed.If e x keyword span) (in_statement s)
  in_statement (typed.IfElse e s u keyword span) =
      within (λ x. typed.IfElse x s u keyword span) (in_expression Controlling e)
      ++ (within (λ x. typed.IfElse e x u keyword span) (in_statement s)
      ++ within (λ x. typed.IfElse e s x keyword span) (in_statement u))
  in_statement (typed.Switch e items keyword span) =
      within (λ x. typed.Switch x items keyword span) (in_expression Plain e)
      ++ within (λ x. typed.Switch e x keyword span) (in_statements items)
  in_statement (typed.For first e step s keyword span) =
      within (λ x. typed.For x e step s keyword span) (in_start first)
      ++ (within (λ x. typed.For first x step s keyword span) (in_optional e)
      ++ (within (λ x. typed.For first e x s keyword span) (in_effects step)
      ++ within (λ x. typed.For first e step x keyword span) (in_statement s)))
  in_statement (typed.DoWhile s e keyword span) =
      within (λ x. typed.DoWhile x e keyword span) (in_statement s)
      ++ within (λ x. typed.DoWhile s x keyword span) (in_expression Controlling e)
  in_statement (typed.Break span) = []
  in_statement (typed.Continue span) = []
  in_statement (typed.Return value span) = within (λ x. typed.Return x span) (in_return value)

  pub in_statements : Statements → List (Mutant Statements)
  in_statements typed.no_statements = []
  in_statements (typed.statements s rest) =
      within (λ x. typed.statements x rest) (in_statement s)
      ++ within (λ x. typed.statements s x) (in_statements rest)

-- ---- programs

abbrev pub in_functions : List Function → List (Mutant (List Function))
in_functions [] = []
in_functions (f ∷ rest) =
    within (λ x. record f { body = x } ∷ rest) (in_statements f.body)
    ++ within (λ x. f ∷ x) (in_functions rest)

-- the mutants of a program, the one with the number 1 first
abbrev pub mutants : Program → List (Mutant Program)
mutants p = within (λ x. record p { functions = x }) (in_functions p.functions)

abbrev pub count : Program → ℕ
count p = length (mutants p)

-- the mutant with this number, from 1 on
abbrev pub IsMutant : Program → ℕ → Program → Type 0
IsMutant p number q =
    (1 ≤ number) × (option_map (λ m. m.tree) (slice_get (mutants p) (number - 1)) ≡ Some q)

-- what is changed in it
abbrev pub IsChange : Program → ℕ → Change → Type 0
IsChange p number c =
    (1 ≤ number) × (option_map (λ m. m.change) (slice_get (mutants p) (number - 1)) ≡ Some c)
