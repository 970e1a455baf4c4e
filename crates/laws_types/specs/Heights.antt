-- How high typed bodies are, by the rules of docs/LANGUAGE.md, A run: each part of each node the
-- highest of its node once. The numbers were counted by hand.
use Rattle.std.specs.Prelude.{◌≡◌, ℕ, zero, suc, pos, true, false, List, [], ◌∷◌, map, Option, Some, None}
use Rattle.mc_value.specs.declared.int_type.IntType.TheVariants.{Int}
use Rattle.mc_value.specs.declared.operators.BinOp.TheVariants.{Add}
use Rattle.mc_value.specs.declared.operators.UnOp.TheVariants.{Minus}
use Rattle.mc_typed.specs.declared.operators.Operator.TheVariants.{Binary}
use Rattle.mc_typed.specs.declared.operators.LogicOperator.TheVariants.{And}
use Rattle.mc_typed.specs.declared.expressions.Slot.{Slot}
use Rattle.mc_typed.specs.Tree.{Place, Expression, FunctionCall, Argument, Arguments, Effect, Initializer, Initializers, Declarator, Statement, Statements}
use Rattle.mc_typed.specs.Tree as typed
use Rattle.mc_typed.specs.Levels.{levels_of}
use Rattle.laws_types.specs.Written.{here}

-- ---- expressions of each height: 7 has 1, -7 has 2, and so on

abbrev pub high : ℕ → Expression
high zero = typed.Constant (pos 7) Int here
high (suc n) = typed.Unary Minus Int (high n) here

-- an expression with two levels, and one with five
abbrev pub low : Expression
low = high 1

abbrev pub top : Expression
top = high 4

-- ---- places and structures: a name has a level, `t[-7]` has three, `t[- .. 7]` six

abbrev pub slot : Slot
slot = record { object = 0; start = 0 }

abbrev pub name : Place
name = typed.Local slot here

abbrev pub item : Place → Expression → Place
item place e = typed.Item place 9 1 e here

abbrev pub top_place : Place
top_place = item name top

abbrev pub arguments_of : List Argument → Arguments
arguments_of [] = typed.no_arguments
arguments_of (a ∷ rest) = typed.arguments a (arguments_of rest)

abbrev pub call_of : List Argument → FunctionCall
call_of given = typed.call 0 (arguments_of given) None here

abbrev pub number : Expression → Argument
number e = typed.NumberArgument e

-- ---- statements in short

abbrev pub items : List Statement → Statements
items [] = typed.no_statements
items (s ∷ rest) = typed.statements s (items rest)

-- the levels of a function with this body
abbrev pub levels : List Statement → ℕ
levels body = levels_of (record {
  name = [];
  name_span = here;
  parameters = [];
  result = typed.NoResult;
  objects = [];
  body = items body;
  closing = here;
})

abbrev pub does : Effect → Statement
does e = typed.EffectStatement e here

-- The body and the statement take two levels.
abbrev pub of_effect : Effect → ℕ
of_effect e = levels (does e ∷ [])

abbrev pub of_expression : Expression → ℕ
of_expression e = of_effect (typed.NumberEffect e true)

abbrev pub read : Place → Expression
read place = typed.Read place Int

-- ---- expressions

abbrev pub Expressions : Type 0
Expressions =
    map of_expression (high 0 ∷ low ∷ top ∷ typed.Input here ∷ read name ∷ read (typed.Static slot here) ∷ [])
    ≡ 3 ∷ 4 ∷ 7 ∷ 3 ∷ 3 ∷ 3 ∷ []

-- each operand the highest once, and a conversion that C implies is no level
abbrev pub Operands : Type 0
Operands =
    map of_expression (
    typed.Convert Int true top here ∷ typed.Convert Int false top here ∷ typed.Not top here
    ∷ typed.Binary (Binary Add) Int top low here ∷ typed.Binary (Binary Add) Int low top here
    ∷ typed.Logic And top low here ∷ typed.Logic And low top here
    ∷ typed.Choice top low low Int here ∷ typed.Choice low top low Int here ∷ typed.Choice low low top Int here
    ∷ [])
    ≡ 8 ∷ 7 ∷ 8 ∷ 8 ∷ 8 ∷ 8 ∷ 8 ∷ 8 ∷ 8 ∷ 8 ∷ []

abbrev pub Places : Type 0
Places =
    map of_expression (map read (
    typed.Parameter 0 1 (high 0) here ∷ typed.Parameter 0 1 top here
    ∷ item name (high 0) ∷ item name top ∷ item top_place low
    ∷ typed.Member name 0 0 here ∷ typed.Member top_place 0 0 here ∷ []))
    ≡ 4 ∷ 8 ∷ 4 ∷ 8 ∷ 9 ∷ 4 ∷ 9 ∷ []

-- arguments stand beside each other; a structure or an array is as high as its place
abbrev pub Calls : Type 0
Calls =
    map (λ given. of_expression (typed.Call (call_of given) Int)) (
    []
    ∷ (number top ∷ number low ∷ number low ∷ [])
    ∷ (number low ∷ number top ∷ number low ∷ [])
    ∷ (number low ∷ number low ∷ number top ∷ [])
    ∷ (typed.StructureArgument (typed.Stored top_place) slot ∷ [])
    ∷ (typed.StructureArgument (typed.Returned (call_of (number top ∷ []))) slot ∷ [])
    ∷ (typed.ArrayArgument top_place 9 ∷ [])
    ∷ (typed.AgainArgument 0 here ∷ []) ∷ [])
    ≡ 3 ∷ 8 ∷ 8 ∷ 8 ∷ 9 ∷ 9 ∷ 9 ∷ 4 ∷ []

-- ---- effects

abbrev pub Effects : Type 0
Effects =
    map of_effect (
    typed.Assign top_place Int low here ∷ typed.Assign name Int top here
    ∷ typed.Update top_place Int (Binary Add) Int low here
    ∷ typed.Update name Int (Binary Add) Int top here
    ∷ typed.Copy top_place (typed.Stored name) 2 here ∷ typed.Copy name (typed.Stored top_place) 2 here
    ∷ typed.StructureEffect (typed.Stored top_place) true
    ∷ typed.CallEffect (call_of (number top ∷ []))
    ∷ typed.Output top here
    ∷ typed.Discard (typed.NumberEffect top true) here
    ∷ typed.ChoiceEffect top (typed.CallEffect (call_of [])) (typed.CallEffect (call_of [])) here
    ∷ typed.ChoiceEffect low (typed.CallEffect (call_of (number top ∷ []))) (typed.CallEffect (call_of [])) here
    ∷ typed.ChoiceEffect low (typed.CallEffect (call_of [])) (typed.CallEffect (call_of (number top ∷ []))) here
    ∷ [])
    ≡ 9 ∷ 8 ∷ 9 ∷ 8 ∷ 9 ∷ 9 ∷ 8 ∷ 8 ∷ 8 ∷ 8 ∷ 8 ∷ 9 ∷ 9 ∷ []

-- ---- declarations: a list is no level

abbrev pub number_item : Expression → Initializer
number_item e = typed.NumberInitializer e

abbrev pub list : List Initializer → Initializers
list [] = typed.no_initializers
list (i ∷ rest) = typed.initializers i (list rest)

abbrev pub declared : Option Initializer → Declarator
declared value = record { slot = slot; cells = 1; value = value }

abbrev pub Declarations : Type 0
Declarations =
    map (λ ds. levels (typed.Declaration ds here ∷ [])) (
    []
    ∷ (declared None ∷ [])
    ∷ (declared (Some (number_item top)) ∷ [])
    ∷ (declared (Some (number_item top)) ∷ declared (Some (number_item low)) ∷ [])
    ∷ (declared (Some (number_item low)) ∷ declared (Some (number_item top)) ∷ [])
    ∷ (declared (Some (typed.StructureInitializer (typed.Stored top_place) 2)) ∷ [])
    ∷ (declared (Some (typed.ZeroInitializer top 2)) ∷ [])
    ∷ (declared (Some (typed.ListInitializer (list (number_item low ∷ number_item top ∷ [])) 2)) ∷ [])
    ∷ (declared (Some (typed.ListInitializer (list (typed.ListInitializer
    (list (number_item top ∷ number_item low ∷ [])) 2 ∷ number_item low ∷ [])) 4)) ∷ []) ∷ [])
    ≡ 2 ∷ 2 ∷ 7 ∷ 7 ∷ 7 ∷ 8 ∷ 7 ∷ 7 ∷ 7 ∷ []

-- ---- statements

abbrev pub null : Statement
null = typed.Null here

-- {{{;}}} has four levels
abbrev pub deep : Statement
deep = typed.Compound (items (typed.Compound (items (typed.Compound (items (null ∷ [])) here ∷ [])) here ∷ [])) here

abbrev pub for : typed.ForStart → Option Expression → List Effect → Statement → Statement
for start test step s = typed.For start test step s here here

abbrev pub clause : Expression → Effect
clause e = typed.Assign name Int e here

abbrev pub nowhere : typed.ForStart
nowhere = typed.StartEffects []

abbrev pub Simple : Type 0
Simple =
    map (λ s. levels (s ∷ [])) (
    null ∷ typed.Break here ∷ typed.Continue here ∷ typed.Label (Some (pos 1)) here
    ∷ typed.Return typed.ReturnNothing here ∷ typed.Return (typed.ReturnNumber top) here
    ∷ typed.Return (typed.ReturnStructure (typed.Stored top_place) 2) here
    ∷ typed.Compound typed.no_statements here ∷ deep ∷ [])
    ≡ 2 ∷ 2 ∷ 2 ∷ 1 ∷ 2 ∷ 7 ∷ 8 ∷ 2 ∷ 5 ∷ []

abbrev pub Branches : Type 0
Branches =
    map (λ s. levels (s ∷ [])) (
    typed.If top null here here ∷ typed.If low deep here here
    ∷ typed.IfElse top null null here here ∷ typed.IfElse low deep null here here
    ∷ typed.IfElse low null deep here here
    ∷ typed.Switch top typed.no_statements here here
    ∷ typed.Switch low (items (deep ∷ null ∷ [])) here here
    ∷ typed.Switch low (items (null ∷ deep ∷ [])) here here ∷ [])
    ≡ 7 ∷ 6 ∷ 7 ∷ 6 ∷ 6 ∷ 7 ∷ 7 ∷ 7 ∷ []

abbrev pub Loops : Type 0
Loops =
    map (λ s. levels (s ∷ [])) (
    for nowhere None [] null ∷ for nowhere None [] deep
    ∷ for (typed.StartEffects (clause top ∷ clause low ∷ [])) (Some low) (clause low ∷ []) null
    ∷ for (typed.StartEffects (clause low ∷ clause top ∷ [])) (Some low) (clause low ∷ []) null
    ∷ for (typed.StartDeclaration (declared (Some (number_item top)) ∷ [])) (Some low) [] null
    ∷ for (typed.StartDeclaration []) None [] (typed.Break here)
    ∷ for nowhere (Some top) (clause low ∷ []) null
    ∷ for nowhere (Some low) (clause top ∷ clause low ∷ []) null
    ∷ for nowhere (Some low) (clause low ∷ clause top ∷ []) null
    ∷ typed.DoWhile deep low here here ∷ typed.DoWhile null top here here ∷ [])
    ≡ 3 ∷ 6 ∷ 8 ∷ 8 ∷ 8 ∷ 3 ∷ 7 ∷ 8 ∷ 8 ∷ 6 ∷ 7 ∷ []

-- the first, the middle one and the last of three statements
abbrev pub Sequences : Type 0
Sequences =
    map levels ([] ∷ (deep ∷ null ∷ null ∷ []) ∷ (null ∷ deep ∷ null ∷ []) ∷ (null ∷ null ∷ deep ∷ [])
    ∷ []) ≡ 1 ∷ 5 ∷ 5 ∷ 5 ∷ []

abbrev pub ExpressionsHaveLevels : Type 0
ExpressionsHaveLevels = Expressions × Operands × Places × Calls

abbrev pub StatementsHaveLevels : Type 0
StatementsHaveLevels = Effects × Declarations × Simple × Branches × Loops × Sequences
