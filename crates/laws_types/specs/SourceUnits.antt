-- What a typed program has of its source, from initializers to whole units.
use Rattle.std.specs.Prelude.{◌≡◌, ℕ, ◌+◌, ◌-◌, min, ℤ, Bool, true, false, List, [], ◌∷◌, Option, Some, None}
use Rattle.mc_span.specs.declared.span.Span.{Span}
use Rattle.mc_tree.specs.declared.declarations.specifier_word.SpecifierWord.{SpecifierWord}
use Rattle.mc_tree.specs.declared.declarations.specifier_word.SpecifierWord.TheVariants as specifier_word
use Rattle.mc_tree.specs.Tree.{Name, Expression, Expressions, ArrayLengths, Parameters, Specifiers, InitDeclarator, Declaration, BlockItems, Item}
use Rattle.mc_tree.specs.Tree as tree
use Rattle.mc_value.specs.declared.int_type.IntType.{IntType}
use Rattle.mc_value.specs.Conversions.{converted}
use Rattle.mc_typed.specs.Constants.{constant_value}
use Rattle.mc_typed.specs.Tree.{StructureValue, Effect, Declarator, Statement, Statements, Function, Program}
use Rattle.mc_typed.specs.Tree as typed
use Rattle.mc_grammar.specs.WordSets.{some_word}
use Rattle.types_rules.specs.Scopes.{Scope}
use Rattle.types_rules.specs.Declarations.{judge_declaration}
use Rattle.types_rules.specs.Typing.{typing_of}
use Rattle.laws_types.specs.Source.{IsNumberOf, IsOperandOf, IsStructureOf, IsEffectOf}

-- ---- initializers (C17 6.7.9)

-- A scalar may stand in braces; a list `{E}` may set a whole object to 0.
mutual
  pub data IsInitializerOf : tree.Initializer → typed.Initializer → Type 0 where
    number_initial : {a : Expression} {e : typed.Expression}
        → IsOperandOf a e → IsInitializerOf (tree.Single a) (typed.NumberInitializer e)
    structure_initial : {a : Expression} {value : StructureValue} {n : ℕ}
        → IsStructureOf a value
        → IsInitializerOf (tree.Single a) (typed.StructureInitializer value n)
    list_initial : {items : tree.Initializers} {all : typed.Initializers} {n : ℕ} {span : Span}
        → AreInitializersOf items all
        → IsInitializerOf (tree.Braced items span) (typed.ListInitializer all n)
    in_braces : {items : tree.Initializers} {i : typed.Initializer} {span : Span}
        → AreInitializersOf items (typed.initializers i typed.no_initializers)
        → IsInitializerOf (tree.Braced items span) i
    zero_initial : {a : Expression} {e : typed.Expression} {n : ℕ} {span : Span}
        → IsNumberOf a e
        → IsInitializerOf
        (tree.Braced (tree.initializers (tree.Single a) tree.no_initializers) span)
        (typed.ZeroInitializer e n)

  pub data AreInitializersOf : tree.Initializers → typed.Initializers → Type 0 where
    no_initials : AreInitializersOf tree.no_initializers typed.no_initializers
    initials : {one : tree.Initializer} {rest : tree.Initializers} {i : typed.Initializer}
        {all : typed.Initializers}
        → IsInitializerOf one i → AreInitializersOf rest all
        → AreInitializersOf (tree.initializers one rest) (typed.initializers i all)

-- ---- declarations (C17 6.7)

-- Objects with automatic storage duration are made in the order of their declarators; functions
-- that are declared among them are none.
pub data AreObjectsOf : List InitDeclarator → List Declarator → Type 0 where
  no_objects : AreObjectsOf [] []
  object_bare : {stars : ℕ} {name : Name} {lengths : ArrayLengths} {span : Span} {d : Declarator}
      {rest : List InitDeclarator} {all : List Declarator}
      → d.value ≡ None → AreObjectsOf rest all
      → AreObjectsOf (tree.bare (tree.object stars name lengths span) ∷ rest) (d ∷ all)
  object_initialized : {stars : ℕ} {name : Name} {lengths : ArrayLengths} {span : Span}
      {value : tree.Initializer} {i : typed.Initializer} {d : Declarator}
      {rest : List InitDeclarator} {all : List Declarator}
      → IsInitializerOf value i → d.value ≡ Some i → AreObjectsOf rest all
      → AreObjectsOf (tree.initialized (tree.object stars name lengths span) value ∷ rest) (d ∷ all)
  function_bare : {stars : ℕ} {name : Name} {given : Parameters} {span : Span}
      {rest : List InitDeclarator} {all : List Declarator}
      → AreObjectsOf rest all
      → AreObjectsOf (tree.bare (tree.function stars name given span) ∷ rest) all
  function_initialized : {stars : ℕ} {name : Name} {given : Parameters} {span : Span}
      {value : tree.Initializer} {rest : List InitDeclarator} {all : List Declarator}
      → AreObjectsOf rest all
      → AreObjectsOf (tree.initialized (tree.function stars name given span) value ∷ rest) all

-- with such a word a declaration makes no object with automatic storage duration (C17 6.2.4p3, p5,
-- 6.7.8p3)
abbrev pub keeps_apart : SpecifierWord → Bool
keeps_apart specifier_word.Static = true
keeps_apart specifier_word.Typedef = true
keeps_apart _ = false

-- a declaration of objects with static storage duration and one of typedef names make none
pub data AreDeclaredBy : Declaration → List Declarator → Type 0 where
  kept_apart : {d : Declaration} → AreDeclaredBy d []
  automatic : {words : Specifiers} {ds : List InitDeclarator} {all : List Declarator} {span : Span}
      → some_word keeps_apart words ≡ false → AreObjectsOf ds all
      → AreDeclaredBy (tree.declaration words ds span) all

abbrev pub span_of_declaration : Declaration → Span
span_of_declaration (tree.declaration words ds span) = span

-- ---- statements (C17 6.8)

abbrev pub alone : Statement → Statements
alone s = typed.statements s typed.no_statements

-- the word with which a statement begins, of so many bytes
abbrev pub word : ℕ → Span → Span
word size span = record { start = span.start; end = min (span.start + size) span.end }

abbrev pub joined : Statements → Statements → Statements
joined typed.no_statements more = more
joined (typed.statements s rest) more = typed.statements s (joined rest more)

-- the clauses of a `for`
pub data AreClausesOf : Expressions → List Effect → Type 0 where
  no_clauses : AreClausesOf tree.no_expressions []
  clauses : {a : Expression} {rest : Expressions} {x : Effect} {all : List Effect}
      → IsEffectOf a x → AreClausesOf rest all
      → AreClausesOf (tree.expressions a rest) (x ∷ all)

pub data ArePartOf : Option Expression → List Effect → Type 0 where
  no_part : ArePartOf None []
  one_clause : {a : Expression} {x : Effect} → IsEffectOf a x → ArePartOf (Some a) (x ∷ [])
  more_clauses : {all : Expressions} {xs : List Effect} {span : Span}
      → AreClausesOf all xs → ArePartOf (Some (tree.Comma all span)) xs

pub data IsStartOf : tree.ForStart → typed.ForStart → Type 0 where
  start_declaration : {d : Declaration} {all : List Declarator}
      → AreDeclaredBy d all → IsStartOf (tree.StartsLocal d) (typed.StartDeclaration all)
  start_clauses : {a : Option Expression} {all : List Effect}
      → ArePartOf a all → IsStartOf (tree.StartsExpression a) (typed.StartEffects all)

pub data IsTestOf : Option Expression → Option typed.Expression → Type 0 where
  no_test : IsTestOf None None
  one_test : {a : Expression} {e : typed.Expression} → IsNumberOf a e → IsTestOf (Some a) (Some e)

pub data IsReturnOf : Option Expression → typed.ReturnValue → Type 0 where
  return_nothing : IsReturnOf None typed.ReturnNothing
  return_number : {a : Expression} {e : typed.Expression}
      → IsOperandOf a e → IsReturnOf (Some a) (typed.ReturnNumber e)
  return_structure : {a : Expression} {value : StructureValue} {n : ℕ}
      → IsStructureOf a value → IsReturnOf (Some a) (typed.ReturnStructure value n)

-- A statement, as a list of one, or of more where labels stand before it.
mutual
  pub data AreStatementsOf : tree.Statement → Statements → Type 0 where
    compound : {items : BlockItems} {all : Statements} {span : Span}
        → AreItemsOf items all
        → AreStatementsOf (tree.Compound items span) (alone (typed.Compound all span))
    null_statement : {span : Span} → AreStatementsOf (tree.Null span) (alone (typed.Null span))
    effect_statement : {a : Expression} {x : Effect} {span : Span}
        → IsEffectOf a x
        → AreStatementsOf (tree.ExpressionStatement a span) (alone (typed.EffectStatement x span))
    if_statement : {a : Expression} {s : tree.Statement} {e : typed.Expression} {u : Statement}
        {span : Span}
        → IsNumberOf a e → AreStatementsOf s (alone u)
        → AreStatementsOf (tree.If a s span) (alone (typed.If e u (word 2 span) span))
    if_else_statement : {a : Expression} {s other : tree.Statement} {e : typed.Expression}
        {u v : Statement} {span : Span}
        → IsNumberOf a e → AreStatementsOf s (alone u) → AreStatementsOf other (alone v)
        → AreStatementsOf (tree.IfElse a s other span)
        (alone (typed.IfElse e u v (word 2 span) span))
    switch_statement : {a : Expression} {body : tree.Statement} {e : typed.Expression}
        {all : Statements} {at span : Span}
        → IsOperandOf a e → AreStatementsOf body (alone (typed.Compound all at))
        → AreStatementsOf (tree.Switch a body span) (alone (typed.Switch e all (word 6 span) span))
    while_statement : {a : Expression} {s : tree.Statement} {e : typed.Expression} {u : Statement}
        {span : Span}
        → IsNumberOf a e → AreStatementsOf s (alone u)
        → AreStatementsOf (tree.While a s span)
        (alone (typed.For (typed.StartEffects []) (Some e) [] u (word 5 span) span))
    do_statement : {a : Expression} {s : tree.Statement} {e : typed.Expression} {u : Statement}
        {span : Span}
        → AreStatementsOf s (alone u) → IsNumberOf a e
        → AreStatementsOf (tree.DoWhile s a span) (alone (typed.DoWhile u e (word 2 span) span))
    for_statement : {start : tree.ForStart} {a b : Option Expression} {s : tree.Statement}
        {first : typed.ForStart} {e : Option typed.Expression} {step : List Effect} {u : Statement}
        {span : Span}
        → IsStartOf start first → IsTestOf a e → ArePartOf b step → AreStatementsOf s (alone u)
        → AreStatementsOf (tree.For start a b s span)
        (alone (typed.For first e step u (word 3 span) span))
    -- with the value of its expression in the type of the labels
    case_label : {a : Expression} {label span : Span} {s : tree.Statement} {e : typed.Expression}
        {v w : ℤ} {all : Statements} (t : IntType)
        → IsNumberOf a e → constant_value e ≡ Some v → w ≡ converted t v → AreStatementsOf s all
        → AreStatementsOf (tree.Case a label s span)
        (typed.statements (typed.Label (Some w) label) all)
    default_label : {label span : Span} {s : tree.Statement} {all : Statements}
        → AreStatementsOf s all
        → AreStatementsOf (tree.Default label s span)
        (typed.statements (typed.Label None label) all)
    break_statement : {span : Span} → AreStatementsOf (tree.Break span) (alone (typed.Break span))
    continue_statement : {span : Span}
        → AreStatementsOf (tree.Continue span) (alone (typed.Continue span))
    return_statement : {a : Option Expression} {value : typed.ReturnValue} {span : Span}
        → IsReturnOf a value
        → AreStatementsOf (tree.Return a span) (alone (typed.Return value span))

  pub data AreItemsOf : BlockItems → Statements → Type 0 where
    no_items : AreItemsOf tree.no_block_items typed.no_statements
    local_item : {d : Declaration} {rest : BlockItems} {ds : List Declarator} {all : Statements}
        → AreDeclaredBy d ds → AreItemsOf rest all
        → AreItemsOf (tree.local d rest)
        (typed.statements (typed.Declaration ds (span_of_declaration d)) all)
    statement_item : {s : tree.Statement} {rest : BlockItems} {some all : Statements}
        → AreStatementsOf s some → AreItemsOf rest all
        → AreItemsOf (tree.statement s rest) (joined some all)

-- ---- units (C17 6.9)

-- its name and body, and where its closing brace stands
pub record IsFunctionOf (name : Name) (body : BlockItems) (span : Span) (f : Function)
    : Type 0 where
  pub named : f.name ≡ name.text
  pub place : f.name_span ≡ name.span
  pub items : AreItemsOf body f.body
  pub closing : f.closing ≡ record { start = span.end - 1; end = span.end }

pub data AreFunctionsOf : List Item → List Function → Type 0 where
  no_functions : AreFunctionsOf [] []
  declared : {d : Declaration} {rest : List Item} {fs : List Function}
      → AreFunctionsOf rest fs → AreFunctionsOf (tree.Declared d ∷ rest) fs
  defined : {words : Specifiers} {stars : ℕ} {name : Name} {given : Parameters} {at span : Span}
      {body : BlockItems} {rest : List Item} {f : Function} {fs : List Function}
      → IsFunctionOf name body span f → AreFunctionsOf rest fs
      → AreFunctionsOf (tree.Defined words (tree.function stars name given at) body span ∷ rest)
      (f ∷ fs)

-- ---- the laws

-- In a block each declaration with neither `static` nor `typedef` makes its objects, and one with
-- either makes none.
abbrev pub DeclarationsMakeObjects : Type 0
DeclarationsMakeObjects =
    (words : Specifiers) (ds : List InitDeclarator) (span : Span) (s : Scope)
    (all : List Declarator)
    → s.is_file ≡ false → (judge_declaration (tree.declaration words ds span) s).value ≡ Some all
    → (some_word keeps_apart words ≡ false → AreObjectsOf ds all)
    × (some_word keeps_apart words ≡ true → all ≡ [])

-- of every unit that has a typed program
abbrev pub ProgramsHaveTheirSource : Type 0
ProgramsHaveTheirSource =
    (items : List Item) (p : Program) → typing_of items ≡ Some p → AreFunctionsOf items p.functions
