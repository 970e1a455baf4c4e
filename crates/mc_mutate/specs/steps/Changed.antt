-- A program with the change at which a search comes to its end, part by part.
use Rattle.std.specs.Prelude.{ℕ, zero, suc, List, [], ◌∷◌, Option, Some, None}
use Rattle.mc_typed.specs.Tree as t
use Rattle.decide_rules.specs.declared.role.Role.{Role}
use Rattle.decide_rules.specs.declared.role.Role.TheVariants.{Controlling, Inner, Plain}
use Rattle.decide_rules.specs.Nodes as n
use Rattle.decide_rules.specs.Roots.{is_root}
use Rattle.mc_mutate.specs.declared.search.sought.Sought.{Sought}
use Rattle.mc_mutate.specs.declared.search.sought.Sought.TheVariants.{Left, Found}
use Rattle.mc_mutate.specs.Changes.{Mutant}
use Rattle.mc_mutate.specs.Mutants.{own, under}
use Rattle.mc_mutate.specs.steps.Search.{inside_parts, searched}

-- the mutant in a list with this number, from 0 on, or the part as it is
abbrev pub at_number : {X : Type 0} → List (Mutant X) → X → ℕ → X
at_number [] x k = x
at_number (m ∷ ms) x zero = m.tree
at_number (m ∷ ms) x (suc k) = at_number ms x k

abbrev pub chosen : {X : Type 0} → List (Mutant X) → X → Sought → X
chosen ms x (Found c) = x
chosen ms x (Left k) = at_number ms x k

-- an expression where its own mutants come first: one of them, or a change inside
abbrev pub settled_at : List (Mutant t.Expression) → ℕ → (Sought → t.Expression) → t.Expression
settled_at [] k inside = inside (Left k)
settled_at (m ∷ ms) zero inside = m.tree
settled_at (m ∷ ms) (suc k) inside = settled_at ms k inside

abbrev pub settled : List (Mutant t.Expression) → Sought → (Sought → t.Expression) → t.Expression
settled ms (Found c) inside = inside (Found c)
settled ms (Left k) inside = settled_at ms k inside

abbrev pub entered : Role → t.Expression → Sought → (Sought → t.Expression) → t.Expression
entered role e s inside = settled (own (is_root role (n.expression e)) e) s inside

abbrev mutual
  pub place_changed : t.Place → Sought → t.Place
  place_changed (t.Local slot span) s = t.Local slot span
  place_changed (t.Static slot span) s = t.Static slot span
  place_changed (t.Parameter array stride index span) s =
      t.Parameter array stride (entered Plain index s (inside_changed index)) span
  place_changed (t.Item array k stride index span) s =
      t.Item (place_changed array s) k stride
      (entered Plain index (searched Plain (n.place array) s) (inside_changed index)) span
  place_changed (t.Member structure i offset span) s =
      t.Member (place_changed structure s) i offset span

  pub inside_changed : t.Expression → Sought → t.Expression
  inside_changed (t.Constant v a span) s = t.Constant v a span
  inside_changed (t.Read place a) s = t.Read (place_changed place s) a
  inside_changed (t.Unary operator a e span) s =
      t.Unary operator a (entered Plain e s (inside_changed e)) span
  inside_changed (t.Convert a written e span) s =
      t.Convert a written (entered Plain e s (inside_changed e)) span
  inside_changed (t.Not e span) s = t.Not (entered Inner e s (inside_changed e)) span
  inside_changed (t.Binary operator a e f span) s =
      t.Binary operator a (entered (under (n.full_operator operator e f)) e s (inside_changed e))
      (entered (under (n.full_operator operator e f)) f
      (searched (under (n.full_operator operator e f)) (n.expression e) s) (inside_changed f)) span
  inside_changed (t.Logic operator e f span) s =
      t.Logic operator (entered Inner e s (inside_changed e))
      (entered Inner f (searched Inner (n.expression e) s) (inside_changed f)) span
  inside_changed (t.Choice e f g a span) s =
      t.Choice (entered Controlling e s (inside_changed e))
      (entered Plain f (searched Controlling (n.expression e) s) (inside_changed f))
      (entered Plain g (searched Plain (n.expression f) (searched Controlling (n.expression e) s))
      (inside_changed g)) a span
  inside_changed (t.Call k a) s = t.Call (call_changed k s) a
  inside_changed (t.Input span) s = t.Input span

  pub structure_changed : t.StructureValue → Sought → t.StructureValue
  structure_changed (t.Stored place) s = t.Stored (place_changed place s)
  structure_changed (t.Returned k) s = t.Returned (call_changed k s)

  pub call_changed : t.FunctionCall → Sought → t.FunctionCall
  call_changed (t.call f given result span) s = t.call f (arguments_changed given s) result span

  pub argument_changed : t.Argument → Sought → t.Argument
  argument_changed (t.NumberArgument e) s = t.NumberArgument (entered Plain e s (inside_changed e))
  argument_changed (t.StructureArgument value copy) s =
      t.StructureArgument (structure_changed value s) copy
  argument_changed (t.ArrayArgument array k) s = t.ArrayArgument (place_changed array s) k
  argument_changed (t.AgainArgument array span) s = t.AgainArgument array span

  pub arguments_changed : t.Arguments → Sought → t.Arguments
  arguments_changed t.no_arguments s = t.no_arguments
  arguments_changed (t.arguments a rest) s =
      t.arguments (argument_changed a s) (arguments_changed rest (searched Plain (n.argument a) s))

abbrev pub effect_changed : t.Effect → Sought → t.Effect
effect_changed (t.Assign target a e span) s =
    t.Assign (place_changed target s) a
    (entered Plain e (searched Plain (n.place target) s) (inside_changed e)) span
effect_changed (t.Update target a operator common e span) s =
    t.Update (place_changed target s) a operator common
    (entered Plain e (searched Plain (n.place target) s) (inside_changed e)) span
effect_changed (t.Copy target value k span) s =
    t.Copy (place_changed target s) (structure_changed value (searched Plain (n.place target) s)) k
    span
effect_changed (t.NumberEffect e whole_) s =
    t.NumberEffect (entered Plain e s (inside_changed e)) whole_
effect_changed (t.StructureEffect value whole_) s =
    t.StructureEffect (structure_changed value s) whole_
effect_changed (t.CallEffect k) s = t.CallEffect (call_changed k s)
effect_changed (t.Output e span) s = t.Output (entered Plain e s (inside_changed e)) span
effect_changed (t.ChoiceEffect e a b span) s =
    t.ChoiceEffect (entered Controlling e s (inside_changed e))
    (effect_changed a (searched Controlling (n.expression e) s))
    (effect_changed b (searched Plain (n.effect a) (searched Controlling (n.expression e) s))) span
effect_changed (t.Discard a span) s = t.Discard (effect_changed a s) span

abbrev pub effects_changed : List t.Effect → Sought → List t.Effect
effects_changed [] s = []
effects_changed (a ∷ rest) s =
    (effect_changed a s) ∷ (effects_changed rest (searched Plain (n.effect a) s))

abbrev mutual
  pub initializer_changed : t.Initializer → Sought → t.Initializer
  initializer_changed (t.NumberInitializer e) s =
      t.NumberInitializer (entered Plain e s (inside_changed e))
  initializer_changed (t.StructureInitializer value k) s =
      t.StructureInitializer (structure_changed value s) k
  initializer_changed (t.ListInitializer items k) s =
      t.ListInitializer (initializers_changed items s) k
  initializer_changed (t.ZeroInitializer e k) s =
      t.ZeroInitializer (entered Plain e s (inside_changed e)) k

  pub initializers_changed : t.Initializers → Sought → t.Initializers
  initializers_changed t.no_initializers s = t.no_initializers
  initializers_changed (t.initializers i rest) s =
      t.initializers (initializer_changed i s)
      (initializers_changed rest (searched Plain (n.initializer i) s))

abbrev pub initial_changed : Option t.Initializer → Sought → Option t.Initializer
initial_changed None s = None
initial_changed (Some i) s = Some (initializer_changed i s)

abbrev pub declarators_changed : List t.Declarator → Sought → List t.Declarator
declarators_changed [] s = []
declarators_changed (d ∷ rest) s =
    record d { value = initial_changed d.value s }
    ∷ declarators_changed rest (searched Plain (n.initial d.value) s)

abbrev pub start_changed : t.ForStart → Sought → t.ForStart
start_changed (t.StartEffects clauses) s = t.StartEffects (effects_changed clauses s)
start_changed (t.StartDeclaration declared) s = t.StartDeclaration (declarators_changed declared s)

abbrev pub optional_changed : Option t.Expression → Sought → Option t.Expression
optional_changed None s = None
optional_changed (Some e) s = Some (entered Controlling e s (inside_changed e))

abbrev pub return_changed : t.ReturnValue → Sought → t.ReturnValue
return_changed t.ReturnNothing s = t.ReturnNothing
return_changed (t.ReturnNumber e) s = t.ReturnNumber (entered Plain e s (inside_changed e))
return_changed (t.ReturnStructure value k) s = t.ReturnStructure (structure_changed value s) k

abbrev mutual
  pub statement_changed : t.Statement → Sought → t.Statement
  statement_changed (t.Compound items span) s = t.Compound (statements_changed items s) span
  statement_changed (t.Label value span) s = t.Label value span
  statement_changed (t.Declaration declared span) s =
      t.Declaration (declarators_changed declared s) span
  statement_changed (t.Null span) s = t.Null span
  statement_changed (t.EffectStatement effect span) s =
      t.EffectStatement (effect_changed effect s) span
  statement_changed (t.If e a keyword span) s =
      t.If (entered Controlling e s (inside_changed e))
      (statement_changed a (searched Controlling (n.expression e) s)) keyword span
  statement_changed (t.IfElse e a b keyword span) s =
      t.IfElse (entered Controlling e s (inside_changed e))
      (statement_changed a (searched Controlling (n.expression e) s))
      (statement_changed b (searched Plain (n.statement a)
      (searched Controlling (n.expression e) s)))
      keyword span
  statement_changed (t.Switch e items keyword span) s =
      t.Switch (entered Plain e s (inside_changed e))
      (statements_changed items (searched Plain (n.expression e) s)) keyword span
  statement_changed (t.For first e step a keyword span) s =
      t.For (start_changed first s) (optional_changed e (searched Plain (n.start first) s))
      (effects_changed step
      (searched Plain (n.optional_test e) (searched Plain (n.start first) s)))
      (statement_changed a
      (inside_parts (n.effects step)
      (searched Plain (n.optional_test e) (searched Plain (n.start first) s)))) keyword span
  statement_changed (t.DoWhile a e keyword span) s =
      t.DoWhile (statement_changed a s)
      (entered Controlling e (searched Plain (n.statement a) s) (inside_changed e)) keyword span
  statement_changed (t.Break span) s = t.Break span
  statement_changed (t.Continue span) s = t.Continue span
  statement_changed (t.Return value span) s = t.Return (return_changed value s) span

  pub statements_changed : t.Statements → Sought → t.Statements
  statements_changed t.no_statements s = t.no_statements
  statements_changed (t.statements a rest) s =
      t.statements (statement_changed a s)
      (statements_changed rest (searched Plain (n.statement a) s))

abbrev pub functions_changed : List t.Function → Sought → List t.Function
functions_changed [] s = []
functions_changed (f ∷ rest) s =
    record f { body = statements_changed f.body s }
    ∷ functions_changed rest (inside_parts (n.statements f.body) s)

abbrev pub program_changed : t.Program → Sought → t.Program
program_changed p s = record p { functions = functions_changed p.functions s }
