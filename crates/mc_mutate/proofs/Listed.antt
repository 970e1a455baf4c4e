-- The search in each part of a program passes the mutants of the part.
use Rattle.std.proofs.Common.{◌≡◌, ◌∙◌, refl, List, [], ◌∷◌, Option, Some, None}
use Rattle.mc_typed.specs.Tree as t
use Rattle.decide_rules.specs.declared.role.Role.{Role}
use Rattle.decide_rules.specs.declared.role.Role.TheVariants.{Controlling, Inner, Plain}
use Rattle.decide_rules.specs.Nodes as n
use Rattle.mc_mutate.specs.declared.search.sought.Sought.{Sought}
use Rattle.mc_mutate.specs.Mutants as m
use Rattle.mc_mutate.specs.steps.Search.{past, inside, inside_parts, searched}
use Rattle.mc_mutate.proofs.Past.{one, two, three, four}
use Rattle.mc_mutate.proofs.Decided.{both_inside, whole}

mutual
  pub place_found : (x : t.Place) (s : Sought) → past (m.in_place x) s ≡ searched Plain (n.place x) s
  place_found (t.Local slot span) s = refl
  place_found (t.Static slot span) s = refl
  place_found (t.Parameter array stride index span) s =
      one (m.in_expression Plain index) (λ (x : t.Expression). t.Parameter array stride x span) s
      (whole Plain index s (inside_found index))
  place_found (t.Item array k stride index span) s =
      two (m.in_place array) (m.in_expression Plain index) (λ (x : t.Place). t.Item x k stride index span) (λ (x : t.Expression). t.Item array k stride x span) s
      (place_found array s) (whole Plain index (searched Plain (n.place array) s) (inside_found index))
  place_found (t.Member structure i offset span) s =
      one (m.in_place structure) (λ (x : t.Place). t.Member x i offset span) s
      (place_found structure s)

  pub inside_found : (x : t.Expression) (s : Sought) → past (m.inside x) s ≡ inside (n.expression x) s
  inside_found (t.Constant v a span) s = refl
  inside_found (t.Read place a) s =
      one (m.in_place place) (λ (x : t.Place). t.Read x a) s
      (place_found place s)
  inside_found (t.Unary operator a e span) s =
      one (m.in_expression Plain e) (λ (x : t.Expression). t.Unary operator a x span) s
      (whole Plain e s (inside_found e))
  inside_found (t.Convert a written e span) s =
      one (m.in_expression Plain e) (λ (x : t.Expression). t.Convert a written x span) s
      (whole Plain e s (inside_found e))
  inside_found (t.Not e span) s =
      one (m.in_expression Inner e) (λ (x : t.Expression). t.Not x span) s
      (whole Inner e s (inside_found e))
  inside_found (t.Binary operator a e f span) s =
      let r : Role = m.under (n.full_operator operator e f) in
      two (m.in_expression r e) (m.in_expression r f) (λ (x : t.Expression). t.Binary operator a x f span) (λ (x : t.Expression). t.Binary operator a e x span) s
      (whole r e s (inside_found e)) (whole r f (searched r (n.expression e) s) (inside_found f))
      ∙ both_inside (n.full_operator operator e f) operator (n.expression e) (n.expression f) span s
  inside_found (t.Logic operator e f span) s =
      two (m.in_expression Inner e) (m.in_expression Inner f) (λ (x : t.Expression). t.Logic operator x f span) (λ (x : t.Expression). t.Logic operator e x span) s
      (whole Inner e s (inside_found e)) (whole Inner f (searched Inner (n.expression e) s) (inside_found f))
  inside_found (t.Choice e f g a span) s =
      three (m.in_expression Controlling e) (m.in_expression Plain f) (m.in_expression Plain g) (λ (x : t.Expression). t.Choice x f g a span) (λ (x : t.Expression). t.Choice e x g a span) (λ (x : t.Expression). t.Choice e f x a span) s
      (whole Controlling e s (inside_found e)) (whole Plain f (searched Controlling (n.expression e) s) (inside_found f)) (whole Plain g (searched Plain (n.expression f) (searched Controlling (n.expression e) s)) (inside_found g))
  inside_found (t.Call k a) s =
      one (m.in_call k) (λ (x : t.FunctionCall). t.Call x a) s
      (call_found k s)
  inside_found (t.Input span) s = refl

  pub structure_found : (x : t.StructureValue) (s : Sought) → past (m.in_structure x) s ≡ searched Plain (n.structure x) s
  structure_found (t.Stored place) s =
      one (m.in_place place) (λ (x : t.Place). t.Stored x) s
      (place_found place s)
  structure_found (t.Returned k) s =
      one (m.in_call k) (λ (x : t.FunctionCall). t.Returned x) s
      (call_found k s)

  pub call_found : (x : t.FunctionCall) (s : Sought) → past (m.in_call x) s ≡ inside_parts (n.call_parts x) s
  call_found (t.call f given result span) s =
      one (m.in_arguments given) (λ (x : t.Arguments). t.call f x result span) s
      (arguments_found given s)

  pub argument_found : (x : t.Argument) (s : Sought) → past (m.in_argument x) s ≡ searched Plain (n.argument x) s
  argument_found (t.NumberArgument e) s =
      one (m.in_expression Plain e) (λ (x : t.Expression). t.NumberArgument x) s
      (whole Plain e s (inside_found e))
  argument_found (t.StructureArgument value copy) s =
      one (m.in_structure value) (λ (x : t.StructureValue). t.StructureArgument x copy) s
      (structure_found value s)
  argument_found (t.ArrayArgument array k) s =
      one (m.in_place array) (λ (x : t.Place). t.ArrayArgument x k) s
      (place_found array s)
  argument_found (t.AgainArgument array span) s = refl

  pub arguments_found : (x : t.Arguments) (s : Sought) → past (m.in_arguments x) s ≡ inside_parts (n.arguments x) s
  arguments_found t.no_arguments s = refl
  arguments_found (t.arguments a rest) s =
      two (m.in_argument a) (m.in_arguments rest) (λ (x : t.Argument). t.arguments x rest) (λ (x : t.Arguments). t.arguments a x) s
      (argument_found a s) (arguments_found rest (searched Plain (n.argument a) s))

pub effect_found : (x : t.Effect) (s : Sought) → past (m.in_effect x) s ≡ searched Plain (n.effect x) s
effect_found (t.Assign target a e span) s =
    two (m.in_place target) (m.in_expression Plain e) (λ (x : t.Place). t.Assign x a e span) (λ (x : t.Expression). t.Assign target a x span) s
    (place_found target s) (whole Plain e (searched Plain (n.place target) s) (inside_found e))
effect_found (t.Update target a operator common e span) s =
    two (m.in_place target) (m.in_expression Plain e) (λ (x : t.Place). t.Update x a operator common e span) (λ (x : t.Expression). t.Update target a operator common x span) s
    (place_found target s) (whole Plain e (searched Plain (n.place target) s) (inside_found e))
effect_found (t.Copy target value k span) s =
    two (m.in_place target) (m.in_structure value) (λ (x : t.Place). t.Copy x value k span) (λ (x : t.StructureValue). t.Copy target x k span) s
    (place_found target s) (structure_found value (searched Plain (n.place target) s))
effect_found (t.NumberEffect e whole_) s =
    one (m.in_expression Plain e) (λ (x : t.Expression). t.NumberEffect x whole_) s
    (whole Plain e s (inside_found e))
effect_found (t.StructureEffect value whole_) s =
    one (m.in_structure value) (λ (x : t.StructureValue). t.StructureEffect x whole_) s
    (structure_found value s)
effect_found (t.CallEffect k) s =
    one (m.in_call k) (λ (x : t.FunctionCall). t.CallEffect x) s
    (call_found k s)
effect_found (t.Output e span) s =
    one (m.in_expression Plain e) (λ (x : t.Expression). t.Output x span) s
    (whole Plain e s (inside_found e))
effect_found (t.ChoiceEffect e a b span) s =
    three (m.in_expression Controlling e) (m.in_effect a) (m.in_effect b) (λ (x : t.Expression). t.ChoiceEffect x a b span) (λ (x : t.Effect). t.ChoiceEffect e x b span) (λ (x : t.Effect). t.ChoiceEffect e a x span) s
    (whole Controlling e s (inside_found e)) (effect_found a (searched Controlling (n.expression e) s)) (effect_found b (searched Plain (n.effect a) (searched Controlling (n.expression e) s)))
effect_found (t.Discard a span) s =
    one (m.in_effect a) (λ (x : t.Effect). t.Discard x span) s
    (effect_found a s)

pub effects_found : (x : List t.Effect) (s : Sought) → past (m.in_effects x) s ≡ inside_parts (n.effects x) s
effects_found [] s = refl
effects_found (a ∷ rest) s =
    two (m.in_effect a) (m.in_effects rest) (λ (x : t.Effect). x ∷ rest) (λ (x : List t.Effect). a ∷ x) s
    (effect_found a s) (effects_found rest (searched Plain (n.effect a) s))

mutual
  pub initializer_found : (x : t.Initializer) (s : Sought) → past (m.in_initializer x) s ≡ searched Plain (n.initializer x) s
  initializer_found (t.NumberInitializer e) s =
      one (m.in_expression Plain e) (λ (x : t.Expression). t.NumberInitializer x) s
      (whole Plain e s (inside_found e))
  initializer_found (t.StructureInitializer value k) s =
      one (m.in_structure value) (λ (x : t.StructureValue). t.StructureInitializer x k) s
      (structure_found value s)
  initializer_found (t.ListInitializer items k) s =
      one (m.in_initializers items) (λ (x : t.Initializers). t.ListInitializer x k) s
      (initializers_found items s)
  initializer_found (t.ZeroInitializer e k) s =
      one (m.in_expression Plain e) (λ (x : t.Expression). t.ZeroInitializer x k) s
      (whole Plain e s (inside_found e))

  pub initializers_found : (x : t.Initializers) (s : Sought) → past (m.in_initializers x) s ≡ inside_parts (n.initializers x) s
  initializers_found t.no_initializers s = refl
  initializers_found (t.initializers i rest) s =
      two (m.in_initializer i) (m.in_initializers rest) (λ (x : t.Initializer). t.initializers x rest) (λ (x : t.Initializers). t.initializers i x) s
      (initializer_found i s) (initializers_found rest (searched Plain (n.initializer i) s))

pub initial_found : (x : Option t.Initializer) (s : Sought) → past (m.in_initial x) s ≡ searched Plain (n.initial x) s
initial_found None s = refl
initial_found (Some i) s =
    one (m.in_initializer i) (λ (x : t.Initializer). Some x) s
    (initializer_found i s)

pub declarators_found : (ds : List t.Declarator) (s : Sought) → past (m.in_declarators ds) s ≡ inside_parts (n.declarators ds) s
declarators_found [] s = refl
declarators_found (d ∷ rest) s =
    two (m.in_initial d.value) (m.in_declarators rest) (λ (x : Option t.Initializer). record d { value = x } ∷ rest) (λ (x : List t.Declarator). d ∷ x) s
    (initial_found d.value s) (declarators_found rest (searched Plain (n.initial d.value) s))

pub start_found : (x : t.ForStart) (s : Sought) → past (m.in_start x) s ≡ searched Plain (n.start x) s
start_found (t.StartEffects clauses) s =
    one (m.in_effects clauses) (λ (x : List t.Effect). t.StartEffects x) s
    (effects_found clauses s)
start_found (t.StartDeclaration declared) s =
    one (m.in_declarators declared) (λ (x : List t.Declarator). t.StartDeclaration x) s
    (declarators_found declared s)

pub optional_found : (x : Option t.Expression) (s : Sought) → past (m.in_optional x) s ≡ searched Plain (n.optional_test x) s
optional_found None s = refl
optional_found (Some e) s =
    one (m.in_expression Controlling e) (λ (x : t.Expression). Some x) s
    (whole Controlling e s (inside_found e))

pub return_found : (x : t.ReturnValue) (s : Sought) → past (m.in_return x) s ≡ searched Plain (n.return_value x) s
return_found t.ReturnNothing s = refl
return_found (t.ReturnNumber e) s =
    one (m.in_expression Plain e) (λ (x : t.Expression). t.ReturnNumber x) s
    (whole Plain e s (inside_found e))
return_found (t.ReturnStructure value k) s =
    one (m.in_structure value) (λ (x : t.StructureValue). t.ReturnStructure x k) s
    (structure_found value s)

mutual
  pub statement_found : (x : t.Statement) (s : Sought) → past (m.in_statement x) s ≡ searched Plain (n.statement x) s
  statement_found (t.Compound items span) s =
      one (m.in_statements items) (λ (x : t.Statements). t.Compound x span) s
      (statements_found items s)
  statement_found (t.Label value span) s = refl
  statement_found (t.Declaration declared span) s =
      one (m.in_declarators declared) (λ (x : List t.Declarator). t.Declaration x span) s
      (declarators_found declared s)
  statement_found (t.Null span) s = refl
  statement_found (t.EffectStatement effect span) s =
      one (m.in_effect effect) (λ (x : t.Effect). t.EffectStatement x span) s
      (effect_found effect s)
  statement_found (t.If e a keyword span) s =
      two (m.in_expression Controlling e) (m.in_statement a) (λ (x : t.Expression). t.If x a keyword span) (λ (x : t.Statement). t.If e x keyword span) s
      (whole Controlling e s (inside_found e)) (statement_found a (searched Controlling (n.expression e) s))
  statement_found (t.IfElse e a b keyword span) s =
      three (m.in_expression Controlling e) (m.in_statement a) (m.in_statement b) (λ (x : t.Expression). t.IfElse x a b keyword span) (λ (x : t.Statement). t.IfElse e x b keyword span) (λ (x : t.Statement). t.IfElse e a x keyword span) s
      (whole Controlling e s (inside_found e)) (statement_found a (searched Controlling (n.expression e) s)) (statement_found b (searched Plain (n.statement a) (searched Controlling (n.expression e) s)))
  statement_found (t.Switch e items keyword span) s =
      two (m.in_expression Plain e) (m.in_statements items) (λ (x : t.Expression). t.Switch x items keyword span) (λ (x : t.Statements). t.Switch e x keyword span) s
      (whole Plain e s (inside_found e)) (statements_found items (searched Plain (n.expression e) s))
  statement_found (t.For first e step a keyword span) s =
      four (m.in_start first) (m.in_optional e) (m.in_effects step) (m.in_statement a) (λ (x : t.ForStart). t.For x e step a keyword span) (λ (x : Option t.Expression). t.For first x step a keyword span) (λ (x : List t.Effect). t.For first e x a keyword span) (λ (x : t.Statement). t.For first e step x keyword span) s
      (start_found first s) (optional_found e (searched Plain (n.start first) s)) (effects_found step (searched Plain (n.optional_test e) (searched Plain (n.start first) s))) (statement_found a (inside_parts (n.effects step) (searched Plain (n.optional_test e) (searched Plain (n.start first) s))))
  statement_found (t.DoWhile a e keyword span) s =
      two (m.in_statement a) (m.in_expression Controlling e) (λ (x : t.Statement). t.DoWhile x e keyword span) (λ (x : t.Expression). t.DoWhile a x keyword span) s
      (statement_found a s) (whole Controlling e (searched Plain (n.statement a) s) (inside_found e))
  statement_found (t.Break span) s = refl
  statement_found (t.Continue span) s = refl
  statement_found (t.Return value span) s =
      one (m.in_return value) (λ (x : t.ReturnValue). t.Return x span) s
      (return_found value s)

  pub statements_found : (x : t.Statements) (s : Sought) → past (m.in_statements x) s ≡ inside_parts (n.statements x) s
  statements_found t.no_statements s = refl
  statements_found (t.statements a rest) s =
      two (m.in_statement a) (m.in_statements rest) (λ (x : t.Statement). t.statements x rest) (λ (x : t.Statements). t.statements a x) s
      (statement_found a s) (statements_found rest (searched Plain (n.statement a) s))

pub functions_found : (fs : List t.Function) (s : Sought) → past (m.in_functions fs) s ≡ inside_parts (n.functions fs) s
functions_found [] s = refl
functions_found (f ∷ rest) s =
    two (m.in_statements f.body) (m.in_functions rest) (λ (x : t.Statements). record f { body = x } ∷ rest) (λ (x : List t.Function). f ∷ x) s
    (statements_found f.body s) (functions_found rest (inside_parts (n.statements f.body) s))

pub mutants_found : (p : t.Program) (s : Sought) → past (m.mutants p) s ≡ inside_parts (n.functions p.functions) s
mutants_found p s =
    one (m.in_functions p.functions) (λ (x : List t.Function). record p { functions = x }) s (functions_found p.functions s)
