-- What a search makes of a part is the mutant of the part that has the number, or the part as it is.
use Rattle.std.proofs.Common.{◌≡◌, List, [], ◌∷◌, Option, Some, None}
use Rattle.mc_typed.specs.Tree as t
use Rattle.decide_rules.specs.declared.role.Role.{Role}
use Rattle.decide_rules.specs.declared.role.Role.TheVariants.{Controlling, Inner, Plain}
use Rattle.decide_rules.specs.Nodes as n
use Rattle.mc_mutate.specs.declared.search.sought.Sought.{Sought}
use Rattle.mc_mutate.specs.Mutants as m
use Rattle.mc_mutate.specs.steps.Search.{inside_parts, searched}
use Rattle.mc_mutate.specs.steps.Changed.{chosen, place_changed, inside_changed, structure_changed, call_changed, argument_changed, arguments_changed, effect_changed, effects_changed, initializer_changed, initializers_changed, initial_changed, declarators_changed, start_changed, optional_changed, return_changed, statement_changed, statements_changed, functions_changed, program_changed}
use Rattle.mc_mutate.proofs.Decided.{whole}
use Rattle.mc_mutate.proofs.Listed.{place_found, inside_found, argument_found, effect_found, effects_found, initializer_found, initial_found, start_found, optional_found, statement_found, statements_found}
use Rattle.mc_mutate.proofs.Chosen.{kept_still, one_changed, two_changed, three_changed, four_changed, entered_picked}

mutual
  pub place_picked : (x : t.Place) (s : Sought) → place_changed x s ≡ chosen (m.in_place x) x s
  place_picked (t.Local slot span) s = kept_still (t.Local slot span) s
  place_picked (t.Static slot span) s = kept_still (t.Static slot span) s
  place_picked (t.Parameter array stride index span) s =
      one_changed (m.in_expression Plain index)
      (λ (x0 : t.Expression). t.Parameter array stride x0 span) index s
      (entered_picked Plain index s (inside_changed index) (inside_picked index))
  place_picked (t.Item array k stride index span) s =
      two_changed (m.in_place array) (m.in_expression Plain index)
      (λ (x0 : t.Place) (x1 : t.Expression). t.Item x0 k stride x1 span) array index s (place_found array s)
      (place_picked array s) (entered_picked Plain index (searched Plain (n.place array) s) (inside_changed index) (inside_picked index))
  place_picked (t.Member structure i offset span) s =
      one_changed (m.in_place structure)
      (λ (x0 : t.Place). t.Member x0 i offset span) structure s
      (place_picked structure s)

  pub inside_picked : (x : t.Expression) (s : Sought) → inside_changed x s ≡ chosen (m.inside x) x s
  inside_picked (t.Constant v a span) s = kept_still (t.Constant v a span) s
  inside_picked (t.Read place a) s =
      one_changed (m.in_place place)
      (λ (x0 : t.Place). t.Read x0 a) place s
      (place_picked place s)
  inside_picked (t.Unary operator a e span) s =
      one_changed (m.in_expression Plain e)
      (λ (x0 : t.Expression). t.Unary operator a x0 span) e s
      (entered_picked Plain e s (inside_changed e) (inside_picked e))
  inside_picked (t.Convert a written e span) s =
      one_changed (m.in_expression Plain e)
      (λ (x0 : t.Expression). t.Convert a written x0 span) e s
      (entered_picked Plain e s (inside_changed e) (inside_picked e))
  inside_picked (t.Not e span) s =
      one_changed (m.in_expression Inner e)
      (λ (x0 : t.Expression). t.Not x0 span) e s
      (entered_picked Inner e s (inside_changed e) (inside_picked e))
  inside_picked (t.Binary operator a e f span) s =
      let r : Role = m.under (n.full_operator operator e f) in
      two_changed (m.in_expression r e) (m.in_expression r f)
      (λ (x0 : t.Expression) (x1 : t.Expression). t.Binary operator a x0 x1 span) e f s (whole r e s (inside_found e))
      (entered_picked r e s (inside_changed e) (inside_picked e)) (entered_picked r f (searched r (n.expression e) s) (inside_changed f) (inside_picked f))
  inside_picked (t.Logic operator e f span) s =
      two_changed (m.in_expression Inner e) (m.in_expression Inner f)
      (λ (x0 : t.Expression) (x1 : t.Expression). t.Logic operator x0 x1 span) e f s (whole Inner e s (inside_found e))
      (entered_picked Inner e s (inside_changed e) (inside_picked e)) (entered_picked Inner f (searched Inner (n.expression e) s) (inside_changed f) (inside_picked f))
  inside_picked (t.Choice e f g a span) s =
      three_changed (m.in_expression Controlling e) (m.in_expression Plain f) (m.in_expression Plain g)
      (λ (x0 : t.Expression) (x1 : t.Expression) (x2 : t.Expression). t.Choice x0 x1 x2 a span) e f g s (whole Controlling e s (inside_found e)) (whole Plain f (searched Controlling (n.expression e) s) (inside_found f))
      (entered_picked Controlling e s (inside_changed e) (inside_picked e)) (entered_picked Plain f (searched Controlling (n.expression e) s) (inside_changed f) (inside_picked f)) (entered_picked Plain g (searched Plain (n.expression f) (searched Controlling (n.expression e) s)) (inside_changed g) (inside_picked g))
  inside_picked (t.Call k a) s =
      one_changed (m.in_call k)
      (λ (x0 : t.FunctionCall). t.Call x0 a) k s
      (call_picked k s)
  inside_picked (t.Input span) s = kept_still (t.Input span) s

  pub structure_picked : (x : t.StructureValue) (s : Sought) → structure_changed x s ≡ chosen (m.in_structure x) x s
  structure_picked (t.Stored place) s =
      one_changed (m.in_place place)
      (λ (x0 : t.Place). t.Stored x0) place s
      (place_picked place s)
  structure_picked (t.Returned k) s =
      one_changed (m.in_call k)
      (λ (x0 : t.FunctionCall). t.Returned x0) k s
      (call_picked k s)

  pub call_picked : (x : t.FunctionCall) (s : Sought) → call_changed x s ≡ chosen (m.in_call x) x s
  call_picked (t.call f given result span) s =
      one_changed (m.in_arguments given)
      (λ (x0 : t.Arguments). t.call f x0 result span) given s
      (arguments_picked given s)

  pub argument_picked : (x : t.Argument) (s : Sought) → argument_changed x s ≡ chosen (m.in_argument x) x s
  argument_picked (t.NumberArgument e) s =
      one_changed (m.in_expression Plain e)
      (λ (x0 : t.Expression). t.NumberArgument x0) e s
      (entered_picked Plain e s (inside_changed e) (inside_picked e))
  argument_picked (t.StructureArgument value copy) s =
      one_changed (m.in_structure value)
      (λ (x0 : t.StructureValue). t.StructureArgument x0 copy) value s
      (structure_picked value s)
  argument_picked (t.ArrayArgument array k) s =
      one_changed (m.in_place array)
      (λ (x0 : t.Place). t.ArrayArgument x0 k) array s
      (place_picked array s)
  argument_picked (t.AgainArgument array span) s = kept_still (t.AgainArgument array span) s

  pub arguments_picked : (x : t.Arguments) (s : Sought) → arguments_changed x s ≡ chosen (m.in_arguments x) x s
  arguments_picked t.no_arguments s = kept_still t.no_arguments s
  arguments_picked (t.arguments a rest) s =
      two_changed (m.in_argument a) (m.in_arguments rest)
      (λ (x0 : t.Argument) (x1 : t.Arguments). t.arguments x0 x1) a rest s (argument_found a s)
      (argument_picked a s) (arguments_picked rest (searched Plain (n.argument a) s))

pub effect_picked : (x : t.Effect) (s : Sought) → effect_changed x s ≡ chosen (m.in_effect x) x s
effect_picked (t.Assign target a e span) s =
    two_changed (m.in_place target) (m.in_expression Plain e)
    (λ (x0 : t.Place) (x1 : t.Expression). t.Assign x0 a x1 span) target e s (place_found target s)
    (place_picked target s) (entered_picked Plain e (searched Plain (n.place target) s) (inside_changed e) (inside_picked e))
effect_picked (t.Update target a operator common e span) s =
    two_changed (m.in_place target) (m.in_expression Plain e)
    (λ (x0 : t.Place) (x1 : t.Expression). t.Update x0 a operator common x1 span) target e s (place_found target s)
    (place_picked target s) (entered_picked Plain e (searched Plain (n.place target) s) (inside_changed e) (inside_picked e))
effect_picked (t.Copy target value k span) s =
    two_changed (m.in_place target) (m.in_structure value)
    (λ (x0 : t.Place) (x1 : t.StructureValue). t.Copy x0 x1 k span) target value s (place_found target s)
    (place_picked target s) (structure_picked value (searched Plain (n.place target) s))
effect_picked (t.NumberEffect e whole_) s =
    one_changed (m.in_expression Plain e)
    (λ (x0 : t.Expression). t.NumberEffect x0 whole_) e s
    (entered_picked Plain e s (inside_changed e) (inside_picked e))
effect_picked (t.StructureEffect value whole_) s =
    one_changed (m.in_structure value)
    (λ (x0 : t.StructureValue). t.StructureEffect x0 whole_) value s
    (structure_picked value s)
effect_picked (t.CallEffect k) s =
    one_changed (m.in_call k)
    (λ (x0 : t.FunctionCall). t.CallEffect x0) k s
    (call_picked k s)
effect_picked (t.Output e span) s =
    one_changed (m.in_expression Plain e)
    (λ (x0 : t.Expression). t.Output x0 span) e s
    (entered_picked Plain e s (inside_changed e) (inside_picked e))
effect_picked (t.ChoiceEffect e a b span) s =
    three_changed (m.in_expression Controlling e) (m.in_effect a) (m.in_effect b)
    (λ (x0 : t.Expression) (x1 : t.Effect) (x2 : t.Effect). t.ChoiceEffect x0 x1 x2 span) e a b s (whole Controlling e s (inside_found e)) (effect_found a (searched Controlling (n.expression e) s))
    (entered_picked Controlling e s (inside_changed e) (inside_picked e)) (effect_picked a (searched Controlling (n.expression e) s)) (effect_picked b (searched Plain (n.effect a) (searched Controlling (n.expression e) s)))
effect_picked (t.Discard a span) s =
    one_changed (m.in_effect a)
    (λ (x0 : t.Effect). t.Discard x0 span) a s
    (effect_picked a s)

pub effects_picked : (x : List t.Effect) (s : Sought) → effects_changed x s ≡ chosen (m.in_effects x) x s
effects_picked [] s = kept_still [] s
effects_picked (a ∷ rest) s =
    two_changed (m.in_effect a) (m.in_effects rest)
    (λ (x0 : t.Effect) (x1 : List t.Effect). x0 ∷ x1) a rest s (effect_found a s)
    (effect_picked a s) (effects_picked rest (searched Plain (n.effect a) s))

mutual
  pub initializer_picked : (x : t.Initializer) (s : Sought) → initializer_changed x s ≡ chosen (m.in_initializer x) x s
  initializer_picked (t.NumberInitializer e) s =
      one_changed (m.in_expression Plain e)
      (λ (x0 : t.Expression). t.NumberInitializer x0) e s
      (entered_picked Plain e s (inside_changed e) (inside_picked e))
  initializer_picked (t.StructureInitializer value k) s =
      one_changed (m.in_structure value)
      (λ (x0 : t.StructureValue). t.StructureInitializer x0 k) value s
      (structure_picked value s)
  initializer_picked (t.ListInitializer items k) s =
      one_changed (m.in_initializers items)
      (λ (x0 : t.Initializers). t.ListInitializer x0 k) items s
      (initializers_picked items s)
  initializer_picked (t.ZeroInitializer e k) s =
      one_changed (m.in_expression Plain e)
      (λ (x0 : t.Expression). t.ZeroInitializer x0 k) e s
      (entered_picked Plain e s (inside_changed e) (inside_picked e))

  pub initializers_picked : (x : t.Initializers) (s : Sought) → initializers_changed x s ≡ chosen (m.in_initializers x) x s
  initializers_picked t.no_initializers s = kept_still t.no_initializers s
  initializers_picked (t.initializers i rest) s =
      two_changed (m.in_initializer i) (m.in_initializers rest)
      (λ (x0 : t.Initializer) (x1 : t.Initializers). t.initializers x0 x1) i rest s (initializer_found i s)
      (initializer_picked i s) (initializers_picked rest (searched Plain (n.initializer i) s))

pub initial_picked : (x : Option t.Initializer) (s : Sought) → initial_changed x s ≡ chosen (m.in_initial x) x s
initial_picked None s = kept_still None s
initial_picked (Some i) s =
    one_changed (m.in_initializer i)
    (λ (x0 : t.Initializer). Some x0) i s
    (initializer_picked i s)

pub declarators_picked : (ds : List t.Declarator) (s : Sought) → declarators_changed ds s ≡ chosen (m.in_declarators ds) ds s
declarators_picked [] s = kept_still [] s
declarators_picked (d ∷ rest) s =
    two_changed (m.in_initial d.value) (m.in_declarators rest)
    (λ (x0 : Option t.Initializer) (x1 : List t.Declarator). record d { value = x0 } ∷ x1) d.value rest s (initial_found d.value s)
    (initial_picked d.value s) (declarators_picked rest (searched Plain (n.initial d.value) s))

pub start_picked : (x : t.ForStart) (s : Sought) → start_changed x s ≡ chosen (m.in_start x) x s
start_picked (t.StartEffects clauses) s =
    one_changed (m.in_effects clauses)
    (λ (x0 : List t.Effect). t.StartEffects x0) clauses s
    (effects_picked clauses s)
start_picked (t.StartDeclaration declared) s =
    one_changed (m.in_declarators declared)
    (λ (x0 : List t.Declarator). t.StartDeclaration x0) declared s
    (declarators_picked declared s)

pub optional_picked : (x : Option t.Expression) (s : Sought) → optional_changed x s ≡ chosen (m.in_optional x) x s
optional_picked None s = kept_still None s
optional_picked (Some e) s =
    one_changed (m.in_expression Controlling e)
    (λ (x0 : t.Expression). Some x0) e s
    (entered_picked Controlling e s (inside_changed e) (inside_picked e))

pub return_picked : (x : t.ReturnValue) (s : Sought) → return_changed x s ≡ chosen (m.in_return x) x s
return_picked t.ReturnNothing s = kept_still t.ReturnNothing s
return_picked (t.ReturnNumber e) s =
    one_changed (m.in_expression Plain e)
    (λ (x0 : t.Expression). t.ReturnNumber x0) e s
    (entered_picked Plain e s (inside_changed e) (inside_picked e))
return_picked (t.ReturnStructure value k) s =
    one_changed (m.in_structure value)
    (λ (x0 : t.StructureValue). t.ReturnStructure x0 k) value s
    (structure_picked value s)

mutual
  pub statement_picked : (x : t.Statement) (s : Sought) → statement_changed x s ≡ chosen (m.in_statement x) x s
  statement_picked (t.Compound items span) s =
      one_changed (m.in_statements items)
      (λ (x0 : t.Statements). t.Compound x0 span) items s
      (statements_picked items s)
  statement_picked (t.Label value span) s = kept_still (t.Label value span) s
  statement_picked (t.Declaration declared span) s =
      one_changed (m.in_declarators declared)
      (λ (x0 : List t.Declarator). t.Declaration x0 span) declared s
      (declarators_picked declared s)
  statement_picked (t.Null span) s = kept_still (t.Null span) s
  statement_picked (t.EffectStatement effect span) s =
      one_changed (m.in_effect effect)
      (λ (x0 : t.Effect). t.EffectStatement x0 span) effect s
      (effect_picked effect s)
  statement_picked (t.If e a keyword span) s =
      two_changed (m.in_expression Controlling e) (m.in_statement a)
      (λ (x0 : t.Expression) (x1 : t.Statement). t.If x0 x1 keyword span) e a s (whole Controlling e s (inside_found e))
      (entered_picked Controlling e s (inside_changed e) (inside_picked e)) (statement_picked a (searched Controlling (n.expression e) s))
  statement_picked (t.IfElse e a b keyword span) s =
      three_changed (m.in_expression Controlling e) (m.in_statement a) (m.in_statement b)
      (λ (x0 : t.Expression) (x1 : t.Statement) (x2 : t.Statement). t.IfElse x0 x1 x2 keyword span) e a b s (whole Controlling e s (inside_found e)) (statement_found a (searched Controlling (n.expression e) s))
      (entered_picked Controlling e s (inside_changed e) (inside_picked e)) (statement_picked a (searched Controlling (n.expression e) s)) (statement_picked b (searched Plain (n.statement a) (searched Controlling (n.expression e) s)))
  statement_picked (t.Switch e items keyword span) s =
      two_changed (m.in_expression Plain e) (m.in_statements items)
      (λ (x0 : t.Expression) (x1 : t.Statements). t.Switch x0 x1 keyword span) e items s (whole Plain e s (inside_found e))
      (entered_picked Plain e s (inside_changed e) (inside_picked e)) (statements_picked items (searched Plain (n.expression e) s))
  statement_picked (t.For first e step a keyword span) s =
      four_changed (m.in_start first) (m.in_optional e) (m.in_effects step) (m.in_statement a)
      (λ (x0 : t.ForStart) (x1 : Option t.Expression) (x2 : List t.Effect) (x3 : t.Statement). t.For x0 x1 x2 x3 keyword span) first e step a s (start_found first s) (optional_found e (searched Plain (n.start first) s)) (effects_found step (searched Plain (n.optional_test e) (searched Plain (n.start first) s)))
      (start_picked first s) (optional_picked e (searched Plain (n.start first) s)) (effects_picked step (searched Plain (n.optional_test e) (searched Plain (n.start first) s))) (statement_picked a (inside_parts (n.effects step) (searched Plain (n.optional_test e) (searched Plain (n.start first) s))))
  statement_picked (t.DoWhile a e keyword span) s =
      two_changed (m.in_statement a) (m.in_expression Controlling e)
      (λ (x0 : t.Statement) (x1 : t.Expression). t.DoWhile x0 x1 keyword span) a e s (statement_found a s)
      (statement_picked a s) (entered_picked Controlling e (searched Plain (n.statement a) s) (inside_changed e) (inside_picked e))
  statement_picked (t.Break span) s = kept_still (t.Break span) s
  statement_picked (t.Continue span) s = kept_still (t.Continue span) s
  statement_picked (t.Return value span) s =
      one_changed (m.in_return value)
      (λ (x0 : t.ReturnValue). t.Return x0 span) value s
      (return_picked value s)

  pub statements_picked : (x : t.Statements) (s : Sought) → statements_changed x s ≡ chosen (m.in_statements x) x s
  statements_picked t.no_statements s = kept_still t.no_statements s
  statements_picked (t.statements a rest) s =
      two_changed (m.in_statement a) (m.in_statements rest)
      (λ (x0 : t.Statement) (x1 : t.Statements). t.statements x0 x1) a rest s (statement_found a s)
      (statement_picked a s) (statements_picked rest (searched Plain (n.statement a) s))

pub functions_picked : (fs : List t.Function) (s : Sought) → functions_changed fs s ≡ chosen (m.in_functions fs) fs s
functions_picked [] s = kept_still [] s
functions_picked (f ∷ rest) s =
    two_changed (m.in_statements f.body) (m.in_functions rest)
    (λ (x0 : t.Statements) (x1 : List t.Function). record f { body = x0 } ∷ x1) f.body rest s (statements_found f.body s)
    (statements_picked f.body s) (functions_picked rest (inside_parts (n.statements f.body) s))

pub program_picked : (p : t.Program) (s : Sought) → program_changed p s ≡ chosen (m.mutants p) p s
program_picked p s =
    one_changed (m.in_functions p.functions) (λ (x0 : List t.Function). record p { functions = x0 }) p.functions s
    (functions_picked p.functions s)
