-- Places that follow are all different, where those before them are so too.
use Rattle.std.proofs.Common.{List, [], ◌∷◌, true, false, Option, Some, None}
use Rattle.mc_span.specs.declared.span.Span.{Span}
use Rattle.mc_probe.specs.Tree as p
use Rattle.reread_law_rows.specs.inserted.Rows.{extent}
use Rattle.reread_law_texts.specs.apart.Distinct.{IsDistinct}
use Rattle.reread_law_probes.specs.put.Places.{in_place, parts, places, in_structure, in_call, in_argument, in_arguments, in_effect, in_effects, in_initializer, in_initializers, in_initial, in_declarators, in_start, in_optional, in_value, in_statement, in_statements}

mutual
  pub place_rest : (x : p.Place) (ps : List Span) → IsDistinct (in_place x ps) → IsDistinct ps
  place_rest (p.Local slot span) ps a = a
  place_rest (p.Static slot span) ps a = a
  place_rest (p.Parameter array stride index span) ps a = parts_rest index ps a.1
  place_rest (p.Item array n stride index span) ps a = parts_rest index ps (place_rest array (extent index ∷ parts index ps) a).1
  place_rest (p.Member structure i offset span) ps a = place_rest structure ps a

  pub parts_rest : (x : p.Expression) (ps : List Span) → IsDistinct (parts x ps) → IsDistinct ps
  parts_rest (p.Constant v a span) ps d = d
  parts_rest (p.Read place a) ps d = place_rest place ps d
  parts_rest (p.Unary operator a e span) ps d = parts_rest e ps d.1
  parts_rest (p.Convert a true e span) ps d = parts_rest e ps d.1
  parts_rest (p.Convert a false e span) ps d = parts_rest e ps d
  parts_rest (p.Not e span) ps d = parts_rest e ps d.1
  parts_rest (p.Binary operator a e f span) ps d = parts_rest f ps (parts_rest e (extent f ∷ parts f ps) d.1).1
  parts_rest (p.Logic operator e f span) ps d = parts_rest f ps (parts_rest e (extent f ∷ parts f ps) d.1).1
  parts_rest (p.Choice e f g a span) ps d =
      parts_rest g ps (parts_rest f (extent g ∷ parts g ps) (parts_rest e (extent f ∷ parts f (extent g ∷ parts g ps)) d.1).1).1
  parts_rest (p.Call k a) ps d = call_rest k ps d
  parts_rest (p.Input span) ps d = d
  parts_rest (p.Probe q e) ps d = parts_rest e ps d

  pub structure_rest : (x : p.StructureValue) (ps : List Span) → IsDistinct (in_structure x ps) → IsDistinct ps
  structure_rest (p.Stored place) ps d = place_rest place ps d
  structure_rest (p.Returned k) ps d = call_rest k ps d

  pub call_rest : (x : p.FunctionCall) (ps : List Span) → IsDistinct (in_call x ps) → IsDistinct ps
  call_rest (p.call f given result span) ps d = arguments_rest given ps d

  pub argument_rest : (x : p.Argument) (ps : List Span) → IsDistinct (in_argument x ps) → IsDistinct ps
  argument_rest (p.NumberArgument e) ps d = parts_rest e ps d.1
  argument_rest (p.StructureArgument value copy) ps d = structure_rest value ps d
  argument_rest (p.ArrayArgument place n) ps d = place_rest place ps d
  argument_rest (p.AgainArgument array span) ps d = d

  pub arguments_rest : (x : p.Arguments) (ps : List Span) → IsDistinct (in_arguments x ps) → IsDistinct ps
  arguments_rest p.no_arguments ps d = d
  arguments_rest (p.arguments a rest) ps d = arguments_rest rest ps (argument_rest a (in_arguments rest ps) d)

pub rest : (x : p.Expression) (ps : List Span) → IsDistinct (places x ps) → IsDistinct ps
rest x ps d = parts_rest x ps d.1

-- ---- effects and initializers

pub effect_rest : (x : p.Effect) (ps : List Span) → IsDistinct (in_effect x ps) → IsDistinct ps
effect_rest (p.Assign target a e span) ps d = rest e ps (place_rest target (places e ps) d)
effect_rest (p.Update target a operator common e span) ps d = rest e ps (place_rest target (places e ps) d)
effect_rest (p.Copy target value n span) ps d = structure_rest value ps (place_rest target (in_structure value ps) d)
effect_rest (p.NumberEffect e whole) ps d = rest e ps d
effect_rest (p.StructureEffect value whole) ps d = structure_rest value ps d
effect_rest (p.CallEffect k) ps d = call_rest k ps d
effect_rest (p.Output e span) ps d = rest e ps d
effect_rest (p.ChoiceEffect e a b span) ps d = effect_rest b ps (effect_rest a (in_effect b ps) (rest e (in_effect a (in_effect b ps)) d))
effect_rest (p.Discard a span) ps d = effect_rest a ps d

pub effects_rest : (xs : List p.Effect) (ps : List Span) → IsDistinct (in_effects xs ps) → IsDistinct ps
effects_rest [] ps d = d
effects_rest (x ∷ xs) ps d = effects_rest xs ps (effect_rest x (in_effects xs ps) d)

mutual
  pub initializer_rest : (x : p.Initializer) (ps : List Span) → IsDistinct (in_initializer x ps) → IsDistinct ps
  initializer_rest (p.NumberInitializer e) ps d = rest e ps d
  initializer_rest (p.StructureInitializer value n) ps d = structure_rest value ps d
  initializer_rest (p.ListInitializer items n) ps d = initializers_rest items ps d
  initializer_rest (p.ZeroInitializer e n) ps d = d

  pub initializers_rest : (x : p.Initializers) (ps : List Span) → IsDistinct (in_initializers x ps) → IsDistinct ps
  initializers_rest p.no_initializers ps d = d
  initializers_rest (p.initializers i more) ps d = initializers_rest more ps (initializer_rest i (in_initializers more ps) d)

pub initial_rest : (x : Option p.Initializer) (ps : List Span) → IsDistinct (in_initial x ps) → IsDistinct ps
initial_rest None ps d = d
initial_rest (Some i) ps d = initializer_rest i ps d

pub declarators_rest : (xs : List p.Declarator) (ps : List Span) → IsDistinct (in_declarators xs ps) → IsDistinct ps
declarators_rest [] ps d = d
declarators_rest (x ∷ xs) ps d = declarators_rest xs ps (initial_rest x.value (in_declarators xs ps) d)

-- ---- statements

pub start_rest : (x : p.ForStart) (ps : List Span) → IsDistinct (in_start x ps) → IsDistinct ps
start_rest (p.StartEffects xs) ps d = effects_rest xs ps d
start_rest (p.StartDeclaration xs) ps d = declarators_rest xs ps d

pub test_rest : (x : Option p.Expression) (ps : List Span) → IsDistinct (in_optional x ps) → IsDistinct ps
test_rest None ps d = d
test_rest (Some e) ps d = rest e ps d

pub value_rest : (x : p.ReturnValue) (ps : List Span) → IsDistinct (in_value x ps) → IsDistinct ps
value_rest p.ReturnNothing ps d = d
value_rest (p.ReturnNumber e) ps d = rest e ps d
value_rest (p.ReturnStructure value n) ps d = structure_rest value ps d

mutual
  pub statement_rest : (x : p.Statement) (ps : List Span) → IsDistinct (in_statement x ps) → IsDistinct ps
  statement_rest (p.Compound items span) ps d = statements_rest items ps d
  statement_rest (p.Label v span mark) ps d = d
  statement_rest (p.Declaration xs span bit) ps d = declarators_rest xs ps d
  statement_rest (p.Null span bit) ps d = d
  statement_rest (p.EffectStatement a span bit) ps d = effect_rest a ps d
  statement_rest (p.If e s keyword span bit) ps d = statement_rest s ps (rest e (in_statement s ps) d)
  statement_rest (p.IfElse e s u keyword span bit) ps d =
      statement_rest u ps (statement_rest s (in_statement u ps) (rest e (in_statement s (in_statement u ps)) d))
  statement_rest (p.Switch e items keyword span bit absent) ps d = statements_rest items ps (rest e (in_statements items ps) d)
  statement_rest (p.For start test step s keyword span bit) ps d =
      statement_rest s ps (effects_rest step (in_statement s ps) (test_rest test (in_effects step (in_statement s ps)) (start_rest start (in_optional test (in_effects step (in_statement s ps))) d)))
  statement_rest (p.DoWhile s e keyword span bit) ps d = rest e ps (statement_rest s (places e ps) d)
  statement_rest (p.Break span bit) ps d = d
  statement_rest (p.Continue span bit) ps d = d
  statement_rest (p.Return value span bit exit) ps d = value_rest value ps d

  pub statements_rest : (xs : p.Statements) (ps : List Span) → IsDistinct (in_statements xs ps) → IsDistinct ps
  statements_rest p.no_statements ps d = d
  statements_rest (p.statements x more) ps d = statements_rest more ps (statement_rest x (in_statements more ps) d)
