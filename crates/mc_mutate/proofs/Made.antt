-- What a search makes of a part makes the same objects as the part.
use Rattle.std.proofs.Common.{◌≡◌, ◌∙◌, refl, ap, List, [], ◌∷◌, ◌++◌, Option, Some, None}
use Rattle.mc_typed.specs.declared.expressions.Slot.{Slot}
use Rattle.mc_typed.specs.Tree as t
use Rattle.mc_typed.specs.Frames.{optional, slots_place, slots, slots_structure, slots_call, slots_argument, slots_arguments, slots_effect, slots_effects, slots_initializer, slots_initializers, slots_value, slots_declarators, slots_start, slots_optional, slots_return, slots_statement, slots_statements}
use Rattle.decide_rules.specs.declared.role.Role.{Role}
use Rattle.decide_rules.specs.declared.role.Role.TheVariants.{Controlling, Inner, Plain}
use Rattle.decide_rules.specs.Nodes as n
use Rattle.mc_mutate.specs.declared.search.sought.Sought.{Sought}
use Rattle.mc_mutate.specs.Mutants.{under}
use Rattle.mc_mutate.specs.steps.Search.{inside_parts, searched}
use Rattle.mc_mutate.specs.steps.Changed.{place_changed, inside_changed, structure_changed, call_changed, argument_changed, arguments_changed, effect_changed, effects_changed, initializer_changed, initializers_changed, initial_changed, declarators_changed, start_changed, optional_changed, return_changed, statement_changed, statements_changed}
use Rattle.mc_mutate.proofs.Holding.{entered_makes}

joined : {a b x y : List Slot} → a ≡ x → b ≡ y → (a ++ b) ≡ (x ++ y)
joined {a} {b} {x} {y} e h = ap (λ (l : List Slot). l ++ b) e ∙ ap (λ (l : List Slot). x ++ l) h

-- a list that stays
still : (l : List Slot) → l ≡ l
still l = refl

mutual
  pub place_made : (x : t.Place) (s : Sought) → slots_place (place_changed x s) ≡ slots_place x
  place_made (t.Local slot span) s = refl
  place_made (t.Static slot span) s = refl
  place_made (t.Parameter array stride index span) s =
      entered_makes Plain index s (inside_changed index) (inside_made index)
  place_made (t.Item array k stride index span) s =
      joined (place_made array s) (entered_makes Plain index (searched Plain (n.place array) s) (inside_changed index) (inside_made index))
  place_made (t.Member structure i offset span) s = place_made structure s

  pub inside_made : (x : t.Expression) (s : Sought) → slots (inside_changed x s) ≡ slots x
  inside_made (t.Constant v a span) s = refl
  inside_made (t.Read place a) s = place_made place s
  inside_made (t.Unary operator a e span) s =
      entered_makes Plain e s (inside_changed e) (inside_made e)
  inside_made (t.Convert a written e span) s =
      entered_makes Plain e s (inside_changed e) (inside_made e)
  inside_made (t.Not e span) s = entered_makes Inner e s (inside_changed e) (inside_made e)
  inside_made (t.Binary operator a e f span) s =
      let r : Role = under (n.full_operator operator e f) in
      joined (entered_makes r e s (inside_changed e) (inside_made e)) (entered_makes r f (searched r (n.expression e) s) (inside_changed f) (inside_made f))
  inside_made (t.Logic operator e f span) s =
      joined (entered_makes Inner e s (inside_changed e) (inside_made e)) (entered_makes Inner f (searched Inner (n.expression e) s) (inside_changed f) (inside_made f))
  inside_made (t.Choice e f g a span) s =
      joined (joined (entered_makes Controlling e s (inside_changed e) (inside_made e)) (entered_makes Plain f (searched Controlling (n.expression e) s) (inside_changed f) (inside_made f))) (entered_makes Plain g (searched Plain (n.expression f) (searched Controlling (n.expression e) s)) (inside_changed g) (inside_made g))
  inside_made (t.Call k a) s = call_made k s
  inside_made (t.Input span) s = refl

  pub structure_made : (x : t.StructureValue) (s : Sought) → slots_structure (structure_changed x s) ≡ slots_structure x
  structure_made (t.Stored place) s = place_made place s
  structure_made (t.Returned k) s = call_made k s

  pub call_made : (x : t.FunctionCall) (s : Sought) → slots_call (call_changed x s) ≡ slots_call x
  call_made (t.call f given result span) s =
      joined (arguments_made given s) (still (optional result))

  pub argument_made : (x : t.Argument) (s : Sought) → slots_argument (argument_changed x s) ≡ slots_argument x
  argument_made (t.NumberArgument e) s =
      entered_makes Plain e s (inside_changed e) (inside_made e)
  argument_made (t.StructureArgument value copy) s =
      joined (structure_made value s) (still (copy ∷ []))
  argument_made (t.ArrayArgument array k) s = place_made array s
  argument_made (t.AgainArgument array span) s = refl

  pub arguments_made : (x : t.Arguments) (s : Sought) → slots_arguments (arguments_changed x s) ≡ slots_arguments x
  arguments_made t.no_arguments s = refl
  arguments_made (t.arguments a rest) s =
      joined (argument_made a s) (arguments_made rest (searched Plain (n.argument a) s))

pub effect_made : (x : t.Effect) (s : Sought) → slots_effect (effect_changed x s) ≡ slots_effect x
effect_made (t.Assign target a e span) s =
    joined (place_made target s) (entered_makes Plain e (searched Plain (n.place target) s) (inside_changed e) (inside_made e))
effect_made (t.Update target a operator common e span) s =
    joined (place_made target s) (entered_makes Plain e (searched Plain (n.place target) s) (inside_changed e) (inside_made e))
effect_made (t.Copy target value k span) s =
    joined (place_made target s) (structure_made value (searched Plain (n.place target) s))
effect_made (t.NumberEffect e whole_) s =
    entered_makes Plain e s (inside_changed e) (inside_made e)
effect_made (t.StructureEffect value whole_) s = structure_made value s
effect_made (t.CallEffect k) s = call_made k s
effect_made (t.Output e span) s =
    entered_makes Plain e s (inside_changed e) (inside_made e)
effect_made (t.ChoiceEffect e a b span) s =
    joined (joined (entered_makes Controlling e s (inside_changed e) (inside_made e)) (effect_made a (searched Controlling (n.expression e) s))) (effect_made b (searched Plain (n.effect a) (searched Controlling (n.expression e) s)))
effect_made (t.Discard a span) s = effect_made a s

pub effects_made : (x : List t.Effect) (s : Sought) → slots_effects (effects_changed x s) ≡ slots_effects x
effects_made [] s = refl
effects_made (a ∷ rest) s =
    joined (effect_made a s) (effects_made rest (searched Plain (n.effect a) s))

mutual
  pub initializer_made : (x : t.Initializer) (s : Sought) → slots_initializer (initializer_changed x s) ≡ slots_initializer x
  initializer_made (t.NumberInitializer e) s =
      entered_makes Plain e s (inside_changed e) (inside_made e)
  initializer_made (t.StructureInitializer value k) s = structure_made value s
  initializer_made (t.ListInitializer items k) s = initializers_made items s
  initializer_made (t.ZeroInitializer e k) s =
      entered_makes Plain e s (inside_changed e) (inside_made e)

  pub initializers_made : (x : t.Initializers) (s : Sought) → slots_initializers (initializers_changed x s) ≡ slots_initializers x
  initializers_made t.no_initializers s = refl
  initializers_made (t.initializers i rest) s =
      joined (initializer_made i s) (initializers_made rest (searched Plain (n.initializer i) s))

pub initial_made : (x : Option t.Initializer) (s : Sought) → slots_value (initial_changed x s) ≡ slots_value x
initial_made None s = refl
initial_made (Some i) s = initializer_made i s

pub declarators_made : (ds : List t.Declarator) (s : Sought) → slots_declarators (declarators_changed ds s) ≡ slots_declarators ds
declarators_made [] s = refl
declarators_made (d ∷ rest) s =
    ap (λ (l : List Slot). d.slot ∷ l)
    (joined (initial_made d.value s) (declarators_made rest (searched Plain (n.initial d.value) s)))

pub start_made : (x : t.ForStart) (s : Sought) → slots_start (start_changed x s) ≡ slots_start x
start_made (t.StartEffects clauses) s = effects_made clauses s
start_made (t.StartDeclaration declared) s = declarators_made declared s

pub optional_made : (x : Option t.Expression) (s : Sought) → slots_optional (optional_changed x s) ≡ slots_optional x
optional_made None s = refl
optional_made (Some e) s = entered_makes Controlling e s (inside_changed e) (inside_made e)

pub return_made : (x : t.ReturnValue) (s : Sought) → slots_return (return_changed x s) ≡ slots_return x
return_made t.ReturnNothing s = refl
return_made (t.ReturnNumber e) s =
    entered_makes Plain e s (inside_changed e) (inside_made e)
return_made (t.ReturnStructure value k) s = structure_made value s

mutual
  pub statement_made : (x : t.Statement) (s : Sought) → slots_statement (statement_changed x s) ≡ slots_statement x
  statement_made (t.Compound items span) s = statements_made items s
  statement_made (t.Label value span) s = refl
  statement_made (t.Declaration declared span) s = declarators_made declared s
  statement_made (t.Null span) s = refl
  statement_made (t.EffectStatement effect span) s = effect_made effect s
  statement_made (t.If e a keyword span) s =
      joined (entered_makes Controlling e s (inside_changed e) (inside_made e)) (statement_made a (searched Controlling (n.expression e) s))
  statement_made (t.IfElse e a b keyword span) s =
      joined (joined (entered_makes Controlling e s (inside_changed e) (inside_made e)) (statement_made a (searched Controlling (n.expression e) s))) (statement_made b (searched Plain (n.statement a) (searched Controlling (n.expression e) s)))
  statement_made (t.Switch e items keyword span) s =
      joined (entered_makes Plain e s (inside_changed e) (inside_made e)) (statements_made items (searched Plain (n.expression e) s))
  statement_made (t.For first e step a keyword span) s =
      joined (joined (joined (start_made first s) (optional_made e (searched Plain (n.start first) s))) (effects_made step (searched Plain (n.optional_test e) (searched Plain (n.start first) s)))) (statement_made a (inside_parts (n.effects step) (searched Plain (n.optional_test e) (searched Plain (n.start first) s))))
  statement_made (t.DoWhile a e keyword span) s =
      joined (statement_made a s) (entered_makes Controlling e (searched Plain (n.statement a) s) (inside_changed e) (inside_made e))
  statement_made (t.Break span) s = refl
  statement_made (t.Continue span) s = refl
  statement_made (t.Return value span) s = return_made value s

  pub statements_made : (x : t.Statements) (s : Sought) → slots_statements (statements_changed x s) ≡ slots_statements x
  statements_made t.no_statements s = refl
  statements_made (t.statements a rest) s =
      joined (statement_made a s) (statements_made rest (searched Plain (n.statement a) s))
