use Rattle.std.proofs.Common.{◌∙◌, List, [], ◌∷◌, ap, map}
use Rattle.std.proofs.lemmas.Result.{IfOk-weaker}
use Rattle.mc_typed.specs.Tree as t
use Rattle.types_rules.specs.Scopes as s
use Rattle.types_scopes.specs.Views.{scope_of, structure_of}
use Rattle.types_scopes.specs.declared.members.Structure.{Structure}
use Rattle.types_declarations.proofs.definitions.function_alone.Goals as goal

pub returns-in-Ok-clause-value : goal.returns-in-Ok-clause-value
returns-in-Ok-clause-value c =
    let made = ap (λ (f : t.Function). f ∷ [])
    (c.in-Ok.ensures (scope_of c.args.scope.now)
    (ap (λ (xs : List Structure). map structure_of xs) c.deref.ensures.value
    ∙ ap (λ (z : s.Scope). z.structures) c.take_objects-objects.ensures.scope)
    c.take_objects-objects.ensures.objects) in
    IfOk-weaker c.one_function.result _ _ (λ list is. is ∙ made) c.one_function.ensures
