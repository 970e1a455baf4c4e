use Rattle.std.proofs.Common.{◌≡◌, ◌∙◌, ap, map}
use Rattle.mc_tree.specs.Views.{name_of}
use Rattle.types_rules.specs.Declarators.{function_member_listed}
use Rattle.types_rules.specs.Scopes.{Scope}
use Rattle.types_scopes.specs.Listed.{listed_of}
use Rattle.types_scopes.specs.Views.{scope_of}
use Rattle.types_declarations.specs.Declarations.{listed_members, listed_parameters, squeezed_listed}
use Rattle.mc_types.proofs.Declarators.{in_function_member}
use Rattle.mc_types.proofs.Exits.{at_ok, found_each}
use Rattle.mc_types.proofs.steps.declarators.function_member.Goals as goal

pub returns-in-Ok : goal.returns-in-Ok
returns-in-Ok c =
    λ base stars all span s h k.
    let u = scope_of c.args.scope.now in
    let ms = map listed_of c.args.members.now in
    let x = listed_parameters c.in-Ok.found s in
    let same : u ≡ s = at_ok c.args.found c.in-Ok.found (λ z. u ≡ s) c.in-Ok.is k in
    found_each c.function_member-fault.result (λ z. listed_members z c.function_member-fault.new.members u) s _ _ c.function_member-fault.ensures
    (ap (λ (v : Scope). squeezed_listed (function_member_listed (name_of c.args.name.now) ms x v)) same
    ∙ in_function_member base stars (name_of c.args.name.now) all span ms s s x (at_ok c.args.found c.in-Ok.found _ c.in-Ok.is h s))
