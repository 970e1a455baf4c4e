use Rattle.std.proofs.Common.{ap, map}
use Rattle.std.proofs.lemmas.Result.{IfOk-weaker}
use Rattle.mc_tree.specs.Views.{array_length_of, lengths_from, specifier_of, specifiers_from, tag_of}
use Rattle.types_scopes.specs.Types.{type_of}
use Rattle.types_scopes.specs.Prototypes.{counted_of, cut_to}
use Rattle.types_scopes.specs.Views.{scope_of}
use Rattle.types_scopes.specs.Found.{judged_of}
use Rattle.types_declarations.specs.Declarations.{lengths_in, listed_parameters}
use Rattle.mc_types.proofs.Trees.{parameter_of-parts}
use Rattle.mc_types.proofs.Declarators.{in_parameter}
use Rattle.mc_types.proofs.Exits.{at_ok}
use Rattle.mc_types.proofs.steps.declarators.parameter.Goals as goal

pub returns-in-Ok : goal.returns-in-Ok
returns-in-Ok c =
    λ s r counts typed given.
    let p = c.args.tree.now in
    let u = scope_of c.args.scope.now in
    rw (parameter_of-parts p)
    (IfOk-weaker c.parameter-found.result _ _ (λ z h. in_parameter (specifiers_from (map specifier_of p.specifiers.items)) p.stars (tag_of p.name) (lengths_from (map array_length_of p.lengths.items)) p.span s (cut_to (counted_of c.args.before) u) (judged_of type_of c.args.of r) (judged_of lengths_in c.in-Ok.given u) (listed_parameters z (scope_of c.parameter-found.new.scope)) typed (at_ok c.args.given c.in-Ok.given _ c.in-Ok.is given) (ap (λ k. cut_to k u) counts) (rw (c.name_start-at.ensures, c.deref.ensures.value) at h)) c.parameter-found.ensures)
