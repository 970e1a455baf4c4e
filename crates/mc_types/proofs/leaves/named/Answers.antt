-- A name, by its meaning in the scope.
use Rattle.std.proofs.Common.{Option, ap}
use Rattle.types_rules.specs.Scopes.{Meaning}
use Rattle.types_scopes.specs.Views.{scope_of}
use Rattle.types_scopes.specs.Found.{found_of}
use Rattle.types_scopes.specs.steps.Squeezed.{squeezed}
use Rattle.types_expressions.specs.steps.Names.{named_found}
use Rattle.mc_types.proofs.Exits.{found_with}
use Rattle.mc_types.proofs.leaves.named.Goals as goal

pub returns : goal.returns
returns c =
    let s = scope_of c.args.scope.now in
    found_with c.name.result found_of s _ _ c.name.ensures
    (ap (λ (m : Option Meaning). squeezed (named_found c.args.name.now.span m s)) c.meaning.ensures)
