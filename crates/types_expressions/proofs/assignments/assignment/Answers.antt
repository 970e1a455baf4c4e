use Rattle.std.proofs.Common.{◌≡◌, ◌∙◌, Result, refl, ap}
use Rattle.std.proofs.lemmas.Result.{IfOk-weaker}
use Rattle.std.specs.Prelude.{IfOk}
use Rattle.std.specs.declared.alloc.AllocError.{AllocError}
use Rattle.types_rules.specs.Scopes.{Scope}
use Rattle.types_rules.specs.Values as v
use Rattle.types_rules.specs.Expressions.{assignment_found}
use Rattle.types_scopes.specs.Views.{scope_of}
use Rattle.types_scopes.specs.Found.{found_of}
use Rattle.types_scopes.specs.declared.found.Found.{Found}
use Rattle.types_scopes.specs.steps.Squeezed.{squeezed}
use Rattle.types_expressions.specs.steps.Making.{found_by}
use Rattle.types_expressions.proofs.assignments.assignment.Goals as goal

-- what is found in each scope, in this one
in_scope : (r : Result Found AllocError) (before : Scope → v.Found) (s : Scope) (x : v.Found) → before s ≡ x
    → IfOk r (λ f. (u : Scope) → found_of f u ≡ squeezed (before u)) → IfOk r (λ f. found_of f s ≡ squeezed x)
in_scope r before s x same found = IfOk-weaker r _ _ (λ f is. is s ∙ ap squeezed same) found

pub returns : goal.returns
returns c =
    let s = scope_of c.args.scope.now in
    let x = found_of c.args.target s in
    let y = found_of c.args.value s in
    in_scope c.made.result (λ u. found_by c.making_of.result c.args.span (found_of c.args.target u) (found_of c.args.value u)) s
    (assignment_found c.args.operator c.args.span x y) (c.making_of.ensures c.args.span x y refl) c.made.ensures
