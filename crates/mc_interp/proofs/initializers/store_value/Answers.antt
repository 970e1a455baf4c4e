use Rattle.std.proofs.Common.{Some, sym, subst}
use Rattle.mc_typed.specs.Layout.{Scalar}
use Rattle.mc_interp.specs.Typed.{IsPlaced}
use Rattle.mc_interp.specs.Frames.{activation_of, scope_in}
use Rattle.mc_interp.proofs.Kept.{kept_then}
use Rattle.mc_interp.proofs.initializers.store_value.Goals as goal

pub returns-clause-kept : goal.returns-clause-kept
returns-clause-kept g c =
    let F = c.args.frame.now in
    kept_then _ _ _ _ _ c.in_ok-word.ensures.kept
    (c.write.ensures.kept _ _ (subst (λ a. IsPlaced (scope_in F) (activation_of F) c.args.at (Some (Scalar a))) (sym c.integer_type.ensures) c.requires.placed))
