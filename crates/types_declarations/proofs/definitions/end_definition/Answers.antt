use Rattle.std.proofs.Common.{◌∙◌, ap}
use Rattle.types_scopes.specs.Blocks.{around_of}
use Rattle.types_faults.specs.Kept.{listed}
use Rattle.types_declarations.proofs.DeclarationFaults.{judged_same}
use Rattle.types_declarations.proofs.definitions.end_definition.Goals as goal

pub returns-in-Ok : goal.returns-in-Ok
returns-in-Ok c = λ u.
    judged_same _ _ _ _ _ _ (ap listed (c.after_two-fault.ensures _ c.frame_fault-frame.ensures))
    c.in-Ok.ensures.value (c.leave_function.ensures ∙ c.in-Ok.ensures.scope (around_of c.args.body.block))
