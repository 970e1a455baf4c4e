use Rattle.std.proofs.Common.{◌∙◌, ap}
use Rattle.std.specs.declared.alloc.Global.{Global}
use Rattle.std.specs.declared.sync.Arc.{Arc}
use Rattle.types_scopes.specs.declared.types.Signature.{Signature}
use Rattle.types_scopes.specs.Types.{signature_of}
use Rattle.types_declarations.specs.Declarations.{signature_in}
use Rattle.types_declarations.proofs.Lists.{unless_viewed}
use Rattle.types_declarations.proofs.functions.unless.Goals as goal

pub returns : goal.returns
returns c = λ fs h.
    ap signature_in c.unless_fault.ensures
    ∙ unless_viewed (λ (g : Arc Signature Global). signature_of g.value) fs c.args.fault
    c.args.signature h
