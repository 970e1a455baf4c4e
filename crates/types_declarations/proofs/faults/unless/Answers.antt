use Rattle.std.proofs.Common.{◌∙◌, ap, option_map}
use Rattle.types_scopes.specs.Types.{type_of}
use Rattle.types_declarations.proofs.Lists.{unless_viewed}
use Rattle.types_declarations.proofs.faults.unless.Goals as goal

pub returns : goal.returns
returns c = λ fs h.
    ap (option_map type_of) c.unless_fault.ensures ∙ unless_viewed type_of fs c.args.fault c.args.of h
