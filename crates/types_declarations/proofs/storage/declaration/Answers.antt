use Rattle.std.proofs.Common.{◌∙◌, ◌++◌, Option, ap, option_map}
use Rattle.types_faults.specs.declared.fault.Fault.{Fault}
use Rattle.types_faults.specs.Faults.{least_of}
use Rattle.types_faults.specs.Kept.{listed}
use Rattle.types_rules.specs.Values.{judged}
use Rattle.types_scopes.specs.Statements.{declarators_of}
use Rattle.types_declarations.proofs.DeclarationFaults.{joined_three}
use Rattle.types_declarations.proofs.storage.declaration.Goals as goal

pub returns : goal.returns
returns c = λ s.
    ap (λ (o : Option Fault). judged (listed o) (option_map declarators_of c.args.declarators.value) s)
    (c.first_fault.ensures
    ∙ ap (λ (o : Option Fault). least_of (listed o ++ listed c.args.declarators.fault)) c.first_fault-first.ensures
    ∙ joined_three c.args.typed c.args.empty c.args.declarators.fault)
