use Rattle.std.proofs.Common.{option_map}
use Rattle.types_rules.specs.Declarators.{length_faults}
use Rattle.types_rules.specs.Values.{number_found}
use Rattle.types_scopes.specs.Found.{found_of, judged_of}
use Rattle.types_declarations.specs.Declarations.{lengths_in}
use Rattle.types_declarations.proofs.Begun.{lengths_found}
use Rattle.types_declarations.proofs.lengths.more_lengths.Goals as goal

pub returns : goal.returns
returns c = λ s u.
    let found = c.args.found.now in
    lengths_found (judged_of lengths_in c.args.list s) c.args.at (found_of found u) c.after_two-fault.result
    (option_map lengths_in c.in_ok-value.value) c.length_in-one.result c.constant_found.result
    (c.after_two-fault.ensures (length_faults c.args.at found.constant (number_found (found_of found u))) (c.length_fault-own.ensures u))
    c.in_ok-value.ensures c.length_in-one.ensures (c.constant_found.ensures u)
