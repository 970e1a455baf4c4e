use Rattle.mc_tree.specs.Units.{items_of}
use Rattle.mc_typed.specs.Views.{program_of}
use Rattle.reread_program.specs.Reading.{ReadsUnit}
use Rattle.reread_program.proofs.Sequence.{handed_on}
use Rattle.reread_program.proofs.Judging.{at_types, through_unit}
use Rattle.reread_program.proofs.text.read_unit.Goals as goal

pub returns : goal.returns
returns c =
    through_unit (items_of c.args.unit.now.items.items) c.args.placed.now (program_of c.in_ok-program.program) c.probed.result
    c.in_ok-admitted.ensures c.in_ok-program.ensures c.probed.ensures

pub returns-in_err-program : goal.returns-in_err-program
returns-in_err-program c =
    let (is, same) = c.from_residual-in_err-program.ensures in
    handed_on (ReadsUnit (items_of c.args.unit.now.items.items) c.args.placed.now) c.in_err-program.field-0.0 c.from_residual-in_err-program.result is same
    (at_types (items_of c.args.unit.now.items.items) c.args.placed.now c.in_err-program.field-0.0 c.in_ok-admitted.ensures c.in_err-program.ensures)
