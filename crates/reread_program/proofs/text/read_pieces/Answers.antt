use Rattle.std.proofs.Common.{List, subst}
use Rattle.mc_tree.specs.Tree.{Item}
use Rattle.mc_tree.specs.Units.{items_of}
use Rattle.reread_pieces.specs.declared.placed.Placed.{Placed}
use Rattle.reread_pieces.specs.steps.Views.{marks_of}
use Rattle.mc_probe.specs.Trees.{tree_of}
use Rattle.reread_program.specs.Reading.{ReadsPieces, ReadsUnit}
use Rattle.reread_program.specs.Returned.{Gives}
use Rattle.reread_program.proofs.Sequence.{handed_on}
use Rattle.reread_program.proofs.Judging.{at_places, through_pieces}
use Rattle.reread_program.proofs.text.read_pieces.Goals as goal

pub returns : goal.returns
returns c =
    through_pieces (marks_of c.args.pieces.now) (items_of c.in_ok-unit.unit.items.items) c.in_ok-places.places.items c.read_unit.result
    c.in_ok-unit.ensures c.in_ok-places.ensures
    (subst (λ (unit : List Item). Gives tree_of (ReadsUnit unit c.in_ok-places.places.items) c.read_unit.result) c.in_ok-source.ensures
    (subst (λ (placed : List Placed). Gives tree_of (ReadsUnit (items_of c.in_ok-source.source.items.items) placed) c.read_unit.result) c.deref.ensures.value
    c.read_unit.ensures))

pub returns-in_err-places : goal.returns-in_err-places
returns-in_err-places c =
    let (is, same) = c.from_residual-in_err-places.ensures in
    handed_on (ReadsPieces (marks_of c.args.pieces.now)) c.in_err-places.field-0.0 c.from_residual-in_err-places.result is same
    (at_places (marks_of c.args.pieces.now) (items_of c.in_ok-unit.unit.items.items) c.in_err-places.field-0.0 c.in_ok-unit.ensures c.in_err-places.ensures)
