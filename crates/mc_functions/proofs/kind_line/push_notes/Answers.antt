use Rattle.std.specs.Prelude.{codes}
use Rattle.mc_functions.specs.Text.{noted}
use Rattle.mc_functions.proofs.Writing.{two_parts}
use Rattle.mc_functions.proofs.kind_line.push_notes.Goals as goal

pub returns : goal.returns
returns c =
    two_parts c.args.line.now.items c.push_noted.new.line.items c.push_noted-2.new.line.items (noted (codes "justified") c.args.counts.justified) (noted (codes "stale") c.args.counts.stale)
    c.in_ok-push_noted.ensures c.in_ok-push_noted-2.ensures
