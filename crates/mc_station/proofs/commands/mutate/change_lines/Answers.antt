use Rattle.std.proofs.Common.{◌∙◌, map, ap}
use Rattle.mutate_lines.specs.Seen.{told_of}
use Rattle.mc_typed.specs.Views.{program_of}
use Rattle.mc_station.proofs.Killing.{one_more}
use Rattle.mc_station.proofs.commands.mutate.change_lines.Goals as goal

pub loop-before-preserved : goal.loop-before-preserved
loop-before-preserved c =
    ap (map told_of) c.in_ok-push.ensures.items
    ∙ one_more c.args.source.now (program_of c.args.program.now) c.loop-before.before c.loop-before.lines.items c.change_line.result c.change-change.result c.loop-before.invariant c.change-change.ensures c.change_line.ensures
