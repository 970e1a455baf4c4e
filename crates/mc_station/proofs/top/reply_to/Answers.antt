use Rattle.mc_command.specs.Command.{command_of}
use Rattle.mc_station.specs.Stages.{first_stage}
use Rattle.mc_station.proofs.Leading.{none_given}
use Rattle.mc_station.proofs.top.reply_to.Goals as goal

pub returns-in_err-line-clause-leads : goal.returns-in_err-line-clause-leads
returns-in_err-line-clause-leads g c =
    let old = g.S.Store.state c.args.store.now in
    none_given (g.C.Closer.skipped c.args.means.closer.now) old.contents (first_stage (command_of c.args.words.now)) old.asked c.from_residual.result c.from_residual.ensures.0

pub returns-in_err-stage-clause-leads : goal.returns-in_err-stage-clause-leads
returns-in_err-stage-clause-leads g c =
    let old = g.S.Store.state c.args.store.now in
    none_given (g.C.Closer.skipped c.args.means.closer.now) old.contents (first_stage (command_of c.args.words.now)) old.asked c.from_residual-in_err-stage.result c.from_residual-in_err-stage.ensures.0
