use Rattle.std.proofs.Common.{Some, pos}
use Rattle.mc_interp.proofs.Fills.{fill_ran, fill_kept, zero_fits}
use Rattle.mc_interp.proofs.store.Store.zero.Goals as goal

pub returns-clause-ran : goal.returns-clause-ran
returns-clause-ran c = fill_ran c.args.self.now c.fill.new.self c.args.at c.args.count (Some (pos 0)) c.fill.ensures

pub returns-clause-kept : goal.returns-clause-kept
returns-clause-kept c d w =
    fill_kept d w c.args.self.now c.fill.new.self c.args.at c.args.count (Some (pos 0)) c.requires zero_fits c.fill.ensures
