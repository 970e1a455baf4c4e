use Rattle.mc_interp.proofs.Fills.{copy_ran, copy_kept}
use Rattle.mc_interp.proofs.store.Store.copy.Goals as goal

pub returns-clause-ran : goal.returns-clause-ran
returns-clause-ran c = copy_ran c.args.self.now c.copy.new.self c.args.from c.args.to c.args.count c.copy.ensures

pub returns-clause-kept : goal.returns-clause-kept
returns-clause-kept c d w u e p q =
    copy_kept d w c.args.self.now c.copy.new.self c.args.from c.args.to c.args.count u c.requires.source c.requires.target e p q c.copy.ensures
