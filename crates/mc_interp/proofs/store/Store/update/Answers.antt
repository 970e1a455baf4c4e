use Rattle.interp_words.specs.Words.{number_of}
use Rattle.mc_interp.specs.Stores.{state_of}
use Rattle.mc_interp.proofs.Kept.{kept_then}
use Rattle.mc_interp.proofs.Stopped.{update_unread, update_trapped, update_stored}
use Rattle.mc_interp.proofs.store.Store.update.Goals as goal

pub returns-in_err-old-clause-ran : goal.returns-in_err-old-clause-ran
returns-in_err-old-clause-ran c u r =
    rw c.from_residual.ensures
    (update_unread c.args.at c.args.of c.args.common c.args.operator (state_of c.args.self.now) (number_of u c.args.right) c.read.new.self c.in_err-old.ensures.ran)

pub returns-in_err-sum-clause-ran : goal.returns-in_err-sum-clause-ran
returns-in_err-sum-clause-ran c u r =
    rw c.from_residual-in_err-sum.ensures
    (update_trapped c.args.at c.args.of c.args.common c.args.operator (state_of c.args.self.now) _ u c.args.right _ _ c.read.new.self c.give.new.self c.in_ok-old.ensures.ran (c.convert.ensures.value c.args.of) (c.operate.ensures.value u r) (c.in_err-sum.ensures.ran _))

pub returns-clause-ran : goal.returns-clause-ran
returns-clause-ran c u r =
    update_stored c.args.at c.args.of c.args.common c.args.operator (state_of c.args.self.now) _ _ u c.args.right _ _ c.read.new.self c.give.new.self c.write.new.self _ c.in_ok-old.ensures.ran (c.convert.ensures.value c.args.of) (c.operate.ensures.value u r) (c.in_ok-sum.ensures.ran _) (c.convert-2.ensures.value _) c.write.ensures.ran

pub returns-clause-kept : goal.returns-clause-kept
returns-clause-kept c d w p =
    kept_then d w c.args.self.now c.give.new.self c.write.new.self (kept_then d w c.args.self.now c.read.new.self c.give.new.self (c.in_ok-old.ensures.kept d w) (c.in_ok-sum.ensures.kept d w)) (c.write.ensures.kept d w p)
