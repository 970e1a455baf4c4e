use Rattle.mc_tests.proofs.Counts.{counted_more}
use Rattle.mc_tests.proofs.draft.extend.Goals as goal

pub returns-clause-counted : goal.returns-clause-counted
returns-clause-counted c =
    counted_more c.args.draft.calls.items c.push.new.self.items c.args.line.call c.args.draft.outputs c.expected-more.result c.requires.counted c.expected-more.ensures c.in_ok-push.ensures.items
