use Rattle.mc_record.proofs.SeenNames.{name_added}
use Rattle.mc_record.proofs.tests.add_name.Goals as goal

pub returns : goal.returns
returns c = λ q. name_added c.args.name.now c.args.seen.now c.insert.new.self c.in_ok-insert.ensures.updates q
