use Rattle.mc_station.specs.Seen.{seen_stage}
use Rattle.mc_station.proofs.Taking.{refused_then, taken_then}
use Rattle.mc_station.proofs.judge.accept.Goals as goal

pub returns-in-Ok-clause-judges : goal.returns-in-Ok-clause-judges
returns-in-Ok-clause-judges c =
    taken_then (seen_stage c.args.stage) c.args.bytes.items c.in-Ok.text.items c.judge.result c.in-Ok.ensures.takes (rw c.deref.ensures.value at c.judge.ensures.judges)

pub returns-in-Err-clause-judges : goal.returns-in-Err-clause-judges
returns-in-Err-clause-judges c = refused_then (seen_stage c.args.stage) c.args.bytes.items c.in-Err.stop c.in-Err.ensures.takes
