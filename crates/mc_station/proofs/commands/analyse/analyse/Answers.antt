use Rattle.mc_station.proofs.Kept.{kept_told}
use Rattle.mc_station.proofs.commands.analyse.analyse.Goals as goal

pub judge-requires-clause-told : goal.judge-requires-clause-told
judge-requires-clause-told c = kept_told c.args.accepted c.args.kept c.requires.of_source
