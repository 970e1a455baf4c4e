use Rattle.mc_record.proofs.Fronts.{stripped}
use Rattle.mc_record.proofs.parts.strip.Goals as goal

pub returns : goal.returns
returns c = stripped c.args.text.now c.args.front.now c.strip_prefix.result c.strip_prefix.ensures.cases
