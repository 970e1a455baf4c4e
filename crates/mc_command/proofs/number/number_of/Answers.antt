use Rattle.mc_command.proofs.Numbers.{not_parsed}
use Rattle.mc_command.proofs.number.number_of.Goals as goal

pub returns-in-Err : goal.returns-in-Err
returns-in-Err c = not_parsed c.args.numeral.now c.in-Err.field-0 c.parse.result c.in-Err.is c.requires c.parse.ensures.value.0
