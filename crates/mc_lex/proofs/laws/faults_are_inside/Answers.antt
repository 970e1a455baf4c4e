use Rattle.mc_lex.proofs.Scanning.{faults_are_inside}
use Rattle.mc_lex.proofs.laws.faults_are_inside.Goals as goal

pub returns : goal.returns
returns c = faults_are_inside
