use Rattle.tests_report.proofs.Worked.{reasoned, unreasoned}
use Rattle.tests_report.proofs.laws.flap_controller.Goals as goal

pub returns-clause-reasoned : goal.returns-clause-reasoned
returns-clause-reasoned c = reasoned

pub returns-clause-unreasoned : goal.returns-clause-unreasoned
returns-clause-unreasoned c = unreasoned
