use Rattle.std.specs.Prelude.{refl}
use Rattle.tests_meaning.proofs.worked.flap_controller.Goals as goal

pub returns-clause-run : goal.returns-clause-run
returns-clause-run c = refl

pub returns-clause-passes : goal.returns-clause-passes
returns-clause-passes c = refl
