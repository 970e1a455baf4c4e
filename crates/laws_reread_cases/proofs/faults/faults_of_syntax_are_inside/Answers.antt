use Rattle.std.proofs.Common.{refl}
use Rattle.laws_reread_cases.proofs.Inside.{faults_inside}
use Rattle.laws_reread_cases.proofs.faults.faults_of_syntax_are_inside.Goals as goal

pub returns-clause-inside : goal.returns-clause-inside
returns-clause-inside c = faults_inside

pub returns-clause-wants : goal.returns-clause-wants
returns-clause-wants c = ((λ h. h refl), (λ h. h refl), (λ h. h refl))
