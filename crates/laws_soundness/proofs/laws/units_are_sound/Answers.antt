use Rattle.laws_soundness.proofs.Units.{units_typed, units_sound}
use Rattle.laws_soundness.proofs.Counts.{units_are_few}
use Rattle.laws_soundness.proofs.Names.{function_names_differ}
use Rattle.laws_soundness.proofs.laws.units_are_sound.Goals as goal

pub returns-clause-typed : goal.returns-clause-typed
returns-clause-typed c = units_typed

pub returns-clause-sound : goal.returns-clause-sound
returns-clause-sound c = units_sound

pub returns-clause-few : goal.returns-clause-few
returns-clause-few c = units_are_few

pub returns-clause-names : goal.returns-clause-names
returns-clause-names c = function_names_differ
