use Rattle.laws_types.proofs.SourceBodies.{declarations_make_objects}
use Rattle.laws_types.proofs.laws.declarations_make_objects.Goals as goal

pub returns : goal.returns
returns c = declarations_make_objects
