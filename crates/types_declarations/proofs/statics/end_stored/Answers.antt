use Rattle.types_declarations.proofs.statics.end_stored.Goals as goal

pub returns-in-None : goal.returns-in-None
returns-in-None c = rw c.in-None.is c.end_faultless.ensures
