use Rattle.types_declarations.proofs.statics.end_static.Goals as goal

pub returns : goal.returns
returns c = c.end_stored-ended.ensures
