use Rattle.types_declarations.proofs.statics.end_faultless.Goals as goal

pub returns-in-Some-value : goal.returns-in-Some-value
returns-in-Some-value c = rw (c.in-Some-of.is, c.in-Some-value.is) c.end_counted.ensures
