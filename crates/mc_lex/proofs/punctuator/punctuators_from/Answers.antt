use Rattle.std.proofs.Common.{refl, arith}
use Rattle.std.proofs.lemmas.Bool.Decides.{nat_tests}
use Rattle.mc_lex.specs.steps.Scanner.{punctuators_and_openings}
use Rattle.mc_lex.proofs.punctuator.punctuators_from.Goals as goal

pub returns-in-91 : goal.returns-in-91
unfolding punctuators_and_openings
returns-in-91 c = rw c.in-91.is refl

pub returns-in-93 : goal.returns-in-93
unfolding punctuators_and_openings
returns-in-93 c = rw c.in-93.is refl

pub returns-in-40 : goal.returns-in-40
unfolding punctuators_and_openings
returns-in-40 c = rw c.in-40.is refl

pub returns-in-41 : goal.returns-in-41
unfolding punctuators_and_openings
returns-in-41 c = rw c.in-41.is refl

pub returns-in-123 : goal.returns-in-123
unfolding punctuators_and_openings
returns-in-123 c = rw c.in-123.is refl

pub returns-in-125 : goal.returns-in-125
unfolding punctuators_and_openings
returns-in-125 c = rw c.in-125.is refl

pub returns-in-44 : goal.returns-in-44
unfolding punctuators_and_openings
returns-in-44 c = rw c.in-44.is refl

pub returns-in-59 : goal.returns-in-59
unfolding punctuators_and_openings
returns-in-59 c = rw c.in-59.is refl

pub returns-in-63 : goal.returns-in-63
unfolding punctuators_and_openings
returns-in-63 c = rw c.in-63.is refl

pub returns-in-126 : goal.returns-in-126
unfolding punctuators_and_openings
returns-in-126 c = rw c.in-126.is refl

pub returns-in-61 : goal.returns-in-61
unfolding punctuators_and_openings
returns-in-61 c = rw c.in-61.is refl

pub returns-in-43 : goal.returns-in-43
unfolding punctuators_and_openings
returns-in-43 c = rw c.in-43.is refl

pub returns-in-45 : goal.returns-in-45
unfolding punctuators_and_openings
returns-in-45 c = rw c.in-45.is refl

pub returns-in-42 : goal.returns-in-42
unfolding punctuators_and_openings
returns-in-42 c = rw c.in-42.is refl

pub returns-in-47 : goal.returns-in-47
unfolding punctuators_and_openings
returns-in-47 c = rw c.in-47.is refl

pub returns-in-37 : goal.returns-in-37
unfolding punctuators_and_openings
returns-in-37 c = rw c.in-37.is refl

pub returns-in-60 : goal.returns-in-60
unfolding punctuators_and_openings
returns-in-60 c = rw c.in-60.is refl

pub returns-in-62 : goal.returns-in-62
unfolding punctuators_and_openings
returns-in-62 c = rw c.in-62.is refl

pub returns-in-38 : goal.returns-in-38
unfolding punctuators_and_openings
returns-in-38 c = rw c.in-38.is refl

pub returns-in-124 : goal.returns-in-124
unfolding punctuators_and_openings
returns-in-124 c = rw c.in-124.is refl

pub returns-in-94 : goal.returns-in-94
unfolding punctuators_and_openings
returns-in-94 c = rw c.in-94.is refl

pub returns-in-33 : goal.returns-in-33
unfolding punctuators_and_openings
returns-in-33 c = rw c.in-33.is refl

pub returns-in-58 : goal.returns-in-58
unfolding punctuators_and_openings
returns-in-58 c = rw c.in-58.is refl

pub returns-in-46 : goal.returns-in-46
unfolding punctuators_and_openings
returns-in-46 c = rw c.in-46.is refl

pub returns-in-34 : goal.returns-in-34
unfolding punctuators_and_openings
returns-in-34 c = rw c.in-34.is refl

pub returns-in-76 : goal.returns-in-76
unfolding punctuators_and_openings
returns-in-76 c = rw c.in-76.is refl

pub returns-in-117 : goal.returns-in-117
unfolding punctuators_and_openings
returns-in-117 c = rw c.in-117.is refl

pub returns-in-85 : goal.returns-in-85
unfolding punctuators_and_openings
returns-in-85 c = rw c.in-85.is refl

pub returns-in_default : goal.returns-in_default
unfolding punctuators_and_openings
returns-in_default c = grind (arith, nat_tests)
