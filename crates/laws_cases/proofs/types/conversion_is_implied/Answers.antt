use Rattle.laws_cases.proofs.types.conversion_is_implied.Goals as goal

pub returns : goal.returns
returns c a e span h = h
