use Rattle.laws_cases.proofs.Told.{wrong_answers}
use Rattle.laws_cases.proofs.names.each_text_is_told.Goals as goal

pub returns : goal.returns
returns c = wrong_answers
