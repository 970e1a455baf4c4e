use Rattle.laws_reread_cases.proofs.probes.colon_of_a_choice.Goals as goal

pub returns : goal.returns
returns c = c.colon_is_no_label.ensures
