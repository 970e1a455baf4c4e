use Rattle.laws_reread_cases.proofs.pieces.hit_between_statements.Goals as goal

pub returns : goal.returns
returns c = c.misplaced_probe.ensures
