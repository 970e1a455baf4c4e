use Rattle.laws_reread_cases.proofs.pieces.factor_is_grouped.Goals as goal

pub returns : goal.returns
returns c = let h = c.probe_groups.ensures in (h.0, h.1, h.3)
