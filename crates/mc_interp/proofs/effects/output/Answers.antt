use Rattle.mc_interp.proofs.Kept.{kept_then, if_any}
use Rattle.mc_interp.proofs.effects.output.Goals as goal

pub returns-clause-kept : goal.returns-clause-kept
returns-clause-kept g c = if_any c.output.result (kept_then _ _ _ _ _ c.in_ok-word.ensures.kept (c.output.ensures.kept _ _))
