use Rattle.std.proofs.Common.{arith}
use Rattle.mc_cover.proofs.closer.PlainCloserCloser.close.Goals as goal

pub returns-clause-pairs : goal.returns-clause-pairs
returns-clause-pairs c b t = let p = c.close.ensures.pairs b t in ((λ h. (p.0 h, λ e. absurd (omega (arith, e.1)))), (λ h. p.1 h.0))
