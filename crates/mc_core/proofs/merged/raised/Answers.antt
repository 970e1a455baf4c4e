use Rattle.mc_core.proofs.Merging.{raised_low, raised_high}
use Rattle.mc_core.proofs.merged.raised.Goals as goal

pub returns-clause-low : goal.returns-clause-low
returns-clause-low c = λ j low. raised_low c.args.word c.args.shift j c.requires low

pub returns-clause-high : goal.returns-clause-high
returns-clause-high c = λ j high few. raised_high c.args.word c.args.shift j high few
