use Rattle.mc_record.proofs.BitLines.{fits_all, fits_less}
use Rattle.mc_record.proofs.bits.fits.Goals as goal

pub returns-then-tests-ge64 : goal.returns-then-tests-ge64
returns-then-tests-ge64 c = fits_all c.args.word c.args.tests c.ranges.word.fits c.if-tests-ge64.true

pub returns : goal.returns
returns c = fits_less c.args.word c.args.tests c.ranges.word.fits c.if-tests-ge64.false
