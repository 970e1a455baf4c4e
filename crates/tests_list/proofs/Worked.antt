-- The listings compute.
use Rattle.std.proofs.Common.{refl}
use Rattle.std.specs.Fmt.{digits}
use Rattle.tests_list.specs.Rows.{OneLine, Marked, LineEnds}
use Rattle.tests_list.specs.Flap.{Flap}

pub one_line : OneLine
unfolding digits
one_line = (refl, refl)

pub marked : Marked
unfolding digits
marked = (refl, refl, refl, refl)

pub line_ends : LineEnds
unfolding digits
line_ends = (refl, refl)

pub flap_listed : Flap
unfolding digits
flap_listed = refl
