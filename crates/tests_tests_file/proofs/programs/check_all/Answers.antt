use Rattle.std.proofs.Common.{arith, rules}
use Rattle.tests_tests_file.proofs.Short.{all_short}
use Rattle.tests_tests_file.proofs.programs.check_all.Goals as goal

pub check_tokens-checked-requires-clause-short : goal.check_tokens-checked-requires-clause-short
check_tokens-checked-requires-clause-short g c =
    rw c.deref.ensures.value (all_short _ c.in-Ok.tokens.items (search rules) c.in-Ok.ensures.slices)
