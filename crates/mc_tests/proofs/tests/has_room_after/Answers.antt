use Rattle.std.proofs.Common.{◌≡◌, ◌+◌, length, nat_le, true, arith}
use Rattle.std.proofs.lemmas.Bool.Decides.{nat_tests}
use Rattle.mc_tests.proofs.tests.has_room_after.Goals as goal

pub returns-then-done-lt-MAX_TESTS : goal.returns-then-done-lt-MAX_TESTS
returns-then-done-lt-MAX_TESTS c = λ fuel.
    let room : nat_le (length c.args.done.now + 1) 4096 ≡ true = grind (arith, nat_tests) in
    rw room (c.fits_alone.ensures fuel)
