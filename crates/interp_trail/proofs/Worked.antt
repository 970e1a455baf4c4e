-- The worked runs compute.
use Rattle.std.proofs.Common.{refl}
use Rattle.interp_trail.specs.Worked.{TrailsAreWorked}

pub worked : TrailsAreWorked
worked = record {
  returned = refl;
  plain = refl;
  inner = refl;
  after_return = refl;
  at_entry = refl;
  second_call = refl;
  no_value = refl;
  recursion = refl;
}
