-- The first decision with too many conditions.
use Rattle.std.proofs.Common.{inl, inr, arith}
use Rattle.laws_cases.specs.Decisions.{LargeIsAtItsRoot}

pub large_is_at_its_root : LargeIsAtItsRoot
large_is_at_its_root first second at count small large (inl h) = absurd (omega (arith, small, h.0))
large_is_at_its_root first second at count small large (inr (less, inl h)) = h.1
large_is_at_its_root first second at count small large (inr (less, inr (also, none))) = absurd none
