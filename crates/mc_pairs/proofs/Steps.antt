-- Small steps of the proofs of both kinds of independence.
use Rattle.std.proofs.Common.{Option, Some, None}
use Rattle.std.specs.Prelude.{IfNone}

-- what holds is said of a `None` too
pub said_none : {A Q : Type 0} (result : Option A) → Q → IfNone result Q
said_none None q = q
said_none (Some x) q = tt
