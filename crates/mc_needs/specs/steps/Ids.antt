-- A step of the proofs: it follows the code, and no public clause rests on it.
-- One obligation, where it is asked and of its kind.
use Rattle.std.specs.Prelude.{Bool, List, []}
use Rattle.mc_oblige.specs.declared.obligation.ObligationId.{ObligationId}
use Rattle.mc_needs.specs.Asked.{if_condition, if_outcome}

abbrev pub condition_if : Bool → ObligationId → List ObligationId
condition_if is id = if_condition is id []

abbrev pub outcome_if : Bool → ObligationId → List ObligationId
outcome_if is id = if_outcome is id []
