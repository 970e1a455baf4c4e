-- The lines of what is needed.
use Rattle.std.specs.Prelude.{ℕ, Bool, if◌then◌else◌, Option, Some, None, List, [], ◌∷◌, ◌++◌, map}
use Rattle.mc_probe.specs.Maps.{Mapped}
use Rattle.mc_oblige.specs.declared.obligation.ObligationId.{ObligationId}
use Rattle.mc_oblige.specs.declared.obligation.ObligationId.TheVariants.{Condition}
use Rattle.mc_oblige.specs.declared.obligation.Obligation.{Obligation}
use Rattle.needed_paths.specs.declared.need.Need.{Need}
use Rattle.needs_lines.specs.Report.{NeedsReport, decision_of}
use Rattle.needs_lines.specs.Needed.{head_line}
use Rattle.needs_lines.specs.Conditions.{asked_vectors, condition_lines}
use Rattle.needs_lines.specs.Remarks.{remark_lines}
use Rattle.needs_lines.specs.Wanted.{wanted_line}

-- the conditions of the decision with the values that are asked of them, and the remarks on them
abbrev pub decision_lines : NeedsReport → Option Mapped → Option Need → List (List ℕ)
decision_lines r None need = []
decision_lines r (Some m) None = []
decision_lines r (Some m) (Some need) =
    condition_lines r.source (asked_vectors m.decision.tree need) 0 m.decision.conditions
    ++ remark_lines r.tokens m.decision.conditions

-- a condition has those of its decision
abbrev pub lines_below : NeedsReport → ObligationId → Option Need → List (List ℕ)
lines_below r (Condition d k) need = decision_lines r (decision_of r.decisions (Condition d k)) need
lines_below r id need = []

abbrev pub obligation_lines : NeedsReport → Obligation → Option Need → List (List ℕ)
obligation_lines r o need = head_line r o need ∷ lines_below r o.id need

-- of each obligation that is asked about, in their order
abbrev pub asked_lines : NeedsReport → List Obligation → List Bool → List (Option Need)
    → List (List ℕ)
asked_lines r (o ∷ os) (is ∷ asked) (need ∷ needs) =
    (if is then obligation_lines r o need else []) ++ asked_lines r os asked needs
asked_lines r _ _ _ = []

-- the obligations that are asked about, and then the wanted vectors
abbrev pub needs_lines : NeedsReport → List (List ℕ)
needs_lines r =
    asked_lines r r.obligations r.asked r.needs.each
    ++ map (wanted_line r.decisions) r.needs.wanted
