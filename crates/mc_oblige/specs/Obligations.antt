-- The obligations of a program: one for each entry, exit, counted statement and label, and for each
-- decision its two outcomes and its conditions (DO-178C 6.4.4.2), in this order.
use Rattle.std.specs.Prelude.{ℕ, ◌+◌, true, false, List, [], ◌∷◌, ◌++◌}
use Rattle.mc_span.specs.declared.span.Span.{Span}
use Rattle.decide_rules.specs.Decisions.{Decision}
use Rattle.mc_probe.specs.Maps.{Mapped, Map}
use Rattle.mc_oblige.specs.declared.obligation.ObligationId.{ObligationId}
use Rattle.mc_oblige.specs.declared.obligation.ObligationId.TheVariants.{Entry, Exit, Statement, Label, Outcome, Condition}
use Rattle.mc_oblige.specs.declared.obligation.Obligation.{Obligation}

-- one obligation for each place, numbered from k
abbrev pub numbered : (ℕ → ObligationId) → ℕ → List Span → List Obligation
numbered id k [] = []
numbered id k (span ∷ rest) = record { id = id k; span = span } ∷ numbered id (k + 1) rest

-- those that one event shows each, whatever a decision's outcome is
abbrev pub of_places : Map → List Obligation
of_places m =
    numbered Entry 0 m.entries
    ++ (numbered Exit 0 m.exits
    ++ (numbered Statement 0 m.statements
    ++ numbered Label 0 m.labels))

-- the outcomes of a decision stand at its root, true first
abbrev pub of_decision : ℕ → Decision → List Obligation
of_decision d decision =
    record { id = Outcome d true; span = decision.root }
    ∷ record { id = Outcome d false; span = decision.root }
    ∷ numbered (Condition d) 0 decision.conditions

abbrev pub of_decisions : ℕ → List Mapped → List Obligation
of_decisions d [] = []
of_decisions d (m ∷ rest) = of_decision d m.decision ++ of_decisions (d + 1) rest

abbrev pub obligations_of : Map → List Obligation
obligations_of m = of_places m ++ of_decisions 0 m.decisions
