-- Kinds of obligations, which are counted apart.
use Rattle.std.specs.Prelude.{ℕ, Bool, true, false, List, codes}
use Rattle.mc_oblige.specs.declared.obligation.ObligationId.{ObligationId}
use Rattle.mc_oblige.specs.declared.obligation.ObligationId.TheVariants.{Entry, Exit, Statement, Label, Outcome, Condition}
use Rattle.mc_functions.specs.declared.kind.Kind.{Kind}
use Rattle.mc_functions.specs.declared.kind.Kind.TheVariants.{Entries, Exits, Statements, Labels, Outcomes, Conditions}

abbrev pub kind_word : Kind → List ℕ
kind_word Entries = codes "entries"
kind_word Exits = codes "exits"
kind_word Statements = codes "statements"
kind_word Labels = codes "labels"
kind_word Outcomes = codes "outcomes"
kind_word Conditions = codes "conditions"

abbrev pub kind_of : ObligationId → Kind
kind_of (Entry k) = Entries
kind_of (Exit k) = Exits
kind_of (Statement k) = Statements
kind_of (Label k) = Labels
kind_of (Outcome d outcome) = Outcomes
kind_of (Condition d k) = Conditions

abbrev pub same_kind : Kind → Kind → Bool
same_kind Entries Entries = true
same_kind Exits Exits = true
same_kind Statements Statements = true
same_kind Labels Labels = true
same_kind Outcomes Outcomes = true
same_kind Conditions Conditions = true
same_kind a b = false
