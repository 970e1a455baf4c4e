-- How many obligations of each kind there are, by their verdicts.
use Rattle.std.specs.Prelude.{ℕ, ◌+◌, Bool, true, false, ◌&&◌, if◌then◌else◌, List, [], ◌∷◌, count_by, codes}
use Rattle.std.specs.List.{concat}
use Rattle.std.specs.Fmt.{decimal}
use Rattle.mc_oblige.specs.declared.obligation.ObligationId.{ObligationId}
use Rattle.mc_oblige.specs.declared.obligation.ObligationId.TheVariants.{Entry, Exit, Statement, Label, Outcome, Condition}
use Rattle.mc_oblige.specs.declared.obligation.Obligation.{Obligation}
use Rattle.mc_oblige.specs.declared.verdict.VerdictState.{VerdictState}
use Rattle.mc_oblige.specs.declared.verdict.VerdictState.TheVariants.{Met, Justified, Stale, Missing}
use Rattle.mc_oblige.specs.declared.verdict.Verdict.{Verdict}
use Rattle.mc_report.specs.declared.kind.Kind.{Kind}
use Rattle.mc_report.specs.declared.kind.Kind.TheVariants.{Entries, Exits, Statements, Labels, Outcomes, Conditions}
use Rattle.mc_report.specs.Words.{newline}

abbrev pub kind_word : Kind → List ℕ
kind_word Entries = codes "entries"
kind_word Exits = codes "exits"
kind_word Statements = codes "statements"
kind_word Labels = codes "labels"
kind_word Outcomes = codes "outcomes"
kind_word Conditions = codes "conditions"

-- the obligation is of this kind
abbrev pub is_kind : Kind → ObligationId → Bool
is_kind Entries (Entry k) = true
is_kind Exits (Exit k) = true
is_kind Statements (Statement k) = true
is_kind Labels (Label k) = true
is_kind Outcomes (Outcome d outcome) = true
is_kind Conditions (Condition d k) = true
is_kind kind id = false

abbrev pub is_verdict : VerdictState → VerdictState → Bool
is_verdict Met Met = true
is_verdict Justified Justified = true
is_verdict Stale Stale = true
is_verdict Missing Missing = true
is_verdict a b = false

-- how many of the kind have this verdict
abbrev pub counted : Kind → VerdictState → List Obligation → List Verdict → ℕ
counted kind asked (o ∷ os) (v ∷ vs) =
    (if is_kind kind o.id && is_verdict asked v.state then 1 else 0) + counted kind asked os vs
counted kind asked _ _ = 0

-- how many there are of the kind
abbrev pub total : Kind → List Obligation → ℕ
total kind os = count_by (λ o. is_kind kind o.id) os

abbrev pub count_line : Kind → List Obligation → List Verdict → List ℕ
count_line kind os vs =
    concat (kind_word kind ∷ codes " met " ∷ decimal (counted kind Met os vs)
    ∷ codes " justified "
    ∷ decimal (counted kind Justified os vs)
    ∷ codes " stale "
    ∷ decimal (counted kind Stale os vs)
    ∷ codes " missing "
    ∷ decimal (counted kind Missing os vs)
    ∷ codes " of "
    ∷ decimal (total kind os)
    ∷ newline
    ∷ [])

abbrev pub count_lines : List Obligation → List Verdict → List (List ℕ)
count_lines os vs =
    count_line Entries os vs
    ∷ count_line Exits os vs
    ∷ count_line Statements os vs
    ∷ count_line Labels os vs
    ∷ count_line Outcomes os vs
    ∷ count_line Conditions os vs
    ∷ []
