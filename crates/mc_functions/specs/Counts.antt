-- How many obligations have which verdict.
use Rattle.std.specs.Prelude.{ℕ, ◌+◌, ◌*◌, ◌/◌, Bool, true, false, ◌&&◌, if◌then◌else◌, List, ◌∷◌, max}
use Rattle.mc_oblige.specs.declared.obligation.Obligation.{Obligation}
use Rattle.mc_oblige.specs.declared.verdict.VerdictState.{VerdictState}
use Rattle.mc_oblige.specs.declared.verdict.VerdictState.TheVariants.{Met, Justified, Stale, Missing}
use Rattle.mc_oblige.specs.declared.verdict.Verdict.{Verdict}
use Rattle.mc_functions.specs.declared.counts.Counts.{Counts}
use Rattle.mc_functions.specs.declared.row.Row.{Row}
use Rattle.mc_functions.specs.declared.kind.Kind.{Kind}
use Rattle.mc_functions.specs.declared.kind.Kind.TheVariants.{Entries, Exits, Statements, Labels, Outcomes, Conditions}

abbrev pub is_verdict : VerdictState → VerdictState → Bool
is_verdict Met Met = true
is_verdict Justified Justified = true
is_verdict Stale Stale = true
is_verdict Missing Missing = true
is_verdict a b = false

-- how many of the chosen obligations have this verdict
abbrev pub counted : (Obligation → Bool) → VerdictState → List Obligation → List Verdict → ℕ
counted chosen asked (o ∷ os) (v ∷ vs) =
    (if chosen o && is_verdict asked v.state then 1 else 0) + counted chosen asked os vs
counted chosen asked _ _ = 0

abbrev pub counts_of : (Obligation → Bool) → List Obligation → List Verdict → Counts
counts_of chosen os vs =
    record {
      met = counted chosen Met os vs;
      justified = counted chosen Justified os vs;
      stale = counted chosen Stale os vs;
      missing = counted chosen Missing os vs;
    }

abbrev pub of_verdict : VerdictState → Counts → ℕ
of_verdict Met c = c.met
of_verdict Justified c = c.justified
of_verdict Stale c = c.stale
of_verdict Missing c = c.missing

abbrev pub of_kind : Kind → Row → Counts
of_kind Entries r = r.entries
of_kind Exits r = r.exits
of_kind Statements r = r.statements
of_kind Labels r = r.labels
of_kind Outcomes r = r.outcomes
of_kind Conditions r = r.conditions

abbrev pub total : Counts → ℕ
total c = c.met + c.justified + c.stale + c.missing

-- of all these the part that is met, in whole hundredths, rounded down; what is justified is not
-- met
abbrev pub percentage : Counts → ℕ
percentage c = (c.met * 100) / total c

abbrev pub all_in : Row → ℕ
all_in r =
    total r.entries + total r.exits + total r.statements + total r.labels + total r.outcomes
    + total r.conditions

-- the greatest number of obligations of a kind
abbrev pub most_in : Row → ℕ
most_in r =
    max (total r.entries) (max (total r.exits) (max (total r.statements)
    (max (total r.labels) (max (total r.outcomes) (total r.conditions)))))
