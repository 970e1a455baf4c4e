-- What is asked about, when it is asked what is needed, and the sums of that.
use Rattle.std.specs.Prelude.{ℕ, Bool, ◌&&◌, List, [], ◌∷◌, codes}
use Rattle.std.specs.List.{concat}
use Rattle.std.specs.Fmt.{decimal}
use Rattle.mc_oblige.specs.declared.obligation.Obligation.{Obligation}
use Rattle.mc_oblige.specs.declared.verdict.Verdict.{Verdict}
use Rattle.mc_oblige.specs.declared.verdict.VerdictState.TheVariants.{Missing}
use Rattle.mc_functions.specs.declared.counts.Counts.{Counts}
use Rattle.mc_functions.specs.Counts.{is_verdict}
use Rattle.mc_functions.specs.Measured.{Measured, all_counts, elsewhere, is_counted}
use Rattle.mc_functions.specs.Status.{status_of}
use Rattle.mc_functions.specs.Text.{newline, others, status_line}

-- it is missing, and is one of those that are counted
abbrev pub is_asked : Measured → Obligation → Verdict → Bool
is_asked m o v = is_counted m o && is_verdict Missing v.state

abbrev pub asked_from : Measured → List Obligation → List Verdict → List Bool
asked_from m (o ∷ os) (v ∷ vs) = is_asked m o v ∷ asked_from m os vs
asked_from m _ _ = []

-- for each obligation whether it is asked about
abbrev pub asked_in : Measured → List Bool
asked_in m = asked_from m m.obligations m.verdicts

-- how many obligations are missing, how many vectors are wanted, and how many obligations are stale
abbrev pub missing_text : Counts → (wanted : ℕ) → List ℕ
missing_text c wanted =
    concat (codes "missing " ∷ decimal c.missing ∷ codes " wanted " ∷ decimal wanted
    ∷ codes " stale "
    ∷ decimal c.stale
    ∷ [])

-- the same, and how many obligations stand in other files
abbrev pub missing_line : Measured → (wanted : ℕ) → List ℕ
missing_line m wanted =
    concat (missing_text (all_counts m) wanted ∷ others m.file (elsewhere m) ∷ newline ∷ [])

-- these sums, and the status
abbrev pub needs_sums : Measured → (wanted : ℕ) → List (List ℕ)
needs_sums m wanted = missing_line m wanted ∷ status_line (status_of m) ∷ []
