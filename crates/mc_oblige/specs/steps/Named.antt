-- Verdicts before and after obligations are named.
use Rattle.std.specs.Prelude.{ℕ, zero, suc, true, false, List, [], ◌∷◌, Some, None}
use Rattle.mc_oblige.specs.declared.justification.Justification.{Justification}
use Rattle.mc_oblige.specs.declared.verdict.Evidence.{Evidence}
use Rattle.mc_oblige.specs.declared.verdict.Verdict.{Verdict}
use Rattle.mc_oblige.specs.Verdicts.{is_shown, state_of}

abbrev pub unnamed : Evidence → Verdict
unnamed e = record { state = state_of (is_shown e) false; evidence = e; reason = None }

abbrev pub named_by : List ℕ → Verdict → Verdict
named_by reason v = record {
  state = state_of (is_shown v.evidence) true;
  evidence = v.evidence;
  reason = Some reason;
}

-- the verdict at a position is named
abbrev pub named_at : ℕ → List ℕ → List Verdict → List Verdict
named_at k reason [] = []
named_at zero reason (v ∷ vs) = named_by reason v ∷ vs
named_at (suc k) reason (v ∷ vs) = v ∷ named_at k reason vs

-- each justification names one, in order
abbrev pub all_named : List Verdict → List Justification → List Verdict
all_named vs [] = vs
all_named vs (j ∷ js) = all_named (named_at j.obligation j.reason vs) js
