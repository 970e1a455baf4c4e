-- The lines of wanted vectors.
use Rattle.std.specs.Prelude.{ℕ, ◌+◌, Bool, Option, Some, None, List, [], ◌∷◌, ◌++◌, codes, slice_get}
use Rattle.std.specs.List.{concat}
use Rattle.std.specs.Fmt.{decimal}
use Rattle.mc_probe.specs.Maps.{Mapped}
use Rattle.mc_oblige.specs.Ids.{id_text}
use Rattle.mc_oblige.specs.declared.obligation.ObligationId.TheVariants.{Outcome, Condition}
use Rattle.needed_paths.specs.declared.wanted.Wanted.{Wanted}
use Rattle.evidence_texts.specs.Paths.{path_text}
use Rattle.needs_lines.specs.Needed.{newline}

-- the missing outcome of decision d that it is the first to have
abbrev pub outcome_name : ℕ → Option Bool → List ℕ
outcome_name d None = []
outcome_name d (Some outcome) = codes " " ++ id_text (Outcome d outcome)

-- the condition of decision d that it was put on the list for
abbrev pub condition_name : ℕ → Option ℕ → List ℕ
condition_name d None = []
condition_name d (Some k) = codes " " ++ id_text (Condition d k)

-- the decision, numbered from 1, the vector, and what it is wanted for
abbrev pub wanted_line : List Mapped → Wanted → List ℕ
wanted_line decisions w =
    concat (codes "want D" ∷ decimal (w.decision + 1)
    ∷ path_text (slice_get decisions w.decision) w.path
    ∷ codes " for"
    ∷ outcome_name w.decision w.outcome
    ∷ condition_name w.decision w.condition
    ∷ newline
    ∷ [])
