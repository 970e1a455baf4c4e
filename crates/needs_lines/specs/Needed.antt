-- The line of an obligation that is asked about.
use Rattle.std.specs.Prelude.{ℕ, Option, Some, None, List, [], ◌∷◌, codes}
use Rattle.std.specs.List.{concat}
use Rattle.mc_probe.specs.Maps.{Mapped}
use Rattle.mc_oblige.specs.Ids.{id_text}
use Rattle.mc_oblige.specs.declared.obligation.Obligation.{Obligation}
use Rattle.mc_places.specs.Places.{place_text}
use Rattle.needed_paths.specs.declared.need.Need.{Need}
use Rattle.needed_paths.specs.declared.need.Need.TheVariants.{Vector, Beside, Both}
use Rattle.evidence_texts.specs.Names.{name_text}
use Rattle.evidence_texts.specs.Paths.{path_text}
use Rattle.needs_lines.specs.Report.{NeedsReport, decision_of}

-- each line ends with LF
abbrev pub newline : List ℕ
newline = 10 ∷ []

-- one vector, one vector beside an evaluated one with its least test, or two vectors
abbrev pub need_text : List (List ℕ) → Option Mapped → Option Need → List ℕ
need_text names decision None = []
need_text names decision (Some (Vector path)) =
    concat (codes " needs" ∷ path_text decision path ∷ [])
need_text names decision (Some (Beside path partner test)) =
    concat (codes " needs" ∷ path_text decision path ∷ codes " beside"
    ∷ path_text decision partner
    ∷ name_text names test
    ∷ [])
need_text names decision (Some (Both first second)) =
    concat (codes " needs" ∷ path_text decision first ∷ codes " and"
    ∷ path_text decision second
    ∷ [])

-- which obligation, its place, and what it needs
abbrev pub head_line : NeedsReport → Obligation → Option Need → List ℕ
head_line r o need =
    concat (id_text o.id ∷ codes " " ∷ place_text r.source o.span.start ∷ codes " missing"
    ∷ need_text r.names (decision_of r.decisions o.id) need
    ∷ newline
    ∷ [])
