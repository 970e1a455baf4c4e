-- The decision that a need is of.
use Rattle.std.proofs.Common.{◌≡◌, ◌<◌, ℕ, List, Option, Some, length, map, get_or, ap, subst}
use Rattle.std.specs.Prelude.{slice_get}
use Rattle.mc_probe.specs.declared.mapped.MappedDecision.{MappedDecision}
use Rattle.mc_probe.specs.Mapped.{mapped_of}
use Rattle.mc_probe.specs.Maps.{Mapped}
use Rattle.needed_paths.specs.declared.need.Need.{Need}
use Rattle.needed_paths.specs.declared.need.Need.TheVariants.{Vector, Beside, Both}
use Rattle.evidence_texts.proofs.Paths.{decision_there, is_there}
use Rattle.needs_lines.specs.Report.{IsOf, NeedsReport}
use Rattle.needs_lines.specs.Text.{decision_lines}

-- it is there
pub there : (tests : ℕ) (ds : List MappedDecision) (d : ℕ) (need : Need) → IsOf tests (slice_get (map mapped_of ds) d) (Some need) → d < length ds
there tests ds d (Vector path) is = is_there ds d path is
there tests ds d (Beside path partner test) is = is_there ds d path is.0
there tests ds d (Both first second) is = is_there ds d first is.0

-- and the need is of it
pub of_it : (tests : ℕ) (ds : List MappedDecision) (d : ℕ) (m : MappedDecision) (need : Need) → m ≡ get_or ds d m → IsOf tests (slice_get (map mapped_of ds) d) (Some need) → IsOf tests (Some (mapped_of m)) (Some need)
of_it tests ds d m need at is =
    let P : Option Mapped → Type 0 = λ o. IsOf tests o (Some need) in
    subst P (decision_there ds d m (there tests ds d need is) at) is

pub its_lines : (r : NeedsReport) (tests : ℕ) (ds : List MappedDecision) (d : ℕ) (m : MappedDecision) (need : Need) → m ≡ get_or ds d m → IsOf tests (slice_get (map mapped_of ds) d) (Some need) → decision_lines r (slice_get (map mapped_of ds) d) (Some need) ≡ decision_lines r (Some (mapped_of m)) (Some need)
its_lines r tests ds d m need at is = ap (λ (o : Option Mapped). decision_lines r o (Some need)) (decision_there ds d m (there tests ds d need is) at)
