-- Tests that a closer skips.
use Rattle.std.specs.Prelude.{◌↔◌, ℕ, List, [], ◌∷◌, Contains}
use Rattle.mc_typed.specs.Tree.{Program}
use Rattle.mc_typed.specs.Plans.{Plan}
use Rattle.mc_steps.specs.Events.{Event}
use Rattle.mc_meaning.specs.Tests.{Stands}

-- an event stands under a test where it is in its plain run and the test is not skipped, whichever
-- others are
abbrev pub SkippedShowNothing : Type 0
SkippedShowNothing =
    (skipped : List ℕ) (p : Program) (plans : List Plan) (e : Event) (test : ℕ)
    → Stands skipped p plans e test ↔ (Stands [] p plans e test × ¬ Contains skipped test)

-- of two tests the second one is skipped: under the first one all stands that stood
abbrev pub FirstIsNotSkipped : Type 0
FirstIsNotSkipped =
    (p : Program) (first second : Plan) (e : Event)
    → (Stands (1 ∷ []) p (first ∷ second ∷ []) e 0 ↔ Stands [] p (first ∷ second ∷ []) e 0)
    × ¬ Stands (1 ∷ []) p (first ∷ second ∷ []) e 1
