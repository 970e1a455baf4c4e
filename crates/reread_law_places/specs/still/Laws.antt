-- Probes do not depend on places: a program at other places has the same probes with the same
-- numbers.
use Rattle.std.specs.Prelude.{◌≡◌, List, map, All}
use Rattle.mc_typed.specs.Tree.{Program}
use Rattle.decide_rules.specs.Decisions.{Decision, AreDecisions}
use Rattle.mc_probe.specs.Maps.{Map, IsMapOf}
use Rattle.mc_probe.specs.Table.{instrumented}
use Rattle.reread_law_texts.specs.alike.Moves.{Move}
use Rattle.reread_law_places.specs.natural.Moved.{moved_program}
use Rattle.reread_law_places.specs.natural.Settled.{settled}
use Rattle.reread_law_places.specs.still.Unplaced.{unplaced}

-- the second program is the first one at other places
abbrev pub IsMoved : Program → Program → Type 0
IsMoved p q = (m : Move) × (settled q ≡ settled (moved_program m p))

-- It has as many decisions, with the same trees.
abbrev pub DecisionsStay : Type 0
DecisionsStay =
    (p q : Program) (ds : List Decision) → IsMoved p q → AreDecisions p.functions ds
    → (es : List Decision) × AreDecisions q.functions es
    × (map (λ e. e.tree) es ≡ map (λ d. d.tree) ds)

-- It has a map with as many bits, and with that map the same tree with probes, places left out.
abbrev pub ProbesStay : Type 0
ProbesStay =
    (p q : Program) (m : Map) → IsMoved p q → IsMapOf p m
    → (n : Map) × IsMapOf q n × (n.bits ≡ m.bits)
    × (unplaced (instrumented n q) ≡ unplaced (instrumented m p))
