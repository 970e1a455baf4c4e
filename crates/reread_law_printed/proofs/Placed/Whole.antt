-- The parts of a text may stand where they do.
use Rattle.std.proofs.Common.{refl}
use Rattle.reread_law_printed.specs.parts.Parts.{parts_of}
use Rattle.reread_law_printed.specs.placed.Laws.{begun, PartsArePlaced}
use Rattle.reread_law_printed.proofs.Placed.Enough.{enough}
use Rattle.reread_law_printed.proofs.Placed.Wording.{parts_spelled}
use Rattle.reread_law_printed.proofs.Placed.Fronts.{fronts_kept}
use Rattle.reread_law_printed.proofs.Placed.Numbers.{rows_said}

pub placed : PartsArePlaced
placed source tokens tree own stands short entries h =
    enough source (begun source tokens tree) 0 (parts_of tokens tree)
    (parts_spelled tokens tree own (rows_said tree short))
    (fronts_kept source tokens tree (begun source tokens tree) 0 stands entries refl)
    h.after h.followed h.inside h.typed
