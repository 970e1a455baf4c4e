use Rattle.mc_print.proofs.Held.{holds_noted}
use Rattle.mc_print.proofs.functions.front.Goals as goal

pub returns : goal.returns
returns g c = λ start first p h.
    c.put_entry.ensures start first _ (c.put_registers.ensures start first _ (c.into_body.ensures start first _ (c.upto.ensures start first _
    (holds_noted start first p _ _ _ _ _ h c.note.ensures.left c.note.ensures.specifiers c.note.ensures.gap c.note.ensures.fault))))
