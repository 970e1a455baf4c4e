use Rattle.mc_print.proofs.Held.{holds_moved}
use Rattle.mc_print.proofs.insertions.open_value.Goals as goal

pub returns : goal.returns
returns g c = λ start first p h.
    c.insert.ensures start first _ (c.put_type.ensures start first _ (c.word.ensures start first _
    (holds_moved start first _ _ _ _ _ 1 (c.upto.ensures start first p h) c.skip.ensures.left c.skip.ensures.specifiers c.skip.ensures.gap c.skip.ensures.fault)))
