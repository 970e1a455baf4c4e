use Rattle.std.proofs.Common.{refl}
use Rattle.mc_print.proofs.Held.{holds_word}
use Rattle.mc_print.proofs.pen.word.Goals as goal

pub returns : goal.returns
returns g c = λ start first p h.
    holds_word start first p _ _ _ _ c.args.pen.now _ c.args.text.now c.bytes_of.result.now h c.bytes_of.ensures c.put_more-pen.ensures.bytes c.put_more-pen.ensures.later refl refl c.after-pen.ensures
