use Rattle.std.proofs.Common.{◌&&◌}
use Rattle.mc_cond.proofs.Bits.{bit_either}
use Rattle.mc_cond.proofs.influence.beside.Goals as goal

pub returns : goal.returns
returns c = λ k x y e f.
    bit_either c.shown.result c.shown-2.result k (c.args.shows_first && x) (c.args.shows_second && y) (c.shown.ensures k x e) (c.shown-2.ensures k y f)
