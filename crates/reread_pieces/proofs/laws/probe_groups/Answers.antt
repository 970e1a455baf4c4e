use Rattle.std.proofs.Common.{refl}
use Rattle.reread_pieces.specs.Words.{specifiers}
use Rattle.reread_pieces.specs.Shapes.{hit, registers, label, statement, value_end, bare_return, decision, condition, switch}
use Rattle.reread_pieces.specs.Pieces.{start}
use Rattle.reread_pieces.specs.Worked.{spread, product}
use Rattle.reread_pieces.proofs.Steps.{found, sound}
use Rattle.reread_pieces.proofs.laws.probe_groups.Goals as goal

pub returns : goal.returns
unfolding hit registers label statement value_end bare_return decision condition switch specifiers
returns c =
    let ps = found 80 (spread 0 product) in
    (ps, sound 80 (start (spread 0 product)) (spread 0 product) ps refl, refl, refl)
