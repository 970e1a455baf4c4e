use Rattle.std.proofs.Common.{refl}
use Rattle.reread_pieces.specs.Words.{specifiers}
use Rattle.reread_pieces.specs.Shapes.{hit, registers, label, statement, value_end, bare_return, decision, condition, switch}
use Rattle.reread_pieces.specs.Pieces.{start}
use Rattle.reread_pieces.specs.Worked.{spread, function}
use Rattle.reread_pieces.proofs.Steps.{found, sound}
use Rattle.reread_probes.proofs.laws.function_with_probes.Goals as goal

pub returns : goal.returns
unfolding hit registers label statement value_end bare_return decision condition switch specifiers
returns c =
    let ps = found 80 (spread 0 function) in
    (ps, sound 80 (start (spread 0 function)) (spread 0 function) ps refl, refl)
