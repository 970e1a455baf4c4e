use Rattle.std.proofs.Common.{refl, arith}
use Rattle.reread_pieces.specs.Words.{specifiers}
use Rattle.reread_pieces.specs.Shapes.{hit, registers, label, statement, value_end, bare_return, decision, condition, switch}
use Rattle.reread_pieces.specs.Worked.{spread, misplaced}
use Rattle.reread_pieces.proofs.Steps.{complete, refused}
use Rattle.reread_pieces.proofs.laws.misplaced_probe.Goals as goal

pub returns : goal.returns
unfolding hit registers label statement value_end bare_return decision condition switch specifiers
returns c ps s = refused 80 (spread 0 misplaced) ps refl (complete s 80 (omega arith))
