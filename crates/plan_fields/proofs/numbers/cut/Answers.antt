use Rattle.std.proofs.Common.{arith}
use Rattle.plan_fields.proofs.Pieces.{pieces_cut, pieces_whole}
use Rattle.plan_fields.proofs.numbers.cut.Goals as goal

pub returns-then-at-text-clause-pieces : goal.returns-then-at-text-clause-pieces
returns-then-at-text-clause-pieces c = pieces_whole c.args.text.now (omega arith)

pub returns-else-at-text-clause-pieces : goal.returns-else-at-text-clause-pieces
returns-else-at-text-clause-pieces c = pieces_cut c.args.text.now c.piece_len-at.result c.piece_len-at.ensures.value (omega arith)
