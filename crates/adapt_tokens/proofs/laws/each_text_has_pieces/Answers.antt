use Rattle.std.proofs.Common.{length, [], arith}
use Rattle.adapt_tokens.proofs.Cutting.{some_cut}
use Rattle.adapt_tokens.proofs.laws.each_text_has_pieces.Goals as goal

pub returns : goal.returns
returns c = λ bs. some_cut (length bs) [] bs (omega arith)
