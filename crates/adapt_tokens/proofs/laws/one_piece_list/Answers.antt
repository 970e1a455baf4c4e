use Rattle.std.proofs.Common.{[]}
use Rattle.adapt_tokens.proofs.Cutting.{one_cut}
use Rattle.adapt_tokens.proofs.laws.one_piece_list.Goals as goal

pub returns : goal.returns
returns c = λ bs ps qs h g. one_cut [] bs ps qs h g
