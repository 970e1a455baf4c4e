use Rattle.std.proofs.Common.{◌∙◌, sym, ap}
use Rattle.mc_list.specs.Lines.{lines_of}
use Rattle.mc_list.proofs.Joining.{split_again}
use Rattle.mc_list.proofs.laws.lines_are_one.Goals as goal

pub returns : goal.returns
returns c = λ text lines are. sym (split_again lines are.each) ∙ ap lines_of are.whole
