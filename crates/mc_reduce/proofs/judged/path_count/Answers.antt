use Rattle.std.proofs.Common.{ap, ◌∙◌}
use Rattle.mc_paths.specs.Paths.{count_of}
use Rattle.mc_reduce.proofs.Trees.{same_tree}
use Rattle.mc_reduce.proofs.judged.path_count.Goals as goal

pub returns : goal.returns
returns c = c.count.ensures.count ∙ ap count_of (same_tree c.args.mapped.now)
