use Rattle.std.proofs.Common.{◌<◌, ℕ}
use Rattle.mc_cond.specs.Tree.{tree_of}
use Rattle.mc_paths.specs.Paths.{count_of}
use Rattle.mc_reduce.proofs.Pairing.{rest_rises, rest_fits, rest_some}
use Rattle.mc_reduce.proofs.pairs.pair_near.Goals as goal

pub first_pair-requires-clause-ascending : goal.first_pair-requires-clause-ascending
first_pair-requires-clause-ascending c = rest_rises c.place_of-low.result c.args.seen.now c.requires.ascending

pub first_pair-requires-clause-paths : goal.first_pair-requires-clause-paths
first_pair-requires-clause-paths c =
    rest_fits (λ (path : ℕ). path < count_of (tree_of c.args.mapped.now.decision.tree)) c.place_of-low.result c.args.seen.now c.requires.paths

pub returns : goal.returns
returns c =
    rest_some c.args.mode (tree_of c.args.mapped.now.decision.tree) c.args.k c.place_of-low.result c.args.seen.now c.first_pair.result c.first_pair.ensures.some
