use Rattle.std.proofs.Common.{◌<◌, ℕ, Contains, get_or, arith}
use Rattle.std.proofs.lemmas.List.Elements.{Contains-get_or}
use Rattle.mc_cond.specs.Tree.{tree_of}
use Rattle.mc_paths.specs.Paths.{count_of}
use Rattle.mc_pairs.proofs.Least.{later_greater}
use Rattle.mc_reduce.proofs.Pairing.{two_rise, two_fit, two_some}
use Rattle.mc_reduce.proofs.pairs.pair_at.Goals as goal

pub first_pair-requires-clause-ascending : goal.first_pair-requires-clause-ascending
first_pair-requires-clause-ascending c =
    let seen = c.args.seen.now in
    two_rise (get_or seen c.args.low 0) (get_or seen c.args.high 0) (later_greater seen c.args.low c.args.high c.requires.ascending c.requires.order c.requires.high)

pub first_pair-requires-clause-paths : goal.first_pair-requires-clause-paths
first_pair-requires-clause-paths c =
    let seen = c.args.seen.now in
    let order = c.requires.order in
    let inside = c.requires.high in
    two_fit (λ (path : ℕ). path < count_of (tree_of c.args.mapped.now.decision.tree)) (get_or seen c.args.low 0) (get_or seen c.args.high 0) seen c.requires.paths
    (Contains-get_or seen c.args.low 0 (omega (arith, order, inside))) (Contains-get_or seen c.args.high 0 inside)

pub returns : goal.returns
returns c =
    let seen = c.args.seen.now in
    let order = c.requires.order in
    let inside = c.requires.high in
    two_some c.args.mode (tree_of c.args.mapped.now.decision.tree) c.args.k (get_or seen c.args.low 0) (get_or seen c.args.high 0) seen c.first_pair.result
    (Contains-get_or seen c.args.low 0 (omega (arith, order, inside))) (Contains-get_or seen c.args.high 0 inside) c.first_pair.ensures.some
