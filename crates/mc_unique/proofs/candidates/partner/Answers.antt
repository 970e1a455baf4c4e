use Rattle.std.proofs.Common.{false}
use Rattle.mc_cond.specs.Tree.{tree_of}
use Rattle.mc_pairs.proofs.Influential.{used}
use Rattle.mc_unique.proofs.candidates.partner.Goals as goal

pub are_alike-requires-clause-other : goal.are_alike-requires-clause-other
are_alike-requires-clause-other c = used (tree_of c.args.numbering.now) c.args.k c.args.path false (c.has_influence_as.ensures.0 c.if-not-has_influence_as.false)
