use Rattle.std.proofs.Common.{true, false}
use Rattle.mc_cond.specs.Tree.{tree_of}
use Rattle.mc_pairs.proofs.Influential.{used}
use Rattle.mc_pairs.proofs.Steps.{said_none}
use Rattle.mc_unique.proofs.Chosen.{chosen_two, none_alike}
use Rattle.mc_unique.proofs.unique.unique_pair.Goals as goal

pub are_paired-requires-clause-first : goal.are_paired-requires-clause-first
are_paired-requires-clause-first c = used (tree_of c.args.numbering.now) c.args.k c.in_ok-pair.pair.0 true c.in_ok-pair.ensures.some.on

pub are_paired-requires-clause-on : goal.are_paired-requires-clause-on
are_paired-requires-clause-on c = c.in_ok-pair.ensures.some.on

pub are_paired-requires-clause-second : goal.are_paired-requires-clause-second
are_paired-requires-clause-second c = used (tree_of c.args.numbering.now) c.args.k c.in_ok-pair.pair.1 false c.in_ok-pair.ensures.some.off

pub returns-in_err-pair-clause-none : goal.returns-in_err-pair-clause-none
returns-in_err-pair-clause-none c =
    let none = rw c.requires.numbering at c.in_err-pair.ensures.none in
    said_none c.from_residual.result (none_alike (tree_of c.args.tree.now) c.args.k c.requires.tree c.args.seen.now none)

pub returns-then-are_paired-clause-chosen : goal.returns-then-are_paired-clause-chosen
returns-then-are_paired-clause-chosen c =
    let two = rw c.requires.numbering at c.in_ok-pair.ensures.some in
    let paired = rw c.requires.numbering at c.are_paired.ensures in
    chosen_two (tree_of c.args.tree.now) c.args.k c.requires.tree c.args.seen.now c.in_ok-pair.pair.0 c.in_ok-pair.pair.1 two (paired.0 c.if-are_paired.true)

pub returns-clause-chosen : goal.returns-clause-chosen
returns-clause-chosen c = rw c.requires.numbering at c.each_compared.ensures.chosen

pub returns-clause-none : goal.returns-clause-none
returns-clause-none c = rw c.requires.numbering at c.each_compared.ensures.none
