use Rattle.std.proofs.Common.{true, false, not}
use Rattle.mc_cond.specs.Tree.{tree_of}
use Rattle.mc_pairs.proofs.Influential.{used}
use Rattle.mc_pairs.proofs.Steps.{said_none}
use Rattle.mc_masking.proofs.Pairs.{as_to, least_by, other_by, chosen_first, chosen_other, none_first, none_second, none_true}
use Rattle.mc_masking.proofs.masking.masking_pair.Goals as goal

pub outcome_of-outcome-requires : goal.outcome_of-outcome-requires
outcome_of-outcome-requires c = used (tree_of c.args.numbering.now) c.args.k c.in_ok-first.first true c.in_ok-first.ensures.some.fits

pub returns-in_err-first-clause-none : goal.returns-in_err-first-clause-none
returns-in_err-first-clause-none c =
    let none = rw c.requires.numbering at c.in_err-first.ensures.none in
    said_none c.from_residual.result (none_first (tree_of c.args.tree.now) c.args.k c.requires.tree c.args.seen.now none)

pub returns-in_err-second-clause-none : goal.returns-in_err-second-clause-none
returns-in_err-second-clause-none c =
    let none = rw c.requires.numbering at c.in_err-second.ensures.none in
    said_none c.from_residual-in_err-second.result (none_second (tree_of c.args.tree.now) c.args.k c.requires.tree c.args.seen.now none)

pub returns-then-has_influence_to-clause-chosen : goal.returns-then-has_influence_to-clause-chosen
returns-then-has_influence_to-clause-chosen c =
    let t = tree_of c.args.tree.now in
    let first = rw c.requires.numbering at c.in_ok-first.ensures.some in
    let second = rw c.requires.numbering at c.in_ok-second.ensures.some in
    let outcome = rw c.requires.numbering at c.outcome_of-outcome.ensures in
    let shows = rw c.requires.numbering at c.has_influence_to.ensures in
    chosen_first t c.args.k c.requires.tree c.args.seen.now c.outcome_of-outcome.result c.in_ok-first.first c.in_ok-second.second first
    (as_to t c.args.k c.requires.tree true c.outcome_of-outcome.result c.in_ok-first.first outcome first.fits)
    (least_by t c.args.k c.requires.tree c.args.seen.now false (not c.outcome_of-outcome.result) c.in_ok-second.second second (shows.0 c.if-has_influence_to.true))

pub returns-in-Some-clause-chosen : goal.returns-in-Some-clause-chosen
returns-in-Some-clause-chosen c =
    let t = tree_of c.args.tree.now in
    let first = rw c.requires.numbering at c.in_ok-first.ensures.some in
    let outcome = rw c.requires.numbering at c.outcome_of-outcome.ensures in
    let second = rw c.requires.numbering at c.in-Some.ensures.some in
    chosen_first t c.args.k c.requires.tree c.args.seen.now c.outcome_of-outcome.result c.in_ok-first.first c.in-Some.other_second first
    (as_to t c.args.k c.requires.tree true c.outcome_of-outcome.result c.in_ok-first.first outcome first.fits) second

pub returns-in_err-other_first-clause-none : goal.returns-in_err-other_first-clause-none
returns-in_err-other_first-clause-none c =
    let none = rw c.requires.numbering at c.in_default.ensures.none in
    let other = rw c.requires.numbering at c.in_err-other_first.ensures.none in
    said_none c.from_residual-in_err-other_first.result (none_true (tree_of c.args.tree.now) c.args.k c.requires.tree c.args.seen.now c.outcome_of-outcome.result none other)

pub returns-clause-chosen : goal.returns-clause-chosen
returns-clause-chosen c =
    let t = tree_of c.args.tree.now in
    let o = c.outcome_of-outcome.result in
    let none = rw c.requires.numbering at c.in_default.ensures.none in
    let first = rw c.requires.numbering at c.in_ok-other_first.ensures.some in
    let second = rw c.requires.numbering at c.in_ok-second.ensures.some in
    chosen_other t c.args.k c.requires.tree c.args.seen.now o c.in_ok-other_first.other_first c.in_ok-second.second none first
    (least_by t c.args.k c.requires.tree c.args.seen.now false o c.in_ok-second.second second
    (other_by t c.args.k c.requires.tree false o c.in_ok-second.second second.fits (none c.in_ok-second.second second.among)))
