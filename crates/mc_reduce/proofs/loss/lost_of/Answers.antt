use Rattle.std.proofs.Common.{◌+◌, ℕ, List, Contains, subst, arith}
use Rattle.mc_cond.specs.Tree.{tree_of, size}
use Rattle.std.specs.Prelude.{IfSome, IfNone}
use Rattle.mc_reduce.specs.steps.Bits.{ShowAt}
use Rattle.mc_reduce.specs.steps.Loss.{IsCounted, IsLeft, along, IsFirstAt, NoneAt, IsFirstOf, NoneOf, AreTrueFrom}
use Rattle.mc_reduce.proofs.Deciding.{none_alone, first_at, none_at}
use Rattle.mc_reduce.proofs.Trees.{some_also, none_also}
use Rattle.mc_reduce.proofs.loss.lost_of.Goals as goal

pub returns-in-None-clause-none : goal.returns-in-None-clause-none
returns-in-None-clause-none c =
    let tree = tree_of c.args.mapped.now.decision.tree in
    let count = c.path_count.ensures in
    none_alone c.args.test c.args.counts.now c.args.words.now c.requires.counts c.args.mode tree c.args.mapped.now.base c.requires.paths
    (λ k low high. c.in-None.ensures.none k low (omega (arith, high, count)))

pub returns-in_ok-left-in-Some-clause-lost : goal.returns-in_ok-left-in-Some-clause-lost
returns-in_ok-left-in-Some-clause-lost c =
    let tree = tree_of c.args.mapped.now.decision.tree in
    let on = along (IsCounted c.args.counts.now) c.args.mapped.now.base in
    let others = along (IsLeft c.args.test c.args.counts.now c.args.words.now) c.args.mapped.now.base in
    let with = AreTrueFrom c.args.shown.now c.args.position in
    let found = c.first_missed.result in
    let items = c.in_ok-left-in-Some.left.items in
    let own = subst (λ (xs : List ℕ). IfSome found (λ k. IsFirstOf with (ShowAt (Contains xs) c.args.mode tree) (2 + size tree) k)) c.deref.ensures.value c.first_missed.ensures.lost in
    some_also found (λ k. IsFirstOf with (ShowAt (Contains items) c.args.mode tree) (2 + size tree) k) (λ k. IsFirstAt on others c.args.mode tree k)
    (first_at on others c.args.mode tree c.args.position c.args.shown.now c.requires.shown c.path_count-in-Some.result items c.in_ok-left-in-Some.ensures c.path_count-in-Some.ensures) own

pub returns-in_ok-left-in-Some-clause-none : goal.returns-in_ok-left-in-Some-clause-none
returns-in_ok-left-in-Some-clause-none c =
    let tree = tree_of c.args.mapped.now.decision.tree in
    let on = along (IsCounted c.args.counts.now) c.args.mapped.now.base in
    let others = along (IsLeft c.args.test c.args.counts.now c.args.words.now) c.args.mapped.now.base in
    let with = AreTrueFrom c.args.shown.now c.args.position in
    let found = c.first_missed.result in
    let items = c.in_ok-left-in-Some.left.items in
    let own = subst (λ (xs : List ℕ). IfNone found (NoneOf with (ShowAt (Contains xs) c.args.mode tree) (2 + size tree))) c.deref.ensures.value c.first_missed.ensures.none in
    none_also found (NoneOf with (ShowAt (Contains items) c.args.mode tree) (2 + size tree)) (NoneAt on others c.args.mode tree)
    (none_at on others c.args.mode tree c.args.position c.args.shown.now c.requires.shown c.path_count-in-Some.result items c.in_ok-left-in-Some.ensures c.path_count-in-Some.ensures) own
