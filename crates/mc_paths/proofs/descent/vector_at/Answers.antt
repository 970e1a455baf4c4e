use Rattle.std.proofs.Common.{◌≡◌, ◌∙◌, sym, arith, refl}
use Rattle.mc_cond.specs.Tree.{tree_of, size}
use Rattle.mc_cond.proofs.Numbers.{numbered_below}
use Rattle.mc_paths.specs.steps.Descent.{descent}
use Rattle.mc_paths.proofs.Counting.{length_edges}
use Rattle.mc_paths.proofs.Numbers.{followed_path, followed_idle}
use Rattle.mc_paths.proofs.descent.vector_at.Goals as goal

pub follow-outcome-requires-clause-below : goal.follow-outcome-requires-clause-below
follow-outcome-requires-clause-below c =
    let t = tree_of c.args.tree.now in
    rw (c.requires.edges, length_edges t 1 1) (numbered_below t 0 (size t) c.requires.numbered.in_order (omega arith))

pub returns-then-left-eq0-clause-found : goal.returns-then-left-eq0-clause-found
returns-then-left-eq0-clause-found c =
    let t = tree_of c.args.tree.now in
    let answers : c.new.result.answers ≡ (descent t c.args.on_false.now c.args.path).answers = rw (c.new.ensures, c.follow-outcome.ensures.seen, c.new-seen.ensures) refl in
    let outcome : c.new.result.outcome ≡ (descent t c.args.on_false.now c.args.path).outcome = rw (c.new.ensures, c.follow-outcome.ensures.outcome) refl in
    followed_path t c.args.path c.args.on_false.now c.new.result c.requires.numbered.in_order c.requires.edges (sym c.follow-outcome.ensures.left ∙ c.if-left-eq0.true) answers outcome

pub returns-else-left-eq0-clause-idle : goal.returns-else-left-eq0-clause-idle
returns-else-left-eq0-clause-idle c =
    followed_idle (tree_of c.args.tree.now) c.args.path c.args.on_false.now c.requires.numbered.in_order c.requires.edges (λ none. c.if-left-eq0.false (c.follow-outcome.ensures.left ∙ none))
