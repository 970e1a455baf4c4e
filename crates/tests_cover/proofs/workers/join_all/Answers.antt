use Rattle.std.proofs.Common.{ap, ◌∙◌, subst, arith}
use Rattle.std.specs.Prelude.{All}
use Rattle.mc_cover.specs.declared.view.View.{View}
use Rattle.tests_cover.specs.Workers.{IsDone}
use Rattle.tests_cover.proofs.Passes.{split_last}
use Rattle.tests_cover.proofs.workers.join_all.Goals as goal

pub join-requires-clause-own : goal.join-requires-clause-own
join-requires-clause-own c =
    let both = split_last (IsDone c.args.cover.now) c.pop.new.self.items c.in-Some.other (subst (All (IsDone c.args.cover.now)) c.in-Some.ensures.items c.loop-other.invariant.done) in
    (c.loop-other.invariant.own ∙ c.requires.own, both.1.0)

pub join-requires-clause-worker : goal.join-requires-clause-worker
join-requires-clause-worker c =
    let both = split_last (IsDone c.args.cover.now) c.pop.new.self.items c.in-Some.other (subst (All (IsDone c.args.cover.now)) c.in-Some.ensures.items c.loop-other.invariant.done) in both.1.1

pub loop-other-preserved : goal.loop-other-preserved
loop-other-preserved c =
    let inv = c.loop-other.invariant in
    let both = split_last (IsDone c.args.cover.now) c.pop.new.self.items c.in-Some.other (subst (All (IsDone c.args.cover.now)) c.in-Some.ensures.items inv.done) in
    let j = c.join.ensures.joined in
    let n = c.in-Some.ensures.len in
    let counted = ap (λ (v : View). v.joined) j in
    let forked = ap (λ (v : View). v.forks) j in record {
      own = c.join.ensures.own ∙ inv.own;
      opener = ap (λ (v : View). v.role) j ∙ inv.opener;
      left = let a = inv.left in omega arith;
      done = both.0;
    }
