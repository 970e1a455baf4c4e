use Rattle.std.proofs.Common.{arith}
use Rattle.mc_cond.specs.Tree.{tree_of}
use Rattle.mc_unique.proofs.Chosen.{found_two, next, none_two}
use Rattle.mc_unique.proofs.candidates.candidates.Goals as goal

pub returns-in-Some-clause-some : goal.returns-in-Some-clause-some
returns-in-Some-clause-some c =
    found_two (tree_of c.args.numbering.now) c.args.k c.args.seen.now c.requires.ascending c.loop-path.path-index c.loop-path-test.true c.loop-path.first c.loop-path.invariant.kept
    c.in-Some.least c.in-Some.ensures.kept c.in-Some.ensures.off c.in-Some.ensures.alike

pub loop-path-preserved : goal.loop-path-preserved
loop-path-preserved c =
    record {
      used = c.first_alike-first.ensures.used;
      kept = next (tree_of c.args.numbering.now) c.args.k c.args.seen.now c.requires.ascending c.loop-path.path-index c.loop-path-test.true c.loop-path.first c.first_alike-first.result
          c.loop-path.invariant.kept c.in_default.ensures.none c.first_alike-first.ensures.next;
    }

pub returns-clause-none : goal.returns-clause-none
returns-clause-none c =
    none_two (tree_of c.args.numbering.now) c.args.k c.args.seen.now c.requires.ascending c.loop-path.path-index (omega (arith, c.loop-path-test.false)) c.loop-path.first c.loop-path.invariant.kept
