use Rattle.std.proofs.Common.{ℕ, arith, inl, inr}
use Rattle.std.proofs.lemmas.List.Elements.{Contains-get_or}
use Rattle.mc_cond.specs.Tree.{tree_of}
use Rattle.mc_masking.specs.Laws.{HasInfluenceTo}
use Rattle.mc_pairs.proofs.Least.{least_in, all_in}
use Rattle.mc_masking.proofs.least.least_to.Goals as goal

pub returns-then-has_influence_to-clause-some : goal.returns-then-has_influence_to-clause-some
returns-then-has_influence_to-clause-some c =
    let P : ℕ → Type 0 = λ n. HasInfluenceTo (tree_of c.args.numbering.now) c.args.k c.args.value c.args.outcome n in
    record {
      among = Contains-get_or c.args.seen.now c.loop-path.path-index 0 c.loop-path-test.true;
      fits = c.has_influence_to.ensures.0 c.if-has_influence_to.true;
      least = λ other inside shows.
          elim (least_in P c.args.seen.now c.loop-path.path-index other c.requires.ascending c.loop-path.invariant inside shows)
          [ inl same ↦ omega (arith, same) | inr below ↦ omega (arith, below) ];
    }

pub returns-clause-none : goal.returns-clause-none
returns-clause-none c =
    let P : ℕ → Type 0 = λ n. ¬ HasInfluenceTo (tree_of c.args.numbering.now) c.args.k c.args.value c.args.outcome n in
    all_in P c.args.seen.now (λ n h. c.loop-path.invariant n (omega (arith, h, c.loop-path-test.false)))
