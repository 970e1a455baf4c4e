use Rattle.std.proofs.Common.{◌≡◌, ◌<◌, ◌++◌, All, ℕ, length, map, vec_len, sym, ap, subst, ◌∙◌, arith}
use Rattle.std.proofs.lemmas.List.{map-id}
use Rattle.std.proofs.lemmas.Iterator.Adapters.{YieldsList-from_vec}
use Rattle.std.proofs.lemmas.Iterator.Consumers.{YieldsList-turn, YieldsList-end}
use Rattle.mc_meaning.specs.declared.result.TestResult.{TestResult}
use Rattle.mc_runner.specs.Jobs.{AreFilled}
use Rattle.mc_runner.proofs.Jobs.{IsToldAt, filled_after, told_parts}
use Rattle.mc_runner.proofs.done.put.Goals as goal

pub loop-test-preserved : goal.loop-test-preserved
loop-test-preserved c =
    let x : ℕ × TestResult = (c.in-Some.test, c.in-Some.result) in
    let results = c.loop-test.results.items in
    let gives = c.into_iter-test-iterator.ensures.into_iter_gives in
    let yields = YieldsList-from_vec c.args.part.items gives.0 (gives.1 ∙ c.args.part.ok.0) in
    let turn = YieldsList-turn yields c.loop-test.yielded c.loop-test.test-iterator c.loop-test.yielded_by c.next.result c.next.new.self x c.in-Some.is c.next.ensures.steps in
    let n = length c.loop-test.yielded in
    let within : x.0 < vec_len c.args.results.now = subst (λ (y : ℕ × TestResult). y.0 < vec_len c.args.results.now) (sym turn.1) (c.requires.in_range n x turn.0) in
    let long = c.loop-test.results.ok in
    let whole = c.loop-test.invariant.whole in
    let less : x.0 < length results = omega arith in
    record {
      whole = c.loop-test.invariant.whole;
      filled = λ told before first all. filled_after told before c.loop-test.yielded results x (c.loop-test.invariant.filled told before first) less all;
    }

pub returns-clause-filled : goal.returns-clause-filled
returns-clause-filled c = λ told before claims first are.
    let part = told_parts told claims c.args.part.items are in
    let gives = c.into_iter-test-iterator.ensures.into_iter_gives in
    let yields = YieldsList-from_vec c.args.part.items gives.0 (gives.1 ∙ c.args.part.ok.0) in
    let end = YieldsList-end yields c.loop-test.yielded c.loop-test.test-iterator c.loop-test.yielded_by c.next.result c.next.new.self c.in-None.is c.next.ensures.steps in
    let yielded : c.loop-test.yielded ≡ c.args.part.items = sym (map-id c.loop-test.yielded) ∙ end.0 in
    let all : All (IsToldAt told) c.loop-test.yielded = subst (All (IsToldAt told)) (sym yielded) part.1 in
    subst (λ ns. AreFilled told (before ++ ns) c.loop-test.results.items) (ap (map (λ x. x.0)) yielded ∙ part.0) (c.loop-test.invariant.filled told before first all)
