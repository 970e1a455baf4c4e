use Rattle.std.proofs.Common.{◌≡◌, ◌∷◌, [], All, ℕ, sym, subst, ◌∙◌}
use Rattle.std.proofs.lemmas.List.{map-id}
use Rattle.std.proofs.lemmas.List.Elements.{All-contains, Contains-push}
use Rattle.std.proofs.lemmas.Iterator.Adapters.{YieldsList-from_vec}
use Rattle.std.proofs.lemmas.Iterator.Consumers.{YieldsList-end}
use Rattle.interp_trail.specs.declared.test_trace.TestTrace.{TestTrace}
use Rattle.mc_results.specs.Seen.{IsAt}
use Rattle.mc_results.proofs.Right.{all_first}
use Rattle.mc_results.proofs.gathered.put.Goals as goal

pub loop-test-preserved : goal.loop-test-preserved
loop-test-preserved c = λ all first are.
    let x : ℕ × TestTrace = (c.in-Some.test, c.in-Some.trace) in
    c.put_one.ensures all (c.loop-test.invariant all first (all_first (IsAt all) c.loop-test.yielded (x ∷ []) are))
    (All-contains (IsAt all) _ x are (Contains-push c.loop-test.yielded x))

pub returns : goal.returns
returns c = λ all first are.
    let gives = c.into_iter-test-iterator.ensures.into_iter_gives in
    let yields = YieldsList-from_vec c.args.part.items gives.0 (gives.1 ∙ c.args.part.ok.0) in
    let end = YieldsList-end yields c.loop-test.yielded c.loop-test.test-iterator c.loop-test.yielded_by c.next.result c.next.new.self c.in-None.is c.next.ensures.steps in
    let yielded : c.loop-test.yielded ≡ c.args.part.items = sym (map-id c.loop-test.yielded) ∙ end.0 in
    c.loop-test.invariant all first (subst (All (IsAt all)) (sym yielded) are)
