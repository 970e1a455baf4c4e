use Rattle.std.proofs.Common.{◌≡◌, ◌∙◌, ◌++◌, ◌∷◌, [], List, sym, ap}
use Rattle.std.proofs.lemmas.List.{map_push}
use Rattle.std.proofs.lemmas.Result.{IfOk-weaker, IfErr-weaker}
use Rattle.mc_typed.specs.Plans.{Plan, plan_of}
use Rattle.mc_tests.specs.Seen.{open_plans, plans_in, seen_draft, seen_line, seen_plans}
use Rattle.mc_tests.specs.Tests.{test_of, tests_fault}
use Rattle.mc_tests.specs.steps.Adding.{extended, with_last}
use Rattle.mc_tests.proofs.Adding.{begins, joins}
use Rattle.mc_tests.proofs.tests.add.Goals as goal

pub returns-then-is_named-clause-plans : goal.returns-then-is_named-clause-plans
returns-then-is_named-clause-plans c =
    let fuel = c.args.tests.fuel in
    let done = seen_plans c.args.tests.done.items in
    let p = seen_draft fuel c.in-Some.draft in
    let line = seen_line c.args.line in
    let here : with_last fuel (plans_in c.args.tests) line ≡ done ++ extended p line ∷ [] =
    ap (λ (ps : List Plan). with_last fuel ps line) (ap (λ o. done ++ open_plans fuel o) c.in-Some.is) ∙ joins fuel done p line (sym c.if-is_named.ensures) in
    IfOk-weaker c.add_to_open.result _ _ (λ after is. is ∙ sym here) c.add_to_open.ensures.plans

pub returns-then-is_named-clause-fault : goal.returns-then-is_named-clause-fault
returns-then-is_named-clause-fault c =
    let fuel = c.args.tests.fuel in
    let done = seen_plans c.args.tests.done.items in
    let p = seen_draft fuel c.in-Some.draft in
    let line = seen_line c.args.line in
    let here : with_last fuel (plans_in c.args.tests) line ≡ done ++ extended p line ∷ [] =
    ap (λ (ps : List Plan). with_last fuel ps line) (ap (λ o. done ++ open_plans fuel o) c.in-Some.is) ∙ joins fuel done p line (sym c.if-is_named.ensures) in
    IfErr-weaker c.add_to_open.result _ _ (λ e told not_memory. ap (tests_fault c.args.row) here ∙ told not_memory) c.add_to_open.ensures.fault

pub returns-clause-plans : goal.returns-clause-plans
returns-clause-plans c =
    let fuel = c.args.tests.fuel in
    let done = seen_plans c.args.tests.done.items in
    let p = seen_draft fuel c.in-Some.draft in
    let line = seen_line c.args.line in
    let pushed : seen_plans c.push.new.self.items ≡ done ++ p ∷ [] =
    ap seen_plans c.in_ok-push.ensures.items ∙ map_push plan_of c.args.tests.done.items c.to_plan.result ∙ ap (λ (q : Plan). done ++ q ∷ []) c.to_plan.ensures in
    let here : with_last fuel (plans_in c.args.tests) line ≡ seen_plans c.push.new.self.items ++ test_of fuel line ∷ [] =
    ap (λ (ps : List Plan). with_last fuel ps line) (ap (λ o. done ++ open_plans fuel o) c.in-Some.is) ∙ begins fuel done p line (sym c.if-is_named.ensures)
    ∙ ap (λ (ps : List Plan). ps ++ test_of fuel line ∷ []) (sym pushed) in
    IfOk-weaker c.add_test-2.result _ _ (λ after is. is ∙ sym here) c.add_test-2.ensures.plans

pub returns-clause-fault : goal.returns-clause-fault
returns-clause-fault c =
    let fuel = c.args.tests.fuel in
    let done = seen_plans c.args.tests.done.items in
    let p = seen_draft fuel c.in-Some.draft in
    let line = seen_line c.args.line in
    let pushed : seen_plans c.push.new.self.items ≡ done ++ p ∷ [] =
    ap seen_plans c.in_ok-push.ensures.items ∙ map_push plan_of c.args.tests.done.items c.to_plan.result ∙ ap (λ (q : Plan). done ++ q ∷ []) c.to_plan.ensures in
    let here : with_last fuel (plans_in c.args.tests) line ≡ seen_plans c.push.new.self.items ++ test_of fuel line ∷ [] =
    ap (λ (ps : List Plan). with_last fuel ps line) (ap (λ o. done ++ open_plans fuel o) c.in-Some.is) ∙ begins fuel done p line (sym c.if-is_named.ensures)
    ∙ ap (λ (ps : List Plan). ps ++ test_of fuel line ∷ []) (sym pushed) in
    IfErr-weaker c.add_test-2.result _ _ (λ e told not_memory. ap (tests_fault c.args.row) here ∙ told not_memory) c.add_test-2.ensures.fault
