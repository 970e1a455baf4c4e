-- What is found of the parts of a `for` before its body, from what is found of one after another.
use Rattle.std.proofs.Common.{◌≡◌, ◌∙◌, ℕ, Option, ap, subst}
use Rattle.mc_tree.specs.Tree as t
use Rattle.mc_typed.specs.Tree as typed
use Rattle.mc_typed.specs.Views.{start_of}
use Rattle.types_rules.specs.Scopes.{Scope}
use Rattle.types_rules.specs.Values.{Judged}
use Rattle.types_rules.specs.Bodies.{judge_optional_part, judge_start, judge_test}
use Rattle.types_scopes.specs.Found.{judged_of}
use Rattle.types_scopes.specs.Statements.{effects_of, test_of}
use Rattle.types_scopes.specs.steps.Squeezed.{squeezed_part}
use Rattle.mc_types.specs.declared.steps.statements.ForHead.{ForHead}
use Rattle.mc_types.specs.Headings.{ArePartsOf, after_start, after_test}

pub parts_found : (at : ℕ) (start : t.ForStart) (test step : Option t.Expression) (x : ForHead)
    (s p q u : Scope)
    → judged_of start_of x.start p ≡ squeezed_part (judge_start start s)
    → judged_of test_of x.test q ≡ squeezed_part (judge_test at test p)
    → judged_of effects_of x.step u ≡ squeezed_part (judge_optional_part step q)
    → ArePartsOf at start test step x s u
parts_found at start test step x s p q u h k l =
    let e : p ≡ after_start start s = ap (λ (v : Judged typed.ForStart). v.scope) h in
    let f : q ≡ after_test at start test s =
    ap (λ (v : Judged (Option typed.Expression)). v.scope) k
    ∙ ap (λ (v : Scope). (judge_test at test v).scope) e in
    record {
      begun = subst (λ v. judged_of start_of x.start v ≡ squeezed_part (judge_start start s)) e h;
      tested = subst (λ v. judged_of test_of x.test v
          ≡ squeezed_part (judge_test at test (after_start start s))) f
          (subst (λ v. judged_of test_of x.test q ≡ squeezed_part (judge_test at test v)) e k);
      stepped = subst (λ v. judged_of effects_of x.step u
          ≡ squeezed_part (judge_optional_part step v)) f l;
    }
