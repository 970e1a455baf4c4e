-- What is found of the parts of a `for` before its body.
use Rattle.std.specs.Prelude.{◌≡◌, ℕ, Option}
use Rattle.mc_tree.specs.Tree as tree
use Rattle.mc_typed.specs.Views.{start_of}
use Rattle.types_rules.specs.Scopes.{Scope}
use Rattle.types_rules.specs.Bodies.{judge_optional_part, judge_start, judge_test}
use Rattle.types_scopes.specs.Found.{judged_of}
use Rattle.types_scopes.specs.Statements.{effects_of, test_of}
use Rattle.types_scopes.specs.steps.Squeezed.{squeezed_part}
use Rattle.mc_types.specs.declared.steps.statements.ForHead.{ForHead}

abbrev pub after_start : tree.ForStart → Scope → Scope
after_start start s = (judge_start start s).scope

abbrev pub after_test : ℕ → tree.ForStart → Option tree.Expression → Scope → Scope
after_test at start test s = (judge_test at test (after_start start s)).scope

-- these are found of the parts of a `for` at this place in s, one after another, with u after them
pub record ArePartsOf (at : ℕ) (start : tree.ForStart) (test step : Option tree.Expression)
    (x : ForHead) (s u : Scope) : Type 0 where
  pub begun : judged_of start_of x.start (after_start start s) ≡ squeezed_part (judge_start start s)
  pub tested : judged_of test_of x.test (after_test at start test s)
      ≡ squeezed_part (judge_test at test (after_start start s))
  pub stepped : judged_of effects_of x.step u
      ≡ squeezed_part (judge_optional_part step (after_test at start test s))
