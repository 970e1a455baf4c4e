-- The places in `a++` and in `++a`.
use Rattle.std.specs.Prelude.{◌≡◌, [], ◌∷◌, codes}
use Rattle.mc_tree.specs.declared.expressions.step_operator.StepOperator.TheVariants as step
use Rattle.mc_tree.specs.Tree as tree
use Rattle.mc_grammar.specs.Samples.{span}
use Rattle.reread_law_probes.specs.stood.Stands.{stands}

-- the whole, the `a` and the `++`
abbrev pub StepAfter : Type 0
StepAfter =
    stands
    (tree.PostfixStep step.Increment (tree.Named (record { text = codes "a"; span = span 0 1 }))
    (span 0 3)) []
    ≡ span 0 3 ∷ span 0 1 ∷ span 1 3 ∷ []

-- the whole, the `++` and the `a`
abbrev pub StepBefore : Type 0
StepBefore =
    stands
    (tree.PrefixStep step.Increment (tree.Named (record { text = codes "a"; span = span 2 3 }))
    (span 0 3)) []
    ≡ span 0 3 ∷ span 0 2 ∷ span 2 3 ∷ []

abbrev pub StepsHavePlaces : Type 0
StepsHavePlaces = StepAfter × StepBefore
