-- Tables of texts, of which one answer is wrong.
use Rattle.std.specs.Prelude.{[], ◌∷◌}
use Rattle.types_faults.specs.declared.fault.FaultKind.TheVariants.{Redeclared}
use Rattle.types_rules.specs.Sampled.{Answers, accepted, refused, row}
use Rattle.laws_cases.specs.Texts.{long_again}

-- `int a;int a[70000];` is neither accepted, nor is another place or kind its answer
abbrev pub WrongAnswersAreNone : Type 0
WrongAnswersAreNone =
    ¬ Answers (row long_again.items accepted ∷ [])
    × ¬ Answers (row long_again.items (refused Redeclared 4) ∷ [])
