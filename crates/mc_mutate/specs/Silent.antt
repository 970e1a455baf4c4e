-- A probe that nothing is told of.
use Rattle.std.specs.Prelude.{ℕ, List, [], ◌++◌}
use Rattle.mc_limits.specs.Limits.{most_bits}
use Rattle.mc_mutate.specs.declared.kills.silent.Silent.{Silent}

-- every bit of a program may be hit
abbrev pub bits : Silent → ℕ
bits p = most_bits

-- it is in one state
abbrev pub Leads : List ℕ → Silent → Silent → Type 0
Leads hits p q = Unit {0}

pub stays : (p : Silent) → Leads [] p p
stays p = tt

pub joins : (xs ys : List ℕ) (p q r : Silent) →
    Leads xs p q → Leads ys q r → Leads (xs ++ ys) p r
joins xs ys p q r h k = tt
