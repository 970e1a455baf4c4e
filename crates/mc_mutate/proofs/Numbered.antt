-- What a search by a number says of the mutants of a program.
use Rattle.std.proofs.Common.{◌≡◌, ◌∙◌, sym, subst, ℕ, ◌+◌, ◌-◌, ◌<◌, ◌≤◌, List, length, arith, ◌*◌}
use Rattle.mc_typed.specs.Levels.{limited}
use Rattle.mc_typed.specs.Tree.{Program}
use Rattle.decide_rules.specs.Nodes as n
use Rattle.mc_mutate.specs.declared.changes.Change.{Change}
use Rattle.mc_mutate.specs.declared.search.sought.Sought.{Sought}
use Rattle.mc_mutate.specs.declared.search.sought.Sought.TheVariants.{Left, Found}
use Rattle.mc_mutate.specs.Changes.{Mutant}
use Rattle.mc_mutate.specs.Mutants.{mutants, count, IsChange}
use Rattle.mc_mutate.specs.steps.Search.{inside_parts}
use Rattle.decide_rules.specs.Decisions.{Decision, AreDecisions}
use Rattle.mc_mutate.specs.Laws.{conditions_in}
use Rattle.mc_mutate.proofs.Small.{counts_are_small}
use Rattle.mc_mutate.proofs.Past.{IsSought, is_sought}
use Rattle.mc_mutate.proofs.Listed.{mutants_found}

-- what the search from this number on comes to
abbrev pub AreSearched : Program → ℕ → Sought → Type 0
AreSearched p number r = r ≡ inside_parts (n.functions p.functions) (Left number)

sought_is : (p : Program) (number : ℕ) (r s : Sought) → AreSearched p number r → r ≡ s → IsSought (mutants p) number s
sought_is p number r s e is =
    subst (λ (x : Sought). IsSought (mutants p) number x) (mutants_found p (Left number) ∙ (sym e ∙ is))
    (is_sought (mutants p) number)

few : (ms : List (Mutant Program)) (rest : ℕ) → rest + length ms ≡ 4294967295 → 4294967295 - rest ≡ limited (length ms)
unfolding limited
few ms rest e = omega arith

many : (ms : List (Mutant Program)) → 4294967295 < length ms → 4294967295 ≡ limited (length ms)
unfolding limited
many ms lt = omega arith

pub counted_few : (p : Program) (r : Sought) (rest : ℕ) → AreSearched p 4294967295 r → r ≡ Left rest → 4294967295 - rest ≡ limited (count p)
counted_few p r rest e is = few (mutants p) rest (sought_is p 4294967295 r (Left rest) e is)

pub counted_many : (p : Program) (r : Sought) (c : Change) → AreSearched p 4294967295 r → r ≡ Found c → 4294967295 ≡ limited (count p)
counted_many p r c e is = many (mutants p) (sought_is p 4294967295 r (Found c) e is).0

pub exact_few : (p : Program) (r : Sought) (rest : ℕ) → AreSearched p 4294967295 r → r ≡ Left rest → 4294967295 - rest ≡ count p
exact_few p r rest e is =
    let left : rest + length (mutants p) ≡ 4294967295 = sought_is p 4294967295 r (Left rest) e is in
    let all : 4294967295 - rest ≡ length (mutants p) = omega arith in
    all

pub exact_many : (p : Program) (ds : List Decision) (r : Sought) (c : Change) → AreSearched p 4294967295 r → r ≡ Found c → AreDecisions p.functions ds → conditions_in ds ≤ 65536 → 4294967295 ≡ count p
exact_many p ds r c e is told few =
    let more : 4294967295 < length (mutants p) = (sought_is p 4294967295 r (Found c) e is).0 in
    let small : length (mutants p) ≤ 5 * conditions_in ds = counts_are_small p ds told in
    absurd (omega arith)

pub change_is : (p : Program) (number : ℕ) (r : Sought) (c : Change) → 1 ≤ number → AreSearched p (number - 1) r → r ≡ Found c → IsChange p number c
change_is p number r c first e is = (first, (sought_is p (number - 1) r (Found c) e is).1)

pub none_left : (p : Program) (number : ℕ) (r : Sought) (rest : ℕ) → AreSearched p (number - 1) r → r ≡ Left rest → 1 ≤ number → number ≤ count p → ⊥
none_left p number r rest e is some within =
    let left : rest + length (mutants p) ≡ number - 1 = sought_is p (number - 1) r (Left rest) e is in
    omega arith
