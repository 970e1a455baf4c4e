-- What follows from the definitions.
use Rattle.std.specs.Prelude.{◌≡◌, ℕ, ◌+◌, ◌*◌, ◌≤◌, List, [], ◌∷◌, map, length}
use Rattle.mc_value.specs.declared.int_type.IntType.TheVariants.{Int}
use Rattle.mc_value.specs.declared.operators.BinOp.TheVariants.{Lt, Le, Eq, Add, Xor}
use Rattle.mc_typed.specs.declared.operators.Operator.TheVariants.{Binary}
use Rattle.mc_typed.specs.declared.operators.LogicOperator.TheVariants.{And, Or}
use Rattle.mc_typed.specs.Tree.{Expression, Program}
use Rattle.mc_typed.specs.Sound.{IsSound}
use Rattle.mc_typed.specs.Tree as typed
use Rattle.decide_rules.specs.Decisions.{Decision, AreDecisions}
use Rattle.mc_mutate.specs.declared.changes.MutantKind.TheVariants.{Exchanged, Negated, FixedTrue, FixedFalse, Shifted}
use Rattle.mc_mutate.specs.Changes.{truth_at}
use Rattle.mc_mutate.specs.Mutants.{mutants, count, IsMutant}
use Rattle.mc_mutate.specs.Told.{all_changes}
use Rattle.mc_mutate.specs.Worked.{at, read, returning, change}

-- a mutant of a sound program is sound
abbrev pub MutantsAreSound : Type 0
MutantsAreSound =
    (p : Program) (number : ℕ) (q : Program) → IsSound p → IsMutant p number q → IsSound q

-- the changes of the mutants are those of the decisions, in their order, told from their roots
abbrev pub ChangesAreOfRoots : Type 0
ChangesAreOfRoots =
    (p : Program) (ds : List Decision) (h : AreDecisions p.functions ds) →
    map (λ m. m.change) (mutants p) ≡ all_changes h.roots

-- how many conditions decisions have together
abbrev pub conditions_in : List Decision → ℕ
conditions_in [] = 0
conditions_in (d ∷ ds) = length d.conditions + conditions_in ds

-- a program has at most five mutants for each condition of its decisions
abbrev pub CountsAreSmall : Type 0
CountsAreSmall =
    (p : Program) (ds : List Decision) → AreDecisions p.functions ds →
    count p ≤ 5 * conditions_in ds

-- ---- `int f(int a,int b){return a&&b;}`

abbrev pub both : Expression
both = typed.Logic And (read 0 26) (read 1 29) (at 26 30)

-- has seven mutants
abbrev pub ConjunctionHasSeven : Type 0
ConjunctionHasSeven =
    map (λ m. m.change) (mutants (returning 31 both)) ≡
    change Exchanged 26
    ∷ (change Negated 26 ∷ (change FixedTrue 26 ∷ (change FixedFalse 26
    ∷ (change Negated 29 ∷ (change FixedTrue 29 ∷ (change FixedFalse 29 ∷ []))))))

-- which return `a||b`, `!a&&b`, `(a||1)&&b`, `(a&&0)&&b`, `a&&!b`, `a&&(b||1)` and `a&&(b&&0)`
abbrev pub TheyReturn : Type 0
TheyReturn =
    map (λ m. m.tree) (mutants (returning 31 both)) ≡
    map (returning 31)
    (typed.Logic Or (read 0 26) (read 1 29) (at 26 30)
    ∷ (typed.Logic And (typed.Not (read 0 26) (at 26 27)) (read 1 29) (at 26 30)
    ∷ (typed.Logic And (typed.Logic Or (read 0 26) (truth_at 1 (at 26 27)) (at 26 27)) (read 1 29)
    (at 26 30)
    ∷ (typed.Logic And (typed.Logic And (read 0 26) (truth_at 0 (at 26 27)) (at 26 27)) (read 1 29)
    (at 26 30)
    ∷ (typed.Logic And (read 0 26) (typed.Not (read 1 29) (at 29 30)) (at 26 30)
    ∷ (typed.Logic And (read 0 26) (typed.Logic Or (read 1 29) (truth_at 1 (at 29 30)) (at 29 30))
    (at 26 30)
    ∷ (typed.Logic And (read 0 26) (typed.Logic And (read 1 29) (truth_at 0 (at 29 30)) (at 29 30))
    (at 26 30)
    ∷ [])))))))

-- ---- `int f(int a,int b){return a<b;}`

abbrev pub less : Expression
less = typed.Binary (Binary Lt) Int (read 0 26) (read 1 28) (at 26 29)

-- is a decision of one condition, with four mutants, the last of which returns `a<=b`
abbrev pub RelationHasFour : Type 0
RelationHasFour =
    mutants (returning 30 less) ≡
    record { change = change Negated 26; tree = returning 30 (typed.Not less (at 26 29)) }
    ∷ (record {
      change = change FixedTrue 26;
      tree = returning 30 (typed.Logic Or less (truth_at 1 (at 26 29)) (at 26 29));
    }
    ∷ (record {
      change = change FixedFalse 26;
      tree = returning 30 (typed.Logic And less (truth_at 0 (at 26 29)) (at 26 29));
    }
    ∷ (record {
      change = change Shifted 26;
      tree = returning 30 (typed.Binary (Binary Le) Int (read 0 26) (read 1 28) (at 26 29));
    }
    ∷ [])))

-- ---- `int f(int a,int b){return a+b;}` has no decision and so no mutant

abbrev pub sum : Expression
sum = typed.Binary (Binary Add) Int (read 0 26) (read 1 28) (at 26 29)

abbrev pub SumHasNone : Type 0
SumHasNone = mutants (returning 30 sum) ≡ []

-- ---- `int f(int a,int b){return !(a||b)&&a;}`: the outer node before the inner one

abbrev pub neither : Expression
neither =
    typed.Logic And (typed.Not (typed.Logic Or (read 0 28) (read 1 31) (at 28 32)) (at 26 33))
    (read 0 35) (at 26 36)

abbrev pub NodesInPreorder : Type 0
NodesInPreorder =
    map (λ m. m.change) (mutants (returning 37 neither)) ≡
    change Exchanged 26 ∷ (change Exchanged 28
    ∷ (change Negated 28 ∷ (change FixedTrue 28 ∷ (change FixedFalse 28
    ∷ (change Negated 31 ∷ (change FixedTrue 31 ∷ (change FixedFalse 31
    ∷ (change Negated 35 ∷ (change FixedTrue 35 ∷ (change FixedFalse 35 ∷ []))))))))))

-- ---- `int f(int a,int b){return (a&&b)==a;}`: the decision in a condition after the one around it

abbrev pub compared : Expression
compared =
    typed.Binary (Binary Eq) Int (typed.Logic And (read 0 27) (read 1 30) (at 27 31)) (read 0 34)
    (at 26 35)

abbrev pub InnerComesLater : Type 0
InnerComesLater =
    map (λ m. m.change) (mutants (returning 36 compared)) ≡
    change Negated 26 ∷ (change FixedTrue 26 ∷ (change FixedFalse 26 ∷ (change Shifted 26
    ∷ (change Exchanged 27
    ∷ (change Negated 27 ∷ (change FixedTrue 27 ∷ (change FixedFalse 27
    ∷ (change Negated 30 ∷ (change FixedTrue 30 ∷ (change FixedFalse 30 ∷ []))))))))))

-- ---- `int f(int a,int b){return (a<b)^(b<a);}`: the node, and then the conditions

abbrev pub either : Expression
either =
    typed.Binary (Binary Xor) Int (typed.Binary (Binary Lt) Int (read 0 27) (read 1 29) (at 27 30))
    (typed.Binary (Binary Lt) Int (read 1 33) (read 0 35) (at 33 36)) (at 26 37)

abbrev pub FullOperatorIsNode : Type 0
FullOperatorIsNode =
    map (λ m. m.change) (mutants (returning 38 either)) ≡
    change Exchanged 26
    ∷ (change Negated 27 ∷ (change FixedTrue 27 ∷ (change FixedFalse 27 ∷ (change Shifted 27
    ∷ (change Negated 33 ∷ (change FixedTrue 33 ∷ (change FixedFalse 33
    ∷ (change Shifted 33 ∷ []))))))))
