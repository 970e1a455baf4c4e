-- The paths through the operand of a decision, by what they add to the decision's register.
use Rattle.std.specs.Prelude.{ℕ, ◌+◌, nat_eq, false, List, [], ◌∷◌, ◌++◌, map, max, if◌then◌else◌}
use Rattle.std.specs.Prelude.{Option, Some, None}
use Rattle.mc_typed.specs.declared.operators.LogicOperator.{LogicOperator}
use Rattle.mc_typed.specs.declared.operators.LogicOperator.TheVariants as logic
use Rattle.mc_typed.specs.declared.probes.Probe as code
use Rattle.mc_typed.specs.declared.probes.Probe.TheVariants as probe
use Rattle.decide_rules.specs.declared.operators.FullOperator.{FullOperator}
use Rattle.decide_rules.specs.declared.operators.FullOperator.TheVariants as full
use Rattle.decide_rules.specs.Nodes.{bitwise}
use Rattle.mc_probe.specs.Tree.{Expression}
use Rattle.mc_probe.specs.Tree as probed

-- the sum of each path of the first list and each of the second
infixl 70 ◌⊗◌
abbrev pub ◌⊗◌ : List ℕ → List ℕ → List ℕ
[] ⊗ ys = []
(x ∷ xs) ⊗ ys = map (λ y. x + y) ys ++ (xs ⊗ ys)

-- the sums of the paths that end true, and of those that end false
pub record Paths : Type 0 where
  pub on_true : List ℕ
  pub on_false : List ℕ

-- an operand without `&&`, `||`, `!`, `&`, `|` or `^` on top, which may be true and may be false
abbrev pub leaf : ℕ → ℕ → Paths
leaf t f = record { on_true = t ∷ []; on_false = f ∷ [] }

-- C17 6.5.3.3p5: true where the operand is false
abbrev pub negated : Paths → Paths
negated a = record { on_true = a.on_false; on_false = a.on_true }

-- C17 6.5.13 and 6.5.14: the second operand is evaluated only where the first does not decide
abbrev pub joined : LogicOperator → Paths → Paths → Paths
joined logic.And a b = record {
  on_true = a.on_true ⊗ b.on_true;
  on_false = a.on_false ++ (a.on_true ⊗ b.on_false);
}
joined logic.Or a b = record {
  on_true = a.on_true ++ (a.on_false ⊗ b.on_true);
  on_false = a.on_false ⊗ b.on_false;
}

-- C17 6.5.10 to 6.5.12: both operands are evaluated
abbrev pub both : FullOperator → Paths → Paths → Paths
both full.And a b = record {
  on_true = a.on_true ⊗ b.on_true;
  on_false =
      (a.on_true ⊗ b.on_false) ++ ((a.on_false ⊗ b.on_true) ++ (a.on_false ⊗ b.on_false));
}
both full.Or a b = record {
  on_true = (a.on_true ⊗ b.on_true) ++ ((a.on_true ⊗ b.on_false) ++ (a.on_false ⊗ b.on_true));
  on_false = a.on_false ⊗ b.on_false;
}
both full.Xor a b = record {
  on_true = (a.on_true ⊗ b.on_false) ++ (a.on_false ⊗ b.on_true);
  on_false = (a.on_true ⊗ b.on_true) ++ (a.on_false ⊗ b.on_false);
}

abbrev pub where_full : Option FullOperator → Paths → Paths → Paths
where_full (Some operator) a b = both operator a b
where_full None a b = leaf 0 0

-- A condition adds to its own register alone.
abbrev pub at_probe : ℕ → code.Probe → Paths
at_probe r (probe.Condition register on_true on_false) =
    if nat_eq register r then leaf on_true on_false else leaf 0 0
at_probe r _ = leaf 0 0

-- for the register r; an implied conversion is no operator of the text
abbrev pub paths : ℕ → Expression → Paths
paths r (probed.Convert a false e span) = paths r e
paths r (probed.Not e span) = negated (paths r e)
paths r (probed.Binary operator a e f span) =
    where_full (bitwise operator) (paths r e) (paths r f)
paths r (probed.Logic operator e f span) = joined operator (paths r e) (paths r f)
paths r (probed.Probe q e) = at_probe r q
paths r _ = leaf 0 0

abbrev pub greatest : List ℕ → ℕ
greatest [] = 0
greatest (x ∷ xs) = max x (greatest xs)

-- one more than the greatest bit that a decision reaches
abbrev pub end_of_paths : ℕ → Paths → ℕ
end_of_paths base a = base + max (greatest a.on_true) (greatest a.on_false) + 1
