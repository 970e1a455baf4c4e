-- What the numbers of a decision's paths are made from is the decision's own tree.
use mathlib.Core.Bool.{beq}
use Rattle.std.proofs.Common.{◌≡◌, ◌≤◌, true, false, Bool, ℕ, Option, Some, None, refl, subst}
use Rattle.std.specs.Prelude.{IfSome, IfNone}
use Rattle.std.specs.Bool.{OnTrue, OnFalse}
use Rattle.mc_cond.specs.Tree.{tree_of, size}
use Rattle.mc_probe.specs.declared.mapped.MappedDecision.{MappedDecision}
use Rattle.mc_probe.proofs.Kept.{equal_trees}

pub same_tree : (d : MappedDecision) → tree_of d.numbering ≡ tree_of d.decision.tree
same_tree d = (equal_trees (tree_of d.numbering) (tree_of d.decision.tree)).0 d.same

pub few_conditions : (d : MappedDecision) → size (tree_of d.decision.tree) ≤ 64
few_conditions d = d.placed.numbered.few

beq_own : (b : Bool) → beq b b ≡ true
beq_own true = refl
beq_own false = refl

pub beq_same : (a b : Bool) → a ≡ b → beq a b ≡ true
beq_same a b same = subst (λ (c : Bool). beq a c ≡ true) same (beq_own a)

-- what holds where there is no value, where there is none
pub if_none : (o : Option ℕ) (P : Type 0) → IfNone o P → ((k : ℕ) → o ≡ Some k → ⊥) → P
if_none None P h none = h
if_none (Some k) P h none = absurd (none k refl)

pub some_also : (o : Option ℕ) (P Q : ℕ → Type 0) → ((k : ℕ) → P k → Q k) → IfSome o P → IfSome o Q
some_also None P Q is h = h
some_also (Some k) P Q is h = is k h

pub none_also : (o : Option ℕ) (P Q : Type 0) → (P → Q) → IfNone o P → IfNone o Q
none_also None P Q is h = is h
none_also (Some k) P Q is h = h

pub on_true : (b : Bool) (P : Type 0) → b ≡ true → OnTrue b P → P
on_true true P e h = h
on_true false P e h = cc

pub on_false : (b : Bool) (P : Type 0) → b ≡ false → OnFalse b P → P
on_false true P e h = cc
on_false false P e h = h
