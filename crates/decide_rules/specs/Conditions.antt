-- The tree of a decision, and its conditions. A condition is a Boolean expression without Boolean
-- operators but NOT, and each occurrence is a condition of its own (DO-178C, glossary).
use Rattle.std.specs.Prelude.{◌≡◌, ℕ, ◌+◌, Bool, true, false, [], ◌∷◌}
use Rattle.mc_typed.specs.declared.operators.LogicOperator.TheVariants as logic
use Rattle.mc_span.specs.declared.span.Span.{Span}
use Rattle.mc_cond.specs.Tree.{Tree, Leaf}
use Rattle.mc_cond.specs.Tree as conditions
use Rattle.decide_rules.specs.declared.operators.FullOperator.TheVariants as full
use Rattle.decide_rules.specs.declared.operators.Junction.{Junction}
use Rattle.decide_rules.specs.declared.operators.Junction.TheVariants.{Short, Full}
use Rattle.decide_rules.specs.Nodes.{Node, Constant, Not, Logic, Expression, Whole}
use Rattle.decide_rules.specs.Roots.{Place}

-- how many conditions the decision with this root has
abbrev pub width : Node → ℕ
width (Constant span) = 1
width (Not a span) = width a
width (Logic operator a b span) = width a + width b
width (Expression top ps span) = 1
width (Whole ps) = 1

abbrev pub joined : Junction → Tree → Tree → Tree
joined (Short logic.And) a b = conditions.And a b
joined (Short logic.Or) a b = conditions.Or a b
joined (Full full.And) a b = conditions.FullAnd a b
joined (Full full.Or) a b = conditions.FullOr a b
joined (Full full.Xor) a b = conditions.FullXor a b

-- From the root down `&&`, `||`, `!` and the full operators are nodes, and the largest operands with
-- another top operator are the conditions, numbered in the order of the text, here from `first` on.
abbrev pub tree_from : ℕ → Node → Tree
tree_from first (Constant span) = Leaf first
tree_from first (Not a span) = conditions.Not (tree_from first a)
tree_from first (Logic operator a b span) =
    joined operator (tree_from first a) (tree_from (first + width a) b)
tree_from first (Expression top ps span) = Leaf first
tree_from first (Whole ps) = Leaf first

abbrev pub is_operator : Node → Bool
is_operator (Not a span) = true
is_operator (Logic operator a b span) = true
is_operator _ = false

-- is condition k of: `IsCondition a k p x` says that x is condition k of the decision with the root
-- a, and that the place p leads from the root to it
pub data IsCondition : Node → ℕ → Place → Node → Type 0 where
  itself : {a : Node} → is_operator a ≡ false → IsCondition a 0 [] a
  under_not : {a x : Node} {k : ℕ} {p : Place} {span : Span} →
      IsCondition a k p x → IsCondition (Not a span) k (0 ∷ p) x
  in_left : {a b x : Node} {k : ℕ} {p : Place} {operator : Junction} {span : Span} →
      IsCondition a k p x → IsCondition (Logic operator a b span) k (0 ∷ p) x
  in_right : {a b x : Node} {k : ℕ} {p : Place} {operator : Junction} {span : Span} →
      IsCondition b k p x → IsCondition (Logic operator a b span) (width a + k) (1 ∷ p) x
