-- Which expressions of a program are roots of decisions.
use Rattle.std.specs.Prelude.{◌≡◌, ℕ, zero, suc, Bool, true, false, not, ◌&&◌, ◌||◌, if◌then◌else◌, IsTrue, List, [], ◌∷◌, Option, Some, None}
use Rattle.mc_typed.specs.Tree.{Function}
use Rattle.decide_rules.specs.declared.role.Role.{Role}
use Rattle.decide_rules.specs.declared.role.Role.TheVariants.{Controlling, Inner, Plain}
use Rattle.decide_rules.specs.Nodes.{Node, Constant, Not, Logic, Expression, Whole, Parts, no_parts, part, controlling, program}
use Rattle.decide_rules.specs.Nodes as nodes

-- ---- integer constant expressions (C17 6.6)

-- An integer constant expression has only operands that are integer, enumeration and character
-- constants, and no call; its casts are to integer types (C17 6.6p3, p6). So no object is read. A
-- trap plays no part: `1 / 0` is one.
abbrev mutual
  pub is_constant : Node → Bool
  is_constant (Constant span) = true
  is_constant (Not a span) = is_constant a
  is_constant (Logic operator a b span) = is_constant a && is_constant b
  is_constant (Expression (nodes.Operator compares) ps span) = are_constant ps
  is_constant (Expression nodes.Other ps span) = false
  is_constant (Whole ps) = false

  pub are_constant : Parts → Bool
  are_constant no_parts = true
  are_constant (part a ps) = is_constant a && are_constant ps
  are_constant (controlling a ps) = is_constant a && are_constant ps

-- ---- roots

-- A `Role` says how an expression stands in what is around it: as `Controlling`, the controlling
-- expression of `if`, `while`, `do` or `for` or the first operand of `?:`; as `Inner`, a node or a
-- condition of the tree of a decision around it; or as `Plain`, otherwise.

-- the top operator is `&&`, `||`, `!`, a full operator, a relational or an equality operator
abbrev pub is_boolean : Node → Bool
is_boolean (Constant span) = false
is_boolean (Not a span) = true
is_boolean (Logic operator a b span) = true
is_boolean (Expression (nodes.Operator compares) ps span) = compares
is_boolean (Expression nodes.Other ps span) = false
is_boolean (Whole ps) = false

-- A root is a controlling expression, or any other Boolean expression that is neither a node nor a
-- condition of the tree of another decision; an integer constant expression never is.
abbrev pub is_candidate : Role → Node → Bool
is_candidate Controlling a = true
is_candidate Inner a = false
is_candidate Plain a = is_boolean a

abbrev pub is_root : Role → Node → Bool
is_root role a = is_candidate role a && not (is_constant a)

-- The operands of `!`, `&&`, `||` and the full operators are nodes or conditions of the tree to which
-- this operator belongs: as the root, or as a node below it.
abbrev pub is_inner : Role → Bool
is_inner Inner = true
is_inner _ = false

abbrev pub operand_role : Role → Node → Role
operand_role role a = if is_root role a || is_inner role then Inner else Plain

-- ---- places

-- a node, and how it stands in what is around it
pub record Standing : Type 0 where
  pub role : Role
  pub node : Node

abbrev pub standing : Role → Node → Standing
standing role a = record { role = role; node = a }

-- the part with this number
abbrev pub part_at : Parts → ℕ → Option Standing
part_at no_parts i = None
part_at (part a ps) zero = Some (standing Plain a)
part_at (part a ps) (suc i) = part_at ps i
part_at (controlling a ps) zero = Some (standing Controlling a)
part_at (controlling a ps) (suc i) = part_at ps i

abbrev pub step : Role → Node → ℕ → Option Standing
step role (Constant span) i = None
step role (Not a span) zero = Some (standing (operand_role role (Not a span)) a)
step role (Not a span) (suc i) = None
step role (Logic operator a b span) zero =
    Some (standing (operand_role role (Logic operator a b span)) a)
step role (Logic operator a b span) (suc zero) =
    Some (standing (operand_role role (Logic operator a b span)) b)
step role (Logic operator a b span) (suc (suc i)) = None
step role (Expression top ps span) i = part_at ps i
step role (Whole ps) i = part_at ps i

-- a place: the number of a part, the number of a part of this part, and so on
abbrev pub Place : Type 0
Place = List ℕ

-- `IsAt s p u`: from s the place p leads to u
abbrev pub IsAt : Standing → Place → Standing → Type 0
IsAt s [] u = s ≡ u
IsAt s (i ∷ p) u = (v : Standing) × (step s.role s.node i ≡ Some v) × IsAt v p u

-- an expression, and the place from the program to it
pub record Found : Type 0 where
  pub place : Place
  pub node : Node

-- is a root, in the program with these functions
abbrev pub IsRoot : List Function → Found → Type 0
IsRoot fs f =
    (role : Role) × IsAt (standing Plain (program fs)) f.place (standing role f.node)
    × IsTrue (is_root role f.node)
