-- How many decisions there are in a part of a program.
use Rattle.std.specs.Prelude.{ℕ, zero, suc, ◌+◌, Bool, true, false, List, [], ◌∷◌}
use Rattle.mc_typed.specs.Tree.{Function}
use Rattle.decide_rules.specs.declared.role.Role.{Role}
use Rattle.decide_rules.specs.declared.role.Role.TheVariants.{Controlling, Plain}
use Rattle.decide_rules.specs.Nodes.{Node, Constant, Not, Logic, Expression, Whole, Parts, no_parts, part, controlling}
use Rattle.decide_rules.specs.Nodes as nodes
use Rattle.decide_rules.specs.Roots.{is_root, operand_role}

abbrev pub one_where : Bool → ℕ
one_where true = 1
one_where false = 0

-- how many roots a node has, itself included
abbrev mutual
  pub roots : Role → Node → ℕ
  roots role (Constant span) = one_where (is_root role (Constant span))
  roots role (Not a span) =
      one_where (is_root role (Not a span)) + roots (operand_role role (Not a span)) a
  roots role (Logic operator a b span) =
      one_where (is_root role (Logic operator a b span))
      + roots (operand_role role (Logic operator a b span)) a
      + roots (operand_role role (Logic operator a b span)) b
  roots role (Expression top ps span) =
      one_where (is_root role (Expression top ps span)) + roots_in ps
  roots role (Whole ps) = one_where (is_root role (Whole ps)) + roots_in ps

  pub roots_in : Parts → ℕ
  roots_in no_parts = 0
  roots_in (part a ps) = roots Plain a + roots_in ps
  roots_in (controlling a ps) = roots Controlling a + roots_in ps

-- the functions before the one with this number
abbrev pub roots_before : List Function → ℕ → ℕ
roots_before [] f = 0
roots_before (g ∷ functions) zero = 0
roots_before (g ∷ functions) (suc f) = roots Plain (nodes.function g) + roots_before functions f
