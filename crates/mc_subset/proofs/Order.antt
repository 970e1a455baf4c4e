-- The first node outside of two lists after each other.
use Rattle.std.proofs.Common.{◌≡◌, List, [], ◌∷◌, ◌++◌, Option, Some, None, refl, ap, ◌∙◌}
use Rattle.std.proofs.lemmas.Grind.{common_steps}
use Rattle.subset_forms.specs.declared.outside.Outside.{Outside}
use Rattle.subset_forms.specs.declared.context.Region.{Region}
use Rattle.subset_forms.specs.declared.context.Role.{Role}
use Rattle.subset_forms.specs.declared.context.Standing.{Standing}
use Rattle.mc_tree.specs.Tree.{Expression, Statement}
use Rattle.mc_tree.specs.Tree as t
use Rattle.mc_subset.specs.Nodes.{Node, an_expression, a_statement, nodes_of_expression, nodes_of_statement, after_first}
use Rattle.subset_forms.specs.Order.{or_else}
use Rattle.mc_subset.specs.Forms.{form_of, place_of, outside_at, first_outside}

pub or_else_assoc : (a b c : Option Outside) → or_else a (or_else b c) ≡ or_else (or_else a b) c
or_else_assoc None b c = refl
or_else_assoc (Some first) b c = refl

pub first_of_both : (xs ys : List Node) → first_outside (xs ++ ys) ≡ or_else (first_outside xs) (first_outside ys)
first_of_both [] ys = refl
first_of_both (n ∷ xs) ys =
    ap (or_else (outside_at (form_of n) (place_of n))) (first_of_both xs ys)
    ∙ or_else_assoc (outside_at (form_of n) (place_of n)) (first_outside xs) (first_outside ys)

pub or_else_none : (a : Option Outside) → or_else a None ≡ a
or_else_none None = refl
or_else_none (Some first) = refl

-- for the loops
pub ruleset lists = (common_steps, first_of_both)

-- for the loop that goes through all items
pub ruleset all_lists = (common_steps, first_of_both, or_else_assoc, or_else_none)

-- an expression is the first of its nodes
pub first_of_expression : (g : Region) (r : Role) (e : Expression)
    → first_outside (nodes_of_expression g r e) ≡ or_else (outside_at (form_of (an_expression e r)) (place_of (an_expression e r))) (first_outside (after_first (nodes_of_expression g r e)))
first_of_expression g r (t.Named name) = refl
first_of_expression g r (t.Constant value decimal unsigned longs span) = refl
first_of_expression g r (t.Character value span) = refl
first_of_expression g r (t.Parenthesized a span) = refl
first_of_expression g r (t.Call name all span) = refl
first_of_expression g r (t.Index a b span) = refl
first_of_expression g r (t.Member a name span) = refl
first_of_expression g r (t.PostfixStep o a span) = refl
first_of_expression g r (t.PrefixStep o a span) = refl
first_of_expression g r (t.Unary o a span) = refl
first_of_expression g r (t.Cast type a span) = refl
first_of_expression g r (t.Binary o a b span) = refl
first_of_expression g r (t.Conditional a b c span) = refl
first_of_expression g r (t.Assignment o a b span) = refl
first_of_expression g r (t.Comma all span) = refl

-- and a statement of its own
pub first_of_statement : (w : Standing) (s : Statement)
    → first_outside (nodes_of_statement w s) ≡ or_else (outside_at (form_of (a_statement s w)) (place_of (a_statement s w))) (first_outside (after_first (nodes_of_statement w s)))
first_of_statement w (t.Compound b span) = refl
first_of_statement w (t.Null span) = refl
first_of_statement w (t.ExpressionStatement a span) = refl
first_of_statement w (t.If a s span) = refl
first_of_statement w (t.IfElse a s u span) = refl
first_of_statement w (t.Switch a s span) = refl
first_of_statement w (t.While a s span) = refl
first_of_statement w (t.DoWhile s a span) = refl
first_of_statement w (t.For start a b s span) = refl
first_of_statement w (t.Case a label s span) = refl
first_of_statement w (t.Default label s span) = refl
first_of_statement w (t.Label name s span) = refl
first_of_statement w (t.Goto name span) = refl
first_of_statement w (t.Break span) = refl
first_of_statement w (t.Continue span) = refl
first_of_statement w (t.Return a span) = refl
