-- Where labels stand in a text of the profile: directly in the body of a `switch` (C17 6.8.1).
use Rattle.std.proofs.Common.{◌≡◌, Bool, true, false, List, ◌++◌, None, refl}
use Rattle.mc_span.specs.declared.span.Span.{Span}
use Rattle.mc_tree.specs.Tree.{Expression, Statement, BlockItems}
use Rattle.mc_tree.specs.Tree as tree
use Rattle.subset_forms.specs.declared.context.Region.TheVariants as region
use Rattle.subset_forms.specs.declared.context.Role.TheVariants as role
use Rattle.subset_forms.specs.declared.context.Standing.{Standing}
use Rattle.subset_forms.specs.declared.context.Standing.TheVariants as standing
use Rattle.subset_forms.specs.Contexts.{standing_of_items, standing_of_label}
use Rattle.mc_subset.specs.Nodes.{Node, a_statement, has_extern, nodes_of_expression, nodes_of_specifiers, nodes_of_declarator, nodes_of_declaration, nodes_of_parts, standing_from, nodes_of_statement, nodes_of_block, nodes_of_item}
use Rattle.mc_subset.specs.Forms.{form_of, first_outside}
use Rattle.reread_law_rows.proofs.Fitting.Profile.{head_inside, rest_inside, left_inside, right_inside}

-- Labels stand inside a counted statement, as `b` says of the place of this one.
abbrev mutual
  pub HasLabels : Bool → Statement → Type 0
  HasLabels b (tree.Compound items span) = HaveLabels b items
  HasLabels b (tree.Null span) = Unit {0}
  HasLabels b (tree.ExpressionStatement a span) = Unit {0}
  HasLabels b (tree.If a s span) = HasLabels true s
  HasLabels b (tree.IfElse a s u span) = HasLabels true s × HasLabels true u
  HasLabels b (tree.Switch a s span) = HasLabels true s
  HasLabels b (tree.While a s span) = HasLabels true s
  HasLabels b (tree.DoWhile s a span) = HasLabels true s
  HasLabels b (tree.For start test step s span) = HasLabels true s
  HasLabels b (tree.Case a label s span) = (b ≡ true) × HasLabels b s
  HasLabels b (tree.Default label s span) = (b ≡ true) × HasLabels b s
  HasLabels b (tree.Label name s span) = Unit {0}
  HasLabels b (tree.Goto name span) = Unit {0}
  HasLabels b (tree.Break span) = Unit {0}
  HasLabels b (tree.Continue span) = Unit {0}
  HasLabels b (tree.Return a span) = Unit {0}

  pub HaveLabels : Bool → BlockItems → Type 0
  HaveLabels b tree.no_block_items = Unit {0}
  HaveLabels b (tree.local d rest) = HaveLabels b rest
  HaveLabels b (tree.statement s rest) = HasLabels b s × HaveLabels b rest

-- ---- the bodies of `switch` statements

-- A body of a `switch` stands inside a counted statement.
abbrev Suits : Standing → Bool → Type 0
Suits standing.Body b = b ≡ true
Suits standing.BeforeLabels b = b ≡ true
Suits standing.AmongLabels b = b ≡ true
Suits standing.Elsewhere b = Unit {0}

suits_items : (w : Standing) (b : Bool) → Suits w b → Suits (standing_of_items w) b
suits_items standing.Body b k = k
suits_items standing.BeforeLabels b k = tt
suits_items standing.AmongLabels b k = tt
suits_items standing.Elsewhere b k = tt

suits_label : (w : Standing) (b : Bool) → Suits w b → Suits (standing_of_label w) b
suits_label standing.Body b k = k
suits_label standing.BeforeLabels b k = k
suits_label standing.AmongLabels b k = k
suits_label standing.Elsewhere b k = tt

suits_from : (s : Statement) (w : Standing) (b : Bool) → Suits w b → Suits (standing_from s w) b
suits_from (tree.Case a label s span) w b k = suits_label w b k
suits_from (tree.Default label s span) w b k = suits_label w b k
suits_from s w b k = k

case_inside : (w : Standing) (b : Bool) (a : Expression) (label : Span) (s : Statement) (span : Span) → Suits w b → form_of (a_statement (tree.Case a label s span) w) ≡ None → b ≡ true
unfolding form_of
case_inside standing.Body b a label s span k h = k
case_inside standing.BeforeLabels b a label s span k h = k
case_inside standing.AmongLabels b a label s span k h = k
case_inside standing.Elsewhere b a label s span k h = absurd (cc)

default_inside : (w : Standing) (b : Bool) (label : Span) (s : Statement) (span : Span) → Suits w b → form_of (a_statement (tree.Default label s span) w) ≡ None → b ≡ true
unfolding form_of
default_inside standing.Body b label s span k h = k
default_inside standing.BeforeLabels b label s span k h = k
default_inside standing.AmongLabels b label s span k h = k
default_inside standing.Elsewhere b label s span k h = absurd (cc)

abbrev part : Expression → List Node
part a = nodes_of_expression region.Function role.Part a

mutual
  labels_in : (b : Bool) (w : Standing) (s : Statement) → Suits w b → first_outside (nodes_of_statement w s) ≡ None → HasLabels b s
  labels_in b w (tree.Compound items span) k h = labels_in_block b (standing_of_items w) items (suits_items w b k) (rest_inside (a_statement (tree.Compound items span) w) _ h)
  labels_in b w (tree.Null span) k h = tt
  labels_in b w (tree.ExpressionStatement e span) k h = tt
  labels_in b w (tree.If e one span) k h =
      labels_in true standing.Elsewhere one tt (right_inside (part e) (nodes_of_statement standing.Elsewhere one) (rest_inside (a_statement (tree.If e one span) w) _ h))
  labels_in b w (tree.IfElse e one other span) k h =
      let ys = nodes_of_statement standing.Elsewhere one in
      let zs = nodes_of_statement standing.Elsewhere other in
      let both = right_inside (part e) (ys ++ zs) (rest_inside (a_statement (tree.IfElse e one other span) w) _ h) in
      (labels_in true standing.Elsewhere one tt (left_inside ys zs both), labels_in true standing.Elsewhere other tt (right_inside ys zs both))
  labels_in b w (tree.Switch e body span) k h =
      labels_in true standing.Body body refl (right_inside (part e) (nodes_of_statement standing.Body body) (rest_inside (a_statement (tree.Switch e body span) w) _ h))
  labels_in b w (tree.While e one span) k h =
      labels_in true standing.Elsewhere one tt (right_inside (part e) (nodes_of_statement standing.Elsewhere one) (rest_inside (a_statement (tree.While e one span) w) _ h))
  labels_in b w (tree.DoWhile one e span) k h =
      labels_in true standing.Elsewhere one tt (left_inside (nodes_of_statement standing.Elsewhere one) (part e) (rest_inside (a_statement (tree.DoWhile one e span) w) _ h))
  labels_in b w (tree.For start test step one span) k h =
      labels_in true standing.Elsewhere one tt (right_inside (nodes_of_parts start test step) (nodes_of_statement standing.Elsewhere one) (rest_inside (a_statement (tree.For start test step one span) w) _ h))
  labels_in b w (tree.Case e label one span) k h = (
    case_inside w b e label one span k (head_inside (a_statement (tree.Case e label one span) w) _ h),
    labels_in b w one k (right_inside (part e) (nodes_of_statement w one) (rest_inside (a_statement (tree.Case e label one span) w) _ h)),
  )
  labels_in b w (tree.Default label one span) k h = (
    default_inside w b label one span k (head_inside (a_statement (tree.Default label one span) w) _ h),
    labels_in b w one k (rest_inside (a_statement (tree.Default label one span) w) _ h),
  )
  labels_in b w (tree.Label name one span) k h = tt
  labels_in b w (tree.Goto name span) k h = tt
  labels_in b w (tree.Break span) k h = tt
  labels_in b w (tree.Continue span) k h = tt
  labels_in b w (tree.Return a span) k h = tt

  labels_in_block : (b : Bool) (w : Standing) (items : BlockItems) → Suits w b → first_outside (nodes_of_block w items) ≡ None → HaveLabels b items
  labels_in_block b w tree.no_block_items k h = tt
  labels_in_block b w (tree.local d rest) k h = labels_in_block b w rest k (right_inside (nodes_of_declaration region.Function w d) (nodes_of_block w rest) h)
  labels_in_block b w (tree.statement one rest) k h =
      let here = standing_from one w in
      let xs = nodes_of_statement here one in
      (labels_in b here one (suits_from one w b k) (left_inside xs (nodes_of_block here rest) h), labels_in_block b here rest (suits_from one w b k) (right_inside xs (nodes_of_block here rest) h))

-- the body of a function
pub labels_in_function : (s : tree.Specifiers) (d : tree.Declarator) (b : BlockItems) (span : Span) → first_outside (nodes_of_item (tree.Defined s d b span)) ≡ None → HaveLabels false b
labels_in_function s d b span h =
    let ys = nodes_of_declarator region.Function false (has_extern s) d in
    let zs = nodes_of_block standing.Elsewhere b in
    labels_in_block false standing.Elsewhere b tt (right_inside ys zs (right_inside (nodes_of_specifiers region.Function s) (ys ++ zs) h))
