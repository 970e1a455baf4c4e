-- A unit without an outside form declares no function in a block.
use Rattle.std.proofs.Common.{◌≡◌, ℕ, nat_lt, Bool, true, false, if◌then◌else◌, List, [], ◌∷◌, ◌++◌, Option, Some, None, refl, ap, ◌∙◌}
use Rattle.mc_span.specs.declared.span.Span.{Span}
use Rattle.mc_tree.specs.Tree.{Name, Expression, InitDeclarator, Declaration, ForStart, Statement, BlockItems, Item, Parameters, Specifiers}
use Rattle.mc_tree.specs.Tree as tree
use Rattle.subset_forms.specs.declared.context.Region.TheVariants as region
use Rattle.subset_forms.specs.declared.context.Role.TheVariants as role
use Rattle.subset_forms.specs.declared.context.Standing.{Standing}
use Rattle.subset_forms.specs.declared.context.Standing.TheVariants as standing
use Rattle.subset_forms.specs.declared.form.Form.{Form}
use Rattle.subset_forms.specs.declared.form.Form.TheVariants as form
use Rattle.subset_forms.specs.declared.outside.Outside.{Outside}
use Rattle.subset_forms.specs.Contexts.{standing_of_items}
use Rattle.subset_forms.specs.Order.{or_else}
use Rattle.mc_subset.specs.Nodes.{Node, a_declarator, a_declaration, a_statement, has_extern, nodes_of_expression, nodes_of_specifiers, nodes_of_declarator, nodes_of_initializer, nodes_of_init_declarator, nodes_of_init_declarators, nodes_of_declaration, nodes_of_optional, nodes_of_start, nodes_of_parts, standing_from, nodes_of_statement, nodes_of_block, nodes_of_item, nodes_of_unit}
use Rattle.mc_subset.specs.Forms.{form_of, place_of, outside_at, first_outside}
use Rattle.laws_soundness.specs.Blocks.{IsNoFunction, declarator_of, HaveNoFunction, DeclaresNoFunction, StartsWithNoFunction, HasNoFunction, BlockHasNoFunction}

-- ---- lists of nodes

none_first : (a b : Option Outside) → or_else a b ≡ None → a ≡ None
none_first None b h = refl
none_first (Some x) b h = absurd (cc)

none_later : (a b : Option Outside) → or_else a b ≡ None → b ≡ None
none_later None b h = h
none_later (Some x) b h = absurd (cc)

no_form : (o : Option Form) (p : Span) → outside_at o p ≡ None → o ≡ None
no_form None p h = refl
no_form (Some f) p h = absurd (cc)

head_inside : (n : Node) (rest : List Node) → first_outside (n ∷ rest) ≡ None → form_of n ≡ None
head_inside n rest h =
    no_form (form_of n) (place_of n) (none_first (outside_at (form_of n) (place_of n)) (first_outside rest) h)

rest_inside : (n : Node) (rest : List Node) → first_outside (n ∷ rest) ≡ None → first_outside rest ≡ None
rest_inside n rest h = none_later (outside_at (form_of n) (place_of n)) (first_outside rest) h

left_inside : (xs ys : List Node) → first_outside (xs ++ ys) ≡ None → first_outside xs ≡ None
left_inside [] ys h = refl
left_inside (n ∷ xs) ys h =
    let a = outside_at (form_of n) (place_of n) in
    ap (λ o. or_else o (first_outside xs)) (none_first a (first_outside (xs ++ ys)) h)
    ∙ left_inside xs ys (none_later a (first_outside (xs ++ ys)) h)

right_inside : (xs ys : List Node) → first_outside (xs ++ ys) ≡ None → first_outside ys ≡ None
right_inside [] ys h = h
right_inside (n ∷ xs) ys h =
    right_inside xs ys (none_later (outside_at (form_of n) (place_of n)) (first_outside (xs ++ ys)) h)

-- ---- declarators

local_function : (stars : ℕ) (name : Name) (all : Parameters) (span : Span) (external : Bool)
    → form_of (a_declarator (tree.function stars name all span) true external) ≡ None → ⊥
unfolding form_of
local_function stars name all span external h = by_stars (nat_lt 0 stars) h
  where
    by_stars : (b : Bool) → (if b then Some form.Pointer else Some form.LocalFunction) ≡ None → ⊥
    by_stars true h = cc
    by_stars false h = cc

declarator_inside : (external : Bool) (d : tree.Declarator)
    → first_outside (nodes_of_declarator region.Function true external d) ≡ None → IsNoFunction d
declarator_inside external (tree.object stars name all span) h = tt
declarator_inside external (tree.function stars name all span) h =
    absurd (local_function stars name all span external
    (head_inside (a_declarator (tree.function stars name all span) true external) _ h))

init_inside : (external : Bool) (d : InitDeclarator)
    → first_outside (nodes_of_init_declarator region.Function external d) ≡ None → IsNoFunction (declarator_of d)
init_inside external (tree.bare d) h = declarator_inside external d h
init_inside external (tree.initialized d value) h =
    declarator_inside external d
    (left_inside (nodes_of_declarator region.Function true external d) (nodes_of_initializer region.Function value) h)

inits_inside : (external : Bool) (ds : List InitDeclarator)
    → first_outside (nodes_of_init_declarators region.Function external ds) ≡ None → HaveNoFunction ds
inits_inside external [] h = tt
inits_inside external (d ∷ ds) h =
    let xs = nodes_of_init_declarator region.Function external d in
    let ys = nodes_of_init_declarators region.Function external ds in
    (init_inside external d (left_inside xs ys h), inits_inside external ds (right_inside xs ys h))

declaration_inside : (w : Standing) (d : Declaration)
    → first_outside (nodes_of_declaration region.Function w d) ≡ None → DeclaresNoFunction d
declaration_inside w (tree.declaration all ds span) h =
    inits_inside (has_extern all) ds
    (right_inside (nodes_of_specifiers region.Function all) (nodes_of_init_declarators region.Function (has_extern all) ds)
    (rest_inside (a_declaration (tree.declaration all ds span) w) _ h))

start_inside : (start : ForStart) → first_outside (nodes_of_start start) ≡ None → StartsWithNoFunction start
start_inside (tree.StartsLocal d) h = declaration_inside standing.Elsewhere d h
start_inside (tree.StartsExpression e) h = tt

-- ---- statements

mutual
  statement_inside : (w : Standing) (s : Statement) → first_outside (nodes_of_statement w s) ≡ None → HasNoFunction s
  statement_inside w (tree.Compound items span) h =
      block_inside (standing_of_items w) items (rest_inside (a_statement (tree.Compound items span) w) _ h)
  statement_inside w (tree.Null span) h = tt
  statement_inside w (tree.ExpressionStatement e span) h = tt
  statement_inside w (tree.If e one span) h =
      statement_inside standing.Elsewhere one
      (right_inside (nodes_of_expression region.Function role.Part e) (nodes_of_statement standing.Elsewhere one)
      (rest_inside (a_statement (tree.If e one span) w) _ h))
  statement_inside w (tree.IfElse e one other span) h =
      let xs = nodes_of_expression region.Function role.Part e in
      let ys = nodes_of_statement standing.Elsewhere one in
      let zs = nodes_of_statement standing.Elsewhere other in
      let both = right_inside xs (ys ++ zs) (rest_inside (a_statement (tree.IfElse e one other span) w) _ h) in (
        statement_inside standing.Elsewhere one (left_inside ys zs both),
        statement_inside standing.Elsewhere other (right_inside ys zs both),
      )
  statement_inside w (tree.Switch e body span) h =
      statement_inside standing.Body body
      (right_inside (nodes_of_expression region.Function role.Part e) (nodes_of_statement standing.Body body)
      (rest_inside (a_statement (tree.Switch e body span) w) _ h))
  statement_inside w (tree.While e one span) h =
      statement_inside standing.Elsewhere one
      (right_inside (nodes_of_expression region.Function role.Part e) (nodes_of_statement standing.Elsewhere one)
      (rest_inside (a_statement (tree.While e one span) w) _ h))
  statement_inside w (tree.DoWhile one e span) h =
      statement_inside standing.Elsewhere one
      (left_inside (nodes_of_statement standing.Elsewhere one) (nodes_of_expression region.Function role.Part e)
      (rest_inside (a_statement (tree.DoWhile one e span) w) _ h))
  statement_inside w (tree.For start test step one span) h =
      let xs = nodes_of_parts start test step in
      let ys = nodes_of_statement standing.Elsewhere one in
      let all = rest_inside (a_statement (tree.For start test step one span) w) _ h in
      let parts = left_inside xs ys all in (
        start_inside start
            (left_inside (nodes_of_start start) (nodes_of_optional role.Part test ++ nodes_of_optional role.ForPart step) parts),
        statement_inside standing.Elsewhere one (right_inside xs ys all),
      )
  statement_inside w (tree.Case e label one span) h =
      statement_inside w one
      (right_inside (nodes_of_expression region.Function role.Part e) (nodes_of_statement w one)
      (rest_inside (a_statement (tree.Case e label one span) w) _ h))
  statement_inside w (tree.Default label one span) h =
      statement_inside w one (rest_inside (a_statement (tree.Default label one span) w) _ h)
  statement_inside w (tree.Label name one span) h =
      statement_inside standing.Elsewhere one (rest_inside (a_statement (tree.Label name one span) w) _ h)
  statement_inside w (tree.Goto name span) h = tt
  statement_inside w (tree.Break span) h = tt
  statement_inside w (tree.Continue span) h = tt
  statement_inside w (tree.Return e span) h = tt

  block_inside : (w : Standing) (items : BlockItems) → first_outside (nodes_of_block w items) ≡ None
      → BlockHasNoFunction items
  block_inside w tree.no_block_items h = tt
  block_inside w (tree.local d rest) h =
      let xs = nodes_of_declaration region.Function w d in
      let ys = nodes_of_block w rest in
      (declaration_inside w d (left_inside xs ys h), block_inside w rest (right_inside xs ys h))
  block_inside w (tree.statement one rest) h =
      let v = standing_from one w in
      let xs = nodes_of_statement v one in
      let ys = nodes_of_block v rest in
      (statement_inside v one (left_inside xs ys h), block_inside v rest (right_inside xs ys h))

-- ---- units

pub body_inside : (all : Specifiers) (d : tree.Declarator) (body : BlockItems) (span : Span)
    → first_outside (nodes_of_item (tree.Defined all d body span)) ≡ None → BlockHasNoFunction body
body_inside all d body span h =
    let xs = nodes_of_specifiers region.Function all in
    let ys = nodes_of_declarator region.Function false (has_extern all) d in
    let zs = nodes_of_block standing.Elsewhere body in
    block_inside standing.Elsewhere body (right_inside ys zs (right_inside xs (ys ++ zs) h))

pub first_item_inside : (i : Item) (rest : List Item) → first_outside (nodes_of_unit (i ∷ rest)) ≡ None
    → first_outside (nodes_of_item i) ≡ None
first_item_inside i rest h = left_inside (nodes_of_item i) (nodes_of_unit rest) h

pub later_items_inside : (i : Item) (rest : List Item) → first_outside (nodes_of_unit (i ∷ rest)) ≡ None
    → first_outside (nodes_of_unit rest) ≡ None
later_items_inside i rest h = right_inside (nodes_of_item i) (nodes_of_unit rest) h
