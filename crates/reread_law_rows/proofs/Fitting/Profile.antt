-- What a text of the profile leaves out: lists of members and of constants in the body of a function,
-- and pointers.
use Rattle.std.proofs.Common.{◌≡◌, ℕ, zero, suc, nat_lt, Bool, true, false, if◌then◌else◌, List, [], ◌∷◌, ◌++◌, Option, Some, None, refl, ap, ◌∙◌, arith}
use Rattle.std.proofs.lemmas.Bool.Decides.{nat_tests}
use Rattle.mc_span.specs.declared.span.Span.{Span}
use Rattle.mc_tree.specs.Tree.{Name, Expression, Expressions, TypeName, Specifier, Specifiers, Declarator, ArrayLengths, Parameters, InitDeclarator, Declaration, Statement, BlockItems, Item, Members, Enumerators}
use Rattle.mc_tree.specs.Tree as tree
use Rattle.subset_forms.specs.declared.context.Region.TheVariants as region
use Rattle.subset_forms.specs.declared.context.Role.{Role}
use Rattle.subset_forms.specs.declared.context.Role.TheVariants as role
use Rattle.subset_forms.specs.declared.context.Standing.{Standing}
use Rattle.subset_forms.specs.declared.context.Standing.TheVariants as standing
use Rattle.subset_forms.specs.declared.form.Form.{Form}
use Rattle.subset_forms.specs.declared.form.Form.TheVariants as form
use Rattle.subset_forms.specs.declared.outside.Outside.{Outside}
use Rattle.subset_forms.specs.Contexts.{role_of_operands, role_in_parentheses, standing_of_items}
use Rattle.subset_forms.specs.Order.{or_else}
use Rattle.mc_subset.specs.Nodes.{Node, an_expression, a_type_name, a_specifier, a_declarator, a_declaration, a_statement, has_extern, nodes_of_expression, nodes_of_expressions, nodes_of_type, nodes_of_specifier, nodes_of_specifiers, nodes_of_declarator, nodes_of_initializer, nodes_of_init_declarator, nodes_of_init_declarators, nodes_of_declaration, nodes_of_parts, standing_from, nodes_of_statement, nodes_of_block, nodes_of_item, nodes_of_unit}
use Rattle.mc_subset.specs.Forms.{form_of, place_of, outside_at, first_outside}

-- ---- what is left out

abbrev pub IsNoList : Specifier → Type 0
IsNoList (tree.Structure tag all span) = ⊥
IsNoList (tree.Enumeration tag all span) = ⊥
IsNoList _ = Unit {0}

abbrev pub HaveNoList : Specifiers → Type 0
HaveNoList tree.no_specifiers = Unit {0}
HaveNoList (tree.specifiers s rest) = IsNoList s × HaveNoList rest

abbrev pub NamesNoList : TypeName → Type 0
NamesNoList (tree.type_name s stars span) = HaveNoList s

abbrev mutual
  pub HasNoList : Expression → Type 0
  HasNoList (tree.Named name) = Unit {0}
  HasNoList (tree.Constant value decimal unsigned longs span) = Unit {0}
  HasNoList (tree.Character value span) = Unit {0}
  HasNoList (tree.Parenthesized a span) = HasNoList a
  HasNoList (tree.Call name all span) = GivesNoList all
  HasNoList (tree.Index a b span) = HasNoList a × HasNoList b
  HasNoList (tree.Member a name span) = HasNoList a
  HasNoList (tree.PostfixStep operator a span) = HasNoList a
  HasNoList (tree.PrefixStep operator a span) = HasNoList a
  HasNoList (tree.Unary operator a span) = HasNoList a
  HasNoList (tree.Cast type a span) = NamesNoList type × HasNoList a
  HasNoList (tree.Binary operator a b span) = HasNoList a × HasNoList b
  HasNoList (tree.Conditional a b c span) = HasNoList a × HasNoList b × HasNoList c
  HasNoList (tree.Assignment operator a b span) = HasNoList a × HasNoList b
  HasNoList (tree.Comma all span) = GivesNoList all

  pub GivesNoList : Expressions → Type 0
  GivesNoList tree.no_expressions = Unit {0}
  GivesNoList (tree.expressions a rest) = HasNoList a × GivesNoList rest

abbrev pub stars_of : Declarator → ℕ
stars_of (tree.object stars name all span) = stars
stars_of (tree.function stars name all span) = stars

abbrev pub declarator_of : InitDeclarator → Declarator
declarator_of (tree.bare d) = d
declarator_of (tree.initialized d value) = d

-- the first declarator of a local has no `*`
abbrev pub BeginsPlain : Declaration → Type 0
BeginsPlain (tree.declaration s [] span) = Unit {0}
BeginsPlain (tree.declaration s (one ∷ rest) span) = stars_of (declarator_of one) ≡ 0

abbrev mutual
  pub IsAllowed : Statement → Type 0
  IsAllowed (tree.Compound b span) = AreAllowed b
  IsAllowed (tree.Null span) = Unit {0}
  IsAllowed (tree.ExpressionStatement a span) = Unit {0}
  IsAllowed (tree.If a s span) = IsAllowed s
  IsAllowed (tree.IfElse a s u span) = IsAllowed s × IsAllowed u
  IsAllowed (tree.Switch a s span) = IsAllowed s
  IsAllowed (tree.While a s span) = IsAllowed s
  IsAllowed (tree.DoWhile s a span) = IsAllowed s
  IsAllowed (tree.For start a b s span) = IsAllowed s
  IsAllowed (tree.Case a label s span) = IsAllowed s
  IsAllowed (tree.Default label s span) = IsAllowed s
  IsAllowed (tree.Label name s span) = IsAllowed s
  IsAllowed (tree.Goto name span) = Unit {0}
  IsAllowed (tree.Break span) = Unit {0}
  IsAllowed (tree.Continue span) = Unit {0}
  IsAllowed (tree.Return None span) = Unit {0}
  IsAllowed (tree.Return (Some a) span) = HasNoList a

  pub AreAllowed : BlockItems → Type 0
  AreAllowed tree.no_block_items = Unit {0}
  AreAllowed (tree.local d rest) = BeginsPlain d × AreAllowed rest
  AreAllowed (tree.statement s rest) = IsAllowed s × AreAllowed rest

abbrev pub IsAllowedItem : Item → Type 0
IsAllowedItem (tree.Declared d) = Unit {0}
IsAllowedItem (tree.Defined s d b span) = AreAllowed b

abbrev pub AreAllowedItems : List Item → Type 0
AreAllowedItems [] = Unit {0}
AreAllowedItems (one ∷ rest) = IsAllowedItem one × AreAllowedItems rest

-- ---- lists of nodes

pub none_first : (a b : Option Outside) → or_else a b ≡ None → a ≡ None
none_first None b h = refl
none_first (Some x) b h = absurd (cc)

pub none_later : (a b : Option Outside) → or_else a b ≡ None → b ≡ None
none_later None b h = h
none_later (Some x) b h = absurd (cc)

pub no_form : (o : Option Form) (p : Span) → outside_at o p ≡ None → o ≡ None
no_form None p h = refl
no_form (Some f) p h = absurd (cc)

pub head_inside : (n : Node) (rest : List Node) → first_outside (n ∷ rest) ≡ None → form_of n ≡ None
head_inside n rest h = no_form (form_of n) (place_of n) (none_first (outside_at (form_of n) (place_of n)) (first_outside rest) h)

pub rest_inside : (n : Node) (rest : List Node) → first_outside (n ∷ rest) ≡ None → first_outside rest ≡ None
rest_inside n rest h = none_later (outside_at (form_of n) (place_of n)) (first_outside rest) h

pub left_inside : (xs ys : List Node) → first_outside (xs ++ ys) ≡ None → first_outside xs ≡ None
left_inside [] ys h = refl
left_inside (n ∷ xs) ys h =
    let a = outside_at (form_of n) (place_of n) in
    ap (λ o. or_else o (first_outside xs)) (none_first a (first_outside (xs ++ ys)) h) ∙ left_inside xs ys (none_later a (first_outside (xs ++ ys)) h)

pub right_inside : (xs ys : List Node) → first_outside (xs ++ ys) ≡ None → first_outside ys ≡ None
right_inside [] ys h = h
right_inside (n ∷ xs) ys h = right_inside xs ys (none_later (outside_at (form_of n) (place_of n)) (first_outside (xs ++ ys)) h)

-- ---- expressions

pub no_structure : (tag : Option Name) (all : Members) (span : Span) → form_of (a_specifier (tree.Structure tag all span) region.Function) ≡ None → ⊥
unfolding form_of
no_structure tag all span h = cc

pub no_enumeration : (tag : Option Name) (all : Enumerators) (span : Span) → form_of (a_specifier (tree.Enumeration tag all span) region.Function) ≡ None → ⊥
unfolding form_of
no_enumeration tag all span h = cc

specifier_inside : (s : Specifier) → first_outside (nodes_of_specifier region.Function s) ≡ None → IsNoList s
specifier_inside (tree.Word w span) h = tt
specifier_inside (tree.TypedefName name) h = tt
specifier_inside (tree.StructureTag name span) h = tt
specifier_inside (tree.Structure tag all span) h = no_structure tag all span (head_inside (a_specifier (tree.Structure tag all span) region.Function) _ h)
specifier_inside (tree.EnumerationTag name span) h = tt
specifier_inside (tree.Enumeration tag all span) h = no_enumeration tag all span (head_inside (a_specifier (tree.Enumeration tag all span) region.Function) _ h)

specifiers_inside : (all : Specifiers) → first_outside (nodes_of_specifiers region.Function all) ≡ None → HaveNoList all
specifiers_inside tree.no_specifiers h = tt
specifiers_inside (tree.specifiers s rest) h =
    let xs = nodes_of_specifier region.Function s in
    let ys = nodes_of_specifiers region.Function rest in
    (specifier_inside s (left_inside xs ys h), specifiers_inside rest (right_inside xs ys h))

type_inside : (type : TypeName) → first_outside (nodes_of_type region.Function type) ≡ None → NamesNoList type
type_inside (tree.type_name s stars span) h = specifiers_inside s (rest_inside (a_type_name (tree.type_name s stars span)) _ h)

abbrev of : Role → Expression → List Node
of r a = nodes_of_expression region.Function r a

mutual
  expression_inside : (r : Role) (a : Expression) → first_outside (of r a) ≡ None → HasNoList a
  expression_inside r (tree.Named name) h = tt
  expression_inside r (tree.Constant value decimal unsigned longs span) h = tt
  expression_inside r (tree.Character value span) h = tt
  expression_inside r (tree.Parenthesized a span) h = expression_inside (role_in_parentheses r) a (rest_inside (an_expression (tree.Parenthesized a span) r) _ h)
  expression_inside r (tree.Call name all span) h = expressions_inside role.Part all (rest_inside (an_expression (tree.Call name all span) r) _ h)
  expression_inside r (tree.Index a b span) h =
      let both = rest_inside (an_expression (tree.Index a b span) r) _ h in
      (expression_inside role.Part a (left_inside (of role.Part a) (of role.Part b) both), expression_inside role.Part b (right_inside (of role.Part a) (of role.Part b) both))
  expression_inside r (tree.Member a name span) h = expression_inside role.Part a (rest_inside (an_expression (tree.Member a name span) r) _ h)
  expression_inside r (tree.PostfixStep operator a span) h = expression_inside role.Part a (rest_inside (an_expression (tree.PostfixStep operator a span) r) _ h)
  expression_inside r (tree.PrefixStep operator a span) h = expression_inside role.Part a (rest_inside (an_expression (tree.PrefixStep operator a span) r) _ h)
  expression_inside r (tree.Unary operator a span) h = expression_inside role.Part a (rest_inside (an_expression (tree.Unary operator a span) r) _ h)
  expression_inside r (tree.Cast type a span) h =
      let xs = nodes_of_type region.Function type in
      let both = rest_inside (an_expression (tree.Cast type a span) r) _ h in
      (type_inside type (left_inside xs (of role.Part a) both), expression_inside role.Part a (right_inside xs (of role.Part a) both))
  expression_inside r (tree.Binary operator a b span) h =
      let both = rest_inside (an_expression (tree.Binary operator a b span) r) _ h in
      (expression_inside role.Part a (left_inside (of role.Part a) (of role.Part b) both), expression_inside role.Part b (right_inside (of role.Part a) (of role.Part b) both))
  expression_inside r (tree.Conditional a b c span) h =
      let all = rest_inside (an_expression (tree.Conditional a b c span) r) _ h in
      let both = right_inside (of role.Part a) (of role.Part b ++ of role.Part c) all in (
        expression_inside role.Part a (left_inside (of role.Part a) (of role.Part b ++ of role.Part c) all),
        expression_inside role.Part b (left_inside (of role.Part b) (of role.Part c) both),
        expression_inside role.Part c (right_inside (of role.Part b) (of role.Part c) both),
      )
  expression_inside r (tree.Assignment operator a b span) h =
      let both = rest_inside (an_expression (tree.Assignment operator a b span) r) _ h in
      (expression_inside role.Part a (left_inside (of role.Part a) (of role.Part b) both), expression_inside role.Part b (right_inside (of role.Part a) (of role.Part b) both))
  expression_inside r (tree.Comma all span) h = expressions_inside (role_of_operands r) all (rest_inside (an_expression (tree.Comma all span) r) _ h)

  expressions_inside : (r : Role) (all : Expressions) → first_outside (nodes_of_expressions region.Function r all) ≡ None → GivesNoList all
  expressions_inside r tree.no_expressions h = tt
  expressions_inside r (tree.expressions a rest) h =
      let ys = nodes_of_expressions region.Function r rest in
      (expression_inside r a (left_inside (of r a) ys h), expressions_inside r rest (right_inside (of r a) ys h))

-- ---- declarations

pub pointed : (b : Bool) (o : Option Form) → b ≡ true → (if b then Some form.Pointer else o) ≡ None → ⊥
pointed true o e h = cc
pointed false o e h = cc

pub some_stars : (n : ℕ) → nat_lt 0 (suc n) ≡ true
some_stars n = grind (arith, nat_tests)

no_stars_object : (stars : ℕ) (name : Name) (all : ArrayLengths) (span : Span) (local external : Bool) → form_of (a_declarator (tree.object stars name all span) local external) ≡ None → stars ≡ 0
unfolding form_of
no_stars_object zero name all span local external h = refl
no_stars_object (suc n) name all span local external h = absurd (pointed (nat_lt 0 (suc n)) _ (some_stars n) h)

no_stars_function : (stars : ℕ) (name : Name) (all : Parameters) (span : Span) (local external : Bool) → form_of (a_declarator (tree.function stars name all span) local external) ≡ None → stars ≡ 0
unfolding form_of
no_stars_function zero name all span local external h = refl
no_stars_function (suc n) name all span local external h = absurd (pointed (nat_lt 0 (suc n)) _ (some_stars n) h)

declarator_inside : (external : Bool) (d : Declarator) → first_outside (nodes_of_declarator region.Function true external d) ≡ None → stars_of d ≡ 0
declarator_inside external (tree.object stars name all span) h = no_stars_object stars name all span true external (head_inside (a_declarator (tree.object stars name all span) true external) _ h)
declarator_inside external (tree.function stars name all span) h = no_stars_function stars name all span true external (head_inside (a_declarator (tree.function stars name all span) true external) _ h)

init_inside : (external : Bool) (one : InitDeclarator) → first_outside (nodes_of_init_declarator region.Function external one) ≡ None → stars_of (declarator_of one) ≡ 0
init_inside external (tree.bare d) h = declarator_inside external d h
init_inside external (tree.initialized d value) h = declarator_inside external d (left_inside (nodes_of_declarator region.Function true external d) (nodes_of_initializer region.Function value) h)

declaration_inside : (w : Standing) (d : Declaration) → first_outside (nodes_of_declaration region.Function w d) ≡ None → BeginsPlain d
declaration_inside w (tree.declaration all [] span) h = tt
declaration_inside w (tree.declaration all (one ∷ ds) span) h =
    let both = right_inside (nodes_of_specifiers region.Function all) (nodes_of_init_declarators region.Function (has_extern all) (one ∷ ds)) (rest_inside (a_declaration (tree.declaration all (one ∷ ds) span) w) _ h) in
    init_inside (has_extern all) one (left_inside (nodes_of_init_declarator region.Function (has_extern all) one) (nodes_of_init_declarators region.Function (has_extern all) ds) both)

-- ---- statements

mutual
  statement_inside : (w : Standing) (s : Statement) → first_outside (nodes_of_statement w s) ≡ None → IsAllowed s
  statement_inside w (tree.Compound items span) h = block_inside (standing_of_items w) items (rest_inside (a_statement (tree.Compound items span) w) _ h)
  statement_inside w (tree.Null span) h = tt
  statement_inside w (tree.ExpressionStatement e span) h = tt
  statement_inside w (tree.If e one span) h =
      statement_inside standing.Elsewhere one (right_inside (of role.Part e) (nodes_of_statement standing.Elsewhere one) (rest_inside (a_statement (tree.If e one span) w) _ h))
  statement_inside w (tree.IfElse e one other span) h =
      let ys = nodes_of_statement standing.Elsewhere one in
      let zs = nodes_of_statement standing.Elsewhere other in
      let both = right_inside (of role.Part e) (ys ++ zs) (rest_inside (a_statement (tree.IfElse e one other span) w) _ h) in
      (statement_inside standing.Elsewhere one (left_inside ys zs both), statement_inside standing.Elsewhere other (right_inside ys zs both))
  statement_inside w (tree.Switch e body span) h =
      statement_inside standing.Body body (right_inside (of role.Part e) (nodes_of_statement standing.Body body) (rest_inside (a_statement (tree.Switch e body span) w) _ h))
  statement_inside w (tree.While e one span) h =
      statement_inside standing.Elsewhere one (right_inside (of role.Part e) (nodes_of_statement standing.Elsewhere one) (rest_inside (a_statement (tree.While e one span) w) _ h))
  statement_inside w (tree.DoWhile one e span) h =
      statement_inside standing.Elsewhere one (left_inside (nodes_of_statement standing.Elsewhere one) (of role.Part e) (rest_inside (a_statement (tree.DoWhile one e span) w) _ h))
  statement_inside w (tree.For start test step one span) h =
      statement_inside standing.Elsewhere one (right_inside (nodes_of_parts start test step) (nodes_of_statement standing.Elsewhere one) (rest_inside (a_statement (tree.For start test step one span) w) _ h))
  statement_inside w (tree.Case e label one span) h =
      statement_inside w one (right_inside (of role.Part e) (nodes_of_statement w one) (rest_inside (a_statement (tree.Case e label one span) w) _ h))
  statement_inside w (tree.Default label one span) h = statement_inside w one (rest_inside (a_statement (tree.Default label one span) w) _ h)
  statement_inside w (tree.Label name one span) h = statement_inside standing.Elsewhere one (rest_inside (a_statement (tree.Label name one span) w) _ h)
  statement_inside w (tree.Goto name span) h = tt
  statement_inside w (tree.Break span) h = tt
  statement_inside w (tree.Continue span) h = tt
  statement_inside w (tree.Return None span) h = tt
  statement_inside w (tree.Return (Some e) span) h = expression_inside role.Part e (rest_inside (a_statement (tree.Return (Some e) span) w) _ h)

  block_inside : (w : Standing) (items : BlockItems) → first_outside (nodes_of_block w items) ≡ None → AreAllowed items
  block_inside w tree.no_block_items h = tt
  block_inside w (tree.local d rest) h =
      let xs = nodes_of_declaration region.Function w d in
      (declaration_inside w d (left_inside xs (nodes_of_block w rest) h), block_inside w rest (right_inside xs (nodes_of_block w rest) h))
  block_inside w (tree.statement one rest) h =
      let here = standing_from one w in
      let xs = nodes_of_statement here one in
      (statement_inside here one (left_inside xs (nodes_of_block here rest) h), block_inside here rest (right_inside xs (nodes_of_block here rest) h))

-- ---- items

item_inside : (one : Item) → first_outside (nodes_of_item one) ≡ None → IsAllowedItem one
item_inside (tree.Declared d) h = tt
item_inside (tree.Defined s d b span) h =
    let ys = nodes_of_declarator region.Function false (has_extern s) d in
    let zs = nodes_of_block standing.Elsewhere b in
    block_inside standing.Elsewhere b (right_inside ys zs (right_inside (nodes_of_specifiers region.Function s) (ys ++ zs) h))

pub unit_inside : (unit : List Item) → first_outside (nodes_of_unit unit) ≡ None → AreAllowedItems unit
unit_inside [] h = tt
unit_inside (one ∷ rest) h =
    (item_inside one (left_inside (nodes_of_item one) (nodes_of_unit rest) h), unit_inside rest (right_inside (nodes_of_item one) (nodes_of_unit rest) h))
