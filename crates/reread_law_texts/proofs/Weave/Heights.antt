-- How high a tree with brackets is: as high as the tree, and one more for each bracket on the way.
use Rattle.std.proofs.Common.{◌≡◌, ◌≤◌, ◌<◌, ℕ, zero, suc, ◌+◌, ◌*◌, max, Bool, true, false, List, [], ◌∷◌, Option, Some, None, refl, sym, ap, subst, ◌∙◌, arith, le_trans}
use native.Mathlib.Nat.{mul-add, mul-one, mul-le-mul_left}
use Rattle.mc_span.specs.declared.span.Span.{Span}
use Rattle.mc_tree.specs.Tree.{Expression, Expressions, TypeName, Specifier, Specifiers, StructMember, Members, Enumerator, Enumerators, Declarator, Declarators, ArrayLengths, Parameters, Parameter, ParameterList, Initializer, Initializers, InitDeclarator, Declaration, ForStart, Statement, BlockItems, Item}
use Rattle.mc_tree.specs.Tree as t
use Rattle.mc_tree.specs.Height.{height, tallest, height_type, height_specifier, height_specifiers, height_member, height_members, height_enumerator, height_enumerators, height_declarator, height_declarators, height_lengths, height_parameters, height_parameter, height_parameter_list, height_initializer, height_initializers, height_init_declarator, height_init_declarators, height_declaration, height_optional, height_start, height_statement, height_block, height_item, height_unit}
use Rattle.reread_law_texts.specs.weave.Brackets.{Brackets, AreAtMost}
use Rattle.reread_law_texts.specs.weave.Trees.{around_by, braced_by, bracketed, bracketed_expressions, bracketed_type_name, bracketed_specifier, bracketed_specifiers, bracketed_member, bracketed_members, bracketed_enumerator, bracketed_enumerators, bracketed_declarator, bracketed_declarators, bracketed_lengths, bracketed_parameters, bracketed_parameter, bracketed_parameter_list, bracketed_initializer, bracketed_initializers, bracketed_init_declarator, bracketed_init_declarators, bracketed_declaration, bracketed_optional, bracketed_start, bracketed_statement, bracketed_block, bracketed_item, bracketed_unit}

-- ---- one level

-- so many times as high, for so many brackets round each node
record Within (m high low : ℕ) : Type 0 where
  holds : high ≤ (m + 1) * low

scaled : (m low : ℕ) → (m + 1) * (low + 1) ≡ (m + 1) * low + (m + 1)
scaled m low = mul-add (m + 1) low 1 ∙ ap (λ b. (m + 1) * low + b) (mul-one (m + 1))

zero_least : (m : ℕ) → 0 ≤ m
zero_least m = omega arith

nothing : (m low : ℕ) → Within m 0 low
nothing m low = record { holds = zero_least ((m + 1) * low) }

grows : (m a c : ℕ) → a ≤ c → (m + 1) * a ≤ (m + 1) * c
grows m a c h = mul-le-mul_left (m + 1) h

least : (x y z : ℕ) → x ≤ z → y ≤ z → max x y ≤ z
least x y z p q = omega (arith, p, q)

left_least : (a b : ℕ) → a ≤ max a b
left_least a b = omega arith

right_least : (a b : ℕ) → b ≤ max a b
right_least a b = omega arith

both : (m : ℕ) {x y a b : ℕ} → Within m x a → Within m y b → Within m (max x y) (max a b)
both m {x = x} {y = y} {a = a} {b = b} p q =
    record {
      holds = least x y ((m + 1) * max a b) (le_trans p.holds (grows m a (max a b) (left_least a b)))
          (le_trans q.holds (grows m b (max a b) (right_least a b)));
    }

step_within : (k high n m : ℕ) → high ≤ k → n ≤ m → (high + 1) + n ≤ k + (m + 1)
step_within k high n m p q = omega (arith, p, q)

-- a node with its brackets
one_more : (m : ℕ) {high low : ℕ} (n : ℕ) → n ≤ m → Within m high low → Within m ((high + 1) + n) (low + 1)
one_more m {high = high} {low = low} n q p =
    record { holds = subst (λ c. (high + 1) + n ≤ c) (sym (scaled m low)) (step_within ((m + 1) * low) high n m p.holds q) }

as_high : (m low : ℕ) {high other : ℕ} → high ≡ other → Within m high low → Within m other low
as_high m low e p = subst (λ h. Within m h low) e p

no_bracket : (high : ℕ) → (high + 1) + 0 ≡ high + 1
no_bracket high = omega arith

one_level : (m : ℕ) {high low : ℕ} → Within m high low → Within m (high + 1) (low + 1)
one_level m {high = high} {low = low} p = as_high m (low + 1) (no_bracket high) (one_more m 0 (zero_least m) p)

plus_nothing : (a : ℕ) → a ≡ a + 0
plus_nothing a = omega arith

plus_one : (a n : ℕ) → (a + n) + 1 ≡ a + suc n
plus_one a n = omega arith

brace_height : (a : ℕ) → max a 0 + 1 ≡ a + 1
brace_height a = omega arith

around_height : (n : ℕ) (span : Span) (a : Expression) → height (around_by n span a) ≡ height a + n
around_height zero span a = plus_nothing (height a)
around_height (suc n) span a = ap (λ h. h + 1) (around_height n span a) ∙ plus_one (height a) n

node_within : (m n : ℕ) (span : Span) (a : Expression) {high low : ℕ} → n ≤ m → height a ≡ high + 1 → Within m high low → Within m (height (around_by n span a)) (low + 1)
node_within m n span a {low = low} q e p = as_high m (low + 1) (sym (around_height n span a ∙ ap (λ h. h + n) e)) (one_more m n q p)

leaf_within : (m n : ℕ) (span : Span) (a : Expression) → n ≤ m → height a ≡ 1 → Within m (height (around_by n span a)) 1
leaf_within m n span a q e = node_within m n span a q e (nothing m 0)

braced_within : (m : ℕ) (b : Bool) (span : Span) (s : Statement) {high low : ℕ} → 1 ≤ m → height_statement s ≡ high + 1 → Within m high low → Within m (height_statement (braced_by b span s)) (low + 1)
braced_within m false span s {low = low} q e p = as_high m (low + 1) (sym e) (one_level m p)
braced_within m true span s {low = low} q e p = as_high m (low + 1) (sym (brace_height (height_statement s) ∙ ap (λ h. h + 1) e)) (one_more m 1 q p)

simple_within : (m : ℕ) (b : Bool) (span : Span) (s : Statement) → 1 ≤ m → height_statement s ≡ 1 → Within m (height_statement (braced_by b span s)) 1
simple_within m b span s q e = braced_within m b span s q e (nothing m 0)

-- ---- expressions and declarators

mutual
  expression_within : (m : ℕ) (w : Brackets) → AreAtMost m w → (a : Expression) → Within m (height (bracketed w a)) (height a)
  expression_within m w l (t.Named name) = leaf_within m (w.parentheses name.span) name.span _ (l name.span) refl
  expression_within m w l (t.Constant value decimal unsigned longs span) = leaf_within m (w.parentheses span) span _ (l span) refl
  expression_within m w l (t.Character value span) = leaf_within m (w.parentheses span) span _ (l span) refl
  expression_within m w l (t.Parenthesized a span) = node_within m (w.parentheses span) span _ (l span) refl (expression_within m w l a)
  expression_within m w l (t.Call name all span) = node_within m (w.parentheses span) span _ (l span) refl (expressions_within m w l all)
  expression_within m w l (t.Index a b span) = node_within m (w.parentheses span) span _ (l span) refl (both m (expression_within m w l a) (expression_within m w l b))
  expression_within m w l (t.Member a name span) = node_within m (w.parentheses span) span _ (l span) refl (expression_within m w l a)
  expression_within m w l (t.PostfixStep operator a span) = node_within m (w.parentheses span) span _ (l span) refl (expression_within m w l a)
  expression_within m w l (t.PrefixStep operator a span) = node_within m (w.parentheses span) span _ (l span) refl (expression_within m w l a)
  expression_within m w l (t.Unary operator a span) = node_within m (w.parentheses span) span _ (l span) refl (expression_within m w l a)
  expression_within m w l (t.Cast type a span) = node_within m (w.parentheses span) span _ (l span) refl (both m (type_within m w l type) (expression_within m w l a))
  expression_within m w l (t.Binary operator a b span) = node_within m (w.parentheses span) span _ (l span) refl (both m (expression_within m w l a) (expression_within m w l b))
  expression_within m w l (t.Conditional a b c span) = node_within m (w.parentheses span) span _ (l span) refl (both m (expression_within m w l a) (both m (expression_within m w l b) (expression_within m w l c)))
  expression_within m w l (t.Assignment operator a b span) = node_within m (w.parentheses span) span _ (l span) refl (both m (expression_within m w l a) (expression_within m w l b))
  expression_within m w l (t.Comma all span) = node_within m (w.parentheses span) span _ (l span) refl (expressions_within m w l all)

  expressions_within : (m : ℕ) (w : Brackets) → AreAtMost m w → (one : Expressions) → Within m (tallest (bracketed_expressions w one)) (tallest one)
  expressions_within m w l t.no_expressions = nothing m 0
  expressions_within m w l (t.expressions a rest) = both m (expression_within m w l a) (expressions_within m w l rest)

  type_within : (m : ℕ) (w : Brackets) → AreAtMost m w → (one : TypeName) → Within m (height_type (bracketed_type_name w one)) (height_type one)
  type_within m w l (t.type_name s stars span) = specifiers_within m w l s

  specifier_within : (m : ℕ) (w : Brackets) → AreAtMost m w → (one : Specifier) → Within m (height_specifier (bracketed_specifier w one)) (height_specifier one)
  specifier_within m w l (t.Word word span) = nothing m 0
  specifier_within m w l (t.TypedefName name) = nothing m 0
  specifier_within m w l (t.StructureTag name span) = nothing m 0
  specifier_within m w l (t.Structure tag ms span) = one_level m (members_within m w l ms)
  specifier_within m w l (t.EnumerationTag name span) = nothing m 0
  specifier_within m w l (t.Enumeration tag es span) = one_level m (enumerators_within m w l es)

  specifiers_within : (m : ℕ) (w : Brackets) → AreAtMost m w → (one : Specifiers) → Within m (height_specifiers (bracketed_specifiers w one)) (height_specifiers one)
  specifiers_within m w l t.no_specifiers = nothing m 0
  specifiers_within m w l (t.specifiers s rest) = both m (specifier_within m w l s) (specifiers_within m w l rest)

  member_within : (m : ℕ) (w : Brackets) → AreAtMost m w → (one : StructMember) → Within m (height_member (bracketed_member w one)) (height_member one)
  member_within m w l (t.member s ds span) = both m (specifiers_within m w l s) (declarators_within m w l ds)

  members_within : (m : ℕ) (w : Brackets) → AreAtMost m w → (one : Members) → Within m (height_members (bracketed_members w one)) (height_members one)
  members_within m w l t.no_members = nothing m 0
  members_within m w l (t.members one rest) = both m (member_within m w l one) (members_within m w l rest)

  enumerator_within : (m : ℕ) (w : Brackets) → AreAtMost m w → (one : Enumerator) → Within m (height_enumerator (bracketed_enumerator w one)) (height_enumerator one)
  enumerator_within m w l (t.enumerator name) = nothing m 0
  enumerator_within m w l (t.valued_enumerator name a) = expression_within m w l a

  enumerators_within : (m : ℕ) (w : Brackets) → AreAtMost m w → (one : Enumerators) → Within m (height_enumerators (bracketed_enumerators w one)) (height_enumerators one)
  enumerators_within m w l t.no_enumerators = nothing m 0
  enumerators_within m w l (t.enumerators one rest) = both m (enumerator_within m w l one) (enumerators_within m w l rest)

  declarator_within : (m : ℕ) (w : Brackets) → AreAtMost m w → (one : Declarator) → Within m (height_declarator (bracketed_declarator w one)) (height_declarator one)
  declarator_within m w l (t.object stars name all span) = lengths_within m w l all
  declarator_within m w l (t.function stars name ps span) = parameters_within m w l ps

  declarators_within : (m : ℕ) (w : Brackets) → AreAtMost m w → (one : Declarators) → Within m (height_declarators (bracketed_declarators w one)) (height_declarators one)
  declarators_within m w l t.no_declarators = nothing m 0
  declarators_within m w l (t.declarators one rest) = both m (declarator_within m w l one) (declarators_within m w l rest)

  lengths_within : (m : ℕ) (w : Brackets) → AreAtMost m w → (one : ArrayLengths) → Within m (height_lengths (bracketed_lengths w one)) (height_lengths one)
  lengths_within m w l t.no_lengths = nothing m 0
  lengths_within m w l (t.absent_length rest) = lengths_within m w l rest
  lengths_within m w l (t.given_length a rest) = both m (expression_within m w l a) (lengths_within m w l rest)

  parameters_within : (m : ℕ) (w : Brackets) → AreAtMost m w → (one : Parameters) → Within m (height_parameters (bracketed_parameters w one)) (height_parameters one)
  parameters_within m w l (t.Empty span) = nothing m 0
  parameters_within m w l (t.Void span) = nothing m 0
  parameters_within m w l (t.Listed ps span) = parameter_list_within m w l ps

  parameter_within : (m : ℕ) (w : Brackets) → AreAtMost m w → (one : Parameter) → Within m (height_parameter (bracketed_parameter w one)) (height_parameter one)
  parameter_within m w l (t.parameter s stars name all span) = both m (specifiers_within m w l s) (lengths_within m w l all)

  parameter_list_within : (m : ℕ) (w : Brackets) → AreAtMost m w → (one : ParameterList) → Within m (height_parameter_list (bracketed_parameter_list w one)) (height_parameter_list one)
  parameter_list_within m w l t.no_parameters = nothing m 0
  parameter_list_within m w l (t.parameters one rest) = both m (parameter_within m w l one) (parameter_list_within m w l rest)

-- ---- declarations

mutual
  initializer_within : (m : ℕ) (w : Brackets) → AreAtMost m w → (one : Initializer) → Within m (height_initializer (bracketed_initializer w one)) (height_initializer one)
  initializer_within m w l (t.Single a) = one_level m (expression_within m w l a)
  initializer_within m w l (t.Braced all span) = one_level m (initializers_within m w l all)

  initializers_within : (m : ℕ) (w : Brackets) → AreAtMost m w → (one : Initializers) → Within m (height_initializers (bracketed_initializers w one)) (height_initializers one)
  initializers_within m w l t.no_initializers = nothing m 0
  initializers_within m w l (t.initializers one rest) = both m (initializer_within m w l one) (initializers_within m w l rest)

init_declarator_within : (m : ℕ) (w : Brackets) → AreAtMost m w → (one : InitDeclarator) → Within m (height_init_declarator (bracketed_init_declarator w one)) (height_init_declarator one)
init_declarator_within m w l (t.bare d) = declarator_within m w l d
init_declarator_within m w l (t.initialized d value) = both m (declarator_within m w l d) (initializer_within m w l value)

init_declarators_within : (m : ℕ) (w : Brackets) → AreAtMost m w → (one : List InitDeclarator) → Within m (height_init_declarators (bracketed_init_declarators w one)) (height_init_declarators one)
init_declarators_within m w l [] = nothing m 0
init_declarators_within m w l (d ∷ ds) = both m (init_declarator_within m w l d) (init_declarators_within m w l ds)

declaration_within : (m : ℕ) (w : Brackets) → AreAtMost m w → (one : Declaration) → Within m (height_declaration (bracketed_declaration w one)) (height_declaration one)
declaration_within m w l (t.declaration s ds span) = both m (specifiers_within m w l s) (init_declarators_within m w l ds)

-- ---- statements

optional_within : (m : ℕ) (w : Brackets) → AreAtMost m w → (one : Option Expression) → Within m (height_optional (bracketed_optional w one)) (height_optional one)
optional_within m w l None = nothing m 0
optional_within m w l (Some a) = expression_within m w l a

start_within : (m : ℕ) (w : Brackets) → AreAtMost m w → (one : ForStart) → Within m (height_start (bracketed_start w one)) (height_start one)
start_within m w l (t.StartsLocal d) = declaration_within m w l d
start_within m w l (t.StartsExpression a) = optional_within m w l a

mutual
  statement_within : (m : ℕ) (w : Brackets) → AreAtMost m w → 1 ≤ m → (one : Statement) → Within m (height_statement (bracketed_statement w one)) (height_statement one)
  statement_within m w l q (t.Compound b span) = one_level m (block_within m w l q b)
  statement_within m w l q (t.Null span) = simple_within m (w.braces span) span _ q refl
  statement_within m w l q (t.ExpressionStatement a span) = braced_within m (w.braces span) span _ q refl (expression_within m w l a)
  statement_within m w l q (t.If a s span) = braced_within m (w.braces span) span _ q refl (both m (expression_within m w l a) (statement_within m w l q s))
  statement_within m w l q (t.IfElse a s u span) = braced_within m (w.braces span) span _ q refl (both m (expression_within m w l a) (both m (statement_within m w l q s) (statement_within m w l q u)))
  statement_within m w l q (t.Switch a s span) = braced_within m (w.braces span) span _ q refl (both m (expression_within m w l a) (statement_within m w l q s))
  statement_within m w l q (t.While a s span) = braced_within m (w.braces span) span _ q refl (both m (expression_within m w l a) (statement_within m w l q s))
  statement_within m w l q (t.DoWhile s a span) = braced_within m (w.braces span) span _ q refl (both m (statement_within m w l q s) (expression_within m w l a))
  statement_within m w l q (t.For start a b s span) = braced_within m (w.braces span) span _ q refl (both m (both m (start_within m w l start) (both m (optional_within m w l a) (optional_within m w l b))) (statement_within m w l q s))
  statement_within m w l q (t.Case a label s span) = one_level m (both m (expression_within m w l a) (statement_within m w l q s))
  statement_within m w l q (t.Default label s span) = one_level m (statement_within m w l q s)
  statement_within m w l q (t.Label name s span) = one_level m (statement_within m w l q s)
  statement_within m w l q (t.Goto name span) = simple_within m (w.braces span) span _ q refl
  statement_within m w l q (t.Break span) = simple_within m (w.braces span) span _ q refl
  statement_within m w l q (t.Continue span) = simple_within m (w.braces span) span _ q refl
  statement_within m w l q (t.Return a span) = braced_within m (w.braces span) span _ q refl (optional_within m w l a)

  block_within : (m : ℕ) (w : Brackets) → AreAtMost m w → 1 ≤ m → (one : BlockItems) → Within m (height_block (bracketed_block w one)) (height_block one)
  block_within m w l q t.no_block_items = nothing m 0
  block_within m w l q (t.local d rest) = both m (declaration_within m w l d) (block_within m w l q rest)
  block_within m w l q (t.statement s rest) = both m (statement_within m w l q s) (block_within m w l q rest)

item_within : (m : ℕ) (w : Brackets) → AreAtMost m w → 1 ≤ m → (one : Item) → Within m (height_item (bracketed_item w one)) (height_item one)
item_within m w l q (t.Declared d) = declaration_within m w l d
item_within m w l q (t.Defined s d b span) = both m (specifiers_within m w l s) (both m (declarator_within m w l d) (one_level m (block_within m w l q b)))

one_least : (m : ℕ) → 0 < m → 1 ≤ m
one_least m q = omega (arith, q)

units_within : (m : ℕ) (w : Brackets) → AreAtMost m w → 1 ≤ m → (unit : List Item) → Within m (height_unit (bracketed_unit w unit)) (height_unit unit)
units_within m w l q [] = nothing m 0
units_within m w l q (one ∷ unit) = both m (item_within m w l q one) (units_within m w l q unit)

pub unit_within : (m : ℕ) (w : Brackets) (unit : List Item) → 0 < m → AreAtMost m w → height_unit (bracketed_unit w unit) ≤ (m + 1) * height_unit unit
unit_within m w unit q l = (units_within m w l (one_least m q) unit).holds
