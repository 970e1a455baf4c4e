-- A tree without the brackets of probes is the same whether or not brackets were put into it: those
-- that were put in start where what they enclose starts, and the others are as they were.
use Rattle.std.proofs.Common.{◌≡◌, ◌==◌, ℕ, zero, suc, Bool, true, false, List, [], ◌∷◌, Option, Some, None, refl, ap, ap₂, ◌∙◌}
use Rattle.std.proofs.lemmas.Bool.{eq-eqb}
use Rattle.mc_span.specs.declared.span.Span.{Span}
use Rattle.mc_tree.specs.Tree.{Expression, Expressions, TypeName, Specifier, Specifiers, StructMember, Members, Enumerator, Enumerators, Declarator, Declarators, ArrayLengths, Parameters, Parameter, ParameterList, Initializer, Initializers, InitDeclarator, Declaration, ForStart, Statement, BlockItems, Item, span_of, span_of_statement}
use Rattle.mc_tree.specs.Tree as t
use Rattle.reread_plain_tree.specs.Unprobed.{is_at, is_probes, parenthesized, compound, unprobed, unprobed_expressions, unprobed_type_name, unprobed_specifier, unprobed_specifiers, unprobed_member, unprobed_members, unprobed_enumerator, unprobed_enumerators, unprobed_declarator, unprobed_declarators, unprobed_lengths, unprobed_parameters, unprobed_parameter, unprobed_parameter_list, unprobed_initializer, unprobed_initializers, unprobed_init_declarator, unprobed_init_declarators, unprobed_declaration, unprobed_optional, unprobed_start, unprobed_statement, unprobed_block, unprobed_item, unprobed_unit}
use Rattle.reread_law_texts.specs.weave.Brackets.{Brackets}
use Rattle.reread_law_texts.specs.weave.Trees.{around_by, braced_by, bracketed, bracketed_expressions, bracketed_type_name, bracketed_specifier, bracketed_specifiers, bracketed_member, bracketed_members, bracketed_enumerator, bracketed_enumerators, bracketed_declarator, bracketed_declarators, bracketed_lengths, bracketed_parameters, bracketed_parameter, bracketed_parameter_list, bracketed_initializer, bracketed_initializers, bracketed_init_declarator, bracketed_init_declarators, bracketed_declaration, bracketed_optional, bracketed_start, bracketed_statement, bracketed_block, bracketed_item, bracketed_unit}
use Rattle.reread_law_texts.proofs.Weave.Stand.{around_stands, stands, statement_stands}

-- ---- one node

same_number : (a : ℕ) → (a == a) ≡ true
same_number a = eq-eqb a a refl

at_itself : (span place : Span) → place ≡ span → is_at span place ≡ true
at_itself span place e = ap (is_at span) e ∙ same_number span.start

gone : (n : ℕ) (span : Span) (a : Expression) {b : Expression} → span_of a ≡ span → unprobed a ≡ b → unprobed (around_by n span a) ≡ b
gone zero span a e h = h
gone (suc n) span a e h = ap (λ probes. parenthesized probes (unprobed (around_by n span a)) span) (at_itself span (span_of (around_by n span a)) (around_stands n span a e)) ∙ gone n span a e h

gone_braces : (b : Bool) (span : Span) (s : Statement) {u : Statement} → span_of_statement s ≡ span → unprobed_statement s ≡ u → unprobed_statement (braced_by b span s) ≡ u
gone_braces false span s e h = h
gone_braces true span s e h = ap (λ probes. compound probes (t.statement (unprobed_statement s) t.no_block_items) span) (at_itself span (span_of_statement s) e) ∙ h

-- ---- expressions and declarators

mutual
  pub same : (w : Brackets) (a : Expression) → unprobed (bracketed w a) ≡ unprobed a
  same w (t.Named name) = gone (w.parentheses name.span) name.span _ refl refl
  same w (t.Constant value decimal unsigned longs span) = gone (w.parentheses span) span _ refl refl
  same w (t.Character value span) = gone (w.parentheses span) span _ refl refl
  same w (t.Parenthesized a span) = gone (w.parentheses span) span _ refl (ap₂ (λ place x. parenthesized (is_at span place) x span) (stands w a) (same w a))
  same w (t.Call name all span) = gone (w.parentheses span) span _ refl (ap (λ x. t.Call name x span) (same_expressions w all))
  same w (t.Index a b span) = gone (w.parentheses span) span _ refl (ap₂ (λ x y. t.Index x y span) (same w a) (same w b))
  same w (t.Member a name span) = gone (w.parentheses span) span _ refl (ap (λ x. t.Member x name span) (same w a))
  same w (t.PostfixStep operator a span) = gone (w.parentheses span) span _ refl (ap (λ x. t.PostfixStep operator x span) (same w a))
  same w (t.PrefixStep operator a span) = gone (w.parentheses span) span _ refl (ap (λ x. t.PrefixStep operator x span) (same w a))
  same w (t.Unary operator a span) = gone (w.parentheses span) span _ refl (ap (λ x. t.Unary operator x span) (same w a))
  same w (t.Cast type a span) = gone (w.parentheses span) span _ refl (ap₂ (λ x y. t.Cast x y span) (same_type_name w type) (same w a))
  same w (t.Binary operator a b span) = gone (w.parentheses span) span _ refl (ap₂ (λ x y. t.Binary operator x y span) (same w a) (same w b))
  same w (t.Conditional a b c span) = gone (w.parentheses span) span _ refl (ap₂ (λ x y. t.Conditional x y (unprobed (bracketed w c)) span) (same w a) (same w b) ∙ ap (λ z. t.Conditional (unprobed a) (unprobed b) z span) (same w c))
  same w (t.Assignment operator a b span) = gone (w.parentheses span) span _ refl (ap₂ (λ x y. t.Assignment operator x y span) (same w a) (same w b))
  same w (t.Comma all span) = gone (w.parentheses span) span _ refl (ap (λ x. t.Comma x span) (same_expressions w all))

  same_expressions : (w : Brackets) (one : Expressions) → unprobed_expressions (bracketed_expressions w one) ≡ unprobed_expressions one
  same_expressions w t.no_expressions = refl
  same_expressions w (t.expressions one rest) = ap₂ (λ x y. t.expressions x y) (same w one) (same_expressions w rest)

  same_type_name : (w : Brackets) (one : TypeName) → unprobed_type_name (bracketed_type_name w one) ≡ unprobed_type_name one
  same_type_name w (t.type_name s stars span) = ap (λ x. t.type_name x stars span) (same_specifiers w s)

  same_specifier : (w : Brackets) (one : Specifier) → unprobed_specifier (bracketed_specifier w one) ≡ unprobed_specifier one
  same_specifier w (t.Word word span) = refl
  same_specifier w (t.TypedefName name) = refl
  same_specifier w (t.StructureTag name span) = refl
  same_specifier w (t.Structure tag ms span) = ap (λ x. t.Structure tag x span) (same_members w ms)
  same_specifier w (t.EnumerationTag name span) = refl
  same_specifier w (t.Enumeration tag es span) = ap (λ x. t.Enumeration tag x span) (same_enumerators w es)

  same_specifiers : (w : Brackets) (one : Specifiers) → unprobed_specifiers (bracketed_specifiers w one) ≡ unprobed_specifiers one
  same_specifiers w t.no_specifiers = refl
  same_specifiers w (t.specifiers one rest) = ap₂ (λ x y. t.specifiers x y) (same_specifier w one) (same_specifiers w rest)

  same_member : (w : Brackets) (one : StructMember) → unprobed_member (bracketed_member w one) ≡ unprobed_member one
  same_member w (t.member s ds span) = ap₂ (λ x y. t.member x y span) (same_specifiers w s) (same_declarators w ds)

  same_members : (w : Brackets) (one : Members) → unprobed_members (bracketed_members w one) ≡ unprobed_members one
  same_members w t.no_members = refl
  same_members w (t.members one rest) = ap₂ (λ x y. t.members x y) (same_member w one) (same_members w rest)

  same_enumerator : (w : Brackets) (one : Enumerator) → unprobed_enumerator (bracketed_enumerator w one) ≡ unprobed_enumerator one
  same_enumerator w (t.enumerator name) = refl
  same_enumerator w (t.valued_enumerator name a) = ap (t.valued_enumerator name) (same w a)

  same_enumerators : (w : Brackets) (one : Enumerators) → unprobed_enumerators (bracketed_enumerators w one) ≡ unprobed_enumerators one
  same_enumerators w t.no_enumerators = refl
  same_enumerators w (t.enumerators one rest) = ap₂ (λ x y. t.enumerators x y) (same_enumerator w one) (same_enumerators w rest)

  same_declarator : (w : Brackets) (one : Declarator) → unprobed_declarator (bracketed_declarator w one) ≡ unprobed_declarator one
  same_declarator w (t.object stars name all span) = ap (λ x. t.object stars name x span) (same_lengths w all)
  same_declarator w (t.function stars name ps span) = ap (λ x. t.function stars name x span) (same_parameters w ps)

  same_declarators : (w : Brackets) (one : Declarators) → unprobed_declarators (bracketed_declarators w one) ≡ unprobed_declarators one
  same_declarators w t.no_declarators = refl
  same_declarators w (t.declarators one rest) = ap₂ (λ x y. t.declarators x y) (same_declarator w one) (same_declarators w rest)

  same_lengths : (w : Brackets) (one : ArrayLengths) → unprobed_lengths (bracketed_lengths w one) ≡ unprobed_lengths one
  same_lengths w t.no_lengths = refl
  same_lengths w (t.absent_length rest) = ap t.absent_length (same_lengths w rest)
  same_lengths w (t.given_length one rest) = ap₂ (λ x y. t.given_length x y) (same w one) (same_lengths w rest)

  same_parameters : (w : Brackets) (one : Parameters) → unprobed_parameters (bracketed_parameters w one) ≡ unprobed_parameters one
  same_parameters w (t.Empty span) = refl
  same_parameters w (t.Void span) = refl
  same_parameters w (t.Listed ps span) = ap (λ x. t.Listed x span) (same_parameter_list w ps)

  same_parameter : (w : Brackets) (one : Parameter) → unprobed_parameter (bracketed_parameter w one) ≡ unprobed_parameter one
  same_parameter w (t.parameter s stars name all span) = ap₂ (λ x y. t.parameter x stars name y span) (same_specifiers w s) (same_lengths w all)

  same_parameter_list : (w : Brackets) (one : ParameterList) → unprobed_parameter_list (bracketed_parameter_list w one) ≡ unprobed_parameter_list one
  same_parameter_list w t.no_parameters = refl
  same_parameter_list w (t.parameters one rest) = ap₂ (λ x y. t.parameters x y) (same_parameter w one) (same_parameter_list w rest)

-- ---- declarations

mutual
  same_initializer : (w : Brackets) (one : Initializer) → unprobed_initializer (bracketed_initializer w one) ≡ unprobed_initializer one
  same_initializer w (t.Single a) = ap t.Single (same w a)
  same_initializer w (t.Braced all span) = ap (λ x. t.Braced x span) (same_initializers w all)

  same_initializers : (w : Brackets) (one : Initializers) → unprobed_initializers (bracketed_initializers w one) ≡ unprobed_initializers one
  same_initializers w t.no_initializers = refl
  same_initializers w (t.initializers one rest) = ap₂ (λ x y. t.initializers x y) (same_initializer w one) (same_initializers w rest)

same_init_declarator : (w : Brackets) (one : InitDeclarator) → unprobed_init_declarator (bracketed_init_declarator w one) ≡ unprobed_init_declarator one
same_init_declarator w (t.bare d) = ap t.bare (same_declarator w d)
same_init_declarator w (t.initialized d value) = ap₂ (λ x y. t.initialized x y) (same_declarator w d) (same_initializer w value)

same_init_declarators : (w : Brackets) (one : List InitDeclarator) → unprobed_init_declarators (bracketed_init_declarators w one) ≡ unprobed_init_declarators one
same_init_declarators w [] = refl
same_init_declarators w (d ∷ ds) = ap₂ (λ x y. x ∷ y) (same_init_declarator w d) (same_init_declarators w ds)

same_declaration : (w : Brackets) (one : Declaration) → unprobed_declaration (bracketed_declaration w one) ≡ unprobed_declaration one
same_declaration w (t.declaration s ds span) = ap₂ (λ x y. t.declaration x y span) (same_specifiers w s) (same_init_declarators w ds)

-- ---- statements

same_optional : (w : Brackets) (one : Option Expression) → unprobed_optional (bracketed_optional w one) ≡ unprobed_optional one
same_optional w None = refl
same_optional w (Some a) = ap Some (same w a)

same_start : (w : Brackets) (one : ForStart) → unprobed_start (bracketed_start w one) ≡ unprobed_start one
same_start w (t.StartsLocal d) = ap t.StartsLocal (same_declaration w d)
same_start w (t.StartsExpression a) = ap t.StartsExpression (same_optional w a)

-- one statement stays one, and starts where it did
one_statement : (w : Brackets) (b : BlockItems) (span : Span) → is_probes (bracketed_block w b) span ≡ is_probes b span
one_statement w t.no_block_items span = refl
one_statement w (t.local d rest) span = refl
one_statement w (t.statement s t.no_block_items) span = ap (is_at span) (statement_stands w s)
one_statement w (t.statement s (t.local d rest)) span = refl
one_statement w (t.statement s (t.statement u rest)) span = refl

mutual
  same_statement : (w : Brackets) (one : Statement) → unprobed_statement (bracketed_statement w one) ≡ unprobed_statement one
  same_statement w (t.Compound b span) = ap₂ (λ probes x. compound probes x span) (one_statement w b span) (same_block w b)
  same_statement w (t.Null span) = gone_braces (w.braces span) span _ refl refl
  same_statement w (t.ExpressionStatement a span) = gone_braces (w.braces span) span _ refl (ap (λ x. t.ExpressionStatement x span) (same w a))
  same_statement w (t.If a s span) = gone_braces (w.braces span) span _ refl (ap₂ (λ x y. t.If x y span) (same w a) (same_statement w s))
  same_statement w (t.IfElse a s u span) = gone_braces (w.braces span) span _ refl (ap₂ (λ x y. t.IfElse x y (unprobed_statement (bracketed_statement w u)) span) (same w a) (same_statement w s) ∙ ap (λ z. t.IfElse (unprobed a) (unprobed_statement s) z span) (same_statement w u))
  same_statement w (t.Switch a s span) = gone_braces (w.braces span) span _ refl (ap₂ (λ x y. t.Switch x y span) (same w a) (same_statement w s))
  same_statement w (t.While a s span) = gone_braces (w.braces span) span _ refl (ap₂ (λ x y. t.While x y span) (same w a) (same_statement w s))
  same_statement w (t.DoWhile s a span) = gone_braces (w.braces span) span _ refl (ap₂ (λ x y. t.DoWhile x y span) (same_statement w s) (same w a))
  same_statement w (t.For start a b s span) = gone_braces (w.braces span) span _ refl (ap₂ (λ x y. t.For x y (unprobed_optional (bracketed_optional w b)) (unprobed_statement (bracketed_statement w s)) span) (same_start w start) (same_optional w a)
      ∙ ap₂ (λ x y. t.For (unprobed_start start) (unprobed_optional a) x y span) (same_optional w b) (same_statement w s))
  same_statement w (t.Case a label s span) = ap₂ (λ x y. t.Case x label y span) (same w a) (same_statement w s)
  same_statement w (t.Default label s span) = ap (λ x. t.Default label x span) (same_statement w s)
  same_statement w (t.Label name s span) = ap (λ x. t.Label name x span) (same_statement w s)
  same_statement w (t.Goto name span) = gone_braces (w.braces span) span _ refl refl
  same_statement w (t.Break span) = gone_braces (w.braces span) span _ refl refl
  same_statement w (t.Continue span) = gone_braces (w.braces span) span _ refl refl
  same_statement w (t.Return a span) = gone_braces (w.braces span) span _ refl (ap (λ x. t.Return x span) (same_optional w a))

  same_block : (w : Brackets) (one : BlockItems) → unprobed_block (bracketed_block w one) ≡ unprobed_block one
  same_block w t.no_block_items = refl
  same_block w (t.local one rest) = ap₂ (λ x y. t.local x y) (same_declaration w one) (same_block w rest)
  same_block w (t.statement one rest) = ap₂ (λ x y. t.statement x y) (same_statement w one) (same_block w rest)

same_item : (w : Brackets) (one : Item) → unprobed_item (bracketed_item w one) ≡ unprobed_item one
same_item w (t.Declared d) = ap t.Declared (same_declaration w d)
same_item w (t.Defined s d b span) = ap₂ (λ x y. t.Defined x y (unprobed_block (bracketed_block w b)) span) (same_specifiers w s) (same_declarator w d) ∙ ap (λ z. t.Defined (unprobed_specifiers s) (unprobed_declarator d) z span) (same_block w b)

pub same_unit : (w : Brackets) (unit : List Item) → unprobed_unit (bracketed_unit w unit) ≡ unprobed_unit unit
same_unit w [] = refl
same_unit w (one ∷ unit) = ap₂ (λ x y. x ∷ y) (same_item w one) (same_unit w unit)
