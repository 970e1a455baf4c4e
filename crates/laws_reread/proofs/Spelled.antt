-- No `{` stands among the parameters of a function of the profile.
use Rattle.std.proofs.Common.{◌≡◌, ℕ, zero, suc, true, false, not, List, [], ◌∷◌, ◌++◌, Option, Some, None, refl, ap, sym, subst, ◌∙◌, codes}
use Rattle.std.specs.Str.{bytes_eq}
use Rattle.std.specs.List.{list_all}
use Rattle.mc_lex.specs.Tokens.{Tok}
use Rattle.mc_tree.specs.declared.expressions.unary_operator.UnaryOperator.{UnaryOperator}
use Rattle.mc_tree.specs.declared.expressions.unary_operator.UnaryOperator.TheVariants as unary
use Rattle.mc_tree.specs.declared.expressions.step_operator.StepOperator.{StepOperator}
use Rattle.mc_tree.specs.declared.expressions.step_operator.StepOperator.TheVariants as step
use Rattle.mc_tree.specs.declared.expressions.binary_operator.BinaryOperator.{BinaryOperator}
use Rattle.mc_tree.specs.declared.expressions.binary_operator.BinaryOperator.TheVariants as binary
use Rattle.mc_tree.specs.declared.expressions.assignment_operator.AssignmentOperator.{AssignmentOperator}
use Rattle.mc_tree.specs.declared.expressions.assignment_operator.AssignmentOperator.TheVariants as assign
use Rattle.mc_tree.specs.Tree.{Name, Expression, Expressions, TypeName, Specifier, Specifiers, ArrayLengths, Parameters, Parameter, ParameterList}
use Rattle.mc_tree.specs.Tree as tree
use Rattle.subset_forms.specs.declared.context.Region.TheVariants as region
use Rattle.subset_forms.specs.declared.context.Role.{Role}
use Rattle.subset_forms.specs.declared.context.Role.TheVariants as role
use Rattle.subset_forms.specs.Contexts.{role_of_operands, role_in_parentheses}
use Rattle.mc_subset.specs.Nodes.{Node, an_expression, a_type_name, a_specifier, a_parameter_list, a_parameter, nodes_of_expression, nodes_of_expressions, nodes_of_type, nodes_of_specifier, nodes_of_specifiers, nodes_of_lengths, nodes_of_parameters, nodes_of_parameter, nodes_of_parameter_list}
use Rattle.mc_subset.specs.Forms.{first_outside}
use Rattle.mc_grammar.specs.Words.{Lexeme, is_identifier_kind}
use Rattle.mc_grammar.specs.Spelling.{Spelled, IsSpelled, Spells, Punctuator, Keyword, Identifier, TypedefName, Tag, Constant, Character, Typedef, text_of_unary, text_of_step, text_of_binary, text_of_assignment, spell, spell_expressions, spell_type_name, spell_specifier, spell_specifiers, spell_stars, spell_name, spell_lengths, spell_parameters, spell_parameter, spell_parameter_list}
use Rattle.mc_grammar.specs.Spelling as spelling
use Rattle.reread_law_printed.specs.parts.Stands.{is_brace}
use Rattle.laws_reread.proofs.Tokens.{Clear, AreClear}
use Rattle.reread_law_texts.proofs.Tokens.{tk, retag_tokens}
use Rattle.reread_law_rows.proofs.Fitting.Sections.{keyword_kind, identifier_no_sign, left_of, sign_text}
use Rattle.reread_law_rows.proofs.Fitting.Profile.{head_inside, rest_inside, left_inside, right_inside, no_structure, no_enumeration}

-- ---- spelled tokens

abbrev NoBrace : Spelled → Type 0
NoBrace (Punctuator text) = bytes_eq text (codes "{") ≡ false
NoBrace _ = Unit {0}

abbrev pub NoBraces : List Spelled → Type 0
NoBraces [] = Unit {0}
NoBraces (one ∷ all) = NoBrace one × NoBraces all

brace_free : (one : Spelled) (x : Lexeme) → IsSpelled one x → NoBrace one → Clear x.token → is_brace x.token ≡ false
brace_free (Punctuator text) x e h c = ap (λ us. bytes_eq us (codes "{")) (sign_text text x e) ∙ h
brace_free (Keyword text) x e h c = c (keyword_kind text x e)
brace_free (Identifier name) x e h c = c (identifier_no_sign x.token.kind (left_of (is_identifier_kind x.token.kind) (not x.names_type) e.0))
brace_free (TypedefName name) x e h c = c (identifier_no_sign x.token.kind (left_of (is_identifier_kind x.token.kind) x.names_type e.0))
brace_free (Tag name) x e h c = c (identifier_no_sign x.token.kind e.0)
brace_free (Constant value decimal unsigned longs) x e h c = c (rw e refl)
brace_free (Character value) x e h c = c (rw e refl)
brace_free (Typedef name) x e h c = absurd e

pub record Braceless (from rest : List Tok) : Type 0 where
  pub inside : List Tok
  pub all : from ≡ inside ++ rest
  pub no_brace : list_all (λ t. not (is_brace t)) inside ≡ true

nothing : {ts : List Tok} → Braceless ts ts
nothing = record { inside = []; all = refl; no_brace = refl }

put : (x : Tok) {ts rest : List Tok} → is_brace x ≡ false → Braceless ts rest → Braceless (x ∷ ts) rest
put x e p = record { inside = x ∷ p.inside; all = ap (λ us. x ∷ us) p.all; no_brace = rw (e, p.no_brace) refl }

pub braceless : {all : List Spelled} {ts rest : List Lexeme} → Spells all ts rest → NoBraces all → AreClear (tk ts) → Braceless (tk ts) (tk rest)
braceless spelling.nothing h k = nothing
braceless (spelling.token {one = one} {x = x} e p) h k = put x.token (brace_free one x e h.0 k.0) (braceless p h.1 k.1)
braceless (spelling.last_comma {x = x} e f p) h k = put x.token (brace_free (Punctuator (codes ",")) x e refl k.0) (braceless p h k.1)
braceless {rest = rest} (spelling.in_force {name = name} {ts = ts} p) h k =
    subst (λ us. Braceless us (tk rest)) (retag_tokens name ts) (braceless p h.1 (subst (λ us. AreClear us) (sym (retag_tokens name ts)) k))

-- ---- operators

unary_free : (o : UnaryOperator) → bytes_eq (text_of_unary o) (codes "{") ≡ false
unary_free unary.Address = refl
unary_free unary.Dereference = refl
unary_free unary.Plus = refl
unary_free unary.Minus = refl
unary_free unary.Complement = refl
unary_free unary.Not = refl

step_free : (o : StepOperator) → bytes_eq (text_of_step o) (codes "{") ≡ false
step_free step.Increment = refl
step_free step.Decrement = refl

binary_free : (o : BinaryOperator) → bytes_eq (text_of_binary o) (codes "{") ≡ false
binary_free binary.Multiply = refl
binary_free binary.Divide = refl
binary_free binary.Remainder = refl
binary_free binary.Add = refl
binary_free binary.Subtract = refl
binary_free binary.ShiftLeft = refl
binary_free binary.ShiftRight = refl
binary_free binary.Less = refl
binary_free binary.Greater = refl
binary_free binary.LessOrEqual = refl
binary_free binary.GreaterOrEqual = refl
binary_free binary.Equal = refl
binary_free binary.Unequal = refl
binary_free binary.BitAnd = refl
binary_free binary.BitXor = refl
binary_free binary.BitOr = refl
binary_free binary.And = refl
binary_free binary.Or = refl

assignment_free : (o : AssignmentOperator) → bytes_eq (text_of_assignment o) (codes "{") ≡ false
assignment_free assign.Assign = refl
assignment_free assign.Multiply = refl
assignment_free assign.Divide = refl
assignment_free assign.Remainder = refl
assignment_free assign.Add = refl
assignment_free assign.Subtract = refl
assignment_free assign.ShiftLeft = refl
assignment_free assign.ShiftRight = refl
assignment_free assign.BitAnd = refl
assignment_free assign.BitXor = refl
assignment_free assign.BitOr = refl

-- ---- specifiers

-- where no `{` is spelled after it, none is with it
abbrev Free : (List Spelled → List Spelled) → Type 0
Free spelled = (after : List Spelled) → NoBraces after → NoBraces (spelled after)

specifier_free : (s : Specifier) → first_outside (nodes_of_specifier region.Function s) ≡ None → Free (spell_specifier s)
specifier_free (tree.Word w span) h after k = (tt, k)
specifier_free (tree.TypedefName name) h after k = (tt, k)
specifier_free (tree.StructureTag name span) h after k = (tt, (tt, k))
specifier_free (tree.Structure tag all span) h after k = absurd (no_structure tag all span (head_inside (a_specifier (tree.Structure tag all span) region.Function) _ h))
specifier_free (tree.EnumerationTag name span) h after k = (tt, (tt, k))
specifier_free (tree.Enumeration tag all span) h after k = absurd (no_enumeration tag all span (head_inside (a_specifier (tree.Enumeration tag all span) region.Function) _ h))

specifiers_free : (all : Specifiers) → first_outside (nodes_of_specifiers region.Function all) ≡ None → Free (spell_specifiers all)
specifiers_free tree.no_specifiers h after k = k
specifiers_free (tree.specifiers s rest) h after k =
    let xs = nodes_of_specifier region.Function s in
    let ys = nodes_of_specifiers region.Function rest in
    specifier_free s (left_inside xs ys h) (spell_specifiers rest after) (specifiers_free rest (right_inside xs ys h) after k)

stars_free : (n : ℕ) → Free (spell_stars n)
stars_free zero after k = k
stars_free (suc n) after k = (refl, stars_free n after k)

type_free : (type : TypeName) → first_outside (nodes_of_type region.Function type) ≡ None → Free (spell_type_name type)
type_free (tree.type_name s stars span) h after k =
    specifiers_free s (rest_inside (a_type_name (tree.type_name s stars span)) _ h) (spell_stars stars after) (stars_free stars after k)

-- ---- expressions

abbrev of : Role → Expression → List Node
of r a = nodes_of_expression region.Function r a

abbrev part : Expression → List Node
part a = of role.Part a

mutual
  free : (r : Role) (a : Expression) → first_outside (of r a) ≡ None → Free (spell a)
  free r (tree.Named name) h after k = (tt, k)
  free r (tree.Constant value decimal unsigned longs span) h after k = (tt, k)
  free r (tree.Character value span) h after k = (tt, k)
  free r (tree.Parenthesized a span) h after k = (refl, free (role_in_parentheses r) a (rest_inside (an_expression (tree.Parenthesized a span) r) _ h) _ (refl, k))
  free r (tree.Call name all span) h after k = (tt, (refl, all_free role.Part all (rest_inside (an_expression (tree.Call name all span) r) _ h) _ (refl, k)))
  free r (tree.Index a b span) h after k =
      let both = rest_inside (an_expression (tree.Index a b span) r) _ h in
      free role.Part a (left_inside (part a) (part b) both) _ (refl, free role.Part b (right_inside (part a) (part b) both) _ (refl, k))
  free r (tree.Member a name span) h after k = free role.Part a (rest_inside (an_expression (tree.Member a name span) r) _ h) _ (refl, (tt, k))
  free r (tree.PostfixStep operator a span) h after k = free role.Part a (rest_inside (an_expression (tree.PostfixStep operator a span) r) _ h) _ (step_free operator, k)
  free r (tree.PrefixStep operator a span) h after k = (step_free operator, free role.Part a (rest_inside (an_expression (tree.PrefixStep operator a span) r) _ h) _ k)
  free r (tree.Unary operator a span) h after k = (unary_free operator, free role.Part a (rest_inside (an_expression (tree.Unary operator a span) r) _ h) _ k)
  free r (tree.Cast type a span) h after k =
      let xs = nodes_of_type region.Function type in
      let both = rest_inside (an_expression (tree.Cast type a span) r) _ h in
      (refl, type_free type (left_inside xs (part a) both) _ (refl, free role.Part a (right_inside xs (part a) both) _ k))
  free r (tree.Binary operator a b span) h after k =
      let both = rest_inside (an_expression (tree.Binary operator a b span) r) _ h in
      free role.Part a (left_inside (part a) (part b) both) _ (binary_free operator, free role.Part b (right_inside (part a) (part b) both) _ k)
  free r (tree.Conditional a b c span) h after k =
      let all = rest_inside (an_expression (tree.Conditional a b c span) r) _ h in
      let both = right_inside (part a) (part b ++ part c) all in
      free role.Part a (left_inside (part a) (part b ++ part c) all) _
      (refl, free role.Part b (left_inside (part b) (part c) both) _ (refl, free role.Part c (right_inside (part b) (part c) both) _ k))
  free r (tree.Assignment operator a b span) h after k =
      let both = rest_inside (an_expression (tree.Assignment operator a b span) r) _ h in
      free role.Part a (left_inside (part a) (part b) both) _ (assignment_free operator, free role.Part b (right_inside (part a) (part b) both) _ k)
  free r (tree.Comma all span) h after k = all_free (role_of_operands r) all (rest_inside (an_expression (tree.Comma all span) r) _ h) _ k

  all_free : (r : Role) (all : Expressions) → first_outside (nodes_of_expressions region.Function r all) ≡ None → Free (spell_expressions all)
  all_free r tree.no_expressions h after k = k
  all_free r (tree.expressions a tree.no_expressions) h after k = free r a (left_inside (of r a) [] h) after k
  all_free r (tree.expressions a (tree.expressions b rest)) h after k =
      let ys = nodes_of_expressions region.Function r (tree.expressions b rest) in
      free r a (left_inside (of r a) ys h) _ (refl, all_free r (tree.expressions b rest) (right_inside (of r a) ys h) after k)

-- ---- parameters

lengths_free : (all : ArrayLengths) → first_outside (nodes_of_lengths region.Function all) ≡ None → Free (spell_lengths all)
lengths_free tree.no_lengths h after k = k
lengths_free (tree.absent_length rest) h after k = (refl, (refl, lengths_free rest h after k))
lengths_free (tree.given_length a rest) h after k =
    let ys = nodes_of_lengths region.Function rest in
    (refl, free role.Part a (left_inside (part a) ys h) _ (refl, lengths_free rest (right_inside (part a) ys h) after k))

name_free : (name : Option Name) → Free (spell_name name)
name_free None after k = k
name_free (Some name) after k = (tt, k)

parameter_free : (one : Parameter) → first_outside (nodes_of_parameter one) ≡ None → Free (spell_parameter one)
parameter_free (tree.parameter s stars name all span) h after k =
    let xs = nodes_of_specifiers region.Function s in
    let ys = nodes_of_lengths region.Function all in
    let both = rest_inside (a_parameter (tree.parameter s stars name all span)) (xs ++ ys) h in
    specifiers_free s (left_inside xs ys both) _ (stars_free stars _ (name_free name _ (lengths_free all (right_inside xs ys both) after k)))

list_free : (all : ParameterList) → first_outside (nodes_of_parameter_list all) ≡ None → Free (spell_parameter_list all)
list_free tree.no_parameters h after k = k
list_free (tree.parameters one tree.no_parameters) h after k = parameter_free one (left_inside (nodes_of_parameter one) [] h) after k
list_free (tree.parameters one (tree.parameters two rest)) h after k =
    let ys = nodes_of_parameter_list (tree.parameters two rest) in
    parameter_free one (left_inside (nodes_of_parameter one) ys h) _ (refl, list_free (tree.parameters two rest) (right_inside (nodes_of_parameter one) ys h) after k)

pub parameters_free : (all : Parameters) → first_outside (nodes_of_parameters all) ≡ None → Free (spell_parameters all)
parameters_free (tree.Empty span) h after k = (refl, (refl, k))
parameters_free (tree.Void span) h after k = (refl, (tt, (refl, k)))
parameters_free (tree.Listed all span) h after k = (refl, list_free all (rest_inside (a_parameter_list (tree.Listed all span)) _ h) _ (refl, k))
