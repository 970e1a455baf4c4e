-- What is spelled of expressions, types, declarators and parameters is a stretch: one case for each
-- variant. Where no `{` is allowed, the profile leaves out lists of members and of constants.
use Rattle.std.proofs.Common.{◌≡◌, ℕ, zero, suc, Bool, true, false, List, [], ◌∷◌, ◌++◌, Option, Some, None, refl, codes, true≢false}
use Rattle.std.specs.Str.{bytes_eq}
use Rattle.mc_lex.specs.Words.{one_of}
use Rattle.mc_tree.specs.declared.expressions.unary_operator.UnaryOperator.{UnaryOperator}
use Rattle.mc_tree.specs.declared.expressions.unary_operator.UnaryOperator.TheVariants as unary
use Rattle.mc_tree.specs.declared.expressions.step_operator.StepOperator.{StepOperator}
use Rattle.mc_tree.specs.declared.expressions.step_operator.StepOperator.TheVariants as step
use Rattle.mc_tree.specs.declared.expressions.binary_operator.BinaryOperator.{BinaryOperator}
use Rattle.mc_tree.specs.declared.expressions.binary_operator.BinaryOperator.TheVariants as binary
use Rattle.mc_tree.specs.declared.expressions.assignment_operator.AssignmentOperator.{AssignmentOperator}
use Rattle.mc_tree.specs.declared.expressions.assignment_operator.AssignmentOperator.TheVariants as assign
use Rattle.mc_tree.specs.Tree.{Name, Expression, Expressions, TypeName, Specifier, Specifiers, StructMember, Members, Enumerator, Enumerators, Declarator, Declarators, ArrayLengths, Parameters, Parameter, ParameterList}
use Rattle.mc_tree.specs.Tree as tree
use Rattle.subset_forms.specs.declared.context.Region.TheVariants as region
use Rattle.subset_forms.specs.declared.context.Role.{Role}
use Rattle.subset_forms.specs.declared.context.Role.TheVariants as role
use Rattle.subset_forms.specs.Contexts.{role_of_operands, role_in_parentheses}
use Rattle.mc_subset.specs.Nodes.{Node, an_expression, a_type_name, a_specifier, a_parameter_list, a_parameter, nodes_of_expression, nodes_of_expressions, nodes_of_type, nodes_of_specifier, nodes_of_specifiers, nodes_of_lengths, nodes_of_parameters, nodes_of_parameter, nodes_of_parameter_list}
use Rattle.mc_subset.specs.Forms.{first_outside}
use Rattle.mc_grammar.specs.Spelling.{Spelled, text_of_unary, text_of_step, text_of_binary, text_of_assignment, spell, spell_expressions, spell_type_name, spell_specifier, spell_specifiers, spell_members, spell_enumerator, spell_enumerators, spell_declarator, spell_declarators, spell_stars, spell_tag, spell_name, spell_lengths, spell_parameters, spell_parameter, spell_parameter_list}
use Rattle.laws_reread.proofs.Signs.{brackets, none_of}
use Rattle.laws_reread.proofs.Stretch.{begins_brace, Stretch, empty, free, round, square, curly, join}
use Rattle.reread_law_rows.proofs.Fitting.Profile.{head_inside, rest_inside, left_inside, right_inside, no_structure, no_enumeration}

-- ---- operators

unary_free : (o : UnaryOperator) → one_of brackets (text_of_unary o) ≡ false
unary_free unary.Address = refl
unary_free unary.Dereference = refl
unary_free unary.Plus = refl
unary_free unary.Minus = refl
unary_free unary.Complement = refl
unary_free unary.Not = refl

step_free : (o : StepOperator) → one_of brackets (text_of_step o) ≡ false
step_free step.Increment = refl
step_free step.Decrement = refl

binary_free : (o : BinaryOperator) → one_of brackets (text_of_binary o) ≡ false
binary_free binary.Multiply = refl
binary_free binary.Divide = refl
binary_free binary.Remainder = refl
binary_free binary.Add = refl
binary_free binary.Subtract = refl
binary_free binary.ShiftLeft = refl
binary_free binary.ShiftRight = refl
binary_free binary.Less = refl
binary_free binary.Greater = refl
binary_free binary.LessOrEqual = refl
binary_free binary.GreaterOrEqual = refl
binary_free binary.Equal = refl
binary_free binary.Unequal = refl
binary_free binary.BitAnd = refl
binary_free binary.BitXor = refl
binary_free binary.BitOr = refl
binary_free binary.And = refl
binary_free binary.Or = refl

assignment_free : (o : AssignmentOperator) → one_of brackets (text_of_assignment o) ≡ false
assignment_free assign.Assign = refl
assignment_free assign.Multiply = refl
assignment_free assign.Divide = refl
assignment_free assign.Remainder = refl
assignment_free assign.Add = refl
assignment_free assign.Subtract = refl
assignment_free assign.ShiftLeft = refl
assignment_free assign.ShiftRight = refl
assignment_free assign.BitAnd = refl
assignment_free assign.BitXor = refl
assignment_free assign.BitOr = refl

brace_of : (text : List ℕ) → one_of brackets text ≡ false → bytes_eq text (codes "{") ≡ false
brace_of text e = (none_of text e).brace

step_brace : (o : StepOperator) → bytes_eq (text_of_step o) (codes "{") ≡ false
step_brace o = brace_of (text_of_step o) (step_free o)

unary_brace : (o : UnaryOperator) → bytes_eq (text_of_unary o) (codes "{") ≡ false
unary_brace o = brace_of (text_of_unary o) (unary_free o)

binary_brace : (o : BinaryOperator) → bytes_eq (text_of_binary o) (codes "{") ≡ false
binary_brace o = brace_of (text_of_binary o) (binary_free o)

assignment_brace : (o : AssignmentOperator) → bytes_eq (text_of_assignment o) (codes "{") ≡ false
assignment_brace o = brace_of (text_of_assignment o) (assignment_free o)

-- ---- no expression begins with a `{`

mutual
  begins : (a : Expression) (after : List Spelled) → begins_brace after ≡ false → begins_brace (spell a after) ≡ false
  begins (tree.Named name) after k = refl
  begins (tree.Constant value decimal unsigned longs span) after k = refl
  begins (tree.Character value span) after k = refl
  begins (tree.Parenthesized a span) after k = refl
  begins (tree.Call name all span) after k = refl
  begins (tree.Index a c span) after k = begins a _ refl
  begins (tree.Member a name span) after k = begins a _ refl
  begins (tree.PostfixStep operator a span) after k = begins a _ (step_brace operator)
  begins (tree.PrefixStep operator a span) after k = step_brace operator
  begins (tree.Unary operator a span) after k = unary_brace operator
  begins (tree.Cast type a span) after k = refl
  begins (tree.Binary operator a c span) after k = begins a _ (binary_brace operator)
  begins (tree.Conditional a c d span) after k = begins a _ refl
  begins (tree.Assignment operator a c span) after k = begins a _ (assignment_brace operator)
  begins (tree.Comma all span) after k = all_begin all after k

  all_begin : (all : Expressions) (after : List Spelled) → begins_brace after ≡ false → begins_brace (spell_expressions all after) ≡ false
  all_begin tree.no_expressions after k = k
  all_begin (tree.expressions a tree.no_expressions) after k = begins a after k
  all_begin (tree.expressions a (tree.expressions c rest)) after k = begins a _ refl

-- ---- what the profile says, where no `{` is allowed

abbrev pub Inside : Bool → List Node → Type 0
Inside b xs = b ≡ false → first_outside xs ≡ None

pub anywhere : (xs : List Node) → Inside true xs
anywhere xs e = absurd (true≢false e)

rest_in : (n : Node) (xs : List Node) (b : Bool) → Inside b (n ∷ xs) → Inside b xs
rest_in n xs b h e = rest_inside n xs (h e)

left_in : (xs ys : List Node) (b : Bool) → Inside b (xs ++ ys) → Inside b xs
left_in xs ys b h e = left_inside xs ys (h e)

right_in : (xs ys : List Node) (b : Bool) → Inside b (xs ++ ys) → Inside b ys
right_in xs ys b h e = right_inside xs ys (h e)

abbrev of : Role → Expression → List Node
of r a = nodes_of_expression region.Function r a

abbrev part : Expression → List Node
part a = of role.Part a

-- ---- stretches

-- what is spelled before any tokens, and before tokens of which the first is no `{`
abbrev pub Before : Bool → (List Spelled → List Spelled) → Type 0
Before b spelled = (after : List Spelled) → Stretch b false (spelled after) after

abbrev pub BeforeOther : Bool → (List Spelled → List Spelled) → Type 0
BeforeOther b spelled = (after : List Spelled) → begins_brace after ≡ false → Stretch b false (spelled after) after

stars_stretch : {b : Bool} (n : ℕ) → Before b (spell_stars n)
stars_stretch zero after = empty
stars_stretch (suc n) after = free refl (stars_stretch n after)

tag_stretch : {b : Bool} (tag : Option Name) → Before b (spell_tag tag)
tag_stretch None after = empty
tag_stretch (Some name) after = free tt empty

name_stretch : {b : Bool} (name : Option Name) → Before b (spell_name name)
name_stretch None after = empty
name_stretch (Some name) after = free tt empty

mutual
  pub expression_stretch : (b : Bool) (r : Role) (a : Expression) → Inside b (of r a) → BeforeOther b (spell a)
  expression_stretch b r (tree.Named name) h after k = free tt empty
  expression_stretch b r (tree.Constant value decimal unsigned longs span) h after k = free tt empty
  expression_stretch b r (tree.Character value span) h after k = free tt empty
  expression_stretch b r (tree.Parenthesized a span) h after k =
      round (expression_stretch b (role_in_parentheses r) a (rest_in (an_expression (tree.Parenthesized a span) r) _ b h) _ refl) k empty
  expression_stretch b r (tree.Call name all span) h after k =
      free tt (round (expressions_stretch b role.Part all (rest_in (an_expression (tree.Call name all span) r) _ b h) _ refl) k empty)
  expression_stretch b r (tree.Index a c span) h after k =
      let both = rest_in (an_expression (tree.Index a c span) r) _ b h in
      join (expression_stretch b role.Part a (left_in (part a) (part c) b both) _ refl) (square (expression_stretch b role.Part c (right_in (part a) (part c) b both) _ refl) empty)
  expression_stretch b r (tree.Member a name span) h after k =
      join (expression_stretch b role.Part a (rest_in (an_expression (tree.Member a name span) r) _ b h) _ refl) (free refl (free tt empty))
  expression_stretch b r (tree.PostfixStep operator a span) h after k =
      join (expression_stretch b role.Part a (rest_in (an_expression (tree.PostfixStep operator a span) r) _ b h) _ (step_brace operator)) (free (step_free operator) empty)
  expression_stretch b r (tree.PrefixStep operator a span) h after k =
      free (step_free operator) (expression_stretch b role.Part a (rest_in (an_expression (tree.PrefixStep operator a span) r) _ b h) after k)
  expression_stretch b r (tree.Unary operator a span) h after k =
      free (unary_free operator) (expression_stretch b role.Part a (rest_in (an_expression (tree.Unary operator a span) r) _ b h) after k)
  expression_stretch b r (tree.Cast type a span) h after k =
      let xs = nodes_of_type region.Function type in
      let both = rest_in (an_expression (tree.Cast type a span) r) _ b h in
      round (type_stretch b type (left_in xs (part a) b both) _) (begins a after k) (expression_stretch b role.Part a (right_in xs (part a) b both) after k)
  expression_stretch b r (tree.Binary operator a c span) h after k =
      let both = rest_in (an_expression (tree.Binary operator a c span) r) _ b h in
      join (expression_stretch b role.Part a (left_in (part a) (part c) b both) _ (binary_brace operator))
      (free (binary_free operator) (expression_stretch b role.Part c (right_in (part a) (part c) b both) after k))
  expression_stretch b r (tree.Conditional a c d span) h after k =
      let all = rest_in (an_expression (tree.Conditional a c d span) r) _ b h in
      let both = right_in (part a) (part c ++ part d) b all in
      join (expression_stretch b role.Part a (left_in (part a) (part c ++ part d) b all) _ refl)
      (free refl (join (expression_stretch b role.Part c (left_in (part c) (part d) b both) _ refl)
      (free refl (expression_stretch b role.Part d (right_in (part c) (part d) b both) after k))))
  expression_stretch b r (tree.Assignment operator a c span) h after k =
      let both = rest_in (an_expression (tree.Assignment operator a c span) r) _ b h in
      join (expression_stretch b role.Part a (left_in (part a) (part c) b both) _ (assignment_brace operator))
      (free (assignment_free operator) (expression_stretch b role.Part c (right_in (part a) (part c) b both) after k))
  expression_stretch b r (tree.Comma all span) h after k = expressions_stretch b (role_of_operands r) all (rest_in (an_expression (tree.Comma all span) r) _ b h) after k

  expressions_stretch : (b : Bool) (r : Role) (all : Expressions) → Inside b (nodes_of_expressions region.Function r all) → BeforeOther b (spell_expressions all)
  expressions_stretch b r tree.no_expressions h after k = empty
  expressions_stretch b r (tree.expressions a tree.no_expressions) h after k = expression_stretch b r a (left_in (of r a) [] b h) after k
  expressions_stretch b r (tree.expressions a (tree.expressions c rest)) h after k =
      let ys = nodes_of_expressions region.Function r (tree.expressions c rest) in
      join (expression_stretch b r a (left_in (of r a) ys b h) _ refl) (free refl (expressions_stretch b r (tree.expressions c rest) (right_in (of r a) ys b h) after k))

  type_stretch : (b : Bool) (type : TypeName) → Inside b (nodes_of_type region.Function type) → Before b (spell_type_name type)
  type_stretch b (tree.type_name s stars span) h after =
      join (specifiers_stretch b s (rest_in (a_type_name (tree.type_name s stars span)) _ b h) _) (stars_stretch stars after)

  specifier_stretch : (b : Bool) (s : Specifier) → Inside b (nodes_of_specifier region.Function s) → Before b (spell_specifier s)
  specifier_stretch b (tree.Word w span) h after = free tt empty
  specifier_stretch b (tree.TypedefName name) h after = free tt empty
  specifier_stretch b (tree.StructureTag name span) h after = free tt (free tt empty)
  specifier_stretch true (tree.Structure tag all span) h after = free tt (join (tag_stretch tag _) (curly refl (members_stretch all _) empty))
  specifier_stretch false (tree.Structure tag all span) h after = absurd (no_structure tag all span (head_inside (a_specifier (tree.Structure tag all span) region.Function) _ (h refl)))
  specifier_stretch b (tree.EnumerationTag name span) h after = free tt (free tt empty)
  specifier_stretch true (tree.Enumeration tag all span) h after = free tt (join (tag_stretch tag _) (curly refl (enumerators_stretch all _ refl) empty))
  specifier_stretch false (tree.Enumeration tag all span) h after =
      absurd (no_enumeration tag all span (head_inside (a_specifier (tree.Enumeration tag all span) region.Function) _ (h refl)))

  pub specifiers_stretch : (b : Bool) (all : Specifiers) → Inside b (nodes_of_specifiers region.Function all) → Before b (spell_specifiers all)
  specifiers_stretch b tree.no_specifiers h after = empty
  specifiers_stretch b (tree.specifiers s rest) h after =
      let xs = nodes_of_specifier region.Function s in
      let ys = nodes_of_specifiers region.Function rest in
      join (specifier_stretch b s (left_in xs ys b h) _) (specifiers_stretch b rest (right_in xs ys b h) after)

  members_stretch : (all : Members) → Before true (spell_members all)
  members_stretch tree.no_members after = empty
  members_stretch (tree.members (tree.member s all span) rest) after =
      join (specifiers_stretch true s (anywhere _) _) (join (declarators_stretch all _ refl) (free refl (members_stretch rest after)))

  enumerator_stretch : (one : Enumerator) → BeforeOther true (spell_enumerator one)
  enumerator_stretch (tree.enumerator name) after k = free tt empty
  enumerator_stretch (tree.valued_enumerator name a) after k = free tt (free refl (expression_stretch true role.Part a (anywhere _) after k))

  enumerators_stretch : (all : Enumerators) → BeforeOther true (spell_enumerators all)
  enumerators_stretch tree.no_enumerators after k = empty
  enumerators_stretch (tree.enumerators one tree.no_enumerators) after k = enumerator_stretch one after k
  enumerators_stretch (tree.enumerators one (tree.enumerators two rest)) after k =
      join (enumerator_stretch one _ refl) (free refl (enumerators_stretch (tree.enumerators two rest) after k))

  pub declarator_stretch : (d : Declarator) → BeforeOther true (spell_declarator d)
  declarator_stretch (tree.object stars name all span) after k = join (stars_stretch stars _) (free tt (lengths_stretch true all (anywhere _) after))
  declarator_stretch (tree.function stars name all span) after k = join (stars_stretch stars _) (free tt (parameters_stretch true all (anywhere _) after k))

  declarators_stretch : (all : Declarators) → BeforeOther true (spell_declarators all)
  declarators_stretch tree.no_declarators after k = empty
  declarators_stretch (tree.declarators one tree.no_declarators) after k = declarator_stretch one after k
  declarators_stretch (tree.declarators one (tree.declarators two rest)) after k =
      join (declarator_stretch one _ refl) (free refl (declarators_stretch (tree.declarators two rest) after k))

  lengths_stretch : (b : Bool) (all : ArrayLengths) → Inside b (nodes_of_lengths region.Function all) → Before b (spell_lengths all)
  lengths_stretch b tree.no_lengths h after = empty
  lengths_stretch b (tree.absent_length rest) h after = square empty (lengths_stretch b rest h after)
  lengths_stretch b (tree.given_length a rest) h after =
      let ys = nodes_of_lengths region.Function rest in
      square (expression_stretch b role.Part a (left_in (part a) ys b h) _ refl) (lengths_stretch b rest (right_in (part a) ys b h) after)

  parameters_stretch : (b : Bool) (all : Parameters) → Inside b (nodes_of_parameters all) → BeforeOther b (spell_parameters all)
  parameters_stretch b (tree.Empty span) h after k = round empty k empty
  parameters_stretch b (tree.Void span) h after k = round (free tt empty) k empty
  parameters_stretch b (tree.Listed all span) h after k = round (list_stretch b all (rest_in (a_parameter_list (tree.Listed all span)) _ b h) _) k empty

  parameter_stretch : (b : Bool) (one : Parameter) → Inside b (nodes_of_parameter one) → Before b (spell_parameter one)
  parameter_stretch b (tree.parameter s stars name all span) h after =
      let xs = nodes_of_specifiers region.Function s in
      let ys = nodes_of_lengths region.Function all in
      let both = rest_in (a_parameter (tree.parameter s stars name all span)) (xs ++ ys) b h in
      join (specifiers_stretch b s (left_in xs ys b both) _) (join (stars_stretch stars _) (join (name_stretch name _) (lengths_stretch b all (right_in xs ys b both) after)))

  pub list_stretch : (b : Bool) (all : ParameterList) → Inside b (nodes_of_parameter_list all) → Before b (spell_parameter_list all)
  list_stretch b tree.no_parameters h after = empty
  list_stretch b (tree.parameters one tree.no_parameters) h after = parameter_stretch b one (left_in (nodes_of_parameter one) [] b h) after
  list_stretch b (tree.parameters one (tree.parameters two rest)) h after =
      let ys = nodes_of_parameter_list (tree.parameters two rest) in
      join (parameter_stretch b one (left_in (nodes_of_parameter one) ys b h) _) (free refl (list_stretch b (tree.parameters two rest) (right_in (nodes_of_parameter one) ys b h) after))
