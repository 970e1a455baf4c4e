-- The walk over expressions, specifiers and declarators.
use Rattle.std.specs.Prelude.{ℕ, ◌==◌, Bool, true, false, List, [], ◌∷◌, if◌then◌else◌}
use Rattle.mc_span.specs.declared.span.Span.{Span}
use Rattle.mc_tree.specs.Tree.{Expression, Expressions, TypeName, Specifier, Specifiers}
use Rattle.mc_tree.specs.Tree.{StructMember, Members, Enumerator, Enumerators, Declarator}
use Rattle.mc_tree.specs.Tree.{Declarators, ArrayLengths, Parameters, Parameter, ParameterList}
use Rattle.mc_tree.specs.Tree.{span_of}
use Rattle.mc_tree.specs.Tree as tree
use Rattle.reread_probes.specs.declared.spot.Spot.TheVariants as spot
use Rattle.reread_probes.specs.Walks.{Walk, refused_if, must_take}

-- A decision's and a condition's probe stand round a conditional expression of C's grammar: no
-- assignment and no comma expression (C17 6.5.15).
abbrev pub is_cond : Expression → Bool
is_cond (tree.Assignment operator a b span) = false
is_cond (tree.Comma operands span) = false
is_cond _ = true

-- An expression without parentheses round it: a typed program has none, and its nodes stand where
-- this stands.
abbrev pub bare : Expression → Expression
bare (tree.Parenthesized a span) = bare a
bare a = a

-- A parenthesis of the source starts before what it encloses, that of a probe where this starts.
abbrev pub is_operand : Expression → Span → Bool
is_operand inner span = span.start == (span_of inner).start

abbrev pub enter_operand : Expression → Span → Walk → Walk
enter_operand inner span w =
    must_take (spot.Operand span.start (is_cond inner)) (span_of (bare inner)) w

abbrev pub enter_parentheses : Expression → Span → Walk → Walk
enter_parentheses inner span w =
    if is_operand inner span then enter_operand inner span w else w

-- A probe does not stand round a type name.
abbrev pub starts_with_type : TypeName → Span → Bool
starts_with_type (tree.type_name s stars type) span = span.start == type.start

abbrev pub enter_cast : TypeName → Span → Walk → Walk
enter_cast type span w = refused_if (starts_with_type type span) w

abbrev mutual
  pub walk_expression : Expression → Walk → Walk
  walk_expression (tree.Named name) w = w
  walk_expression (tree.Constant value decimal unsigned longs span) w = w
  walk_expression (tree.Character value span) w = w
  walk_expression (tree.Parenthesized inner span) w =
      walk_expression inner (enter_parentheses inner span w)
  walk_expression (tree.Call name arguments span) w = walk_expressions arguments w
  walk_expression (tree.Index a b span) w = walk_expression b (walk_expression a w)
  walk_expression (tree.Member a name span) w = walk_expression a w
  walk_expression (tree.PostfixStep operator a span) w = walk_expression a w
  walk_expression (tree.PrefixStep operator a span) w = walk_expression a w
  walk_expression (tree.Unary operator a span) w = walk_expression a w
  walk_expression (tree.Cast type a span) w =
      walk_expression a (walk_type type (enter_cast type span w))
  walk_expression (tree.Binary operator a b span) w = walk_expression b (walk_expression a w)
  walk_expression (tree.Conditional a b c span) w =
      walk_expression c (walk_expression b (walk_expression a w))
  walk_expression (tree.Assignment operator a b span) w =
      walk_expression b (walk_expression a w)
  walk_expression (tree.Comma operands span) w = walk_expressions operands w

  pub walk_expressions : Expressions → Walk → Walk
  walk_expressions tree.no_expressions w = w
  walk_expressions (tree.expressions a rest) w = walk_expressions rest (walk_expression a w)

  pub walk_type : TypeName → Walk → Walk
  walk_type (tree.type_name s stars span) w = walk_specifiers s w

  pub walk_specifier : Specifier → Walk → Walk
  walk_specifier (tree.Word word span) w = w
  walk_specifier (tree.TypedefName name) w = w
  walk_specifier (tree.StructureTag name span) w = w
  walk_specifier (tree.Structure tag all span) w = walk_members all w
  walk_specifier (tree.EnumerationTag name span) w = w
  walk_specifier (tree.Enumeration tag all span) w = walk_enumerators all w

  pub walk_specifiers : Specifiers → Walk → Walk
  walk_specifiers tree.no_specifiers w = w
  walk_specifiers (tree.specifiers s rest) w = walk_specifiers rest (walk_specifier s w)

  pub walk_member : StructMember → Walk → Walk
  walk_member (tree.member s ds span) w = walk_declarators ds (walk_specifiers s w)

  pub walk_members : Members → Walk → Walk
  walk_members tree.no_members w = w
  walk_members (tree.members m rest) w = walk_members rest (walk_member m w)

  pub walk_enumerator : Enumerator → Walk → Walk
  walk_enumerator (tree.enumerator name) w = w
  walk_enumerator (tree.valued_enumerator name a) w = walk_expression a w

  pub walk_enumerators : Enumerators → Walk → Walk
  walk_enumerators tree.no_enumerators w = w
  walk_enumerators (tree.enumerators e rest) w = walk_enumerators rest (walk_enumerator e w)

  pub walk_declarator : Declarator → Walk → Walk
  walk_declarator (tree.object stars name all span) w = walk_lengths all w
  walk_declarator (tree.function stars name all span) w = walk_parameters all w

  pub walk_declarators : Declarators → Walk → Walk
  walk_declarators tree.no_declarators w = w
  walk_declarators (tree.declarators d rest) w = walk_declarators rest (walk_declarator d w)

  pub walk_lengths : ArrayLengths → Walk → Walk
  walk_lengths tree.no_lengths w = w
  walk_lengths (tree.absent_length rest) w = walk_lengths rest w
  walk_lengths (tree.given_length a rest) w = walk_lengths rest (walk_expression a w)

  pub walk_parameters : Parameters → Walk → Walk
  walk_parameters (tree.Empty span) w = w
  walk_parameters (tree.Void span) w = w
  walk_parameters (tree.Listed all span) w = walk_parameter_list all w

  pub walk_parameter : Parameter → Walk → Walk
  walk_parameter (tree.parameter s stars name all span) w =
      walk_lengths all (walk_specifiers s w)

  pub walk_parameter_list : ParameterList → Walk → Walk
  walk_parameter_list tree.no_parameters w = w
  walk_parameter_list (tree.parameters p rest) w =
      walk_parameter_list rest (walk_parameter p w)
