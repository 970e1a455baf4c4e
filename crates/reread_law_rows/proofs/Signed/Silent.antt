-- Parts of a syntax tree at which no row stands: there are no brackets.
use Rattle.std.proofs.Common.{List, [], ◌∷◌}
use Rattle.mc_span.specs.declared.span.Span.{Span}
use Rattle.mc_tree.specs.Tree.{Expression, Expressions, TypeName, Specifier, Specifiers, StructMember, Members, Enumerator, Enumerators, Declarator, Declarators, ArrayLengths, Parameters, Parameter, ParameterList, Initializer, Initializers, InitDeclarator, Declaration}
use Rattle.mc_tree.specs.Tree as tree
use Rattle.reread_law_texts.specs.weave.Brackets.{Brackets}
use Rattle.reread_law_texts.specs.brackets.Signs.{Sign, signs, signs_in_declaration, signs_in_declarator, signs_in_declarators, signs_in_enumerator, signs_in_enumerators, signs_in_expressions, signs_in_init_declarator, signs_in_init_declarators, signs_in_initializer, signs_in_initializers, signs_in_lengths, signs_in_member, signs_in_members, signs_in_parameter, signs_in_parameter_list, signs_in_parameters, signs_in_specifier, signs_in_specifiers, signs_in_type_name}
use Rattle.reread_law_rows.specs.inserted.Rows.{Row}
use Rattle.reread_law_texts.specs.apart.Places.{spans, spans_in_declaration, spans_in_declarator, spans_in_declarators, spans_in_enumerator, spans_in_enumerators, spans_in_expressions, spans_in_init_declarator, spans_in_init_declarators, spans_in_initializer, spans_in_initializers, spans_in_lengths, spans_in_member, spans_in_members, spans_in_parameter, spans_in_parameter_list, spans_in_parameters, spans_in_specifier, spans_in_specifiers, spans_in_type_name}
use Rattle.reread_law_rows.proofs.Signed.Signed.{Level, Signed, opens_none, closes}

mutual
  pub silent : (w : Brackets) (a : Expression) {o : List Level} {own held : List Span} {mine : List Row} {ps : List Sign} → Signed w o own held mine ps → Signed w o (spans a own) held mine (signs w a ps)
  silent w (tree.Named name) t = opens_none w name.span (closes w 0 name.span t)
  silent w (tree.Constant value decimal unsigned longs span) t = opens_none w span (closes w 0 span t)
  silent w (tree.Character value span) t = opens_none w span (closes w 0 span t)
  silent w (tree.Parenthesized a span) t = opens_none w span (silent w a (closes w 0 span t))
  silent w (tree.Call name all span) t = opens_none w span (silent_in_expressions w all (closes w 0 span t))
  silent w (tree.Index a b span) t = opens_none w span (silent w a (silent w b (closes w 0 span t)))
  silent w (tree.Member a name span) t = opens_none w span (silent w a (closes w 0 span t))
  silent w (tree.PostfixStep operator a span) t = opens_none w span (silent w a (closes w 0 span t))
  silent w (tree.PrefixStep operator a span) t = opens_none w span (silent w a (closes w 0 span t))
  silent w (tree.Unary operator a span) t = opens_none w span (silent w a (closes w 0 span t))
  silent w (tree.Cast type a span) t = opens_none w span (silent_in_type_name w type (silent w a (closes w 0 span t)))
  silent w (tree.Binary operator a b span) t = opens_none w span (silent w a (silent w b (closes w 0 span t)))
  silent w (tree.Conditional a b c span) t = opens_none w span (silent w a (silent w b (silent w c (closes w 0 span t))))
  silent w (tree.Assignment operator a b span) t = opens_none w span (silent w a (silent w b (closes w 0 span t)))
  silent w (tree.Comma all span) t = opens_none w span (silent_in_expressions w all (closes w 0 span t))

  pub silent_in_expressions : (w : Brackets) (a : Expressions) {o : List Level} {own held : List Span} {mine : List Row} {ps : List Sign} → Signed w o own held mine ps → Signed w o (spans_in_expressions a own) held mine (signs_in_expressions w a ps)
  silent_in_expressions w tree.no_expressions t = t
  silent_in_expressions w (tree.expressions a rest) t = silent w a (silent_in_expressions w rest t)

  pub silent_in_type_name : (w : Brackets) (a : TypeName) {o : List Level} {own held : List Span} {mine : List Row} {ps : List Sign} → Signed w o own held mine ps → Signed w o (spans_in_type_name a own) held mine (signs_in_type_name w a ps)
  silent_in_type_name w (tree.type_name s stars span) t = silent_in_specifiers w s t

  pub silent_in_specifier : (w : Brackets) (a : Specifier) {o : List Level} {own held : List Span} {mine : List Row} {ps : List Sign} → Signed w o own held mine ps → Signed w o (spans_in_specifier a own) held mine (signs_in_specifier w a ps)
  silent_in_specifier w (tree.Word word span) t = t
  silent_in_specifier w (tree.TypedefName name) t = t
  silent_in_specifier w (tree.StructureTag name span) t = t
  silent_in_specifier w (tree.Structure tag ms span) t = silent_in_members w ms t
  silent_in_specifier w (tree.EnumerationTag name span) t = t
  silent_in_specifier w (tree.Enumeration tag es span) t = silent_in_enumerators w es t

  pub silent_in_specifiers : (w : Brackets) (a : Specifiers) {o : List Level} {own held : List Span} {mine : List Row} {ps : List Sign} → Signed w o own held mine ps → Signed w o (spans_in_specifiers a own) held mine (signs_in_specifiers w a ps)
  silent_in_specifiers w tree.no_specifiers t = t
  silent_in_specifiers w (tree.specifiers one rest) t = silent_in_specifier w one (silent_in_specifiers w rest t)

  pub silent_in_member : (w : Brackets) (a : StructMember) {o : List Level} {own held : List Span} {mine : List Row} {ps : List Sign} → Signed w o own held mine ps → Signed w o (spans_in_member a own) held mine (signs_in_member w a ps)
  silent_in_member w (tree.member s ds span) t = silent_in_specifiers w s (silent_in_declarators w ds t)

  pub silent_in_members : (w : Brackets) (a : Members) {o : List Level} {own held : List Span} {mine : List Row} {ps : List Sign} → Signed w o own held mine ps → Signed w o (spans_in_members a own) held mine (signs_in_members w a ps)
  silent_in_members w tree.no_members t = t
  silent_in_members w (tree.members one rest) t = silent_in_member w one (silent_in_members w rest t)

  pub silent_in_enumerator : (w : Brackets) (a : Enumerator) {o : List Level} {own held : List Span} {mine : List Row} {ps : List Sign} → Signed w o own held mine ps → Signed w o (spans_in_enumerator a own) held mine (signs_in_enumerator w a ps)
  silent_in_enumerator w (tree.enumerator name) t = t
  silent_in_enumerator w (tree.valued_enumerator name a) t = silent w a t

  pub silent_in_enumerators : (w : Brackets) (a : Enumerators) {o : List Level} {own held : List Span} {mine : List Row} {ps : List Sign} → Signed w o own held mine ps → Signed w o (spans_in_enumerators a own) held mine (signs_in_enumerators w a ps)
  silent_in_enumerators w tree.no_enumerators t = t
  silent_in_enumerators w (tree.enumerators one rest) t = silent_in_enumerator w one (silent_in_enumerators w rest t)

  pub silent_in_declarator : (w : Brackets) (a : Declarator) {o : List Level} {own held : List Span} {mine : List Row} {ps : List Sign} → Signed w o own held mine ps → Signed w o (spans_in_declarator a own) held mine (signs_in_declarator w a ps)
  silent_in_declarator w (tree.object stars name all span) t = silent_in_lengths w all t
  silent_in_declarator w (tree.function stars name all span) t = silent_in_parameters w all t

  pub silent_in_declarators : (w : Brackets) (a : Declarators) {o : List Level} {own held : List Span} {mine : List Row} {ps : List Sign} → Signed w o own held mine ps → Signed w o (spans_in_declarators a own) held mine (signs_in_declarators w a ps)
  silent_in_declarators w tree.no_declarators t = t
  silent_in_declarators w (tree.declarators one rest) t = silent_in_declarator w one (silent_in_declarators w rest t)

  pub silent_in_lengths : (w : Brackets) (a : ArrayLengths) {o : List Level} {own held : List Span} {mine : List Row} {ps : List Sign} → Signed w o own held mine ps → Signed w o (spans_in_lengths a own) held mine (signs_in_lengths w a ps)
  silent_in_lengths w tree.no_lengths t = t
  silent_in_lengths w (tree.absent_length rest) t = silent_in_lengths w rest t
  silent_in_lengths w (tree.given_length a rest) t = silent w a (silent_in_lengths w rest t)

  pub silent_in_parameters : (w : Brackets) (a : Parameters) {o : List Level} {own held : List Span} {mine : List Row} {ps : List Sign} → Signed w o own held mine ps → Signed w o (spans_in_parameters a own) held mine (signs_in_parameters w a ps)
  silent_in_parameters w (tree.Empty span) t = t
  silent_in_parameters w (tree.Void span) t = t
  silent_in_parameters w (tree.Listed all span) t = silent_in_parameter_list w all t

  pub silent_in_parameter : (w : Brackets) (a : Parameter) {o : List Level} {own held : List Span} {mine : List Row} {ps : List Sign} → Signed w o own held mine ps → Signed w o (spans_in_parameter a own) held mine (signs_in_parameter w a ps)
  silent_in_parameter w (tree.parameter s stars name all span) t = silent_in_specifiers w s (silent_in_lengths w all t)

  pub silent_in_parameter_list : (w : Brackets) (a : ParameterList) {o : List Level} {own held : List Span} {mine : List Row} {ps : List Sign} → Signed w o own held mine ps → Signed w o (spans_in_parameter_list a own) held mine (signs_in_parameter_list w a ps)
  silent_in_parameter_list w tree.no_parameters t = t
  silent_in_parameter_list w (tree.parameters one rest) t = silent_in_parameter w one (silent_in_parameter_list w rest t)

mutual
  pub silent_in_initializer : (w : Brackets) (a : Initializer) {o : List Level} {own held : List Span} {mine : List Row} {ps : List Sign} → Signed w o own held mine ps → Signed w o (spans_in_initializer a own) held mine (signs_in_initializer w a ps)
  silent_in_initializer w (tree.Single a) t = silent w a t
  silent_in_initializer w (tree.Braced all span) t = silent_in_initializers w all t

  pub silent_in_initializers : (w : Brackets) (a : Initializers) {o : List Level} {own held : List Span} {mine : List Row} {ps : List Sign} → Signed w o own held mine ps → Signed w o (spans_in_initializers a own) held mine (signs_in_initializers w a ps)
  silent_in_initializers w tree.no_initializers t = t
  silent_in_initializers w (tree.initializers one rest) t = silent_in_initializer w one (silent_in_initializers w rest t)

pub silent_in_init_declarator : (w : Brackets) (a : InitDeclarator) {o : List Level} {own held : List Span} {mine : List Row} {ps : List Sign} → Signed w o own held mine ps → Signed w o (spans_in_init_declarator a own) held mine (signs_in_init_declarator w a ps)
silent_in_init_declarator w (tree.bare d) t = silent_in_declarator w d t
silent_in_init_declarator w (tree.initialized d value) t = silent_in_declarator w d (silent_in_initializer w value t)

pub silent_in_init_declarators : (w : Brackets) (a : List InitDeclarator) {o : List Level} {own held : List Span} {mine : List Row} {ps : List Sign} → Signed w o own held mine ps → Signed w o (spans_in_init_declarators a own) held mine (signs_in_init_declarators w a ps)
silent_in_init_declarators w [] t = t
silent_in_init_declarators w (one ∷ rest) t = silent_in_init_declarator w one (silent_in_init_declarators w rest t)

pub silent_in_declaration : (w : Brackets) (a : Declaration) {o : List Level} {own held : List Span} {mine : List Row} {ps : List Sign} → Signed w o own held mine ps → Signed w o (spans_in_declaration a own) held mine (signs_in_declaration w a ps)
silent_in_declaration w (tree.declaration s all span) t = silent_in_specifiers w s (silent_in_init_declarators w all t)
