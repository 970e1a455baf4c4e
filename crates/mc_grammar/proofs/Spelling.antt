-- A tree spells its text.
use Rattle.std.proofs.Common.{◌≡◌, ℕ, Bool, true, false, List, [], ◌∷◌, Option, Some, None, if◌then◌else◌, refl, sym, subst, codes}
use Rattle.mc_lex.specs.declared.token.Dialect.{Dialect}
use Rattle.mc_span.specs.declared.span.Span.{Span}
use Rattle.mc_tree.specs.declared.expressions.unary_operator.UnaryOperator.{UnaryOperator}
use Rattle.mc_tree.specs.declared.expressions.step_operator.StepOperator.{StepOperator}
use Rattle.mc_tree.specs.declared.expressions.binary_operator.BinaryOperator.{BinaryOperator}
use Rattle.mc_tree.specs.declared.expressions.binary_operator.BinaryOperator.TheVariants as binary
use Rattle.mc_tree.specs.declared.expressions.assignment_operator.AssignmentOperator.{AssignmentOperator}
use Rattle.mc_tree.specs.declared.expressions.assignment_operator.AssignmentOperator.TheVariants as assign
use Rattle.mc_tree.specs.declared.declarations.specifier_word.SpecifierWord.{SpecifierWord}
use Rattle.mc_tree.specs.Tree.{Expression, Expressions, TypeName, Specifiers, StructMember, Members, Enumerator, Enumerators, Declarator, Declarators, ArrayLengths, Parameters, Parameter, ParameterList, Initializer, Initializers, InitDeclarator, Declaration, ForStart, Statement, BlockItems, Item}
use Rattle.mc_tree.specs.Tree as t
use Rattle.mc_grammar.specs.Words.{Lexeme, is_punctuator, is_keyword, sees}
use Rattle.mc_grammar.specs.Operators.{IsUnary, IsStep, operator_at, assignment_at, IsSpecifierWord}
use Rattle.mc_grammar.specs.Operators as o
use Rattle.mc_grammar.specs.Nonterminal.{Nonterminal, Level, operand, takes}
use Rattle.mc_grammar.specs.Nonterminal as n
use Rattle.mc_grammar.specs.Expressions.{Reads, ReadsExpressions, ReadsTypeName, ReadsStars, ReadsSpecifiers, ReadsMembers, ReadsMember, ReadsDeclarators, ReadsEnumerators, ReadsEnumerator, ReadsDeclarator, ReadsArrayLengths, ReadsParameters, ReadsParameterList, ReadsParameter}
use Rattle.mc_grammar.specs.Expressions as r
use Rattle.mc_grammar.specs.Statements.{ReadsOptional, ReadsTest, ReadsInitializer, ReadsInitializers, ReadsInitDeclarator, ReadsInitDeclarators, ReadsDeclaration, ReadsForStart, ReadsStatement, ReadsCompound, ReadsBlockItems}
use Rattle.mc_grammar.specs.Statements as s
use Rattle.mc_grammar.specs.Items.{ReadsItem, ReadsUnit, IsTree, is_item_of}
use Rattle.mc_grammar.specs.Items as i
use Rattle.mc_grammar.specs.Spelling.{Spelled, Spells, nothing, token, last_comma, in_force, text_of_unary, text_of_step, text_of_binary, text_of_assignment, text_of_word, comma, left_brace, right_brace, semicolon, spell, spell_expressions, spell_type_name, spell_specifiers, spell_member, spell_members, spell_enumerator, spell_enumerators, spell_declarator, spell_declarators, spell_stars, spell_lengths, spell_parameters, spell_parameter, spell_parameter_list, spell_initializer, spell_initializers, spell_force, spell_init_declarator, spell_init_declarators, spell_declaration, spell_optional, spell_start, spell_test, spell_statement, spell_block, spell_item, spell_unit}
use Rattle.mc_grammar.specs.WordSets.{is_typedef_word, some_word}
use Rattle.mc_grammar.proofs.Lengths.{operand_takes}
use Rattle.mc_grammar.proofs.Storage.{item_typedef, local_typedef, type_typedef}

-- ---- operators and words

unary_spelled : {x : Lexeme} {operator : UnaryOperator} → IsUnary x operator → is_punctuator (text_of_unary operator) x ≡ true
unary_spelled (o.plus e) = e
unary_spelled (o.minus e) = e
unary_spelled (o.complement e) = e
unary_spelled (o.not e) = e
unary_spelled (o.dereference e) = e
unary_spelled (o.address e) = e

step_spelled : {x : Lexeme} {operator : StepOperator} → IsStep x operator → is_punctuator (text_of_step operator) x ≡ true
step_spelled (o.increment e) = e
step_spelled (o.decrement e) = e

word_spelled : {x : Lexeme} {w : SpecifierWord} → IsSpecifierWord x w → is_keyword (text_of_word w) x ≡ true
word_spelled (o.typedef e) = e
word_spelled (o.static e) = e
word_spelled (o.extern e) = e
word_spelled (o.const e) = e
word_spelled (o.void e) = e
word_spelled (o.bool e) = e
word_spelled (o.char e) = e
word_spelled (o.short e) = e
word_spelled (o.int e) = e
word_spelled (o.long e) = e
word_spelled (o.signed e) = e
word_spelled (o.unsigned e) = e

-- the token of the operator that is found, one test after the other
pub found : {A : Type 0} (P : A → Type 0) (b : Bool) (one : A) (others : Option A) {a : A} → (b ≡ true → P one) → (others ≡ Some a → P a) → (if b then Some one else others) ≡ Some a → P a
found P true one others h g e = let f : one ≡ _ = cc in subst P f (h refl)
found P false one others h g e = g e

abbrev Is : Lexeme → BinaryOperator → Type 0
Is x operator = is_punctuator (text_of_binary operator) x ≡ true

pub none : {A : Type 0} (P : A → Type 0) {a : A} → None ≡ Some a → P a
none P e = cc

operator_spelled : (k : Level) (x : Lexeme) {operator : BinaryOperator} → operator_at k x ≡ Some operator → is_punctuator (text_of_binary operator) x ≡ true
operator_spelled n.product x e =
    found (Is x) (is_punctuator (codes "*") x) binary.Multiply _ (λ e. e) (found (Is x) (is_punctuator (codes "/") x) binary.Divide _ (λ e. e)
    (found (Is x) (is_punctuator (codes "%") x) binary.Remainder None (λ e. e) (none (Is x)))) e
operator_spelled n.sum x e =
    found (Is x) (is_punctuator (codes "+") x) binary.Add _ (λ e. e) (found (Is x) (is_punctuator (codes "-") x) binary.Subtract None (λ e. e) (none (Is x))) e
operator_spelled n.shift x e =
    found (Is x) (is_punctuator (codes "<<") x) binary.ShiftLeft _ (λ e. e) (found (Is x) (is_punctuator (codes ">>") x) binary.ShiftRight None (λ e. e) (none (Is x))) e
operator_spelled n.relation x e =
    found (Is x) (is_punctuator (codes "<") x) binary.Less _ (λ e. e) (found (Is x) (is_punctuator (codes ">") x) binary.Greater _ (λ e. e)
    (found (Is x) (is_punctuator (codes "<=") x) binary.LessOrEqual _ (λ e. e) (found (Is x) (is_punctuator (codes ">=") x) binary.GreaterOrEqual None (λ e. e) (none (Is x))))) e
operator_spelled n.equality x e =
    found (Is x) (is_punctuator (codes "==") x) binary.Equal _ (λ e. e) (found (Is x) (is_punctuator (codes "!=") x) binary.Unequal None (λ e. e) (none (Is x))) e
operator_spelled n.bit_and x e = found (Is x) (is_punctuator (codes "&") x) binary.BitAnd None (λ e. e) (none (Is x)) e
operator_spelled n.bit_xor x e = found (Is x) (is_punctuator (codes "^") x) binary.BitXor None (λ e. e) (none (Is x)) e
operator_spelled n.bit_or x e = found (Is x) (is_punctuator (codes "|") x) binary.BitOr None (λ e. e) (none (Is x)) e
operator_spelled n.land x e = found (Is x) (is_punctuator (codes "&&") x) binary.And None (λ e. e) (none (Is x)) e
operator_spelled n.lor x e = found (Is x) (is_punctuator (codes "||") x) binary.Or None (λ e. e) (none (Is x)) e

abbrev Assigns : Lexeme → AssignmentOperator → Type 0
Assigns x operator = is_punctuator (text_of_assignment operator) x ≡ true

assignment_spelled : (x : Lexeme) {operator : AssignmentOperator} → assignment_at x ≡ Some operator → is_punctuator (text_of_assignment operator) x ≡ true
assignment_spelled x e =
    found (Assigns x) (is_punctuator (codes "=") x) assign.Assign _ (λ e. e)
    (found (Assigns x) (is_punctuator (codes "*=") x) assign.Multiply _ (λ e. e)
    (found (Assigns x) (is_punctuator (codes "/=") x) assign.Divide _ (λ e. e)
    (found (Assigns x) (is_punctuator (codes "%=") x) assign.Remainder _ (λ e. e)
    (found (Assigns x) (is_punctuator (codes "+=") x) assign.Add _ (λ e. e)
    (found (Assigns x) (is_punctuator (codes "-=") x) assign.Subtract _ (λ e. e)
    (found (Assigns x) (is_punctuator (codes "<<=") x) assign.ShiftLeft _ (λ e. e)
    (found (Assigns x) (is_punctuator (codes ">>=") x) assign.ShiftRight _ (λ e. e)
    (found (Assigns x) (is_punctuator (codes "&=") x) assign.BitAnd _ (λ e. e)
    (found (Assigns x) (is_punctuator (codes "^=") x) assign.BitXor _ (λ e. e)
    (found (Assigns x) (is_punctuator (codes "|=") x) assign.BitOr None (λ e. e) (none (Assigns x)))))))))))) e

-- ---- lists: a comma before each part but the first

joined_expressions : {d : Dialect} {ts rest : List Lexeme} {all : Expressions} {from end : List Lexeme} (a : Expression) (others : List Spelled)
    → ReadsExpressions d ts all rest → Spells (spell a (comma ∷ spell_expressions all others)) from end → Spells (spell_expressions (t.expressions a all) others) from end
joined_expressions a others (r.last_expression p e) h = h
joined_expressions a others (r.more_expressions p e q) h = h

joined_enumerators : {d : Dialect} {ts rest : List Lexeme} {all : Enumerators} {from end : List Lexeme} (one : Enumerator) (others : List Spelled)
    → ReadsEnumerators d ts all rest → Spells (spell_enumerator one (comma ∷ spell_enumerators all others)) from end → Spells (spell_enumerators (t.enumerators one all) others) from end
joined_enumerators one others (r.last_enumerator p e) h = h
joined_enumerators one others (r.last_enumerator_comma p e f) h = h
joined_enumerators one others (r.more_enumerators p e f q) h = h

joined_declarators : {d : Dialect} {ts rest : List Lexeme} {all : Declarators} {from end : List Lexeme} (one : Declarator) (others : List Spelled)
    → ReadsDeclarators d ts all rest → Spells (spell_declarator one (comma ∷ spell_declarators all others)) from end → Spells (spell_declarators (t.declarators one all) others) from end
joined_declarators one others (r.last_declarator p e) h = h
joined_declarators one others (r.more_declarators p e q) h = h

joined_parameters : {d : Dialect} {ts rest : List Lexeme} {all : ParameterList} {from end : List Lexeme} (one : Parameter) (others : List Spelled)
    → ReadsParameterList d ts all rest → Spells (spell_parameter one (comma ∷ spell_parameter_list all others)) from end → Spells (spell_parameter_list (t.parameters one all) others) from end
joined_parameters one others (r.last_parameter p e) h = h
joined_parameters one others (r.more_parameters p e q) h = h

joined_initializers : {d : Dialect} {ts rest : List Lexeme} {all : Initializers} {from end : List Lexeme} (one : Initializer) (others : List Spelled)
    → ReadsInitializers d ts all rest → Spells (spell_initializer one (comma ∷ spell_initializers all others)) from end → Spells (spell_initializers (t.initializers one all) others) from end
joined_initializers one others (s.last_initializer p e) h = h
joined_initializers one others (s.last_initializer_comma p e f) h = h
joined_initializers one others (s.more_initializers p e f q) h = h

joined_init_declarators : {d : Dialect} {typedef : Bool} {ts rest : List Lexeme} {all : List InitDeclarator} {from end : List Lexeme} (one : InitDeclarator) (others : List Spelled)
    → ReadsInitDeclarators d typedef ts all rest → sees (codes ";") ts ≡ false
    → Spells (spell_init_declarator typedef one (comma ∷ spell_init_declarators typedef all others)) from end → Spells (spell_init_declarators typedef (one ∷ all) others) from end
joined_init_declarators one others (s.no_init_declarator e) f h = cc
joined_init_declarators one others (s.last_init_declarator p e) f h = h
joined_init_declarators one others (s.more_init_declarators p e g q) f h = h

-- ---- what was read, and then what is left

stars_spell : {before last : Span} {ts rest end : List Lexeme} {k : ℕ} {all : List Spelled} → ReadsStars before ts k last rest → Spells all rest end → Spells (spell_stars k all) ts end
stars_spell (r.star e p) h = token e (stars_spell p h)
stars_spell (r.no_star e) h = h

-- the tree before the rest of a repetition, and then what stands from here on
record Continues (a : Expression) (from ts : List Lexeme) : Type 0 where
  on : {all : List Spelled} {end : List Lexeme} → Spells all ts end → Spells (spell a all) from end

mutual
  pub spells : {d : Dialect} {m : Nonterminal} {ts rest end : List Lexeme} {a : Expression} {all : List Spelled} → takes m ≡ 1 → Reads d m ts a rest → Spells all rest end → Spells (spell a all) ts end
  spells g (r.comma_one p e) h = spells refl p h
  spells {all = others} g (r.comma {a = a} p e q) h = joined_expressions a others q (spells refl p (token e (expressions_spell q h)))
  spells g (r.assign_cond p e) h = spells refl p h
  spells g (r.assign {x = x} p e q) h = spells refl p (token (assignment_spelled x e) (spells refl q h))
  spells g (r.cond_level p e) h = spells refl p h
  spells g (r.cond p e q f v) h = spells refl p (token e (spells refl q (token f (spells refl v h))))
  spells g (r.level {k = k} p q) h = operations_spell q (record { on = λ {all} {end} v. spells (operand_takes k) p v }) h
  spells g (r.operation e p q) h = cc
  spells g (r.operations_end e) h = cc
  spells g (r.cast_unary e p) h = spells refl p h
  spells g (r.cast e f p v q) h = token e (type_name_spells p (token v (spells refl q h)))
  spells g (r.unary_postfix e p) h = spells refl p h
  spells g (r.prefix_step e p) h = token (step_spelled e) (spells refl p h)
  spells g (r.unary e p) h = token (unary_spelled e) (spells refl p h)
  spells g (r.postfix p q) h = suffixes_spell q (record { on = λ {all} {end} v. spells refl p v }) h
  spells g (r.index e p f q) h = cc
  spells g (r.member e f p) h = cc
  spells g (r.postfix_step e p) h = cc
  spells g (r.suffixes_end e) h = cc
  spells g (r.named e f) h = token (e, refl) h
  spells g (r.constant e) h = token e h
  spells g (r.character e) h = token e h
  spells g (r.parenthesized e f p v) h = token e (spells refl p (token v h))
  spells g (r.call_empty e f v) h = token (e, refl) (token f (token v h))
  spells g (r.call e f v p w) h = token (e, refl) (token f (expressions_spell p (token w h)))

  operations_spell : {d : Dialect} {k : Level} {b : Expression} {from ts rest end : List Lexeme} {a : Expression} {all : List Spelled}
      → Reads d (n.operations k b) ts a rest → Continues b from ts → Spells all rest end → Spells (spell a all) from end
  operations_spell (r.operation {k = k} {x = x} e p q) g h = operations_spell q (record { on = λ {all} {end} v. g.on (token (operator_spelled k x e) (spells (operand_takes k) p v)) }) h
  operations_spell (r.operations_end e) g h = g.on h

  suffixes_spell : {d : Dialect} {b : Expression} {from ts rest end : List Lexeme} {a : Expression} {all : List Spelled}
      → Reads d (n.suffixes b) ts a rest → Continues b from ts → Spells all rest end → Spells (spell a all) from end
  suffixes_spell (r.index e p f q) g h = suffixes_spell q (record { on = λ {all} {end} v. g.on (token e (spells refl p (token f v))) }) h
  suffixes_spell (r.member e f q) g h = suffixes_spell q (record { on = λ {all} {end} v. g.on (token e (token (f, refl) v)) }) h
  suffixes_spell (r.postfix_step e q) g h = suffixes_spell q (record { on = λ {all} {end} v. g.on (token (step_spelled e) v) }) h
  suffixes_spell (r.suffixes_end e) g h = g.on h

  pub expressions_spell : {d : Dialect} {ts rest end : List Lexeme} {parts : Expressions} {all : List Spelled} → ReadsExpressions d ts parts rest → Spells all rest end → Spells (spell_expressions parts all) ts end
  expressions_spell (r.last_expression p e) h = spells refl p h
  expressions_spell {all = others} (r.more_expressions {a = a} p e q) h = joined_expressions a others q (spells refl p (token e (expressions_spell q h)))

  pub type_name_spells : {d : Dialect} {ts rest end : List Lexeme} {one : TypeName} {all : List Spelled} → ReadsTypeName d ts one rest → Spells all rest end → Spells (spell_type_name one all) ts end
  type_name_spells (r.type_name p e q) h = specifiers_spell p (stars_spell q h)

  pub specifiers_spell : {d : Dialect} {has : Bool} {ts rest end : List Lexeme} {parts : Specifiers} {all : List Spelled} → ReadsSpecifiers d has ts parts rest → Spells all rest end → Spells (spell_specifiers parts all) ts end
  specifiers_spell (r.specifiers_end e) h = h
  specifiers_spell (r.word e p) h = token (word_spelled e) (specifiers_spell p h)
  specifiers_spell (r.typedef_name e p) h = token (e, refl) (specifiers_spell p h)
  specifiers_spell (r.structure_tag e f g p) h = token e (token (f, refl) (specifiers_spell p h))
  specifiers_spell (r.structure e f g p v q) h = token e (token (f, refl) (token g (members_spell p (token v (specifiers_spell q h)))))
  specifiers_spell (r.untagged_structure e g p v q) h = token e (token g (members_spell p (token v (specifiers_spell q h))))
  specifiers_spell (r.enumeration_tag e f g p) h = token e (token (f, refl) (specifiers_spell p h))
  specifiers_spell (r.enumeration e f g p v q) h = token e (token (f, refl) (token g (enumerators_spell p (token v (specifiers_spell q h)))))
  specifiers_spell (r.untagged_enumeration e g p v q) h = token e (token g (enumerators_spell p (token v (specifiers_spell q h))))

  members_spell : {d : Dialect} {ts rest end : List Lexeme} {parts : Members} {all : List Spelled} → ReadsMembers d ts parts rest → Spells all rest end → Spells (spell_members parts all) ts end
  members_spell (r.last_member p e) h = member_spells p h
  members_spell (r.more_members p e q) h = member_spells p (members_spell q h)

  pub member_spells : {d : Dialect} {ts rest end : List Lexeme} {one : StructMember} {all : List Spelled} → ReadsMember d ts one rest → Spells all rest end → Spells (spell_member one all) ts end
  member_spells (r.struct_member p e q f) h = specifiers_spell p (declarators_spell q (token f h))

  declarators_spell : {d : Dialect} {ts rest end : List Lexeme} {parts : Declarators} {all : List Spelled} → ReadsDeclarators d ts parts rest → Spells all rest end → Spells (spell_declarators parts all) ts end
  declarators_spell (r.last_declarator p e) h = declarator_spells p h
  declarators_spell {all = others} (r.more_declarators {d = one} p e q) h = joined_declarators one others q (declarator_spells p (token e (declarators_spell q h)))

  enumerators_spell : {d : Dialect} {ts rest end : List Lexeme} {parts : Enumerators} {all : List Spelled} → ReadsEnumerators d ts parts rest → Spells all rest end → Spells (spell_enumerators parts all) ts end
  enumerators_spell (r.last_enumerator p e) h = enumerator_spells p h
  enumerators_spell (r.last_enumerator_comma p e f) h = enumerator_spells p (last_comma e f h)
  enumerators_spell {all = others} (r.more_enumerators {e = one} p e f q) h = joined_enumerators one others q (enumerator_spells p (token e (enumerators_spell q h)))

  pub enumerator_spells : {d : Dialect} {ts rest end : List Lexeme} {one : Enumerator} {all : List Spelled} → ReadsEnumerator d ts one rest → Spells all rest end → Spells (spell_enumerator one all) ts end
  enumerator_spells (r.enumerator e f) h = token (e, refl) h
  enumerator_spells (r.valued_enumerator e f p) h = token (e, refl) (token f (spells refl p h))

  pub declarator_spells : {d : Dialect} {ts rest end : List Lexeme} {one : Declarator} {all : List Spelled} → ReadsDeclarator d ts one rest → Spells all rest end → Spells (spell_declarator one all) ts end
  declarator_spells (r.object p e f q) h = stars_spell p (token (e, refl) (lengths_spell q h))
  declarator_spells (r.function p e q) h = stars_spell p (token (e, refl) (parameters_spell q h))

  lengths_spell : {d : Dialect} {before last : Span} {ts rest end : List Lexeme} {parts : ArrayLengths} {all : List Spelled} → ReadsArrayLengths d before ts parts last rest → Spells all rest end → Spells (spell_lengths parts all) ts end
  lengths_spell (r.lengths_end e) h = h
  lengths_spell (r.absent_length e f p) h = token e (token f (lengths_spell p h))
  lengths_spell (r.given_length e f p g q) h = token e (spells refl p (token g (lengths_spell q h)))

  pub parameters_spell : {d : Dialect} {ts rest end : List Lexeme} {one : Parameters} {all : List Spelled} → ReadsParameters d ts one rest → Spells all rest end → Spells (spell_parameters one all) ts end
  parameters_spell (r.empty_parameters e f) h = token e (token f h)
  parameters_spell (r.void_parameters e f g) h = token e (token f (token g h))
  parameters_spell (r.listed_parameters e f g p v) h = token e (parameter_list_spells p (token v h))

  parameter_list_spells : {d : Dialect} {ts rest end : List Lexeme} {parts : ParameterList} {all : List Spelled} → ReadsParameterList d ts parts rest → Spells all rest end → Spells (spell_parameter_list parts all) ts end
  parameter_list_spells (r.last_parameter p e) h = parameter_spells p h
  parameter_list_spells {all = others} (r.more_parameters {p = one} p e q) h = joined_parameters one others q (parameter_spells p (token e (parameter_list_spells q h)))

  pub parameter_spells : {d : Dialect} {ts rest end : List Lexeme} {one : Parameter} {all : List Spelled} → ReadsParameter d ts one rest → Spells all rest end → Spells (spell_parameter one all) ts end
  parameter_spells (r.parameter p e q f v) h = specifiers_spell p (stars_spell q (token (f, refl) (lengths_spell v h)))
  parameter_spells (r.unnamed_parameter p e q f v) h = specifiers_spell p (stars_spell q (lengths_spell v h))

optional_spells : {d : Dialect} {stop : List ℕ} {ts rest end : List Lexeme} {one : Option Expression} {all : List Spelled} → ReadsOptional d stop ts one rest → Spells all rest end → Spells (spell_optional one all) ts end
optional_spells (s.no_expression e) h = h
optional_spells (s.an_expression e p) h = spells refl p h

test_spells : {d : Dialect} {ts rest end : List Lexeme} {one : Expression} {all : List Spelled} → ReadsTest d ts one rest → Spells all rest end → Spells (spell_test one all) ts end
test_spells (s.test e p f) h = token e (spells refl p (token f h))

mutual
  pub initializer_spells : {d : Dialect} {ts rest end : List Lexeme} {one : Initializer} {all : List Spelled} → ReadsInitializer d ts one rest → Spells all rest end → Spells (spell_initializer one all) ts end
  initializer_spells (s.single e p) h = spells refl p h
  initializer_spells (s.braced e p f) h = token e (initializers_spell p (token f h))

  initializers_spell : {d : Dialect} {ts rest end : List Lexeme} {parts : Initializers} {all : List Spelled} → ReadsInitializers d ts parts rest → Spells all rest end → Spells (spell_initializers parts all) ts end
  initializers_spell (s.last_initializer p e) h = initializer_spells p h
  initializers_spell (s.last_initializer_comma p e f) h = initializer_spells p (last_comma e f h)
  initializers_spell {all = others} (s.more_initializers {i = one} p e f q) h = joined_initializers one others q (initializer_spells p (token e (initializers_spell q h)))

force : {ts end : List Lexeme} {all : List Spelled} (typedef : Bool) (one : Declarator) → Spells all (s.after typedef one ts) end → Spells (spell_force typedef one all) ts end
force true one h = in_force h
force false one h = h

moved : {us ts end : List Lexeme} {all : List Spelled} → us ≡ ts → Spells all ts end → Spells all us end
moved {end = end} {all = all} e h = subst (λ vs. Spells all vs end) (sym e) h

init_declarator_spells : {d : Dialect} {typedef : Bool} {ts rest end : List Lexeme} {one : InitDeclarator} {all : List Spelled}
    → ReadsInitDeclarator d typedef ts one rest → Spells all rest end → Spells (spell_init_declarator typedef one all) ts end
init_declarator_spells {typedef = typedef} (s.bare {d = one} p e) h = declarator_spells p (force typedef one h)
init_declarator_spells {typedef = typedef} (s.initialized {d = one} p g e q) h = declarator_spells p (force typedef one (moved g (token e (initializer_spells q h))))

init_declarators_spell : {d : Dialect} {typedef : Bool} {ts rest end : List Lexeme} {parts : List InitDeclarator} {all : List Spelled}
    → ReadsInitDeclarators d typedef ts parts rest → Spells all rest end → Spells (spell_init_declarators typedef parts all) ts end
init_declarators_spell (s.no_init_declarator e) h = h
init_declarators_spell (s.last_init_declarator p e) h = init_declarator_spells p h
init_declarators_spell {all = others} (s.more_init_declarators {i = one} p e f q) h = joined_init_declarators one others q f (init_declarator_spells p (token e (init_declarators_spell q h)))

pub declaration_spells : {d : Dialect} {typedef : Bool} {allowed : Specifiers → Bool} {ts rest end : List Lexeme} {one : Declaration} {all : List Spelled}
    → ((words : Specifiers) → allowed words ≡ true → some_word is_typedef_word words ≡ typedef)
    → ReadsDeclaration d typedef allowed ts one rest → Spells all rest end → Spells (spell_declaration one all) ts end
declaration_spells {end = end} {all = others} tells (s.declaration {x = x} {ts = ts} {s = words} {all = parts} e p f q g) h =
    subst (λ b. Spells (spell_specifiers words (spell_init_declarators b parts (semicolon ∷ others))) (x ∷ ts) end) (sym (tells words f)) (specifiers_spell p (init_declarators_spell q (token g h)))

pub start_spells : {d : Dialect} {ts rest end : List Lexeme} {one : ForStart} {all : List Spelled} → ReadsForStart d ts one rest → Spells all rest end → Spells (spell_start one all) ts end
start_spells (s.starts_local p) h = declaration_spells type_typedef p h
start_spells (s.starts_expression e p f) h = optional_spells p (token f h)

mutual
  pub statement_spells : {d : Dialect} {ts rest end : List Lexeme} {one : Statement} {all : List Spelled} → ReadsStatement d ts one rest → Spells all rest end → Spells (spell_statement one all) ts end
  statement_spells (s.compound p) h = compound_spells p h
  statement_spells (s.null e) h = token e h
  statement_spells (s.expression_statement e f p g) h = spells refl p (token g h)
  statement_spells (s.if_only e p q f) h = token e (test_spells p (statement_spells q h))
  statement_spells (s.if_else e p q f v) h = token e (test_spells p (statement_spells q (token f (statement_spells v h))))
  statement_spells (s.switch e p q) h = token e (test_spells p (statement_spells q h))
  statement_spells (s.while e p q) h = token e (test_spells p (statement_spells q h))
  statement_spells (s.do_while e p f q g) h = token e (statement_spells p (token f (test_spells q (token g h))))
  statement_spells (s.for e f p q g v w u) h = token e (token f (start_spells p (optional_spells q (token g (optional_spells v (token w (statement_spells u h)))))))
  statement_spells (s.case_label e p f q) h = token e (spells refl p (token f (statement_spells q h)))
  statement_spells (s.default e f p) h = token e (token f (statement_spells p h))
  statement_spells (s.label e f p) h = token (e, refl) (token f (statement_spells p h))
  statement_spells (s.goto e f g) h = token e (token (f, refl) (token g h))
  statement_spells (s.continue e f) h = token e (token f h)
  statement_spells (s.break e f) h = token e (token f h)
  statement_spells (s.return e p f) h = token e (optional_spells p (token f h))

  compound_spells : {d : Dialect} {span : Span} {ts rest end : List Lexeme} {parts : BlockItems} {all : List Spelled}
      → ReadsCompound d ts parts span rest → Spells all rest end → Spells (left_brace ∷ spell_block parts (right_brace ∷ all)) ts end
  compound_spells (s.block e p f) h = token e (block_spells p (token f h))

  block_spells : {d : Dialect} {ts rest end : List Lexeme} {parts : BlockItems} {all : List Spelled} → ReadsBlockItems d ts parts rest → Spells all rest end → Spells (spell_block parts all) ts end
  block_spells (s.block_end e) h = h
  block_spells (s.local e p q) h = declaration_spells local_typedef p (block_spells q h)
  block_spells (s.statement e f p q) h = statement_spells p (block_spells q h)

pub item_spells : {d : Dialect} {ts rest end : List Lexeme} {one : Item} {all : List Spelled} → ReadsItem d ts one rest → Spells all rest end → Spells (spell_item one all) ts end
item_spells (i.declared {typedef = typedef} p) h = declaration_spells (item_typedef typedef) p h
item_spells (i.defined p e q f v w) h = specifiers_spell p (stars_spell q (token (f, refl) (parameters_spell v (compound_spells w h))))

pub unit_spells : {d : Dialect} {ts : List Lexeme} {unit : List Item} → ReadsUnit d ts unit → Spells (spell_unit unit) ts []
unit_spells i.no_items = nothing
unit_spells (i.item p q) = item_spells p (unit_spells q)
