-- What the grammar reads of expressions, specifiers and declarators, the readers give where there is room for its height.
use Rattle.std.proofs.Common.{◌≡◌, ℕ, zero, suc, ◌+◌, ◌<◌, ◌≤◌, Bool, true, false, ◌||◌, List, [], ◌∷◌, length, Some, refl, ◌∙◌, arith, codes}
use Rattle.mc_lex.specs.declared.token.Dialect.{Dialect}
use Rattle.mc_span.specs.declared.span.Span.{Span}
use Rattle.mc_tree.specs.Tree.{Expression, Expressions, TypeName, Specifiers, StructMember, Members, Enumerator, Enumerators, Declarator, Declarators, ArrayLengths, Parameters, Parameter, ParameterList}
use Rattle.mc_tree.specs.Height.{height, tallest, height_type, height_specifiers, height_member, height_members, height_enumerator, height_enumerators, height_declarator, height_declarators, height_lengths, height_parameters, height_parameter, height_parameter_list}
use Rattle.mc_grammar.specs.Words.{Lexeme, is_keyword, is_type_name, is_specifier_word, sees_cast, sees_specifiers, go_on}
use Rattle.mc_grammar.specs.Counts.{for_type}
use Rattle.mc_grammar.specs.Nonterminal.{Nonterminal, Level, operand}
use Rattle.mc_grammar.specs.Nonterminal as n
use Rattle.mc_tree.specs.declared.expressions.assignment_operator.AssignmentOperator.{AssignmentOperator}
use Rattle.mc_grammar.specs.Operators.{assignment_at}
use Rattle.mc_grammar.specs.Expressions.{Reads, ReadsExpressions, ReadsTypeName, ReadsSpecifiers, ReadsMembers, ReadsMember, ReadsDeclarators, ReadsEnumerators, ReadsEnumerator, ReadsDeclarator, ReadsArrayLengths, ReadsParameters, ReadsParameterList, ReadsParameter}
use Rattle.mc_grammar.specs.Expressions as r
use Rattle.laws_grammar.specs.Lists.{comma_list, braced_list, some_list}
use Rattle.laws_grammar.specs.Expressions.{suffixes_loop, type_name_of, unary_of, operations_loop, cond_of, expression_by, expression_of}
use Rattle.laws_grammar.specs.Specifiers.{parameter_of, parameters_of, declarator_of, struct_member_of, enumerator_of, specifiers_loop}
use Rattle.laws_grammar.specs.Rooms.{reading}
use Rattle.laws_grammar.proofs.Known.{word, step_is, step_suffix, unary_is, word_is, typed, assigns, assigns_no_question, index_suffix, member_suffix}
use Rattle.mc_grammar.proofs.Lengths.{shorter, members_shorter, member_shorter, declarator_shorter, enumerators_shorter, enumerator_shorter, parameter_shorter}
use Rattle.laws_grammar.proofs.TreeLists.{expressions_in, expressions_back, specifiers_in, specifiers_back, members_in, members_back, enumerators_in, enumerators_back, declarators_in, declarators_back, lengths_in, lengths_back, parameters_in, parameters_back}
use Rattle.laws_grammar.proofs.CompleteLists.{Adds, all_of, one_turn, later, comma_last, comma_more, braced_last, braced_last_comma, braced_more, some_last, some_more}
use Rattle.laws_grammar.proofs.Unary.{unary_tree, unary_begins, parameters_begin}
use Rattle.laws_grammar.proofs.Grows.{height_pos, operations_grow, suffixes_grow}
use Rattle.laws_grammar.proofs.ExpressionSteps as step
use Rattle.laws_grammar.proofs.ExpressionSteps.{complete_stars}
use Rattle.laws_grammar.proofs.SpecifierSteps as part
use Rattle.laws_grammar.proofs.SpecifierSteps.{AddsLengths, all_lengths}

-- what the reader gives: after a tree so far, with a turn more than there are tokens
abbrev pub Given : Nonterminal → ℕ → List Lexeme → Expression → List Lexeme → Type 0
Given (n.operations k b) room ts a rest = (turns : ℕ) → length ts < turns → operations_loop turns (reading room) room k b ts ≡ Some (a, rest)
Given (n.suffixes b) room ts a rest = (turns : ℕ) → length ts < turns → suffixes_loop turns (reading room) room b ts ≡ Some (a, rest)
Given m room ts a rest = expression_by (reading room) room m ts ≡ Some (a, rest)

whole : (m : Nonterminal) (room : ℕ) (ts : List Lexeme) (a : Expression) (rest : List Lexeme) → Given m room ts a rest → expression_by (reading room) room m ts ≡ Some (a, rest)
whole n.comma room ts a rest h = h
whole n.assign room ts a rest h = h
whole n.cond room ts a rest h = h
whole n.cast room ts a rest h = h
whole n.unary room ts a rest h = h
whole n.postfix room ts a rest h = h
whole n.primary room ts a rest h = h
whole (n.level k) room ts a rest h = h
whole (n.operations k b) room ts a rest h = h (length ts + 1) (omega arith)
whole (n.suffixes b) room ts a rest h = h (length ts + 1) (omega arith)

-- what is read with room for its height is read as a part, too
pub inside : (m : Nonterminal) (ts rest : List Lexeme) (a : Expression) → ((room : ℕ) → height a ≤ room → Given m room ts a rest) → (levels : ℕ) → height a < levels → (reading levels).expression m ts ≡ Some (a, rest)
unfolding reading expression_of
inside m ts rest a f zero h = absurd (omega (arith, h))
inside m ts rest a f (suc zero) h = absurd (omega (arith, h, height_pos a))
inside m ts rest a f (suc (suc room)) h = whole m (suc room) ts a rest (f (suc room) (omega arith))

pub inside_specifiers : (test : Specifiers → Bool) (ts rest : List Lexeme) (all : Specifiers) → test all ≡ true
    → ((room : ℕ) → height_specifiers all ≤ room → Adds (λ turns. specifiers_loop turns (reading room) room false) ts (specifiers_in all) rest) → (levels : ℕ) → height_specifiers all < levels
    → (reading levels).specifiers test ts ≡ Some (all, rest)
unfolding reading
inside_specifiers test ts rest all e f zero h = absurd (omega (arith, h))
inside_specifiers test ts rest all e f (suc room) h = part.specifiers_tested (reading room) room test ts rest (specifiers_in all) all (all_of (f room (omega arith))) (specifiers_back all) e

has_type : (has : Bool) → (has || true) ≡ true
has_type true = refl
has_type false = refl

goes_on : (has : Bool) (x : Lexeme) (ts : List Lexeme) → is_specifier_word x ≡ true → go_on has (x ∷ ts) ≡ true
goes_on has x ts e = rw e refl

-- a type name goes on where there is no type yet
names_on : (x : Lexeme) (ts : List Lexeme) → is_type_name x ≡ true → go_on false (x ∷ ts) ≡ true
names_on x ts e = let k = typed x e in rw (k.0, k.1) refl

struct_on : (has : Bool) (x : Lexeme) (ts : List Lexeme) → is_keyword (codes "struct") x ≡ true → go_on has (x ∷ ts) ≡ true
struct_on has x ts e = let w = word (codes "struct") x e in rw (w.kind_is, w.text_is) refl

enum_on : (has : Bool) (x : Lexeme) (ts : List Lexeme) → is_keyword (codes "enum") x ≡ true → go_on has (x ∷ ts) ≡ true
enum_on has x ts e = let w = word (codes "enum") x e in rw (w.kind_is, w.text_is) refl

-- before an assignment operator a `unary` is all of a `cond`
unary_up : (room : ℕ) (ts mid : List Lexeme) (x : Lexeme) (a : Expression) {operator : AssignmentOperator} → sees_cast ts ≡ false → assignment_at x ≡ Some operator → unary_of (reading room) room ts ≡ Some (a, x ∷ mid)
    → cond_of (reading room) room ts ≡ Some (a, x ∷ mid)
unary_up room ts mid x a e f h =
    step.cond_level (reading room) room ts (x ∷ mid) a (step.level_alone (reading room) room n.lor ts (x ∷ mid) a (λ k. assigns k x f) (step.cast_none (reading room) room ts (x ∷ mid) a e h)) (assigns_no_question x f)

mutual
  pub complete : {d : Dialect} {m : Nonterminal} {ts rest : List Lexeme} {a : Expression} → Reads d m ts a rest → (room : ℕ) → height a ≤ room → Given m room ts a rest
  complete (r.comma_one p g) room h = step.comma_one (reading room) room _ _ _ (complete p room h) g
  complete (r.comma {mid = mid} {a = a} {all = all} p g q) room h =
      step.comma_made (reading room) room _ _ _ _ _ _ _ (omega arith) (complete p room (omega arith)) g ((complete_expressions q room (omega arith)).adds (length mid + 1) (omega arith) (a ∷ [])) (expressions_back all)
  complete (r.assign_cond p g) room h = step.assign_cond (reading room) room _ _ _ (complete p room h) g
  complete (r.assign {x = x} {ts = ts} {mid = mid} {a = a} p g q) room h =
      step.assign_made (reading room) room _ _ _ _ _ _ _ (omega arith) (unary_up room ts mid x a (unary_begins p) g (complete p room (omega arith))) (unary_tree p) g (inside n.assign _ _ _ (complete q) room (omega arith))
  complete (r.cond_level p g) room h = step.cond_level (reading room) room _ _ _ (complete p room h) g
  complete (r.cond p g q f v) room h =
      step.cond_made (reading room) room _ _ _ _ _ _ _ _ _ (omega arith) (complete p room (omega arith)) g (inside n.comma _ _ _ (complete q) room (omega arith)) f (inside n.cond _ _ _ (complete v) room (omega arith))
  complete (r.level {k = k} {ts = ts} {mid = mid} {a = a} p q) room h =
      step.level_made (reading room) room k _ _ _ _ _ (whole (operand k) room ts a mid (complete p room (omega (arith, operations_grow q)))) (complete q room h (length mid + 1) (omega arith))
  complete (r.operation {k = k} {x = x} {ts = ts} {mid = mid} g p q) room h =
      later _ (length mid) (length (x ∷ ts)) (omega (arith, shorter p))
      (λ turns low. step.operations_turn (reading room) room turns k x _ _ _ _ _ (omega (arith, operations_grow q)) g (inside (operand k) _ _ _ (complete p) room (omega (arith, operations_grow q))) ∙ complete q room h turns low)
  complete (r.operations_end {k = k} {ts = ts} {a = a} g) room h = one_turn _ (length ts) (λ turns. step.operations_end (reading room) room turns k ts a g)
  complete (r.cast_unary g p) room h = step.cast_none (reading room) room _ _ _ g (complete p room h)
  complete (r.cast g f p i q) room h = step.cast_made (reading room) room _ _ _ _ _ _ _ g f (complete_type_name p room (omega arith)) i (inside n.cast _ _ _ (complete q) room (omega arith))
  complete (r.unary_postfix g p) room h = step.unary_postfix (reading room) room _ _ _ g (complete p room h)
  complete (r.prefix_step g p) room h = step.unary_step (reading room) room _ _ _ _ _ (step_is g) (inside n.unary _ _ _ (complete p) room (omega arith))
  complete (r.unary g p) room h = step.unary_operator (reading room) room _ _ _ _ _ (unary_is g).1 (unary_is g).2 (inside n.cast _ _ _ (complete p) room (omega arith))
  complete (r.postfix {mid = mid} p q) room h = step.postfix_made (reading room) room _ _ _ _ _ (complete p room (omega (arith, suffixes_grow q))) (complete q room h (length mid + 1) (omega arith))
  complete (r.index {x = x} {ts = ts} {mid = mid} g p f q) room h =
      later _ (length mid) (length (x ∷ ts)) (omega (arith, shorter p))
      (λ turns low. step.suffixes_turn (reading room) room turns x _ _ _ _ (index_suffix x g) (step.suffix_index (reading room) room _ _ _ _ _ _ (omega (arith, suffixes_grow q)) g (inside n.comma _ _ _ (complete p) room (omega (arith, suffixes_grow q))) f) ∙ complete q room h turns low)
  complete (r.member {x = x} {y = y} {ts = ts} g f q) room h =
      later _ (length ts) (length (x ∷ y ∷ ts)) (omega arith)
      (λ turns low. step.suffixes_turn (reading room) room turns x _ _ _ _ (member_suffix x g).0 (step.suffix_member (reading room) room _ _ _ _ (omega (arith, suffixes_grow q)) g f) ∙ complete q room h turns low)
  complete (r.postfix_step {x = x} {ts = ts} g q) room h =
      later _ (length ts) (length (x ∷ ts)) (omega arith)
      (λ turns low. step.suffixes_turn (reading room) room turns x _ _ _ _ (step_suffix g).0 (step.suffix_step (reading room) room _ _ _ _ (omega (arith, suffixes_grow q)) (step_suffix g).1 (step_suffix g).2 (step_is g)) ∙ complete q room h turns low)
  complete (r.suffixes_end {ts = ts} {a = a} g) room h = one_turn _ (length ts) (λ turns. step.suffixes_end (reading room) room turns ts a g)
  complete (r.named g f) room h = step.primary_named (reading room) _ _ g f
  complete (r.constant g) room h = step.primary_constant (reading room) _ _ _ _ _ _ g
  complete (r.character g) room h = step.primary_character (reading room) _ _ _ g
  complete (r.parenthesized g f p i) room h = step.primary_parenthesized (reading room) _ _ _ _ _ g f (inside n.comma _ _ _ (complete p) room (omega arith)) i
  complete (r.call_empty g f i) room h = step.primary_call_empty (reading room) _ _ _ _ g f i
  complete (r.call {all = all} g f i p j) room h = step.primary_call (reading room) _ _ _ _ _ _ _ g f i (all_of (complete_expressions p room (omega arith))) (expressions_back all) j

  pub complete_expressions : {d : Dialect} {ts rest : List Lexeme} {all : Expressions} → ReadsExpressions d ts all rest → (room : ℕ) → tallest all < room
      → Adds (λ turns. comma_list turns ((reading room).expression n.assign)) ts (expressions_in all) rest
  complete_expressions (r.last_expression p g) room h = comma_last _ (inside n.assign _ _ _ (complete p) room (omega arith)) g
  complete_expressions (r.more_expressions p g q) room h =
      comma_more _ (inside n.assign _ _ _ (complete p) room (omega arith)) g (omega (arith, shorter p)) (complete_expressions q room (omega arith))

  pub complete_type_name : {d : Dialect} {ts rest : List Lexeme} {type : TypeName} → ReadsTypeName d ts type rest → (room : ℕ) → height_type type < room → type_name_of (reading room) ts ≡ Some (type, rest)
  complete_type_name (r.type_name p g q) room h = step.type_name_made (reading room) _ _ _ _ _ _ _ (inside_specifiers for_type _ _ _ g (complete_specifiers p) room h) (complete_stars q)

  pub complete_specifiers : {d : Dialect} {has : Bool} {ts rest : List Lexeme} {all : Specifiers} → ReadsSpecifiers d has ts all rest → (room : ℕ) → height_specifiers all ≤ room
      → Adds (λ turns. specifiers_loop turns (reading room) room has) ts (specifiers_in all) rest
  complete_specifiers (r.specifiers_end g) room h = part.no_specifiers (reading room) room _ g
  complete_specifiers (r.word {has_type = has} {x = x} {ts = ts} g p) room h =
      part.more_specifiers (reading room) room has _ (goes_on has x ts (word_is g).0) (part.specifier_word (reading room) room x ts _ (word_is g).1) refl (omega arith) (complete_specifiers p room (omega arith))
  complete_specifiers (r.typedef_name {x = x} {ts = ts} g p) room h =
      part.more_specifiers (reading room) room false true (names_on x ts g) (part.specifier_typedef (reading room) room x ts g) refl (omega arith) (complete_specifiers p room (omega arith))
  complete_specifiers (r.structure_tag {has_type = has} {x = x} {y = y} {ts = ts} g f i p) room h =
      part.more_specifiers (reading room) room has true (struct_on has x (y ∷ ts) g) (part.structure_tag (reading room) room x y ts g f i) (has_type has) (omega arith) (complete_specifiers p room (omega arith))
  complete_specifiers (r.structure {has_type = has} {x = x} {y = y} {z = z} {v = v} {ts = ts} {mid = mid} {ms = ms} g f i p j q) room h =
      part.more_specifiers (reading room) room has true (struct_on has x (y ∷ z ∷ ts) g)
      (part.structure_made (reading room) room x y z v ts mid (members_in ms) ms (omega arith) g f i (all_of (complete_members p room (omega arith))) (members_back ms) j) (has_type has)
      (omega (arith, members_shorter p)) (complete_specifiers q room (omega arith))
  complete_specifiers (r.untagged_structure {has_type = has} {x = x} {z = z} {v = v} {ts = ts} {mid = mid} {ms = ms} g i p j q) room h =
      part.more_specifiers (reading room) room has true (struct_on has x (z ∷ ts) g)
      (part.untagged_structure (reading room) room x z v ts mid (members_in ms) ms (omega arith) g i (all_of (complete_members p room (omega arith))) (members_back ms) j) (has_type has)
      (omega (arith, members_shorter p)) (complete_specifiers q room (omega arith))
  complete_specifiers (r.enumeration_tag {has_type = has} {x = x} {y = y} {ts = ts} g f i p) room h =
      part.more_specifiers (reading room) room has true (enum_on has x (y ∷ ts) g) (part.enumeration_tag (reading room) room x y ts g f i) (has_type has) (omega arith) (complete_specifiers p room (omega arith))
  complete_specifiers (r.enumeration {has_type = has} {x = x} {y = y} {z = z} {v = v} {ts = ts} {mid = mid} {es = es} g f i p j q) room h =
      part.more_specifiers (reading room) room has true (enum_on has x (y ∷ z ∷ ts) g)
      (part.enumeration_made (reading room) room x y z v ts mid (enumerators_in es) es (omega arith) g f i (all_of (complete_enumerators p room (omega arith))) (enumerators_back es) j) (has_type has)
      (omega (arith, enumerators_shorter p)) (complete_specifiers q room (omega arith))
  complete_specifiers (r.untagged_enumeration {has_type = has} {x = x} {z = z} {v = v} {ts = ts} {mid = mid} {es = es} g i p j q) room h =
      part.more_specifiers (reading room) room has true (enum_on has x (z ∷ ts) g)
      (part.untagged_enumeration (reading room) room x z v ts mid (enumerators_in es) es (omega arith) g i (all_of (complete_enumerators p room (omega arith))) (enumerators_back es) j) (has_type has)
      (omega (arith, enumerators_shorter p)) (complete_specifiers q room (omega arith))

  pub complete_members : {d : Dialect} {ts rest : List Lexeme} {all : Members} → ReadsMembers d ts all rest → (room : ℕ) → height_members all < room
      → Adds (λ turns. some_list turns sees_specifiers (struct_member_of (reading room))) ts (members_in all) rest
  complete_members (r.last_member p g) room h = some_last _ sees_specifiers (complete_member p room (omega arith)) g
  complete_members (r.more_members p g q) room h = some_more _ sees_specifiers (complete_member p room (omega arith)) g (member_shorter p) (complete_members q room (omega arith))

  pub complete_member : {d : Dialect} {ts rest : List Lexeme} {one : StructMember} → ReadsMember d ts one rest → (room : ℕ) → height_member one < room → struct_member_of (reading room) ts ≡ Some (one, rest)
  complete_member (r.struct_member {ds = ds} p g q f) room h =
      part.member_made (reading room) _ _ _ _ _ _ _ _ (inside_specifiers for_type _ _ _ g (complete_specifiers p) room (omega arith)) (all_of (complete_declarators q room (omega arith))) (declarators_back ds) f

  pub complete_declarators : {d : Dialect} {ts rest : List Lexeme} {all : Declarators} → ReadsDeclarators d ts all rest → (room : ℕ) → height_declarators all < room
      → Adds (λ turns. comma_list turns (declarator_of (reading room))) ts (declarators_in all) rest
  complete_declarators (r.last_declarator p g) room h = comma_last _ (complete_declarator p room (omega arith)) g
  complete_declarators (r.more_declarators p g q) room h = comma_more _ (complete_declarator p room (omega arith)) g (omega (arith, declarator_shorter p)) (complete_declarators q room (omega arith))

  pub complete_enumerators : {d : Dialect} {ts rest : List Lexeme} {all : Enumerators} → ReadsEnumerators d ts all rest → (room : ℕ) → height_enumerators all < room
      → Adds (λ turns. braced_list turns (enumerator_of (reading room))) ts (enumerators_in all) rest
  complete_enumerators (r.last_enumerator p g) room h = braced_last _ (complete_enumerator p room (omega arith)) g
  complete_enumerators (r.last_enumerator_comma p g f) room h = braced_last_comma _ (complete_enumerator p room (omega arith)) g f
  complete_enumerators (r.more_enumerators p g f q) room h = braced_more _ (complete_enumerator p room (omega arith)) g f (omega (arith, enumerator_shorter p)) (complete_enumerators q room (omega arith))

  pub complete_enumerator : {d : Dialect} {ts rest : List Lexeme} {one : Enumerator} → ReadsEnumerator d ts one rest → (room : ℕ) → height_enumerator one < room → enumerator_of (reading room) ts ≡ Some (one, rest)
  complete_enumerator (r.enumerator g f) room h = part.enumerator_alone (reading room) _ _ g f
  complete_enumerator (r.valued_enumerator g f p) room h = part.enumerator_valued (reading room) _ _ _ _ _ g f (inside n.cond _ _ _ (complete p) room h)

  pub complete_declarator : {d : Dialect} {ts rest : List Lexeme} {one : Declarator} → ReadsDeclarator d ts one rest → (room : ℕ) → height_declarator one < room → declarator_of (reading room) ts ≡ Some (one, rest)
  complete_declarator (r.object {lengths = lengths} p g f q) room h =
      part.declarator_object (reading room) _ _ _ _ _ _ _ _ _ _ (complete_stars p) g f (all_lengths (reading room) (complete_lengths q room h)) (lengths_back lengths)
  complete_declarator (r.function p g q) room h = part.declarator_function (reading room) _ _ _ _ _ _ _ _ (complete_stars p) g (parameters_begin q) (complete_parameters q room h)

  pub complete_lengths : {d : Dialect} {start end : Span} {ts rest : List Lexeme} {all : ArrayLengths} → ReadsArrayLengths d start ts all end rest → (room : ℕ) → height_lengths all < room
      → AddsLengths (reading room) start ts (lengths_in all) end rest
  complete_lengths (r.lengths_end g) room h = part.no_lengths (reading room) g
  complete_lengths (r.absent_length g f p) room h = part.absent_length (reading room) g f (complete_lengths p room h)
  complete_lengths (r.given_length g f p i q) room h =
      part.given_length (reading room) g f (inside n.cond _ _ _ (complete p) room (omega arith)) i (omega (arith, shorter p)) (complete_lengths q room (omega arith))

  pub complete_parameters : {d : Dialect} {ts rest : List Lexeme} {all : Parameters} → ReadsParameters d ts all rest → (room : ℕ) → height_parameters all < room → parameters_of (reading room) ts ≡ Some (all, rest)
  complete_parameters (r.empty_parameters g f) room h = part.parameters_empty (reading room) _ _ _ g f
  complete_parameters (r.void_parameters g f i) room h = part.parameters_void (reading room) _ _ _ _ g f i
  complete_parameters (r.listed_parameters {ps = ps} g f i p j) room h = part.parameters_listed (reading room) _ _ _ _ _ _ g f i (all_of (complete_parameter_list p room h)) (parameters_back ps) j

  pub complete_parameter_list : {d : Dialect} {ts rest : List Lexeme} {all : ParameterList} → ReadsParameterList d ts all rest → (room : ℕ) → height_parameter_list all < room
      → Adds (λ turns. comma_list turns (parameter_of (reading room))) ts (parameters_in all) rest
  complete_parameter_list (r.last_parameter p g) room h = comma_last _ (complete_parameter p room (omega arith)) g
  complete_parameter_list (r.more_parameters p g q) room h = comma_more _ (complete_parameter p room (omega arith)) g (omega (arith, parameter_shorter p)) (complete_parameter_list q room (omega arith))

  pub complete_parameter : {d : Dialect} {ts rest : List Lexeme} {one : Parameter} → ReadsParameter d ts one rest → (room : ℕ) → height_parameter one < room → parameter_of (reading room) ts ≡ Some (one, rest)
  complete_parameter (r.parameter {lengths = lengths} p g q f v) room h =
      part.parameter_named (reading room) _ _ _ _ _ _ _ _ _ _ _ _ (inside_specifiers for_type _ _ _ g (complete_specifiers p) room (omega arith)) (complete_stars q) f (all_lengths (reading room) (complete_lengths v room (omega arith))) (lengths_back lengths)
  complete_parameter (r.unnamed_parameter {lengths = lengths} p g q f v) room h =
      part.parameter_unnamed (reading room) _ _ _ _ _ _ _ _ _ _ _ (inside_specifiers for_type _ _ _ g (complete_specifiers p) room (omega arith)) (complete_stars q) f (all_lengths (reading room) (complete_lengths v room (omega arith))) (lengths_back lengths)

pub complete_whole : {d : Dialect} {m : Nonterminal} {ts rest : List Lexeme} {a : Expression} → Reads d m ts a rest → (room : ℕ) → height a ≤ room → expression_by (reading room) room m ts ≡ Some (a, rest)
complete_whole {m = m} {ts = ts} {rest = rest} {a = a} p room h = whole m room ts a rest (complete p room h)

-- an expression with room for its height
pub complete_expression : {d : Dialect} {m : Nonterminal} {ts rest : List Lexeme} {a : Expression} → Reads d m ts a rest → (levels : ℕ) → height a < levels → (reading levels).expression m ts ≡ Some (a, rest)
complete_expression {m = m} {ts = ts} {rest = rest} {a = a} p levels h = inside m ts rest a (complete p) levels h

-- specifiers that meet a test, with room for their height
pub complete_tested : {d : Dialect} {ts rest : List Lexeme} {all : Specifiers} → ReadsSpecifiers d false ts all rest → (test : Specifiers → Bool) → test all ≡ true → (levels : ℕ) → height_specifiers all < levels
    → (reading levels).specifiers test ts ≡ Some (all, rest)
complete_tested {ts = ts} {rest = rest} {all = all} p test e levels h = inside_specifiers test ts rest all e (complete_specifiers p) levels h
