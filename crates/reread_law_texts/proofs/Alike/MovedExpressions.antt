-- What is read of an expression and of a declarator is read of the moved tokens: one case for each
-- alternative of a production.
use Rattle.std.proofs.Common.{◌≡◌, ℕ, Bool, false, ◌&&◌, List, ap, subst, ◌∙◌, codes}
use Rattle.mc_lex.specs.declared.token.Dialect.{Dialect}
use Rattle.mc_span.specs.declared.span.Span.{Span}
use Rattle.mc_tree.specs.Tree.{Expression, Expressions, TypeName, Specifiers, StructMember, Members, Enumerator, Enumerators, Declarator, Declarators, ArrayLengths, Parameters, Parameter, ParameterList}
use Rattle.mc_grammar.specs.Words.{Lexeme}
use Rattle.mc_grammar.specs.Nonterminal.{Nonterminal, Level, operand}
use Rattle.mc_grammar.specs.Operators.{sees_assignment}
use Rattle.mc_grammar.specs.Expressions.{is_unary, Reads, ReadsExpressions, ReadsTypeName, ReadsStars, ReadsSpecifiers, ReadsMembers, ReadsMember, ReadsDeclarators, ReadsEnumerators, ReadsEnumerator, ReadsDeclarator, ReadsArrayLengths, ReadsParameters, ReadsParameterList, ReadsParameter}
use Rattle.mc_grammar.specs.Expressions as r
use Rattle.mc_grammar.proofs.Ends.{stars_ends, expression_ends, expressions_ends, type_name_ends, specifiers_ends, members_ends, member_ends, declarators_ends, enumerators_ends, enumerator_ends, declarator_ends, parameter_list_ends, parameter_ends}
use Rattle.reread_law_texts.specs.alike.Moves.{Move, moved_span, moved_lexemes}
use Rattle.reread_law_texts.specs.alike.Trees.{moved, moved_expressions, moved_type_name, moved_specifiers, moved_member, moved_members, moved_enumerator, moved_enumerators, moved_declarator, moved_declarators, moved_lengths, moved_parameters, moved_parameter, moved_parameter_list, moved_nonterminal}
use Rattle.reread_law_texts.proofs.Alike.Fitting.{Fit, end_fits}
use Rattle.reread_law_texts.proofs.Alike.Tests.{seen, specifiers_seen, name_seen, prefix_seen, suffix_seen, cast_seen, void_seen, goes_on, assignments_kept, operator_kept, operator_seen, step_moves, unary_moves, word_moves}
use Rattle.reread_law_texts.proofs.Alike.Spans.{start_kept, end_kept, parameters_end_kept, list_end_kept, at_kept, words_kept, unary_kept, operand_kept, for_type_kept}

-- an operand of a level is no rest of a repetition
as_operand : {d : Dialect} (m : Move) (k : Level) {ts rest : List Lexeme} {a : Expression} → Reads d (moved_nonterminal m (operand k)) ts a rest → Reads d (operand k) ts a rest
as_operand {d = d} m k {ts = ts} {rest = rest} {a = a} p = subst (λ part. Reads d part ts a rest) (operand_kept m k) p

not_assigned : (m : Move) (rest : List Lexeme) (a : Expression) → (sees_assignment rest && is_unary a) ≡ false → (sees_assignment (moved_lexemes m rest) && is_unary (moved m a)) ≡ false
not_assigned m rest a e = ap (λ b. b && is_unary (moved m a)) (assignments_kept m rest) ∙ (ap (λ b. sees_assignment rest && b) (unary_kept m a) ∙ e)

-- the same place, written in another way
pub stars_from : {place other end : Span} {ts rest : List Lexeme} {k : ℕ} → place ≡ other → ReadsStars place ts k end rest → ReadsStars other ts k end rest
stars_from {end = end} {ts = ts} {rest = rest} {k = k} e p = subst (λ place. ReadsStars place ts k end rest) e p

lengths_from : {d : Dialect} {place other end : Span} {ts rest : List Lexeme} {all : ArrayLengths} → place ≡ other → ReadsArrayLengths d place ts all end rest → ReadsArrayLengths d other ts all end rest
lengths_from {d = d} {end = end} {ts = ts} {rest = rest} {all = all} e p = subst (λ place. ReadsArrayLengths d place ts all end rest) e p

pub stars_move : (m : Move) {before end : Span} {ts rest : List Lexeme} {k : ℕ} → ReadsStars before ts k end rest → Fit m ts
    → ReadsStars (moved_span m before) (moved_lexemes m ts) k (moved_span m end) (moved_lexemes m rest)
stars_move m (r.star {x = x} e p) h = r.star e (stars_from (at_kept m x h.0) (stars_move m p h.1))
stars_move m (r.no_star {ts = ts} e) h = r.no_star (seen m (codes "*") ts e)

mutual
  pub moves : {d : Dialect} (to : Dialect) (m : Move) {k : Nonterminal} {ts rest : List Lexeme} {a : Expression} → Reads d k ts a rest → Fit m ts
      → Reads to (moved_nonterminal m k) (moved_lexemes m ts) (moved m a) (moved_lexemes m rest)
  moves to m (r.comma_one {rest = rest} p e) h = r.comma_one (moves to m p h) (seen m (codes ",") rest e)
  moves to m (r.comma {a = a} {all = all} p e q) h =
      rw (start_kept m a, list_end_kept m a all) (r.comma (moves to m p h) e (expressions_move to m q (end_fits m (expression_ends p) h).1))
  moves to m (r.assign_cond {rest = rest} {a = a} p e) h = r.assign_cond (moves to m p h) (not_assigned m rest a e)
  moves to m (r.assign {a = a} {b = b} p e q) h =
      rw (start_kept m a, end_kept m b) (r.assign (moves to m p h) e (moves to m q (end_fits m (expression_ends p) h).1))
  moves to m (r.cond_level {rest = rest} p e) h = r.cond_level (moves to m p h) (seen m (codes "?") rest e)
  moves to m (r.cond {a = a} {c = c} p e q f v) h =
      let h2 = (end_fits m (expression_ends p) h).1 in
      let h3 = (end_fits m (expression_ends q) h2).1 in
      rw (start_kept m a, end_kept m c) (r.cond (moves to m p h) e (moves to m q h2) f (moves to m v h3))
  moves to m (r.level {k = k} p q) h = r.level (as_operand m k (moves to m p h)) (moves to m q (end_fits m (expression_ends p) h))
  moves to m (r.operation {k = k} {x = x} {a = a} {b = b} e p q) h =
      r.operation (operator_kept m k x ∙ e) (as_operand m k (moves to m p h.1))
      (rw (start_kept m a, end_kept m b) at (moves to m q (end_fits m (expression_ends p) h.1)))
  moves to m (r.operations_end {k = k} {ts = ts} e) h = r.operations_end (operator_seen m k ts e)
  moves to m (r.cast_unary {ts = ts} e p) h = r.cast_unary (cast_seen m ts e) (moves to m p h)
  moves to m (r.cast {ts = ts} {a = a} e f p v q) h =
      rw (end_kept m a) (r.cast e (specifiers_seen m ts f) (type_name_moves to m p h.1) v (moves to m q (end_fits m (type_name_ends p) h.1).1))
  moves to m (r.unary_postfix {ts = ts} e p) h = r.unary_postfix (prefix_seen m ts e) (moves to m p h)
  moves to m (r.prefix_step {a = a} e p) h = rw (end_kept m a) (r.prefix_step (step_moves m e) (moves to m p h.1))
  moves to m (r.unary {a = a} e p) h = rw (end_kept m a) (r.unary (unary_moves m e) (moves to m p h.1))
  moves to m (r.postfix p q) h = r.postfix (moves to m p h) (moves to m q (end_fits m (expression_ends p) h))
  moves to m (r.index {a = a} e p f q) h =
      let h2 = end_fits m (expression_ends p) h.1 in
      r.index e (moves to m p h.1) f (rw (start_kept m a, h2.0) at (moves to m q h2.1))
  moves to m (r.member {a = a} e f p) h = r.member e f (rw (start_kept m a, h.1.0) at (moves to m p h.1.1))
  moves to m (r.postfix_step {a = a} e p) h = r.postfix_step (step_moves m e) (rw (start_kept m a, h.0) at (moves to m p h.1))
  moves to m (r.suffixes_end {ts = ts} e) h = r.suffixes_end (suffix_seen m ts e)
  moves to m (r.named {ts = ts} e f) h = rw h.0 (r.named e (seen m (codes "(") ts f))
  moves to m (r.constant e) h = rw h.0 (r.constant e)
  moves to m (r.character e) h = rw h.0 (r.character e)
  moves to m (r.parenthesized {ts = ts} e f p v) h =
      let h2 = end_fits m (expression_ends p) h.1 in
      rw h2.0 (r.parenthesized e (specifiers_seen m ts f) (moves to m p h.1) v)
  moves to m (r.call_empty e f v) h = rw (h.0, h.1.1.0) (r.call_empty e f v)
  moves to m (r.call {ts = ts} e f v p w) h =
      let h2 = end_fits m (expressions_ends p) h.1.1 in
      rw (h.0, h2.0) (r.call e f (seen m (codes ")") ts v) (expressions_move to m p h.1.1) w)

  pub expressions_move : {d : Dialect} (to : Dialect) (m : Move) {ts rest : List Lexeme} {all : Expressions} → ReadsExpressions d ts all rest → Fit m ts
      → ReadsExpressions to (moved_lexemes m ts) (moved_expressions m all) (moved_lexemes m rest)
  expressions_move to m (r.last_expression {rest = rest} p e) h = r.last_expression (moves to m p h) (seen m (codes ",") rest e)
  expressions_move to m (r.more_expressions p e q) h = r.more_expressions (moves to m p h) e (expressions_move to m q (end_fits m (expression_ends p) h).1)

  pub type_name_moves : {d : Dialect} (to : Dialect) (m : Move) {ts rest : List Lexeme} {type : TypeName} → ReadsTypeName d ts type rest → Fit m ts
      → ReadsTypeName to (moved_lexemes m ts) (moved_type_name m type) (moved_lexemes m rest)
  type_name_moves to m (r.type_name {x = x} {s = words} p e q) h =
      r.type_name (specifiers_move to m p h) (for_type_kept m words ∙ e)
      (stars_from (words_kept m x words h.0) (stars_move m q (end_fits m (specifiers_ends p) h)))

  pub specifiers_move : {d : Dialect} (to : Dialect) (m : Move) {has : Bool} {ts rest : List Lexeme} {all : Specifiers} → ReadsSpecifiers d has ts all rest → Fit m ts
      → ReadsSpecifiers to has (moved_lexemes m ts) (moved_specifiers m all) (moved_lexemes m rest)
  specifiers_move to m (r.specifiers_end {has_type = has} {ts = ts} e) h = r.specifiers_end (goes_on m has ts e)
  specifiers_move to m (r.word e p) h = rw h.0 (r.word (word_moves m e) (specifiers_move to m p h.1))
  specifiers_move to m (r.typedef_name e p) h = rw h.0 (r.typedef_name e (specifiers_move to m p h.1))
  specifiers_move to m (r.structure_tag {ts = ts} e f g p) h =
      rw h.1.0 (r.structure_tag e f (seen m (codes "{") ts g) (specifiers_move to m p h.1.1))
  specifiers_move to m (r.structure e f g p v q) h =
      let h2 = end_fits m (members_ends p) h.1.1.1 in
      rw (h.1.0, h2.0) (r.structure e f g (members_move to m p h.1.1.1) v (specifiers_move to m q h2.1))
  specifiers_move to m (r.untagged_structure e g p v q) h =
      let h2 = end_fits m (members_ends p) h.1.1 in
      rw h2.0 (r.untagged_structure e g (members_move to m p h.1.1) v (specifiers_move to m q h2.1))
  specifiers_move to m (r.enumeration_tag {ts = ts} e f g p) h =
      rw h.1.0 (r.enumeration_tag e f (seen m (codes "{") ts g) (specifiers_move to m p h.1.1))
  specifiers_move to m (r.enumeration e f g p v q) h =
      let h2 = end_fits m (enumerators_ends p) h.1.1.1 in
      rw (h.1.0, h2.0) (r.enumeration e f g (enumerators_move to m p h.1.1.1) v (specifiers_move to m q h2.1))
  specifiers_move to m (r.untagged_enumeration e g p v q) h =
      let h2 = end_fits m (enumerators_ends p) h.1.1 in
      rw h2.0 (r.untagged_enumeration e g (enumerators_move to m p h.1.1) v (specifiers_move to m q h2.1))

  pub members_move : {d : Dialect} (to : Dialect) (m : Move) {ts rest : List Lexeme} {all : Members} → ReadsMembers d ts all rest → Fit m ts
      → ReadsMembers to (moved_lexemes m ts) (moved_members m all) (moved_lexemes m rest)
  members_move to m (r.last_member {rest = rest} p e) h = r.last_member (member_moves to m p h) (specifiers_seen m rest e)
  members_move to m (r.more_members {mid = mid} p e q) h =
      r.more_members (member_moves to m p h) (specifiers_seen m mid e) (members_move to m q (end_fits m (member_ends p) h))

  pub member_moves : {d : Dialect} (to : Dialect) (m : Move) {ts rest : List Lexeme} {one : StructMember} → ReadsMember d ts one rest → Fit m ts
      → ReadsMember to (moved_lexemes m ts) (moved_member m one) (moved_lexemes m rest)
  member_moves to m (r.struct_member {s = words} p e q f) h =
      let h2 = end_fits m (specifiers_ends p) h in
      let h3 = end_fits m (declarators_ends q) h2 in
      rw h3.0 (r.struct_member (specifiers_move to m p h) (for_type_kept m words ∙ e) (declarators_move to m q h2) f)

  pub declarators_move : {d : Dialect} (to : Dialect) (m : Move) {ts rest : List Lexeme} {all : Declarators} → ReadsDeclarators d ts all rest → Fit m ts
      → ReadsDeclarators to (moved_lexemes m ts) (moved_declarators m all) (moved_lexemes m rest)
  declarators_move to m (r.last_declarator {rest = rest} p e) h = r.last_declarator (declarator_moves to m p h) (seen m (codes ",") rest e)
  declarators_move to m (r.more_declarators p e q) h = r.more_declarators (declarator_moves to m p h) e (declarators_move to m q (end_fits m (declarator_ends p) h).1)

  pub enumerators_move : {d : Dialect} (to : Dialect) (m : Move) {ts rest : List Lexeme} {all : Enumerators} → ReadsEnumerators d ts all rest → Fit m ts
      → ReadsEnumerators to (moved_lexemes m ts) (moved_enumerators m all) (moved_lexemes m rest)
  enumerators_move to m (r.last_enumerator {rest = rest} p e) h = r.last_enumerator (enumerator_moves to m p h) (seen m (codes ",") rest e)
  enumerators_move to m (r.last_enumerator_comma {rest = rest} p e f) h = r.last_enumerator_comma (enumerator_moves to m p h) e (seen m (codes "}") rest f)
  enumerators_move to m (r.more_enumerators {mid = mid} p e f q) h =
      r.more_enumerators (enumerator_moves to m p h) e (seen m (codes "}") mid f) (enumerators_move to m q (end_fits m (enumerator_ends p) h).1)

  pub enumerator_moves : {d : Dialect} (to : Dialect) (m : Move) {ts rest : List Lexeme} {one : Enumerator} → ReadsEnumerator d ts one rest → Fit m ts
      → ReadsEnumerator to (moved_lexemes m ts) (moved_enumerator m one) (moved_lexemes m rest)
  enumerator_moves to m (r.enumerator {rest = rest} e f) h = rw h.0 (r.enumerator e (seen m (codes "=") rest f))
  enumerator_moves to m (r.valued_enumerator e f p) h = rw h.0 (r.valued_enumerator e f (moves to m p h.1.1))

  pub declarator_moves : {d : Dialect} (to : Dialect) (m : Move) {ts rest : List Lexeme} {one : Declarator} → ReadsDeclarator d ts one rest → Fit m ts
      → ReadsDeclarator to (moved_lexemes m ts) (moved_declarator m one) (moved_lexemes m rest)
  declarator_moves to m (r.object {x = x} {y = y} {mid = mid} p e f q) h =
      let h2 = end_fits m (stars_ends p) h in
      rw h2.0 (r.object (stars_from (at_kept m x h.0) (stars_move m p h)) e (seen m (codes "(") mid f)
      (lengths_from (at_kept m y h2.0) (lengths_move to m q h2.1)))
  declarator_moves to m (r.function {x = x} {ps = all} p e q) h =
      let h2 = end_fits m (stars_ends p) h in
      rw (h2.0, parameters_end_kept m all) (r.function (stars_from (at_kept m x h.0) (stars_move m p h)) e (parameters_move to m q h2.1))

  pub lengths_move : {d : Dialect} (to : Dialect) (m : Move) {before end : Span} {ts rest : List Lexeme} {all : ArrayLengths} → ReadsArrayLengths d before ts all end rest → Fit m ts
      → ReadsArrayLengths to (moved_span m before) (moved_lexemes m ts) (moved_lengths m all) (moved_span m end) (moved_lexemes m rest)
  lengths_move to m (r.lengths_end {ts = ts} e) h = r.lengths_end (seen m (codes "[") ts e)
  lengths_move to m (r.absent_length {y = y} e f p) h = r.absent_length e f (lengths_from (at_kept m y h.1.0) (lengths_move to m p h.1.1))
  lengths_move to m (r.given_length {y = y} {ts = ts} e f p g q) h =
      let h2 = end_fits m (expression_ends p) h.1 in
      r.given_length e (seen m (codes "]") ts f) (moves to m p h.1) g (lengths_from (at_kept m y h2.0) (lengths_move to m q h2.1))

  pub parameters_move : {d : Dialect} (to : Dialect) (m : Move) {ts rest : List Lexeme} {all : Parameters} → ReadsParameters d ts all rest → Fit m ts
      → ReadsParameters to (moved_lexemes m ts) (moved_parameters m all) (moved_lexemes m rest)
  parameters_move to m (r.empty_parameters e f) h = rw h.1.0 (r.empty_parameters e f)
  parameters_move to m (r.void_parameters e f g) h = rw h.1.1.0 (r.void_parameters e f g)
  parameters_move to m (r.listed_parameters {ts = ts} e f g p v) h =
      let h2 = end_fits m (parameter_list_ends p) h.1 in
      rw h2.0 (r.listed_parameters e (seen m (codes ")") ts f) (void_seen m ts g) (parameter_list_moves to m p h.1) v)

  pub parameter_list_moves : {d : Dialect} (to : Dialect) (m : Move) {ts rest : List Lexeme} {all : ParameterList} → ReadsParameterList d ts all rest → Fit m ts
      → ReadsParameterList to (moved_lexemes m ts) (moved_parameter_list m all) (moved_lexemes m rest)
  parameter_list_moves to m (r.last_parameter {rest = rest} p e) h = r.last_parameter (parameter_moves to m p h) (seen m (codes ",") rest e)
  parameter_list_moves to m (r.more_parameters p e q) h = r.more_parameters (parameter_moves to m p h) e (parameter_list_moves to m q (end_fits m (parameter_ends p) h).1)

  pub parameter_moves : {d : Dialect} (to : Dialect) (m : Move) {ts rest : List Lexeme} {one : Parameter} → ReadsParameter d ts one rest → Fit m ts
      → ReadsParameter to (moved_lexemes m ts) (moved_parameter m one) (moved_lexemes m rest)
  parameter_moves to m (r.parameter {x = x} {y = y} {s = words} p e q f v) h =
      let h2 = end_fits m (specifiers_ends p) h in
      let h3 = end_fits m (stars_ends q) h2 in
      rw h3.0 (r.parameter (specifiers_move to m p h) (for_type_kept m words ∙ e) (stars_from (words_kept m x words h.0) (stars_move m q h2)) f
      (lengths_from (at_kept m y h3.0) (lengths_move to m v h3.1)))
  parameter_moves to m (r.unnamed_parameter {x = x} {mid = mid} {s = words} p e q f v) h =
      let h2 = end_fits m (specifiers_ends p) h in
      r.unnamed_parameter (specifiers_move to m p h) (for_type_kept m words ∙ e) (stars_from (words_kept m x words h.0) (stars_move m q h2)) (name_seen m mid f)
      (lengths_move to m v (end_fits m (stars_ends q) h2))
