-- What is read of an expression and of a declarator is read of the tokens with brackets: one case for
-- each alternative of a production.
use Rattle.std.proofs.Common.{◌≡◌, ℕ, Bool, List, ◌∷◌, refl, sym, subst, ◌∙◌, codes}
use Rattle.mc_lex.specs.declared.token.Dialect.{Dialect}
use Rattle.mc_span.specs.declared.span.Span.{Span}
use Rattle.mc_tree.specs.Tree.{Expression, Expressions, TypeName, Specifiers, StructMember, Members, Enumerator, Enumerators, Declarator, Declarators, ArrayLengths, Parameters, Parameter, ParameterList, span_of, span_of_parameters}
use Rattle.mc_tree.specs.Tree as t
use Rattle.mc_grammar.specs.Words.{Lexeme, is_punctuator, is_name, begins_specifiers}
use Rattle.mc_grammar.specs.Places.{at, name_at, to, end_of_expressions}
use Rattle.mc_grammar.specs.Nonterminal.{Nonterminal}
use Rattle.mc_grammar.specs.Expressions.{Reads, ReadsExpressions, ReadsTypeName, ReadsStars, ReadsSpecifiers, ReadsMembers, ReadsMember, ReadsDeclarators, ReadsEnumerators, ReadsEnumerator, ReadsDeclarator, ReadsArrayLengths, ReadsParameters, ReadsParameterList, ReadsParameter}
use Rattle.mc_grammar.specs.Expressions as r
use Rattle.reread_law_texts.specs.weave.Brackets.{Brackets, AreAfterTokens, Step, copy, run, in_parentheses}
use Rattle.reread_law_texts.specs.weave.Trees.{bracketed, bracketed_expressions, bracketed_type_name, bracketed_specifiers, bracketed_member, bracketed_members, bracketed_enumerator, bracketed_enumerators, bracketed_declarator, bracketed_declarators, bracketed_lengths, bracketed_parameters, bracketed_parameter, bracketed_parameter_list}
use Rattle.reread_law_texts.specs.weave.Weaving.{none, in_expression, in_expressions, in_type_name, in_stars, in_specifiers, in_members, in_member, in_declarators, in_enumerators, in_enumerator, in_declarator, in_lengths, in_parameters, in_parameter_list, in_parameter}
use Rattle.reread_law_texts.proofs.Weave.Next.{AfterComma, AfterCond, below, no_operator, at_closing, at_bracket, at_brace, at_colon, at_comma, at_question, at_index, at_member, at_step, at_operator, at_assignment}
use Rattle.reread_law_texts.proofs.Weave.First.{no_start, no_list_start, closing_no_start, bracket_no_start, no_specifiers}
use Rattle.reread_law_texts.proofs.Weave.Climb.{to_unary, to_cast, cond_to_assign}
use Rattle.reread_law_texts.proofs.Weave.Enclosed.{node}
use Rattle.reread_law_texts.proofs.Weave.Nodes.{Weave, operand_makes, comma_site, assign_site, cond_site, cast_site, unary_site, primary_site, level_node, postfix_node}
use Rattle.reread_law_texts.proofs.Weave.Stand.{from_to, from_last, to_end, from_start, to_parameters, words_stand, for_type_kept}
use Rattle.reread_law_texts.proofs.Weave.Steady.{Steady, copies, kept, goes_kept, stars_steady, specifiers_steady, type_name_steady, declarators_steady, members_steady, enumerators_steady, lengths_steady, parameter_list_steady, list_void}
use Rattle.reread_law_texts.proofs.Weave.Built.{comma_at, assign_at, cond_at, operation_at, cast_at, prefix_at, unary_at, index_at, member_at, step_at, type_name_at, struct_member_at, object_at, function_at, parameter_at, unnamed_at}

pub weave_stars : {before end : Span} {ts rest : List Lexeme} {k : ℕ} (p : ReadsStars before ts k end rest) (s : List Step) → Steady s → ReadsStars before (run (in_stars p s) ts) k end (run s rest)
weave_stars (r.star e p) s h = r.star e (weave_stars p s h)
weave_stars (r.no_star {ts = ts} e) s h = r.no_star (kept (is_punctuator (codes "*")) s h ts e)

-- the same place, written in another way
stars_from : {place other end : Span} {ts rest : List Lexeme} {k : ℕ} → place ≡ other → ReadsStars place ts k end rest → ReadsStars other ts k end rest
stars_from {end = end} {ts = ts} {rest = rest} {k = k} e p = subst (λ place. ReadsStars place ts k end rest) e p

mutual
  pub weave : {d : Dialect} (to_d : Dialect) (w : Brackets) → AreAfterTokens w → {k : Nonterminal} {ts rest : List Lexeme} {a : Expression} (p : Reads d k ts a rest) → Weave to_d w k ts a rest (in_expression w p)
  weave u w l (r.comma_one p e) = λ s h. r.comma_one (weave u w l p s h.0) h.1
  weave u w l (r.comma {x = x} {ts = ts} {mid = mid} {rest = rest} {a = a} {all = all} p e q) =
      let span = to (span_of a) (end_of_expressions (span_of a) all) in
      node (comma_site u) w span (l.0 span) ts rest (t.Comma (t.expressions (bracketed w a) (bracketed_expressions w all)) span)
      (λ s. in_expression w p none (copy ∷ in_expressions w q s))
      (λ s h. comma_at span (from_last w a all) (weave u w l p (copy ∷ in_expressions w q s) (at_comma x (run (in_expressions w q s) mid) e)) e (weave_expressions u w l q s h))
  weave u w l (r.assign_cond p e) = λ s h. cond_to_assign (weave u w l p s h.0) h
  weave u w l (r.assign {x = x} {ts = ts} {mid = mid} {rest = rest} {operator = operator} {a = a} {b = b} p e q) =
      let span = to (span_of a) (span_of b) in
      node (assign_site u) w span (l.0 span) ts rest (t.Assignment operator (bracketed w a) (bracketed w b) span)
      (λ s. in_expression w p none (copy ∷ in_expression w q none s))
      (λ s h. assign_at span (from_to w a b) (weave u w l p (copy ∷ in_expression w q none s) (at_assignment x (run (in_expression w q none s) mid) e)) e (weave u w l q s h))
  weave u w l (r.cond_level p e) = λ s h. r.cond_level (weave u w l p s h.0) h.1
  weave u w l (r.cond {x = x} {y = y} {ts = ts} {mid = mid} {other = other} {rest = rest} {a = a} {b = b} {c = c} p e q f v) =
      let span = to (span_of a) (span_of c) in
      node (cond_site u) w span (l.0 span) ts rest (t.Conditional (bracketed w a) (bracketed w b) (bracketed w c) span)
      (λ s. in_expression w p none (copy ∷ in_expression w q none (copy ∷ in_expression w v none s)))
      (λ s h. cond_at span (from_to w a c)
      (weave u w l p (copy ∷ in_expression w q none (copy ∷ in_expression w v none s)) (at_question x (run (in_expression w q none (copy ∷ in_expression w v none s)) mid) e)) e
      (weave u w l q (copy ∷ in_expression w v none s) (at_colon y (run (in_expression w v none s) other) f)) f (weave u w l v s h))
  weave u w l (r.level {k = k} {ts = ts} {mid = mid} {a = a} p q) =
      λ s h. weave u w l q ts (in_expression w p none)
      (λ s c rest g ops. r.level (operand_makes u w k ts a mid (in_expression w p) (weave u w l p) s g) ops) s h
  weave u w l (r.operation {k = k} {x = x} {ts = ts} {mid = mid} {operator = operator} {a = a} {b = b} e p q) =
      let span = to (span_of a) (span_of b) in
      λ from left front s h. weave u w l q from (in_parentheses w span (λ s. left (copy ∷ in_expression w p none s)))
      (level_node k w span (l.0 span) from mid (t.Binary operator (bracketed w a) (bracketed w b) span) (λ s. left (copy ∷ in_expression w p none s))
      (λ s c rest g ops. front (copy ∷ in_expression w p none s) c rest (at_operator k x (run (in_expression w p none s) ts) e)
      (operation_at span (from_to w a b) e (operand_makes u w k ts b mid (in_expression w p) (weave u w l p) s g) ops))) s h
  weave u w l (r.operations_end {k = k} {ts = ts} {a = a} e) =
      λ from left front s h. front s (bracketed w a) (run s ts) (below k (run s ts) h) (r.operations_end (no_operator k (run s ts) h))
  weave u w l (r.cast_unary e p) = λ s h. to_cast (weave u w l p s h)
  weave u w l (r.cast {x = x} {y = y} {ts = ts} {rest = rest} {type = type} {a = a} e f p v q) =
      let span = to (at x) (span_of a) in
      node (cast_site u) w span (l.0 span) (x ∷ ts) rest (t.Cast (bracketed_type_name w type) (bracketed w a) span)
      (λ s. copy ∷ in_type_name w p (copy ∷ in_expression w q none s))
      (λ s h. let steady = copies (in_expression w q none s) in
      cast_at span (to_end w (at x) a) e (kept begins_specifiers (in_type_name w p (copy ∷ in_expression w q none s)) (type_name_steady w p (copy ∷ in_expression w q none s) steady) ts f)
      (weave_type_name u w l p (copy ∷ in_expression w q none s) steady) v (weave u w l q s h))
  weave u w l (r.unary_postfix e p) = λ s h. to_unary (weave u w l p s h)
  weave u w l (r.prefix_step {x = x} {ts = ts} {rest = rest} {operator = operator} {a = a} e p) =
      let span = to (at x) (span_of a) in
      node (unary_site u) w span (l.0 span) (x ∷ ts) rest (t.PrefixStep operator (bracketed w a) span)
      (λ s. copy ∷ in_expression w p none s) (λ s h. prefix_at span (to_end w (at x) a) e (weave u w l p s h))
  weave u w l (r.unary {x = x} {ts = ts} {rest = rest} {operator = operator} {a = a} e p) =
      let span = to (at x) (span_of a) in
      node (unary_site u) w span (l.0 span) (x ∷ ts) rest (t.Unary operator (bracketed w a) span)
      (λ s. copy ∷ in_expression w p none s) (λ s h. unary_at span (to_end w (at x) a) e (weave u w l p s h))
  weave u w l (r.postfix {ts = ts} p q) =
      λ s h. weave u w l q ts (in_expression w p none) (λ s c rest g more. r.postfix (weave u w l p s g) more) s h
  weave u w l (r.index {x = x} {y = y} {ts = ts} {mid = mid} {a = a} {b = b} e p f q) =
      let span = to (span_of a) (at y) in
      λ from left front s h. weave u w l q from (in_parentheses w span (λ s. left (copy ∷ in_expression w p none (copy ∷ s))))
      (postfix_node w span (l.0 span) from mid (t.Index (bracketed w a) (bracketed w b) span) (λ s. left (copy ∷ in_expression w p none (copy ∷ s)))
      (λ s c rest g more. front (copy ∷ in_expression w p none (copy ∷ s)) c rest (at_index x (run (in_expression w p none (copy ∷ s)) ts) e)
      (index_at span (from_start w a (at y)) e (weave u w l p (copy ∷ s) (at_bracket y (run s mid) f)) f more))) s h
  weave u w l (r.member {x = x} {y = y} {ts = ts} {a = a} e f q) =
      let span = to (span_of a) (at y) in
      λ from left front s h. weave u w l q from (in_parentheses w span (λ s. left (copy ∷ copy ∷ s)))
      (postfix_node w span (l.0 span) from ts (t.Member (bracketed w a) (name_at y) span) (λ s. left (copy ∷ copy ∷ s))
      (λ s c rest g more. front (copy ∷ copy ∷ s) c rest (at_member x (y ∷ run s ts) e) (member_at span (from_start w a (at y)) e f more))) s h
  weave u w l (r.postfix_step {x = x} {ts = ts} {operator = operator} {a = a} e q) =
      let span = to (span_of a) (at x) in
      λ from left front s h. weave u w l q from (in_parentheses w span (λ s. left (copy ∷ s)))
      (postfix_node w span (l.0 span) from ts (t.PostfixStep operator (bracketed w a) span) (λ s. left (copy ∷ s))
      (λ s c rest g more. front (copy ∷ s) c rest (at_step x (run s ts) e) (step_at span (from_start w a (at x)) e more))) s h
  weave u w l (r.suffixes_end {ts = ts} {a = a} e) = λ from left front s h. front s (bracketed w a) (run s ts) h.0 (r.suffixes_end h.1)
  weave u w l (r.named {x = x} {ts = ts} e f) =
      node (primary_site u) w (at x) (l.0 (at x)) (x ∷ ts) ts (t.Named (name_at x)) (λ s. copy ∷ s) (λ s h. r.named e h)
  weave u w l (r.constant {x = x} {ts = ts} {value = value} {decimal = decimal} {unsigned = unsigned} {longs = longs} e) =
      node (primary_site u) w (at x) (l.0 (at x)) (x ∷ ts) ts (t.Constant value decimal unsigned longs (at x)) (λ s. copy ∷ s) (λ s h. r.constant e)
  weave u w l (r.character {x = x} {ts = ts} {value = value} e) =
      node (primary_site u) w (at x) (l.0 (at x)) (x ∷ ts) ts (t.Character value (at x)) (λ s. copy ∷ s) (λ s h. r.character e)
  weave u w l (r.parenthesized {x = x} {y = y} {ts = ts} {rest = rest} {a = a} e f p v) =
      let span = to (at x) (at y) in
      node (primary_site u) w span (l.0 span) (x ∷ ts) rest (t.Parenthesized (bracketed w a) span) (λ s. copy ∷ in_expression w p none (copy ∷ s))
      (λ s h. let inner = weave u w l p (copy ∷ s) (at_closing y (run s rest) v) in r.parenthesized e (no_specifiers refl inner) inner v)
  weave u w l (r.call_empty {x = x} {y = y} {z = z} {rest = rest} e f v) =
      let span = to (at x) (at z) in
      node (primary_site u) w span (l.0 span) (x ∷ y ∷ z ∷ rest) rest (t.Call (name_at x) t.no_expressions span) (λ s. copy ∷ copy ∷ copy ∷ s) (λ s h. r.call_empty e f v)
  weave u w l (r.call {x = x} {y = y} {z = z} {ts = ts} {rest = rest} {all = all} e f g p v) =
      let span = to (at x) (at z) in
      node (primary_site u) w span (l.0 span) (x ∷ y ∷ ts) rest (t.Call (name_at x) (bracketed_expressions w all) span) (λ s. copy ∷ copy ∷ in_expressions w p (copy ∷ s))
      (λ s h. let inner = weave_expressions u w l p (copy ∷ s) (at_closing z (run s rest) v) in
      r.call e f (no_list_start (is_punctuator (codes ")")) closing_no_start inner) inner v)

  pub weave_expressions : {d : Dialect} (to_d : Dialect) (w : Brackets) → AreAfterTokens w → {ts rest : List Lexeme} {all : Expressions} (p : ReadsExpressions d ts all rest) (s : List Step) → AfterComma (run s rest)
      → ReadsExpressions to_d (run (in_expressions w p s) ts) (bracketed_expressions w all) (run s rest)
  weave_expressions u w l (r.last_expression p e) s h = r.last_expression (weave u w l p s h.0) h.1
  weave_expressions u w l (r.more_expressions {x = x} {mid = mid} p e q) s h = r.more_expressions (weave u w l p (copy ∷ in_expressions w q s) (at_comma x (run (in_expressions w q s) mid) e)) e (weave_expressions u w l q s h)

  pub weave_type_name : {d : Dialect} (to_d : Dialect) (w : Brackets) → AreAfterTokens w → {ts rest : List Lexeme} {type : TypeName} (p : ReadsTypeName d ts type rest) (s : List Step) → Steady s
      → ReadsTypeName to_d (run (in_type_name w p s) ts) (bracketed_type_name w type) (run s rest)
  weave_type_name u w l (r.type_name {x = x} {ts = ts} {s = words} p e q) s h =
      let steady = stars_steady q s h in
      type_name_at (run (in_specifiers w p (in_stars q s)) (x ∷ ts)) (specifiers_steady w p (in_stars q s) steady (x ∷ ts))
      (weave_specifiers u w l p (in_stars q s) steady) (for_type_kept w words ∙ e) (stars_from (sym (words_stand w (at x) words)) (weave_stars q s h))

  pub weave_specifiers : {d : Dialect} (to_d : Dialect) (w : Brackets) → AreAfterTokens w → {has : Bool} {ts rest : List Lexeme} {all : Specifiers} (p : ReadsSpecifiers d has ts all rest) (s : List Step) → Steady s
      → ReadsSpecifiers to_d has (run (in_specifiers w p s) ts) (bracketed_specifiers w all) (run s rest)
  weave_specifiers u w l (r.specifiers_end {has_type = has} {ts = ts} e) s h = r.specifiers_end (goes_kept s h has ts e)
  weave_specifiers u w l (r.word e p) s h = r.word e (weave_specifiers u w l p s h)
  weave_specifiers u w l (r.typedef_name e p) s h = r.typedef_name e (weave_specifiers u w l p s h)
  weave_specifiers u w l (r.structure_tag {ts = ts} e f g p) s h =
      r.structure_tag e f (kept (is_punctuator (codes "{")) (in_specifiers w p s) (specifiers_steady w p s h) ts g) (weave_specifiers u w l p s h)
  weave_specifiers u w l (r.structure e f g p v q) s h =
      r.structure e f g (weave_members u w l p (copy ∷ in_specifiers w q s) (copies (in_specifiers w q s))) v (weave_specifiers u w l q s h)
  weave_specifiers u w l (r.untagged_structure e g p v q) s h =
      r.untagged_structure e g (weave_members u w l p (copy ∷ in_specifiers w q s) (copies (in_specifiers w q s))) v (weave_specifiers u w l q s h)
  weave_specifiers u w l (r.enumeration_tag {ts = ts} e f g p) s h =
      r.enumeration_tag e f (kept (is_punctuator (codes "{")) (in_specifiers w p s) (specifiers_steady w p s h) ts g) (weave_specifiers u w l p s h)
  weave_specifiers u w l (r.enumeration {v = y} {mid = mid} e f g p v q) s h =
      r.enumeration e f g (weave_enumerators u w l p (copy ∷ in_specifiers w q s) (copies (in_specifiers w q s)) (at_brace y (run (in_specifiers w q s) mid) v).0.0) v (weave_specifiers u w l q s h)
  weave_specifiers u w l (r.untagged_enumeration {v = y} {mid = mid} e g p v q) s h =
      r.untagged_enumeration e g (weave_enumerators u w l p (copy ∷ in_specifiers w q s) (copies (in_specifiers w q s)) (at_brace y (run (in_specifiers w q s) mid) v).0.0) v (weave_specifiers u w l q s h)

  pub weave_members : {d : Dialect} (to_d : Dialect) (w : Brackets) → AreAfterTokens w → {ts rest : List Lexeme} {all : Members} (p : ReadsMembers d ts all rest) (s : List Step) → Steady s
      → ReadsMembers to_d (run (in_members w p s) ts) (bracketed_members w all) (run s rest)
  weave_members u w l (r.last_member {rest = rest} p e) s h = r.last_member (weave_member u w l p s) (kept begins_specifiers s h rest e)
  weave_members u w l (r.more_members {mid = mid} p e q) s h =
      r.more_members (weave_member u w l p (in_members w q s)) (kept begins_specifiers (in_members w q s) (members_steady w q s) mid e) (weave_members u w l q s h)

  pub weave_member : {d : Dialect} (to_d : Dialect) (w : Brackets) → AreAfterTokens w → {ts rest : List Lexeme} {one : StructMember} (p : ReadsMember d ts one rest) (s : List Step)
      → ReadsMember to_d (run (in_member w p s) ts) (bracketed_member w one) (run s rest)
  weave_member u w l (r.struct_member {x = x} {ts = ts} {s = words} p e q f) s =
      let steady = declarators_steady w q (copy ∷ s) in
      struct_member_at (run (in_specifiers w p (in_declarators w q (copy ∷ s))) (x ∷ ts)) (specifiers_steady w p (in_declarators w q (copy ∷ s)) steady (x ∷ ts))
      (weave_specifiers u w l p (in_declarators w q (copy ∷ s)) steady) (for_type_kept w words ∙ e) (weave_declarators u w l q (copy ∷ s) (copies s)) f

  pub weave_declarators : {d : Dialect} (to_d : Dialect) (w : Brackets) → AreAfterTokens w → {ts rest : List Lexeme} {all : Declarators} (p : ReadsDeclarators d ts all rest) (s : List Step) → Steady s
      → ReadsDeclarators to_d (run (in_declarators w p s) ts) (bracketed_declarators w all) (run s rest)
  weave_declarators u w l (r.last_declarator {rest = rest} p e) s h = r.last_declarator (weave_declarator u w l p s h) (kept (is_punctuator (codes ",")) s h rest e)
  weave_declarators u w l (r.more_declarators p e q) s h = r.more_declarators (weave_declarator u w l p (copy ∷ in_declarators w q s) (copies (in_declarators w q s))) e (weave_declarators u w l q s h)

  pub weave_enumerators : {d : Dialect} (to_d : Dialect) (w : Brackets) → AreAfterTokens w → {ts rest : List Lexeme} {all : Enumerators} (p : ReadsEnumerators d ts all rest) (s : List Step) → Steady s → AfterCond (run s rest)
      → ReadsEnumerators to_d (run (in_enumerators w p s) ts) (bracketed_enumerators w all) (run s rest)
  weave_enumerators u w l (r.last_enumerator {rest = rest} p e) s h g = r.last_enumerator (weave_enumerator u w l p s h g) (kept (is_punctuator (codes ",")) s h rest e)
  weave_enumerators u w l (r.last_enumerator_comma {x = x} {rest = rest} p e f) s h g =
      r.last_enumerator_comma (weave_enumerator u w l p (copy ∷ s) (copies s) (at_comma x (run s rest) e).0) e (kept (is_punctuator (codes "}")) s h rest f)
  weave_enumerators u w l (r.more_enumerators {x = x} {mid = mid} p e f q) s h g =
      r.more_enumerators (weave_enumerator u w l p (copy ∷ in_enumerators w q s) (copies (in_enumerators w q s)) (at_comma x (run (in_enumerators w q s) mid) e).0) e
      (kept (is_punctuator (codes "}")) (in_enumerators w q s) (enumerators_steady w q s) mid f) (weave_enumerators u w l q s h g)

  pub weave_enumerator : {d : Dialect} (to_d : Dialect) (w : Brackets) → AreAfterTokens w → {ts rest : List Lexeme} {one : Enumerator} (p : ReadsEnumerator d ts one rest) (s : List Step) → Steady s → AfterCond (run s rest)
      → ReadsEnumerator to_d (run (in_enumerator w p s) ts) (bracketed_enumerator w one) (run s rest)
  weave_enumerator u w l (r.enumerator {rest = rest} e f) s h g = r.enumerator e (kept (is_punctuator (codes "=")) s h rest f)
  weave_enumerator u w l (r.valued_enumerator e f p) s h g = r.valued_enumerator e f (weave u w l p s g)

  pub weave_declarator : {d : Dialect} (to_d : Dialect) (w : Brackets) → AreAfterTokens w → {ts rest : List Lexeme} {one : Declarator} (p : ReadsDeclarator d ts one rest) (s : List Step) → Steady s
      → ReadsDeclarator to_d (run (in_declarator w p s) ts) (bracketed_declarator w one) (run s rest)
  weave_declarator u w l (r.object {x = x} {ts = ts} {mid = mid} p e f q) s h =
      let steady = copies (in_lengths w q s) in
      object_at (run (in_stars p (copy ∷ in_lengths w q s)) (x ∷ ts)) (stars_steady p (copy ∷ in_lengths w q s) steady (x ∷ ts))
      (weave_stars p (copy ∷ in_lengths w q s) steady) e (kept (is_punctuator (codes "(")) (in_lengths w q s) (lengths_steady w q s h) mid f) (weave_lengths u w l q s h)
  weave_declarator u w l (r.function {x = x} {ts = ts} {ps = ps} p e q) s h =
      let steady = copies (in_parameters w q s) in
      function_at (to (at x) (span_of_parameters ps)) (to_parameters w (at x) ps) (run (in_stars p (copy ∷ in_parameters w q s)) (x ∷ ts)) (stars_steady p (copy ∷ in_parameters w q s) steady (x ∷ ts))
      (weave_stars p (copy ∷ in_parameters w q s) steady) e (weave_parameters u w l q s)

  pub weave_lengths : {d : Dialect} (to_d : Dialect) (w : Brackets) → AreAfterTokens w → {before end : Span} {ts rest : List Lexeme} {all : ArrayLengths} (p : ReadsArrayLengths d before ts all end rest) (s : List Step) → Steady s
      → ReadsArrayLengths to_d before (run (in_lengths w p s) ts) (bracketed_lengths w all) end (run s rest)
  weave_lengths u w l (r.lengths_end {ts = ts} e) s h = r.lengths_end (kept (is_punctuator (codes "[")) s h ts e)
  weave_lengths u w l (r.absent_length e f p) s h = r.absent_length e f (weave_lengths u w l p s h)
  weave_lengths u w l (r.given_length {y = y} {mid = mid} e f p g q) s h =
      let inner = weave u w l p (copy ∷ in_lengths w q s) (at_bracket y (run (in_lengths w q s) mid) g).0.0 in
      r.given_length e (no_start (is_punctuator (codes "]")) bracket_no_start refl inner) inner g (weave_lengths u w l q s h)

  pub weave_parameters : {d : Dialect} (to_d : Dialect) (w : Brackets) → AreAfterTokens w → {ts rest : List Lexeme} {all : Parameters} (p : ReadsParameters d ts all rest) (s : List Step)
      → ReadsParameters to_d (run (in_parameters w p s) ts) (bracketed_parameters w all) (run s rest)
  weave_parameters u w l (r.empty_parameters e f) s = r.empty_parameters e f
  weave_parameters u w l (r.void_parameters e f g) s = r.void_parameters e f g
  weave_parameters u w l (r.listed_parameters {ts = ts} e f g p v) s =
      let steady = copies s in
      r.listed_parameters e (kept (is_punctuator (codes ")")) (in_parameter_list w p (copy ∷ s)) (parameter_list_steady w p (copy ∷ s) steady) ts f) (list_void w p (copy ∷ s) steady ∙ g) (weave_parameter_list u w l p (copy ∷ s) steady) v

  pub weave_parameter_list : {d : Dialect} (to_d : Dialect) (w : Brackets) → AreAfterTokens w → {ts rest : List Lexeme} {all : ParameterList} (p : ReadsParameterList d ts all rest) (s : List Step) → Steady s
      → ReadsParameterList to_d (run (in_parameter_list w p s) ts) (bracketed_parameter_list w all) (run s rest)
  weave_parameter_list u w l (r.last_parameter {rest = rest} p e) s h = r.last_parameter (weave_parameter u w l p s h) (kept (is_punctuator (codes ",")) s h rest e)
  weave_parameter_list u w l (r.more_parameters p e q) s h = r.more_parameters (weave_parameter u w l p (copy ∷ in_parameter_list w q s) (copies (in_parameter_list w q s))) e (weave_parameter_list u w l q s h)

  pub weave_parameter : {d : Dialect} (to_d : Dialect) (w : Brackets) → AreAfterTokens w → {ts rest : List Lexeme} {one : Parameter} (p : ReadsParameter d ts one rest) (s : List Step) → Steady s
      → ReadsParameter to_d (run (in_parameter w p s) ts) (bracketed_parameter w one) (run s rest)
  weave_parameter u w l (r.parameter {x = x} {ts = ts} {s = words} p e q f v) s h =
      let stars = copies (in_lengths w v s) in
      let steady = stars_steady q (copy ∷ in_lengths w v s) stars in
      parameter_at (run (in_specifiers w p (in_stars q (copy ∷ in_lengths w v s))) (x ∷ ts)) (specifiers_steady w p (in_stars q (copy ∷ in_lengths w v s)) steady (x ∷ ts))
      (weave_specifiers u w l p (in_stars q (copy ∷ in_lengths w v s)) steady) (for_type_kept w words ∙ e)
      (stars_from (sym (words_stand w (at x) words)) (weave_stars q (copy ∷ in_lengths w v s) stars)) f (weave_lengths u w l v s h)
  weave_parameter u w l (r.unnamed_parameter {x = x} {ts = ts} {mid = mid} {s = words} p e q f v) s h =
      let lengths = lengths_steady w v s h in
      let steady = stars_steady q (in_lengths w v s) lengths in
      unnamed_at (run (in_specifiers w p (in_stars q (in_lengths w v s))) (x ∷ ts)) (specifiers_steady w p (in_stars q (in_lengths w v s)) steady (x ∷ ts))
      (weave_specifiers u w l p (in_stars q (in_lengths w v s)) steady) (for_type_kept w words ∙ e)
      (stars_from (sym (words_stand w (at x) words)) (weave_stars q (in_lengths w v s) lengths)) (kept is_name (in_lengths w v s) lengths mid f) (weave_lengths u w l v s h)
