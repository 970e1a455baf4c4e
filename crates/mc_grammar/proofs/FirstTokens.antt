-- Texts that are not read, by their first tokens.
use Rattle.std.proofs.Common.{◌≡◌, ℕ, Bool, true, false, List, ◌∷◌, refl, codes, arith}
use Rattle.mc_lex.specs.declared.token.Dialect.{Dialect}
use Rattle.mc_lex.specs.declared.token.TokenKind.TheVariants as kind
use Rattle.mc_tree.specs.declared.expressions.step_operator.StepOperator.{StepOperator}
use Rattle.mc_tree.specs.declared.expressions.unary_operator.UnaryOperator.{UnaryOperator}
use Rattle.mc_tree.specs.declared.declarations.specifier_word.SpecifierWord.{SpecifierWord}
use Rattle.mc_tree.specs.Tree as t
use Rattle.mc_tree.specs.Tree.{Expression, Enumerators, Specifiers, Statement}
use Rattle.mc_grammar.specs.Words.{Lexeme, lexeme_of, is_punctuator, is_keyword, is_name}
use Rattle.mc_grammar.specs.Operators.{IsStep, IsUnary, IsSpecifierWord}
use Rattle.mc_grammar.specs.Operators as o
use Rattle.mc_grammar.specs.Nonterminal.{Nonterminal, takes}
use Rattle.mc_grammar.specs.Expressions.{Reads, ReadsEnumerator, ReadsEnumerators}
use Rattle.mc_grammar.specs.Expressions as r
use Rattle.mc_grammar.specs.Statements.{ReadsStatement}
use Rattle.mc_grammar.specs.Statements as s
use Rattle.mc_grammar.specs.Samples.{keyword, word_of, punctuator}
use Rattle.mc_grammar.specs.Refusals.{NoStatement, NoSpecifiers, comma_label, default_alone, for_bracket, do_if, assigned_constant}
use Rattle.mc_grammar.proofs.Lengths.{operand_takes}
use Rattle.mc_grammar.proofs.Derivations.{quiet}
use Rattle.mc_grammar.proofs.Leaving.{Stops, Starts, plain_starts, other_sign, postfix_to_cond, postfix_leaves, constant_leaves, named_leaves}

-- no expression begins with this token
record StartsNone (x : Lexeme) : Type 0 where
  name : is_name x ≡ false
  constant : (value : ℕ) (decimal unsigned : Bool) (longs : ℕ) → x.token.kind ≡ kind.Constant value decimal unsigned longs → ⊥
  character : {value : _} → x.token.kind ≡ kind.Character value → ⊥
  parenthesis : is_punctuator (codes "(") x ≡ false
  starts : Starts x

not_true : (b : Bool) → b ≡ false → b ≡ true → ⊥
not_true true e f = absurd (cc)
not_true false e f = absurd (cc)

zero_one : ◌≡◌ {A = ℕ} 0 1 → ⊥
zero_one e = omega (arith, e)

no_start : {d : Dialect} {m : Nonterminal} {x : Lexeme} {ts rest : List Lexeme} {a : Expression} → StartsNone x → takes m ≡ 1 → Reads d m (x ∷ ts) a rest → ⊥
no_start h g (r.comma_one p e) = no_start h refl p
no_start h g (r.comma p e q) = no_start h refl p
no_start h g (r.assign_cond p e) = no_start h refl p
no_start h g (r.assign p e q) = no_start h refl p
no_start h g (r.cond_level p e) = no_start h refl p
no_start h g (r.cond p e q f v) = no_start h refl p
no_start h g (r.level {k = k} p q) = no_start h (operand_takes k) p
no_start h g (r.operation e p q) = zero_one g
no_start h g (r.operations_end e) = zero_one g
no_start h g (r.cast_unary e p) = no_start h refl p
no_start {x = x} h g (r.cast e f p v q) = not_true (is_punctuator (codes "(") x) h.parenthesis e
no_start h g (r.unary_postfix e p) = no_start h refl p
no_start h g (r.prefix_step e p) = h.starts.no_step _ e
no_start h g (r.unary e p) = h.starts.no_unary _ e
no_start h g (r.postfix p q) = no_start h refl p
no_start h g (r.index e p f q) = zero_one g
no_start h g (r.member e f p) = zero_one g
no_start h g (r.postfix_step e p) = zero_one g
no_start h g (r.suffixes_end e) = zero_one g
no_start {x = x} h g (r.named e f) = not_true (is_name x) h.name e
no_start h g (r.constant e) = h.constant _ _ _ _ e
no_start h g (r.character e) = h.character e
no_start {x = x} h g (r.parenthesized e f p v) = not_true (is_punctuator (codes "(") x) h.parenthesis e
no_start {x = x} h g (r.call_empty e f v) = not_true (is_name x) h.name e
no_start {x = x} h g (r.call e f v p w) = not_true (is_name x) h.name e

keyword_starts_none : (text : List ℕ) (place : ℕ) → StartsNone (lexeme_of (keyword text place))
keyword_starts_none text place = record {
  name = refl;
  constant = λ value decimal unsigned longs e. absurd (cc);
  character = λ {value} e. absurd (cc);
  parenthesis = refl;
  starts = plain_starts _ refl;
}

semicolon_no_step : (place : ℕ) (operator : StepOperator) → IsStep (lexeme_of (punctuator (codes ";") place)) operator → ⊥
semicolon_no_step place operator (o.increment e) = absurd (cc)
semicolon_no_step place operator (o.decrement e) = absurd (cc)

semicolon_no_unary : (place : ℕ) (operator : UnaryOperator) → IsUnary (lexeme_of (punctuator (codes ";") place)) operator → ⊥
semicolon_no_unary place operator (o.plus e) = absurd (cc)
semicolon_no_unary place operator (o.minus e) = absurd (cc)
semicolon_no_unary place operator (o.complement e) = absurd (cc)
semicolon_no_unary place operator (o.not e) = absurd (cc)
semicolon_no_unary place operator (o.dereference e) = absurd (cc)
semicolon_no_unary place operator (o.address e) = absurd (cc)

semicolon_starts_none : (place : ℕ) → StartsNone (lexeme_of (punctuator (codes ";") place))
semicolon_starts_none place = record {
  name = refl;
  constant = λ value decimal unsigned longs e. absurd (cc);
  character = λ {value} e. absurd (cc);
  parenthesis = refl;
  starts = record { no_step = semicolon_no_step place; no_unary = semicolon_no_unary place };
}

comma_stops : (place : ℕ) → Stops (lexeme_of (punctuator (codes ",") place))
comma_stops place = record { operator = λ k. quiet _ refl refl refl refl refl refl refl refl refl refl k; index = refl; member = refl; increment = refl; decrement = refl; question = refl }

equals_stops : (place : ℕ) → Stops (lexeme_of (punctuator (codes "=") place))
equals_stops place = record { operator = λ k. quiet _ refl refl refl refl refl refl refl refl refl refl k; index = refl; member = refl; increment = refl; decrement = refl; question = refl }

pub no_comma_label : (ts : List Lexeme) → NoStatement (comma_label ts)
no_comma_label ts d one rest (s.compound (s.block e p f)) = absurd (cc)
no_comma_label ts d one rest (s.null e) = absurd (cc)
no_comma_label ts d one rest (s.expression_statement e f p g) = no_start (keyword_starts_none _ _) refl p
no_comma_label ts d one rest (s.if_only e p q f) = absurd (cc)
no_comma_label ts d one rest (s.if_else e p q f v) = absurd (cc)
no_comma_label ts d one rest (s.switch e p q) = absurd (cc)
no_comma_label ts d one rest (s.while e p q) = absurd (cc)
no_comma_label ts d one rest (s.do_while e p f q g) = absurd (cc)
no_comma_label ts d one rest (s.for e f p q g v w u) = absurd (cc)
no_comma_label ts d one rest (s.case_label e p f q) = other_sign (codes ":") (postfix_to_cond (plain_starts _ refl) (comma_stops 6) refl (postfix_leaves (comma_stops 6) (constant_leaves 1 true false 0 (codes "1") 5)) _ _ p).0 refl f
no_comma_label ts d one rest (s.default e f p) = absurd (cc)
no_comma_label ts d one rest (s.label e f p) = absurd (cc)
no_comma_label ts d one rest (s.goto e f g) = absurd (cc)
no_comma_label ts d one rest (s.continue e f) = absurd (cc)
no_comma_label ts d one rest (s.break e f) = absurd (cc)
no_comma_label ts d one rest (s.return e p f) = absurd (cc)

pub no_default_alone : (ts : List Lexeme) → NoStatement (default_alone ts)
no_default_alone ts d one rest (s.compound (s.block e p f)) = absurd (cc)
no_default_alone ts d one rest (s.null e) = absurd (cc)
no_default_alone ts d one rest (s.expression_statement e f p g) = no_start (keyword_starts_none _ _) refl p
no_default_alone ts d one rest (s.if_only e p q f) = absurd (cc)
no_default_alone ts d one rest (s.if_else e p q f v) = absurd (cc)
no_default_alone ts d one rest (s.switch e p q) = absurd (cc)
no_default_alone ts d one rest (s.while e p q) = absurd (cc)
no_default_alone ts d one rest (s.do_while e p f q g) = absurd (cc)
no_default_alone ts d one rest (s.for e f p q g v w u) = absurd (cc)
no_default_alone ts d one rest (s.case_label e p f q) = absurd (cc)
no_default_alone ts d one rest (s.default e f p) = absurd (cc)
no_default_alone ts d one rest (s.label e f p) = absurd (cc)
no_default_alone ts d one rest (s.goto e f g) = absurd (cc)
no_default_alone ts d one rest (s.continue e f) = absurd (cc)
no_default_alone ts d one rest (s.break e f) = absurd (cc)
no_default_alone ts d one rest (s.return e p f) = absurd (cc)

pub no_for_bracket : (ts : List Lexeme) → NoStatement (for_bracket ts)
no_for_bracket ts d one rest (s.compound (s.block e p f)) = absurd (cc)
no_for_bracket ts d one rest (s.null e) = absurd (cc)
no_for_bracket ts d one rest (s.expression_statement e f p g) = no_start (keyword_starts_none _ _) refl p
no_for_bracket ts d one rest (s.if_only e p q f) = absurd (cc)
no_for_bracket ts d one rest (s.if_else e p q f v) = absurd (cc)
no_for_bracket ts d one rest (s.switch e p q) = absurd (cc)
no_for_bracket ts d one rest (s.while e p q) = absurd (cc)
no_for_bracket ts d one rest (s.do_while e p f q g) = absurd (cc)
no_for_bracket ts d one rest (s.for e f p q g v w u) = absurd (cc)
no_for_bracket ts d one rest (s.case_label e p f q) = absurd (cc)
no_for_bracket ts d one rest (s.default e f p) = absurd (cc)
no_for_bracket ts d one rest (s.label e f p) = absurd (cc)
no_for_bracket ts d one rest (s.goto e f g) = absurd (cc)
no_for_bracket ts d one rest (s.continue e f) = absurd (cc)
no_for_bracket ts d one rest (s.break e f) = absurd (cc)
no_for_bracket ts d one rest (s.return e p f) = absurd (cc)

-- a statement that begins with a `;` is a null statement
null_leaves : {d : Dialect} {place : ℕ} {ts rest : List Lexeme} {one : Statement} → ReadsStatement d (lexeme_of (punctuator (codes ";") place) ∷ ts) one rest → rest ≡ ts
null_leaves (s.compound (s.block e p f)) = absurd (cc)
null_leaves (s.null e) = refl
null_leaves (s.expression_statement e f p g) = absurd (no_start (semicolon_starts_none _) refl p)
null_leaves (s.if_only e p q f) = absurd (cc)
null_leaves (s.if_else e p q f v) = absurd (cc)
null_leaves (s.switch e p q) = absurd (cc)
null_leaves (s.while e p q) = absurd (cc)
null_leaves (s.do_while e p f q g) = absurd (cc)
null_leaves (s.for e f p q g v w u) = absurd (cc)
null_leaves (s.case_label e p f q) = absurd (cc)
null_leaves (s.default e f p) = absurd (cc)
null_leaves (s.label e f p) = absurd (cc)
null_leaves (s.goto e f g) = absurd (cc)
null_leaves (s.continue e f) = absurd (cc)
null_leaves (s.break e f) = absurd (cc)
null_leaves (s.return e p f) = absurd (cc)

other_keyword : {x y : Lexeme} {ts left : List Lexeme} → x ∷ ts ≡ y ∷ left → is_keyword (codes "while") y ≡ false → is_keyword (codes "while") x ≡ true → ⊥
other_keyword e f g = absurd (cc)

pub no_do_if : (ts : List Lexeme) → NoStatement (do_if ts)
no_do_if ts d one rest (s.compound (s.block e p f)) = absurd (cc)
no_do_if ts d one rest (s.null e) = absurd (cc)
no_do_if ts d one rest (s.expression_statement e f p g) = no_start (keyword_starts_none _ _) refl p
no_do_if ts d one rest (s.if_only e p q f) = absurd (cc)
no_do_if ts d one rest (s.if_else e p q f v) = absurd (cc)
no_do_if ts d one rest (s.switch e p q) = absurd (cc)
no_do_if ts d one rest (s.while e p q) = absurd (cc)
no_do_if ts d one rest (s.do_while e p f q g) = other_keyword (null_leaves p) refl f
no_do_if ts d one rest (s.for e f p q g v w u) = absurd (cc)
no_do_if ts d one rest (s.case_label e p f q) = absurd (cc)
no_do_if ts d one rest (s.default e f p) = absurd (cc)
no_do_if ts d one rest (s.label e f p) = absurd (cc)
no_do_if ts d one rest (s.goto e f g) = absurd (cc)
no_do_if ts d one rest (s.continue e f) = absurd (cc)
no_do_if ts d one rest (s.break e f) = absurd (cc)
no_do_if ts d one rest (s.return e p f) = absurd (cc)

-- the value of a constant takes `b`, and leaves the `=`
one_leaves_equals : {d : Dialect} {ts rest : List Lexeme} {one : t.Enumerator} → ReadsEnumerator d (lexeme_of (word_of (codes "A") 5) ∷ lexeme_of (punctuator (codes "=") 6) ∷ lexeme_of (word_of (codes "b") 7) ∷ lexeme_of (punctuator (codes "=") 8) ∷ ts) one rest
    → rest ≡ lexeme_of (punctuator (codes "=") 8) ∷ ts
one_leaves_equals (r.enumerator e f) = absurd (cc)
one_leaves_equals (r.valued_enumerator e f p) = (postfix_to_cond (plain_starts _ refl) (equals_stops 8) refl (postfix_leaves (equals_stops 8) (named_leaves (codes "b") 7 refl)) _ _ p).0

no_enum_word : {place : ℕ} {w : SpecifierWord} → IsSpecifierWord (lexeme_of (keyword (codes "enum") place)) w → ⊥
no_enum_word (o.typedef e) = absurd (cc)
no_enum_word (o.static e) = absurd (cc)
no_enum_word (o.extern e) = absurd (cc)
no_enum_word (o.const e) = absurd (cc)
no_enum_word (o.void e) = absurd (cc)
no_enum_word (o.bool e) = absurd (cc)
no_enum_word (o.char e) = absurd (cc)
no_enum_word (o.short e) = absurd (cc)
no_enum_word (o.int e) = absurd (cc)
no_enum_word (o.long e) = absurd (cc)
no_enum_word (o.signed e) = absurd (cc)
no_enum_word (o.unsigned e) = absurd (cc)

constant_leaves_equals : {d : Dialect} {ts rest : List Lexeme} {all : Enumerators} → ReadsEnumerators d (lexeme_of (word_of (codes "A") 5) ∷ lexeme_of (punctuator (codes "=") 6) ∷ lexeme_of (word_of (codes "b") 7) ∷ lexeme_of (punctuator (codes "=") 8) ∷ ts) all rest
    → rest ≡ lexeme_of (punctuator (codes "=") 8) ∷ ts
constant_leaves_equals (r.last_enumerator p e) = one_leaves_equals p
constant_leaves_equals (r.last_enumerator_comma p e f) = absurd (other_sign (codes ",") (one_leaves_equals p) refl e)
constant_leaves_equals (r.more_enumerators p e f q) = absurd (other_sign (codes ",") (one_leaves_equals p) refl e)

pub no_assigned_constant : (ts : List Lexeme) → NoSpecifiers (assigned_constant ts)
no_assigned_constant ts d has all rest (r.specifiers_end e) = absurd (cc)
no_assigned_constant ts d has all rest (r.word e p) = no_enum_word e
no_assigned_constant ts d has all rest (r.typedef_name e p) = absurd (cc)
no_assigned_constant ts d has all rest (r.structure_tag e f g p) = absurd (cc)
no_assigned_constant ts d has all rest (r.structure e f g p v q) = absurd (cc)
no_assigned_constant ts d has all rest (r.untagged_structure e g p v q) = absurd (cc)
no_assigned_constant ts d has all rest (r.enumeration_tag e f g p) = absurd (cc)
no_assigned_constant ts d has all rest (r.enumeration e f g p v q) = absurd (cc)
no_assigned_constant ts d has all rest (r.untagged_enumeration e g p v q) = other_sign (codes "}") (constant_leaves_equals p) refl v
