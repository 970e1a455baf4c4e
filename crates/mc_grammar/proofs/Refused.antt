-- Texts that are not read, by what every reading of their parts would leave.
use Rattle.std.proofs.Common.{◌≡◌, ℕ, Bool, true, false, List, ◌∷◌, refl, sym, ◌∙◌, subst, ap, length, arith, codes}
use Rattle.mc_lex.specs.declared.token.Dialect.{Dialect}
use Rattle.mc_span.specs.declared.span.Span.{Span}
use Rattle.mc_tree.specs.declared.expressions.step_operator.StepOperator.{StepOperator}
use Rattle.mc_tree.specs.declared.expressions.unary_operator.UnaryOperator.{UnaryOperator}
use Rattle.mc_tree.specs.declared.declarations.specifier_word.SpecifierWord.{SpecifierWord}
use Rattle.mc_tree.specs.Tree.{Expression, Specifiers, Declarator, ArrayLengths, Parameters, ParameterList, Parameter, Initializer, Initializers, InitDeclarator, Statement, Item}
use Rattle.mc_tree.specs.Tree as t
use Rattle.mc_grammar.specs.Words.{Lexeme, lexeme_of, lexemes_of, is_punctuator, is_keyword, is_name, is_type_name, sees, sees_label}
use Rattle.mc_grammar.specs.Operators.{IsStep, IsUnary, IsSpecifierWord}
use Rattle.mc_grammar.specs.Operators as o
use Rattle.mc_grammar.specs.Counts.{for_function, for_type}
use Rattle.mc_grammar.specs.Nonterminal as n
use Rattle.mc_grammar.specs.Expressions.{Reads, ReadsStars, ReadsSpecifiers, ReadsDeclarator, ReadsArrayLengths, ReadsParameters, ReadsParameterList, ReadsParameter}
use Rattle.mc_grammar.specs.Expressions as r
use Rattle.mc_grammar.specs.Statements.{ReadsStatement, ReadsInitializer, ReadsInitializers, ReadsInitDeclarator, ReadsInitDeclarators}
use Rattle.mc_grammar.specs.Statements as s
use Rattle.mc_grammar.specs.Items.{ReadsItem, IsTree}
use Rattle.mc_grammar.specs.Items as i
use Rattle.mc_grammar.specs.Meaning.{identifier}
use Rattle.mc_grammar.specs.Places.{at, to}
use Rattle.mc_grammar.specs.Samples.{span, name, keyword, word_of, punctuator, zero_at}
use Rattle.mc_grammar.specs.Snippets.{after_parentheses, parentheses_tokens, parentheses_tree, after_element, element_tokens, element_tree, after_name, after_bracket, length_tokens}
use Rattle.mc_grammar.proofs.Derivations.{at_parenthesis, at_bracket, at_opening, at_equals, at_brace}
use Rattle.mc_grammar.proofs.Lengths.{shorter}
use Rattle.mc_grammar.proofs.Leaving.{Gives, Starts, Stops, not_both, assign_leaves, unary_leaves, other_sign, other_step, suffixes_leave, postfix_leaves, postfix_to_cond, postfix_to_comma, named_leaves, constant_leaves, parenthesized_leaves, plain_starts, same_rest, same_token}

opening_no_step : (start : ℕ) (operator : StepOperator) → IsStep (lexeme_of (punctuator (codes "(") start)) operator → ⊥
opening_no_step start operator (o.increment e) = absurd (cc)
opening_no_step start operator (o.decrement e) = absurd (cc)

opening_no_unary : (start : ℕ) (operator : UnaryOperator) → IsUnary (lexeme_of (punctuator (codes "(") start)) operator → ⊥
opening_no_unary start operator (o.plus e) = absurd (cc)
opening_no_unary start operator (o.minus e) = absurd (cc)
opening_no_unary start operator (o.complement e) = absurd (cc)
opening_no_unary start operator (o.not e) = absurd (cc)
opening_no_unary start operator (o.dereference e) = absurd (cc)
opening_no_unary start operator (o.address e) = absurd (cc)

opening_starts : (start : ℕ) → Starts (lexeme_of (punctuator (codes "(") start))
opening_starts start = record { no_step = opening_no_step start; no_unary = opening_no_unary start }

opening_stops : (start : ℕ) → Stops (lexeme_of (punctuator (codes "(") start))
opening_stops start = record { operator = at_opening start; index = refl; member = refl; increment = refl; decrement = refl; question = refl }

closing_stops : (start : ℕ) → Stops (lexeme_of (punctuator (codes ")") start))
closing_stops start = record { operator = at_parenthesis start; index = refl; member = refl; increment = refl; decrement = refl; question = refl }

pub bracket_stops : (start : ℕ) → Stops (lexeme_of (punctuator (codes "]") start))
bracket_stops start = record { operator = at_bracket start; index = refl; member = refl; increment = refl; decrement = refl; question = refl }

equals_stops : (start : ℕ) → Stops (lexeme_of (punctuator (codes "=") start))
equals_stops start = record { operator = at_equals start; index = refl; member = refl; increment = refl; decrement = refl; question = refl }

-- of `(f)(x);` an expression takes `(f)`
pub parentheses_leave : (d : Dialect) → Gives d n.comma (lexemes_of parentheses_tokens) parentheses_tree (lexemes_of after_parentheses)
parentheses_leave d =
    postfix_to_comma (opening_starts 0) (opening_stops 3) refl refl refl (postfix_leaves (opening_stops 3) (parenthesized_leaves 0
    (postfix_to_comma (plain_starts _ refl) (closing_stops 2) refl refl refl (postfix_leaves (closing_stops 2) (named_leaves (codes "f") 1 refl)))))

-- of `a[0](x);` it takes `a[0]`
index_leaves : (d : Dialect) → Gives d n.comma (lexemes_of (zero_at 2 ∷ punctuator (codes "]") 3 ∷ after_element)) (t.Constant 0 false false 0 (span 2 3)) (lexemes_of (punctuator (codes "]") 3 ∷ after_element))
index_leaves d = postfix_to_comma (plain_starts _ refl) (bracket_stops 3) refl refl refl (postfix_leaves (bracket_stops 3) (constant_leaves 0 false false 0 (codes "0") 2))

element_suffixes : {d : Dialect} {mid rest : List Lexeme} {a b : Expression} → mid ≡ lexemes_of (punctuator (codes "[") 1 ∷ zero_at 2 ∷ punctuator (codes "]") 3 ∷ after_element)
    → a ≡ t.Named (name (codes "a") 0 1) → Reads d (n.suffixes a) mid b rest → (rest ≡ lexemes_of after_element) × (b ≡ element_tree)
element_suffixes {d = d} {a = a} e w (r.index {y = y} {b = i} f p g q) =
    let one = subst (λ us. Gives d n.comma us (t.Constant 0 false false 0 (span 2 3)) (lexemes_of (punctuator (codes "]") 3 ∷ after_element))) (sym (same_rest e)) (index_leaves d) _ _ p in
    let all = suffixes_leave (opening_stops 4) (same_rest one.0) q in
    let array : Expression = t.Named (name (codes "a") 0 1) in (
      all.0,
      all.1 ∙ ap (λ z. t.Index z i (to (t.span_of z) (at y))) w ∙ ap (λ z. t.Index array z (to (span 0 1) (at y))) one.1
          ∙ ap (λ z. t.Index array (t.Constant 0 false false 0 (span 2 3)) (to (span 0 1) (at z))) (same_token one.0),
    )
element_suffixes e w (r.member f g q) = absurd (other_sign (codes ".") e refl f)
element_suffixes e w (r.postfix_step f q) = absurd (other_step e refl refl f)
element_suffixes e w (r.suffixes_end f) = absurd (cc)

element_postfix : (d : Dialect) → Gives d n.postfix (lexemes_of element_tokens) element_tree (lexemes_of after_element)
element_postfix d a rest (r.postfix p q) = let one = named_leaves (codes "a") 0 refl _ _ p in element_suffixes one.0 one.1 q

pub element_leaves : (d : Dialect) → Gives d n.comma (lexemes_of element_tokens) element_tree (lexemes_of after_element)
element_leaves d = postfix_to_comma (plain_starts _ refl) (opening_stops 4) refl refl refl (element_postfix d)

pub other_word : (text : List ℕ) (x : Lexeme) → ((text : List ℕ) → is_keyword text x ≡ false) → is_keyword text x ≡ true → ⊥
other_word text x h e = let f : is_keyword text x ≡ false = h text in absurd (cc)

-- so neither is a statement
no_statement : {d : Dialect} {x y : Lexeme} {ts left rest : List Lexeme} {a : Expression} {one : Statement} → Gives d n.comma (y ∷ ts) a (x ∷ left) → is_punctuator (codes ";") x ≡ false
    → ((text : List ℕ) → is_keyword text y ≡ false) → is_punctuator (codes "{") y ≡ false → is_punctuator (codes ";") y ≡ false → sees_label (y ∷ ts) ≡ false → ReadsStatement d (y ∷ ts) one rest → ⊥
no_statement h stop w b c l (s.compound (s.block e p f)) = absurd (cc)
no_statement h stop w b c l (s.null e) = absurd (cc)
no_statement h stop w b c l (s.expression_statement e f p g) = other_sign (codes ";") (h _ _ p).0 stop g
no_statement h stop w b c l (s.if_only {x = x} e p q f) = other_word (codes "if") x w e
no_statement h stop w b c l (s.if_else {x = x} e p q f v) = other_word (codes "if") x w e
no_statement h stop w b c l (s.switch {x = x} e p q) = other_word (codes "switch") x w e
no_statement h stop w b c l (s.while {x = x} e p q) = other_word (codes "while") x w e
no_statement h stop w b c l (s.do_while {x = x} e p f q g) = other_word (codes "do") x w e
no_statement h stop w b c l (s.for {x = x} e f p q g v k u) = other_word (codes "for") x w e
no_statement h stop w b c l (s.case_label {x = x} e p f q) = other_word (codes "case") x w e
no_statement h stop w b c l (s.default {x = x} e f p) = other_word (codes "default") x w e
no_statement h stop w b c l (s.label {x = x} {y = y} e f p) = not_both (is_name x) (is_punctuator (codes ":") y) l e f
no_statement h stop w b c l (s.goto {x = x} e f g) = other_word (codes "goto") x w e
no_statement h stop w b c l (s.continue {x = x} e f) = other_word (codes "continue") x w e
no_statement h stop w b c l (s.break {x = x} e f) = other_word (codes "break") x w e
no_statement h stop w b c l (s.return {x = x} e p f) = other_word (codes "return") x w e

pub parentheses_no_statement : (d : Dialect) (one : Statement) (rest : List Lexeme) → ReadsStatement d (lexemes_of parentheses_tokens) one rest → ⊥
parentheses_no_statement d one rest p = no_statement (parentheses_leave d) refl (λ text. refl) refl refl refl p

pub element_no_statement : (d : Dialect) (one : Statement) (rest : List Lexeme) → ReadsStatement d (lexemes_of element_tokens) one rest → ⊥
element_no_statement d one rest p = no_statement (element_leaves d) refl (λ text. refl) refl refl refl p

-- of `b=1];` a length takes `b`
pub length_leaves : (d : Dialect) → Gives d n.cond (lexemes_of after_bracket) (t.Named (name (codes "b") 6 7)) (lexemes_of after_name)
length_leaves d = postfix_to_cond (plain_starts _ refl) (equals_stops 7) refl (postfix_leaves (equals_stops 7) (named_leaves (codes "b") 6 refl))

length_no_sizes : {d : Dialect} {before end : Span} {lengths : ArrayLengths} {rest : List Lexeme} → ReadsArrayLengths d before (lexemes_of (punctuator (codes "[") 5 ∷ after_bracket)) lengths end rest → ⊥
length_no_sizes (r.lengths_end e) = absurd (cc)
length_no_sizes (r.absent_length e f p) = absurd (cc)
length_no_sizes {d = d} (r.given_length e f p g q) = other_sign (codes "]") (length_leaves d _ _ p).0 refl g

pub no_parameters : {d : Dialect} {x : Lexeme} {ts rest : List Lexeme} {all : Parameters} → is_punctuator (codes "(") x ≡ false → ReadsParameters d (x ∷ ts) all rest → ⊥
no_parameters h (r.empty_parameters e f) = absurd (cc)
no_parameters h (r.void_parameters e f g) = absurd (cc)
no_parameters h (r.listed_parameters e f g p v) = absurd (cc)

pub no_stars : {before end : Span} {x : Lexeme} {ts rest : List Lexeme} {k : ℕ} → is_punctuator (codes "*") x ≡ false → ReadsStars before (x ∷ ts) k end rest → rest ≡ x ∷ ts
no_stars h (r.star e p) = absurd (cc)
no_stars h (r.no_star e) = refl

length_no_declarator : {d : Dialect} {one : Declarator} {rest : List Lexeme} → ReadsDeclarator d (lexemes_of (word_of (codes "a") 4 ∷ punctuator (codes "[") 5 ∷ after_bracket)) one rest → ⊥
length_no_declarator {d = d} {rest = rest} (r.object {y = y} {end = end} {lengths = lengths} p e f q) = length_no_sizes (subst (λ us. ReadsArrayLengths d (at y) us lengths end rest) (same_rest (no_stars refl p)) q)
length_no_declarator {d = d} {rest = rest} (r.function {ps = ps} p e q) = no_parameters refl (subst (λ us. ReadsParameters d us ps rest) (same_rest (no_stars refl p)) q)

no_init_declarator : {d : Dialect} {typedef : Bool} {ts rest : List Lexeme} {one : InitDeclarator} → ((one : Declarator) (left : List Lexeme) → ReadsDeclarator d ts one left → ⊥) → ReadsInitDeclarator d typedef ts one rest → ⊥
no_init_declarator h (s.bare p e) = h _ _ p
no_init_declarator h (s.initialized p e v q) = h _ _ p

no_init_declarators : {d : Dialect} {typedef : Bool} {ts rest : List Lexeme} {all : List InitDeclarator} → ((one : Declarator) (left : List Lexeme) → ReadsDeclarator d ts one left → ⊥) → sees (codes ";") ts ≡ false
    → ReadsInitDeclarators d typedef ts all rest → ⊥
no_init_declarators h g (s.no_init_declarator e) = absurd (cc)
no_init_declarators h g (s.last_init_declarator p f) = no_init_declarator h p
no_init_declarators h g (s.more_init_declarators p e f q) = no_init_declarator h p

-- where no word of a type stands there are no specifiers
no_specifier_word : {x : Lexeme} {w : SpecifierWord} → ((text : List ℕ) → is_keyword text x ≡ false) → IsSpecifierWord x w → ⊥
no_specifier_word {x = x} h (o.typedef e) = other_word (codes "typedef") x h e
no_specifier_word {x = x} h (o.static e) = other_word (codes "static") x h e
no_specifier_word {x = x} h (o.extern e) = other_word (codes "extern") x h e
no_specifier_word {x = x} h (o.const e) = other_word (codes "const") x h e
no_specifier_word {x = x} h (o.void e) = other_word (codes "void") x h e
no_specifier_word {x = x} h (o.bool e) = other_word (codes "_Bool") x h e
no_specifier_word {x = x} h (o.char e) = other_word (codes "char") x h e
no_specifier_word {x = x} h (o.short e) = other_word (codes "short") x h e
no_specifier_word {x = x} h (o.int e) = other_word (codes "int") x h e
no_specifier_word {x = x} h (o.long e) = other_word (codes "long") x h e
no_specifier_word {x = x} h (o.signed e) = other_word (codes "signed") x h e
no_specifier_word {x = x} h (o.unsigned e) = other_word (codes "unsigned") x h e

pub no_words : {d : Dialect} {has : Bool} {x : Lexeme} {ts rest : List Lexeme} {all : Specifiers} → ((text : List ℕ) → is_keyword text x ≡ false) → is_type_name x ≡ false
    → ReadsSpecifiers d has (x ∷ ts) all rest → (all ≡ t.no_specifiers) × (rest ≡ x ∷ ts)
no_words {x = x} h g (r.specifiers_end e) = (refl, refl)
no_words {x = x} h g (r.word e p) = absurd (no_specifier_word h e)
no_words {x = x} h g (r.typedef_name e p) = absurd (cc)
no_words {x = x} h g (r.structure_tag e f k p) = absurd (other_word (codes "struct") x h e)
no_words {x = x} h g (r.structure e f k p v q) = absurd (other_word (codes "struct") x h e)
no_words {x = x} h g (r.untagged_structure e f p v q) = absurd (other_word (codes "struct") x h e)
no_words {x = x} h g (r.enumeration_tag e f k p) = absurd (other_word (codes "enum") x h e)
no_words {x = x} h g (r.enumeration e f k p v q) = absurd (other_word (codes "enum") x h e)
no_words {x = x} h g (r.untagged_enumeration e f p v q) = absurd (other_word (codes "enum") x h e)

-- after `int` there are no more of them before an identifier
int_words : {d : Dialect} {text : List ℕ} {start place : ℕ} {ts rest : List Lexeme} {all : Specifiers} → ReadsSpecifiers d false (lexeme_of (keyword (codes "int") place) ∷ lexeme_of (word_of text start) ∷ ts) all rest
    → rest ≡ lexeme_of (word_of text start) ∷ ts
int_words (r.specifiers_end e) = absurd (cc)
int_words (r.word e p) = (no_words (λ text. refl) refl p).1
int_words (r.typedef_name e p) = absurd (cc)
int_words (r.structure_tag e f k p) = absurd (cc)
int_words (r.structure e f k p v q) = absurd (cc)
int_words (r.untagged_structure e f p v q) = absurd (cc)
int_words (r.enumeration_tag e f k p) = absurd (cc)
int_words (r.enumeration e f k p v q) = absurd (cc)
int_words (r.untagged_enumeration e f p v q) = absurd (cc)

length_no_item : {d : Dialect} {one : Item} {rest : List Lexeme} → ReadsItem d (lexemes_of length_tokens) one rest → ⊥
length_no_item {d = d} (i.declared {typedef = typedef} (s.declaration {y = y} {rest = rest} {all = all} e p f q g)) =
    no_init_declarators (λ one left. length_no_declarator) refl (subst (λ us. ReadsInitDeclarators d typedef us all (y ∷ rest)) (int_words p) q)
length_no_item {d = d} (i.defined {y = y} {z = z} {before = before} {mid = mid} {body = body} {stars = stars} {ps = ps} p e q f v w) =
    no_parameters refl (subst (λ us. ReadsParameters d us ps body) (same_rest (no_stars refl (subst (λ us. ReadsStars (at y) us stars before (z ∷ mid)) (int_words p) q))) v)

pub length_no_tree : (d : Dialect) (unit : List Item) → IsTree d length_tokens unit → ⊥
length_no_tree d unit (i.item p q) = length_no_item p

-- no item begins with a `;`
pub semicolon_no_item : (d : Dialect) (start : ℕ) (ts : List Lexeme) (one : Item) (rest : List Lexeme) → ReadsItem d (lexeme_of (punctuator (codes ";") start) ∷ ts) one rest → ⊥
semicolon_no_item d start ts one rest (i.declared (s.declaration e p f q g)) = absurd (cc)
semicolon_no_item d start ts one rest (i.defined p e q f v w) = let h : for_function t.no_specifiers ≡ true = subst (λ all. for_function all ≡ true) (no_words (λ text. refl) refl p).0 e in absurd (cc)

-- a parameter begins with its type, and after the `*` of a declarator stands no parenthesis
no_parameter : {d : Dialect} {x : Lexeme} {ts rest : List Lexeme} {one : Parameter} → ((text : List ℕ) → is_keyword text x ≡ false) → is_type_name x ≡ false → ReadsParameter d (x ∷ ts) one rest → ⊥
no_parameter h g (r.parameter p e q f v) = let w : for_type t.no_specifiers ≡ true = subst (λ all. for_type all ≡ true) (no_words h g p).0 e in absurd (cc)
no_parameter h g (r.unnamed_parameter p e q f v) = let w : for_type t.no_specifiers ≡ true = subst (λ all. for_type all ≡ true) (no_words h g p).0 e in absurd (cc)

no_parameter_list : {d : Dialect} {x : Lexeme} {ts rest : List Lexeme} {all : ParameterList} → ((text : List ℕ) → is_keyword text x ≡ false) → is_type_name x ≡ false → ReadsParameterList d (x ∷ ts) all rest → ⊥
no_parameter_list h g (r.last_parameter p e) = no_parameter h g p
no_parameter_list h g (r.more_parameters p e q) = no_parameter h g p

pub names_no_parameters : (d : Dialect) (text : List ℕ) (place start : ℕ) (ts rest : List Lexeme) (all : Parameters) → ReadsParameters d (lexeme_of (punctuator (codes "(") place) ∷ identifier text start ∷ ts) all rest → ⊥
names_no_parameters d text place start ts rest all (r.empty_parameters e f) = absurd (cc)
names_no_parameters d text place start ts rest all (r.void_parameters e f g) = absurd (cc)
names_no_parameters d text place start ts rest all (r.listed_parameters e f g p v) = no_parameter_list (λ text. refl) refl p

no_name : {x y : Lexeme} {ts left : List Lexeme} → x ∷ ts ≡ y ∷ left → is_name y ≡ false → is_name x ≡ true → ⊥
no_name e f g = absurd (cc)

same_stars : {before other end last : Span} {ts left rest : List Lexeme} {k m : ℕ} → ReadsStars before ts k end left → ReadsStars other ts m last rest → rest ≡ left
same_stars (r.star e p) (r.star f q) = same_stars p q
same_stars (r.star e p) (r.no_star f) = absurd (cc)
same_stars (r.no_star e) (r.star f q) = absurd (cc)
same_stars (r.no_star e) (r.no_star f) = refl

pub parenthesis_no_declarator : (d : Dialect) (k place : ℕ) (before end : Span) (ts us rest : List Lexeme) (one : Declarator) → ReadsStars before ts k end (lexeme_of (punctuator (codes "(") place) ∷ us) → ReadsDeclarator d ts one rest → ⊥
parenthesis_no_declarator d k place before end ts us rest one h (r.object p e f q) = no_name (same_stars h p) refl e
parenthesis_no_declarator d k place before end ts us rest one h (r.function p e q) = no_name (same_stars h p) refl e

-- nothing begins with a `}`
brace_no_step : (start : ℕ) (operator : StepOperator) → IsStep (lexeme_of (punctuator (codes "}") start)) operator → ⊥
brace_no_step start operator (o.increment e) = absurd (cc)
brace_no_step start operator (o.decrement e) = absurd (cc)

brace_no_unary : (start : ℕ) (operator : UnaryOperator) → IsUnary (lexeme_of (punctuator (codes "}") start)) operator → ⊥
brace_no_unary start operator (o.plus e) = absurd (cc)
brace_no_unary start operator (o.minus e) = absurd (cc)
brace_no_unary start operator (o.complement e) = absurd (cc)
brace_no_unary start operator (o.not e) = absurd (cc)
brace_no_unary start operator (o.dereference e) = absurd (cc)
brace_no_unary start operator (o.address e) = absurd (cc)

brace_no_primary : {d : Dialect} {start : ℕ} {ts rest : List Lexeme} {a : Expression} → Reads d n.primary (lexeme_of (punctuator (codes "}") start) ∷ ts) a rest → ⊥
brace_no_primary (r.named e g) = absurd (cc)
brace_no_primary (r.constant e) = absurd (cc)
brace_no_primary (r.character e) = absurd (cc)
brace_no_primary (r.parenthesized e g p v) = absurd (cc)
brace_no_primary (r.call_empty e g v) = absurd (cc)
brace_no_primary (r.call e g v p w) = absurd (cc)

brace_starts : (start : ℕ) → Starts (lexeme_of (punctuator (codes "}") start))
brace_starts start = record { no_step = brace_no_step start; no_unary = brace_no_unary start }

brace_stops : (start : ℕ) → Stops (lexeme_of (punctuator (codes "}") start))
brace_stops start = record { operator = at_brace start; index = refl; member = refl; increment = refl; decrement = refl; question = refl }

-- what it leaves would be all, but an expression takes a token
brace_leaves : (d : Dialect) (start : ℕ) (ts : List Lexeme) (b : Expression) → Gives d n.assign (lexeme_of (punctuator (codes "}") start) ∷ ts) b (lexeme_of (punctuator (codes "}") start) ∷ ts)
brace_leaves d start ts b =
    let postfixes : Gives d n.postfix (lexeme_of (punctuator (codes "}") start) ∷ ts) b (lexeme_of (punctuator (codes "}") start) ∷ ts) = postfix_leaves (brace_stops start) (λ a rest p. absurd (brace_no_primary p)) in
    assign_leaves refl (unary_leaves (brace_starts start) postfixes) (postfix_to_cond (brace_starts start) (brace_stops start) refl postfixes)

brace_no_assign : {d : Dialect} (start : ℕ) {ts rest : List Lexeme} {a : Expression} → Reads d n.assign (lexeme_of (punctuator (codes "}") start) ∷ ts) a rest → ⊥
brace_no_assign {d = d} start {ts = ts} {a = a} p = omega (arith, shorter p, ap length (brace_leaves d start ts a _ _ p).0)

no_initializer : {d : Dialect} (start : ℕ) {ts rest : List Lexeme} {one : Initializer} → ReadsInitializer d (lexeme_of (punctuator (codes "}") start) ∷ ts) one rest → ⊥
no_initializer start (s.single e p) = brace_no_assign start p
no_initializer start (s.braced e p f) = absurd (cc)

no_initializers : {d : Dialect} (start : ℕ) {ts rest : List Lexeme} {all : Initializers} → ReadsInitializers d (lexeme_of (punctuator (codes "}") start) ∷ ts) all rest → ⊥
no_initializers start (s.last_initializer p e) = no_initializer start p
no_initializers start (s.last_initializer_comma p e f) = no_initializer start p
no_initializers start (s.more_initializers p e f q) = no_initializer start p

pub braces_no_initializer : (d : Dialect) (start end : ℕ) (ts rest : List Lexeme) (one : Initializer) → ReadsInitializer d (lexeme_of (punctuator (codes "{") start) ∷ lexeme_of (punctuator (codes "}") end) ∷ ts) one rest → ⊥
braces_no_initializer d start end ts rest one (s.single e p) = absurd (cc)
braces_no_initializer d start end ts rest one (s.braced e p f) = no_initializers end p
