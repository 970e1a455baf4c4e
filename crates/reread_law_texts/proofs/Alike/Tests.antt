-- What a test says of a token, or of the next one, it says of the moved tokens too.
use Rattle.std.proofs.Common.{◌≡◌, ℕ, Bool, ◌&&◌, List, [], ◌∷◌, Option, refl, ap, ◌∙◌, codes}
use Rattle.mc_tree.specs.declared.expressions.unary_operator.UnaryOperator.{UnaryOperator}
use Rattle.mc_tree.specs.declared.expressions.step_operator.StepOperator.{StepOperator}
use Rattle.mc_tree.specs.declared.expressions.binary_operator.BinaryOperator.{BinaryOperator}
use Rattle.mc_tree.specs.declared.declarations.specifier_word.SpecifierWord.{SpecifierWord}
use Rattle.mc_grammar.specs.Words.{Lexeme, is_punctuator, is_keyword, is_name, next_is, sees, sees_keyword, sees_specifiers, sees_cast, sees_label, sees_void_alone, go_on}
use Rattle.mc_grammar.specs.Operators.{IsUnary, IsStep, IsSpecifierWord, operator_at, operator_next, sees_assignment, is_suffix, is_prefix}
use Rattle.mc_grammar.specs.Operators as o
use Rattle.mc_grammar.specs.Nonterminal.{Level}
use Rattle.mc_grammar.specs.Nonterminal as n
use Rattle.reread_law_texts.specs.alike.Moves.{Move, moved_lexeme, moved_lexemes}

-- ---- the next token

sees_kept : (m : Move) (text : List ℕ) (ts : List Lexeme) → sees text (moved_lexemes m ts) ≡ sees text ts
sees_kept m text [] = refl
sees_kept m text (x ∷ ts) = refl

pub seen : (m : Move) (text : List ℕ) (ts : List Lexeme) {b : Bool} → sees text ts ≡ b → sees text (moved_lexemes m ts) ≡ b
seen m text ts e = sees_kept m text ts ∙ e

keywords_kept : (m : Move) (text : List ℕ) (ts : List Lexeme) → sees_keyword text (moved_lexemes m ts) ≡ sees_keyword text ts
keywords_kept m text [] = refl
keywords_kept m text (x ∷ ts) = refl

pub keyword_seen : (m : Move) (text : List ℕ) (ts : List Lexeme) {b : Bool} → sees_keyword text ts ≡ b → sees_keyword text (moved_lexemes m ts) ≡ b
keyword_seen m text ts e = keywords_kept m text ts ∙ e

specifiers_kept : (m : Move) (ts : List Lexeme) → sees_specifiers (moved_lexemes m ts) ≡ sees_specifiers ts
specifiers_kept m [] = refl
specifiers_kept m (x ∷ ts) = refl

pub specifiers_seen : (m : Move) (ts : List Lexeme) {b : Bool} → sees_specifiers ts ≡ b → sees_specifiers (moved_lexemes m ts) ≡ b
specifiers_seen m ts e = specifiers_kept m ts ∙ e

names_kept : (m : Move) (ts : List Lexeme) → next_is is_name (moved_lexemes m ts) ≡ next_is is_name ts
names_kept m [] = refl
names_kept m (x ∷ ts) = refl

pub name_seen : (m : Move) (ts : List Lexeme) {b : Bool} → next_is is_name ts ≡ b → next_is is_name (moved_lexemes m ts) ≡ b
name_seen m ts e = names_kept m ts ∙ e

prefixes_kept : (m : Move) (ts : List Lexeme) → next_is is_prefix (moved_lexemes m ts) ≡ next_is is_prefix ts
prefixes_kept m [] = refl
prefixes_kept m (x ∷ ts) = refl

pub prefix_seen : (m : Move) (ts : List Lexeme) {b : Bool} → next_is is_prefix ts ≡ b → next_is is_prefix (moved_lexemes m ts) ≡ b
prefix_seen m ts e = prefixes_kept m ts ∙ e

suffixes_kept : (m : Move) (ts : List Lexeme) → next_is is_suffix (moved_lexemes m ts) ≡ next_is is_suffix ts
suffixes_kept m [] = refl
suffixes_kept m (x ∷ ts) = refl

pub suffix_seen : (m : Move) (ts : List Lexeme) {b : Bool} → next_is is_suffix ts ≡ b → next_is is_suffix (moved_lexemes m ts) ≡ b
suffix_seen m ts e = suffixes_kept m ts ∙ e

casts_kept : (m : Move) (ts : List Lexeme) → sees_cast (moved_lexemes m ts) ≡ sees_cast ts
casts_kept m [] = refl
casts_kept m (x ∷ ts) = ap (λ b. is_punctuator (codes "(") x && b) (specifiers_kept m ts)

pub cast_seen : (m : Move) (ts : List Lexeme) {b : Bool} → sees_cast ts ≡ b → sees_cast (moved_lexemes m ts) ≡ b
cast_seen m ts e = casts_kept m ts ∙ e

labels_kept : (m : Move) (ts : List Lexeme) → sees_label (moved_lexemes m ts) ≡ sees_label ts
labels_kept m [] = refl
labels_kept m (x ∷ ts) = ap (λ b. is_name x && b) (sees_kept m (codes ":") ts)

pub label_seen : (m : Move) (ts : List Lexeme) {b : Bool} → sees_label ts ≡ b → sees_label (moved_lexemes m ts) ≡ b
label_seen m ts e = labels_kept m ts ∙ e

voids_kept : (m : Move) (ts : List Lexeme) → sees_void_alone (moved_lexemes m ts) ≡ sees_void_alone ts
voids_kept m [] = refl
voids_kept m (x ∷ ts) = ap (λ b. is_keyword (codes "void") x && b) (sees_kept m (codes ")") ts)

pub void_seen : (m : Move) (ts : List Lexeme) {b : Bool} → sees_void_alone ts ≡ b → sees_void_alone (moved_lexemes m ts) ≡ b
void_seen m ts e = voids_kept m ts ∙ e

goes_kept : (m : Move) (has_type : Bool) (ts : List Lexeme) → go_on has_type (moved_lexemes m ts) ≡ go_on has_type ts
goes_kept m has_type [] = refl
goes_kept m has_type (x ∷ ts) = refl

pub goes_on : (m : Move) (has_type : Bool) (ts : List Lexeme) {b : Bool} → go_on has_type ts ≡ b → go_on has_type (moved_lexemes m ts) ≡ b
goes_on m has_type ts e = goes_kept m has_type ts ∙ e

pub assignments_kept : (m : Move) (ts : List Lexeme) → sees_assignment (moved_lexemes m ts) ≡ sees_assignment ts
assignments_kept m [] = refl
assignments_kept m (x ∷ ts) = refl

-- ---- operators

pub operator_kept : (m : Move) (k : Level) (x : Lexeme) → operator_at k (moved_lexeme m x) ≡ operator_at k x
operator_kept m n.product x = refl
operator_kept m n.sum x = refl
operator_kept m n.shift x = refl
operator_kept m n.relation x = refl
operator_kept m n.equality x = refl
operator_kept m n.bit_and x = refl
operator_kept m n.bit_xor x = refl
operator_kept m n.bit_or x = refl
operator_kept m n.land x = refl
operator_kept m n.lor x = refl

operators_kept : (m : Move) (k : Level) (ts : List Lexeme) → operator_next k (moved_lexemes m ts) ≡ operator_next k ts
operators_kept m k [] = refl
operators_kept m k (x ∷ ts) = operator_kept m k x

pub operator_seen : (m : Move) (k : Level) (ts : List Lexeme) {a : Option BinaryOperator} → operator_next k ts ≡ a → operator_next k (moved_lexemes m ts) ≡ a
operator_seen m k ts e = operators_kept m k ts ∙ e

pub step_moves : (m : Move) {x : Lexeme} {operator : StepOperator} → IsStep x operator → IsStep (moved_lexeme m x) operator
step_moves m (o.increment e) = o.increment e
step_moves m (o.decrement e) = o.decrement e

pub unary_moves : (m : Move) {x : Lexeme} {operator : UnaryOperator} → IsUnary x operator → IsUnary (moved_lexeme m x) operator
unary_moves m (o.plus e) = o.plus e
unary_moves m (o.minus e) = o.minus e
unary_moves m (o.complement e) = o.complement e
unary_moves m (o.not e) = o.not e
unary_moves m (o.dereference e) = o.dereference e
unary_moves m (o.address e) = o.address e

pub word_moves : (m : Move) {x : Lexeme} {w : SpecifierWord} → IsSpecifierWord x w → IsSpecifierWord (moved_lexeme m x) w
word_moves m (o.typedef e) = o.typedef e
word_moves m (o.static e) = o.static e
word_moves m (o.extern e) = o.extern e
word_moves m (o.const e) = o.const e
word_moves m (o.void e) = o.void e
word_moves m (o.bool e) = o.bool e
word_moves m (o.char e) = o.char e
word_moves m (o.short e) = o.short e
word_moves m (o.int e) = o.int e
word_moves m (o.long e) = o.long e
word_moves m (o.signed e) = o.signed e
word_moves m (o.unsigned e) = o.unsigned e
