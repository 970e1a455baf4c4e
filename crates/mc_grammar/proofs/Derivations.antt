-- Steps of derivations that are made by hand.
use Rattle.std.proofs.Common.{◌≡◌, ℕ, Bool, true, false, List, ◌∷◌, None, refl, codes}
use Rattle.mc_lex.specs.declared.token.Dialect.{Dialect}
use Rattle.mc_lex.specs.declared.token.TokenKind.TheVariants as kind
use Rattle.mc_tree.specs.Tree.{Expression}
use Rattle.mc_tree.specs.Tree as t
use Rattle.mc_grammar.specs.Words.{Lexeme, lexeme_of, is_name, next_is, sees, sees_cast}
use Rattle.mc_grammar.specs.Places.{at, name_at}
use Rattle.mc_grammar.specs.Operators.{operator_at, is_suffix, is_prefix}
use Rattle.mc_grammar.specs.Nonterminal.{Level}
use Rattle.mc_grammar.specs.Nonterminal as n
use Rattle.mc_grammar.specs.Expressions.{Reads}
use Rattle.mc_grammar.specs.Expressions as r
use Rattle.mc_grammar.specs.Samples.{punctuator}

-- a token that is no operator between two operands
pub quiet : (x : Lexeme) → operator_at n.product x ≡ None → operator_at n.sum x ≡ None → operator_at n.shift x ≡ None → operator_at n.relation x ≡ None → operator_at n.equality x ≡ None
    → operator_at n.bit_and x ≡ None → operator_at n.bit_xor x ≡ None → operator_at n.bit_or x ≡ None → operator_at n.land x ≡ None → operator_at n.lor x ≡ None → (k : Level) → operator_at k x ≡ None
quiet x a b c d e f g h i j n.product = a
quiet x a b c d e f g h i j n.sum = b
quiet x a b c d e f g h i j n.shift = c
quiet x a b c d e f g h i j n.relation = d
quiet x a b c d e f g h i j n.equality = e
quiet x a b c d e f g h i j n.bit_and = f
quiet x a b c d e f g h i j n.bit_xor = g
quiet x a b c d e f g h i j n.bit_or = h
quiet x a b c d e f g h i j n.land = i
quiet x a b c d e f g h i j n.lor = j

pub at_semicolon : (start : ℕ) (k : Level) → operator_at k (lexeme_of (punctuator (codes ";") start)) ≡ None
at_semicolon start k = quiet _ refl refl refl refl refl refl refl refl refl refl k

pub at_comma : (start : ℕ) (k : Level) → operator_at k (lexeme_of (punctuator (codes ",") start)) ≡ None
at_comma start k = quiet _ refl refl refl refl refl refl refl refl refl refl k

pub at_parenthesis : (start : ℕ) (k : Level) → operator_at k (lexeme_of (punctuator (codes ")") start)) ≡ None
at_parenthesis start k = quiet _ refl refl refl refl refl refl refl refl refl refl k

pub at_bracket : (start : ℕ) (k : Level) → operator_at k (lexeme_of (punctuator (codes "]") start)) ≡ None
at_bracket start k = quiet _ refl refl refl refl refl refl refl refl refl refl k

pub at_brace : (start : ℕ) (k : Level) → operator_at k (lexeme_of (punctuator (codes "}") start)) ≡ None
at_brace start k = quiet _ refl refl refl refl refl refl refl refl refl refl k

pub at_equals : (start : ℕ) (k : Level) → operator_at k (lexeme_of (punctuator (codes "=") start)) ≡ None
at_equals start k = quiet _ refl refl refl refl refl refl refl refl refl refl k

pub at_opening : (start : ℕ) (k : Level) → operator_at k (lexeme_of (punctuator (codes "(") start)) ≡ None
at_opening start k = quiet _ refl refl refl refl refl refl refl refl refl refl k

-- a sum that no operator follows
pub sum_alone : {d : Dialect} {x : Lexeme} {ts rest : List Lexeme} {a : Expression} → Reads d (n.level n.sum) ts a (x ∷ rest) → ((k : Level) → operator_at k x ≡ None) → sees (codes "?") (x ∷ rest) ≡ false
    → Reads d n.cond ts a (x ∷ rest)
sum_alone p e f =
    r.cond_level (r.level (r.level (r.level (r.level (r.level (r.level (r.level (r.level p (r.operations_end (e n.shift))) (r.operations_end (e n.relation))) (r.operations_end (e n.equality)))
    (r.operations_end (e n.bit_and))) (r.operations_end (e n.bit_xor))) (r.operations_end (e n.bit_or))) (r.operations_end (e n.land))) (r.operations_end (e n.lor))) f

-- an operand that no operator follows
pub alone : {d : Dialect} {x : Lexeme} {ts rest : List Lexeme} {a : Expression} → Reads d n.cast ts a (x ∷ rest) → ((k : Level) → operator_at k x ≡ None) → sees (codes "?") (x ∷ rest) ≡ false
    → Reads d n.cond ts a (x ∷ rest)
alone p e f = sum_alone (r.level (r.level p (r.operations_end (e n.product))) (r.operations_end (e n.sum))) e f

-- an identifier and a constant that no suffix follows
pub a_name : {d : Dialect} {x : Lexeme} {ts : List Lexeme} → is_name x ≡ true → sees_cast (x ∷ ts) ≡ false → is_prefix x ≡ false → sees (codes "(") ts ≡ false → next_is is_suffix ts ≡ false
    → Reads d n.cast (x ∷ ts) (t.Named (name_at x)) ts
a_name e f g h v = r.cast_unary f (r.unary_postfix g (r.postfix (r.named e h) (r.suffixes_end v)))

pub a_constant : {d : Dialect} {x : Lexeme} {ts : List Lexeme} {value : _} {decimal unsigned : Bool} {longs : _} → x.token.kind ≡ kind.Constant value decimal unsigned longs → sees_cast (x ∷ ts) ≡ false
    → is_prefix x ≡ false → next_is is_suffix ts ≡ false → Reads d n.cast (x ∷ ts) (t.Constant value decimal unsigned longs (at x)) ts
a_constant e f g v = r.cast_unary f (r.unary_postfix g (r.postfix (r.constant e) (r.suffixes_end v)))
