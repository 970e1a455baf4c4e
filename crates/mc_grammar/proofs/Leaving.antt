-- What every reading of given tokens is, found from the token at which all of them stop.
use Rattle.std.proofs.Common.{◌≡◌, ℕ, ◌+◌, Bool, true, false, ◌&&◌, List, ◌∷◌, length, Some, None, refl, ◌∙◌, ap, codes}
use Rattle.mc_lex.specs.declared.token.Dialect.{Dialect}
use Rattle.mc_lex.specs.declared.token.TokenKind.TheVariants as kind
use Rattle.mc_tree.specs.declared.expressions.step_operator.StepOperator.{StepOperator}
use Rattle.mc_tree.specs.declared.expressions.unary_operator.UnaryOperator.{UnaryOperator}
use Rattle.mc_tree.specs.declared.expressions.assignment_operator.AssignmentOperator.{AssignmentOperator}
use Rattle.mc_tree.specs.Tree.{Expression}
use Rattle.mc_tree.specs.Tree as t
use Rattle.mc_grammar.specs.Words.{Lexeme, lexeme_of, is_punctuator_kind, is_punctuator, sees_cast, sees_specifiers}
use Rattle.mc_grammar.specs.Places.{at, name_at, to}
use Rattle.mc_grammar.specs.Operators.{IsStep, IsUnary, operator_at, assignment_at}
use Rattle.mc_grammar.specs.Operators as o
use Rattle.mc_grammar.specs.Nonterminal.{Nonterminal, Level, operand}
use Rattle.mc_grammar.specs.Nonterminal as n
use Rattle.mc_grammar.specs.Expressions.{Reads}
use Rattle.mc_grammar.specs.Expressions as r
use Rattle.mc_grammar.specs.Samples.{token, span, word_of, punctuator}

-- whatever is read of these tokens has this tree, and leaves this
abbrev pub Gives : Dialect → Nonterminal → List Lexeme → Expression → List Lexeme → Type 0
Gives d m ts b left = (a : Expression) (rest : List Lexeme) → Reads d m ts a rest → (rest ≡ left) × (a ≡ b)

-- no suffix, no operator between operands and no `?`
pub record Stops (x : Lexeme) : Type 0 where
  pub operator : (k : Level) → operator_at k x ≡ None
  pub index : is_punctuator (codes "[") x ≡ false
  pub member : is_punctuator (codes ".") x ≡ false
  pub increment : is_punctuator (codes "++") x ≡ false
  pub decrement : is_punctuator (codes "--") x ≡ false
  pub question : is_punctuator (codes "?") x ≡ false

-- no operator before an operand
pub record Starts (x : Lexeme) : Type 0 where
  pub no_step : (operator : StepOperator) → IsStep x operator → ⊥
  pub no_unary : (operator : UnaryOperator) → IsUnary x operator → ⊥

pub other_sign : (text : List ℕ) {x y : Lexeme} {ts left : List Lexeme} → x ∷ ts ≡ y ∷ left → is_punctuator text y ≡ false → is_punctuator text x ≡ true → ⊥
other_sign text e f g = absurd (cc)

pub other_step : {x y : Lexeme} {ts left : List Lexeme} {operator : StepOperator} → x ∷ ts ≡ y ∷ left → is_punctuator (codes "++") y ≡ false → is_punctuator (codes "--") y ≡ false → IsStep x operator → ⊥
other_step e f g (o.increment h) = absurd (cc)
other_step e f g (o.decrement h) = absurd (cc)

-- a token that is no punctuator begins with no operator
no_sign : (text : List ℕ) (x : Lexeme) → is_punctuator_kind x.token.kind ≡ false → is_punctuator text x ≡ true → ⊥
no_sign text x h e = let f : is_punctuator text x ≡ false = rw h refl in absurd (cc)

no_step : (x : Lexeme) → is_punctuator_kind x.token.kind ≡ false → (operator : StepOperator) → IsStep x operator → ⊥
no_step x h operator (o.increment e) = no_sign (codes "++") x h e
no_step x h operator (o.decrement e) = no_sign (codes "--") x h e

no_unary : (x : Lexeme) → is_punctuator_kind x.token.kind ≡ false → (operator : UnaryOperator) → IsUnary x operator → ⊥
no_unary x h operator (o.plus e) = no_sign (codes "+") x h e
no_unary x h operator (o.minus e) = no_sign (codes "-") x h e
no_unary x h operator (o.complement e) = no_sign (codes "~") x h e
no_unary x h operator (o.not e) = no_sign (codes "!") x h e
no_unary x h operator (o.dereference e) = no_sign (codes "*") x h e
no_unary x h operator (o.address e) = no_sign (codes "&") x h e

pub plain_starts : (x : Lexeme) → is_punctuator_kind x.token.kind ≡ false → Starts x
plain_starts x h = record { no_step = no_step x h; no_unary = no_unary x h }

-- after a tree that ends before the token at which it stops
pub suffixes_leave : {d : Dialect} {x : Lexeme} {mid left rest : List Lexeme} {a b : Expression} → Stops x → mid ≡ x ∷ left → Reads d (n.suffixes a) mid b rest → (rest ≡ x ∷ left) × (b ≡ a)
suffixes_leave stop e (r.index f p g q) = absurd (other_sign (codes "[") e stop.index f)
suffixes_leave stop e (r.member f g q) = absurd (other_sign (codes ".") e stop.member f)
suffixes_leave stop e (r.postfix_step f q) = absurd (other_step e stop.increment stop.decrement f)
suffixes_leave stop e (r.suffixes_end f) = (e, refl)

operations_leave : {d : Dialect} (k : Level) {x : Lexeme} {mid left rest : List Lexeme} {a b : Expression} → operator_at k x ≡ None → mid ≡ x ∷ left → Reads d (n.operations k a) mid b rest
    → (rest ≡ x ∷ left) × (b ≡ a)
operations_leave k stop e (r.operation f p q) = absurd (cc)
operations_leave k stop e (r.operations_end f) = (e, refl)

level_leaves : {d : Dialect} {x : Lexeme} {ts left : List Lexeme} {b : Expression} (k : Level) → Stops x → Gives d (operand k) ts b (x ∷ left) → Gives d (n.level k) ts b (x ∷ left)
level_leaves k stop h a rest (r.level p q) =
    let one = h _ _ p in
    let all = operations_leave k (stop.operator k) one.0 q in
    (all.0, all.1 ∙ one.1)

levels_leave : {d : Dialect} {x : Lexeme} {ts left : List Lexeme} {b : Expression} → Stops x → Gives d n.cast ts b (x ∷ left) → Gives d (n.level n.lor) ts b (x ∷ left)
levels_leave stop h =
    level_leaves n.lor stop (level_leaves n.land stop (level_leaves n.bit_or stop (level_leaves n.bit_xor stop (level_leaves n.bit_and stop
    (level_leaves n.equality stop (level_leaves n.relation stop (level_leaves n.shift stop (level_leaves n.sum stop (level_leaves n.product stop h)))))))))

cond_leaves : {d : Dialect} {x : Lexeme} {ts left : List Lexeme} {b : Expression} → Stops x → Gives d (n.level n.lor) ts b (x ∷ left) → Gives d n.cond ts b (x ∷ left)
cond_leaves stop h a rest (r.cond_level p e) = h _ _ p
cond_leaves stop h a rest (r.cond p e q f v) = absurd (other_sign (codes "?") (h _ _ p).0 stop.question e)

pub postfix_leaves : {d : Dialect} {x : Lexeme} {ts left : List Lexeme} {b : Expression} → Stops x → Gives d n.primary ts b (x ∷ left) → Gives d n.postfix ts b (x ∷ left)
postfix_leaves stop h a rest (r.postfix p q) =
    let one = h _ _ p in
    let all = suffixes_leave stop one.0 q in
    (all.0, all.1 ∙ one.1)

pub unary_leaves : {d : Dialect} {y : Lexeme} {ts left : List Lexeme} {b : Expression} → Starts y → Gives d n.postfix (y ∷ ts) b left → Gives d n.unary (y ∷ ts) b left
unary_leaves start h a rest (r.unary_postfix e p) = h _ _ p
unary_leaves start h a rest (r.prefix_step e p) = absurd (start.no_step _ e)
unary_leaves start h a rest (r.unary e p) = absurd (start.no_unary _ e)

pub not_both : (a b : Bool) → (a && b) ≡ false → a ≡ true → b ≡ true → ⊥
not_both true b e f g = absurd (cc)
not_both false b e f g = absurd (cc)

cast_leaves : {d : Dialect} {y : Lexeme} {ts left : List Lexeme} {b : Expression} → sees_cast (y ∷ ts) ≡ false → Gives d n.unary (y ∷ ts) b left → Gives d n.cast (y ∷ ts) b left
cast_leaves e h a rest (r.cast_unary f p) = h _ _ p
cast_leaves {y = y} {ts = ts} e h a rest (r.cast f g p v q) = absurd (not_both (is_punctuator (codes "(") y) (sees_specifiers ts) e f g)

-- from a `postfix` up to a `cond`
pub postfix_to_cond : {d : Dialect} {x y : Lexeme} {ts left : List Lexeme} {b : Expression} → Starts y → Stops x → sees_cast (y ∷ ts) ≡ false → Gives d n.postfix (y ∷ ts) b (x ∷ left)
    → Gives d n.cond (y ∷ ts) b (x ∷ left)
postfix_to_cond start stop e h = cond_leaves stop (levels_leave stop (cast_leaves e (unary_leaves start h)))

no_assignment : {x y : Lexeme} {ts left : List Lexeme} {operator : AssignmentOperator} → x ∷ ts ≡ y ∷ left → assignment_at y ≡ None → assignment_at x ≡ Some operator → ⊥
no_assignment e f g = absurd (cc)

pub assign_leaves : {d : Dialect} {x : Lexeme} {ts left : List Lexeme} {b : Expression} → assignment_at x ≡ None → Gives d n.unary ts b (x ∷ left) → Gives d n.cond ts b (x ∷ left)
    → Gives d n.assign ts b (x ∷ left)
assign_leaves stop h g a rest (r.assign_cond p e) = g _ _ p
assign_leaves stop h g a rest (r.assign p e q) = absurd (no_assignment (h _ _ p).0 stop e)

comma_leaves : {d : Dialect} {x : Lexeme} {ts left : List Lexeme} {b : Expression} → is_punctuator (codes ",") x ≡ false → Gives d n.assign ts b (x ∷ left) → Gives d n.comma ts b (x ∷ left)
comma_leaves stop h a rest (r.comma_one p e) = h _ _ p
comma_leaves stop h a rest (r.comma p e q) = absurd (other_sign (codes ",") (h _ _ p).0 stop e)

-- from a `postfix` up to a `comma`
pub postfix_to_comma : {d : Dialect} {x y : Lexeme} {ts left : List Lexeme} {b : Expression} → Starts y → Stops x → assignment_at x ≡ None → is_punctuator (codes ",") x ≡ false → sees_cast (y ∷ ts) ≡ false
    → Gives d n.postfix (y ∷ ts) b (x ∷ left) → Gives d n.comma (y ∷ ts) b (x ∷ left)
postfix_to_comma start stop f g e h = comma_leaves g (assign_leaves f (unary_leaves start h) (postfix_to_cond start stop e h))

-- an identifier that no `(` follows, a constant, and an expression in parentheses
pub named_leaves : {d : Dialect} (text : List ℕ) (start : ℕ) {x : Lexeme} {left : List Lexeme} → is_punctuator (codes "(") x ≡ false
    → Gives d n.primary (lexeme_of (word_of text start) ∷ x ∷ left) (t.Named (name_at (lexeme_of (word_of text start)))) (x ∷ left)
named_leaves text start f a rest (r.named e g) = (refl, refl)
named_leaves text start f a rest (r.constant e) = absurd (cc)
named_leaves text start f a rest (r.character e) = absurd (cc)
named_leaves text start f a rest (r.parenthesized e g p v) = absurd (cc)
named_leaves text start f a rest (r.call_empty e g v) = absurd (cc)
named_leaves text start f a rest (r.call e g v p w) = absurd (cc)

pub constant_leaves : {d : Dialect} (value : ℕ) (decimal unsigned : Bool) (longs : ℕ) (text : List ℕ) (start : ℕ) {left : List Lexeme}
    → Gives d n.primary (lexeme_of (token (kind.Constant value decimal unsigned longs) text start) ∷ left) (t.Constant value decimal unsigned longs (span start (start + length text))) left
constant_leaves value decimal unsigned longs text start a rest (r.named e g) = absurd (cc)
constant_leaves value decimal unsigned longs text start a rest (r.constant e) = (refl, cc)
constant_leaves value decimal unsigned longs text start a rest (r.character e) = absurd (cc)
constant_leaves value decimal unsigned longs text start a rest (r.parenthesized e g p v) = absurd (cc)
constant_leaves value decimal unsigned longs text start a rest (r.call_empty e g v) = absurd (cc)
constant_leaves value decimal unsigned longs text start a rest (r.call e g v p w) = absurd (cc)

pub same_rest : {x y : Lexeme} {ts left : List Lexeme} → x ∷ ts ≡ y ∷ left → ts ≡ left
same_rest e = cc

pub same_token : {x y : Lexeme} {ts left : List Lexeme} → x ∷ ts ≡ y ∷ left → x ≡ y
same_token e = cc

pub parenthesized_leaves : {d : Dialect} (start : ℕ) {y : Lexeme} {ts left : List Lexeme} {b : Expression} → Gives d n.comma ts b (y ∷ left)
    → Gives d n.primary (lexeme_of (punctuator (codes "(") start) ∷ ts) (t.Parenthesized b (to (at (lexeme_of (punctuator (codes "(") start))) (at y))) left
parenthesized_leaves start h a rest (r.named e g) = absurd (cc)
parenthesized_leaves start h a rest (r.constant e) = absurd (cc)
parenthesized_leaves start h a rest (r.character e) = absurd (cc)
parenthesized_leaves start {y = next} h a rest (r.parenthesized {y = y} {a = inner} e g p v) =
    let all = h _ _ p in
    (same_rest all.0, ap (λ z. t.Parenthesized inner (to (at (lexeme_of (punctuator (codes "(") start))) (at z))) (same_token all.0) ∙ ap (λ z. t.Parenthesized z (to (at (lexeme_of (punctuator (codes "(") start))) (at next))) all.1)
parenthesized_leaves start h a rest (r.call_empty e g v) = absurd (cc)
parenthesized_leaves start h a rest (r.call e g v p w) = absurd (cc)
