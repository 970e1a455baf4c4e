-- What expressions of several operators are read as.
use Rattle.std.proofs.Common.{◌≡◌, ◌≢◌, ⊎_elim, eq-or-lt_of_le, ℕ, zero, suc, ◌+◌, ◌-◌, ◌≤◌, ◌<◌, Bool, true, false, List, ◌∷◌, Some, None, if◌then◌else◌, nat_eq, refl, sym, ◌∙◌, ap, subst, codes, arith}
use Rattle.std.proofs.lemmas.Bool.{eqb-true, eq-eqb}
use Rattle.mc_lex.specs.declared.token.Dialect.{Dialect}
use Rattle.mc_tree.specs.declared.expressions.unary_operator.UnaryOperator.{UnaryOperator}
use Rattle.mc_tree.specs.declared.expressions.unary_operator.UnaryOperator.TheVariants as unary
use Rattle.mc_tree.specs.declared.expressions.step_operator.StepOperator.{StepOperator}
use Rattle.mc_tree.specs.declared.expressions.step_operator.StepOperator.TheVariants as step
use Rattle.mc_tree.specs.declared.expressions.binary_operator.BinaryOperator.{BinaryOperator}
use Rattle.mc_tree.specs.declared.expressions.binary_operator.BinaryOperator.TheVariants as binary
use Rattle.mc_tree.specs.declared.expressions.assignment_operator.AssignmentOperator.{AssignmentOperator}
use Rattle.mc_tree.specs.declared.expressions.assignment_operator.AssignmentOperator.TheVariants as assign
use Rattle.mc_tree.specs.Tree.{Expression, span_of}
use Rattle.mc_tree.specs.Tree as t
use Rattle.mc_grammar.specs.Words.{Lexeme, sees}
use Rattle.mc_grammar.specs.Places.{at, name_at, to}
use Rattle.mc_grammar.specs.Operators.{IsUnary, IsStep, operator_at, assignment_at, is_prefix}
use Rattle.mc_grammar.specs.Operators as o
use Rattle.mc_grammar.specs.Nonterminal.{Nonterminal, Level, operand}
use Rattle.mc_grammar.specs.Nonterminal as n
use Rattle.mc_grammar.specs.Expressions.{Reads}
use Rattle.mc_grammar.specs.Expressions as r
use Rattle.mc_grammar.specs.Meaning.{identifier, punctuator}
use Rattle.mc_grammar.specs.Spelling.{text_of_unary, text_of_step}
use Rattle.mc_grammar.specs.Precedence.{section}
use Rattle.mc_grammar.specs.Grouping as g
use Rattle.mc_grammar.proofs.Derivations.{quiet}
use Rattle.mc_grammar.proofs.Sections.{rank}

-- ---- levels by their sections

each : (P : Level → Type 0) → P n.product → P n.sum → P n.shift → P n.relation → P n.equality → P n.bit_and → P n.bit_xor → P n.bit_or → P n.land → P n.lor → (k : Level) → P k
each P a b c d e f g h i j n.product = a
each P a b c d e f g h i j n.sum = b
each P a b c d e f g h i j n.shift = c
each P a b c d e f g h i j n.relation = d
each P a b c d e f g h i j n.equality = e
each P a b c d e f g h i j n.bit_and = f
each P a b c d e f g h i j n.bit_xor = g
each P a b c d e f g h i j n.bit_or = h
each P a b c d e f g h i j n.land = i
each P a b c d e f g h i j n.lor = j

next : Level → Level
next n.product = n.sum
next n.sum = n.shift
next n.shift = n.relation
next n.relation = n.equality
next n.equality = n.bit_and
next n.bit_and = n.bit_xor
next n.bit_xor = n.bit_or
next n.bit_or = n.land
next n.land = n.lor
next n.lor = n.lor

-- so many levels above the first
above : ℕ → Level
above zero = n.product
above (suc k) = next (above k)

level_at : ℕ → Level
level_at s = above (s - 5)

at_rank : (k : Level) → level_at (rank k) ≡ k
unfolding level_at above next
at_rank = each (λ k. level_at (rank k) ≡ k) refl refl refl refl refl refl refl refl refl refl

same_level : (k m : Level) → rank k ≡ rank m → k ≡ m
same_level k m e = sym (at_rank k) ∙ ap level_at e ∙ at_rank m

next_rank : (k : Level) → rank k < 14 → rank (next k) ≡ rank k + 1
unfolding next
next_rank = each (λ k. rank k < 14 → rank (next k) ≡ rank k + 1) (λ e. refl) (λ e. refl) (λ e. refl) (λ e. refl) (λ e. refl) (λ e. refl) (λ e. refl) (λ e. refl) (λ e. refl) (λ e. absurd (omega (arith, e)))

next_operand : (k : Level) → rank k < 14 → operand (next k) ≡ n.level k
unfolding next
next_operand = each (λ k. rank k < 14 → operand (next k) ≡ n.level k) (λ e. refl) (λ e. refl) (λ e. refl) (λ e. refl) (λ e. refl) (λ e. refl) (λ e. refl) (λ e. refl) (λ e. refl) (λ e. absurd (omega (arith, e)))

top : (k : Level) → rank k ≤ 14
top = each (λ k. rank k ≤ 14) (omega arith) (omega arith) (omega arith) (omega arith) (omega arith) (omega arith) (omega arith) (omega arith) (omega arith) (omega arith)

-- each operator stands at the level of its section, and at no other
At : BinaryOperator → ℕ → Level → Type 0
At operator place k = operator_at k (g.infix_token operator place) ≡ (if nat_eq (rank k) (section operator) then Some operator else None)

stands : (operator : BinaryOperator) (place : ℕ) (k : Level) → At operator place k
unfolding At
stands binary.Multiply place = each (At binary.Multiply place) refl refl refl refl refl refl refl refl refl refl
stands binary.Divide place = each (At binary.Divide place) refl refl refl refl refl refl refl refl refl refl
stands binary.Remainder place = each (At binary.Remainder place) refl refl refl refl refl refl refl refl refl refl
stands binary.Add place = each (At binary.Add place) refl refl refl refl refl refl refl refl refl refl
stands binary.Subtract place = each (At binary.Subtract place) refl refl refl refl refl refl refl refl refl refl
stands binary.ShiftLeft place = each (At binary.ShiftLeft place) refl refl refl refl refl refl refl refl refl refl
stands binary.ShiftRight place = each (At binary.ShiftRight place) refl refl refl refl refl refl refl refl refl refl
stands binary.Less place = each (At binary.Less place) refl refl refl refl refl refl refl refl refl refl
stands binary.Greater place = each (At binary.Greater place) refl refl refl refl refl refl refl refl refl refl
stands binary.LessOrEqual place = each (At binary.LessOrEqual place) refl refl refl refl refl refl refl refl refl refl
stands binary.GreaterOrEqual place = each (At binary.GreaterOrEqual place) refl refl refl refl refl refl refl refl refl refl
stands binary.Equal place = each (At binary.Equal place) refl refl refl refl refl refl refl refl refl refl
stands binary.Unequal place = each (At binary.Unequal place) refl refl refl refl refl refl refl refl refl refl
stands binary.BitAnd place = each (At binary.BitAnd place) refl refl refl refl refl refl refl refl refl refl
stands binary.BitXor place = each (At binary.BitXor place) refl refl refl refl refl refl refl refl refl refl
stands binary.BitOr place = each (At binary.BitOr place) refl refl refl refl refl refl refl refl refl refl
stands binary.And place = each (At binary.And place) refl refl refl refl refl refl refl refl refl refl
stands binary.Or place = each (At binary.Or place) refl refl refl refl refl refl refl refl refl refl

chosen : {A : Type 0} (b : Bool) (x y : A) → b ≡ true → (if b then x else y) ≡ x
chosen true x y e = refl
chosen false x y e = cc

others : {A : Type 0} (b : Bool) (x y : A) → (b ≡ true → ⊥) → (if b then x else y) ≡ y
others true x y h = absurd (h refl)
others false x y h = refl

operator_here : (operator : BinaryOperator) (place : ℕ) (k : Level) → rank k ≡ section operator → operator_at k (g.infix_token operator place) ≡ Some operator
unfolding At
operator_here operator place k e = stands operator place k ∙ chosen (nat_eq (rank k) (section operator)) (Some operator) None (eq-eqb (rank k) (section operator) e)

none_here : (operator : BinaryOperator) (place : ℕ) (k : Level) → rank k ≢ section operator → operator_at k (g.infix_token operator place) ≡ None
unfolding At
none_here operator place k h = stands operator place k ∙ others (nat_eq (rank k) (section operator)) (Some operator) None (λ e. h (eqb-true (rank k) (section operator) e))

level_of : BinaryOperator → Level
level_of operator = level_at (section operator)

level_section : (operator : BinaryOperator) → rank (level_of operator) ≡ section operator
unfolding level_of level_at above next
level_section binary.Multiply = refl
level_section binary.Divide = refl
level_section binary.Remainder = refl
level_section binary.Add = refl
level_section binary.Subtract = refl
level_section binary.ShiftLeft = refl
level_section binary.ShiftRight = refl
level_section binary.Less = refl
level_section binary.Greater = refl
level_section binary.LessOrEqual = refl
level_section binary.GreaterOrEqual = refl
level_section binary.Equal = refl
level_section binary.Unequal = refl
level_section binary.BitAnd = refl
level_section binary.BitXor = refl
level_section binary.BitOr = refl
level_section binary.And = refl
level_section binary.Or = refl

-- ---- from level to level, where the next token is no operator of those between

climb : {d : Dialect} {x : Lexeme} {ts rest : List Lexeme} {a : Expression} (steps : ℕ) (m k : Level) → rank m + steps ≡ rank k → Reads d (n.level m) ts a (x ∷ rest)
    → ((j : Level) → rank m < rank j → rank j ≤ rank k → operator_at j x ≡ None) → Reads d (n.level k) ts a (x ∷ rest)
climb {d = d} {x = x} {ts = ts} {rest = rest} {a = a} zero m k e p f = subst (λ j. Reads d (n.level j) ts a (x ∷ rest)) (same_level m k (omega (arith, e))) p
climb {d = d} {x = x} {ts = ts} {rest = rest} {a = a} (suc steps) m k e p f =
    let low : rank m < 14 = omega (arith, e, top k) in
    let up : rank (next m) ≡ rank m + 1 = next_rank m low in
    let q = subst (λ y. Reads d y ts a (x ∷ rest)) (sym (next_operand m low)) p in
    climb steps (next m) k (omega (arith, e, up)) (r.level q (r.operations_end (f (next m) (omega (arith, up)) (omega (arith, e, up))))) (λ j h i. f j (omega (arith, h, up)) i)

-- the level below
below : (k : Level) → 5 < rank k → (j : Level) × (rank j + 1 ≡ rank k) × (n.level j ≡ operand k)
below =
    each (λ k. 5 < rank k → (j : Level) × (rank j + 1 ≡ rank k) × (n.level j ≡ operand k)) (λ e. absurd (omega (arith, e)))
    (λ e. (n.product, refl, refl)) (λ e. (n.sum, refl, refl)) (λ e. (n.shift, refl, refl)) (λ e. (n.relation, refl, refl)) (λ e. (n.equality, refl, refl))
    (λ e. (n.bit_and, refl, refl)) (λ e. (n.bit_xor, refl, refl)) (λ e. (n.bit_or, refl, refl)) (λ e. (n.land, refl, refl))

bottom : (k : Level) → 5 ≤ rank k
bottom = each (λ k. 5 ≤ rank k) (omega arith) (omega arith) (omega arith) (omega arith) (omega arith) (omega arith) (omega arith) (omega arith) (omega arith) (omega arith)

-- from a level to the operand of a higher one
to_operand : {d : Dialect} {x : Lexeme} {ts rest : List Lexeme} {a : Expression} (m k : Level) → rank m < rank k → Reads d (n.level m) ts a (x ∷ rest)
    → ((j : Level) → rank m < rank j → rank j < rank k → operator_at j x ≡ None) → Reads d (operand k) ts a (x ∷ rest)
to_operand {d = d} {x = x} {ts = ts} {rest = rest} {a = a} m k e p f =
    let h = below k (omega (arith, e, bottom m)) in
    let q = climb (rank h.0 - rank m) m h.0 (omega (arith, e, h.1)) p (λ j i l. f j i (omega (arith, l, h.1))) in
    subst (λ y. Reads d y ts a (x ∷ rest)) h.2 q

-- from a cast to the operand of a level
higher : {d : Dialect} {x : Lexeme} {ts rest : List Lexeme} {a : Expression} (k : Level) → 5 < rank k → Reads d n.cast ts a (x ∷ rest)
    → ((j : Level) → rank j < rank k → operator_at j x ≡ None) → Reads d (operand k) ts a (x ∷ rest)
higher k e p f = to_operand n.product k e (r.level p (r.operations_end (f n.product e))) (λ j h i. f j i)

cast_to_operand : {d : Dialect} {x : Lexeme} {ts rest : List Lexeme} {a : Expression} (k : Level) → Reads d n.cast ts a (x ∷ rest)
    → ((j : Level) → rank j < rank k → operator_at j x ≡ None) → Reads d (operand k) ts a (x ∷ rest)
cast_to_operand n.product p f = p
cast_to_operand n.sum p f = higher n.sum (omega arith) p f
cast_to_operand n.shift p f = higher n.shift (omega arith) p f
cast_to_operand n.relation p f = higher n.relation (omega arith) p f
cast_to_operand n.equality p f = higher n.equality (omega arith) p f
cast_to_operand n.bit_and p f = higher n.bit_and (omega arith) p f
cast_to_operand n.bit_xor p f = higher n.bit_xor (omega arith) p f
cast_to_operand n.bit_or p f = higher n.bit_or (omega arith) p f
cast_to_operand n.land p f = higher n.land (omega arith) p f
cast_to_operand n.lor p f = higher n.lor (omega arith) p f

-- from a level to the highest, where no operator follows
IsQuiet : Lexeme → Type 0
IsQuiet x = (k : Level) → operator_at k x ≡ None

to_lor : {d : Dialect} {x : Lexeme} {ts rest : List Lexeme} {a : Expression} (k : Level) → IsQuiet x → Reads d (n.level k) ts a (x ∷ rest) → Reads d (n.level n.lor) ts a (x ∷ rest)
unfolding IsQuiet
to_lor k f p = climb (14 - rank k) k n.lor (omega (arith, top k)) p (λ j h i. f j)

-- an operand before an operator of another section, to the operand of a level that is no higher than the operator
before : {d : Dialect} {ts rest : List Lexeme} {a : Expression} (operator : BinaryOperator) (place : ℕ) (k : Level) → rank k ≤ section operator
    → Reads d n.cast ts a (g.infix_token operator place ∷ rest) → Reads d (operand k) ts a (g.infix_token operator place ∷ rest)
before operator place k e p = cast_to_operand k p (λ j h. none_here operator place j (λ i. omega (arith, e, h, i)))

ends : {d : Dialect} {x : Lexeme} {ts rest : List Lexeme} {a : Expression} (k : Level) → IsQuiet x → Reads d n.cast ts a (x ∷ rest) → Reads d (operand k) ts a (x ∷ rest)
unfolding IsQuiet
ends k f p = cast_to_operand k p (λ j h. f j)

-- one operator, up to a token that is none
one_operator : {d : Dialect} {x : Lexeme} {ts us rest : List Lexeme} {a b : Expression} (o : BinaryOperator) (i : ℕ) → IsQuiet x
    → g.Operand d ts a (g.infix_token o i ∷ us) → g.Operand d us b (x ∷ rest) → Reads d (n.level (level_of o)) ts (g.binary o a b) (x ∷ rest)
unfolding IsQuiet
one_operator o i f p q =
    let e = level_section o in
    r.level (before o i (level_of o) (omega (arith, e)) p) (r.operation (operator_here o i (level_of o) e) (ends (level_of o) f q) (r.operations_end (f (level_of o))))

-- two operators of one section
same_section : {d : Dialect} {x : Lexeme} {ts us vs rest : List Lexeme} {a b c : Expression} (o p : BinaryOperator) (i j : ℕ) → IsQuiet x → section o ≡ section p
    → g.Operand d ts a (g.infix_token o i ∷ us) → g.Operand d us b (g.infix_token p j ∷ vs) → g.Operand d vs c (x ∷ rest)
    → Reads d (n.level (level_of p)) ts (g.binary p (g.binary o a b) c) (x ∷ rest)
unfolding IsQuiet
same_section o p i j f h u v w =
    let e = level_section p in
    let k = level_of p in
    r.level (before o i k (omega (arith, e, h)) u) (r.operation (operator_here o i k (e ∙ sym h)) (before p j k (omega (arith, e)) v)
    (r.operation (operator_here p j k e) (ends k f w) (r.operations_end (f k))))

-- the first of an earlier one
first_closer : {d : Dialect} {x : Lexeme} {ts us vs rest : List Lexeme} {a b c : Expression} (o p : BinaryOperator) (i j : ℕ) → IsQuiet x → section o < section p
    → g.Operand d ts a (g.infix_token o i ∷ us) → g.Operand d us b (g.infix_token p j ∷ vs) → g.Operand d vs c (x ∷ rest)
    → Reads d (n.level (level_of p)) ts (g.binary p (g.binary o a b) c) (x ∷ rest)
unfolding IsQuiet
first_closer o p i j f h u v w =
    let e = level_section p in
    let l = level_section o in
    let k = level_of p in
    let m = level_of o in
    let q = r.level (before o i m (omega (arith, l)) u) (r.operation (operator_here o i m l) (before p j m (omega (arith, l, h)) v) (r.operations_end (none_here p j m (λ y. omega (arith, l, h, y))))) in
    let z = to_operand m k (omega (arith, e, l, h)) q (λ y _ less. none_here p j y (λ same. omega (arith, e, less, same))) in
    r.level z (r.operation (operator_here p j k e) (ends k f w) (r.operations_end (f k)))

-- the second of an earlier one
second_closer : {d : Dialect} {x : Lexeme} {ts us vs rest : List Lexeme} {a b c : Expression} (o p : BinaryOperator) (i j : ℕ) → IsQuiet x → section p < section o
    → g.Operand d ts a (g.infix_token o i ∷ us) → g.Operand d us b (g.infix_token p j ∷ vs) → g.Operand d vs c (x ∷ rest)
    → Reads d (n.level (level_of o)) ts (g.binary o a (g.binary p b c)) (x ∷ rest)
unfolding IsQuiet
second_closer o p i j f h u v w =
    let e = level_section p in
    let l = level_section o in
    let k = level_of o in
    let z = to_operand (level_of p) k (omega (arith, e, l, h)) (one_operator p j f v w) (λ y _ _. f y) in
    r.level (before o i k (omega (arith, l)) u) (r.operation (operator_here o i k l) z (r.operations_end (f k)))

-- ---- up to whole expressions

semicolon_quiet : (place : ℕ) → IsQuiet (punctuator (codes ";") place)
unfolding IsQuiet
semicolon_quiet place k = quiet _ refl refl refl refl refl refl refl refl refl refl k

question_quiet : (place : ℕ) → IsQuiet (punctuator (codes "?") place)
unfolding IsQuiet
question_quiet place k = quiet _ refl refl refl refl refl refl refl refl refl refl k

colon_quiet : (place : ℕ) → IsQuiet (punctuator (codes ":") place)
unfolding IsQuiet
colon_quiet place k = quiet _ refl refl refl refl refl refl refl refl refl refl k

comma_quiet : (place : ℕ) → IsQuiet (punctuator (codes ",") place)
unfolding IsQuiet
comma_quiet place k = quiet _ refl refl refl refl refl refl refl refl refl refl k

bracket_quiet : (place : ℕ) → IsQuiet (punctuator (codes "]") place)
unfolding IsQuiet
bracket_quiet place k = quiet _ refl refl refl refl refl refl refl refl refl refl k

lor_of : {d : Dialect} {x : Lexeme} {ts rest : List Lexeme} {a : Expression} → IsQuiet x → g.Operand d ts a (x ∷ rest) → Reads d (n.level n.lor) ts a (x ∷ rest)
unfolding IsQuiet
lor_of f p = r.level (ends n.lor f p) (r.operations_end (f n.lor))

whole : {d : Dialect} {ts rest : List Lexeme} {a : Expression} {place : ℕ} → Reads d n.cond ts a (punctuator (codes ";") place ∷ rest) → g.Whole d ts a place rest
whole p = r.comma_one (r.assign_cond p refl) refl

-- between `?` and `:`
middle : {d : Dialect} {ts rest : List Lexeme} {a : Expression} (place : ℕ) → g.Operand d ts a (punctuator (codes ":") place ∷ rest) → Reads d n.comma ts a (punctuator (codes ":") place ∷ rest)
middle place p = r.comma_one (r.assign_cond (r.cond_level (lor_of (colon_quiet place) p) refl) refl) refl

pub left : g.GroupsToTheLeft
left d o p i j k ts us vs rest a b c e u v w =
    whole (r.cond_level (to_lor (level_of p) (semicolon_quiet k)
    (⊎_elim (λ h. same_section o p i j (semicolon_quiet k) h u v w) (λ h. first_closer o p i j (semicolon_quiet k) h u v w) (eq-or-lt_of_le e))) refl)

pub right : g.GroupsToTheRight
right d o p i j k ts us vs rest a b c e u v w = whole (r.cond_level (to_lor (level_of o) (semicolon_quiet k) (second_closer o p i j (semicolon_quiet k) e u v w)) refl)

pub conditional_right : g.ConditionalGroupsToTheRight
conditional_right d i j k l m ts us vs ws xs rest a b c e f p q u v w =
    whole (r.cond (lor_of (question_quiet i) p) refl (middle j q) refl
    (r.cond (lor_of (question_quiet k) u) refl (middle l v) refl (r.cond_level (lor_of (semicolon_quiet m) w) refl)))

pub conditional_takes : g.ConditionalTakesBinary
conditional_takes d o i j k l ts us vs ws rest a b c e p q u v =
    whole (r.cond (to_lor (level_of o) (question_quiet j) (one_operator o i (question_quiet j) p q)) refl (middle k u) refl (r.cond_level (lor_of (semicolon_quiet l) v) refl))

pub conditional_ends : g.ConditionalEndsWithBinary
conditional_ends d o i j k l ts us vs ws rest a b c e p q u v =
    whole (r.cond (lor_of (question_quiet i) p) refl (middle j q) refl (r.cond_level (to_lor (level_of o) (semicolon_quiet l) (one_operator o k (semicolon_quiet l) u v)) refl))

assigns : (operator : AssignmentOperator) (place : ℕ) → assignment_at (g.assigning operator place) ≡ Some operator
assigns assign.Assign place = refl
assigns assign.Multiply place = refl
assigns assign.Divide place = refl
assigns assign.Remainder place = refl
assigns assign.Add place = refl
assigns assign.Subtract place = refl
assigns assign.ShiftLeft place = refl
assigns assign.ShiftRight place = refl
assigns assign.BitAnd place = refl
assigns assign.BitXor place = refl
assigns assign.BitOr place = refl

value : {d : Dialect} {ts rest : List Lexeme} {a : Expression} {place : ℕ} → Reads d n.cond ts a (punctuator (codes ";") place ∷ rest) → Reads d n.assign ts a (punctuator (codes ";") place ∷ rest)
value p = r.assign_cond p refl

pub assignment_right : g.AssignmentGroupsToTheRight
assignment_right d o p i j k ts us vs rest a b c u v w =
    r.comma_one (r.assign u (assigns o i) (r.assign v (assigns p j) (value (r.cond_level (lor_of (semicolon_quiet k) w) refl)))) refl

pub assignment_binary : g.AssignmentTakesBinary
assignment_binary d o p i j k ts us vs rest a b c u v w =
    r.comma_one (r.assign u (assigns o i) (value (r.cond_level (to_lor (level_of p) (semicolon_quiet k) (one_operator p j (semicolon_quiet k) v w)) refl))) refl

pub assignment_conditional : g.AssignmentTakesConditional
assignment_conditional d o i j k l ts us vs ws rest a b c e p q u v =
    r.comma_one (r.assign p (assigns o i) (value (r.cond (lor_of (question_quiet j) q) refl (middle k u) refl (r.cond_level (lor_of (semicolon_quiet l) v) refl)))) refl

pub comma_assignment : g.CommaTakesAssignment
comma_assignment d o i j k ts us vs rest a b c u v w =
    r.comma (r.assign u (assigns o i) (r.assign_cond (r.cond_level (lor_of (comma_quiet j) v) refl) refl)) refl
    (r.last_expression (value (r.cond_level (lor_of (semicolon_quiet k) w) refl)) refl)

unary_of : (operator : UnaryOperator) (place : ℕ) → IsUnary (punctuator (text_of_unary operator) place) operator
unary_of unary.Plus place = o.plus refl
unary_of unary.Minus place = o.minus refl
unary_of unary.Complement place = o.complement refl
unary_of unary.Not place = o.not refl
unary_of unary.Dereference place = o.dereference refl
unary_of unary.Address place = o.address refl

step_of : (operator : StepOperator) (place : ℕ) → IsStep (punctuator (text_of_step operator) place) operator
step_of step.Increment place = o.increment refl
step_of step.Decrement place = o.decrement refl

-- a prefix operator is not a `(`
first : {d : Dialect} (operator : UnaryOperator) (i : ℕ) {ts rest : List Lexeme} {a : Expression}
    → Reads d n.unary (punctuator (text_of_unary operator) i ∷ ts) a rest → Reads d n.cast (punctuator (text_of_unary operator) i ∷ ts) a rest
first unary.Plus i p = r.cast_unary refl p
first unary.Minus i p = r.cast_unary refl p
first unary.Complement i p = r.cast_unary refl p
first unary.Not i p = r.cast_unary refl p
first unary.Dereference i p = r.cast_unary refl p
first unary.Address i p = r.cast_unary refl p

-- a prefix operator before a name and its suffixes
prefixed : {d : Dialect} (operator : UnaryOperator) (x : List ℕ) (i j : ℕ) {ts rest : List Lexeme} {a : Expression} → sees (codes "(") ts ≡ false
    → Reads d (n.suffixes (t.Named (name_at (identifier x j)))) ts a rest
    → g.Operand d (punctuator (text_of_unary operator) i ∷ identifier x j ∷ ts) (t.Unary operator a (to (at (punctuator (text_of_unary operator) i)) (span_of a))) rest
prefixed operator x i j e p =
    let q = r.cast_unary refl (r.unary_postfix refl (r.postfix (r.named refl e) p)) in
    first operator i (r.unary (unary_of operator i) q)

step_call : (operator : StepOperator) (place : ℕ) (rest : List Lexeme) → sees (codes "(") (punctuator (text_of_step operator) place ∷ rest) ≡ false
step_call step.Increment place rest = refl
step_call step.Decrement place rest = refl

pub prefix_suffix : g.PrefixTakesSuffix
prefix_suffix d o s x y i j k l m v rest = (
  prefixed o x i j refl (r.index refl (r.comma_one (r.assign_cond (r.cond_level (lor_of (bracket_quiet m) (r.cast_unary refl (r.unary_postfix refl (r.postfix (r.named refl refl) (r.suffixes_end refl))))) refl) refl) refl) refl (r.suffixes_end refl)),
  prefixed o x i j refl (r.member refl refl (r.suffixes_end refl)),
  prefixed o x i j (step_call s k (punctuator (codes ";") v ∷ rest)) (r.postfix_step (step_of s k) (r.suffixes_end refl)),
)

pub prefix_cast : g.PrefixTakesCast
prefix_cast d o type x i j k l m v rest =
    first o i (r.unary (unary_of o i) (r.cast refl refl (r.type_name (r.typedef_name refl (r.specifiers_end refl)) refl (r.no_star refl)) refl
    (r.cast_unary refl (r.unary_postfix refl (r.postfix (r.named refl refl) (r.suffixes_end refl))))))
