-- What the next token is, and which parts of an expression end before it.
use Rattle.std.proofs.Common.{◌≡◌, ℕ, Bool, true, false, ◌&&◌, List, [], ◌∷◌, Some, None, refl, sym, ap, ◌∙◌, subst, codes, true≢false}
use Rattle.std.specs.Str.{bytes_eq}
use Rattle.std.proofs.lemmas.Slice.Eq.{bytes_eq-Decides}
use Rattle.mc_lex.specs.declared.token.TokenKind.{TokenKind}
use Rattle.mc_lex.specs.declared.token.TokenKind.TheVariants as kind
use Rattle.mc_tree.specs.declared.expressions.step_operator.StepOperator.{StepOperator}
use Rattle.mc_tree.specs.declared.expressions.binary_operator.BinaryOperator.{BinaryOperator}
use Rattle.mc_tree.specs.declared.expressions.binary_operator.BinaryOperator.TheVariants as binary
use Rattle.mc_tree.specs.declared.expressions.assignment_operator.AssignmentOperator.{AssignmentOperator}
use Rattle.mc_tree.specs.declared.expressions.assignment_operator.AssignmentOperator.TheVariants as assign
use Rattle.mc_grammar.specs.Words.{Lexeme, is_punctuator_kind, is_punctuator, next_is, sees}
use Rattle.mc_grammar.specs.Operators.{IsStep, operator_at, operator_next, assignment_at, sees_assignment, is_suffix}
use Rattle.mc_grammar.specs.Operators as o
use Rattle.mc_grammar.specs.Nonterminal.{Nonterminal, Level, operand}
use Rattle.mc_grammar.specs.Nonterminal as n
use Rattle.mc_grammar.proofs.Spelling.{found, none}

-- ---- a token that is some punctuator

abbrev pub signed : List ℕ → ℕ → Bool → Lexeme
signed text start mark = record { token = record { kind = kind.Punctuator; text = text; start = start }; names_type = mark }

is_sign : (k : TokenKind) → is_punctuator_kind k ≡ true → k ≡ kind.Punctuator
is_sign kind.Punctuator e = refl
is_sign kind.Identifier e = absurd (true≢false (sym e))
is_sign kind.Keyword e = absurd (true≢false (sym e))
is_sign (kind.Constant value decimal unsigned longs) e = absurd (true≢false (sym e))
is_sign (kind.Character value) e = absurd (true≢false (sym e))

left_holds : (a b : Bool) → (a && b) ≡ true → a ≡ true
left_holds true b e = refl
left_holds false b e = e

right_holds : (a b : Bool) → (a && b) ≡ true → b ≡ true
right_holds true b e = e
right_holds false b e = absurd (true≢false (sym e))

pub signs : (text : List ℕ) (x : Lexeme) → is_punctuator text x ≡ true → x ≡ signed text x.token.start x.names_type
signs text x e =
    ap (λ k. record { token = record { kind = k; text = x.token.text; start = x.token.start }; names_type = x.names_type }) (is_sign x.token.kind (left_holds (is_punctuator_kind x.token.kind) (bytes_eq x.token.text text) e))
    ∙ ap (λ bytes. signed bytes x.token.start x.names_type) ((bytes_eq-Decides x.token.text text).0 (right_holds (is_punctuator_kind x.token.kind) (bytes_eq x.token.text text) e))

-- what holds of each such token holds of this one
pub of_sign : (P : Lexeme → Type 0) (text : List ℕ) (x : Lexeme) → is_punctuator text x ≡ true → ((start : ℕ) (mark : Bool) → P (signed text start mark)) → P x
of_sign P text x e h = subst P (sym (signs text x e)) (h x.token.start x.names_type)

-- ---- next tokens that continue nothing

abbrev pub Calm : List Lexeme → Type 0
Calm ts = (sees (codes "(") ts ≡ false) × (next_is is_suffix ts ≡ false)

abbrev pub AfterProduct : List Lexeme → Type 0
AfterProduct ts = Calm ts × (operator_next n.product ts ≡ None)

abbrev pub AfterSum : List Lexeme → Type 0
AfterSum ts = AfterProduct ts × (operator_next n.sum ts ≡ None)

abbrev pub AfterShift : List Lexeme → Type 0
AfterShift ts = AfterSum ts × (operator_next n.shift ts ≡ None)

abbrev pub AfterRelation : List Lexeme → Type 0
AfterRelation ts = AfterShift ts × (operator_next n.relation ts ≡ None)

abbrev pub AfterEquality : List Lexeme → Type 0
AfterEquality ts = AfterRelation ts × (operator_next n.equality ts ≡ None)

abbrev pub AfterBitAnd : List Lexeme → Type 0
AfterBitAnd ts = AfterEquality ts × (operator_next n.bit_and ts ≡ None)

abbrev pub AfterBitXor : List Lexeme → Type 0
AfterBitXor ts = AfterBitAnd ts × (operator_next n.bit_xor ts ≡ None)

abbrev pub AfterBitOr : List Lexeme → Type 0
AfterBitOr ts = AfterBitXor ts × (operator_next n.bit_or ts ≡ None)

abbrev pub AfterAnd : List Lexeme → Type 0
AfterAnd ts = AfterBitOr ts × (operator_next n.land ts ≡ None)

abbrev pub AfterOr : List Lexeme → Type 0
AfterOr ts = AfterAnd ts × (operator_next n.lor ts ≡ None)

abbrev pub AfterLevel : Level → List Lexeme → Type 0
AfterLevel n.product ts = AfterProduct ts
AfterLevel n.sum ts = AfterSum ts
AfterLevel n.shift ts = AfterShift ts
AfterLevel n.relation ts = AfterRelation ts
AfterLevel n.equality ts = AfterEquality ts
AfterLevel n.bit_and ts = AfterBitAnd ts
AfterLevel n.bit_xor ts = AfterBitXor ts
AfterLevel n.bit_or ts = AfterBitOr ts
AfterLevel n.land ts = AfterAnd ts
AfterLevel n.lor ts = AfterOr ts

abbrev pub AfterCond : List Lexeme → Type 0
AfterCond ts = AfterOr ts × (sees (codes "?") ts ≡ false)

abbrev pub AfterAssign : List Lexeme → Type 0
AfterAssign ts = AfterCond ts × (sees_assignment ts ≡ false)

abbrev pub AfterComma : List Lexeme → Type 0
AfterComma ts = AfterAssign ts × (sees (codes ",") ts ≡ false)

-- the next token continues nothing of this nonterminal
abbrev pub After : Nonterminal → List Lexeme → Type 0
After n.comma ts = AfterComma ts
After n.assign ts = AfterAssign ts
After n.cond ts = AfterCond ts
After (n.level k) ts = AfterLevel k ts
After (n.operations k a) ts = AfterLevel k ts
After n.primary ts = sees (codes "(") ts ≡ false
After _ ts = Calm ts

-- what ends a level ends its operands, and no operator of it is next
pub below : (k : Level) (ts : List Lexeme) → AfterLevel k ts → After (operand k) ts
below n.product ts q = q.0
below n.sum ts q = q.0
below n.shift ts q = q.0
below n.relation ts q = q.0
below n.equality ts q = q.0
below n.bit_and ts q = q.0
below n.bit_xor ts q = q.0
below n.bit_or ts q = q.0
below n.land ts q = q.0
below n.lor ts q = q.0

pub no_operator : (k : Level) (ts : List Lexeme) → AfterLevel k ts → operator_next k ts ≡ None
no_operator n.product ts q = q.1
no_operator n.sum ts q = q.1
no_operator n.shift ts q = q.1
no_operator n.relation ts q = q.1
no_operator n.equality ts q = q.1
no_operator n.bit_and ts q = q.1
no_operator n.bit_xor ts q = q.1
no_operator n.bit_or ts q = q.1
no_operator n.land ts q = q.1
no_operator n.lor ts q = q.1

-- after a comma expression nothing of a level goes on
pub level_after : (k : Level) (ts : List Lexeme) → AfterComma ts → AfterLevel k ts
level_after n.product ts q = q.0.0.0.0.0.0.0.0.0.0.0.0
level_after n.sum ts q = q.0.0.0.0.0.0.0.0.0.0.0
level_after n.shift ts q = q.0.0.0.0.0.0.0.0.0.0
level_after n.relation ts q = q.0.0.0.0.0.0.0.0.0
level_after n.equality ts q = q.0.0.0.0.0.0.0.0
level_after n.bit_and ts q = q.0.0.0.0.0.0.0
level_after n.bit_xor ts q = q.0.0.0.0.0.0
level_after n.bit_or ts q = q.0.0.0.0.0
level_after n.land ts q = q.0.0.0.0
level_after n.lor ts q = q.0.0.0

pub calm_after : (ts : List Lexeme) → AfterComma ts → Calm ts
calm_after ts q = (level_after n.product ts q).0

-- ---- tokens at which an expression ends

pub at_closing : (x : Lexeme) (ts : List Lexeme) → is_punctuator (codes ")") x ≡ true → AfterComma (x ∷ ts)
at_closing x ts e = of_sign (λ x. AfterComma (x ∷ ts)) (codes ")") x e (λ start mark. ((((((((((((((refl, refl), refl), refl), refl), refl), refl), refl), refl), refl), refl), refl), refl), refl), refl))

pub at_bracket : (x : Lexeme) (ts : List Lexeme) → is_punctuator (codes "]") x ≡ true → AfterComma (x ∷ ts)
at_bracket x ts e = of_sign (λ x. AfterComma (x ∷ ts)) (codes "]") x e (λ start mark. ((((((((((((((refl, refl), refl), refl), refl), refl), refl), refl), refl), refl), refl), refl), refl), refl), refl))

pub at_brace : (x : Lexeme) (ts : List Lexeme) → is_punctuator (codes "}") x ≡ true → AfterComma (x ∷ ts)
at_brace x ts e = of_sign (λ x. AfterComma (x ∷ ts)) (codes "}") x e (λ start mark. ((((((((((((((refl, refl), refl), refl), refl), refl), refl), refl), refl), refl), refl), refl), refl), refl), refl))

pub at_semicolon : (x : Lexeme) (ts : List Lexeme) → is_punctuator (codes ";") x ≡ true → AfterComma (x ∷ ts)
at_semicolon x ts e = of_sign (λ x. AfterComma (x ∷ ts)) (codes ";") x e (λ start mark. ((((((((((((((refl, refl), refl), refl), refl), refl), refl), refl), refl), refl), refl), refl), refl), refl), refl))

pub at_colon : (x : Lexeme) (ts : List Lexeme) → is_punctuator (codes ":") x ≡ true → AfterComma (x ∷ ts)
at_colon x ts e = of_sign (λ x. AfterComma (x ∷ ts)) (codes ":") x e (λ start mark. ((((((((((((((refl, refl), refl), refl), refl), refl), refl), refl), refl), refl), refl), refl), refl), refl), refl))

pub at_comma : (x : Lexeme) (ts : List Lexeme) → is_punctuator (codes ",") x ≡ true → AfterAssign (x ∷ ts)
at_comma x ts e = of_sign (λ x. AfterAssign (x ∷ ts)) (codes ",") x e (λ start mark. (((((((((((((refl, refl), refl), refl), refl), refl), refl), refl), refl), refl), refl), refl), refl), refl))

pub at_question : (x : Lexeme) (ts : List Lexeme) → is_punctuator (codes "?") x ≡ true → AfterOr (x ∷ ts)
at_question x ts e = of_sign (λ x. AfterOr (x ∷ ts)) (codes "?") x e (λ start mark. (((((((((((refl, refl), refl), refl), refl), refl), refl), refl), refl), refl), refl), refl))

-- after a closing parenthesis in the steps
pub at_end : (ts : List Lexeme) → sees (codes ")") ts ≡ true → AfterComma ts
at_end [] e = absurd (true≢false (sym e))
at_end (x ∷ ts) e = at_closing x ts e

-- ---- operators

-- a suffix is no `(`
pub at_index : (x : Lexeme) (ts : List Lexeme) → is_punctuator (codes "[") x ≡ true → sees (codes "(") (x ∷ ts) ≡ false
at_index x ts e = of_sign (λ x. is_punctuator (codes "(") x ≡ false) (codes "[") x e (λ start mark. refl)

pub at_member : (x : Lexeme) (ts : List Lexeme) → is_punctuator (codes ".") x ≡ true → sees (codes "(") (x ∷ ts) ≡ false
at_member x ts e = of_sign (λ x. is_punctuator (codes "(") x ≡ false) (codes ".") x e (λ start mark. refl)

pub at_step : (x : Lexeme) (ts : List Lexeme) {operator : StepOperator} → IsStep x operator → sees (codes "(") (x ∷ ts) ≡ false
at_step x ts (o.increment e) = of_sign (λ x. is_punctuator (codes "(") x ≡ false) (codes "++") x e (λ start mark. refl)
at_step x ts (o.decrement e) = of_sign (λ x. is_punctuator (codes "(") x ≡ false) (codes "--") x e (λ start mark. refl)

-- an operator of a level ends its operands
pub at_operator : (k : Level) (x : Lexeme) (ts : List Lexeme) {operator : BinaryOperator} → operator_at k x ≡ Some operator → After (operand k) (x ∷ ts)
at_operator n.product x ts e =
    found (λ a. Calm (x ∷ ts)) (is_punctuator (codes "*") x) binary.Multiply _ (λ f. of_sign (λ x. Calm (x ∷ ts)) (codes "*") x f (λ start mark. (refl, refl)))
    (found (λ a. Calm (x ∷ ts)) (is_punctuator (codes "/") x) binary.Divide _ (λ f. of_sign (λ x. Calm (x ∷ ts)) (codes "/") x f (λ start mark. (refl, refl)))
    (found (λ a. Calm (x ∷ ts)) (is_punctuator (codes "%") x) binary.Remainder None (λ f. of_sign (λ x. Calm (x ∷ ts)) (codes "%") x f (λ start mark. (refl, refl)))
    (none (λ a. Calm (x ∷ ts))))) e
at_operator n.sum x ts e =
    found (λ a. AfterProduct (x ∷ ts)) (is_punctuator (codes "+") x) binary.Add _ (λ f. of_sign (λ x. AfterProduct (x ∷ ts)) (codes "+") x f (λ start mark. ((refl, refl), refl)))
    (found (λ a. AfterProduct (x ∷ ts)) (is_punctuator (codes "-") x) binary.Subtract None (λ f. of_sign (λ x. AfterProduct (x ∷ ts)) (codes "-") x f (λ start mark. ((refl, refl), refl)))
    (none (λ a. AfterProduct (x ∷ ts)))) e
at_operator n.shift x ts e =
    found (λ a. AfterSum (x ∷ ts)) (is_punctuator (codes "<<") x) binary.ShiftLeft _ (λ f. of_sign (λ x. AfterSum (x ∷ ts)) (codes "<<") x f (λ start mark. (((refl, refl), refl), refl)))
    (found (λ a. AfterSum (x ∷ ts)) (is_punctuator (codes ">>") x) binary.ShiftRight None (λ f. of_sign (λ x. AfterSum (x ∷ ts)) (codes ">>") x f (λ start mark. (((refl, refl), refl), refl)))
    (none (λ a. AfterSum (x ∷ ts)))) e
at_operator n.relation x ts e =
    found (λ a. AfterShift (x ∷ ts)) (is_punctuator (codes "<") x) binary.Less _ (λ f. of_sign (λ x. AfterShift (x ∷ ts)) (codes "<") x f (λ start mark. ((((refl, refl), refl), refl), refl)))
    (found (λ a. AfterShift (x ∷ ts)) (is_punctuator (codes ">") x) binary.Greater _ (λ f. of_sign (λ x. AfterShift (x ∷ ts)) (codes ">") x f (λ start mark. ((((refl, refl), refl), refl), refl)))
    (found (λ a. AfterShift (x ∷ ts)) (is_punctuator (codes "<=") x) binary.LessOrEqual _ (λ f. of_sign (λ x. AfterShift (x ∷ ts)) (codes "<=") x f (λ start mark. ((((refl, refl), refl), refl), refl)))
    (found (λ a. AfterShift (x ∷ ts)) (is_punctuator (codes ">=") x) binary.GreaterOrEqual None (λ f. of_sign (λ x. AfterShift (x ∷ ts)) (codes ">=") x f (λ start mark. ((((refl, refl), refl), refl), refl)))
    (none (λ a. AfterShift (x ∷ ts)))))) e
at_operator n.equality x ts e =
    found (λ a. AfterRelation (x ∷ ts)) (is_punctuator (codes "==") x) binary.Equal _ (λ f. of_sign (λ x. AfterRelation (x ∷ ts)) (codes "==") x f (λ start mark. (((((refl, refl), refl), refl), refl), refl)))
    (found (λ a. AfterRelation (x ∷ ts)) (is_punctuator (codes "!=") x) binary.Unequal None (λ f. of_sign (λ x. AfterRelation (x ∷ ts)) (codes "!=") x f (λ start mark. (((((refl, refl), refl), refl), refl), refl)))
    (none (λ a. AfterRelation (x ∷ ts)))) e
at_operator n.bit_and x ts e =
    found (λ a. AfterEquality (x ∷ ts)) (is_punctuator (codes "&") x) binary.BitAnd None (λ f. of_sign (λ x. AfterEquality (x ∷ ts)) (codes "&") x f (λ start mark. ((((((refl, refl), refl), refl), refl), refl), refl)))
    (none (λ a. AfterEquality (x ∷ ts))) e
at_operator n.bit_xor x ts e =
    found (λ a. AfterBitAnd (x ∷ ts)) (is_punctuator (codes "^") x) binary.BitXor None (λ f. of_sign (λ x. AfterBitAnd (x ∷ ts)) (codes "^") x f (λ start mark. (((((((refl, refl), refl), refl), refl), refl), refl), refl)))
    (none (λ a. AfterBitAnd (x ∷ ts))) e
at_operator n.bit_or x ts e =
    found (λ a. AfterBitXor (x ∷ ts)) (is_punctuator (codes "|") x) binary.BitOr None (λ f. of_sign (λ x. AfterBitXor (x ∷ ts)) (codes "|") x f (λ start mark. ((((((((refl, refl), refl), refl), refl), refl), refl), refl), refl)))
    (none (λ a. AfterBitXor (x ∷ ts))) e
at_operator n.land x ts e =
    found (λ a. AfterBitOr (x ∷ ts)) (is_punctuator (codes "&&") x) binary.And None (λ f. of_sign (λ x. AfterBitOr (x ∷ ts)) (codes "&&") x f (λ start mark. (((((((((refl, refl), refl), refl), refl), refl), refl), refl), refl), refl)))
    (none (λ a. AfterBitOr (x ∷ ts))) e
at_operator n.lor x ts e =
    found (λ a. AfterAnd (x ∷ ts)) (is_punctuator (codes "||") x) binary.Or None (λ f. of_sign (λ x. AfterAnd (x ∷ ts)) (codes "||") x f (λ start mark. ((((((((((refl, refl), refl), refl), refl), refl), refl), refl), refl), refl), refl)))
    (none (λ a. AfterAnd (x ∷ ts))) e

-- an assignment operator ends its left operand
pub at_assignment : (x : Lexeme) (ts : List Lexeme) {operator : AssignmentOperator} → assignment_at x ≡ Some operator → Calm (x ∷ ts)
at_assignment x ts e =
    found (λ a. Calm (x ∷ ts)) (is_punctuator (codes "=") x) assign.Assign _ (λ f. of_sign (λ x. Calm (x ∷ ts)) (codes "=") x f (λ start mark. (refl, refl)))
    (found (λ a. Calm (x ∷ ts)) (is_punctuator (codes "*=") x) assign.Multiply _ (λ f. of_sign (λ x. Calm (x ∷ ts)) (codes "*=") x f (λ start mark. (refl, refl)))
    (found (λ a. Calm (x ∷ ts)) (is_punctuator (codes "/=") x) assign.Divide _ (λ f. of_sign (λ x. Calm (x ∷ ts)) (codes "/=") x f (λ start mark. (refl, refl)))
    (found (λ a. Calm (x ∷ ts)) (is_punctuator (codes "%=") x) assign.Remainder _ (λ f. of_sign (λ x. Calm (x ∷ ts)) (codes "%=") x f (λ start mark. (refl, refl)))
    (found (λ a. Calm (x ∷ ts)) (is_punctuator (codes "+=") x) assign.Add _ (λ f. of_sign (λ x. Calm (x ∷ ts)) (codes "+=") x f (λ start mark. (refl, refl)))
    (found (λ a. Calm (x ∷ ts)) (is_punctuator (codes "-=") x) assign.Subtract _ (λ f. of_sign (λ x. Calm (x ∷ ts)) (codes "-=") x f (λ start mark. (refl, refl)))
    (found (λ a. Calm (x ∷ ts)) (is_punctuator (codes "<<=") x) assign.ShiftLeft _ (λ f. of_sign (λ x. Calm (x ∷ ts)) (codes "<<=") x f (λ start mark. (refl, refl)))
    (found (λ a. Calm (x ∷ ts)) (is_punctuator (codes ">>=") x) assign.ShiftRight _ (λ f. of_sign (λ x. Calm (x ∷ ts)) (codes ">>=") x f (λ start mark. (refl, refl)))
    (found (λ a. Calm (x ∷ ts)) (is_punctuator (codes "&=") x) assign.BitAnd _ (λ f. of_sign (λ x. Calm (x ∷ ts)) (codes "&=") x f (λ start mark. (refl, refl)))
    (found (λ a. Calm (x ∷ ts)) (is_punctuator (codes "^=") x) assign.BitXor _ (λ f. of_sign (λ x. Calm (x ∷ ts)) (codes "^=") x f (λ start mark. (refl, refl)))
    (found (λ a. Calm (x ∷ ts)) (is_punctuator (codes "|=") x) assign.BitOr None (λ f. of_sign (λ x. Calm (x ∷ ts)) (codes "|=") x f (λ start mark. (refl, refl)))
    (none (λ a. Calm (x ∷ ts))))))))))))) e
