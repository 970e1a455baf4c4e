-- Expressions of several operators: what they are made of. Their operands are casts, which take all
-- suffixes and prefix operators with them, or unary expressions before an assignment operator.
use Rattle.std.specs.Prelude.{ℕ, ◌≤◌, ◌<◌, List, ◌∷◌, codes}
use Rattle.mc_lex.specs.declared.token.Dialect.{Dialect}
use Rattle.mc_tree.specs.declared.expressions.unary_operator.UnaryOperator.{UnaryOperator}
use Rattle.mc_tree.specs.declared.expressions.step_operator.StepOperator.{StepOperator}
use Rattle.mc_tree.specs.declared.expressions.binary_operator.BinaryOperator.{BinaryOperator}
use Rattle.mc_tree.specs.declared.expressions.assignment_operator.AssignmentOperator.{AssignmentOperator}
use Rattle.mc_tree.specs.Tree.{Expression, span_of}
use Rattle.mc_tree.specs.Tree as tree
use Rattle.mc_grammar.specs.Words.{Lexeme}
use Rattle.mc_grammar.specs.Places.{at, name_at, to}
use Rattle.mc_grammar.specs.Nonterminal as nonterminal
use Rattle.mc_grammar.specs.Expressions.{Reads}
use Rattle.mc_grammar.specs.Meaning.{identifier, type_name, punctuator}
use Rattle.mc_grammar.specs.Spelling.{text_of_unary, text_of_step, text_of_binary, text_of_assignment}
use Rattle.mc_grammar.specs.Precedence.{section}

abbrev pub infix_token : BinaryOperator → ℕ → Lexeme
infix_token operator place = punctuator (text_of_binary operator) place

abbrev pub assigning : AssignmentOperator → ℕ → Lexeme
assigning operator place = punctuator (text_of_assignment operator) place

abbrev pub binary : BinaryOperator → Expression → Expression → Expression
binary operator a b = tree.Binary operator a b (to (span_of a) (span_of b))

abbrev pub assignment : AssignmentOperator → Expression → Expression → Expression
assignment operator a b = tree.Assignment operator a b (to (span_of a) (span_of b))

abbrev pub conditional : Expression → Expression → Expression → Expression
conditional a b c = tree.Conditional a b c (to (span_of a) (span_of c))

-- an operand before a binary operator, a `?`, a `:` or a `;`
abbrev pub Operand : Dialect → List Lexeme → Expression → List Lexeme → Type 0
Operand d ts a rest = Reads d nonterminal.cast ts a rest

-- an expression before a `;`
abbrev pub Whole : Dialect → List Lexeme → Expression → ℕ → List Lexeme → Type 0
Whole d ts a place rest = Reads d nonterminal.comma ts a (punctuator (codes ";") place ∷ rest)

-- `a o b p c;` where `o` binds as close as `p` or closer: `(a o b) p c`
abbrev pub GroupsToTheLeft : Type 0
GroupsToTheLeft =
    (d : Dialect) (o p : BinaryOperator) (i j k : ℕ) (ts us vs rest : List Lexeme)
    (a b c : Expression) → section o ≤ section p
    → Operand d ts a (infix_token o i ∷ us) → Operand d us b (infix_token p j ∷ vs)
    → Operand d vs c (punctuator (codes ";") k ∷ rest)
    → Whole d ts (binary p (binary o a b) c) k rest

-- the same where `p` binds closer: `a o (b p c)`
abbrev pub GroupsToTheRight : Type 0
GroupsToTheRight =
    (d : Dialect) (o p : BinaryOperator) (i j k : ℕ) (ts us vs rest : List Lexeme)
    (a b c : Expression) → section p < section o
    → Operand d ts a (infix_token o i ∷ us) → Operand d us b (infix_token p j ∷ vs)
    → Operand d vs c (punctuator (codes ";") k ∷ rest)
    → Whole d ts (binary o a (binary p b c)) k rest

-- `a ? b : c ? d : e;` is `a ? b : (c ? d : e)`
abbrev pub ConditionalGroupsToTheRight : Type 0
ConditionalGroupsToTheRight =
    (d : Dialect) (i j k l m : ℕ) (ts us vs ws xs rest : List Lexeme) (a b c e f : Expression)
    → Operand d ts a (punctuator (codes "?") i ∷ us)
    → Operand d us b (punctuator (codes ":") j ∷ vs)
    → Operand d vs c (punctuator (codes "?") k ∷ ws)
    → Operand d ws e (punctuator (codes ":") l ∷ xs)
    → Operand d xs f (punctuator (codes ";") m ∷ rest)
    → Whole d ts (conditional a b (conditional c e f)) m rest

-- `a o b ? c : d;` is `(a o b) ? c : d`, and `a ? b : c o d;` is `a ? b : (c o d)`
abbrev pub ConditionalTakesBinary : Type 0
ConditionalTakesBinary =
    (d : Dialect) (o : BinaryOperator) (i j k l : ℕ) (ts us vs ws rest : List Lexeme)
    (a b c e : Expression) → Operand d ts a (infix_token o i ∷ us)
    → Operand d us b (punctuator (codes "?") j ∷ vs)
    → Operand d vs c (punctuator (codes ":") k ∷ ws)
    → Operand d ws e (punctuator (codes ";") l ∷ rest)
    → Whole d ts (conditional (binary o a b) c e) l rest

abbrev pub ConditionalEndsWithBinary : Type 0
ConditionalEndsWithBinary =
    (d : Dialect) (o : BinaryOperator) (i j k l : ℕ) (ts us vs ws rest : List Lexeme)
    (a b c e : Expression) → Operand d ts a (punctuator (codes "?") i ∷ us)
    → Operand d us b (punctuator (codes ":") j ∷ vs)
    → Operand d vs c (infix_token o k ∷ ws) → Operand d ws e (punctuator (codes ";") l ∷ rest)
    → Whole d ts (conditional a b (binary o c e)) l rest

-- `a o b p c;` with assignment operators is `a o (b p c)`
abbrev pub AssignmentGroupsToTheRight : Type 0
AssignmentGroupsToTheRight =
    (d : Dialect) (o p : AssignmentOperator) (i j k : ℕ) (ts us vs rest : List Lexeme)
    (a b c : Expression) → Reads d nonterminal.unary ts a (assigning o i ∷ us)
    → Reads d nonterminal.unary us b (assigning p j ∷ vs)
    → Operand d vs c (punctuator (codes ";") k ∷ rest)
    → Whole d ts (assignment o a (assignment p b c)) k rest

-- `a o b p c;` where `o` assigns and `p` does not is `a o (b p c)`
abbrev pub AssignmentTakesBinary : Type 0
AssignmentTakesBinary =
    (d : Dialect) (o : AssignmentOperator) (p : BinaryOperator) (i j k : ℕ)
    (ts us vs rest : List Lexeme) (a b c : Expression)
    → Reads d nonterminal.unary ts a (assigning o i ∷ us) → Operand d us b (infix_token p j ∷ vs)
    → Operand d vs c (punctuator (codes ";") k ∷ rest)
    → Whole d ts (assignment o a (binary p b c)) k rest

-- `a o b ? c : d;` where `o` assigns is `a o (b ? c : d)`
abbrev pub AssignmentTakesConditional : Type 0
AssignmentTakesConditional =
    (d : Dialect) (o : AssignmentOperator) (i j k l : ℕ) (ts us vs ws rest : List Lexeme)
    (a b c e : Expression) → Reads d nonterminal.unary ts a (assigning o i ∷ us)
    → Operand d us b (punctuator (codes "?") j ∷ vs)
    → Operand d vs c (punctuator (codes ":") k ∷ ws)
    → Operand d ws e (punctuator (codes ";") l ∷ rest)
    → Whole d ts (assignment o a (conditional b c e)) l rest

-- `a o b, c;` where `o` assigns is `(a o b), c`
abbrev pub CommaTakesAssignment : Type 0
CommaTakesAssignment =
    (d : Dialect) (o : AssignmentOperator) (i j k : ℕ) (ts us vs rest : List Lexeme)
    (a b c : Expression) → Reads d nonterminal.unary ts a (assigning o i ∷ us)
    → Operand d us b (punctuator (codes ",") j ∷ vs)
    → Operand d vs c (punctuator (codes ";") k ∷ rest)
    → Whole d ts
    (tree.Comma (tree.expressions (assignment o a b) (tree.expressions c tree.no_expressions))
    (to (span_of a) (span_of c))) k rest

-- `o x[y]`, `o x.y` and `o x s`, with a prefix operator `o` and a step `s`, at these places
abbrev pub PrefixTakesSuffix : Type 0
PrefixTakesSuffix =
    (d : Dialect) (o : UnaryOperator) (s : StepOperator) (x y : List ℕ) (i j k l m n : ℕ)
    (rest : List Lexeme) →
    let first = punctuator (text_of_unary o) i in
    let name = identifier x j in
    let end = punctuator (codes ";") n ∷ rest in
    let index = tree.Index (tree.Named (name_at name)) (tree.Named (name_at (identifier y l)))
    (to (at name) (at (punctuator (codes "]") m))) in
    let member = tree.Member (tree.Named (name_at name)) (name_at (identifier y l))
    (to (at name) (at (identifier y l))) in
    let step = tree.PostfixStep s (tree.Named (name_at name))
    (to (at name) (at (punctuator (text_of_step s) k))) in
    Operand d
    (first ∷ name ∷ punctuator (codes "[") k ∷ identifier y l ∷ punctuator (codes "]") m ∷ end)
    (tree.Unary o index (to (at first) (span_of index))) end
    × Operand d (first ∷ name ∷ punctuator (codes ".") k ∷ identifier y l ∷ end)
    (tree.Unary o member (to (at first) (span_of member))) end
    × Operand d (first ∷ name ∷ punctuator (text_of_step s) k ∷ end)
    (tree.Unary o step (to (at first) (span_of step))) end

-- `o (T)x` is `o ((T)x)`, with a prefix operator `o` and a typedef name `T`
abbrev pub PrefixTakesCast : Type 0
PrefixTakesCast =
    (d : Dialect) (o : UnaryOperator) (type x : List ℕ) (i j k l m n : ℕ) (rest : List Lexeme) →
    let first = punctuator (text_of_unary o) i in
    let open_ = punctuator (codes "(") j in
    let word = type_name type k in
    let name = identifier x m in
    let end = punctuator (codes ";") n ∷ rest in
    let words = tree.specifiers (tree.TypedefName (name_at word)) tree.no_specifiers in
    let cast = tree.Cast (tree.type_name words 0 (at word)) (tree.Named (name_at name))
    (to (at open_) (at name)) in
    Operand d (first ∷ open_ ∷ word ∷ punctuator (codes ")") l ∷ name ∷ end)
    (tree.Unary o cast (to (at first) (at name))) end
