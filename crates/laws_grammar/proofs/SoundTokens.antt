-- Which operator or word a token is that the readers take for one.
use Rattle.std.proofs.Common.{◌≡◌, Bool, true, false, cond, ◌&&◌, not, List, [], ◌∷◌, Option, Some, None, refl, subst, codes}
use Rattle.mc_tree.specs.declared.expressions.unary_operator.UnaryOperator.{UnaryOperator}
use Rattle.mc_tree.specs.declared.expressions.unary_operator.UnaryOperator.TheVariants as unary
use Rattle.mc_tree.specs.declared.expressions.step_operator.StepOperator.{StepOperator}
use Rattle.mc_tree.specs.declared.expressions.step_operator.StepOperator.TheVariants as step
use Rattle.mc_tree.specs.declared.expressions.assignment_operator.AssignmentOperator.{AssignmentOperator}
use Rattle.mc_tree.specs.declared.declarations.specifier_word.SpecifierWord.{SpecifierWord}
use Rattle.mc_tree.specs.declared.declarations.specifier_word.SpecifierWord.TheVariants as word
use Rattle.mc_grammar.specs.Words.{Lexeme, is_punctuator, is_keyword, is_plain_specifier, is_name, is_type_name, next_is, go_on}
use Rattle.mc_grammar.specs.Operators.{IsStep, IsUnary, IsSpecifierWord, is_prefix, sees_assignment, assignment_at, is_there}
use Rattle.mc_grammar.specs.Operators as o
use Rattle.laws_grammar.proofs.Known.{and_left, and_right}
use Rattle.mc_tree.specs.Tree.{Name}
use Rattle.mc_grammar.specs.Places.{name_at}
use Rattle.mc_grammar.specs.steps.Next.{step_at, step_next, unary_at, unary_next, assignment_next, word_at}
use Rattle.laws_grammar.specs.Specifiers.{name_next}

-- the first choice whose test holds
pick : {A : Type 0} {a : A} (T : A → Type 0) (b : Bool) (here : A) (more : Option A) → (b ≡ true → T here) → (more ≡ Some a → T a) → cond b (Some here) more ≡ Some a → T a
pick {a = a} T true here more f g e = let same : here ≡ a = cc in subst T same (f refl)
pick T false here more f g e = g e

last : {A : Type 0} {a : A} (T : A → Type 0) → None ≡ Some a → T a
last T e = absurd (cc)

-- no choice
record Fails {A : Type 0} (b : Bool) (more : Option A) : Type 0 where
  here : b ≡ false
  next : more ≡ None

fails : {A : Type 0} (b : Bool) (here : A) (more : Option A) → cond b (Some here) more ≡ None → Fails b more
fails true here more e = absurd (cc)
fails false here more e = record { here = refl; next = e }

pub step_is : {operator : StepOperator} (x : Lexeme) → step_at x ≡ Some operator → IsStep x operator
step_is x = pick (IsStep x) _ _ _ o.increment (pick (IsStep x) _ _ _ o.decrement (last (IsStep x)))

pub unary_is : {operator : UnaryOperator} (x : Lexeme) → unary_at x ≡ Some operator → IsUnary x operator
unary_is x = pick (IsUnary x) _ _ _ o.plus (pick (IsUnary x) _ _ _ o.minus (pick (IsUnary x) _ _ _ o.complement
    (pick (IsUnary x) _ _ _ o.not (pick (IsUnary x) _ _ _ o.dereference (pick (IsUnary x) _ _ _ o.address (last (IsUnary x)))))))

pub word_is : {w : SpecifierWord} (x : Lexeme) → word_at x ≡ Some w → IsSpecifierWord x w
word_is x = pick (IsSpecifierWord x) _ _ _ o.typedef (pick (IsSpecifierWord x) _ _ _ o.static (pick (IsSpecifierWord x) _ _ _ o.extern
    (pick (IsSpecifierWord x) _ _ _ o.const (pick (IsSpecifierWord x) _ _ _ o.void (pick (IsSpecifierWord x) _ _ _ o.bool
    (pick (IsSpecifierWord x) _ _ _ o.char (pick (IsSpecifierWord x) _ _ _ o.short (pick (IsSpecifierWord x) _ _ _ o.int
    (pick (IsSpecifierWord x) _ _ _ o.long (pick (IsSpecifierWord x) _ _ _ o.signed (pick (IsSpecifierWord x) _ _ _ o.unsigned (last (IsSpecifierWord x)))))))))))))

pub no_prefix : (ts : List Lexeme) → step_next ts ≡ None → unary_next ts ≡ None → next_is is_prefix ts ≡ false
no_prefix [] e f = refl
no_prefix (x ∷ ts) e f =
    let a = fails (is_punctuator (codes "++") x) step.Increment _ e in
    let b = fails (is_punctuator (codes "--") x) step.Decrement _ a.next in
    let c = fails (is_punctuator (codes "+") x) unary.Plus _ f in
    let d = fails (is_punctuator (codes "-") x) unary.Minus _ c.next in
    let g = fails (is_punctuator (codes "~") x) unary.Complement _ d.next in
    let h = fails (is_punctuator (codes "!") x) unary.Not _ g.next in
    let i = fails (is_punctuator (codes "*") x) unary.Dereference _ h.next in
    let j = fails (is_punctuator (codes "&") x) unary.Address _ i.next in
    rw (a.here, b.here, c.here, d.here, g.here, h.here, i.here, j.here) refl

pub no_word : (x : Lexeme) → word_at x ≡ None → is_plain_specifier x ≡ false
no_word x e =
    let a = fails (is_keyword (codes "typedef") x) word.Typedef _ e in
    let b = fails (is_keyword (codes "static") x) word.Static _ a.next in
    let c = fails (is_keyword (codes "extern") x) word.Extern _ b.next in
    let d = fails (is_keyword (codes "const") x) word.Const _ c.next in
    let f = fails (is_keyword (codes "void") x) word.Void _ d.next in
    let g = fails (is_keyword (codes "_Bool") x) word.Bool _ f.next in
    let h = fails (is_keyword (codes "char") x) word.Char _ g.next in
    let i = fails (is_keyword (codes "short") x) word.Short _ h.next in
    let j = fails (is_keyword (codes "int") x) word.Int _ i.next in
    let k = fails (is_keyword (codes "long") x) word.Long _ j.next in
    let l = fails (is_keyword (codes "signed") x) word.Signed _ k.next in
    let m = fails (is_keyword (codes "unsigned") x) word.Unsigned _ l.next in
    rw (a.here, b.here, c.here, d.here, f.here, g.here, h.here, i.here, j.here, k.here, l.here, m.here) refl

pub no_assignment : (ts : List Lexeme) → assignment_next ts ≡ None → sees_assignment ts ≡ false
no_assignment [] e = refl
no_assignment (x ∷ ts) e = rw e refl

pub assignment_is : {operator : AssignmentOperator} (x : Lexeme) (ts : List Lexeme) → assignment_next (x ∷ ts) ≡ Some operator → assignment_at x ≡ Some operator
assignment_is x ts e = e

pub and_none : (a b : Bool) → a ≡ false → (a && b) ≡ false
and_none a b e = rw e refl

pub none_and : (a b : Bool) → b ≡ false → (a && b) ≡ false
none_and true b e = e
none_and false b e = refl

pub name_is : {name : Name} (x : Lexeme) (ts : List Lexeme) → name_next (x ∷ ts) ≡ Some name → (is_name x ≡ true) × (name_at x ≡ name)
name_is {name} x ts = by (is_name x)
  where
    by : (b : Bool) → cond b (Some (name_at x)) None ≡ Some name → (b ≡ true) × (name_at x ≡ name)
    by true e = (refl, (cc))
    by false e = absurd (cc)

pub no_name : (ts : List Lexeme) → name_next ts ≡ None → next_is is_name ts ≡ false
no_name [] e = refl
no_name (x ∷ ts) e = let h = fails (is_name x) (name_at x) None e in h.here

pub type_name_left : (has_type : Bool) (x : Lexeme) (ts : List Lexeme) → is_plain_specifier x ≡ false → is_keyword (codes "struct") x ≡ false → is_keyword (codes "enum") x ≡ false
    → go_on has_type (x ∷ ts) ≡ true → (not has_type ≡ true) × (is_type_name x ≡ true)
type_name_left has_type x ts e f g h =
    let both : (not has_type && is_type_name x) ≡ true = rw (e, f, g) at h in
    (and_left (not has_type) (is_type_name x) both, and_right (not has_type) (is_type_name x) both)
