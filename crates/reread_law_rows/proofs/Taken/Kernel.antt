-- An expression with the brackets of its parts, and without those round itself.
use Rattle.std.proofs.Common.{◌≡◌, ◌<◌, ℕ, zero, suc, ◌==◌, Bool, true, false, List, if◌then◌else◌, refl, sym, ap, ◌∙◌, arith}
use Rattle.std.proofs.lemmas.Bool.{eq-eqb, ne_eqb}
use Rattle.mc_span.specs.declared.span.Span.{Span}
use Rattle.mc_tree.specs.Tree.{Expression, TypeName, span_of}
use Rattle.mc_tree.specs.Tree as tree
use Rattle.reread_probes.specs.declared.spot.Spot.TheVariants as spot
use Rattle.reread_probes.specs.Walks.{Walk, must_take, refused_if}
use Rattle.reread_probes.specs.Expressions.{is_cond, bare, enter_operand, enter_parentheses, enter_cast, walk_expression}
use Rattle.mc_grammar.specs.Extent.{span_of_type_name}
use Rattle.reread_law_texts.specs.weave.Brackets.{Brackets}
use Rattle.reread_law_texts.specs.weave.Trees.{around_by, bracketed, bracketed_expressions, bracketed_type_name}
use Rattle.reread_law_rows.specs.inserted.Rows.{Row}
use Rattle.reread_law_rows.proofs.Taken.Puts.{Bare}
use Rattle.reread_law_rows.proofs.Taken.Puts as puts
use Rattle.reread_law_rows.proofs.Taken.Steps.{taken_all, taken_last}

abbrev pub kernel : Brackets → Expression → Expression
kernel w (tree.Named name) = tree.Named name
kernel w (tree.Constant value decimal unsigned longs span) = tree.Constant value decimal unsigned longs span
kernel w (tree.Character value span) = tree.Character value span
kernel w (tree.Parenthesized a span) = tree.Parenthesized (bracketed w a) span
kernel w (tree.Call name all span) = tree.Call name (bracketed_expressions w all) span
kernel w (tree.Index a b span) = tree.Index (bracketed w a) (bracketed w b) span
kernel w (tree.Member a name span) = tree.Member (bracketed w a) name span
kernel w (tree.PostfixStep operator a span) = tree.PostfixStep operator (bracketed w a) span
kernel w (tree.PrefixStep operator a span) = tree.PrefixStep operator (bracketed w a) span
kernel w (tree.Unary operator a span) = tree.Unary operator (bracketed w a) span
kernel w (tree.Cast type a span) = tree.Cast (bracketed_type_name w type) (bracketed w a) span
kernel w (tree.Binary operator a b span) = tree.Binary operator (bracketed w a) (bracketed w b) span
kernel w (tree.Conditional a b c span) = tree.Conditional (bracketed w a) (bracketed w b) (bracketed w c) span
kernel w (tree.Assignment operator a b span) = tree.Assignment operator (bracketed w a) (bracketed w b) span
kernel w (tree.Comma all span) = tree.Comma (bracketed_expressions w all) span

pub around_kernel : (w : Brackets) (a : Expression) → bracketed w a ≡ around_by (w.parentheses (span_of a)) (span_of a) (kernel w a)
around_kernel w (tree.Named name) = refl
around_kernel w (tree.Constant value decimal unsigned longs span) = refl
around_kernel w (tree.Character value span) = refl
around_kernel w (tree.Parenthesized a span) = refl
around_kernel w (tree.Call name all span) = refl
around_kernel w (tree.Index a b span) = refl
around_kernel w (tree.Member a name span) = refl
around_kernel w (tree.PostfixStep operator a span) = refl
around_kernel w (tree.PrefixStep operator a span) = refl
around_kernel w (tree.Unary operator a span) = refl
around_kernel w (tree.Cast type a span) = refl
around_kernel w (tree.Binary operator a b span) = refl
around_kernel w (tree.Conditional a b c span) = refl
around_kernel w (tree.Assignment operator a b span) = refl
around_kernel w (tree.Comma all span) = refl

kernel_span : (w : Brackets) (a : Expression) → span_of (kernel w a) ≡ span_of a
kernel_span w (tree.Named name) = refl
kernel_span w (tree.Constant value decimal unsigned longs span) = refl
kernel_span w (tree.Character value span) = refl
kernel_span w (tree.Parenthesized a span) = refl
kernel_span w (tree.Call name all span) = refl
kernel_span w (tree.Index a b span) = refl
kernel_span w (tree.Member a name span) = refl
kernel_span w (tree.PostfixStep operator a span) = refl
kernel_span w (tree.PrefixStep operator a span) = refl
kernel_span w (tree.Unary operator a span) = refl
kernel_span w (tree.Cast type a span) = refl
kernel_span w (tree.Binary operator a b span) = refl
kernel_span w (tree.Conditional a b c span) = refl
kernel_span w (tree.Assignment operator a b span) = refl
kernel_span w (tree.Comma all span) = refl

kernel_cond : (w : Brackets) {a : Expression} {rows later : List Row} → Bare a rows later → is_cond (kernel w a) ≡ true
kernel_cond w puts.named = refl
kernel_cond w puts.constant = refl
kernel_cond w puts.character = refl
kernel_cond w (puts.call p) = refl
kernel_cond w puts.call_without = refl
kernel_cond w (puts.index p q) = refl
kernel_cond w (puts.member p) = refl
kernel_cond w (puts.step_after p) = refl
kernel_cond w (puts.step_before p) = refl
kernel_cond w (puts.unary p) = refl
kernel_cond w (puts.cast p) = refl
kernel_cond w (puts.binary p q) = refl
kernel_cond w (puts.conditional p q r) = refl

kernel_bare : (w : Brackets) {a : Expression} {rows later : List Row} → Bare a rows later → span_of (bare (kernel w a)) ≡ span_of a
kernel_bare w puts.named = refl
kernel_bare w puts.constant = refl
kernel_bare w puts.character = refl
kernel_bare w (puts.call p) = refl
kernel_bare w puts.call_without = refl
kernel_bare w (puts.index p q) = refl
kernel_bare w (puts.member p) = refl
kernel_bare w (puts.step_after p) = refl
kernel_bare w (puts.step_before p) = refl
kernel_bare w (puts.unary p) = refl
kernel_bare w (puts.cast p) = refl
kernel_bare w (puts.binary p q) = refl
kernel_bare w (puts.conditional p q r) = refl

-- ---- parentheses of probes

around_span : (n : ℕ) (at : Span) (a : Expression) → span_of a ≡ at → span_of (around_by n at a) ≡ at
around_span zero at a e = e
around_span (suc n) at a e = refl

around_cond : (n : ℕ) (at : Span) (a : Expression) → is_cond a ≡ true → is_cond (around_by n at a) ≡ true
around_cond zero at a e = e
around_cond (suc n) at a e = refl

around_bare : (n : ℕ) (at : Span) (a : Expression) → bare (around_by n at a) ≡ bare a
around_bare zero at a = refl
around_bare (suc n) at a = around_bare n at a

entered : (inner : Expression) (at : Span) (walk : Walk) → span_of inner ≡ at → is_cond inner ≡ true → span_of (bare inner) ≡ at
    → enter_parentheses inner at walk ≡ must_take (spot.Operand at.start true) at walk
entered inner at walk e c b =
    ap (λ (x : Bool). if x then enter_operand inner at walk else walk) (eq-eqb at.start (span_of inner).start (ap (λ (s : Span). s.start) (sym e)))
    ∙ ap (λ x. must_take (spot.Operand at.start x) (span_of (bare inner)) walk) c
    ∙ ap (λ s. must_take (spot.Operand at.start true) s walk) b

around_walk : (n : ℕ) (at : Span) (a : Expression) (walk : Walk) → span_of a ≡ at → is_cond a ≡ true → span_of (bare a) ≡ at
    → walk_expression (around_by n at a) walk ≡ walk_expression a (taken_all n at walk)
around_walk zero at a walk e c b = refl
around_walk (suc n) at a walk e c b =
    ap (walk_expression (around_by n at a)) (entered (around_by n at a) at walk (around_span n at a e) (around_cond n at a c)
    (ap span_of (around_bare n at a) ∙ b))
    ∙ around_walk n at a (must_take (spot.Operand at.start true) at walk) e c b
    ∙ ap (walk_expression a) (taken_last n at walk)

-- An expression whose probes are counted.
pub probes_walk : (w : Brackets) (n : ℕ) (walk : Walk) {a : Expression} {rows later : List Row} → Bare a rows later
    → w.parentheses (span_of a) ≡ n
    → walk_expression (bracketed w a) walk ≡ walk_expression (kernel w a) (taken_all n (span_of a) walk)
probes_walk w n walk {a = a} p e =
    ap (λ x. walk_expression x walk) (around_kernel w a ∙ ap (λ k. around_by k (span_of a) (kernel w a)) e)
    ∙ around_walk n (span_of a) (kernel w a) walk (kernel_span w a) (kernel_cond w p) (kernel_bare w p)

-- ---- what has no probes of its own

pub no_probes : (w : Brackets) (a : Expression) (walk : Walk) → w.parentheses (span_of a) ≡ 0
    → walk_expression (bracketed w a) walk ≡ walk_expression (kernel w a) walk
no_probes w a walk e =
    ap (λ x. walk_expression x walk) (around_kernel w a ∙ ap (λ k. around_by k (span_of a) (kernel w a)) e)

bracketed_span : (w : Brackets) (a : Expression) → span_of (bracketed w a) ≡ span_of a
bracketed_span w a =
    ap span_of (around_kernel w a) ∙ around_span (w.parentheses (span_of a)) (span_of a) (kernel w a) (kernel_span w a)

less_not : (m n : ℕ) → m < n → (m == n) ≡ false
less_not m n h = ne_eqb m n (λ e. omega (arith, h, e))

-- a parenthesis of the source is none of a probe
pub own_parentheses : (w : Brackets) (a : Expression) (at : Span) (walk : Walk) → at.start < (span_of a).start
    → enter_parentheses (bracketed w a) at walk ≡ walk
own_parentheses w a at walk h =
    ap (λ (x : Bool). if x then enter_operand (bracketed w a) at walk else walk)
    (ap (λ (s : Span). at.start == s.start) (bracketed_span w a) ∙ less_not at.start (span_of a).start h)

pub own_cast : (w : Brackets) (type : TypeName) (at : Span) (walk : Walk) → at.start < (span_of_type_name type).start
    → enter_cast (bracketed_type_name w type) at walk ≡ walk
own_cast w (tree.type_name s stars span) at walk h =
    ap (λ (x : Bool). refused_if x walk) (less_not at.start span.start h)
