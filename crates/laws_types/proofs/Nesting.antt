-- Expressions that are read stand as in the text: each within its own place, its parts one after the
-- other.
use Rattle.std.proofs.Common.{◌≡◌, ℕ, ◌<◌, ◌≤◌, List, [], ◌∷◌, ◌++◌, refl, arith}
use Rattle.mc_lex.specs.declared.token.Dialect.{Dialect}
use Rattle.mc_span.specs.declared.span.Span.{Span}
use Rattle.mc_tree.specs.Tree.{Expression, Expressions, span_of}
use Rattle.mc_tree.specs.Tree as tree
use Rattle.mc_grammar.specs.Words.{Lexeme}
use Rattle.mc_grammar.specs.Places.{at, to, end_of_expressions}
use Rattle.mc_grammar.specs.Nonterminal.{Nonterminal, Level, takes}
use Rattle.mc_grammar.specs.Nonterminal as n
use Rattle.mc_grammar.specs.Expressions.{Reads, ReadsExpressions}
use Rattle.mc_grammar.specs.Expressions as r
use Rattle.mc_grammar.specs.Extent.{places, IsPlace, single, longer}
use Rattle.mc_grammar.proofs.Lengths.{operand_takes}
use Rattle.mc_grammar.proofs.Ends.{IsEnd, whole, later, type_name_ends}

-- ---- one after the other

-- between two bytes these stand one after the other, each from its first byte to its last
pub data Follow : ℕ → ℕ → List Span → Type 0 where
  nothing : {low high : ℕ} → low ≤ high → Follow low high []
  next : {low high : ℕ} {x : Span} {xs : List Span}
      → low ≤ x.start → x.start < x.end → Follow x.end high xs → Follow low high (x ∷ xs)

abbrev pub Within : Span → List Span → Type 0
Within span xs = Follow span.start span.end xs

pub ordered : {low high : ℕ} {xs : List Span} → Follow low high xs → low ≤ high
ordered (nothing a) = a
ordered (next a b c) = omega (arith, a, b, ordered c)

pub lower : {l low high : ℕ} {xs : List Span} → l ≤ low → Follow low high xs → Follow l high xs
lower p (nothing a) = nothing (omega (arith, p, a))
lower p (next a b c) = next (omega (arith, p, a)) b c

pub skip : {low high : ℕ} {x : Span} {xs : List Span} → Follow low high (x ∷ xs) → Follow low high xs
skip (next a b c) = lower (omega (arith, a, b)) c

pub behind : {low high : ℕ} {x : Span} {xs : List Span} → Follow low high (x ∷ xs) → Follow x.end high xs
behind (next a b c) = c

pub first : {low high : ℕ} {x : Span} {xs : List Span} → Follow low high (x ∷ xs) → low ≤ x.start
first (next a b c) = a

pub full : {low high : ℕ} {x : Span} {xs : List Span} → Follow low high (x ∷ xs) → x.start < x.end
full (next a b c) = b

-- the same one, and others after it
pub again : {low high : ℕ} {x : Span} {xs ys : List Span} → Follow low high (x ∷ xs) → Follow x.end high ys → Follow low high (x ∷ ys)
again (next a b c) d = next a b d

without : {low high : ℕ} {x y : Span} {xs : List Span} → Follow low high (x ∷ y ∷ xs) → Follow low high (x ∷ xs)
without (next a b c) = next a b (skip c)

-- ---- from the start of one to the end of another

joined : {low high : ℕ} {x y : Span} {xs : List Span} → Follow low high (x ∷ y ∷ xs) → Follow low high (to x y ∷ xs)
joined (next a b (next c d e)) = next a (omega (arith, b, c, d)) e

one_in : {low high : ℕ} {x y : Span} {xs : List Span} → Follow low high (x ∷ y ∷ xs) → Follow x.start y.end (x ∷ [])
one_in (next a b (next c d e)) = next (omega arith) b (nothing (omega (arith, c, d)))

two_in : {low high : ℕ} {x y : Span} {xs : List Span} → Follow low high (x ∷ y ∷ xs) → Follow x.start y.end (x ∷ y ∷ [])
two_in (next a b (next c d e)) = next (omega arith) b (next c d (nothing (omega arith)))

two_before : {low high : ℕ} {x y z : Span} {xs : List Span} → Follow low high (x ∷ y ∷ z ∷ xs) → Follow x.start z.end (x ∷ y ∷ [])
two_before (next a b (next c d (next e f g))) = next (omega arith) b (next c d (nothing (omega (arith, e, f))))

three_in : {low high : ℕ} {x y z : Span} {xs : List Span} → Follow low high (x ∷ y ∷ z ∷ xs) → Follow x.start z.end (x ∷ y ∷ z ∷ [])
three_in (next a b (next c d (next e f g))) = next (omega arith) b (next c d (next e f (nothing (omega arith))))

-- those before one, and that one
before : {low high : ℕ} (xs : List Span) (z : Span) (zs : List Span) → Follow low high (xs ++ z ∷ zs) → Follow low z.end xs
before [] z zs (next a b c) = nothing (omega (arith, a, b))
before (x ∷ xs) z zs (next a b c) = next a b (before xs z zs c)

past : {low high : ℕ} (xs zs : List Span) → Follow low high (xs ++ zs) → Follow low high zs
past [] zs f = f
past (x ∷ xs) zs f = past xs zs (skip f)

-- ---- tokens that are read

pub ended : {low high : ℕ} {ts rest : List Lexeme} → IsEnd rest ts → Follow low high (places ts) → Follow low high (places rest)
ended whole f = f
ended (later p) f = ended p (skip f)

pub placed : {low high : ℕ} {span : Span} {all rest : List Span} → IsPlace span all rest → Follow low high all → Follow low high (span ∷ rest)
placed single f = f
placed (longer p) f = joined (again f (placed p (behind f)))

-- ---- expressions

abbrev pub spans_of : Expressions → List Span
spans_of tree.no_expressions = []
spans_of (tree.expressions a rest) = span_of a ∷ spans_of rest

-- within the place of each node its parts stand one after the other
abbrev mutual
  pub Nested : Expression → Type 0
  Nested (tree.Named name) = Unit {0}
  Nested (tree.Constant v decimal unsigned longs span) = Unit {0}
  Nested (tree.Character v span) = Unit {0}
  Nested (tree.Parenthesized a span) = Within span (span_of a ∷ []) × Nested a
  Nested (tree.Call name given span) = Within span (spans_of given) × AreNested given
  Nested (tree.Index a b span) = Within span (span_of a ∷ span_of b ∷ []) × Nested a × Nested b
  Nested (tree.Member a name span) = Within span (span_of a ∷ []) × Nested a
  Nested (tree.PostfixStep operator a span) = Within span (span_of a ∷ []) × Nested a
  Nested (tree.PrefixStep operator a span) = Within span (span_of a ∷ []) × Nested a
  Nested (tree.Unary operator a span) = Within span (span_of a ∷ []) × Nested a
  Nested (tree.Cast type a span) = Within span (span_of a ∷ []) × Nested a
  Nested (tree.Binary operator a b span) = Within span (span_of a ∷ span_of b ∷ []) × Nested a × Nested b
  Nested (tree.Conditional a b c span) =
      Within span (span_of a ∷ span_of b ∷ span_of c ∷ []) × Nested a × Nested b × Nested c
  Nested (tree.Assignment operator a b span) = Within span (span_of a ∷ span_of b ∷ []) × Nested a × Nested b
  Nested (tree.Comma operands span) = Within span (spans_of operands) × AreNested operands

  pub AreNested : Expressions → Type 0
  AreNested tree.no_expressions = Unit {0}
  AreNested (tree.expressions a rest) = Nested a × AreNested rest

cut : {high : ℕ} (rest : List Span) (all : Expressions) (b : Span) → Follow b.end high (spans_of all ++ rest)
    → Follow b.end (end_of_expressions b all).end (spans_of all) × Follow (end_of_expressions b all).end high rest
cut rest tree.no_expressions b f = (nothing (omega arith), f)
cut rest (tree.expressions a more) b f =
    let c = cut rest more (span_of a) (behind f) in (next (first f) (full f) c.0, c.1)

-- what was read stands in the place of its tokens
mutual
  pub expression : {d : Dialect} {m : Nonterminal} {ts rest : List Lexeme} {a : Expression} {low high : ℕ} → takes m ≡ 1 → Reads d m ts a rest
      → Follow low high (places ts) → Follow low high (span_of a ∷ places rest) × Nested a
  expression g (r.comma_one p e) f = expression refl p f
  expression {rest = rest} g (r.comma {a = a} {all = all} p e q) f =
      let x = expression refl p f in
      let y = expressions q (skip (behind x.0)) in
      let c = cut (places rest) all (span_of a) y.0 in
      (next (first x.0) (omega (arith, full x.0, ordered c.0)) c.1, (next (omega arith) (full x.0) c.0, (x.1, y.1)))
  expression g (r.assign_cond p e) f = expression refl p f
  expression g (r.assign p e q) f =
      let x = expression refl p f in
      let y = expression refl q (skip (behind x.0)) in
      let z = again x.0 y.0 in
      (joined z, (two_in z, x.1, y.1))
  expression g (r.cond_level p e) f = expression refl p f
  expression g (r.cond p e q h v) f =
      let x = expression refl p f in
      let y = expression refl q (skip (behind x.0)) in
      let w = expression refl v (skip (behind y.0)) in
      let z = again x.0 (again y.0 w.0) in
      (joined (without z), (three_in z, x.1, y.1, w.1))
  expression g (r.level {k = k} p q) f = let x = expression (operand_takes k) p f in operations q x.1 x.0
  expression g (r.operation e p q) f = absurd (cc)
  expression g (r.operations_end e) f = absurd (cc)
  expression g (r.cast_unary e p) f = expression refl p f
  expression g (r.cast e h p v q) f =
      let y = expression refl q (skip (ended (type_name_ends p) (behind f))) in
      let z = again f y.0 in
      (joined z, (skip (two_in z), y.1))
  expression g (r.unary_postfix e p) f = expression refl p f
  expression g (r.prefix_step e p) f =
      let y = expression refl p (behind f) in
      let z = again f y.0 in
      (joined z, (skip (two_in z), y.1))
  expression g (r.unary e p) f =
      let y = expression refl p (behind f) in
      let z = again f y.0 in
      (joined z, (skip (two_in z), y.1))
  expression g (r.postfix p q) f = let x = expression refl p f in suffixes q x.1 x.0
  expression g (r.index e p h q) f = absurd (cc)
  expression g (r.member e h p) f = absurd (cc)
  expression g (r.postfix_step e p) f = absurd (cc)
  expression g (r.suffixes_end e) f = absurd (cc)
  expression g (r.named e h) f = (f, tt)
  expression g (r.constant e) f = (f, tt)
  expression g (r.character e) f = (f, tt)
  expression g (r.parenthesized e h p v) f =
      let y = expression refl p (behind f) in
      let z = again f y.0 in
      (joined (without z), (skip (two_before z), y.1))
  expression g (r.call_empty e h v) f = (joined (without f), (skip (skip (two_in (without f))), tt))
  expression {rest = rest} g (r.call {z = z} {all = all} e h v p w) f =
      let y = expressions p (skip (behind f)) in
      let inside = before (spans_of all) (at z) (places rest) y.0 in
      (joined (again f (past (spans_of all) (at z ∷ places rest) y.0)), (lower (omega (arith, full f)) inside, y.1))

  operations : {d : Dialect} {k : Level} {a b : Expression} {ts rest : List Lexeme} {low high : ℕ} → Reads d (n.operations k a) ts b rest
      → Nested a → Follow low high (span_of a ∷ places ts) → Follow low high (span_of b ∷ places rest) × Nested b
  operations (r.operation {k = k} e p q) h f =
      let y = expression (operand_takes k) p (skip (behind f)) in
      let z = again f y.0 in
      operations q (two_in z, h, y.1) (joined z)
  operations (r.operations_end e) h f = (f, h)

  suffixes : {d : Dialect} {a b : Expression} {ts rest : List Lexeme} {low high : ℕ} → Reads d (n.suffixes a) ts b rest
      → Nested a → Follow low high (span_of a ∷ places ts) → Follow low high (span_of b ∷ places rest) × Nested b
  suffixes (r.index e p g q) h f =
      let y = expression refl p (skip (behind f)) in
      let z = again f y.0 in
      suffixes q (two_before z, h, y.1) (joined (without z))
  suffixes (r.member e g q) h f = let z = without f in suffixes q (one_in z, h) (joined z)
  suffixes (r.postfix_step e q) h f = suffixes q (one_in f, h) (joined f)
  suffixes (r.suffixes_end e) h f = (f, h)

  expressions : {d : Dialect} {ts rest : List Lexeme} {all : Expressions} {low high : ℕ} → ReadsExpressions d ts all rest
      → Follow low high (places ts) → Follow low high (spans_of all ++ places rest) × AreNested all
  expressions (r.last_expression p e) f = let x = expression refl p f in (x.0, (x.1, tt))
  expressions (r.more_expressions p e q) f =
      let x = expression refl p f in
      let y = expressions q (skip (behind x.0)) in
      (again x.0 y.0, (x.1, y.1))
