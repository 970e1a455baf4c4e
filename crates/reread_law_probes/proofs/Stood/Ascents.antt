-- Expressions with the places of their steps follow each other in a text.
use Rattle.std.proofs.Common.{◌≡◌, ◌≤◌, ◌<◌, ◌+◌, ◌-◌, ◌&&◌, inr, ℕ, Bool, true, false, List, ◌∷◌, length, codes, refl, sym, ap, subst, arith}
use Rattle.std.proofs.Math.Nat.{min-eq_left}
use Rattle.mc_span.specs.declared.span.Span.{Span}
use Rattle.mc_lex.specs.Tokens.{Tok}
use Rattle.mc_lex.proofs.Texts.{same_text}
use Rattle.mc_tree.specs.declared.expressions.step_operator.StepOperator.{StepOperator}
use Rattle.mc_tree.specs.Tree.{Expression, span_of}
use Rattle.mc_tree.specs.Tree as t
use Rattle.mc_grammar.specs.Words.{Lexeme, is_punctuator_kind, is_punctuator}
use Rattle.mc_grammar.specs.Operators.{IsStep, increment, decrement}
use Rattle.mc_grammar.specs.Places.{at, to}
use Rattle.reread_law_texts.specs.alike.Moves.{FollowFrom, end_of}
use Rattle.reread_law_texts.specs.apart.Places.{Spans}
use Rattle.reread_law_texts.proofs.Apart.Ascending.{Sooner, Chain, From, Part, from_lower, chain_from, forward_of}
use Rattle.laws_types.specs.Source.{first_two, last_two}
use Rattle.reread_law_probes.specs.stood.Stands.{stands, stands_in_expressions}
use Rattle.reread_law_texts.proofs.Tokens.{ends_after}

-- ---- expressions

-- the places in an expression after its own
abbrev pub inner : Expression → Spans
inner (t.Named name) ps = ps
inner (t.Constant value decimal unsigned longs span) ps = ps
inner (t.Character value span) ps = ps
inner (t.Parenthesized a span) ps = stands a ps
inner (t.Call name all span) ps = stands_in_expressions all ps
inner (t.Index a b span) ps = stands a (stands b ps)
inner (t.Member a name span) ps = stands a ps
inner (t.PostfixStep operator a span) ps = stands a (last_two span ∷ ps)
inner (t.PrefixStep operator a span) ps = first_two span ∷ stands a ps
inner (t.Unary operator a span) ps = stands a ps
inner (t.Cast type a span) ps = stands a ps
inner (t.Binary operator a b span) ps = stands a (stands b ps)
inner (t.Conditional a b c span) ps = stands a (stands b (stands c ps))
inner (t.Assignment operator a b span) ps = stands a (stands b ps)
inner (t.Comma all span) ps = stands_in_expressions all ps

opened : (a : Expression) (ps : List Span) → stands a ps ≡ span_of a ∷ inner a ps
opened (t.Named name) ps = refl
opened (t.Constant value decimal unsigned longs span) ps = refl
opened (t.Character value span) ps = refl
opened (t.Parenthesized a span) ps = refl
opened (t.Call name all span) ps = refl
opened (t.Index a b span) ps = refl
opened (t.Member a name span) ps = refl
opened (t.PostfixStep operator a span) ps = refl
opened (t.PrefixStep operator a span) ps = refl
opened (t.Unary operator a span) ps = refl
opened (t.Cast type a span) ps = refl
opened (t.Binary operator a b span) ps = refl
opened (t.Conditional a b c span) ps = refl
opened (t.Assignment operator a b span) ps = refl
opened (t.Comma all span) ps = refl

-- An expression from this byte on, before these tokens.
pub record Node (c : ℕ) (rest : List Tok) (a : Expression) : Type 0 where
  pub lower : c ≤ (span_of a).start
  pub bytes : (span_of a).start < (span_of a).end
  pub follow : FollowFrom (span_of a).end rest
  pub goes : (ps : List Span) → From (span_of a).end ps → Chain (span_of a) (inner a ps)

node_from : {c : ℕ} {rest : List Tok} (a : Expression) → Node c rest a → (ps : List Span) → From (span_of a).end ps → From c (stands a ps)
node_from {c = c} a p ps k = subst (λ qs. From c qs) (sym (opened a ps)) (p.lower, p.bytes, p.goes ps k)

node_chain : {c : ℕ} {rest : List Tok} (s : Span) (a : Expression) → Node c rest a → Sooner s (span_of a) → (ps : List Span) → From (span_of a).end ps → Chain s (stands a ps)
node_chain s a p h ps k = subst (λ qs. Chain s qs) (sym (opened a ps)) (h, p.bytes, p.goes ps k)

pub as_part : {c : ℕ} {rest : List Tok} (a : Expression) → Node c rest a → Part c (span_of a).end rest (stands a)
as_part {c = c} a p =
    record {
      forward = forward_of c (span_of a).start (span_of a).end p.lower p.bytes;
      follow = p.follow;
      goes = λ ps k. node_from a p ps k;
    }

-- an expression that begins with a token of its own
pub begun : (a : Expression) (c n : ℕ) {rest : List Tok} → c ≤ (span_of a).start → (span_of a).start < n → Part n (span_of a).end rest (inner a) → Node c rest a
begun a c n low high p =
    record {
      lower = low;
      bytes = omega (arith, high, p.forward);
      follow = p.follow;
      goes = λ ps k. chain_from (span_of a) n (inner a ps) high (p.goes ps k);
    }

-- An expression that begins with another one: a token of its own and some places follow this.
pub record Onward (a whole : Expression) (rest : List Tok) (j : Spans) : Type 0 where
  pub at : ℕ
  pub past : (span_of a).end < at
  pub part : Part at (span_of whole).end rest j

pub past : (a whole : Expression) (x : Tok) (mid : List Tok) {rest : List Tok} {j : Spans} → FollowFrom (span_of a).end (x ∷ mid) → (FollowFrom (end_of x) mid → Part (end_of x) (span_of whole).end rest j) → Onward a whole rest j
past a whole x mid h q =
    record { at = end_of x; past = ends_after (span_of a).end x.start (length x.text) h.0 h.1; part = q h.2 }

pub grown : {c : ℕ} {mid rest : List Tok} {j : Spans} (a whole : Expression) → Node c mid a → (span_of whole).start ≡ (span_of a).start → Onward a whole rest j → ((ps : List Span) → inner whole ps ≡ stands a (j ps)) → Node c rest whole
grown {c = c} {j = j} a whole p same q is =
    let longer : (span_of a).end < (span_of whole).end = omega (arith, q.past, q.part.forward) in
    let sooner : Sooner (span_of whole) (span_of a) = inr (same, longer) in
    record {
      lower = subst (λ n. c ≤ n) (sym same) p.lower;
      bytes = subst (λ n. n < (span_of whole).end) (sym same) (omega (arith, p.bytes, longer));
      follow = q.part.follow;
      goes = λ ps k.
          subst (λ qs. Chain (span_of whole) qs) (sym (is ps))
          (node_chain (span_of whole) a p sooner (j ps) (from_lower (span_of a).end q.at (j ps) (omega (arith, q.past)) (q.part.goes ps k)));
    }

-- ---- steps: the operator has two bytes

second_true : (b d : Bool) → (b && d) ≡ true → d ≡ true
second_true true d h = h
second_true false d h = cc

text_of : (text : List ℕ) (x : Lexeme) → is_punctuator text x ≡ true → x.token.text ≡ text
text_of text x h = same_text x.token.text text (second_true (is_punctuator_kind x.token.kind) _ h)

two_bytes : {x : Lexeme} {operator : StepOperator} → IsStep x operator → length x.token.text ≡ 2
two_bytes (increment {x = x} h) = ap length (text_of (codes "++") x h)
two_bytes (decrement {x = x} h) = ap length (text_of (codes "--") x h)

pub after : {c : ℕ} {mid : List Tok} (operator : StepOperator) (a : Expression) (x : Lexeme) → IsStep x operator
    → Node c (x.token ∷ mid) a → Node c mid (t.PostfixStep operator a (to (span_of a) (at x)))
after {c = c} {mid = mid} operator a x s p =
    let two = two_bytes s in
    let span : Span = to (span_of a) (at x) in
    let longer : (span_of a).end < end_of x.token = omega (arith, two, p.follow.0) in
    let low : (span_of a).end ≤ end_of x.token - 2 = omega (arith, two, p.follow.0) in
    let short : end_of x.token - 2 < end_of x.token = omega (arith, two) in
    let sooner : Sooner span (span_of a) = inr (refl, longer) in
    record {
      lower = p.lower;
      bytes = omega (arith, p.bytes, longer);
      follow = p.follow.2;
      goes = λ ps k.
          node_chain span a p sooner (last_two span ∷ ps) (low, short, chain_from (last_two span) (end_of x.token) ps short k);
    }

pub before : {c : ℕ} {rest : List Tok} (operator : StepOperator) (a : Expression) (x : Lexeme) → IsStep x operator
    → c ≤ x.token.start → Node (end_of x.token) rest a → Node c rest (t.PrefixStep operator a (to (at x) (span_of a)))
before {c = c} operator a x s low p =
    let two = two_bytes s in
    let span : Span = to (at x) (span_of a) in
    let further : x.token.start + 2 < (span_of a).end = omega (arith, two, p.lower, p.bytes) in
    let fits : x.token.start + 2 ≤ (span_of a).end = omega (arith, further) in
    let cut : (first_two span).end ≡ x.token.start + 2 = min-eq_left fits in
    let shorter : (first_two span).end < (span_of a).end = omega (arith, cut, further) in
    let has : (first_two span).start < (first_two span).end = omega (arith, cut) in
    let high : (first_two span).start < end_of x.token = omega (arith, two) in
    let sooner : Sooner span (first_two span) = inr (refl, shorter) in
    record {
      lower = low;
      bytes = omega (arith, further);
      follow = p.follow;
      goes = λ ps k.
          (sooner, has, chain_from (first_two span) (end_of x.token) (stands a ps) high (node_from a p ps k));
    }
