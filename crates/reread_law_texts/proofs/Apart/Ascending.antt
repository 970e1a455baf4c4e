-- Places of a part of a text: each stands later than the one before it, or starts where this does and
-- ends sooner.
use Rattle.std.proofs.Common.{◌≡◌, ◌≤◌, ◌<◌, ◌⊎◌, inl, inr, ℕ, List, [], ◌∷◌, length, refl, sym, ap, subst, ◌∙◌, arith}
use Rattle.mc_span.specs.declared.span.Span.{Span}
use Rattle.mc_lex.specs.Tokens.{Tok}
use Rattle.mc_tree.specs.Tree.{Expression, span_of}
use Rattle.mc_tree.specs.Tree as t
use Rattle.mc_grammar.specs.Words.{Lexeme}
use Rattle.reread_law_texts.specs.alike.Moves.{FollowFrom, end_of}
use Rattle.reread_law_texts.specs.apart.Places.{Spans, spans, spans_in_expressions, spans_in_type_name}
use Rattle.reread_law_texts.specs.apart.Distinct.{Each, IsDistinct, HasBytes}
use Rattle.reread_law_texts.proofs.Tokens.{reflexive, transitive, ends_later, ends_after}

-- ---- the order of places

abbrev pub Sooner : Span → Span → Type 0
Sooner a b = (a.start < b.start) ⊎ ((a.start ≡ b.start) × (b.end < a.end))

-- These follow a place.
abbrev pub Chain : Span → List Span → Type 0
Chain s [] = Unit {0}
Chain s (p ∷ ps) = Sooner s p × HasBytes p × Chain p ps

-- These follow each other, from this byte on.
abbrev pub From : ℕ → List Span → Type 0
From c [] = Unit {0}
From c (p ∷ ps) = (c ≤ p.start) × HasBytes p × Chain p ps

trans : (a b c : Span) → Sooner a b → Sooner b c → Sooner a c
trans a b c (inl h) (inl k) = inl (omega (arith, h, k))
trans a b c (inl h) (inr k) = inl (omega (arith, h, k.0))
trans a b c (inr h) (inl k) = inl (omega (arith, h.0, k))
trans a b c (inr h) (inr k) = inr (h.0 ∙ k.0, omega (arith, h.1, k.1))

differ : (a b : Span) → Sooner a b → a ≡ b → ⊥
differ a b (inl h) e = let same : a.start ≡ b.start = ap (λ s. s.start) e in omega (arith, h, same)
differ a b (inr h) e = let same : a.end ≡ b.end = ap (λ s. s.end) e in omega (arith, h.1, same)

others_differ : (a b : Span) (ps : List Span) → Sooner a b → Chain b ps → Each (λ y. a ≡ y → ⊥) ps
others_differ a b [] h k = tt
others_differ a b (p ∷ ps) h k = let later = trans a b p h k.0 in (λ e. differ a p later e, others_differ a p ps later k.2)

all_differ : (a : Span) (ps : List Span) → Chain a ps → Each (λ y. a ≡ y → ⊥) ps
all_differ a [] k = tt
all_differ a (p ∷ ps) k = (λ e. differ a p k.0 e, others_differ a p ps k.0 k.2)

distinct_chain : (a : Span) (ps : List Span) → Chain a ps → IsDistinct ps
distinct_chain a [] k = tt
distinct_chain a (p ∷ ps) k = (all_differ p ps k.2, distinct_chain p ps k.2)

pub distinct : (c : ℕ) (ps : List Span) → From c ps → IsDistinct ps
distinct c [] k = tt
distinct c (p ∷ ps) k = (all_differ p ps k.2, distinct_chain p ps k.2)

bytes_chain : (a : Span) (ps : List Span) → Chain a ps → Each HasBytes ps
bytes_chain a [] k = tt
bytes_chain a (p ∷ ps) k = (k.1, bytes_chain p ps k.2)

pub bytes : (c : ℕ) (ps : List Span) → From c ps → Each HasBytes ps
bytes c [] k = tt
bytes c (p ∷ ps) k = (k.1, bytes_chain p ps k.2)

pub from_lower : (n m : ℕ) (ps : List Span) → n ≤ m → From m ps → From n ps
from_lower n m [] h k = tt
from_lower n m (p ∷ ps) h k = (omega (arith, h, k.0), k.1, k.2)

pub chain_from : (s : Span) (n : ℕ) (ps : List Span) → s.start < n → From n ps → Chain s ps
chain_from s n [] h k = tt
chain_from s n (p ∷ ps) h k = (inl (omega (arith, h, k.0)), k.1, k.2)

-- ---- parts

-- From this byte to that, before these tokens, stand these places.
pub record Part (c e : ℕ) (rest : List Tok) (i : Spans) : Type 0 where
  pub forward : c ≤ e
  pub follow : FollowFrom e rest
  pub goes : (ps : List Span) → From e ps → From c (i ps)

-- the same, up to some byte
pub record Goes (c : ℕ) (rest : List Tok) (i : Spans) : Type 0 where
  pub end : ℕ
  pub part : Part c end rest i

pub nothing : (c : ℕ) (ts : List Tok) → FollowFrom c ts → Part c c ts (λ ps. ps)
nothing c ts h = record { forward = reflexive c; follow = h; goes = λ ps k. k }

pub token : (c : ℕ) (x : Tok) (ts : List Tok) → FollowFrom c (x ∷ ts) → Part c (end_of x) ts (λ ps. ps)
token c x ts h =
    let later = ends_later c x.start (length x.text) h.0 in
    record { forward = later; follow = h.2; goes = λ ps k. from_lower c (end_of x) ps later k }

pub join : {c e k : ℕ} {mid rest : List Tok} {i j : Spans} → Part c e mid i → (FollowFrom e mid → Part e k rest j) → Part c k rest (λ ps. i (j ps))
join {c = c} {e = e} {k = k} {j = j} p q =
    let second = q p.follow in
    record {
      forward = transitive c e k p.forward second.forward;
      follow = second.follow;
      goes = λ ps h. p.goes (j ps) (second.goes ps h);
    }

pub some : {c e : ℕ} {rest : List Tok} {i : Spans} → Part c e rest i → Goes c rest i
some {e = e} p = record { end = e; part = p }

pub chain : {c : ℕ} {mid rest : List Tok} {i j : Spans} → Goes c mid i → ((e : ℕ) → FollowFrom e mid → Goes e rest j) → Goes c rest (λ ps. i (j ps))
chain p q =
    let second = q p.end p.part.follow in
    record { end = second.end; part = join p.part (λ h. second.part) }

pub one : (c : ℕ) (x : Tok) (ts : List Tok) → FollowFrom c (x ∷ ts) → Goes c ts (λ ps. ps)
one c x ts h = some (token c x ts h)

-- the same part where none of its places count
pub passed : {c e : ℕ} {rest : List Tok} {i : Spans} → Part c e rest i → Part c e rest (λ ps. ps)
passed {c = c} {e = e} p = record { forward = p.forward; follow = p.follow; goes = λ ps k. from_lower c e ps p.forward k }

pub passed_goes : {c : ℕ} {rest : List Tok} {i : Spans} → Goes c rest i → Goes c rest (λ ps. ps)
passed_goes g = record { end = g.end; part = passed g.part }

-- a place, and those in it, which start later
pub placed : (span : Span) (c n : ℕ) {rest : List Tok} {i : Spans} → c ≤ span.start → span.start < n → Part n span.end rest i → Part c span.end rest (λ ps. span ∷ i ps)
placed span c n {i = i} low high p =
    let bytes : span.start < span.end = omega (arith, high, p.forward) in
    record {
      forward = omega (arith, low, bytes);
      follow = p.follow;
      goes = λ ps k. (low, bytes, chain_from span n (i ps) high (p.goes ps k));
    }

-- ---- expressions

-- the places in an expression after its own
abbrev pub inner : Expression → Spans
inner (t.Named name) ps = ps
inner (t.Constant value decimal unsigned longs span) ps = ps
inner (t.Character value span) ps = ps
inner (t.Parenthesized a span) ps = spans a ps
inner (t.Call name all span) ps = spans_in_expressions all ps
inner (t.Index a b span) ps = spans a (spans b ps)
inner (t.Member a name span) ps = spans a ps
inner (t.PostfixStep operator a span) ps = spans a ps
inner (t.PrefixStep operator a span) ps = spans a ps
inner (t.Unary operator a span) ps = spans a ps
inner (t.Cast type a span) ps = spans_in_type_name type (spans a ps)
inner (t.Binary operator a b span) ps = spans a (spans b ps)
inner (t.Conditional a b c span) ps = spans a (spans b (spans c ps))
inner (t.Assignment operator a b span) ps = spans a (spans b ps)
inner (t.Comma all span) ps = spans_in_expressions all ps

opened : (a : Expression) (ps : List Span) → spans a ps ≡ span_of a ∷ inner a ps
opened (t.Named name) ps = refl
opened (t.Constant value decimal unsigned longs span) ps = refl
opened (t.Character value span) ps = refl
opened (t.Parenthesized a span) ps = refl
opened (t.Call name all span) ps = refl
opened (t.Index a b span) ps = refl
opened (t.Member a name span) ps = refl
opened (t.PostfixStep operator a span) ps = refl
opened (t.PrefixStep operator a span) ps = refl
opened (t.Unary operator a span) ps = refl
opened (t.Cast type a span) ps = refl
opened (t.Binary operator a b span) ps = refl
opened (t.Conditional a b c span) ps = refl
opened (t.Assignment operator a b span) ps = refl
opened (t.Comma all span) ps = refl

-- An expression from this byte on, before these tokens.
pub record Node (c : ℕ) (rest : List Tok) (a : Expression) : Type 0 where
  pub lower : c ≤ (span_of a).start
  pub bytes : (span_of a).start < (span_of a).end
  pub follow : FollowFrom (span_of a).end rest
  pub goes : (ps : List Span) → From (span_of a).end ps → Chain (span_of a) (inner a ps)

node_from : {c : ℕ} {rest : List Tok} (a : Expression) → Node c rest a → (ps : List Span) → From (span_of a).end ps → From c (spans a ps)
node_from {c = c} a p ps k = subst (λ qs. From c qs) (sym (opened a ps)) (p.lower, p.bytes, p.goes ps k)

node_chain : {c : ℕ} {rest : List Tok} (s : Span) (a : Expression) → Node c rest a → Sooner s (span_of a) → (ps : List Span) → From (span_of a).end ps → Chain s (spans a ps)
node_chain s a p h ps k = subst (λ qs. Chain s qs) (sym (opened a ps)) (h, p.bytes, p.goes ps k)

pub forward_of : (c start end : ℕ) → c ≤ start → start < end → c ≤ end
forward_of c start end h k = omega (arith, h, k)

pub as_part : {c : ℕ} {rest : List Tok} (a : Expression) → Node c rest a → Part c (span_of a).end rest (spans a)
as_part {c = c} a p =
    record {
      forward = forward_of c (span_of a).start (span_of a).end p.lower p.bytes;
      follow = p.follow;
      goes = λ ps k. node_from a p ps k;
    }

-- an expression that begins with a token of its own
pub begun : (a : Expression) (c n : ℕ) {rest : List Tok} → c ≤ (span_of a).start → (span_of a).start < n → Part n (span_of a).end rest (inner a) → Node c rest a
begun a c n low high p =
    record {
      lower = low;
      bytes = omega (arith, high, p.forward);
      follow = p.follow;
      goes = λ ps k. chain_from (span_of a) n (inner a ps) high (p.goes ps k);
    }

pub own : (x : Lexeme) → 0 < length x.token.text → x.token.start < end_of x.token
own x h = ends_after x.token.start x.token.start (length x.token.text) (reflexive x.token.start) h

-- An expression that begins with another one: a token of its own and some places follow this.
pub record Onward (a whole : Expression) (rest : List Tok) (j : Spans) : Type 0 where
  pub at : ℕ
  pub past : (span_of a).end < at
  pub part : Part at (span_of whole).end rest j

pub past : (a whole : Expression) (x : Tok) (mid : List Tok) {rest : List Tok} {j : Spans} → FollowFrom (span_of a).end (x ∷ mid) → (FollowFrom (end_of x) mid → Part (end_of x) (span_of whole).end rest j) → Onward a whole rest j
past a whole x mid h q =
    record { at = end_of x; past = ends_after (span_of a).end x.start (length x.text) h.0 h.1; part = q h.2 }

pub grown : {c : ℕ} {mid rest : List Tok} {j : Spans} (a whole : Expression) → Node c mid a → (span_of whole).start ≡ (span_of a).start → Onward a whole rest j → ((ps : List Span) → inner whole ps ≡ spans a (j ps)) → Node c rest whole
grown {c = c} {j = j} a whole p same q is =
    let longer : (span_of a).end < (span_of whole).end = omega (arith, q.past, q.part.forward) in
    let sooner : Sooner (span_of whole) (span_of a) = inr (same, longer) in
    record {
      lower = subst (λ n. c ≤ n) (sym same) p.lower;
      bytes = subst (λ n. n < (span_of whole).end) (sym same) (omega (arith, p.bytes, longer));
      follow = q.part.follow;
      goes = λ ps k.
          subst (λ qs. Chain (span_of whole) qs) (sym (is ps))
          (node_chain (span_of whole) a p sooner (j ps) (from_lower (span_of a).end q.at (j ps) (omega (arith, q.past)) (q.part.goes ps k)));
    }
