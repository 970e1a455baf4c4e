-- Rows one after the other: what is known of the last row of a part, and which rows may stand
-- directly after it.
use Rattle.std.proofs.Common.{◌≡◌, ◌≤◌, ◌<◌, ◌+◌, ◌-◌, ℕ, Bool, true, false, List, [], ◌∷◌, refl, sym, ◌∙◌, true≢false, arith}
use Rattle.mc_span.specs.declared.span.Span.{Span}
use Rattle.mc_lex.specs.Tokens.{Tok}
use Rattle.mc_probe.specs.Maps.{Map}
use Rattle.mc_probe.specs.Table.{At, mark_unless_default}
use Rattle.reread_pieces.specs.declared.piece.What.{What}
use Rattle.reread_pieces.specs.declared.piece.What.TheVariants as what
use Rattle.reread_law_rows.specs.inserted.Rows.{Row, Rows, row, absent_default}
use Rattle.reread_law_printed.specs.parts.Parts.{place_by}
use Rattle.reread_law_printed.specs.parts.Stands.{past_by}
use Rattle.reread_law_printed.specs.placed.Separate.{IsLater, IsBeforeLabel, ComesAfter, HasTwoBefore, ComesBefore, AreSeparateAfter}

pub le : {a b c : ℕ} → a ≤ b → b ≤ c → a ≤ c
le h l = omega (arith, h, l)

pub less : {a b c : ℕ} → a < b → b ≤ c → a < c
less h l = omega (arith, h, l)

pub same : (a : ℕ) → a ≤ a
same a = omega arith

two_later : {tokens : List Tok} {span : Span} {at to : ℕ} → HasTwoBefore tokens span at → at ≤ to → HasTwoBefore tokens span to
two_later h l = record { before = h.before; first = h.first; second = h.second; after = h.after; all = h.all; start = h.start; end = le h.end l }

-- ---- the last row

-- What is known of it, by what it is. A counted statement begins before the byte `n`. The first two
-- tokens of a declaration end at the byte `s` or before it. A row that stands directly before an end
-- is followed by this end. Inside a counted statement, as `b` says, no row of a whole function is the
-- last one.
abbrev pub IsReady : List Tok → Bool → ℕ → ℕ → What → Span → Type 0
IsReady tokens b n s (what.Statement bit) span = span.start < n
IsReady tokens b n s (what.Declaration bit) span = HasTwoBefore tokens span s
IsReady tokens b n s (what.Default r bit) span = ⊥
IsReady tokens b n s (what.Return bit) span = ⊥
IsReady tokens b n s (what.Registers count) span = b ≡ false
IsReady tokens b n s (what.Entry bit) span = b ≡ false
IsReady tokens b n s (what.Exit bit) span = b ≡ false
IsReady tokens b n s v span = Unit {0}

pub record Ready (tokens : List Tok) (b : Bool) (n s : ℕ) (v : What) (span : Span) : Type 0 where
  pub past : past_by v span ≤ s
  pub ready : IsReady tokens b n s v span

is_ready_later : (tokens : List Tok) (b : Bool) {n s m e : ℕ} (v : What) (span : Span) → n ≤ m → s ≤ e → IsReady tokens b n s v span → IsReady tokens b m e v span
is_ready_later tokens b (what.Statement bit) span h l k = less k h
is_ready_later tokens b (what.Declaration bit) span h l k = two_later k l
is_ready_later tokens b (what.Default r bit) span h l k = absurd k
is_ready_later tokens b (what.Return bit) span h l k = absurd k
is_ready_later tokens b (what.Registers count) span h l k = k
is_ready_later tokens b (what.Entry bit) span h l k = k
is_ready_later tokens b (what.Exit bit) span h l k = k
is_ready_later tokens b v span h l k = tt

pub ready_later : {tokens : List Tok} {b : Bool} {n s m e : ℕ} {v : What} {span : Span} → n ≤ m → s ≤ e → Ready tokens b n s v span → Ready tokens b m e v span
ready_later {tokens = tokens} {b = b} {v = v} {span = span} h l r = record { past = le r.past l; ready = is_ready_later tokens b v span h l r.ready }

-- ---- the next row

declaration_before : (tokens : List Tok) (bit : ℕ) (span : Span) (w : What) (other : Span) → HasTwoBefore tokens span (place_by w other) → ComesBefore tokens (what.Declaration bit) span w other
declaration_before tokens bit span (what.Exit e) other h = tt
declaration_before tokens bit span w other h = h

comes_before : (tokens : List Tok) (b : Bool) (n s : ℕ) (v : What) (span : Span) (w : What) (other : Span) → s ≤ place_by w other → IsReady tokens b n s v span → ComesBefore tokens v span w other
comes_before tokens b n s (what.Declaration bit) span w other l k = declaration_before tokens bit span w other (two_later k l)
comes_before tokens b n s (what.Default r bit) span w other l k = absurd k
comes_before tokens b n s (what.Return bit) span w other l k = absurd k
comes_before tokens b n s v span w other l k = tt

exit_before : (tokens : List Tok) (b : Bool) (n s : ℕ) (v : What) (span : Span) (bit : ℕ) (other : Span) → IsReady tokens b n s v span → ComesBefore tokens v span (what.Exit bit) other
exit_before tokens b n s (what.Default r bit) span e other k = absurd k
exit_before tokens b n s (what.Return bit) span e other k = absurd k
exit_before tokens b n s v span e other k = tt

pub is_later : (tokens : List Tok) (b : Bool) (n s : ℕ) (v : What) (span : Span) (w : What) (other : Span) → n ≤ place_by w other → IsReady tokens b n s v span → IsLater v span w other
is_later tokens b n s (what.Statement bit) span w other l k = less k l
is_later tokens b n s v span w other l k = tt

is_before_label : (tokens : List Tok) (b : Bool) (n s : ℕ) (v : What) (span other : Span) → b ≡ true → past_by v span ≤ other.start → IsReady tokens b n s v span → IsBeforeLabel v span other
is_before_label tokens b n s (what.Registers count) span other e l k = absurd (true≢false (sym e ∙ k))
is_before_label tokens b n s (what.Entry bit) span other e l k = absurd (true≢false (sym e ∙ k))
is_before_label tokens b n s (what.Exit bit) span other e l k = absurd (true≢false (sym e ∙ k))
is_before_label tokens b n s v span other e l k = l

-- a row after which no other comes
pub may_be_last : (tokens : List Tok) (b : Bool) (n s : ℕ) (v : What) (span : Span) → IsReady tokens b n s v span → AreSeparateAfter tokens v span []
may_be_last tokens b n s (what.Default r bit) span k = absurd k
may_be_last tokens b n s v span k = tt

-- a row that may stand there, and those after it
pub put : {tokens : List Tok} {b : Bool} {n s : ℕ} {v : What} {span : Span} (w : What) (other : Span) (later : List Row)
    → Ready tokens b n s v span → s ≤ place_by w other → ComesAfter v span w other → AreSeparateAfter tokens w other later → AreSeparateAfter tokens v span (row w other later)
put {tokens = tokens} {b = b} {n = n} {s = s} {v = v} {span = span} w other later r l a k = (a, comes_before tokens b n s v span w other l r.ready, k)

-- ---- parts

-- From any row that is ready at the first place the rows go on to what follows, which holds from each
-- row that is ready at the last one.
pub record Goes (tokens : List Tok) (b : Bool) (n s m e : ℕ) (mine : Rows) : Type 0 where
  pub goes : (v : What) (span : Span) (later : List Row) → Ready tokens b n s v span
      → ((w : What) (other : Span) → Ready tokens b m e w other → AreSeparateAfter tokens w other later)
      → AreSeparateAfter tokens v span (mine later)

pub nothing : {tokens : List Tok} {b : Bool} {n s m e : ℕ} → n ≤ m → s ≤ e → Goes tokens b n s m e (λ later. later)
nothing h l = record { goes = λ v span later r k. k v span (ready_later h l r) }

pub followed : {tokens : List Tok} {b : Bool} {n s m e x u y z : ℕ} {mine more : Rows} → Goes tokens b n s m e mine → m ≤ x → e ≤ u → Goes tokens b x u y z more
    → Goes tokens b n s y z (λ later. mine (more later))
followed {more = more} g h l f = record { goes = λ v span later r k. g.goes v span (more later) r (λ w other q. f.goes w other later (ready_later h l q) k) }

pub wider : {tokens : List Tok} {b : Bool} {n s m e x u y z : ℕ} {mine : Rows} → x ≤ n → u ≤ s → m ≤ y → e ≤ z → Goes tokens b n s m e mine → Goes tokens b x u y z mine
wider h l i j g = record { goes = λ v span later r k. g.goes v span later (ready_later h l r) (λ w other q. k w other (ready_later i j q)) }

-- ---- rows of statements

-- after the end of a statement
ended : (tokens : List Tok) (b : Bool) (span : Span) → Ready tokens b span.end span.end what.StatementEnd span
ended tokens b span = record { past = same span.end; ready = tt }

-- the probe, what it encloses, and its end
pub braced : {tokens : List Tok} {b : Bool} (bit : ℕ) (span : Span) {n k e : ℕ} {mine : Rows} → span.start < n → k ≤ span.end → e ≤ span.end → Goes tokens true n span.start k e mine
    → Goes tokens b span.start span.start span.end span.end (λ later. row (what.Statement bit) span (mine (row what.StatementEnd span later)))
braced {tokens = tokens} {b = b} bit span h l q g = record {
  goes = λ v at later r rest.
      put (what.Statement bit) span _ r (same span.start) (is_later tokens b _ _ v at (what.Statement bit) span (same span.start) r.ready)
      (g.goes (what.Statement bit) span (row what.StatementEnd span later) (record { past = same span.start; ready = h })
      (λ w other x. put what.StatementEnd span _ x q (is_later tokens true _ _ w other what.StatementEnd span l x.ready) (rest what.StatementEnd span (ended tokens b span))));
}

-- the end of a `switch`, after its absent `default`
absent_ended : (tokens : List Tok) (m : Map) (first : ℕ) (has : Bool) (at : At m first) (span : Span) {k e : ℕ} (w : What) (other : Span) (later : List Row)
    → Ready tokens true k e w other → k ≤ span.end → e ≤ span.end → AreSeparateAfter tokens what.StatementEnd span later
    → AreSeparateAfter tokens w other (absent_default (mark_unless_default m first has at) span (row what.StatementEnd span later))
absent_ended tokens m first true at span w other later x l q rest = put what.StatementEnd span _ x q (is_later tokens true _ _ w other what.StatementEnd span l x.ready) rest
absent_ended tokens m first false at span w other later x l q rest = put (what.Default at.switch at.label) span (row what.StatementEnd span later) x q tt (tt, (refl, refl), rest)

pub braced_switch : {tokens : List Tok} {b : Bool} (m : Map) (first : ℕ) (has : Bool) (at : At m first) (bit : ℕ) (span : Span) {n k e : ℕ} {mine : Rows}
    → span.start < n → k ≤ span.end → e ≤ span.end → Goes tokens true n span.start k e mine
    → Goes tokens b span.start span.start span.end span.end
    (λ later. row (what.Statement bit) span (mine (absent_default (mark_unless_default m first has at) span (row what.StatementEnd span later))))
braced_switch {tokens = tokens} {b = b} m first has at bit span h l q g = record {
  goes = λ v place later r rest.
      put (what.Statement bit) span _ r (same span.start) (is_later tokens b _ _ v place (what.Statement bit) span (same span.start) r.ready)
      (g.goes (what.Statement bit) span (absent_default (mark_unless_default m first has at) span (row what.StatementEnd span later)) (record { past = same span.start; ready = h })
      (λ w other x. absent_ended tokens m first has at span w other later x l q (rest what.StatementEnd span (ended tokens b span))));
}

-- a label
pub labelled : {tokens : List Tok} {b : Bool} (r bit : ℕ) (label : Span) {n s : ℕ} → b ≡ true → s ≤ label.start → s ≤ label.end
    → Goes tokens b n s label.end label.end (row (what.Label r bit) label)
labelled {tokens = tokens} {b = b} r bit label e h l = record {
  goes = λ v at later x k.
      put (what.Label r bit) label _ x l (is_before_label tokens b _ _ v at label e (le x.past h) x.ready) (k (what.Label r bit) label (record { past = same label.end; ready = tt }));
}

-- a `return` without a value
pub returned : {tokens : List Tok} {b : Bool} (bit exit : ℕ) (span : Span)
    → Goes tokens b span.start span.start span.end span.end
    (λ later. row (what.Statement bit) span (row (what.Return exit) span (row what.ReturnEnd span (row what.StatementEnd span later))))
returned {tokens = tokens} {b = b} bit exit span = record {
  goes = λ v at later r rest.
      put (what.Statement bit) span (row (what.Return exit) span (row what.ReturnEnd span (row what.StatementEnd span later))) r (same span.start) (is_later tokens b _ _ v at (what.Statement bit) span (same span.start) r.ready)
      (refl, tt, (tt, (refl, refl), (tt, tt, rest what.StatementEnd span (ended tokens b span))));
}

-- and one with a value
pub valued : {tokens : List Tok} {b : Bool} (bit exit : ℕ) (span : Span) {n s m e : ℕ} {mine : Rows} → span.start + 6 ≤ s → e ≤ span.end - 1 → Goes tokens true n s m e mine
    → Goes tokens b span.start span.start span.end span.end
    (λ later. row (what.Statement bit) span (row what.Value span (mine (row (what.ValueEnd exit) span (row what.StatementEnd span later)))))
valued {tokens = tokens} {b = b} bit exit span {mine = mine} h l g = record {
  goes = λ v at later r rest.
      put (what.Statement bit) span (row what.Value span (mine (row (what.ValueEnd exit) span (row what.StatementEnd span later)))) r (same span.start) (is_later tokens b _ _ v at (what.Statement bit) span (same span.start) r.ready) (
        refl,
        tt,
        g.goes what.Value span (row (what.ValueEnd exit) span (row what.StatementEnd span later)) (record { past = h; ready = tt })
            (λ w other x. put (what.ValueEnd exit) span (row what.StatementEnd span later) x l tt (tt, tt, rest what.StatementEnd span (ended tokens b span))),
      );
}

-- ---- rows of functions

-- at its place
pub front : {tokens : List Tok} {n s : ℕ} (w : What) (name : Span) (end : ℕ) (later : List Row) {v : What} {at : Span} → Ready tokens false n s v at → s ≤ place_by w name → ComesAfter v at w name
    → AreSeparateAfter tokens w name later → AreSeparateAfter tokens v at (record { what = w; span = name; end = end } ∷ later)
front {tokens = tokens} {n = n} {s = s} w name end later {v = v} {at = at} r l a k = (a, comes_before tokens false n s v at w name l r.ready, k)

-- and before its last `}`
pub left : {tokens : List Tok} {n s : ℕ} (bit : ℕ) (name : Span) (end : ℕ) (later : List Row) {v : What} {at : Span} → Ready tokens false n s v at
    → AreSeparateAfter tokens (what.Exit bit) name later → AreSeparateAfter tokens v at (record { what = what.Exit bit; span = name; end = end } ∷ later)
left {tokens = tokens} {n = n} {s = s} bit name end later {v = v} {at = at} r k = (tt, exit_before tokens false n s v at bit name r.ready, k)
