-- Rows round expressions, and places that go forward.
use Rattle.std.proofs.Common.{◌≤◌, ℕ, zero, suc, Bool, List, [], ◌∷◌, ◌++◌, length, sym, ap, subst, ◌∙◌}
use Rattle.mc_span.specs.declared.span.Span.{Span}
use Rattle.mc_lex.specs.Tokens.{Tok}
use Rattle.mc_tree.specs.Tree.{Expression, Expressions, Initializer, Initializers, InitDeclarator, span_of}
use Rattle.mc_tree.specs.Tree as tree
use Rattle.mc_typed.specs.declared.probes.Probe.{Probe}
use Rattle.mc_typed.specs.declared.probes.Probe.TheVariants as probe
use Rattle.decide_rules.specs.Nodes.{Node}
use Rattle.mc_probe.specs.Maps.{Map}
use Rattle.mc_probe.specs.Tree as p
use Rattle.mc_probe.specs.Table.{Stand, operand, inner, wrap}
use Rattle.reread_pieces.specs.declared.piece.What.{What}
use Rattle.reread_pieces.specs.declared.piece.What.TheVariants as what
use Rattle.reread_law_rows.specs.inserted.Rows.{Row, Rows, row, row_of_probe, extent, rows}
use Rattle.reread_law_printed.specs.placed.Separate.{AreSeparateAfter}
use Rattle.reread_law_rows.proofs.Signed.Split.{probed_by, openings, endings, rows_probed}
use Rattle.reread_law_rows.proofs.Signed.Wrapped.{own_probes, round_is, probed_both}
use Rattle.reread_law_printed.specs.ordered.Nested.{Nested, HoldsAll, InInitializer, InInitializers, InObjects}
use Rattle.laws_reread.proofs.Ready.{le, same, Ready, ready_later, put, Goes, nothing, followed, wider}

-- ---- expressions one after the other, in which no statement begins

pub silent : {tokens : List Tok} {b : Bool} {n s e : ℕ} → s ≤ e → Goes tokens b n s n e (λ later. later)
silent {n = n} h = nothing (same n) h

pub next : {tokens : List Tok} {b : Bool} {n s e u v : ℕ} {mine more : Rows} → Goes tokens b n s n e mine → e ≤ u → Goes tokens b n u n v more → Goes tokens b n s n v (λ later. mine (more later))
next {n = n} g h l = followed g (same n) h l

pub wide : {tokens : List Tok} {b : Bool} {n s e u v : ℕ} {mine : Rows} → u ≤ s → e ≤ v → Goes tokens b n s n e mine → Goes tokens b n u n v mine
wide {n = n} h l g = wider (same n) h (same n) l g

-- ---- round an expression

-- what holds after each row that is ready there
abbrev After : List Tok → Bool → ℕ → ℕ → List Row → Type 0
After tokens b n s later = (w : What) (other : Span) → Ready tokens b n s w other → AreSeparateAfter tokens w other later

round_put : {tokens : List Tok} {b : Bool} {n s : ℕ} {v : What} {span : Span} (q : Probe) (at : Span) (later : List Row) → Ready tokens b n s v span → s ≤ at.start → After tokens b n at.start later
    → AreSeparateAfter tokens v span (row (row_of_probe q) at later)
round_put (probe.Decision r base) at later h l k = put (what.Decision r base) at later h l tt (k (what.Decision r base) at (record { past = same at.start; ready = tt }))
round_put (probe.Condition r t f) at later h l k = put (what.Condition r t f) at later h l tt (k (what.Condition r t f) at (record { past = same at.start; ready = tt }))
round_put (probe.Switch r) at later h l k = put (what.Switch r) at later h l tt (k (what.Switch r) at (record { past = same at.start; ready = tt }))

opened : {tokens : List Tok} {b : Bool} {n s : ℕ} {v : What} {span : Span} (qs : List Probe) (at : Span) (later : List Row) → Ready tokens b n s v span → s ≤ at.start → After tokens b n at.start later
    → AreSeparateAfter tokens v span (openings qs at later)
opened {n = n} {v = v} {span = span} [] at later h l k = k v span (ready_later (same n) l h)
opened (q ∷ qs) at later h l k = round_put q at (openings qs at later) h l (λ w other r. opened qs at later r (same at.start) k)

closed : {tokens : List Tok} {b : Bool} {n s : ℕ} {v : What} {span : Span} (count : ℕ) (at : Span) (later : List Row) → Ready tokens b n s v span → s ≤ at.end → After tokens b n at.end later
    → AreSeparateAfter tokens v span (endings count at later)
closed {n = n} {v = v} {span = span} zero at later h l k = k v span (ready_later (same n) l h)
closed (suc count) at later h l k =
    closed count at (row what.OperandEnd at later) h l
    (λ w other r. put what.OperandEnd at later r (same at.end) tt (k what.OperandEnd at (record { past = same at.end; ready = tt })))

-- an expression with probes round it
pub node : {tokens : List Tok} {b : Bool} {n : ℕ} (qs : List Probe) (x : p.Expression) {s e : ℕ} → Goes tokens b n s n e (rows x) → (extent x).start ≤ s → e ≤ (extent x).end
    → Goes tokens b n (extent x).start n (extent x).end (rows (probed_by qs x))
node {tokens = tokens} {n = n} qs x g h l = record {
  goes = λ v span later r k.
      subst (λ rs. AreSeparateAfter tokens v span rs) (sym (rows_probed qs x later))
      (opened qs (extent x) (rows x (endings (length qs) (extent x) later)) r (same (extent x).start)
      (λ w other y. g.goes w other (endings (length qs) (extent x) later) (ready_later (same n) h y)
      (λ w other z. closed (length qs) (extent x) later z l k)));
}

-- What holds with any probes round it holds with these.
pub wrapped : {tokens : List Tok} {b : Bool} {n : ℕ} (m : Map) (first : ℕ) (qs : List Probe) (st : Stand) (d : ℕ) (a : Node) (inside : Stand → ℕ → p.Expression) {s e : ℕ}
    → ((all : List Probe) → Goes tokens b n s n e (rows (probed_by all (inside (operand st d a) (inner st d a)))))
    → Goes tokens b n s n e (rows (probed_by qs (wrap m first st d a inside)))
wrapped {tokens = tokens} {b = b} {n = n} m first qs st d a inside {s = s} {e = e} h =
    let x = inside (operand st d a) (inner st d a) in
    let rs = own_probes m first st d a in
    let whole = ap (λ y. probed_by qs y) (round_is m first st d a x) ∙ probed_both qs rs x in
    subst (λ y. Goes tokens b n s n e (rows y)) (sym whole) (h (qs ++ rs))

-- ---- places that go forward

mutual
  pub forward : (a : Expression) → Nested a → (span_of a).start ≤ (span_of a).end
  forward (tree.Named name) h = h
  forward (tree.Constant value decimal unsigned longs span) h = h
  forward (tree.Character value span) h = h
  forward (tree.Parenthesized a span) h = le h.0 (le (forward a h.2) h.1)
  forward (tree.Call name all span) h = all_forward all h
  forward (tree.Index a b span) h = le h.0 (le (forward a h.3) (le h.1 (le (forward b h.4) h.2)))
  forward (tree.Member a name span) h = le h.0 (le (forward a h.2) h.1)
  forward (tree.PostfixStep operator a span) h = le h.0 (le (forward a h.2) h.1)
  forward (tree.PrefixStep operator a span) h = le h.0 (le (forward a h.2) h.1)
  forward (tree.Unary operator a span) h = le h.0 (le (forward a h.2) h.1)
  forward (tree.Cast type a span) h = le h.0 (le (forward a h.2) h.1)
  forward (tree.Binary operator a b span) h = le h.0 (le (forward a h.3) (le h.1 (le (forward b h.4) h.2)))
  forward (tree.Conditional a b c span) h =
      le h.0 (le (forward a h.4) (le h.1 (le (forward b h.5) (le h.2 (le (forward c h.6) h.3)))))
  forward (tree.Assignment operator a b span) h = le h.0 (le (forward a h.3) (le h.1 (le (forward b h.4) h.2)))
  forward (tree.Comma all span) h = all_forward all h

  pub all_forward : {from to : ℕ} (all : Expressions) → HoldsAll from all to → from ≤ to
  all_forward tree.no_expressions h = h
  all_forward (tree.expressions a rest) h = le h.0 (le (forward a h.1) (all_forward rest h.2))

mutual
  pub initializer_forward : {from to : ℕ} (i : Initializer) → InInitializer from i to → from ≤ to
  initializer_forward (tree.Single a) h = le h.0 (le (forward a h.2) h.1)
  initializer_forward (tree.Braced all span) h = initializers_forward all h

  pub initializers_forward : {from to : ℕ} (all : Initializers) → InInitializers from all to → from ≤ to
  initializers_forward tree.no_initializers h = h
  initializers_forward (tree.initializers one rest) h = le (initializer_forward one h.1) (initializers_forward rest h.2)

pub objects_forward : {from to : ℕ} (ds : List InitDeclarator) → InObjects from ds to → from ≤ to
objects_forward [] h = h
objects_forward (tree.bare d ∷ rest) h = objects_forward rest h
objects_forward (tree.initialized d value ∷ rest) h = le (initializer_forward value h.1) (objects_forward rest h.2)
