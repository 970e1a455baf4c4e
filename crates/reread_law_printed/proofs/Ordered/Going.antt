-- Rows in order from one byte to another: those of a part, and those that follow.
use Rattle.std.proofs.Common.{◌≤◌, ℕ, zero, suc, ◌+◌, ◌-◌, List, [], ◌∷◌, ◌++◌, length, sym, ap, subst, ◌∙◌, arith}
use Rattle.mc_span.specs.declared.span.Span.{Span}
use Rattle.mc_tree.specs.Tree.{Expression, Expressions, Initializer, Initializers, InitDeclarator, span_of}
use Rattle.mc_tree.specs.Tree as tree
use Rattle.mc_typed.specs.declared.probes.Probe.{Probe}
use Rattle.mc_typed.specs.declared.probes.Probe.TheVariants as probe
use Rattle.decide_rules.specs.Nodes.{Node}
use Rattle.mc_probe.specs.Maps.{Map}
use Rattle.mc_probe.specs.Tree as p
use Rattle.mc_probe.specs.Table.{Stand, operand, inner, wrap}
use Rattle.reread_pieces.specs.declared.piece.What.TheVariants as what
use Rattle.reread_law_rows.specs.inserted.Rows.{Row, Rows, row, row_of_probe, extent, rows}
use Rattle.reread_law_printed.specs.parts.Stands.{AreInOrder}
use Rattle.reread_law_rows.proofs.Signed.Split.{probed_by, openings, endings, rows_probed}
use Rattle.reread_law_rows.proofs.Signed.Wrapped.{own_probes, round_is, probed_both}
use Rattle.reread_law_printed.specs.ordered.Nested.{Nested, HoldsAll, InInitializer, InInitializers, InObjects}

pub le : {a b c : ℕ} → a ≤ b → b ≤ c → a ≤ c
le h l = omega (arith, h, l)

pub same : (a : ℕ) → a ≤ a
same a = omega arith

-- From any byte that is not after the first one the rows go on to what follows, which holds from each
-- byte that is not after the last one.
pub record Goes (s e : ℕ) (mine : Rows) : Type 0 where
  pub goes : (from to : ℕ) (later : List Row) → from ≤ s → ((f : ℕ) → f ≤ e → AreInOrder f later to) → AreInOrder from (mine later) to

pub nothing : {s e : ℕ} → s ≤ e → Goes s e (λ later. later)
nothing h = record { goes = λ from to later l k. k from (le l h) }

pub followed : {s e u v : ℕ} {mine more : Rows} → Goes s e mine → e ≤ u → Goes u v more → Goes s v (λ later. mine (more later))
followed {more = more} g h l = record { goes = λ from to later f k. g.goes from to (more later) f (λ x b. l.goes x to later (le b h) k) }

pub wider : {s e u v : ℕ} {mine : Rows} → u ≤ s → e ≤ v → Goes s e mine → Goes u v mine
wider h l g = record { goes = λ from to later f k. g.goes from to later (le f h) (λ x b. k x (le b l)) }

-- ---- round an expression

round_places : (q : Probe) (at : Span) (from to : ℕ) (later : List Row) → from ≤ at.start → AreInOrder at.start later to → AreInOrder from (row (row_of_probe q) at later) to
round_places (probe.Decision r base) at from to later h k = (h, k)
round_places (probe.Condition r t f) at from to later h k = (h, k)
round_places (probe.Switch r) at from to later h k = (h, k)

opened : (qs : List Probe) (at : Span) (from to : ℕ) (later : List Row) → from ≤ at.start → ((f : ℕ) → f ≤ at.start → AreInOrder f later to) → AreInOrder from (openings qs at later) to
opened [] at from to later h k = k from h
opened (q ∷ qs) at from to later h k = round_places q at from to (openings qs at later) h (opened qs at at.start to later (same at.start) k)

ended : (n : ℕ) (at : Span) (from to : ℕ) (later : List Row) → from ≤ at.end → ((f : ℕ) → f ≤ at.end → AreInOrder f later to) → AreInOrder from (endings n at later) to
ended zero at from to later h k = k from h
ended (suc n) at from to later h k = ended n at from to (row what.OperandEnd at later) h (λ f b. (b, k at.end (same at.end)))

pub node : (qs : List Probe) (x : p.Expression) {s e : ℕ} → Goes s e (rows x) → (extent x).start ≤ s → e ≤ (extent x).end → Goes (extent x).start (extent x).end (rows (probed_by qs x))
node qs x g h l = record {
  goes = λ from to later f k.
      subst (λ rs. AreInOrder from rs to) (sym (rows_probed qs x later))
      (opened qs (extent x) from to (rows x (endings (length qs) (extent x) later)) f
      (λ u b. g.goes u to (endings (length qs) (extent x) later) (le b h)
      (λ v c. ended (length qs) (extent x) v to later (le c l) k)));
}

-- What holds with any probes round it holds with these.
pub wrapped : (m : Map) (first : ℕ) (qs : List Probe) (st : Stand) (d : ℕ) (a : Node) (inside : Stand → ℕ → p.Expression) {s e : ℕ}
    → ((all : List Probe) → Goes s e (rows (probed_by all (inside (operand st d a) (inner st d a)))))
    → Goes s e (rows (probed_by qs (wrap m first st d a inside)))
wrapped m first qs st d a inside {s = s} {e = e} h =
    let x = inside (operand st d a) (inner st d a) in
    let rs = own_probes m first st d a in
    let same = ap (λ y. probed_by qs y) (round_is m first st d a x) ∙ probed_both qs rs x in
    subst (λ y. Goes s e (rows y)) (sym same) (h (qs ++ rs))

-- ---- places that go forward

mutual
  pub forward : (a : Expression) → Nested a → (span_of a).start ≤ (span_of a).end
  forward (tree.Named name) h = h
  forward (tree.Constant value decimal unsigned longs span) h = h
  forward (tree.Character value span) h = h
  forward (tree.Parenthesized a span) h = le h.0 (le (forward a h.2) h.1)
  forward (tree.Call name all span) h = all_forward all h
  forward (tree.Index a b span) h = le h.0 (le (forward a h.3) (le h.1 (le (forward b h.4) h.2)))
  forward (tree.Member a name span) h = le h.0 (le (forward a h.2) h.1)
  forward (tree.PostfixStep operator a span) h = le h.0 (le (forward a h.2) h.1)
  forward (tree.PrefixStep operator a span) h = le h.0 (le (forward a h.2) h.1)
  forward (tree.Unary operator a span) h = le h.0 (le (forward a h.2) h.1)
  forward (tree.Cast type a span) h = le h.0 (le (forward a h.2) h.1)
  forward (tree.Binary operator a b span) h = le h.0 (le (forward a h.3) (le h.1 (le (forward b h.4) h.2)))
  forward (tree.Conditional a b c span) h =
      le h.0 (le (forward a h.4) (le h.1 (le (forward b h.5) (le h.2 (le (forward c h.6) h.3)))))
  forward (tree.Assignment operator a b span) h = le h.0 (le (forward a h.3) (le h.1 (le (forward b h.4) h.2)))
  forward (tree.Comma all span) h = all_forward all h

  pub all_forward : {from to : ℕ} (all : Expressions) → HoldsAll from all to → from ≤ to
  all_forward tree.no_expressions h = h
  all_forward (tree.expressions a rest) h = le h.0 (le (forward a h.1) (all_forward rest h.2))

mutual
  pub initializer_forward : {from to : ℕ} (i : Initializer) → InInitializer from i to → from ≤ to
  initializer_forward (tree.Single a) h = le h.0 (le (forward a h.2) h.1)
  initializer_forward (tree.Braced all span) h = initializers_forward all h

  pub initializers_forward : {from to : ℕ} (all : Initializers) → InInitializers from all to → from ≤ to
  initializers_forward tree.no_initializers h = h
  initializers_forward (tree.initializers one rest) h = le (initializer_forward one h.1) (initializers_forward rest h.2)

pub objects_forward : {from to : ℕ} (ds : List InitDeclarator) → InObjects from ds to → from ≤ to
objects_forward [] h = h
objects_forward (tree.bare d ∷ rest) h = objects_forward rest h
objects_forward (tree.initialized d value ∷ rest) h = le (initializer_forward value h.1) (objects_forward rest h.2)
