-- Where nodes stand as in a text, decisions are in the order of their starts.
use Rattle.std.proofs.Common.{◌≡◌, ◌∙◌, refl, sym, ap, subst, ℕ, zero, suc, ◌<◌, ◌≤◌, ◌⊎◌, inl, inr, Bool, true, false, not, ◌&&◌, ◌||◌, if◌then◌else◌, IsTrue, List, [], ◌∷◌, All, Some, arith}
use Rattle.std.proofs.lemmas.List.Elements.{All-nil, All-cons, All-head, All-tail}
use Rattle.std.proofs.lemmas.Bool.{cases_lt}
use Rattle.mc_span.specs.declared.span.Span.{Span}
use Rattle.mc_typed.specs.Tree.{Function}
use Rattle.decide_rules.specs.declared.role.Role.{Role}
use Rattle.decide_rules.specs.declared.role.Role.TheVariants.{Controlling, Inner, Plain}
use Rattle.decide_rules.specs.Nodes.{Node, Constant, Not, Logic, Expression, Whole, Parts, no_parts, part, controlling, span_of, program}
use Rattle.decide_rules.specs.Roots.{Place, Standing, standing, Found, is_constant, is_candidate, is_root, is_inner, operand_role, part_at, step, IsAt, IsRoot}
use Rattle.decide_rules.specs.Decisions.{Decision, Tells, AreTold, IsBefore, IsAscending}
use Rattle.decide_rules.specs.Laws.{IsBetween, StandsIn, StandIn, IsExpression, IsInOrder, AreInOrder, StartsAreInOrder}
use Rattle.decide_rules.proofs.Each.{not_constant}

-- only an expression is a controlling one
abbrev FitsRole : Role → Node → Type 0
FitsRole Controlling a = IsExpression a
FitsRole Inner a = Unit {0}
FitsRole Plain a = Unit {0}

-- what stands between two bytes
record Stands (low high : ℕ) (u : Standing) : Type 0 where
  node : StandsIn low high u.node
  fits : FitsRole u.role u.node

-- between which bytes the parts of a node stand
abbrev low_of : ℕ → Node → ℕ
low_of low (Constant span) = low
low_of low (Not a span) = span.start
low_of low (Logic operator a b span) = span.start
low_of low (Expression top ps span) = span.start
low_of low (Whole ps) = low

abbrev high_of : ℕ → Node → ℕ
high_of high (Constant span) = high
high_of high (Not a span) = span.end
high_of high (Logic operator a b span) = span.end
high_of high (Expression top ps span) = span.end
high_of high (Whole ps) = high

-- a part, with the bytes between which it stands
abbrev Region : ℕ → ℕ → Standing → Type 0
Region low high u = (l : ℕ) × (h : ℕ) × (low ≤ l) × (h ≤ high) × Stands l h u

wider : (low high l h : ℕ) (u : Standing) → low ≤ l → h ≤ high → Region l h u → Region low high u
wider low high l h u a b (l', h', c, d, s) = (l', h', omega (arith, a, c), omega (arith, b, d), s)

at_some : (u v : Standing) (low high : ℕ) → Some u ≡ Some v → Region low high u → Region low high v
at_some u v low high e r =
    let same : u ≡ v = cc in subst (λ (w : Standing). Region low high w) same r

either_fits : (c : Bool) (b : Node) → FitsRole (if c then Inner else Plain) b
either_fits true b = tt
either_fits false b = tt

no_test : (role : Role) (a b : Node) → FitsRole (operand_role role a) b
no_test role a b = either_fits (is_root role a || is_inner role) b

region_parts : (ps : Parts) (i : ℕ) (u : Standing) (low high : ℕ) → StandIn low high ps → part_at ps i ≡ Some u → Region low high u
region_parts no_parts i u low high s e = absurd (cc)
region_parts (part a ps) zero u low high (m, lm, mh, sa, sp) e =
    at_some (standing Plain a) u low high e (low, m, omega arith, mh, record { node = sa; fits = tt })
region_parts (part a ps) (suc i) u low high (m, lm, mh, sa, sp) e =
    wider low high m high u lm (omega arith) (region_parts ps i u m high sp e)
region_parts (controlling a ps) zero u low high (m, lm, mh, ea, sa, sp) e =
    at_some (standing Controlling a) u low high e (low, m, omega arith, mh, record { node = sa; fits = ea })
region_parts (controlling a ps) (suc i) u low high (m, lm, mh, ea, sa, sp) e =
    wider low high m high u lm (omega arith) (region_parts ps i u m high sp e)

region : (role : Role) (a : Node) (i : ℕ) (u : Standing) (low high : ℕ) → is_constant a ≡ false → StandsIn low high a → step role a i ≡ Some u → Region (low_of low a) (high_of high a) u
region role (Constant span) i u low high c s e = absurd (cc)
region role (Not a span) zero u low high c s e =
    at_some (standing (operand_role role (Not a span)) a) u span.start span.end e
    (span.start, span.end, omega arith, omega arith, record { node = (s c).1; fits = no_test role (Not a span) a })
region role (Not a span) (suc i) u low high c s e = absurd (cc)
region role (Logic operator a b span) zero u low high c s e =
    let (between, m, lm, mh, sa, sb) = s c in
    at_some (standing (operand_role role (Logic operator a b span)) a) u span.start span.end e
    (span.start, m, omega arith, mh, record { node = sa; fits = no_test role (Logic operator a b span) a })
region role (Logic operator a b span) (suc zero) u low high c s e =
    let (between, m, lm, mh, sa, sb) = s c in
    at_some (standing (operand_role role (Logic operator a b span)) b) u span.start span.end e
    (m, span.end, lm, omega arith, record { node = sb; fits = no_test role (Logic operator a b span) b })
region role (Logic operator a b span) (suc (suc i)) u low high c s e = absurd (cc)
region role (Expression top ps span) i u low high c s e = region_parts ps i u span.start span.end (s c).1 e
region role (Whole ps) i u low high c sp e = region_parts ps i u low high sp e

-- of two parts, the first ends before the second begins
abbrev Apart : ℕ → ℕ → Standing → Standing → Type 0
Apart low high u v = (m : ℕ) × Region low m u × Region m high v

apart_parts : (ps : Parts) (i j : ℕ) (u v : Standing) (low high : ℕ) → StandIn low high ps → part_at ps i ≡ Some u → part_at ps j ≡ Some v → i < j → Apart low high u v
apart_parts ps i zero u v low high s e f lt = absurd (omega (arith, lt))
apart_parts no_parts i (suc j) u v low high s e f lt = absurd (cc)
apart_parts (part a ps) zero (suc j) u v low high (m, lm, mh, sa, sp) e f lt = (
  m,
  at_some (standing Plain a) u low m e (low, m, omega arith, omega arith, record { node = sa; fits = tt }),
  region_parts ps j v m high sp f,
)
apart_parts (part a ps) (suc i) (suc j) u v low high (m, lm, mh, sa, sp) e f lt =
    let (k, r, t) = apart_parts ps i j u v m high sp e f (omega (arith, lt)) in
    (k, wider low k m k u lm (omega arith) r, t)
apart_parts (controlling a ps) zero (suc j) u v low high (m, lm, mh, ea, sa, sp) e f lt = (
  m,
  at_some (standing Controlling a) u low m e (low, m, omega arith, omega arith, record { node = sa; fits = ea }),
  region_parts ps j v m high sp f,
)
apart_parts (controlling a ps) (suc i) (suc j) u v low high (m, lm, mh, ea, sa, sp) e f lt =
    let (k, r, t) = apart_parts ps i j u v m high sp e f (omega (arith, lt)) in
    (k, wider low k m k u lm (omega arith) r, t)

apart : (role : Role) (a : Node) (i j : ℕ) (u v : Standing) (low high : ℕ) → is_constant a ≡ false → StandsIn low high a → step role a i ≡ Some u → step role a j ≡ Some v → i < j → Apart (low_of low a) (high_of high a) u v
apart role (Constant span) i j u v low high c s e f lt = absurd (cc)
apart role (Not a span) i zero u v low high c s e f lt = absurd (omega (arith, lt))
apart role (Not a span) i (suc j) u v low high c s e f lt = absurd (cc)
apart role (Logic operator a b span) i zero u v low high c s e f lt = absurd (omega (arith, lt))
apart role (Logic operator a b span) zero (suc zero) u v low high c s e f lt =
    let (between, m, lm, mh, sa, sb) = s c in (
      m,
      at_some (standing (operand_role role (Logic operator a b span)) a) u span.start m e
          (span.start, m, omega arith, omega arith, record { node = sa; fits = no_test role (Logic operator a b span) a }),
      at_some (standing (operand_role role (Logic operator a b span)) b) v m span.end f
          (m, span.end, omega arith, omega arith, record { node = sb; fits = no_test role (Logic operator a b span) b }),
    )
apart role (Logic operator a b span) (suc i) (suc zero) u v low high c s e f lt = absurd (omega (arith, lt))
apart role (Logic operator a b span) i (suc (suc j)) u v low high c s e f lt = absurd (cc)
apart role (Expression top ps span) i j u v low high c s e f lt = apart_parts ps i j u v span.start span.end (s c).1 e f lt
apart role (Whole ps) i j u v low high c sp e f lt = apart_parts ps i j u v low high sp e f lt

-- ---- where a root stands

varies : (candidate constant : Bool) → IsTrue (candidate && not constant) → constant ≡ false
varies candidate false root = refl
varies true true root = absurd (cc)
varies false true root = absurd (cc)

-- a root is no constant
root_varies : (role : Role) (a : Node) → IsTrue (is_root role a) → is_constant a ≡ false
root_varies role a root = varies (is_candidate role a) (is_constant a) root

never_constant : (span : Span) → is_constant (Constant span) ≡ false → ⊥
never_constant span c = absurd (cc)

never_whole : (role : Role) (ps : Parts) → FitsRole role (Whole ps) → IsTrue (is_root role (Whole ps)) → ⊥
never_whole Controlling ps fits h = fits
never_whole Inner ps fits h = absurd (cc)
never_whole Plain ps fits h = absurd (cc)

-- and its own bytes are those between which its parts stand
record OwnPlace (low high : ℕ) (a : Node) : Type 0 where
  between : IsBetween low high (span_of a)
  first : (span_of a).start ≡ low_of low a
  last : (span_of a).end ≡ high_of high a

own_place : (role : Role) (a : Node) (low high : ℕ) → is_constant a ≡ false → StandsIn low high a → FitsRole role a → IsTrue (is_root role a) → OwnPlace low high a
own_place role (Constant span) low high c s fits root = absurd (never_constant span c)
own_place role (Not a span) low high c s fits root = record { between = (s c).0; first = refl; last = refl }
own_place role (Logic operator a b span) low high c s fits root = record { between = (s c).0; first = refl; last = refl }
own_place role (Expression top ps span) low high c s fits root = record { between = (s c).0; first = refl; last = refl }
own_place role (Whole ps) low high c s fits root = absurd (never_whole role ps fits root)

bounds : (a : Node) (low high : ℕ) → is_constant a ≡ false → StandsIn low high a → (low ≤ low_of low a) × (high_of high a ≤ high)
bounds (Constant span) low high c s = (omega arith, omega arith)
bounds (Not a span) low high c s = let (x, y, z) = (s c).0 in (x, z)
bounds (Logic operator a b span) low high c s = let (x, y, z) = (s c).0 in (x, z)
bounds (Expression top ps span) low high c s = let (x, y, z) = (s c).0 in (x, z)
bounds (Whole ps) low high c s = (omega arith, omega arith)

between_wider : (low high l h : ℕ) (span : Span) → low ≤ l → h ≤ high → IsBetween l h span → IsBetween low high span
between_wider low high l h span a b (x, y, z) = (omega (arith, a, x), y, omega (arith, b, z))

abbrev Root : Standing → Type 0
Root u = IsTrue (is_root u.role u.node)

-- so nothing around a root is constant
around_varies : (p : Place) (s u : Standing) → IsAt s p u → Root u → is_constant s.node ≡ false
around_varies p s u at root = not_constant p s u (is_constant s.node) refl at root

own_of : (s u : Standing) (low high : ℕ) → Stands low high s → s ≡ u → Root u → OwnPlace low high s.node
own_of s u low high st e root =
    let here : Root s = subst Root (sym e) root in
    own_place s.role s.node low high (root_varies s.role s.node here) st.node st.fits here

within : (p : Place) (s u : Standing) (low high : ℕ) → Stands low high s → IsAt s p u → Root u → IsBetween low high (span_of u.node)
within [] s u low high st e root =
    subst (λ (w : Standing). IsBetween low high (span_of w.node)) e (own_of s u low high st e root).between
within (i ∷ p) s u low high st (v, e, at) root =
    let c = around_varies (i ∷ p) s u (v, e, at) root in
    let (l, h, a, b, sv) = region s.role s.node i v low high c st.node e in
    let (d, f) = bounds s.node low high c st.node in
    between_wider low high l h (span_of u.node) (omega (arith, a, d)) (omega (arith, b, f)) (within p v u l h sv at root)

-- the order of two roots
abbrev Precedes : Span → Span → Type 0
Precedes x y = (x.start < y.start) ⊎ ((x.start ≡ y.start) × (y.end ≤ x.end))

around : (x y : Span) (l h : ℕ) → x.start ≤ l → h ≤ x.end → IsBetween l h y → (x.start < y.start) ⊎ (y.start ≤ x.start) → Precedes x y
around x y l h a b (c, d, e) (inl lt) = inl lt
around x y l h a b (c, d, e) (inr le) = inr (omega (arith, a, c, le), omega (arith, b, e))

apart_spans : (x y : Span) (l m h : ℕ) → IsBetween l m x → IsBetween m h y → Precedes x y
apart_spans x y l m h (a, b, c) (d, e, f) = inl (omega (arith, b, c, d))

in_region : (p : Place) (v u : Standing) (low high : ℕ) → Region low high v → IsAt v p u → Root u → IsBetween low high (span_of u.node)
in_region p v u low high (l, h, a, b, sv) at root =
    between_wider low high l h (span_of u.node) a b (within p v u l h sv at root)

ordered : (p q : Place) (s u v : Standing) (low high : ℕ) → Stands low high s → IsAt s p u → IsAt s q v → Root u → Root v → IsBefore p q → Precedes (span_of u.node) (span_of v.node)
ordered [] [] s u v low high st e f ru rv h = absurd h
ordered [] (j ∷ q) s u v low high st e (w, f, at) ru rv h =
    let own = own_of s u low high st e ru in
    let c = around_varies (j ∷ q) s v (w, f, at) rv in
    let inner = in_region q w v (low_of low s.node) (high_of high s.node) (region s.role s.node j w low high c st.node f) at rv in
    subst (λ (x : Standing). Precedes (span_of x.node) (span_of v.node)) e
    (around (span_of s.node) (span_of v.node) (low_of low s.node) (high_of high s.node)
    (omega (arith, own.first)) (omega (arith, own.last)) inner (cases_lt (span_of s.node).start (span_of v.node).start))
ordered (i ∷ p) [] s u v low high st e f ru rv h = absurd h
ordered (i ∷ p) (j ∷ q) s u v low high st (x, e, at) (y, f, bt) ru rv (inl lt) =
    let c = around_varies (i ∷ p) s u (x, e, at) ru in
    let (m, r, t) = apart s.role s.node i j x y low high c st.node e f lt in
    apart_spans (span_of u.node) (span_of v.node) (low_of low s.node) m (high_of high s.node)
    (in_region p x u (low_of low s.node) m r at ru) (in_region q y v m (high_of high s.node) t bt rv)
ordered (i ∷ p) (j ∷ q) s u v low high st (x, e, at) (y, f, bt) ru rv (inr (same, h)) =
    let c = around_varies (i ∷ p) s u (x, e, at) ru in
    let (l, k, a, b, sx) = region s.role s.node i x low high c st.node e in
    let one : Some x ≡ Some y = sym e ∙ (ap (step s.role s.node) same ∙ f) in
    let both : x ≡ y = cc in
    ordered p q x u v l k sx at (subst (λ (w : Standing). IsAt w q v) (sym both) bt) ru rv h

-- ---- and so of decisions

two_in_order : (fs : List Function) (n : ℕ) (f g : Found) (d e : Decision) → StandsIn 0 n (program fs) → IsRoot fs f → IsRoot fs g → Tells f d → Tells g e → IsBefore f.place g.place → IsInOrder d e
two_in_order fs n f g d e st (r, at, root) (r', at', root') td te h =
    subst (λ (x : Span). Precedes x e.root) (sym td.root)
    (subst (λ (y : Span). Precedes (span_of f.node) y) (sym te.root)
    (ordered f.place g.place (standing Plain (program fs)) (standing r f.node) (standing r' g.node) 0 n
    (record { node = st; fits = tt }) at at' root root' h))

one_in_order : (fs : List Function) (n : ℕ) (f : Found) (d : Decision) (gs : List Found) (es : List Decision) → StandsIn 0 n (program fs) → IsRoot fs f → Tells f d → All (IsRoot fs) gs → AreTold gs es → All (λ g. IsBefore f.place g.place) gs → All (IsInOrder d) es
one_in_order fs n f d [] [] st rf td only told h = All-nil (IsInOrder d)
one_in_order fs n f d [] (e ∷ es) st rf td only told h = absurd told
one_in_order fs n f d (g ∷ gs) [] st rf td only told h = absurd told
one_in_order fs n f d (g ∷ gs) (e ∷ es) st rf td only (te, told) h =
    All-cons (IsInOrder d) e es
    (two_in_order fs n f g d e st rf (All-head (IsRoot fs) g gs only) td te (All-head (λ x. IsBefore f.place x.place) g gs h))
    (one_in_order fs n f d gs es st rf td (All-tail (IsRoot fs) g gs only) told (All-tail (λ x. IsBefore f.place x.place) g gs h))

all_in_order : (fs : List Function) (n : ℕ) (gs : List Found) (ds : List Decision) → StandsIn 0 n (program fs) → All (IsRoot fs) gs → AreTold gs ds → IsAscending gs → AreInOrder ds
all_in_order fs n [] [] st only told up = tt
all_in_order fs n [] (d ∷ ds) st only told up = absurd told
all_in_order fs n (g ∷ gs) [] st only told up = absurd told
all_in_order fs n (g ∷ gs) (d ∷ ds) st only (td, told) (first, up) = (
  one_in_order fs n g d gs ds st (All-head (IsRoot fs) g gs only) td (All-tail (IsRoot fs) g gs only) told first,
  all_in_order fs n gs ds st (All-tail (IsRoot fs) g gs only) told up,
)

pub starts_are_in_order : StartsAreInOrder
starts_are_in_order fs ds n st a = all_in_order fs n a.roots ds st a.only a.told a.in_order
