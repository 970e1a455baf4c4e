-- The probes that the table puts round an expression have no places.
use Rattle.std.proofs.Common.{◌≡◌, ℕ, Bool, true, false, if◌then◌else◌, refl, sym, subst, ◌∙◌, List, ◌∷◌}
use Rattle.mc_span.specs.declared.span.Span.{Span}
use Rattle.mc_typed.specs.declared.probes.Probe.{Probe}
use Rattle.mc_typed.specs.declared.probes.Probe.TheVariants as probe
use Rattle.mc_typed.specs.Tree as typed
use Rattle.decide_rules.specs.Nodes.{Node}
use Rattle.decide_rules.specs.Nodes as nodes
use Rattle.decide_rules.specs.Roots.{is_root}
use Rattle.decide_rules.specs.Conditions.{is_operator}
use Rattle.mc_probe.specs.Erase.{erase_call}
use Rattle.mc_probe.specs.Maps.{Map}
use Rattle.mc_probe.specs.Tree as p
use Rattle.mc_probe.specs.Table.{Stand, Loose, InTree, operand, inner, base_of, increment_of, mapped, round_condition, round, wrap, put_call}
use Rattle.reread_law_rows.specs.inserted.Rows.{extent}
use Rattle.reread_law_probes.specs.put.Places.{places, parts}
use Rattle.reread_law_probes.proofs.Stood.Counted.{Within}

module _ {A : Type 0} (F : p.Expression → A) (through : (q : Probe) (y : p.Expression) → F (p.Probe q y) ≡ F y) where
  bare_or : (b : Bool) (q : Probe) (x : p.Expression) → F (if b then x else p.Probe q x) ≡ F x
  bare_or true q x = refl
  bare_or false q x = through q x

  probed_or : (b : Bool) (q : Probe) (x y : p.Expression) → F y ≡ F x → F (if b then p.Probe q y else x) ≡ F x
  probed_or true q x y e = through q y ∙ e
  probed_or false q x y e = refl

  round_condition_is : (m : Map) (first k c : ℕ) (a : Node) (x : p.Expression) → F (round_condition m first k c a x) ≡ F x
  round_condition_is m first k c a x = bare_or (is_operator a) (probe.Condition k 0 (increment_of (mapped m first k) c)) x

  pub round_is : (m : Map) (first : ℕ) (st : Stand) (d : ℕ) (a : Node) (x : p.Expression) → F (round m first st d a x) ≡ F x
  round_is m first (Loose role) d a x =
      probed_or (is_root role a) (probe.Decision d (base_of (mapped m first d))) x (round_condition m first d 0 a x) (round_condition_is m first d 0 a x)
  round_is m first (InTree k c) d a x = round_condition_is m first k c a x

-- ---- where an expression stands

wrapped_extent : (m : Map) (first : ℕ) (st : Stand) (d : ℕ) (a : Node) (x : p.Expression) → extent (round m first st d a x) ≡ extent x
wrapped_extent m first st d a x = round_is extent (λ q y. refl) m first st d a x

pub call_extent : (m : Map) (first d : ℕ) (k : typed.FunctionCall) → typed.span_of_call (erase_call (put_call m first d k)) ≡ typed.span_of_call k
call_extent m first d (typed.call f given result span) = refl

-- ---- its places

pub wrapped : (m : Map) (first : ℕ) (st : Stand) (d : ℕ) (a : Node) (inside : Stand → ℕ → p.Expression) (later : List Span) {held own : List Span}
    → Within held (places (inside (operand st d a) (inner st d a)) later) own
    → Within held (places (wrap m first st d a inside) later) own
wrapped m first st d a inside later {held = held} {own = own} t =
    subst (λ ps. Within held ps own)
    (sym (round_is (λ y. places y later) (λ q y. refl) m first st d a (inside (operand st d a) (inner st d a)))) t

pub stands_at : {held own : List Span} (x : p.Expression) (span : Span) (later : List Span) → extent x ≡ span
    → Within held (span ∷ parts x later) own → Within held (places x later) own
stands_at {held = held} {own = own} x span later e t =
    subst (λ at. Within held (at ∷ parts x later) own) (sym e) t
