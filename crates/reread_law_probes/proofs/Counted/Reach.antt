-- The bits of the expressions of an instrumented program.
use Rattle.std.proofs.Common.{◌≡◌, ◌∙◌, refl, sym, ap, subst, ℕ, ◌+◌, Bool, true, false, if◌then◌else◌, List, ◌++◌, map, Option, Some, None, option_map, slice_get, arith}
use Rattle.std.proofs.lemmas.Option.{slice_get-map}
use Rattle.reread_pieces.specs.declared.piece.What.TheVariants as what
use Rattle.mc_typed.specs.declared.probes.Probe.TheVariants as probe
use Rattle.mc_typed.specs.Tree as t
use Rattle.mc_cond.specs.Tree.{Tree}
use Rattle.mc_paths.specs.Paths.{count_of}
use Rattle.decide_rules.specs.declared.role.Role.{Role}
use Rattle.decide_rules.specs.declared.role.Role.TheVariants.{Plain}
use Rattle.decide_rules.specs.Nodes.{Node}
use Rattle.decide_rules.specs.Nodes as n
use Rattle.decide_rules.specs.Roots.{is_root}
use Rattle.decide_rules.specs.Conditions.{is_operator, tree_from}
use Rattle.decide_rules.specs.Counts.{one_where, roots}
use Rattle.mc_meaning.proofs.Numbered.{own, own_length, trees, trees_length, StandsAt, stands_right}
use Rattle.laws_simulation.proofs.Decisions.{inner_is}
use Rattle.mc_probe.specs.Tree as p
use Rattle.mc_probe.specs.Maps.{Map, Mapped}
use Rattle.mc_probe.specs.Table.{Stand, Loose, InTree, role_of, operand, inner, base_of, increment_of, mapped, round_condition, wrap, put}
use Rattle.reread_put_back.specs.Back.{end_round}
use Rattle.reread_law_probes.specs.put.Ends.{End}
use Rattle.reread_law_probes.proofs.Counted.Ended.{decision_end}
use Rattle.reread_law_probes.proofs.Counted.Ranges.{Pos, on, end_of_mapped, Same, same_as, join, decided, moved}

none_some : {A X : Type 0} (x : A) → None ≡ Some x → X
none_some x e = cc

same_some : {A : Type 0} (x y : A) → Some x ≡ Some y → x ≡ y
same_some x y e = cc

-- what the map has at a place where a tree stands
pub record IsMapped (ds : List Mapped) (i : ℕ) (tree : Tree) : Type 0 where
  pub decision : Mapped
  pub there : slice_get ds i ≡ Some decision
  pub tree_is : decision.decision.tree ≡ tree

is_mapped : (ds : List Mapped) (i : ℕ) (tree : Tree) → slice_get (map (λ d. d.decision.tree) ds) i ≡ Some tree → IsMapped ds i tree
is_mapped ds i tree h = by (slice_get ds i) refl (sym (slice_get-map (λ (d : Mapped). d.decision.tree) ds i) ∙ h)
  where
    by : (o : Option Mapped) → slice_get ds i ≡ o → option_map (λ (d : Mapped). d.decision.tree) (slice_get ds i) ≡ Some tree → IsMapped ds i tree
    by None e h = none_some tree (sym (ap (option_map (λ (d : Mapped). d.decision.tree)) e) ∙ h)
    by (Some x) e h = record { decision = x; there = e; tree_is = same_some x.decision.tree tree (sym (ap (option_map (λ (d : Mapped). d.decision.tree)) e) ∙ h) }

module _ (m : Map) (first limit : ℕ) (o : Pos) where
  abbrev pub all : List Tree
  all = map (λ d. d.decision.tree) m.decisions

  abbrev Rests : p.Expression → ℕ → ℕ → Type 0
  Rests x d e = Same m limit (End limit x) (on o (first + d)) (on o (first + e))

  -- the end of decision d, round what the table puts at its root
  root_end : (d : ℕ) (e : t.Expression) (y : p.Expression) → y ≡ put m first (InTree d 0) (d + 1) e → slice_get all (first + d) ≡ Some (tree_from 0 (n.expression e)) → end_round (what.Decision d (base_of (mapped m first d))) y ≡ end_of_mapped (slice_get m.decisions (first + d))
  root_end d e y same h =
      let x = is_mapped m.decisions (first + d) (tree_from 0 (n.expression e)) h in
      let base : base_of (mapped m first d) ≡ x.decision.base = ap base_of x.there in
      let count : count_of (tree_from 0 (n.expression e)) ≡ count_of x.decision.decision.tree = ap count_of (sym x.tree_is) in
      ap (λ (z : p.Expression). end_round (what.Decision d (base_of (mapped m first d))) z) same
      ∙ (decision_end m first d (base_of (mapped m first d)) (d + 1) e x.decision x.there x.tree_is
      ∙ ((λ i. base i + count i) ∙ sym (ap end_of_mapped x.there)))

  condition_rests : (k c : ℕ) (a : Node) (x : p.Expression) (d e : ℕ) → Rests x d e → Rests (round_condition m first k c a x) d e
  condition_rests k c a x d e s = by (is_operator a)
    where
      by : (b : Bool) → Rests (if b then x else p.Probe (probe.Condition k 0 (increment_of (mapped m first k) c)) x) d e
      by true = s
      by false = same_as m limit (on o (first + d)) (on o (first + e)) (λ h. (omega arith, h)) (λ h. h.1) s

  decision_rests : (b : Bool) (d e : ℕ) (y x : p.Expression) → (b ≡ true → end_round (what.Decision d (base_of (mapped m first d))) y ≡ end_of_mapped (slice_get m.decisions (first + d))) → Rests y (d + one_where b) e → Rests x (d + one_where b) e → Rests (if b then p.Probe (probe.Decision d (base_of (mapped m first d))) y else x) d e
  decision_rests true d e y x end s r =
      join m limit (on o (first + d)) (on o (first + (d + 1))) (on o (first + e))
      (moved m limit o (first + d) (first + d) (first + d + 1) (first + (d + 1)) refl (omega arith) (decided m limit o (first + d) (end_round (what.Decision d (base_of (mapped m first d))) y) (end refl))) s
  decision_rests false d e y x end s r = moved m limit o (first + (d + 0)) (first + d) (first + e) (first + e) (omega arith) refl r

  root_wrapped : (role : Role) (d : ℕ) (a : Node) (ins : Stand → ℕ → p.Expression) → is_root role a ≡ true → round_condition m first d 0 a (ins (operand (Loose role) d a) (inner (Loose role) d a)) ≡ wrap m first (InTree d 0) (d + 1) a ins
  root_wrapped role d a ins h = ap (λ (b : Bool). round_condition m first d 0 a (ins (if b then InTree d 0 else Loose Plain) (d + one_where b))) h

  own_stands : (b : Bool) (i : ℕ) (a : Node) → StandsAt all i (own b a) → b ≡ true → slice_get all i ≡ Some (tree_from 0 a)
  own_stands true i a h e = h.0
  own_stands false i a h e = absurd_of e
    where
      absurd_of : {A : Type 0} → false ≡ true → A
      absurd_of e = cc

  -- An expression, of whose inside the bits are told. The tie says what the inside is.
  pub wrapped : (st : Stand) (d e : ℕ) (x : t.Expression) (ins : Stand → ℕ → p.Expression) → ((k c z : ℕ) → wrap m first (InTree k c) z (n.expression x) ins ≡ put m first (InTree k c) z x) → StandsAt all (first + d) (own (is_root (role_of st) (n.expression x)) (n.expression x)) → Rests (ins (operand st d (n.expression x)) (inner st d (n.expression x))) (inner st d (n.expression x)) e → Rests (wrap m first st d (n.expression x) ins) d e
  wrapped (Loose role) d e x ins tie h s =
      let a : Node = n.expression x in
      let inside : p.Expression = ins (operand (Loose role) d a) (inner (Loose role) d a) in
      decision_rests (is_root role a) d e (round_condition m first d 0 a inside) inside
      (λ r. root_end d x (round_condition m first d 0 a inside) (root_wrapped role d a ins r ∙ tie d 0 (d + 1)) (own_stands (is_root role a) (first + d) a h r))
      (condition_rests d 0 a inside (d + one_where (is_root role a)) e s) s
  wrapped (InTree k c) d e x ins tie h s =
      condition_rests k c (n.expression x) (ins (InTree k c) d) d e s

  -- past the decision of the expression itself
  pub past_own : (st : Stand) (d : ℕ) (a : Node) (ys : List Tree) → StandsAt all (first + d) (own (is_root (role_of st) a) a ++ ys) → StandsAt all (first + inner st d a) ys
  past_own st d a ys h =
      let i = inner_is st d a in
      let long = own_length (is_root (role_of st) a) a in
      subst (λ (k : ℕ). StandsAt all k ys) (omega (arith, i, long)) (stands_right all (first + d) (own (is_root (role_of st) a) a) ys h)

  -- past a part
  pub past_part : (d : ℕ) (role : Role) (a : Node) (ys : List Tree) → StandsAt all (first + d) (trees role a ++ ys) → StandsAt all (first + (d + roots role a)) ys
  past_part d role a ys h =
      let long = trees_length role a in
      subst (λ (k : ℕ). StandsAt all k ys) (omega (arith, long)) (stands_right all (first + d) (trees role a) ys h)
