-- The last bit that a decision of the table reaches: that of its last path.
use Rattle.std.proofs.Common.{◌≡◌, ◌∙◌, refl, sym, ap, subst, ℕ, suc, ◌+◌, Bool, true, false, ◌&&◌, if◌then◌else◌, List, [], ◌∷◌, Option, Some, None, slice_get, unwrap_or}
use Rattle.std.proofs.lemmas.Bool.{eq-eqb}
use Rattle.mc_span.specs.declared.span.Span.{Span}
use Rattle.mc_value.specs.declared.int_type.IntType.{IntType}
use Rattle.mc_typed.specs.declared.operators.Operator.{Operator}
use Rattle.mc_typed.specs.declared.operators.LogicOperator.{LogicOperator}
use Rattle.mc_typed.specs.declared.operators.LogicOperator.TheVariants as logic
use Rattle.mc_typed.specs.declared.probes.Probe.TheVariants as probe
use Rattle.mc_typed.specs.Tree as t
use Rattle.mc_cond.specs.Tree.{Tree}
use Rattle.mc_paths.specs.Paths.{count_of, increments}
use Rattle.decide_rules.specs.declared.operators.FullOperator.{FullOperator}
use Rattle.decide_rules.specs.declared.operators.FullOperator.TheVariants as full
use Rattle.decide_rules.specs.declared.operators.Junction.TheVariants.{Short, Full}
use Rattle.decide_rules.specs.Nodes.{bitwise, full_operator, is_operand}
use Rattle.decide_rules.specs.Nodes as n
use Rattle.decide_rules.specs.Conditions.{width, tree_from}
use Rattle.decide_rules.specs.Conditions as conditions
use Rattle.decide_rules.specs.Counts.{roots}
use Rattle.decide_rules.proofs.Trees.{numbered_from}
use Rattle.mc_probe.specs.Tree as p
use Rattle.mc_probe.specs.Maps.{Map, Mapped}
use Rattle.mc_probe.specs.Table.{InTree, beside, role_of, under, wrap, increment_of, mapped, put}
use Rattle.reread_put_back.specs.Sums.{Paths, at_probe, both, end_of_paths, joined, leaf, negated, paths, where_full}
use Rattle.reread_law_probes.proofs.Counted.Sums.{sums, Adds, end_is}

at_itself : (k i : ℕ) → at_probe k (probe.Condition k 0 i) ≡ leaf 0 i
at_itself k i = ap (λ (b : Bool). if b then leaf 0 i else leaf 0 0) (eq-eqb k k refl)

sums_short : (operator : LogicOperator) (a b : Tree) (adds : ℕ → ℕ) → sums (conditions.joined (Short operator) a b) adds ≡ joined operator (sums a adds) (sums b adds)
sums_short logic.And a b adds = refl
sums_short logic.Or a b adds = refl

sums_full : (operator : FullOperator) (a b : Tree) (adds : ℕ → ℕ) → sums (conditions.joined (Full operator) a b) adds ≡ both operator (sums a adds) (sums b adds)
sums_full full.And a b adds = refl
sums_full full.Or a b adds = refl
sums_full full.Xor a b adds = refl

none_some : {A X : Type 0} (x : A) → None ≡ Some x → X
none_some x e = cc

bitwise_where : (b : Bool) (w : Option FullOperator) (o : FullOperator) → (if b then w else None) ≡ Some o → w ≡ Some o
bitwise_where true w o e = e
bitwise_where false w o e = none_some o e

module _ (m : Map) (first k : ℕ) where
  abbrev adds : ℕ → ℕ
  adds c = increment_of (mapped m first k) c

  abbrev both_put : (c d : ℕ) (operator : Operator) (a : IntType) (e f : t.Expression) (span : Span) → Option FullOperator → p.Expression
  both_put c d operator a e f span which =
      wrap m first (InTree k c) d (n.evaluates_both which operator (n.expression e) (n.expression f) span)
      (λ o d. p.Binary operator a (put m first (under which o) d e) (put m first (beside (under which o) (width (n.expression e))) (d + roots (role_of (under which o)) (n.expression e)) f) span)

  both_paths : (which : Option FullOperator) (c d : ℕ) (operator : Operator) (a : IntType) (e f : t.Expression) (span : Span) → ((o : FullOperator) → which ≡ Some o → bitwise operator ≡ Some o) → paths k (put m first (InTree k c) d e) ≡ sums (tree_from c (n.expression e)) adds → paths k (put m first (InTree k (c + width (n.expression e))) (d + roots (role_of (InTree k c)) (n.expression e)) f) ≡ sums (tree_from (c + width (n.expression e)) (n.expression f)) adds → paths k (both_put c d operator a e f span which) ≡ sums (tree_from c (n.evaluates_both which operator (n.expression e) (n.expression f) span)) adds
  both_paths None c d operator a e f span h left right = at_itself k (adds c)
  both_paths (Some o) c d operator a e f span h left right =
      (λ i. where_full (h o refl i) (left i) (right i))
      ∙ sym (sums_full o (tree_from c (n.expression e)) (tree_from (c + width (n.expression e)) (n.expression f)) adds)

  pub tree_paths : (c d : ℕ) (e : t.Expression) → paths k (put m first (InTree k c) d e) ≡ sums (tree_from c (n.expression e)) adds
  tree_paths c d (t.Constant v a span) = at_itself k (adds c)
  tree_paths c d (t.Read place a) = at_itself k (adds c)
  tree_paths c d (t.Unary operator a e span) = at_itself k (adds c)
  tree_paths c d (t.Convert a written e span) = at_itself k (adds c)
  tree_paths c d (t.Not e span) =
      ap (λ (q : Paths). negated q) (tree_paths c d e)
  tree_paths c d (t.Binary operator a e f span) =
      both_paths (full_operator operator e f) c d operator a e f span (λ o. bitwise_where (is_operand e && is_operand f) (bitwise operator) o)
      (tree_paths c d e) (tree_paths (c + width (n.expression e)) (d + roots (role_of (InTree k c)) (n.expression e)) f)
  tree_paths c d (t.Logic operator e f span) =
      let w : ℕ = c + width (n.expression e) in
      let left = tree_paths c d e in
      let right = tree_paths w (d + roots (role_of (InTree k c)) (n.expression e)) f in
      (λ i. joined operator (left i) (right i))
      ∙ sym (sums_short operator (tree_from c (n.expression e)) (tree_from w (n.expression f)) adds)
  tree_paths c d (t.Choice e f g a span) = at_itself k (adds c)
  tree_paths c d (t.Call callee a) = at_itself k (adds c)
  tree_paths c d (t.Input span) = at_itself k (adds c)

  shifted : (f : ℕ → ℕ) (c : ℕ) (es : List ℕ) → Adds (λ j. f (suc j)) c es → Adds f (suc c) es
  shifted f c [] h = tt
  shifted f c (e ∷ es) h = (h.0, shifted f (suc c) es h.1)

  listed : (es : List ℕ) → Adds (λ j. unwrap_or (slice_get es j) 0) 0 es
  listed [] = tt
  listed (e ∷ es) = (refl, shifted (λ j. unwrap_or (slice_get (e ∷ es) j) 0) 0 es (listed es))

  -- the operand of decision k, where the map has its tree
  pub decision_end : (base d : ℕ) (e : t.Expression) (x : Mapped) → mapped m first k ≡ Some x → x.decision.tree ≡ tree_from 0 (n.expression e) → end_of_paths base (paths k (put m first (InTree k 0) d e)) ≡ base + count_of (tree_from 0 (n.expression e))
  decision_end base d e x there tree =
      let a : Tree = tree_from 0 (n.expression e) in
      let given : Adds adds 0 (increments a) =
      subst (λ (o : Option Mapped). Adds (λ j. increment_of o j) 0 (increments a)) (sym there)
      (subst (λ (s : Tree). Adds (λ j. unwrap_or (slice_get (increments s) j) 0) 0 (increments a)) (sym tree) (listed (increments a))) in
      ap (λ (q : Paths). end_of_paths base q) (tree_paths 0 d e)
      ∙ end_is a adds base (numbered_from 0 (n.expression e)) given
