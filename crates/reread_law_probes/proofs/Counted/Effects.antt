-- The bits of effects, initializers and declarators of an instrumented program.
use Rattle.std.proofs.Common.{ℕ, ◌+◌, List, [], ◌∷◌, ◌++◌, Option, Some, None, arith}
use Rattle.mc_typed.specs.Tree as t
use Rattle.mc_cond.specs.Tree.{Tree}
use Rattle.decide_rules.specs.declared.role.Role.{Role}
use Rattle.decide_rules.specs.declared.role.Role.TheVariants.{Controlling, Plain}
use Rattle.decide_rules.specs.Nodes.{Node}
use Rattle.decide_rules.specs.Nodes as n
use Rattle.decide_rules.specs.Counts.{roots, roots_in}
use Rattle.mc_meaning.proofs.Numbered.{trees, trees_in, StandsAt, stands_left}
use Rattle.mc_probe.specs.Maps.{Map}
use Rattle.mc_probe.specs.Table.{Loose, put_effect, put_effects, put_initializer, put_initializers, put_initial, put_declarators, put_start, put_optional, put_return}
use Rattle.laws_soundness.specs.Plain.{IsPlainInitializer, ArePlainInitializers, IsPlainInitial, ArePlainDeclarators, IsPlainStart}
use Rattle.reread_law_probes.specs.put.Ends.{EndEffect, EndEffects, EndInitializer, EndInitializers, EndInitial, EndDeclarators, EndStart, EndTest, EndValue}
use Rattle.reread_law_probes.proofs.Counted.Ranges.{Pos, on, join, three}
use Rattle.reread_law_probes.proofs.Counted.Reach.{all, past_part}
use Rattle.reread_law_probes.proofs.Counted.Reached.{Bits, still, to_end, place_same, put_same, structure_same, call_same}
use Rattle.reread_law_probes.proofs.Counted.Zeros.{no_decision}

module _ (m : Map) (first limit : ℕ) (o : Pos) where
  abbrev Stand : ℕ → List Tree → Type 0
  Stand d ys = StandsAt (all m first limit o) (first + d) ys

  -- the first of some parts
  pub head_part : (d : ℕ) (role : Role) (a : Node) (ys : List Tree) → Stand d (trees role a ++ ys) → Stand d (trees role a)
  head_part d role a ys h = stands_left (all m first limit o) (first + d) (trees role a) ys h

  -- one part after another
  pub both : {P Q : Type 0} (d e f : ℕ) → Bits m first limit o P d e → Bits m first limit o Q e f → Bits m first limit o (P × Q) d f
  both d e f s r = join m limit (on o (first + d)) (on o (first + e)) (on o (first + f)) s r

  pub effect_same : (d : ℕ) (x : t.Effect) → Stand d (trees Plain (n.effect x)) → Bits m first limit o (EndEffect limit (put_effect m first d x)) d (d + roots Plain (n.effect x))
  effect_same d (t.Assign target a e span) h =
      let z : ℕ = d + roots Plain (n.place target) in
      let more : List Tree = trees Plain (n.expression e) ++ [] in
      to_end m first limit o d (z + roots Plain (n.expression e)) _ (omega arith)
      (both d z (z + roots Plain (n.expression e))
      (place_same m first limit o d target (head_part d Plain (n.place target) more h))
      (put_same m first limit o (Loose Plain) z e tt (head_part z Plain (n.expression e) [] (past_part m first limit o d Plain (n.place target) more h))))
  effect_same d (t.Update target a operator common e span) h =
      let z : ℕ = d + roots Plain (n.place target) in
      let more : List Tree = trees Plain (n.expression e) ++ [] in
      to_end m first limit o d (z + roots Plain (n.expression e)) _ (omega arith)
      (both d z (z + roots Plain (n.expression e))
      (place_same m first limit o d target (head_part d Plain (n.place target) more h))
      (put_same m first limit o (Loose Plain) z e tt (head_part z Plain (n.expression e) [] (past_part m first limit o d Plain (n.place target) more h))))
  effect_same d (t.Copy target value k span) h =
      let z : ℕ = d + roots Plain (n.place target) in
      let more : List Tree = trees Plain (n.structure value) ++ [] in
      to_end m first limit o d (z + roots Plain (n.structure value)) _ (omega arith)
      (both d z (z + roots Plain (n.structure value))
      (place_same m first limit o d target (head_part d Plain (n.place target) more h))
      (structure_same m first limit o z value (head_part z Plain (n.structure value) [] (past_part m first limit o d Plain (n.place target) more h))))
  effect_same d (t.NumberEffect e whole) h = put_same m first limit o (Loose Plain) d e tt h
  effect_same d (t.StructureEffect value whole) h = structure_same m first limit o d value h
  effect_same d (t.CallEffect k) h = to_end m first limit o d (d + roots_in (n.call_parts k)) _ (omega arith) (call_same m first limit o d k h)
  effect_same d (t.Output e span) h =
      to_end m first limit o d (d + roots Plain (n.expression e)) _ (omega arith)
      (put_same m first limit o (Loose Plain) d e tt (head_part d Plain (n.expression e) [] h))
  effect_same d (t.ChoiceEffect e a b span) h =
      let y : ℕ = d + roots Controlling (n.expression e) in
      let z : ℕ = y + roots Plain (n.effect a) in
      let last : List Tree = trees Plain (n.effect b) ++ [] in
      let more : List Tree = trees Plain (n.effect a) ++ last in
      let next = past_part m first limit o d Controlling (n.expression e) more h in
      to_end m first limit o d (z + roots Plain (n.effect b)) _ (omega arith)
      (three m limit (on o (first + d)) (on o (first + (z + roots Plain (n.effect b))))
      (both d y (z + roots Plain (n.effect b))
      (put_same m first limit o (Loose Controlling) d e tt (head_part d Controlling (n.expression e) more h))
      (both y z (z + roots Plain (n.effect b))
      (effect_same y a (head_part y Plain (n.effect a) last next))
      (effect_same z b (head_part z Plain (n.effect b) [] (past_part m first limit o y Plain (n.effect a) last next))))))
  effect_same d (t.Discard a span) h =
      to_end m first limit o d (d + roots Plain (n.effect a)) _ (omega arith)
      (effect_same d a (head_part d Plain (n.effect a) [] h))

  pub effects_same : (d : ℕ) (xs : List t.Effect) → Stand d (trees_in (n.effects xs)) → Bits m first limit o (EndEffects limit (put_effects m first d xs)) d (d + roots_in (n.effects xs))
  effects_same d [] h = to_end m first limit o d d (d + 0) (omega arith) (still m first limit o d)
  effects_same d (x ∷ xs) h =
      let z : ℕ = d + roots Plain (n.effect x) in
      to_end m first limit o d (z + roots_in (n.effects xs)) _ (omega arith)
      (both d z (z + roots_in (n.effects xs))
      (effect_same d x (head_part d Plain (n.effect x) (trees_in (n.effects xs)) h))
      (effects_same z xs (past_part m first limit o d Plain (n.effect x) (trees_in (n.effects xs)) h)))

  -- ---- initializers

  mutual
    pub initializer_same : (d : ℕ) (x : t.Initializer) → IsPlainInitializer x → Stand d (trees Plain (n.initializer x)) → Bits m first limit o (EndInitializer limit (put_initializer m first d x)) d (d + roots Plain (n.initializer x))
    initializer_same d (t.NumberInitializer e) k h = put_same m first limit o (Loose Plain) d e tt h
    initializer_same d (t.StructureInitializer value i) k h = structure_same m first limit o d value h
    initializer_same d (t.ListInitializer items i) k h =
        to_end m first limit o d (d + roots_in (n.initializers items)) _ (omega arith) (initializers_same d items k h)
    initializer_same d (t.ZeroInitializer e i) k h =
        let none = no_decision e k.1 in
        to_end m first limit o d d _ (omega (arith, none)) (still m first limit o d)

    pub initializers_same : (d : ℕ) (x : t.Initializers) → ArePlainInitializers x → Stand d (trees_in (n.initializers x)) → Bits m first limit o (EndInitializers limit (put_initializers m first d x)) d (d + roots_in (n.initializers x))
    initializers_same d t.no_initializers k h = to_end m first limit o d d (d + 0) (omega arith) (still m first limit o d)
    initializers_same d (t.initializers x rest) k h =
        let z : ℕ = d + roots Plain (n.initializer x) in
        to_end m first limit o d (z + roots_in (n.initializers rest)) _ (omega arith)
        (both d z (z + roots_in (n.initializers rest))
        (initializer_same d x k.0 (head_part d Plain (n.initializer x) (trees_in (n.initializers rest)) h))
        (initializers_same z rest k.1 (past_part m first limit o d Plain (n.initializer x) (trees_in (n.initializers rest)) h)))

  initial_same : (d : ℕ) (x : Option t.Initializer) → IsPlainInitial x → Stand d (trees Plain (n.initial x)) → Bits m first limit o (EndInitial limit (put_initial m first d x)) d (d + roots Plain (n.initial x))
  initial_same d None k h = to_end m first limit o d d (d + 0) (omega arith) (still m first limit o d)
  initial_same d (Some x) k h = initializer_same d x k h

  pub declarators_same : (d : ℕ) (xs : List t.Declarator) → ArePlainDeclarators xs → Stand d (trees_in (n.declarators xs)) → Bits m first limit o (EndDeclarators limit (put_declarators m first d xs)) d (d + roots_in (n.declarators xs))
  declarators_same d [] k h = to_end m first limit o d d (d + 0) (omega arith) (still m first limit o d)
  declarators_same d (x ∷ xs) k h =
      let z : ℕ = d + roots Plain (n.initial x.value) in
      to_end m first limit o d (z + roots_in (n.declarators xs)) _ (omega arith)
      (both d z (z + roots_in (n.declarators xs))
      (initial_same d x.value k.0 (head_part d Plain (n.initial x.value) (trees_in (n.declarators xs)) h))
      (declarators_same z xs k.1 (past_part m first limit o d Plain (n.initial x.value) (trees_in (n.declarators xs)) h)))

  -- ---- heads of statements

  pub start_same : (d : ℕ) (x : t.ForStart) → IsPlainStart x → Stand d (trees Plain (n.start x)) → Bits m first limit o (EndStart limit (put_start m first d x)) d (d + roots Plain (n.start x))
  start_same d (t.StartEffects xs) k h =
      to_end m first limit o d (d + roots_in (n.effects xs)) _ (omega arith) (effects_same d xs h)
  start_same d (t.StartDeclaration xs) k h =
      to_end m first limit o d (d + roots_in (n.declarators xs)) _ (omega arith) (declarators_same d xs k h)

  pub test_same : (d : ℕ) (x : Option t.Expression) → Stand d (trees Plain (n.optional_test x)) → Bits m first limit o (EndTest limit (put_optional m first d x)) d (d + roots Plain (n.optional_test x))
  test_same d None h = to_end m first limit o d d (d + 0) (omega arith) (still m first limit o d)
  test_same d (Some e) h =
      to_end m first limit o d (d + roots Controlling (n.expression e)) _ (omega arith)
      (put_same m first limit o (Loose Controlling) d e tt (head_part d Controlling (n.expression e) [] h))

  pub return_same : (d : ℕ) (x : t.ReturnValue) → Stand d (trees Plain (n.return_value x)) → Bits m first limit o (EndValue limit (put_return m first d x)) d (d + roots Plain (n.return_value x))
  return_same d t.ReturnNothing h = to_end m first limit o d d (d + 0) (omega arith) (still m first limit o d)
  return_same d (t.ReturnNumber e) h = put_same m first limit o (Loose Plain) d e tt h
  return_same d (t.ReturnStructure value i) h = structure_same m first limit o d value h
