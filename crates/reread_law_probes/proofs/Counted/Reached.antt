-- The bits of the expressions of an instrumented program are below a limit exactly where those of
-- their decisions are.
use Rattle.std.proofs.Common.{◌≡◌, ◌∙◌, refl, sym, ap, subst, ℕ, ◌+◌, List, [], ◌++◌, Option, Some, None, arith}
use Rattle.mc_span.specs.declared.span.Span.{Span}
use Rattle.mc_typed.specs.declared.operators.Operator.{Operator}
use Rattle.mc_typed.specs.Tree as t
use Rattle.mc_cond.specs.Tree.{Tree}
use Rattle.decide_rules.specs.declared.operators.FullOperator.{FullOperator}
use Rattle.decide_rules.specs.declared.role.Role.{Role}
use Rattle.decide_rules.specs.declared.role.Role.TheVariants.{Controlling, Inner, Plain}
use Rattle.decide_rules.specs.Nodes.{Node, full_operator}
use Rattle.decide_rules.specs.Nodes as n
use Rattle.decide_rules.specs.Conditions.{width}
use Rattle.decide_rules.specs.Counts.{roots, roots_in}
use Rattle.mc_meaning.proofs.Numbered.{own, trees, trees_in, StandsAt, stands_left}
use Rattle.laws_simulation.specs.Expressions.{Stands}
use Rattle.laws_simulation.proofs.Decisions.{inner_is, role_same, stands_inside}
use Rattle.mc_probe.specs.Tree as p
use Rattle.mc_probe.specs.Maps.{Map}
use Rattle.mc_probe.specs.Table.{Stand, Loose, InTree, role_of, operand, under, beside, inner, put, put_place, put_structure, put_call, put_argument, put_arguments}
use Rattle.decide_rules.specs.Roots.{is_root, operand_role}
use Rattle.reread_law_probes.specs.put.Ends.{EndPlace, End, EndStructure, EndCall, EndArgument, EndArguments}
use Rattle.reread_law_probes.proofs.Counted.Ranges.{Pos, on, Same, none, same_as, join}
use Rattle.reread_law_probes.proofs.Counted.Reach.{all, wrapped, past_own, past_part}

stands_beside : (o : Stand) (d u wide : ℕ) → Stands o d → Stands (beside o wide) (d + u)
stands_beside (Loose Plain) d u wide ok = tt
stands_beside (Loose Controlling) d u wide ok = tt
stands_beside (Loose Inner) d u wide ok = absurd ok
stands_beside (InTree k c) d u wide ok = omega (arith, ok)

role_beside : (o : Stand) (wide : ℕ) → role_of (beside o wide) ≡ role_of o
role_beside (Loose role) wide = refl
role_beside (InTree k c) wide = refl

module _ (m : Map) (first limit : ℕ) (o : Pos) where
  abbrev pub Bits : Type 0 → ℕ → ℕ → Type 0
  Bits P d e = Same m limit P (on o (first + d)) (on o (first + e))

  pub still : (d : ℕ) → Bits (Unit {0}) d d
  still d = none m limit (on o (first + d))

  pub to_end : {P : Type 0} (d e f : ℕ) → e ≡ f → Bits P d e → Bits P d f
  to_end {P = P} d e f same s = subst (λ (k : ℕ). Bits P d k) same s

  -- one part, which stands plainly
  one_part : (a : Node) (st : Stand) (d : ℕ) (x : Node) → StandsAt (all m first limit o) (first + d) (own (is_root (role_of st) a) a ++ (trees Plain x ++ [])) → StandsAt (all m first limit o) (first + inner st d a) (trees Plain x)
  one_part a st d x h = stands_left (all m first limit o) (first + inner st d a) (trees Plain x) [] (past_own m first limit o st d a (trees Plain x ++ []) h)

  abbrev Left : Operator → Node → Node → Span → Stand → ℕ → Option FullOperator → Stand
  Left operator a b span st d which = under which (operand st d (n.evaluates_both which operator a b span))

  record BothStand (operator : Operator) (a b : Node) (span : Span) (st : Stand) (d : ℕ) (which : Option FullOperator) : Type 0 where
    here : StandsAt (all m first limit o) (first + d) (own (is_root (role_of st) (n.evaluates_both which operator a b span)) (n.evaluates_both which operator a b span))
    left_ok : Stands (Left operator a b span st d which) (inner st d (n.evaluates_both which operator a b span))
    left : StandsAt (all m first limit o) (first + inner st d (n.evaluates_both which operator a b span)) (trees (role_of (Left operator a b span st d which)) a)
    right_ok : Stands (beside (Left operator a b span st d which) (width a)) (inner st d (n.evaluates_both which operator a b span) + roots (role_of (Left operator a b span st d which)) a)
    right : StandsAt (all m first limit o) (first + (inner st d (n.evaluates_both which operator a b span) + roots (role_of (Left operator a b span st d which)) a)) (trees (role_of (beside (Left operator a b span st d which) (width a))) b)
    end : inner st d (n.evaluates_both which operator a b span) + roots (role_of (Left operator a b span st d which)) a + roots (role_of (beside (Left operator a b span st d which) (width a))) b ≡ d + roots (role_of st) (n.evaluates_both which operator a b span)

  both_stand : (operator : Operator) (a b : Node) (span : Span) (st : Stand) (d : ℕ) (which : Option FullOperator) → Stands st d → StandsAt (all m first limit o) (first + d) (trees (role_of st) (n.evaluates_both which operator a b span)) → BothStand operator a b span st d which
  both_stand operator a b span st d None ok h =
      let x : Node = n.evaluates_both None operator a b span in
      let z : ℕ = inner st d x in
      let i = inner_is st d x in
      let more : List Tree = trees Plain b ++ [] in
      let inside = past_own m first limit o st d x (trees Plain a ++ more) h in
      record {
        here = stands_left (all m first limit o) (first + d) (own (is_root (role_of st) x) x) (trees Plain a ++ more) h;
        left_ok = tt;
        left = stands_left (all m first limit o) (first + z) (trees Plain a) more inside;
        right_ok = tt;
        right = stands_left (all m first limit o) (first + (z + roots Plain a)) (trees Plain b) [] (past_part m first limit o z Plain a more inside);
        end = omega (arith, i);
      }
  both_stand operator a b span st d (Some full) ok h =
      let x : Node = n.evaluates_both (Some full) operator a b span in
      let z : ℕ = inner st d x in
      let g : Stand = operand st d x in
      let r : Role = operand_role (role_of st) x in
      let i = inner_is st d x in
      let same = role_same st d x ok in
      let s = ap (λ (q : Role). roots q a) same in
      let u = ap (λ (q : Role). roots q b) (same ∙ sym (role_beside g (width a))) in
      let inside = past_own m first limit o st d x (trees r a ++ trees r b) h in
      let right = past_part m first limit o z r a (trees r b) inside in
      let to_y : first + (z + roots r a) ≡ first + (z + roots (role_of g) a) = ap (λ (k : ℕ). first + (z + k)) s in
      record {
        here = stands_left (all m first limit o) (first + d) (own (is_root (role_of st) x) x) (trees r a ++ trees r b) h;
        left_ok = stands_inside st d x ok;
        left = subst (λ (q : Role). StandsAt (all m first limit o) (first + z) (trees q a)) same (stands_left (all m first limit o) (first + z) (trees r a) (trees r b) inside);
        right_ok = stands_beside g z (roots (role_of g) a) (width a) (stands_inside st d x ok);
        right = subst (λ (q : Role). StandsAt (all m first limit o) (first + (z + roots (role_of g) a)) (trees q b)) (same ∙ sym (role_beside g (width a))) (subst (λ (k : ℕ). StandsAt (all m first limit o) k (trees r b)) to_y right);
        end = omega (arith, i, s, u);
      }

  mutual
    pub place_same : (d : ℕ) (x : t.Place) → StandsAt (all m first limit o) (first + d) (trees Plain (n.place x)) → Bits (EndPlace limit (put_place m first d x)) d (d + roots Plain (n.place x))
    place_same d (t.Local slot span) h = to_end d d (d + 0) (omega arith) (still d)
    place_same d (t.Static slot span) h = to_end d d (d + 0) (omega arith) (still d)
    place_same d (t.Parameter array stride index span) h =
        to_end d (d + roots Plain (n.expression index)) _ (omega arith)
        (put_same (Loose Plain) d index tt (stands_left (all m first limit o) (first + d) (trees Plain (n.expression index)) [] h))
    place_same d (t.Item array k stride index span) h =
        let z : ℕ = d + roots Plain (n.place array) in
        to_end d (z + roots Plain (n.expression index)) _ (omega arith)
        (join m limit (on o (first + d)) (on o (first + z)) (on o (first + (z + roots Plain (n.expression index))))
        (place_same d array (stands_left (all m first limit o) (first + d) (trees Plain (n.place array)) (trees Plain (n.expression index) ++ []) h))
        (put_same (Loose Plain) z index tt (stands_left (all m first limit o) (first + z) (trees Plain (n.expression index)) [] (past_part m first limit o d Plain (n.place array) (trees Plain (n.expression index) ++ []) h))))
    place_same d (t.Member structure k offset span) h =
        to_end d (d + roots Plain (n.place structure)) _ (omega arith)
        (place_same d structure (stands_left (all m first limit o) (first + d) (trees Plain (n.place structure)) [] h))

    pub put_same : (st : Stand) (d : ℕ) (x : t.Expression) → Stands st d → StandsAt (all m first limit o) (first + d) (trees (role_of st) (n.expression x)) → Bits (End limit (put m first st d x)) d (d + roots (role_of st) (n.expression x))
    put_same st d (t.Constant v a span) ok h =
        let x : t.Expression = t.Constant v a span in
        let z : ℕ = inner st d (n.expression x) in
        let i = inner_is st d (n.expression x) in
        wrapped m first limit o st d _ x (λ o d. p.Constant v a span) (λ k c z. refl) h (to_end z z (d + roots (role_of st) (n.expression x)) i (still z))
    put_same st d (t.Read place a) ok h =
        let x : t.Expression = t.Read place a in
        let z : ℕ = inner st d (n.expression x) in
        let i = inner_is st d (n.expression x) in
        wrapped m first limit o st d _ x (λ o d. p.Read (put_place m first d place) a) (λ k c z. refl)
        (stands_left (all m first limit o) (first + d) (own (is_root (role_of st) (n.expression x)) (n.expression x)) (trees Plain (n.place place) ++ []) h)
        (to_end z (z + roots Plain (n.place place)) (d + roots (role_of st) (n.expression x)) (omega (arith, i))
        (place_same z place (one_part (n.expression x) st d (n.place place) h)))
    put_same st d (t.Unary operator a e span) ok h =
        let x : t.Expression = t.Unary operator a e span in
        let z : ℕ = inner st d (n.expression x) in
        let i = inner_is st d (n.expression x) in
        wrapped m first limit o st d _ x (λ o d. p.Unary operator a (put m first (Loose Plain) d e) span) (λ k c z. refl)
        (stands_left (all m first limit o) (first + d) (own (is_root (role_of st) (n.expression x)) (n.expression x)) (trees Plain (n.expression e) ++ []) h)
        (to_end z (z + roots Plain (n.expression e)) (d + roots (role_of st) (n.expression x)) (omega (arith, i))
        (put_same (Loose Plain) z e tt (one_part (n.expression x) st d (n.expression e) h)))
    put_same st d (t.Convert a written e span) ok h =
        let x : t.Expression = t.Convert a written e span in
        let z : ℕ = inner st d (n.expression x) in
        let i = inner_is st d (n.expression x) in
        wrapped m first limit o st d _ x (λ o d. p.Convert a written (put m first (Loose Plain) d e) span) (λ k c z. refl)
        (stands_left (all m first limit o) (first + d) (own (is_root (role_of st) (n.expression x)) (n.expression x)) (trees Plain (n.expression e) ++ []) h)
        (to_end z (z + roots Plain (n.expression e)) (d + roots (role_of st) (n.expression x)) (omega (arith, i))
        (put_same (Loose Plain) z e tt (one_part (n.expression x) st d (n.expression e) h)))
    put_same st d (t.Not e span) ok h =
        let x : t.Expression = t.Not e span in
        let a : Node = n.expression x in
        let z : ℕ = inner st d a in
        let i = inner_is st d a in
        let same = role_same st d a ok in
        let s = ap (λ (r : Role). roots r (n.expression e)) same in
        let inside = past_own m first limit o st d a (trees (operand_role (role_of st) a) (n.expression e)) h in
        wrapped m first limit o st d _ x (λ o d. p.Not (put m first o d e) span) (λ k c z. refl)
        (stands_left (all m first limit o) (first + d) (own (is_root (role_of st) a) a) (trees (operand_role (role_of st) a) (n.expression e)) h)
        (to_end z (z + roots (role_of (operand st d a)) (n.expression e)) (d + roots (role_of st) a) (omega (arith, i, s))
        (put_same (operand st d a) z e (stands_inside st d a ok) (subst (λ (r : Role). StandsAt (all m first limit o) (first + z) (trees r (n.expression e))) same inside)))
    put_same st d (t.Binary operator a e f span) ok h =
        let which : Option FullOperator = full_operator operator e f in
        let x : t.Expression = t.Binary operator a e f span in
        let z : ℕ = inner st d (n.expression x) in
        let g : Stand = under which (operand st d (n.expression x)) in
        let y : ℕ = z + roots (role_of g) (n.expression e) in
        let w : ℕ = width (n.expression e) in
        let b = both_stand operator (n.expression e) (n.expression f) span st d which ok h in
        wrapped m first limit o st d _ x (λ o d. p.Binary operator a (put m first (under which o) d e) (put m first (beside (under which o) w) (d + roots (role_of (under which o)) (n.expression e)) f) span) (λ k c z. refl)
        b.here
        (to_end z (y + roots (role_of (beside g w)) (n.expression f)) (d + roots (role_of st) (n.expression x)) b.end
        (join m limit (on o (first + z)) (on o (first + y)) (on o (first + (y + roots (role_of (beside g w)) (n.expression f))))
        (put_same g z e b.left_ok b.left) (put_same (beside g w) y f b.right_ok b.right)))
    put_same st d (t.Logic operator e f span) ok h =
        let x : t.Expression = t.Logic operator e f span in
        let a : Node = n.expression x in
        let z : ℕ = inner st d a in
        let g : Stand = operand st d a in
        let y : ℕ = z + roots (role_of g) (n.expression e) in
        let w : ℕ = width (n.expression e) in
        let r : Role = operand_role (role_of st) a in
        let i = inner_is st d a in
        let same = role_same st d a ok in
        let s = ap (λ (r : Role). roots r (n.expression e)) same in
        let u = ap (λ (r : Role). roots r (n.expression f)) (same ∙ sym (role_beside g w)) in
        let inside = past_own m first limit o st d a (trees r (n.expression e) ++ trees r (n.expression f)) h in
        let left = stands_left (all m first limit o) (first + z) (trees r (n.expression e)) (trees r (n.expression f)) inside in
        let right = past_part m first limit o z r (n.expression e) (trees r (n.expression f)) inside in
        let to_y : first + (z + roots r (n.expression e)) ≡ first + y = ap (λ (k : ℕ). first + (z + k)) s in
        wrapped m first limit o st d _ x (λ o d. p.Logic operator (put m first o d e) (put m first (beside o w) (d + roots (role_of o) (n.expression e)) f) span) (λ k c z. refl)
        (stands_left (all m first limit o) (first + d) (own (is_root (role_of st) a) a) (trees r (n.expression e) ++ trees r (n.expression f)) h)
        (to_end z (y + roots (role_of (beside g w)) (n.expression f)) (d + roots (role_of st) a) (omega (arith, i, s, u))
        (join m limit (on o (first + z)) (on o (first + y)) (on o (first + (y + roots (role_of (beside g w)) (n.expression f))))
        (put_same g z e (stands_inside st d a ok) (subst (λ (q : Role). StandsAt (all m first limit o) (first + z) (trees q (n.expression e))) same left))
        (put_same (beside g w) y f (stands_beside g z (roots (role_of g) (n.expression e)) w (stands_inside st d a ok))
        (subst (λ (q : Role). StandsAt (all m first limit o) (first + y) (trees q (n.expression f))) (same ∙ sym (role_beside g w))
        (subst (λ (k : ℕ). StandsAt (all m first limit o) k (trees r (n.expression f))) to_y right)))))
    put_same st d (t.Choice e f g a span) ok h =
        let x : t.Expression = t.Choice e f g a span in
        let z : ℕ = inner st d (n.expression x) in
        let i = inner_is st d (n.expression x) in
        let y : ℕ = z + roots Controlling (n.expression e) in
        let u : ℕ = y + roots Plain (n.expression f) in
        let last : List Tree = trees Plain (n.expression g) ++ [] in
        let more : List Tree = trees Plain (n.expression f) ++ last in
        let inside = past_own m first limit o st d (n.expression x) (trees Controlling (n.expression e) ++ more) h in
        let next = past_part m first limit o z Controlling (n.expression e) more inside in
        let end = past_part m first limit o y Plain (n.expression f) last next in
        wrapped m first limit o st d _ x (λ o d. p.Choice (put m first (Loose Controlling) d e) (put m first (Loose Plain) (d + roots Controlling (n.expression e)) f) (put m first (Loose Plain) (d + roots Controlling (n.expression e) + roots Plain (n.expression f)) g) a span) (λ k c z. refl)
        (stands_left (all m first limit o) (first + d) (own (is_root (role_of st) (n.expression x)) (n.expression x)) (trees Controlling (n.expression e) ++ more) h)
        (to_end z (u + roots Plain (n.expression g)) (d + roots (role_of st) (n.expression x)) (omega (arith, i))
        (same_as m limit (on o (first + z)) (on o (first + (u + roots Plain (n.expression g)))) (λ v. (v.0, v.1.0, v.1.1)) (λ v. (v.0, (v.1, v.2)))
        (join m limit (on o (first + z)) (on o (first + y)) (on o (first + (u + roots Plain (n.expression g))))
        (put_same (Loose Controlling) z e tt (stands_left (all m first limit o) (first + z) (trees Controlling (n.expression e)) more inside))
        (join m limit (on o (first + y)) (on o (first + u)) (on o (first + (u + roots Plain (n.expression g))))
        (put_same (Loose Plain) y f tt (stands_left (all m first limit o) (first + y) (trees Plain (n.expression f)) last next))
        (put_same (Loose Plain) u g tt (stands_left (all m first limit o) (first + u) (trees Plain (n.expression g)) [] end))))))
    put_same st d (t.Call k a) ok h =
        let x : t.Expression = t.Call k a in
        let z : ℕ = inner st d (n.expression x) in
        let i = inner_is st d (n.expression x) in
        wrapped m first limit o st d _ x (λ o d. p.Call (put_call m first d k) a) (λ k c z. refl)
        (stands_left (all m first limit o) (first + d) (own (is_root (role_of st) (n.expression x)) (n.expression x)) (trees_in (n.call_parts k)) h)
        (to_end z (z + roots_in (n.call_parts k)) (d + roots (role_of st) (n.expression x)) (omega (arith, i))
        (call_same z k (past_own m first limit o st d (n.expression x) (trees_in (n.call_parts k)) h)))
    put_same st d (t.Input span) ok h =
        let x : t.Expression = t.Input span in
        let z : ℕ = inner st d (n.expression x) in
        let i = inner_is st d (n.expression x) in
        wrapped m first limit o st d _ x (λ o d. p.Input span) (λ k c z. refl)
        (stands_left (all m first limit o) (first + d) (own (is_root (role_of st) (n.expression x)) (n.expression x)) [] h)
        (to_end z z (d + roots (role_of st) (n.expression x)) (omega (arith, i)) (still z))

    pub structure_same : (d : ℕ) (x : t.StructureValue) → StandsAt (all m first limit o) (first + d) (trees Plain (n.structure x)) → Bits (EndStructure limit (put_structure m first d x)) d (d + roots Plain (n.structure x))
    structure_same d (t.Stored place) h = place_same d place h
    structure_same d (t.Returned k) h = to_end d (d + roots_in (n.call_parts k)) _ (omega arith) (call_same d k h)

    pub call_same : (d : ℕ) (x : t.FunctionCall) → StandsAt (all m first limit o) (first + d) (trees_in (n.call_parts x)) → Bits (EndCall limit (put_call m first d x)) d (d + roots_in (n.call_parts x))
    call_same d (t.call f given result span) h = arguments_same d given h

    argument_same : (d : ℕ) (x : t.Argument) → StandsAt (all m first limit o) (first + d) (trees Plain (n.argument x)) → Bits (EndArgument limit (put_argument m first d x)) d (d + roots Plain (n.argument x))
    argument_same d (t.NumberArgument e) h = put_same (Loose Plain) d e tt h
    argument_same d (t.StructureArgument value copy) h = structure_same d value h
    argument_same d (t.ArrayArgument place k) h = place_same d place h
    argument_same d (t.AgainArgument array span) h = to_end d d (d + 0) (omega arith) (still d)

    arguments_same : (d : ℕ) (x : t.Arguments) → StandsAt (all m first limit o) (first + d) (trees_in (n.arguments x)) → Bits (EndArguments limit (put_arguments m first d x)) d (d + roots_in (n.arguments x))
    arguments_same d t.no_arguments h = to_end d d (d + 0) (omega arith) (still d)
    arguments_same d (t.arguments a rest) h =
        let z : ℕ = d + roots Plain (n.argument a) in
        to_end d (z + roots_in (n.arguments rest)) _ (omega arith)
        (join m limit (on o (first + d)) (on o (first + z)) (on o (first + (z + roots_in (n.arguments rest))))
        (argument_same d a (stands_left (all m first limit o) (first + d) (trees Plain (n.argument a)) (trees_in (n.arguments rest)) h))
        (arguments_same z rest (past_part m first limit o d Plain (n.argument a) (trees_in (n.arguments rest)) h)))
