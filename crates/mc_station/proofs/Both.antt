-- The record of two records is that of the tests of both.
use Rattle.std.proofs.Common.{◌≡◌, ◌∙◌, ◌+◌, ◌-◌, ◌<◌, ◌≤◌, ℕ, zero, suc, List, [], ◌∷◌, ◌++◌, length, None, Some, sym, ap, subst, inl, inr, arith, length-append}
use Rattle.std.specs.Prelude.{Contains, slice_get}
use Rattle.std.proofs.lemmas.List.{map-append}
use native.Mathlib.Decide.{dec_lt}
use mathlib.Core.Logic.{dite}
use Rattle.mc_core.specs.Merged.{HoldsEither}
use Rattle.mc_core.specs.declared.shape.Shape.{Shape}
use Rattle.mc_typed.specs.Plans.{Plan}
use Rattle.mc_meaning.specs.Tests.{plain_state}
use Rattle.mc_record.specs.Kept.{Kept}
use Rattle.mc_station.specs.Laws.{MergedIsOfBoth}
use Rattle.mc_station.specs.Source.{Accepted}
use Rattle.mc_station.specs.commands.Record.{IsRecordOf, marked}

-- ---- the tests of both

nothing_there : {A B : Type 0} (x : A) → None ≡ Some x → B
nothing_there x e = cc

in_front : (ps qs : List Plan) (n : ℕ) (p : Plan) → slice_get ps n ≡ Some p → slice_get (ps ++ qs) n ≡ Some p
in_front [] qs n p is = nothing_there p is
in_front (x ∷ ps) qs zero p is = is
in_front (x ∷ ps) qs (suc n) p is = in_front ps qs n p is

behind : (ps qs : List Plan) (n k : ℕ) (p : Plan) → length ps ≤ n → k ≡ n - length ps → slice_get qs k ≡ Some p → slice_get (ps ++ qs) n ≡ Some p
behind [] qs n k p past at is = subst (λ (m : ℕ). slice_get qs m ≡ Some p) (let e : k ≡ n = omega (arith, at) in e) is
behind (x ∷ ps) qs zero k p past at is = absurd (omega (arith, past))
behind (x ∷ ps) qs (suc n) k p past at is = behind ps qs n k p (omega (arith, past)) (omega (arith, at)) is

of_front : (ps qs : List Plan) (n : ℕ) (p : Plan) → n < length ps → slice_get (ps ++ qs) n ≡ Some p → slice_get ps n ≡ Some p
of_front [] qs n p inside is = absurd (omega (arith, inside))
of_front (x ∷ ps) qs zero p inside is = is
of_front (x ∷ ps) qs (suc n) p inside is = of_front ps qs n p (omega (arith, inside)) is

of_behind : (ps qs : List Plan) (n k : ℕ) (p : Plan) → length ps ≤ n → k ≡ n - length ps → slice_get (ps ++ qs) n ≡ Some p → slice_get qs k ≡ Some p
of_behind [] qs n k p past at is = subst (λ (m : ℕ). slice_get qs m ≡ Some p) (let e : n ≡ k = omega (arith, at) in e) is
of_behind (x ∷ ps) qs zero k p past at is = absurd (omega (arith, past))
of_behind (x ∷ ps) qs (suc n) k p past at is = of_behind ps qs n k p (omega (arith, past)) (omega (arith, at)) is

-- ---- their events

none_skipped : (test : ℕ) → ¬ (Contains [] test)
none_skipped test c = absurd (let lt = c.1 in omega arith)

module _ (accepted : Accepted) (ps qs : List Plan) (left right : Kept) (first : IsRecordOf [] accepted ps left) (second : IsRecordOf [] accepted qs right) where
  tests_left : left.matrix.shape.tests ≡ length ps
  tests_left = ap (λ (s : Shape). s.tests) first.shape

  tests_right : right.matrix.shape.tests ≡ length qs
  tests_right = ap (λ (s : Shape). s.tests) second.shape

  abbrev Either : ℕ → ℕ → Type 0
  Either = HoldsEither left.matrix right.matrix

  marked_by_one : (bit test : ℕ) → Either bit test → marked [] accepted (ps ++ qs) bit test
  marked_by_one bit test (inl held) =
      let m = (first.pairs bit test).0 held in
      let s = m.stands in
      record {
        event = m.event;
        of_map = m.of_map;
        has_bit = m.has_bit;
        stands = record { plan = s.plan; planned = in_front ps qs test s.plan s.planned; happened = s.happened; kept = s.kept };
      }
  marked_by_one bit test (inr (past, held)) =
      let m = (second.pairs bit (test - left.matrix.shape.tests)).0 held in
      let s = m.stands in
      let over : length ps ≤ test = omega (arith, past, tests_left) in
      let place : test - left.matrix.shape.tests ≡ test - length ps = ap (λ (n : ℕ). test - n) tests_left in
      record {
        event = m.event;
        of_map = m.of_map;
        has_bit = m.has_bit;
        stands = record { plan = s.plan; planned = behind ps qs test (test - left.matrix.shape.tests) s.plan over place s.planned; happened = s.happened; kept = none_skipped test };
      }

  one_is_marked : (bit test : ℕ) → marked [] accepted (ps ++ qs) bit test → Either bit test
  one_is_marked bit test m =
      let s = m.stands in
      dite (dec_lt test (length ps))
      (λ inside. inl ((first.pairs bit test).1 (record {
        event = m.event;
        of_map = m.of_map;
        has_bit = m.has_bit;
        stands = record { plan = s.plan; planned = of_front ps qs test s.plan inside s.planned; happened = s.happened; kept = s.kept };
      })))
      (λ past.
      let over : length ps ≤ test = omega (arith, past) in
      let place : test - left.matrix.shape.tests ≡ test - length ps = ap (λ (n : ℕ). test - n) tests_left in
      let there : slice_get qs (test - left.matrix.shape.tests) ≡ Some s.plan = of_behind ps qs test (test - left.matrix.shape.tests) s.plan over place s.planned in
      inr (
        omega (arith, over, tests_left),
        (second.pairs bit (test - left.matrix.shape.tests)).1 (record {
          event = m.event;
          of_map = m.of_map;
          has_bit = m.has_bit;
          stands = record { plan = s.plan; planned = there; happened = s.happened; kept = none_skipped (test - left.matrix.shape.tests) };
        }),
      ))

pub merged_is_of_both : MergedIsOfBoth
merged_is_of_both accepted ps qs left right both first second joined =
    let m = joined.merged in
    let tests : left.matrix.shape.tests + right.matrix.shape.tests ≡ length (ps ++ qs) =
    omega (arith, tests_left accepted ps qs left right first second, tests_right accepted ps qs left right first second, length-append ps qs) in
    record {
      digest = m.digest ∙ first.digest;
      names = m.names ∙ (λ i. first.names i ++ second.names i) ∙ sym (map-append (λ (p : Plan). p.name) ps qs);
      states = m.states ∙ (λ i. first.states i ++ second.states i) ∙ sym (map-append (plain_state accepted.program) ps qs);
      shape = m.shape ∙ (λ i. record { bits = (ap (λ (s : Shape). s.bits) first.shape) i; tests = tests i });
      words = joined.words;
      pairs = λ bit test. (
        λ held. marked_by_one accepted ps qs left right first second bit test ((m.pairs bit test).0 held),
        λ is. (m.pairs bit test).1 (one_is_marked accepted ps qs left right first second bit test is),
      );
    }
