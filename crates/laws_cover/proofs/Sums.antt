-- The sums of the rule follow from its plain words.
use Rattle.std.proofs.Common.{◌≡◌, ◌≢◌, ℕ, suc, ◌*◌, ◌<◌, List, [], ◌∷◌, get_or, refl, ap, ◌∙◌, arith}
use Rattle.std.specs.Prelude.{min, Contains, sum_by}
use Rattle.std.specs.Int.{bit_at}
use Rattle.std.proofs.lemmas.List.Sums.{sum_by-cons}
use Rattle.std.proofs.lemmas.Nat.Bits.{bit_at-lt}
use mathlib.Core.Option.{some}
use mathlib.Core.Logic.{dite}
use native.Mathlib.Decide.{ℕ_discrete, dec_lt}
use lib.ListN.{get_elem?}
use Rattle.mc_core.specs.declared.shape.Shape.{Shape}
use Rattle.mc_core.specs.Shape.{rows}
use Rattle.mc_core.specs.Matrix.{bit_of}
use Rattle.mc_core.specs.Counts.{marks, once_below, times}
use Rattle.mc_cover.specs.declared.view.View.{View}
use Rattle.mc_cover.specs.declared.view.Role.{Role}
use Rattle.mc_cover.specs.declared.view.Role.TheVariants.{Opener, Worker, Spent}
use Rattle.mc_cover.specs.Views.{opens}
use Rattle.mc_cover.specs.Rule.{Shared, HasView, IsSound, IsKept, coverage, draws}
use Rattle.mc_cover.specs.Words.{IsRuled, OfSome}
use Rattle.mc_cover.proofs.Sums.{part_le, total_alone}
use Rattle.mc_cover.proofs.Counts.{contains_of_marks, marks_of_contains, contains_of_times, times_of_contains, once_in, once_out}
use Rattle.mc_cover.proofs.Words.{ruled}
use Rattle.laws_cover.specs.Laws.{RuleIsItsWords}

-- ---- sums over views

some_part : (f : View → ℕ) (views : List View) → 0 < sum_by f views → (id : ℕ) × (v : View) × (get_elem? views id ≡ some v) × (0 < f v)
some_part f [] more = absurd (omega (arith, more))
some_part f (x ∷ xs) more =
    dite (dec_lt 0 (f x)) (λ here. (0, x, refl, here))
    (λ no. let c = sum_by-cons f x xs in let r = some_part f xs (omega (arith, more, c, no)) in (suc r.0, r.1, r.2, r.3))

no_part : (f : View → ℕ) (views : List View) → ((id : ℕ) (v : View) → get_elem? views id ≡ some v → ¬ (0 < f v)) → sum_by f views ≡ 0
no_part f views none = dite (dec_lt 0 (sum_by f views)) (λ more. let r = some_part f views more in absurd (none r.0 r.1 r.2 r.3)) (λ no. omega (arith, no))

not_opener : (r : Role) → r ≢ Opener → opens r ≡ 0
not_opener Opener differs = absurd (differs refl)
not_opener Worker differs = refl
not_opener Spent differs = refl

module _ (k : Shape) (s : Shared) (is : IsRuled k s) where
  claims_sum : (n : ℕ) → sum_by (λ (v : View). times n v.claims) s.views ≡ once_below n (min (draws s.words) k.tests)
  claims_sum n =
      let f : View → ℕ = λ v. times n v.claims in
      dite (dec_lt n (min (draws s.words) k.tests))
      (λ less.
      let one = is.claimed n less in
      let id = one.0.0 in
      let v = one.0.1 in
      let at = one.0.2 in
      let alone : sum_by f s.views ≡ f v = total_alone f s.views id v at (λ j w apart there.
      dite (dec_lt 0 (f w)) (λ more. absurd (apart (one.1 j id w v there at (contains_of_times n w.claims more) one.0.3))) (λ no. omega (arith, no))) in
      omega (arith, alone, times_of_contains n v.claims one.0.3, (is.each id v at).claims n, once_in n (min (draws s.words) k.tests) less))
      (λ no.
      let none : sum_by f s.views ≡ 0 = no_part f s.views (λ id v at more. no (is.drawn n (id, v, at, contains_of_times n v.claims more))) in
      omega (arith, none, once_out n (min (draws s.words) k.tests) (omega (arith, no))))

  bits_sum : (b t : ℕ) → b < k.bits → t < 64 * rows k → bit_of k (coverage s.words) b t ≡ min 1 (sum_by (λ (v : View). marks b t v.hits) s.views)
  bits_sum b t hb ht =
      let f : View → ℕ = λ v. marks b t v.hits in
      dite (dec_lt 0 (sum_by f s.views))
      (λ more.
      let r = some_part f s.views more in
      omega (arith, more, (is.set b t hb ht).1 (r.0, r.1, r.2, contains_of_marks b t r.1.hits r.3)))
      (λ no.
      let none : ¬ OfSome s (λ v. Contains v.hits (b, t)) = λ has. no (omega (arith, part_le f s.views has.0 has.1 has.2, marks_of_contains b t has.1.hits has.3)) in
      omega (arith, no, is.clear b t hb ht none))

  sound : (id : ℕ) (v : View) → HasView s id v → IsSound k s.words v
  sound id v at =
      let own = is.each id v at in
      record {
        hits = own.hits;
        seen = λ j d less i.
            let seen : ℕ = bit_at (get_or v.seen j d).1 i in
            dite (ℕ_discrete seen 1) (λ one. omega (arith, one, own.seen j d less i one)) (λ no. omega (arith, no, bit_at-lt (get_or v.seen j d).1 i));
        shape = own.shape;
        worker = own.worker;
        empty = own.empty;
      }

  -- ---- the opener's part

  abbrev id : ℕ
  id = is.opener.0.0

  abbrev v : View
  v = is.opener.0.1

  at : HasView s id v
  at = is.opener.0.2

  opens_first : v.role ≡ Opener
  opens_first = is.opener.0.3

  other : (j : ℕ) (w : View) → j ≢ id → HasView s j w → w.role ≢ Opener
  other j w apart there opens = apart (is.opener.1 j id w v there at opens opens_first)

  idle : (j : ℕ) (w : View) → j ≢ id → HasView s j w → (w.forks ≡ 0) × (w.joined ≡ 0)
  idle j w apart there = by_role w.role refl
    where
      by_role : (r : Role) → w.role ≡ r → (w.forks ≡ 0) × (w.joined ≡ 0)
      by_role Opener e = absurd (other j w apart there e)
      by_role Worker e = let own = (is.each j w there).worker e in (own.1, own.2)
      by_role Spent e = let own = (is.each j w there).empty e in (ap (λ (x : View). x.forks) own, ap (λ (x : View). x.joined) own)

  forks_sum : sum_by (λ (w : View). w.forks) s.views ≡ v.forks
  forks_sum = total_alone (λ (w : View). w.forks) s.views id v at (λ j w apart there. (idle j w apart there).0)

  joined_sum : sum_by (λ (w : View). w.joined) s.views ≡ v.joined
  joined_sum = total_alone (λ (w : View). w.joined) s.views id v at (λ j w apart there. (idle j w apart there).1)

  opener_sum : sum_by (λ (w : View). opens w.role) s.views ≡ 1
  opener_sum =
      let alone : sum_by (λ (w : View). opens w.role) s.views ≡ opens v.role = total_alone (λ (w : View). opens w.role) s.views id v at (λ j w apart there. not_opener w.role (other j w apart there)) in
      alone ∙ ap opens opens_first

  kept : IsKept k s
  kept =
      let counts = is.counts id v at opens_first in
      record {
        whole = is.whole;
        over = is.over;
        claims = claims_sum;
        bits = bits_sum;
        opener = opener_sum;
        workers = omega (arith, counts.workers, forks_sum, joined_sum);
        running = omega (arith, counts.running, forks_sum);
        forks = omega (arith, counts.forks, forks_sum);
        each = sound;
      }

pub the_rule_is_its_words : RuleIsItsWords
the_rule_is_its_words k s = (ruled k s, kept k s)
