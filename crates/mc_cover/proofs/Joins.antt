-- A pass is cut from the opener's, and put back.
use Rattle.std.proofs.Common.{◌≡◌, ◌≢◌, ℕ, ◌+◌, ◌<◌, ◌≤◌, ⊎_elim, List, [], ◌∷◌, ◌++◌, get_or, set, sym, refl, ap, ◌∙◌, subst, arith}
use Rattle.std.specs.Prelude.{min, Contains, sum_by}
use Rattle.std.specs.Int.{bit_at}
use Rattle.std.proofs.lemmas.List.Sums.{sum_by_push}
use Rattle.std.proofs.lemmas.List.Elements.{All-append, Contains-append_left, Contains-append_right}
use mathlib.Core.Option.{some, some-injective}
use lib.ListN.{get_elem?}
use Rattle.atomic_table.specs.Table.{Splits, Joins}
use Rattle.atomic_table.proofs.Lists.{at_snoc, set_else}
use Rattle.mc_limits.specs.Limits.{most_workers}
use Rattle.mc_core.specs.declared.shape.Shape.{Shape}
use Rattle.mc_core.specs.Counts.{marks, times}
use Rattle.mc_cover.specs.declared.view.View.{View}
use Rattle.mc_cover.specs.declared.view.Role.TheVariants.{Opener, Worker, Spent}
use Rattle.mc_cover.specs.Views.{after_fork, after_join, worker, spent, opens, works, runs}
use Rattle.mc_cover.specs.Rule.{Shared, HasView, IsSound, IsKept, coverage}
use Rattle.mc_cover.specs.Steps.{forked, joined}
use Rattle.mc_cover.proofs.Sums.{total_set}
use Rattle.mc_cover.proofs.Counts.{times_append, marks_append}
use Rattle.mc_cover.proofs.Hits.{each_set}
use Rattle.mc_cover.proofs.Ends.{forks_is}

each_push : (P : View → Type 0) (views : List View) (w : View) → P w → ((j : ℕ) (v : View) → get_elem? views j ≡ some v → P v) → (j : ℕ) (v : View) → get_elem? (views ++ w ∷ []) j ≡ some v → P v
each_push P views w mine all j v at = ⊎_elim (λ (x : get_elem? views j ≡ some v). all j v x) (λ (e : w ≡ v). subst P e mine) (at_snoc views w v j at)

pub kept_fork : (k : Shape) (s : Shared) → IsKept k s → (id : ℕ) (v : View) → HasView s id v → v.role ≡ Opener → v.forks < most_workers → IsKept k (forked s id v)
kept_fork k s kept id v at is_opener few =
    let l : View = after_fork v in
    let r : View = worker v in
    let views' : List View = set s.views id l ++ r ∷ [] in
    let sum' = λ (f : View → ℕ). let p : sum_by f views' ≡ sum_by f (set s.views id l) + f r = sum_by_push f (set s.views id l) r in let q : sum_by f (set s.views id l) + f v ≡ sum_by f s.views + f l = total_set f s.views id v l at in let t : sum_by f views' + f v ≡ sum_by f s.views + f l + f r = omega arith in t in
    let keeps = λ (f : View → ℕ) (a : f l ≡ f v) (b : f r ≡ 0). let h = sum' f in let t : sum_by f views' ≡ sum_by f s.views = omega arith in t in
    let mine = kept.each id v at in
    let live : v.role ≢ Spent = λ e. let x = sym is_opener ∙ e in cc in
    let total : sum_by (λ (u : View). u.forks) s.views ≡ v.forks = forks_is k s kept id v at is_opener in record {
      whole = kept.whole;
      over = keeps (λ u. u.over) refl refl ∙ kept.over;
      claims = λ n. keeps (λ u. times n u.claims) refl refl ∙ kept.claims n;
      bits = λ b t hb ht. kept.bits b t hb ht ∙ ap (λ x. min 1 x) (sym (keeps (λ u. marks b t u.hits) refl refl));
      opener = keeps (λ u. opens u.role) refl refl ∙ kept.opener;
      workers = let a = sum' (λ u. works u.role) in let b = sum' (λ u. u.joined) in let c = sum' (λ u. u.forks) in let d = kept.workers in omega arith;
      running = let a = sum' (λ u. u.over) in let b = sum' runs in let c = sum' (λ u. u.forks) in let d = kept.running in omega arith;
      forks = let c = sum' (λ u. u.forks) in omega arith;
      each = each_push (IsSound k s.words) (set s.views id l) r
          (record { hits = λ j d less. absurd (omega arith); seen = mine.seen; shape = λ _. mine.shape live; worker = λ _. (omega arith, refl, refl); empty = λ e. cc })
          (each_set (IsSound k s.words) (IsSound k s.words) s.views id l (λ u x. x)
          (record { hits = mine.hits; seen = mine.seen; shape = mine.shape; worker = λ e. let x = sym is_opener ∙ e in cc; empty = λ e. absurd (live e) }) kept.each);
    }

pub forks : (k : Shape) (id : ℕ) (v : View) → v.role ≡ Opener → v.forks < most_workers → Splits (IsKept k) id v (after_fork v) (worker v)
forks k id v is_opener few s kept at = kept_fork k s kept id v at is_opener few

pub kept_join : (k : Shape) (s : Shared) → IsKept k s → (id : ℕ) (v : View) (other : ℕ) (w : View) → HasView s id v → HasView s other w → v.role ≡ Opener → w.role ≡ Worker → IsKept k (joined s id v other w)
kept_join k s kept id v other w at was is_opener is_worker =
    let both : View = after_join v w in
    let mid : List View = set s.views id both in
    let views' : List View = set mid other spent in
    let apart : other ≢ id = λ e. let same : v ≡ w = some-injective v w (sym at ∙ (ap (λ (i : ℕ). get_elem? s.views i) (sym e) ∙ was)) in let x = sym is_opener ∙ (ap (λ (u : View). u.role) same ∙ is_worker) in cc in
    let at' : get_elem? mid other ≡ some w = set_else s.views id other both apart ∙ was in
    let mine = kept.each id v at in
    let theirs = kept.each other w was in
    let sum' = λ (f : View → ℕ) (idle0 : f spent ≡ 0). let p : sum_by f mid + f v ≡ sum_by f s.views + f both = total_set f s.views id v both at in let q : sum_by f views' + f w ≡ sum_by f mid + f spent = total_set f mid other w spent at' in
    let t : sum_by f views' + f v + f w ≡ sum_by f s.views + f both = omega arith in t in
    let keeps = λ (f : View → ℕ) (idle0 : f spent ≡ 0) (a : f both ≡ f v + f w). let h = sum' f idle0 in let t : sum_by f views' ≡ sum_by f s.views = omega arith in t in
    let live : v.role ≢ Spent = λ e. let x = sym is_opener ∙ e in cc in
    let idle = theirs.worker is_worker in
    let opens_w : opens w.role ≡ 0 = ap opens is_worker in
    let works_v : works v.role ≡ 0 = ap works is_opener in
    let works_w : works w.role ≡ 1 = ap works is_worker in record {
      whole = kept.whole;
      over = keeps (λ u. u.over) refl refl ∙ kept.over;
      claims = λ n. keeps (λ u. times n u.claims) refl (times_append n v.claims w.claims) ∙ kept.claims n;
      bits = λ b t hb ht. kept.bits b t hb ht ∙ ap (λ x. min 1 x) (sym (keeps (λ u. marks b t u.hits) refl (marks_append b t v.hits w.hits)));
      opener = keeps (λ u. opens u.role) refl (omega arith) ∙ kept.opener;
      workers = let a = sum' (λ u. works u.role) refl in let b = sum' (λ u. u.joined) refl in let c = sum' (λ u. u.forks) refl in let d = kept.workers in omega arith;
      running = let a = sum' (λ u. u.over) refl in let b = sum' runs refl in let c = sum' (λ u. u.forks) refl in let d = kept.running in omega arith;
      forks = let c = sum' (λ u. u.forks) refl in let d = kept.forks in omega arith;
      each = each_set (IsSound k s.words) (IsSound k s.words) mid other spent (λ u x. x)
          (record { hits = λ j d less. absurd (omega arith); seen = λ j d less. absurd (omega arith); shape = λ n. absurd (n refl); worker = λ e. cc; empty = λ _. refl })
          (each_set (IsSound k s.words) (IsSound k s.words) s.views id both (λ u x. x)
          (record {
            hits = All-append (λ h. (h.0 < k.bits) × Contains both.claims h.1) v.hits w.hits
                (λ j d less. let h = mine.hits j d less in (h.0, Contains-append_left v.claims w.claims (get_or v.hits j d).1 h.1))
                (λ j d less. let h = theirs.hits j d less in (h.0, Contains-append_right v.claims w.claims (get_or w.hits j d).1 h.1));
            seen = All-append (λ x. (i : ℕ) → bit_at x.1 i ≤ bit_at (get_or (coverage s.words) x.0 0) i) v.seen w.seen mine.seen theirs.seen;
            shape = mine.shape;
            worker = λ e. let x = sym is_opener ∙ e in cc;
            empty = λ e. absurd (live e);
          }) kept.each);
    }

pub joins : (k : Shape) (id : ℕ) (v : View) (other : ℕ) (w : View) → v.role ≡ Opener → w.role ≡ Worker → Joins (IsKept k) id v other w (after_join v w) spent
joins k id v other w is_opener is_worker s kept at apart at' = kept_join k s kept id v other w at (sym (set_else s.views id other (after_join v w) apart) ∙ at') is_opener is_worker
