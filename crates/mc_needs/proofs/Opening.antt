-- Which outcomes are due, after one more obligation.
use Rattle.std.proofs.Common.{◌≡◌, ℕ, ◌+◌, ◌<◌, Bool, true, false, Some, List, length, replicate, sym, ap, subst, ◌∙◌, refl, arith, inl, inr, ◌⊎◌}
use Rattle.std.specs.Prelude.{◌↔◌, ◌≢◌, slice_get}
use Rattle.std.proofs.lemmas.Bool.{cases_lt}
use Rattle.std.proofs.lemmas.List.{get_or-set_other, length-set, get_or-replicate, length-replicate, get_or_past}
use Rattle.std.proofs.lemmas.Grind.{get_or-set_at}
use Rattle.mc_oblige.specs.declared.obligation.ObligationId.{ObligationId}
use Rattle.mc_oblige.specs.declared.obligation.ObligationId.TheVariants.{Entry, Exit, Statement, Label, Outcome, Condition}
use Rattle.mc_oblige.specs.declared.obligation.Obligation.{Obligation}
use Rattle.mc_needs.specs.declared.due.Due.{Due}
use Rattle.mc_needs.specs.steps.Due.{none_due, is_due, with_due, due_at, with_due_at, due_if, IsAskedBelow, AreDue}
use Rattle.mc_needs.proofs.Bases.{same_or_not}
use Rattle.mc_needs.proofs.Rising.{next}

widened : (x : Due) (outcome o : Bool) → ((outcome ≡ o) × (is_due (with_due x outcome true) o ≡ true)) ⊎ ((outcome ≢ o) × (is_due (with_due x outcome true) o ≡ is_due x o))
widened x true true = inl (refl, refl)
widened x true false = inr (λ e. cc, refl)
widened x false true = inr (λ e. cc, refl)
widened x false false = inl (refl, refl)

none_is : (o : Bool) → is_due none_due o ≡ false
none_is true = refl
none_is false = refl

none_at : (n d : ℕ) → due_at (replicate n none_due) d ≡ none_due
none_at n d = elim (cases_lt d n) [
  | inl less ↦ get_or-replicate n d none_due none_due less
  | inr more ↦ get_or_past (replicate n none_due) d none_due (let l = length-replicate n none_due in omega (arith, l, more))
]

decision_of : (d e : ℕ) (x o : Bool) → Outcome e x ≡ Outcome d o → d ≡ e
decision_of d e x o same = cc

outcome_of : (d e : ℕ) (x o : Bool) → Outcome e x ≡ Outcome d o → x ≡ o
outcome_of d e x o same = cc

module _ (decisions : ℕ) (os : List Obligation) (asked : List Bool) where
  pub none_due_yet : (due : List Due) → due ≡ replicate decisions none_due → AreDue decisions 0 os asked due
  none_due_yet due e = record {
    count = ap (λ (ys : List Due). length ys) e ∙ length-replicate decisions none_due;
    each = λ d o lt. (
      λ h.
          (let f : is_due (due_at due d) o ≡ false = ap (λ (ys : List Due). is_due (due_at ys d) o) e ∙ ap (λ (y : Due). is_due y o) (none_at decisions d) ∙ none_is o in
          let g : true ≡ false = sym h ∙ f in
          cc),
      λ h. absurd (let b = h.below in omega (arith, b)),
    );
  }

  module _ (n : ℕ) (o : Obligation) (there : slice_get os n ≡ Some o) (due : List Due) (h : AreDue decisions n os asked due) where
    still : (d : ℕ) (x : Bool) → IsAskedBelow n os asked d x → IsAskedBelow (n + 1) os asked d x
    still d x a = record { at = a.at; below = (let b = a.below in omega (arith, b)); obligation = a.obligation; among = a.among; same = a.same; is = a.is }

    -- one that is asked up to here was asked before, or it is the one here
    cases : (d : ℕ) (x is : Bool) → slice_get asked n ≡ Some is → IsAskedBelow (n + 1) os asked d x → IsAskedBelow n os asked d x ⊎ ((o.id ≡ Outcome d x) × (is ≡ true))
    cases d x is own a = elim (next a.at n a.below) [
      | inl less ↦ inl (record { at = a.at; below = less; obligation = a.obligation; among = a.among; same = a.same; is = a.is })
      | inr here ↦
          (let one : Some o ≡ Some a.obligation = sym there ∙ ap (λ k. slice_get os k) (sym here) ∙ a.among in
          let same : o ≡ a.obligation = cc in
          let set-is : Some is ≡ Some true = sym own ∙ ap (λ k. slice_get asked k) (sym here) ∙ a.is in
          let yes : is ≡ true = cc in
          inr (ap (λ (y : Obligation). y.id) same ∙ a.same, yes))
    ]

    pub unchanged : (is : Bool) → slice_get asked n ≡ Some is → ((d : ℕ) (x : Bool) → o.id ≡ Outcome d x → is ≡ true → ⊥) → AreDue decisions (n + 1) os asked due
    unchanged is own other = record {
      count = h.count;
      each = λ d x lt. (
        λ e. still d x ((h.each d x lt).0 e),
        λ a. elim (cases d x is own a) [ inl old ↦ (h.each d x lt).1 old | inr new ↦ absurd (other d x new.0 new.1) ],
      );
    }

    changed : (e : ℕ) (outcome : Bool) → slice_get asked n ≡ Some true → o.id ≡ Outcome e outcome → e < length due → AreDue decisions (n + 1) os asked (with_due_at due e outcome true)
    changed e outcome own is within = record {
      count = length-set due e (with_due (due_at due e) outcome true) ∙ h.count;
      each = λ d x lt. elim (same_or_not d e) [
        | inl same ↦
            (let at : due_at (with_due_at due e outcome true) d ≡ with_due (due_at due e) outcome true = get_or-set_at due e d (with_due (due_at due e) outcome true) none_due same within in
            let P : Due → Type 0 = λ y. (is_due y x ≡ true) ↔ IsAskedBelow (n + 1) os asked d x in
            subst P (sym at) (elim (widened (due_at due e) outcome x) [
              | inl wide ↦ (
                λ f. record {
                  at = n;
                  below = omega arith;
                  obligation = o;
                  among = there;
                  same = is ∙ (λ i. Outcome (sym same i) (wide.0 i));
                  is = own;
                },
                λ a. wide.1,
              )
              | inr not ↦
                  (let back : due_at due e ≡ due_at due d = ap (λ k. due_at due k) (sym same) in
                  let was : is_due (with_due (due_at due e) outcome true) x ≡ is_due (due_at due d) x = not.1 ∙ ap (λ (y : Due). is_due y x) back in (
                    λ f. still d x ((h.each d x lt).0 (sym was ∙ f)),
                    λ a. elim (cases d x true own a) [
                      | inl old ↦ was ∙ (h.each d x lt).1 old
                      | inr new ↦ absurd (not.0 (outcome_of d e outcome x (sym is ∙ new.0)))
                    ],
                  ))
            ]))
        | inr apart ↦
            (let at : due_at (with_due_at due e outcome true) d ≡ due_at due d = get_or-set_other due e d (with_due (due_at due e) outcome true) none_due apart in
            let P : Due → Type 0 = λ y. (is_due y x ≡ true) ↔ IsAskedBelow (n + 1) os asked d x in
            subst P (sym at) (
              λ f. still d x ((h.each d x lt).0 f),
              λ a. elim (cases d x true own a) [
                | inl old ↦ (h.each d x lt).1 old
                | inr new ↦ absurd (apart (decision_of d e outcome x (sym is ∙ new.0)))
              ],
            ))
      ];
    }

    by_id : (is : Bool) (id : ObligationId) → o.id ≡ id → slice_get asked n ≡ Some is → ((d : ℕ) (x : Bool) → id ≡ Outcome d x → d < length due)
        → AreDue decisions (n + 1) os asked (due_if is id due)
    by_id false id e own low = unchanged false own (λ d x f g. cc)
    by_id true (Entry k) e own low = unchanged true own (λ d x f g. let not : Entry k ≡ Outcome d x = sym e ∙ f in cc)
    by_id true (Exit k) e own low = unchanged true own (λ d x f g. let not : Exit k ≡ Outcome d x = sym e ∙ f in cc)
    by_id true (Statement k) e own low = unchanged true own (λ d x f g. let not : Statement k ≡ Outcome d x = sym e ∙ f in cc)
    by_id true (Label k) e own low = unchanged true own (λ d x f g. let not : Label k ≡ Outcome d x = sym e ∙ f in cc)
    by_id true (Condition d k) e own low = unchanged true own (λ c x f g. let not : Condition d k ≡ Outcome c x = sym e ∙ f in cc)
    by_id true (Outcome d x) e own low = changed d x own e (low d x refl)

    pub due_next : (is : Bool) (after : List Due) → slice_get asked n ≡ Some is → ((d : ℕ) (x : Bool) → o.id ≡ Outcome d x → d < length due)
        → after ≡ due_if is o.id due → AreDue decisions (n + 1) os asked after
    due_next is after own low e =
        let P : List Due → Type 0 = λ ys. AreDue decisions (n + 1) os asked ys in
        subst P (sym e) (by_id is o.id refl own low)
