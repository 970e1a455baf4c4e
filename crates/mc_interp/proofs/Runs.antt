-- How the parts of a run join.
use Rattle.std.proofs.Common.{◌≡◌, ℕ, ℤ, Bool, List, [], ◌++◌, Option, Some, None, refl, sym, ap, subst, ◌∙◌, append_assoc}
use Rattle.std.proofs.lemmas.List.{append-nil}
use Rattle.mc_steps.specs.Runs.{State, Out, Gave, Stopped, Run, Acts, gives, stops, go_on, preceded, after}
use Rattle.mc_steps.specs.Expressions.{is_true}
use Rattle.mc_probe.specs.Flat.{Flat}
use Rattle.mc_interp.specs.declared.store.Store.{Store}
use Rattle.mc_interp.specs.Stores.{state_of, told, Did}

-- ---- three parts

preceded_twice : {A : Type 0} (xs ys : List ℕ) (r : Run Flat ℕ A) → preceded (xs ++ ys) r ≡ preceded xs (preceded ys r)
preceded_twice {A} xs ys r = ap (λ (l : List ℕ). record { out = r.out; events = l }) (append_assoc xs ys r.events)

pub after_after : {A B C : Type 0} (r : Run Flat ℕ A) (f : A → Acts Flat ℕ B) (g : B → Acts Flat ℕ C) →
    after (after r f) g ≡ after r (λ a s. after (f a s) g)
after_after {A} {B} {C} r f g = go r.out r.events
  where
    go : (o : Out Flat A) (es : List ℕ) →
        preceded (es ++ (go_on o f).events) (go_on (go_on o f).out g) ≡ preceded es (go_on o (λ a s. after (f a s) g))
    go (Gave a s) es = preceded_twice es (f a s).events (go_on (f a s).out g)
    go (Stopped e s) es = preceded_twice es [] (stops e s)

-- ---- what a part gave

-- what is asked of a value and goes on by its truth alone
module _ {B : Type 0} (f : ℤ → Acts Flat ℕ B) (next : Bool → Acts Flat ℕ B)
    (same : (x : ℤ) (s : State Flat) → f x s ≡ next (is_true x) s) where
  pub by_truth : (o : Out Flat ℤ) (es : List ℕ) → preceded es (go_on o f) ≡ after (preceded es (go_on o (λ x s. gives (is_true x) s))) next
  by_truth (Gave x s) es =
      ap (preceded es) (same x s) ∙ ap (λ (xs : List ℕ). preceded xs (next (is_true x) s)) (sym (append-nil es))
  by_truth (Stopped e s) es = ap (λ (xs : List ℕ). preceded xs (stops e s)) (sym (append-nil es))

module _ {P : Type 0} (leads : List ℕ → P → P → Type 0) (stays : (p : P) → leads [] p p)
    (joins : (xs ys : List ℕ) (p q r : P) → leads xs p q → leads ys q r → leads (xs ++ ys) p r) where
  -- a part that hits nothing
  pub did_told : {A : Type 0} (r : Run Flat ℕ A) (result : Option A) (m : Store) (p : P) → r ≡ told result m →
      Did leads r result m p p
  did_told {A = A} r result m p e = record {
    ran = ap (λ (r : Run Flat ℕ A). r.out) e;
    led = subst (λ (r : Run Flat ℕ A). leads r.events p p) (sym e) (stays p);
  }

  pub did_gives : {A : Type 0} (a : A) (m : Store) (p : P) → Did leads (gives a (state_of m)) (Some a) m p p
  did_gives a m p = record { ran = refl; led = stays p }

  -- one part, and then what follows
  pub did_then : {A B : Type 0} (r : Run Flat ℕ A) (next : A → Acts Flat ℕ B) (a : A) (m n : Store) (result : Option B)
      (p q s : P) → Did leads r (Some a) m p q → Did leads (next a (state_of m)) result n q s →
      Did leads (after r next) result n p s
  did_then {A = A} r next a m n result p q s h k = record {
    ran = ap (λ (o : Out Flat A). (go_on o next).out) h.ran ∙ k.ran;
    led = subst (λ (o : Out Flat A). leads (r.events ++ (go_on o next).events) p s) (sym h.ran)
        (joins r.events (next a (state_of m)).events p q s h.led k.led);
  }

  -- where the part stops nothing follows
  pub did_end : {A B : Type 0} (r : Run Flat ℕ A) (next : A → Acts Flat ℕ B) (m : Store) (p q : P) →
      Did leads r None m p q → Did leads (after r next) None m p q
  did_end {A = A} r next m p q h = record {
    ran = ap (λ (o : Out Flat A). (go_on o next).out) h.ran;
    led = subst (λ (o : Out Flat A). leads (r.events ++ (go_on o next).events) p q) (sym h.ran)
        (joins r.events [] p q q h.led (stays q));
  }

  -- nothing is hit after the part
  pub did_no_more : {A : Type 0} (r : Run Flat ℕ A) (result : Option A) (m : Store) (p q s : P) →
      Did leads r result m p q → leads [] q s → Did leads r result m p s
  did_no_more r result m p q s h k = record {
    ran = h.ran;
    led = subst (λ (xs : List ℕ). leads xs p s) (append-nil r.events) (joins r.events [] p q s h.led k);
  }

  -- what follows goes on by the truth of what the part gave
  pub did_by_truth : {B : Type 0} (r : Run Flat ℕ ℤ) (f : ℤ → Acts Flat ℕ B) (next : Bool → Acts Flat ℕ B)
      (same : (x : ℤ) (s : State Flat) → f x s ≡ next (is_true x) s) (result : Option B) (m : Store) (p q : P) →
      Did leads (after (after r (λ x s. gives (is_true x) s)) next) result m p q →
      Did leads (after r f) result m p q
  did_by_truth {B = B} r f next same result m p q h =
      subst (λ (run : Run Flat ℕ B). Did leads run result m p q) (sym (by_truth f next same r.out r.events)) h
