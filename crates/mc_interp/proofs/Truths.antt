-- Truth values as numbers.
use Rattle.std.proofs.Common.{◌≡◌, ℕ, ◌+◌, ℤ, pos, Bool, true, false, not, List, [], ◌++◌, Option, Some, None, option_map, refl, sym, ap, subst, ◌∙◌, if◌then◌else◌}
use Rattle.std.proofs.lemmas.List.{append-nil}
use Rattle.std.proofs.lemmas.Bool.{false≢true}
use Rattle.mc_value.specs.declared.int_type.IntType.{IntType}
use Rattle.mc_value.specs.IntTypes.{signed_of}
use Rattle.interp_words.specs.Words.{number_of}
use Rattle.std.proofs.Common.{to_z}
use mir.Syntax.{w64}
use mir.Val.{bool_byte as from_bool}
use Rattle.mc_value.specs.Conversions.{is_zero}
use Rattle.mc_value.specs.Arithmetic.{truth}
use Rattle.mc_typed.specs.declared.probes.Probe.TheVariants as probe
use Rattle.mc_steps.specs.Runs.{State, Out, Gave, Stopped, Run, Acts, gives, go_on, after}
use Rattle.mc_steps.specs.Expressions.{is_true, where_true, goes_on}
use Rattle.mc_probe.specs.Flat.{Flat, Activation, sets, adds, hits, register, wrapped_sum}
use Rattle.mc_probe.specs.Tree.{Expression}
use Rattle.mc_probe.specs.Tree as p
use Rattle.mc_probe.specs.Expressions.{evaluate}
use Rattle.mc_interp.specs.declared.store.Store.{Store}
use Rattle.mc_interp.specs.Stores.{out_of, Did}
use Rattle.mc_interp.specs.Truths.{is_logical}

pub true_truth : (b : Bool) → is_true (truth b) ≡ b
true_truth true = refl
true_truth false = refl

pub not_zero : (x : ℤ) → truth (is_zero x) ≡ truth (not (is_true x))
not_zero x = go (is_zero x)
  where
    go : (b : Bool) → truth b ≡ truth (not (not b))
    go true = refl
    go false = refl

-- ---- parts that give 1 or 0

abbrev pub OnlyTruth : Out Flat ℤ → Type 0
OnlyTruth (Gave x s) = x ≡ truth (is_true x)
OnlyTruth (Stopped e s) = Unit {0}

only_gives : (b : Bool) → truth b ≡ truth (is_true (truth b))
only_gives b = ap truth (sym (true_truth b))

only_after : {A : Type 0} (r : Run Flat ℕ A) (next : A → Acts Flat ℕ ℤ) →
    ((a : A) (s : State Flat) → OnlyTruth (next a s).out) → OnlyTruth (after r next).out
only_after {A = A} r next h = go r.out
  where
    go : (o : Out Flat A) → OnlyTruth (go_on o next).out
    go (Gave a s) = h a s
    go (Stopped e s) = tt

only_where : (b : Bool) (chosen other : Acts Flat ℕ ℤ) (s : State Flat) → OnlyTruth (chosen s).out →
    OnlyTruth (other s).out → OnlyTruth (where_true b chosen other s).out
only_where true chosen other s h k = h
only_where false chosen other s h k = k

only_last : (r : Run Flat ℕ (Unit {0})) (b : Bool) → OnlyTruth (after r (λ u s. gives (truth b) s)).out
only_last r b = only_after r (λ u s. gives (truth b) s) (λ u s. only_gives b)

pub only_logical : (w : Activation) (e : Expression) (s : State Flat) → is_logical e ≡ true →
    OnlyTruth (evaluate w e s).out
only_logical w (p.Constant v a span) s h = absurd (false≢true h)
only_logical w (p.Read place a) s h = absurd (false≢true h)
only_logical w (p.Unary operator a e span) s h = absurd (false≢true h)
only_logical w (p.Convert a written e span) s h = absurd (false≢true h)
only_logical w (p.Not e span) s h = only_after (evaluate w e s) _ (λ x s. only_gives (is_zero x))
only_logical w (p.Binary operator a e f span) s h = absurd (false≢true h)
only_logical w (p.Logic operator e f span) s h =
    only_after (evaluate w e s) _ (λ x s. only_where (goes_on operator (is_true x)) _ _ s
    (only_after (evaluate w f s) _ (λ y s. only_gives (is_true y))) (only_gives (is_true x)))
only_logical w (p.Choice e f g a span) s h = absurd (false≢true h)
only_logical w (p.Call k a) s h = absurd (false≢true h)
only_logical w (p.Input span) s h = absurd (false≢true h)
only_logical w (p.Probe (probe.Decision r base) e) s h =
    only_after (sets w r 0 s) (λ u s. after (evaluate w e s) (λ x s. after (hits w (wrapped_sum base (register (w.first + r) s.memory)) s) (λ u s. gives (truth (is_true x)) s)))
    (λ u s. only_after (evaluate w e s) (λ x s. after (hits w (wrapped_sum base (register (w.first + r) s.memory)) s) (λ u s. gives (truth (is_true x)) s))
    (λ x s. only_last (hits w (wrapped_sum base (register (w.first + r) s.memory)) s) (is_true x)))
only_logical w (p.Probe (probe.Condition r on_true on_false) e) s h =
    only_after (evaluate w e s) (λ x s. after (adds w r (if is_true x then on_true else on_false) s) (λ u s. gives (truth (is_true x)) s))
    (λ x s. only_last (adds w r (if is_true x then on_true else on_false) s) (is_true x))
only_logical w (p.Probe (probe.Switch r) e) s h = absurd (false≢true h)

-- ---- from a truth value to the number

abbrev over : Out Flat Bool → Out Flat ℤ
over (Gave b s) = Gave (truth b) s
over (Stopped e s) = Stopped e s

told_over : (o : Out Flat ℤ) → OnlyTruth o → o ≡ over (go_on o (λ x s. gives {E = ℕ} (is_true x) s)).out
told_over (Gave x s) h = ap (λ y. Gave y s) h
told_over (Stopped e s) h = refl

over_out : (result : Option Bool) (m : Store) → over (out_of result m) ≡ out_of (option_map truth result) m
over_out (Some b) m = refl
over_out None m = refl

no_events : (o : Out Flat ℤ) → (go_on o (λ x s. gives {E = ℕ} (is_true x) s)).events ≡ []
no_events (Gave x s) = refl
no_events (Stopped e s) = refl

pub did_truth : {P : Type 0} (leads : List ℕ → P → P → Type 0) (r : Run Flat ℕ ℤ) (result : Option Bool) (m : Store)
    (p q : P) → OnlyTruth r.out → Did leads (after r (λ x s. gives (is_true x) s)) result m p q →
    Did leads r (option_map truth result) m p q
did_truth leads r result m p q h d = record {
  ran = told_over r.out h ∙ ap over d.ran ∙ over_out result m;
  led = subst (λ (xs : List ℕ). leads xs p q) (ap (λ (xs : List ℕ). r.events ++ xs) (no_events r.out) ∙ append-nil r.events) d.led;
}

-- ---- words of truth values

same_both : {A : Type 0} (b : Bool) (x y z : A) → x ≡ z → y ≡ z → (if b then x else y) ≡ z
same_both true x y z e f = e
same_both false x y z e f = f

number_one : (t : IntType) → number_of t 1 ≡ pos 1
number_one t = same_both (signed_of t) (to_z w64 1) (pos 1) (pos 1) refl refl

number_none : (t : IntType) → number_of t 0 ≡ pos 0
number_none t = same_both (signed_of t) (to_z w64 0) (pos 0) (pos 0) refl refl

pub number_truth : (t : IntType) (b : Bool) → number_of t (from_bool b) ≡ truth b
number_truth t true = number_one t
number_truth t false = number_none t

pub did_word : {P : Type 0} (leads : List ℕ → P → P → Type 0) (t : IntType) (r : Run Flat ℕ ℤ) (b : Bool) (n : ℕ) (m : Store)
    (p q : P) → OnlyTruth r.out → n ≡ from_bool b →
    Did leads (after r (λ x s. gives (is_true x) s)) (Some b) m p q →
    Did leads r (Some (number_of t n)) m p q
did_word leads t r b n m p q h e d =
    subst (λ v. Did leads r (Some v) m p q) (sym (ap (number_of t) e ∙ number_truth t b)) (did_truth leads r (Some b) m p q h d)
