-- Parts that follow each other: what was done, and what is still to come.
use Rattle.std.proofs.Common.{◌≡◌, ℕ, ◌+◌, ◌-◌, ◌<◌, length, drop, get_or, pos, List, [], ◌∷◌, ◌++◌, map, refl, sym, ap, subst, ◌∙◌, Option, Some, None}
use Rattle.std.proofs.lemmas.List.{drop_more}
use Rattle.mc_typed.specs.declared.initializers.Initializer.{Initializer}
use Rattle.mc_typed.specs.declared.statements.Declarator.{Declarator}
use Rattle.mc_typed.specs.Sound.{AreDeclarators}
use Rattle.mc_typed.specs.Tree as t
use Rattle.mc_typed.specs.Views as plain
use Rattle.mc_steps.specs.Runs.{Run, changes, gives, after}
use Rattle.mc_steps.specs.Calls.{unset_does}
use Rattle.mc_probe.specs.Flat.{Flat, Does, flat}
use Rattle.mc_probe.specs.Statements as does
use Rattle.mc_probe.specs.Tree as p
use Rattle.mc_probe.specs.Views as view
use Rattle.mc_probe.specs.WellFormed.{FitEffects, FitInitializers, FitDeclarators}
use Rattle.mc_interp.specs.declared.store.Store.{Store}
use Rattle.mc_interp.specs.declared.frame.Frame.{Frame}
use Rattle.mc_interp.specs.Stores.{limits_of, state_of, told, Did}
use Rattle.mc_interp.specs.Effects.{declarator_does, width, AreAnyEffects, InitializeAll}
use Rattle.mc_interp.specs.Frames.{activation_of, scope_in, IsReady, IsKept}
use Rattle.mc_interp.proofs.Runs.{after_after, did_told, did_then, did_end}
use Rattle.mc_interp.proofs.Kept.{kept_then, ready_kept}

-- the first of the parts that are left
pub drop_is : {A : Type 0} (xs : List A) (i : ℕ) (x : A) → i < length xs → x ≡ get_or xs i x → drop i xs ≡ x ∷ drop (i + 1) xs
drop_is {A} xs i x inside is = drop_more xs i x inside ∙ ap (λ (e : A). e ∷ drop (i + 1) xs) (sym is)

-- ---- what is still to come

-- the rows are as before, and whatever the rest does from here, all did from the start
pub record IsOn {P : Type 0} (bits : P → ℕ) (leads : List ℕ → P → P → Type 0) (f : Frame) (whole later : Run Flat ℕ (Unit {0}))
    (old m : Store) (o q : P) : Type 0 where
  pub ready : IsReady f m (bits q)
  pub kept : IsKept (scope_in f) (activation_of f) old m
  pub bits_same : bits q ≡ bits o
  pub limits_same : limits_of m ≡ limits_of old
  pub rest : (result : Option (Unit {0})) (new : Store) (r : P) → Did leads later result new q r → Did leads whole result new o r

module _ {P : Type 0} (bits : P → ℕ) (leads : List ℕ → P → P → Type 0) (stays : (p : P) → leads [] p p)
    (joins : (xs ys : List ℕ) (p q r : P) → leads xs p q → leads ys q r → leads (xs ++ ys) p r) (f : Frame)
    (whole : Run Flat ℕ (Unit {0})) (first later : Does (Unit {0})) (old m n : Store) (o q r : P) where
  abbrev both : Run Flat ℕ (Unit {0})
  both = after (first (state_of m)) (λ _ s. later s)

  pub goes_on : IsOn bits leads f whole both old m o q → Did leads (first (state_of m)) (Some tt) n q r →
      IsKept (scope_in f) (activation_of f) m n → bits r ≡ bits q → limits_of n ≡ limits_of m →
      IsOn bits leads f whole (later (state_of n)) old n o r
  goes_on h d k e l = record {
    ready = ready_kept f m n (bits q) (bits r) h.ready k e;
    kept = kept_then _ _ old m n h.kept k;
    bits_same = e ∙ h.bits_same;
    limits_same = l ∙ h.limits_same;
    rest = λ result new s g. h.rest result new s (did_then leads stays joins (first (state_of m)) (λ _ s. later s) tt n new result q r s d g);
  }

  pub ends : IsOn bits leads f whole both old m o q → Did leads (first (state_of m)) None n q r → Did leads whole None n o r
  ends h d = h.rest None n r (did_end leads stays joins (first (state_of m)) (λ _ s. later s) n q r d)

-- ---- the end

module _ {P : Type 0} (bits : P → ℕ) (leads : List ℕ → P → P → Type 0) (stays : (p : P) → leads [] p p) (f : Frame) where
  pub done : (whole : Run Flat ℕ (Unit {0})) (old m : Store) (o q : P) → IsOn bits leads f whole (gives tt (state_of m)) old m o q →
      Did leads whole (Some tt) m o q
  done whole old m o q h = h.rest (Some tt) m q (record { ran = refl; led = stays q })

-- ---- effects

-- `plainly` is what is left without its probes
pub record AreDoing {P : Type 0} (bits : P → ℕ) (leads : List ℕ → P → P → Type 0) (f : Frame) (all : List p.Effect) (plainly : List t.Effect)
    (later : List p.Effect) (old m : Store) (o q : P) : Type 0 where
  pub on : IsOn bits leads f (does.perform_all (activation_of f) all (state_of old)) (does.perform_all (activation_of f) later (state_of m)) old m o q
  pub sound : AreAnyEffects plainly (scope_in f)
  pub fits : FitEffects f.function.now.registers later

module _ {P : Type 0} (bits : P → ℕ) (leads : List ℕ → P → P → Type 0) (stays : (p : P) → leads [] p p)
    (joins : (xs ys : List ℕ) (p q r : P) → leads xs p q → leads ys q r → leads (xs ++ ys) p r) (f : Frame) (all : List p.Effect) where
  abbrev effects_run : List p.Effect → Does (Unit {0})
  effects_run later s = does.perform_all (activation_of f) later s

  abbrev effect_run : p.Effect → Does (Unit {0})
  effect_run e s = does.perform (activation_of f) e s

  pub doing_step : (a : t.Effect) (plainly : List t.Effect) (e : p.Effect) (later : List p.Effect) (old m n : Store) (o q r : P) →
      AreDoing bits leads f all (a ∷ plainly) (e ∷ later) old m o q →
      Did leads (effect_run e (state_of m)) (Some tt) n q r → IsKept (scope_in f) (activation_of f) m n → bits r ≡ bits q →
      limits_of n ≡ limits_of m → AreDoing bits leads f all plainly later old n o r
  doing_step a plainly e later old m n o q r h d k b l = record {
    on = goes_on bits leads stays joins f (effects_run all (state_of old)) (effect_run e) (effects_run later) old m n o q r h.on d k b l;
    sound = h.sound.1;
    fits = h.fits.1;
  }

  pub doing_end : (a : t.Effect) (plainly : List t.Effect) (e : p.Effect) (later : List p.Effect) (old m n : Store) (o q r : P) →
      AreDoing bits leads f all (a ∷ plainly) (e ∷ later) old m o q →
      Did leads (effect_run e (state_of m)) None n q r → Did leads (effects_run all (state_of old)) None n o r
  doing_end a plainly e later old m n o q r h d =
      ends bits leads stays joins f (effects_run all (state_of old)) (effect_run e) (effects_run later) old m n o q r h.on d

  pub doing_done : (plainly : List t.Effect) (old m : Store) (o q : P) → AreDoing bits leads f all plainly [] old m o q →
      Did leads (effects_run all (state_of old)) (Some tt) m o q
  doing_done plainly old m o q h = done bits leads stays f (effects_run all (state_of old)) old m o q h.on

-- ---- items

pub record AreSetting {P : Type 0} (bits : P → ℕ) (leads : List ℕ → P → P → Type 0) (f : Frame) (all later : List Initializer)
    (at i offset cells : ℕ) (old m : Store) (o q : P) : Type 0 where
  pub on : IsOn bits leads f
      (does.initialize_from (activation_of f) (view.initializers_from (map view.initializer_of all)) at 0 0 cells (state_of old))
      (does.initialize_from (activation_of f) (view.initializers_from (map view.initializer_of later)) at i offset cells (state_of m))
      old m o q
  pub sound : InitializeAll (scope_in f) (activation_of f) (plain.initializers_from (map plain.initializer_of later)) at offset cells
  pub fits : FitInitializers f.function.now.registers (view.initializers_from (map view.initializer_of later))

module _ {P : Type 0} (bits : P → ℕ) (leads : List ℕ → P → P → Type 0) (stays : (p : P) → leads [] p p)
    (joins : (xs ys : List ℕ) (p q r : P) → leads xs p q → leads ys q r → leads (xs ++ ys) p r) (f : Frame) (all : List Initializer)
    (at cells : ℕ) where
  abbrev items_run : List Initializer → ℕ → ℕ → Does (Unit {0})
  items_run later i offset s =
      does.initialize_from (activation_of f) (view.initializers_from (map view.initializer_of later)) at i offset cells s

  abbrev item_run : Initializer → ℕ → Does (Unit {0})
  item_run x offset s = does.initialize (activation_of f) (view.initializer_of x) (at + offset) s

  pub setting_step : (later : List Initializer) (x : Initializer) (i offset k : ℕ) (old m n : Store) (o q r : P) →
      AreSetting bits leads f all (x ∷ later) at i offset cells old m o q →
      Did leads (item_run x offset (state_of m)) (Some tt) n q r → IsKept (scope_in f) (activation_of f) m n → bits r ≡ bits q →
      limits_of n ≡ limits_of m → k ≡ does.width (activation_of f) (view.initializer_of x) → k ≡ width (plain.initializer_of x) →
      AreSetting bits leads f all later at (i + 1) (offset + k) cells old n o r
  setting_step later x i offset k old m n o q r h d kept b l e g = record {
    on = subst (λ (z : ℕ). IsOn bits leads f (items_run all 0 0 (state_of old)) (items_run later (i + 1) (offset + z) (state_of n)) old n o r) (sym e)
        (goes_on bits leads stays joins f (items_run all 0 0 (state_of old)) (item_run x offset)
        (items_run later (i + 1) (offset + does.width (activation_of f) (view.initializer_of x))) old m n o q r h.on d kept b l);
    sound = subst (λ (z : ℕ). InitializeAll (scope_in f) (activation_of f) (plain.initializers_from (map plain.initializer_of later)) at (offset + z) cells) (sym g) h.sound.1;
    fits = h.fits.1;
  }

  pub setting_end : (later : List Initializer) (x : Initializer) (i offset : ℕ) (old m n : Store) (o q r : P) →
      AreSetting bits leads f all (x ∷ later) at i offset cells old m o q → Did leads (item_run x offset (state_of m)) None n q r →
      Did leads (items_run all 0 0 (state_of old)) None n o r
  setting_end later x i offset old m n o q r h d =
      ends bits leads stays joins f (items_run all 0 0 (state_of old)) (item_run x offset)
      (items_run later (i + 1) (offset + does.width (activation_of f) (view.initializer_of x))) old m n o q r h.on d

  -- the rest becomes 0
  pub setting_done : (i offset : ℕ) (old m n : Store) (o q : P) → AreSetting bits leads f all [] at i offset cells old m o q →
      changes (flat.put (at + offset) (cells - offset) (Some (pos 0))) (state_of m) ≡ told (Some tt) n →
      Did leads (items_run all 0 0 (state_of old)) (Some tt) n o q
  setting_done i offset old m n o q h e =
      h.on.rest (Some tt) n q (did_told leads stays joins (items_run [] i offset (state_of m)) (Some tt) n q e)

-- ---- declarators

pub record AreDeclaring {P : Type 0} (bits : P → ℕ) (leads : List ℕ → P → P → Type 0) (f : Frame) (all later : List Declarator)
    (old m : Store) (o q : P) : Type 0 where
  pub on : IsOn bits leads f (does.declare (activation_of f) (map view.declarator_of all) (state_of old))
      (does.declare (activation_of f) (map view.declarator_of later) (state_of m)) old m o q
  pub sound : AreDeclarators (map plain.declarator_of later) (scope_in f)
  pub fits : FitDeclarators f.function.now.registers (map view.declarator_of later)

module _ {P : Type 0} (bits : P → ℕ) (leads : List ℕ → P → P → Type 0) (stays : (p : P) → leads [] p p)
    (joins : (xs ys : List ℕ) (p q r : P) → leads xs p q → leads ys q r → leads (xs ++ ys) p r) (f : Frame) (all : List Declarator) where
  abbrev declarators_run : List Declarator → Does (Unit {0})
  declarators_run later s = does.declare (activation_of f) (map view.declarator_of later) s

  abbrev declarator_run : Declarator → Does (Unit {0})
  declarator_run d s = declarator_does (activation_of f) (view.declarator_of d) s

  -- the parts of the first one joined
  first_is : (later : List Declarator) (d : Declarator) (m : Store) →
      after (declarator_run d (state_of m)) (λ _ s. declarators_run later s) ≡ declarators_run (d ∷ later) (state_of m)
  first_is later d m =
      let w = activation_of f in
      let v = view.declarator_of d in
      after_after (unset_does flat (w.base + v.slot.start) v.cells (state_of m)) (λ _ s. does.initialize_where w v.value (w.base + v.slot.start) s) (λ _ s. declarators_run later s)

  joined : (later : List Declarator) (d : Declarator) (old m : Store) (o q : P) → AreDeclaring bits leads f all (d ∷ later) old m o q →
      IsOn bits leads f (declarators_run all (state_of old)) (after (declarator_run d (state_of m)) (λ _ s. declarators_run later s)) old m o q
  joined later d old m o q h =
      subst (λ (run : Run Flat ℕ (Unit {0})). IsOn bits leads f (declarators_run all (state_of old)) run old m o q) (sym (first_is later d m)) h.on

  pub declaring_step : (later : List Declarator) (d : Declarator) (old m n : Store) (o q r : P) →
      AreDeclaring bits leads f all (d ∷ later) old m o q → Did leads (declarator_run d (state_of m)) (Some tt) n q r →
      IsKept (scope_in f) (activation_of f) m n → bits r ≡ bits q → limits_of n ≡ limits_of m → AreDeclaring bits leads f all later old n o r
  declaring_step later d old m n o q r h g k b l = record {
    on = goes_on bits leads stays joins f (declarators_run all (state_of old)) (declarator_run d) (declarators_run later) old m n o q r (joined later d old m o q h) g k b l;
    sound = h.sound.1;
    fits = h.fits.1;
  }

  pub declaring_end : (later : List Declarator) (d : Declarator) (old m n : Store) (o q r : P) →
      AreDeclaring bits leads f all (d ∷ later) old m o q → Did leads (declarator_run d (state_of m)) None n q r →
      Did leads (declarators_run all (state_of old)) None n o r
  declaring_end later d old m n o q r h g =
      ends bits leads stays joins f (declarators_run all (state_of old)) (declarator_run d) (declarators_run later) old m n o q r (joined later d old m o q h) g

  pub declaring_done : (old m : Store) (o q : P) → AreDeclaring bits leads f all [] old m o q →
      Did leads (declarators_run all (state_of old)) (Some tt) m o q
  declaring_done old m o q h = done bits leads stays f (declarators_run all (state_of old)) old m o q h.on
