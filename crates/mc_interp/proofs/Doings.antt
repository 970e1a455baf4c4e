-- What effects do, from what their parts did.
use Rattle.std.proofs.Common.{◌≡◌, ℕ, ◌+◌, ◌≤◌, ℤ, Bool, true, false, List, [], ◌∷◌, ◌++◌, length, Option, Some, None, option_map, arith, Box, refl, sym, ap, subst, ◌∙◌}
use Rattle.mc_value.specs.declared.int_type.IntType.{IntType}
use Rattle.mc_value.specs.declared.trap.Trap.TheVariants.{Unset}
use Rattle.mc_value.specs.Conversions.{converted, promoted}
use Rattle.interp_words.specs.Words.{Holds, IsRight, IsRightType}
use Rattle.mc_typed.specs.declared.operators.Operator.{Operator}
use Rattle.mc_typed.specs.declared.operators.Operator.TheVariants.{Binary, Shift}
use Rattle.mc_typed.specs.Layout.{ObjectType, cells}
use Rattle.mc_typed.specs.Tree as t
use Rattle.mc_typed.specs.Sound.{Scope, HasOperands, IsEffect, AreClauses}
use Rattle.mc_steps.specs.Runs.{State, after, changes, with_some, with_result}
use Rattle.mc_steps.specs.Expressions.{operated, assign_does, update_does, choice_does, copy_does, is_true, where_true, as_does}
use Rattle.mc_probe.specs.Flat.{Flat, Does, flat}
use Rattle.mc_probe.specs.Tree as p
use Rattle.mc_probe.specs.Views as view
use Rattle.std.specs.Global.{Global}
use Rattle.mc_span.specs.declared.span.Span.{Span}
use Rattle.mc_typed.specs.declared.expressions.Expression.{Expression}
use Rattle.mc_typed.specs.declared.effects.Effect as code
use Rattle.mc_typed.specs.declared.effects.Effect.TheVariants as effect
use Rattle.mc_typed.specs.declared.effects.Effect.TheOpen.{Effect-F}
use Rattle.mc_typed.specs.declared.effects.Effect.TheFolds.{fold-roll-Effect}
use Rattle.mc_interp.specs.declared.store.Store.{Store}
use Rattle.mc_interp.specs.declared.frame.Frame.{Frame}
use Rattle.mc_interp.specs.Frames.{activation_of, scope_in, IsReady}
use Rattle.mc_interp.specs.Typed.{IsPlaced}
use Rattle.mc_interp.specs.Stores.{state_of, told, Did}
use Rattle.mc_interp.specs.Effects.{IsAnyEffect, AreAnyEffects}
use Rattle.mc_interp.proofs.Runs.{did_by_truth, did_told, did_then, did_end}
use Rattle.mc_interp.proofs.Called.{any_call}
use Rattle.mc_interp.proofs.Placed.{none_some, some_eq}

-- ---- soundness

pub any_effect : (e : t.Effect) (whole : Bool) (c : Scope) → IsEffect e whole c → IsAnyEffect e c
any_effect (t.Assign target a e span) whole c h = (h.1, h.2, h.3, h.4)
any_effect (t.Update target a operator common e span) whole c h = (h.1, h.2, h.5, h.6)
any_effect (t.Copy target value n span) whole c h = (h.1, h.2, h.3, h.4)
any_effect (t.NumberEffect e w) whole c h = h.1
any_effect (t.StructureEffect value w) whole c h = h.1
any_effect (t.CallEffect k) whole c h = any_call k c t.NoResult h
any_effect (t.Output e span) whole c h = h
any_effect (t.ChoiceEffect e a b span) whole c h = (h.0, any_effect a false c h.1, any_effect b false c h.2)
any_effect (t.Discard a span) whole c h = any_effect a whole c h.1

pub any_effects : (es : List t.Effect) (c : Scope) → AreClauses es c → AreAnyEffects es c
any_effects [] c h = tt
any_effects (e ∷ es) c h = (any_effect e true c h.0, any_effects es c h.1)

-- ---- nodes

pub view_choice : (e : Expression) (a b : Box code.Effect Global) (span : Span) →
    view.effect_of (effect.Choice e a b span) ≡ p.ChoiceEffect (view.expression_of e) (view.effect_of a.value) (view.effect_of b.value) span
view_choice e a b span =
    ap view.effect_of (sym (effect.rolls-Choice e a b span)) ∙ fold-roll-Effect p.Effect view.node_effect (Effect-F.Choice e a b span)

-- ---- operands

pub common_promoted : (operator : Operator) (a left right : IntType) → HasOperands operator a left right → promoted a ≡ a
common_promoted (Binary operator) a left right h = h.0
common_promoted (Shift operator) a left right h = h.0

pub right_is : (operator : Operator) (a left right : IntType) (word : ℕ) → HasOperands operator a left right → Holds right word →
    IsRight operator a word
right_is (Binary operator) a left right word h k = subst (λ t. Holds t word) h.2 k
right_is (Shift operator) a left right word h k = tt

pub right_type : (operator : Operator) (a left right : IntType) → HasOperands operator a left right → IsRightType operator a right
right_type (Binary operator) a left right h = h.2
right_type (Shift operator) a left right h = tt

-- ---- room

pub placed_room : (f : Frame) (m : Store) (room at k : ℕ) (t : Option ObjectType) → IsReady f m room →
    IsPlaced (scope_in f) (activation_of f) at t → option_map cells t ≡ Some k → at + k ≤ length m.cells.cells
placed_room f m room at k None r p e = none_some k e
placed_room f m room at k (Some u) r p e =
    let s = p r.types r.typed in
    let d : cells u ≡ k = some_eq (cells u) k e in
    omega (arith, s.within, r.has.room, d)

pub type_there : (t : Option ObjectType) (k : ℕ) → option_map cells t ≡ Some k → (u : ObjectType) × (t ≡ Some u) × (cells u ≡ k)
type_there None k e = none_some k e
type_there (Some u) k e = (u, refl, some_eq (cells u) k e)

module _ {P : Type 0} (leads : List ℕ → P → P → Type 0) (stays : (p : P) → leads [] p p)
    (joins : (xs ys : List ℕ) (p q r : P) → leads xs p q → leads ys q r → leads (xs ++ ys) p r) where
  -- ---- assignments

  module _ (A : Does ℕ) (E : Does ℤ) (s : State Flat) (k : ℕ) (m n : Store) (p q r : P)
      (d : Did leads (A s) (Some k) m p q) where
    abbrev put_into : ℕ → ℤ → Does (Unit {0})
    put_into k v s = changes (flat.put k 1 (Some v)) s

    abbrev assigns : ℕ → Does (Unit {0})
    assigns k s = after (E s) (put_into k)

    pub did_assign_end : Did leads (E (state_of m)) None n q r → Did leads (assign_does flat A E s) None n p r
    did_assign_end e =
        did_then leads stays joins (A s) assigns k m n None p q r d
        (did_end leads stays joins (E (state_of m)) (put_into k) n q r e)

    pub did_assign : (x : ℤ) (o : Store) → Did leads (E (state_of m)) (Some x) n q r →
        changes (flat.put k 1 (Some x)) (state_of n) ≡ told (Some tt) o → Did leads (assign_does flat A E s) (Some tt) o p r
    did_assign x o e put =
        did_then leads stays joins (A s) assigns k m o (Some tt) p q r d
        (did_then leads stays joins (E (state_of m)) (put_into k) x n o (Some tt) q r r e
        (did_told leads stays joins (put_into k x (state_of n)) (Some tt) o r put))

    module _ (a common : IntType) (operator : Operator) where
      abbrev put_updated : ℕ → ℤ → ℤ → Does (Unit {0})
      put_updated k y x s = with_result (operated operator common (converted common x) y) (λ v s. changes (flat.put k 1 (Some (converted a v))) s) s

      abbrev update_from : ℕ → ℤ → Does (Unit {0})
      update_from k y s = with_some Unset (flat.read k s.memory) (put_updated k y) s

      abbrev updating : ℕ → Does (Unit {0})
      updating k s = after (E s) (update_from k)

      pub did_update_end : Did leads (E (state_of m)) None n q r →
          Did leads (update_does flat a operator common A E s) None n p r
      did_update_end e =
          did_then leads stays joins (A s) updating k m n None p q r d
          (did_end leads stays joins (E (state_of m)) (update_from k) n q r e)

      pub did_update : (y : ℤ) (o : Store) (result : Option (Unit {0})) → Did leads (E (state_of m)) (Some y) n q r →
          update_from k y (state_of n) ≡ told result o → Did leads (update_does flat a operator common A E s) result o p r
      did_update y o result e put =
          did_then leads stays joins (A s) updating k m o result p q r d
          (did_then leads stays joins (E (state_of m)) (update_from k) y n o result q r r e
          (did_told leads stays joins (update_from k y (state_of n)) result o r put))

  module _ (A B : Does ℕ) (s : State Flat) (k cells : ℕ) (m n : Store) (p q r : P) (d : Did leads (A s) (Some k) m p q) where
    abbrev copy_into : ℕ → ℕ → Does (Unit {0})
    copy_into k from s = changes (flat.copy from k cells) s

    abbrev copying : ℕ → Does (Unit {0})
    copying k s = after (B s) (copy_into k)

    pub did_copy_end : Did leads (B (state_of m)) None n q r → Did leads (copy_does flat cells A B s) None n p r
    did_copy_end e =
        did_then leads stays joins (A s) copying k m n None p q r d
        (did_end leads stays joins (B (state_of m)) (copy_into k) n q r e)

    pub did_copy : (from : ℕ) (o : Store) → Did leads (B (state_of m)) (Some from) n q r →
        changes (flat.copy from k cells) (state_of n) ≡ told (Some tt) o → Did leads (copy_does flat cells A B s) (Some tt) o p r
    did_copy from o e put =
        did_then leads stays joins (A s) copying k m o (Some tt) p q r d
        (did_then leads stays joins (B (state_of m)) (copy_into k) from n o (Some tt) q r r e
        (did_told leads stays joins (copy_into k from (state_of n)) (Some tt) o r put))

  -- ---- choices

  pub did_choice_true : (E : Does ℤ) (C O : Does (Unit {0})) (s : State Flat) (b : Bool) (result : Option (Unit {0})) (m n : Store) (p q r : P) →
      Did leads (as_does is_true E s) (Some b) m p q → b ≡ true → Did leads (C (state_of m)) result n q r →
      Did leads (choice_does E C O s) result n p r
  did_choice_true E C O s b result m n p q r h e g =
      did_by_truth leads stays joins (E s) (λ x s. where_true (is_true x) C O s) (λ b s. where_true b C O s) (λ x s. refl) result n p r
      (did_then leads stays joins (as_does is_true E s) (λ b s. where_true b C O s) b m n result p q r h
      (subst (λ c. Did leads (where_true c C O (state_of m)) result n q r) (sym e) g))

  pub did_choice_false : (E : Does ℤ) (C O : Does (Unit {0})) (s : State Flat) (b : Bool) (result : Option (Unit {0})) (m n : Store) (p q r : P) →
      Did leads (as_does is_true E s) (Some b) m p q → b ≡ false → Did leads (O (state_of m)) result n q r →
      Did leads (choice_does E C O s) result n p r
  did_choice_false E C O s b result m n p q r h e g =
      did_by_truth leads stays joins (E s) (λ x s. where_true (is_true x) C O s) (λ b s. where_true b C O s) (λ x s. refl) result n p r
      (did_then leads stays joins (as_does is_true E s) (λ b s. where_true b C O s) b m n result p q r h
      (subst (λ c. Did leads (where_true c C O (state_of m)) result n q r) (sym e) g))
