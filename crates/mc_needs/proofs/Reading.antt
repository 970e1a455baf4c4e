-- Cases of the walk over obligations.
use Rattle.std.proofs.Common.{◌≡◌, ◌++◌, Bool, true, false, List, refl, sym, ap, ◌∙◌, append_assoc}
use Rattle.std.specs.Prelude.{Result, Ok, Err, IfOk}
use Rattle.mc_oblige.specs.declared.obligation.ObligationId.{ObligationId}
use Rattle.mc_oblige.specs.declared.obligation.ObligationId.TheVariants.{Entry, Exit, Statement, Label, Outcome, Condition}
use Rattle.mc_needs.specs.Asked.{if_condition, if_outcome}
use Rattle.mc_needs.specs.steps.Ids.{condition_if, outcome_if}

condition_front : (is : Bool) (id : ObligationId) (ids : List ObligationId) → if_condition is id ids ≡ condition_if is id ++ ids
condition_front false id ids = refl
condition_front true (Entry n) ids = refl
condition_front true (Exit n) ids = refl
condition_front true (Statement n) ids = refl
condition_front true (Label n) ids = refl
condition_front true (Outcome d o) ids = refl
condition_front true (Condition d k) ids = refl

outcome_front : (is : Bool) (id : ObligationId) (ids : List ObligationId) → if_outcome is id ids ≡ outcome_if is id ++ ids
outcome_front false id ids = refl
outcome_front true (Entry n) ids = refl
outcome_front true (Exit n) ids = refl
outcome_front true (Statement n) ids = refl
outcome_front true (Label n) ids = refl
outcome_front true (Outcome d o) ids = refl
outcome_front true (Condition d k) ids = refl

-- ---- the code's own steps

pub condition_step : (is : Bool) (id : ObligationId) (ids after rest : List ObligationId) → after ≡ ids ++ condition_if is id → after ++ rest ≡ ids ++ if_condition is id rest
condition_step is id ids after rest e =
    ap (λ (xs : List ObligationId). xs ++ rest) e ∙ append_assoc ids (condition_if is id) rest ∙ ap (λ (xs : List ObligationId). ids ++ xs) (sym (condition_front is id rest))

pub outcome_step : (is : Bool) (id : ObligationId) (ids after rest : List ObligationId) → after ≡ ids ++ outcome_if is id → after ++ rest ≡ ids ++ if_outcome is id rest
outcome_step is id ids after rest e =
    ap (λ (xs : List ObligationId). xs ++ rest) e ∙ append_assoc ids (outcome_if is id) rest ∙ ap (λ (xs : List ObligationId). ids ++ xs) (sym (outcome_front is id rest))

-- ---- a result that is handed on

pub if_ok : {A E : Type 0} {P Q : A → Type 0} → (r : Result A E) → ((x : A) → P x → Q x) → IfOk r P → IfOk r Q
if_ok (Ok x) f h = f x h
if_ok (Err e) f h = h
