-- How a switch and a body end.
use Rattle.std.proofs.Common.{◌≡◌, ℕ, true, false, List, [], ◌++◌, sym, subst, Option, Some, None}
use Rattle.std.proofs.lemmas.Bool.{false≢true}
use Rattle.mc_typed.specs.Sound.{Scope}
use Rattle.mc_steps.specs.Runs.{State, after, gives}
use Rattle.mc_steps.specs.Statements.{Flow, Completed, Given, where_switch_ends}
use Rattle.mc_steps.specs.Statements as steps
use Rattle.mc_steps.specs.Calls.{leaves, where_left}
use Rattle.mc_probe.specs.Calls.{left}
use Rattle.mc_probe.specs.Flat.{Flat, Does, Activation, flat, hits_some}
use Rattle.mc_probe.specs.Statements.{run_from}
use Rattle.mc_probe.specs.Tree as p
use Rattle.interp_steps.specs.declared.ends.Flow as code_flow
use Rattle.interp_steps.specs.declared.ends.Flow.TheVariants as ends
use Rattle.mc_interp.specs.declared.store.Store.{Store}
use Rattle.mc_interp.specs.declared.values.Given as code_given
use Rattle.mc_interp.specs.Entries.{inside_of}
use Rattle.mc_interp.specs.Bodies.{ends_switch, flow_of, has_left, IsGivenFor, IsReturned}
use Rattle.mc_interp.specs.Stores.{given_of, state_of, told, Did}
use Rattle.mc_interp.proofs.Runs.{did_told, did_gives, did_then, did_end}

module _ {P : Type 0} (leads : List ℕ → P → P → Type 0) (stays : (p : P) → leads [] p p)
    (joins : (xs ys : List ℕ) (p q r : P) → leads xs p q → leads ys q r → leads (xs ++ ys) p r) where
  module _ (mark : Does (Unit {0})) (m n : Store) (p q : P) where
    pub did_switch_ends : (f : code_flow.Flow) → ends_switch f ≡ true → Did leads (mark (state_of m)) (Some tt) n p q →
        Did leads (where_switch_ends (flow_of f m) mark (state_of m)) (Some Completed) n p q
    did_switch_ends ends.Completed e h =
        did_then leads stays joins (mark (state_of m)) (λ _ s. gives Completed s) tt n n (Some Completed) p q q h (did_gives leads stays joins Completed n q)
    did_switch_ends ends.Broke e h =
        did_then leads stays joins (mark (state_of m)) (λ _ s. gives Completed s) tt n n (Some Completed) p q q h (did_gives leads stays joins Completed n q)
    did_switch_ends ends.Continued e h = absurd (false≢true e)
    did_switch_ends ends.Left e h = absurd (false≢true e)

    -- a body that completes gives nothing
    given_nothing : (o : Store) → state_of o ≡ state_of n → Did leads (gives {E = ℕ} {A = Given ℕ} steps.Nothing (state_of n)) (Some steps.Nothing) o q q
    given_nothing o k =
        subst (λ (s : State Flat). Did leads (gives {E = ℕ} {A = Given ℕ} steps.Nothing s) (Some steps.Nothing) o q q) k
        (did_gives leads stays joins steps.Nothing o q)

    closes : (o : Store) → Did leads (mark (state_of m)) (Some tt) n p q → state_of o ≡ state_of n →
        Did leads (after (mark (state_of m)) (λ _ s. gives {E = ℕ} {A = Given ℕ} steps.Nothing s)) (Some steps.Nothing) o p q
    closes o h k =
        did_then leads stays joins (mark (state_of m)) (λ _ s. gives {E = ℕ} {A = Given ℕ} steps.Nothing s) tt n o (Some steps.Nothing) p q q h (given_nothing o k)

    pub did_close : (f : code_flow.Flow) (o : Store) → has_left f ≡ false → Did leads (mark (state_of m)) (Some tt) n p q → state_of o ≡ state_of n →
        Did leads (where_left (flow_of f m) mark (state_of m)) (Some steps.Nothing) o p q
    did_close ends.Completed o e h k = closes o h k
    did_close ends.Broke o e h k = closes o h k
    did_close ends.Continued o e h k = closes o h k
    did_close ends.Left o e h k = absurd (false≢true (sym e))

  pub did_switch_over : (mark : Does (Unit {0})) (m : Store) (p : P) (f : code_flow.Flow) → ends_switch f ≡ false →
      Did leads (where_switch_ends (flow_of f m) mark (state_of m)) (Some (flow_of f m)) m p p
  did_switch_over mark m p ends.Completed e = absurd (false≢true (sym e))
  did_switch_over mark m p ends.Broke e = absurd (false≢true (sym e))
  did_switch_over mark m p ends.Continued e = did_gives leads stays joins steps.Continued m p
  did_switch_over mark m p ends.Left e = did_gives leads stays joins (steps.Left (given_of m.given)) m p

  pub did_left : (closing : Does (Unit {0})) (m : Store) (p : P) (f : code_flow.Flow) → has_left f ≡ true →
      Did leads (where_left (flow_of f m) closing (state_of m)) (Some (given_of m.given)) m p p
  did_left closing m p ends.Completed e = absurd (false≢true e)
  did_left closing m p ends.Broke e = absurd (false≢true e)
  did_left closing m p ends.Continued e = absurd (false≢true e)
  did_left closing m p ends.Left e = did_gives leads stays joins (given_of m.given) m p

  -- a body after its entry
  module _ (w : Activation) (f : p.Function) (into : Option ℕ) (s : State Flat) where
    abbrev leaving : Flow ℕ → Does (Given ℕ)
    leaving flow s = after (where_left flow (hits_some w f.exit) s) (leaves flat into (left w.base w.first))

    pub did_inside_end : (n : Store) (q r : P) → Did leads (run_from w f.body steps.Running s) None n q r →
        Did leads (inside_of w f into s) None n q r
    did_inside_end n q r g = did_end leads stays joins (run_from w f.body steps.Running s) leaving n q r g

    pub did_inside : (n k o : Store) (flow : Flow ℕ) (v u : Given ℕ) (q r t : P) →
        Did leads (run_from w f.body steps.Running s) (Some flow) n q r →
        Did leads (where_left flow (hits_some w f.exit) (state_of n)) (Some v) k r t →
        leaves flat into (left w.base w.first) v (state_of k) ≡ told (Some u) o → Did leads (inside_of w f into s) (Some u) o q t
    did_inside n k o flow v u q r t g d e =
        did_then leads stays joins (run_from w f.body steps.Running s) leaving flow n o (Some u) q r t g
        (did_then leads stays joins (where_left flow (hits_some w f.exit) (state_of n)) (leaves flat into (left w.base w.first)) v k o (Some u) r t t d
        (did_told leads stays joins (leaves flat into (left w.base w.first) v (state_of k)) (Some u) o t e))

-- ---- what is given

pub left_typed : (c : Scope) (w : Activation) (f : code_flow.Flow) (v : code_given.Given) → has_left f ≡ true → IsReturned c w f v → IsGivenFor c w c.result v
left_typed c w ends.Completed v e h = absurd (false≢true e)
left_typed c w ends.Broke v e h = absurd (false≢true e)
left_typed c w ends.Continued v e h = absurd (false≢true e)
left_typed c w ends.Left v e h = h
