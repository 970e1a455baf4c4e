-- The entry of a call, and the exit of a `return`.
use Rattle.std.proofs.Common.{◌≡◌, ℕ, Bool, true, false, List, [], ◌++◌, Option, Some, None, refl, subst}
use Rattle.mc_steps.specs.Runs.{State}
use Rattle.mc_steps.specs.Statements.{Given, Left}
use Rattle.interp_steps.specs.Hits.{hits_after, hits_of_some}
use Rattle.mc_probe.specs.Flat.{Flat, Does, Activation, hits_some}
use Rattle.mc_probe.specs.Statements.{exit_does}
use Rattle.mc_probe.specs.Tree as tree
use Rattle.mc_interp.specs.declared.store.Store.{Store}
use Rattle.mc_interp.specs.Bodies.{body_of}
use Rattle.mc_interp.specs.Entries.{inside_of}
use Rattle.mc_interp.specs.Stores.{state_of, Did}
use Rattle.mc_interp.proofs.Runs.{did_then, did_no_more}
use Rattle.mc_interp.proofs.Spent.{did_exit, did_exit_end}

-- nothing is hit after what did not come out
pub none_hit : {P : Type 0} (leads : List ℕ → P → P → Type 0) (came : Bool) (bits : ℕ) (bit : Option ℕ) (p q : P) → came ≡ false →
    leads (hits_after came bits bit) p q → leads [] p q
none_hit leads came bits bit p q e k = subst (λ (b : Bool). leads (hits_after b bits bit) p q) e k

module _ {P : Type 0} (leads : List ℕ → P → P → Type 0) (stays : (p : P) → leads [] p p)
    (joins : (xs ys : List ℕ) (p q r : P) → leads xs p q → leads ys q r → leads (xs ++ ys) p r) (w : Activation) where
  hits_did : (bit : Option ℕ) (m : Store) (q r : P) → leads (hits_of_some w.bits bit) q r →
      Did leads (hits_some w bit (state_of m)) (Some tt) m q r
  hits_did None m q r h = record { ran = refl; led = h }
  hits_did (Some b) m q r h = record { ran = refl; led = h }

  module _ (came : Bool) (bit : Option ℕ) (act : Does (Given ℕ)) (s : State Flat) (m : Store) (p q r : P)
      (k : leads (hits_after came w.bits bit) q r) where
    -- the value came out
    pub did_exit_after : (v : Given ℕ) → came ≡ true → Did leads (act s) (Some v) m p q →
        Did leads (exit_does w bit act s) (Some (Left v)) m p r
    did_exit_after v e h =
        did_exit leads stays joins w bit act s v m p q r h
        (hits_did bit m q r (subst (λ (b : Bool). leads (hits_after b w.bits bit) q r) e k))

    -- the run stopped in it
    pub did_exit_stopped : came ≡ false → Did leads (act s) None m p q → Did leads (exit_does w bit act s) None m p r
    did_exit_stopped e h =
        did_no_more leads stays joins (exit_does w bit act s) None m p q r (did_exit_end leads stays joins w bit act s m p q h)
        (subst (λ (b : Bool). leads (hits_after b w.bits bit) q r) e k)

  module _ (came : Bool) (bits : ℕ) (bit : Option ℕ) (p q : P) (k : leads (hits_after came bits bit) p q) where
    -- the call began
    pub did_entered : (f : tree.Function) (into : Option ℕ) (m n : Store) (result : Option (Given ℕ)) (r : P) → came ≡ true → bits ≡ w.bits →
        bit ≡ f.entry → Did leads (inside_of w f into (state_of m)) result n q r → Did leads (body_of w f into (state_of m)) result n p r
    did_entered f into m n result r e i j h =
        let a : leads (hits_of_some bits bit) p q = subst (λ (b : Bool). leads (hits_after b bits bit) p q) e k in
        let b : leads (hits_of_some w.bits bit) p q = subst (λ (n : ℕ). leads (hits_of_some n bit) p q) i a in
        let c : leads (hits_of_some w.bits f.entry) p q = subst (λ (b : Option ℕ). leads (hits_of_some w.bits b) p q) j b in
        did_then leads stays joins (hits_some w f.entry (state_of m)) (λ _ s. inside_of w f into s) tt m n result p q r
        (hits_did f.entry m p q c) h
