-- What is still to come of a loop of the code.
use Rattle.std.proofs.Common.{◌≡◌, ℕ, suc, ◌≤◌, Bool, List, map, Option}
use Rattle.mc_steps.specs.Statements.{Flow, loop_does, turns}
use Rattle.mc_probe.specs.Erase.{erase_statements}
use Rattle.mc_probe.specs.Flat.{Does, Runs}
use Rattle.mc_probe.specs.Statements.{run_from}
use Rattle.mc_probe.specs.Views as view
use Rattle.mc_probe.specs.WellFormed.{FitStatements}
use Rattle.mc_interp.specs.declared.flow.Seek as code_seek
use Rattle.mc_interp.specs.declared.prepared.statements.Prepared.{Prepared}
use Rattle.mc_interp.specs.declared.store.Store.{Store}
use Rattle.mc_interp.specs.declared.frame.Frame.{Frame}
use Rattle.mc_interp.specs.Views as prepared
use Rattle.mc_interp.specs.Stores.{limits_of, state_of, Did}
use Rattle.mc_interp.specs.Frames.{activation_of, scope_in, IsReady, IsKept}
use Rattle.mc_interp.specs.Bodies.{seek_of, AreAnyStatements}

-- What is still to come of a loop: whatever it does from here, the whole does from its start.
pub record IsTurning {P : Type 0} (bits : P → ℕ) (leads : List ℕ → P → P → Type 0) (f : Frame) (T : Does Bool) (B : Runs) (S : Does (Unit {0}))
    (old m : Store) (o q : P) : Type 0 where
  pub ready : IsReady f m (bits q)
  pub kept : IsKept (scope_in f) (activation_of f) old m
  pub bits_same : bits q ≡ bits o
  pub limits_same : limits_of m ≡ limits_of old
  pub units : ℕ
  pub enough : m.fuel ≤ units
  pub rest : (result : Option (Flow ℕ)) (new : Store) (r : P) → Did leads (turns (suc units) T B S (state_of m)) result new q r →
      Did leads (loop_does T B S (state_of old)) result new o r

-- What is still to come of the items of a body.
pub record AreRunning {P : Type 0} (bits : P → ℕ) (leads : List ℕ → P → P → Type 0) (f : Frame) (all later : List Prepared)
    (first now : code_seek.Seek) (old m : Store) (o q : P) : Type 0 where
  pub ready : IsReady f m (bits q)
  pub kept : IsKept (scope_in f) (activation_of f) old m
  pub bits_same : bits q ≡ bits o
  pub limits_same : limits_of m ≡ limits_of old
  pub sound : AreAnyStatements (erase_statements (view.statements_from (map prepared.statement_of later))) (scope_in f)
  pub fits : FitStatements f.function.now.registers (view.statements_from (map prepared.statement_of later))
  pub rest : (result : Option (Flow ℕ)) (new : Store) (r : P) →
      Did leads (run_from (activation_of f) (view.statements_from (map prepared.statement_of later)) (seek_of now) (state_of m)) result new q r →
      Did leads (run_from (activation_of f) (view.statements_from (map prepared.statement_of all)) (seek_of first) (state_of old)) result new o r
