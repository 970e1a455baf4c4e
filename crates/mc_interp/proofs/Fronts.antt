-- An expression statement that runs without a further call, from what its parts did.
use Rattle.std.proofs.Common.{◌≡◌, ℕ, List, [], ◌++◌, sym, ap, subst, ◌∙◌, Option, Some, None}
use Rattle.mc_span.specs.declared.span.Span.{Span}
use Rattle.mc_steps.specs.Runs.{State}
use Rattle.mc_steps.specs.Statements.{Flow, effect_does}
use Rattle.mc_probe.specs.Flat.{Flat, Activation}
use Rattle.mc_probe.specs.Statements.{perform, run}
use Rattle.mc_probe.specs.Tree as tree
use Rattle.mc_interp.specs.declared.prepared.steps.Step.{Step}
use Rattle.mc_interp.specs.declared.prepared.statements.Prepared.{Prepared}
use Rattle.mc_interp.specs.declared.prepared.statements.Prepared.TheVariants as statement
use Rattle.mc_interp.specs.declared.store.Store.{Store}
use Rattle.mc_interp.specs.Views as prepared
use Rattle.mc_interp.specs.Stores.{state_of, Did}
use Rattle.mc_interp.specs.Bodies.{act_of, counted_bit, counts_of}
use Rattle.mc_interp.proofs.BodyShapes.{view_effect}
use Rattle.mc_interp.proofs.Bodies.{did_statement, did_statement_end}

module _ {P : Type 0} (leads : List ℕ → P → P → Type 0) (stays : (p : P) → leads [] p p)
    (joins : (xs ys : List ℕ) (p q r : P) → leads xs p q → leads ys q r → leads (xs ++ ys) p r)
    (w : Activation) (u : Prepared) {step : Step} {span : Span} {bit : Option ℕ} (is : u ≡ statement.Effect step span bit) (s : State Flat) where
  is_effect : prepared.statement_of u ≡ tree.EffectStatement (prepared.effect_of step) span bit
  is_effect = ap prepared.statement_of is ∙ view_effect step span bit

  counted : (result : Option (Unit {0})) (m : Store) (p q : P) → Did leads (counts_of w (Some bit) s) result m p q →
      Did leads (counts_of w (counted_bit (prepared.statement_of u)) s) result m p q
  counted result m p q h = subst (λ (x : tree.Statement). Did leads (counts_of w (counted_bit x) s) result m p q) (sym is_effect) h

  pub did_effect_end : (m : Store) (p q : P) → Did leads (counts_of w (Some bit) s) None m p q →
      Did leads (run w (prepared.statement_of u) s) None m p q
  did_effect_end m p q h = did_statement_end leads stays joins w (prepared.statement_of u) s m p q (counted None m p q h)

  pub did_effect : (m n : Store) (result : Option (Flow ℕ)) (p q r : P) → Did leads (counts_of w (Some bit) s) (Some tt) m p q →
      Did leads (effect_does (perform w (prepared.effect_of step)) (state_of m)) result n q r →
      Did leads (run w (prepared.statement_of u) s) result n p r
  did_effect m n result p q r h k =
      did_statement leads stays joins w (prepared.statement_of u) s m n result p q r (counted (Some tt) m p q h)
      (subst (λ (x : tree.Statement). Did leads (act_of w x (state_of m)) result n q r) (sym is_effect) k)
