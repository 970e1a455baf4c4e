-- What a probe does, from what its operand does.
use Rattle.std.specs.Prelude.{ℕ, ◌+◌, ◌==◌, ℤ, Bool, true, false, if◌then◌else◌, Option, Some, None}
use Rattle.mc_value.specs.Arithmetic.{truth}
use Rattle.mc_typed.specs.declared.probes.Probe as code
use Rattle.mc_typed.specs.declared.probes.Probe.TheVariants as probe
use Rattle.mc_typed.specs.declared.probes.Mark.{Mark}
use Rattle.mc_steps.specs.Runs.{gives, ◌>>=◌}
use Rattle.mc_steps.specs.Expressions.{is_true}
use Rattle.mc_probe.specs.Flat.{Does, Activation, register, wrapped_sum, hits, sets, adds}

module _ (w : Activation) where
  -- the register begins at 0; its sum tells the path
  abbrev pub decision_does : ℕ → ℕ → Does ℤ → Does ℤ
  decision_does r base e = do
    _ ← sets w r 0
    x ← e
    _ ← λ s. hits w (wrapped_sum base (register (w.first + r) s.memory)) s
    gives (truth (is_true x))

  -- true where the operand differs from 0 in its own type
  abbrev pub condition_does : ℕ → ℕ → ℕ → Does ℤ → Does ℤ
  condition_does r on_true on_false e = do
    x ← e
    _ ← adds w r (if is_true x then on_true else on_false)
    gives (truth (is_true x))

  abbrev pub switch_probe_does : ℕ → Does ℤ → Does ℤ
  switch_probe_does r e = do
    x ← e
    _ ← sets w r 1
    gives x

  abbrev pub probe_does : code.Probe → Does ℤ → Does ℤ
  probe_does (probe.Decision r base) e s = decision_does r base e s
  probe_does (probe.Condition r on_true on_false) e s = condition_does r on_true on_false e s
  probe_does (probe.Switch r) e s = switch_probe_does r e s

  -- a label whose register is not 0 is the one that the switch chose
  abbrev pub unless_cleared : Bool → Mark → Does (Unit {0})
  unless_cleared true mark s = gives tt s
  unless_cleared false mark s = (hits w mark.bit >>= λ _. sets w mark.register 0) s

  abbrev pub mark_does : Option Mark → Bool → Does (Unit {0})
  mark_does None chosen s = gives tt s
  mark_does (Some mark) chosen s =
      unless_cleared (register (w.first + mark.register) s.memory == 0) mark s
