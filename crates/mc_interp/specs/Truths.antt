-- Expressions that give a truth value, 1 or 0, by their form; the end of a decision.
use Rattle.std.specs.Prelude.{ℕ, ◌+◌, Bool, true, false, Option, Some, None}
use Rattle.mc_typed.specs.declared.probes.Probe as code
use Rattle.mc_typed.specs.declared.probes.Probe.TheVariants as probe
use Rattle.mc_steps.specs.Runs.{gives}
use Rattle.mc_probe.specs.Flat.{Activation, Does, hits, register, wrapped_sum}
use Rattle.mc_probe.specs.Tree.{Expression}
use Rattle.mc_probe.specs.Tree as probed

abbrev pub tells_truth : code.Probe → Bool
tells_truth (probe.Decision register base) = true
tells_truth (probe.Condition register on_true on_false) = true
tells_truth (probe.Switch register) = false

abbrev pub is_logical : Expression → Bool
is_logical (probed.Constant v a span) = false
is_logical (probed.Read place a) = false
is_logical (probed.Unary operator a e span) = false
is_logical (probed.Convert a written e span) = false
is_logical (probed.Not e span) = true
is_logical (probed.Binary operator a e f span) = false
is_logical (probed.Logic operator e f span) = true
is_logical (probed.Choice e f g a span) = false
is_logical (probed.Call k a) = false
is_logical (probed.Input span) = false
is_logical (probed.Probe q e) = tells_truth q

-- where a decision came out the bit of its path is hit
abbrev pub path_does : Activation → ℕ → ℕ → Option Bool → Does (Unit {0})
path_does w r base None s = gives tt s
path_does w r base (Some b) s = hits w (wrapped_sum base (register (w.first + r) s.memory)) s
