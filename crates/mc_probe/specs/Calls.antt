-- What a call of a function does (C17 6.5.2.2, 6.9.1).
use Rattle.std.specs.Prelude.{ℕ, zero, suc, ◌+◌, List, ◌++◌, length, map, take, replicate, slice_get, Option, None}
use Rattle.mc_value.specs.declared.trap.Trap.TheVariants.{NoReturn}
use Rattle.mc_typed.specs.declared.plans.Ending.TheVariants as ending
use Rattle.mc_typed.specs.Tree.{Object}
use Rattle.mc_typed.specs.Frames.{frame_of}
use Rattle.mc_typed.specs.Levels.{levels_of}
use Rattle.mc_steps.specs.Runs.{stops, spends, with_some}
use Rattle.mc_steps.specs.Statements.{Given, Running}
use Rattle.mc_steps.specs.Calls.{Passed, Target, lent_of, passed_to, leaves, body_does, call_does}
use Rattle.mc_probe.specs.Tree.{Function, Tree}
use Rattle.mc_probe.specs.Erase.{erase_function}
use Rattle.mc_probe.specs.Flat.{Flat, Does, Callee, Activation, flat, hits_some}
use Rattle.mc_probe.specs.Statements.{run_from}

-- the objects of a frame, the parameters first
abbrev pub targets : ℕ → List Object → List (Target ℕ)
targets base objects = map (λ o. record { place = base + o.start; cells = o.cells }) objects

-- The cells of the frame are unset, its registers are 0, and the parameters get the arguments.
abbrev pub entered : Function → List (Passed ℕ) → Flat → Flat
entered f passed m = passed_to flat (targets (length m.cells) f.objects) passed (record {
  cells = m.cells ++ replicate (frame_of (erase_function f)) None;
  registers = m.registers ++ replicate f.registers 0;
})

-- the row and the registers that were there before the call
abbrev pub left : ℕ → ℕ → Flat → Flat
left base first m = record { cells = take base m.cells; registers = take first m.registers }

abbrev pub activation : Callee → ℕ → Function → List (Passed ℕ) → Flat → Activation
activation call bits f passed m = record {
  call = call;
  objects = f.objects;
  base = length m.cells;
  first = length m.registers;
  arrays = lent_of passed;
  bits = bits;
}

-- the body in its activation, from its entry to one of its exits
abbrev pub inside : Activation → Function → Option ℕ → List (Passed ℕ) → Does (Given ℕ)
inside w f into passed =
    body_does (entered f passed) (hits_some w f.entry) (run_from w f.body Running)
    (hits_some w f.exit) (leaves flat into (left w.base w.first))

-- The call of function f, where the open activations have so many levels. Levels and frames are
-- those of the program under the probes. Each activation has a level at least, so no more than 512
-- are open.
abbrev pub calls : Tree → ℕ → ℕ → Callee
calls tree zero levels f into passed s = spends (stops ending.Levels) s
calls tree (suc depth) levels f into passed s =
    with_some NoReturn (slice_get tree.program.functions f) (λ g s.
    let with_this = levels + levels_of (erase_function g) in
    call_does with_this (length s.memory.cells + frame_of (erase_function g))
    (inside (activation (λ f into passed s. calls tree depth with_this f into passed s) tree.bits g
    passed s.memory) g into passed) s) s
