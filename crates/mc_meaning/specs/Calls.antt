-- What a call of a function does (C17 6.5.2.2, 6.9.1).
use Rattle.std.specs.Prelude.{ℕ, zero, suc, ◌+◌, List, [], ◌∷◌, slice_get, Option, None}
use Rattle.mc_value.specs.declared.trap.Trap.TheVariants.{NoReturn}
use Rattle.mc_typed.specs.declared.plans.Ending.TheVariants.{Levels}
use Rattle.mc_typed.specs.Tree.{Object, Function, Program}
use Rattle.mc_typed.specs.Levels.{levels_of}
use Rattle.mc_typed.specs.Frames.{frame_of}
use Rattle.decide_rules.specs.Counts.{roots_before}
use Rattle.mc_steps.specs.Runs.{stops, spends, lists, with_some}
use Rattle.mc_steps.specs.Events.{Entered, Exited}
use Rattle.mc_steps.specs.Statements.{Given, Running}
use Rattle.mc_steps.specs.Calls.{Passed, Target, lent_of, passed_to, leaves, call_does, body_does}
use Rattle.mc_steps.specs.Points.{points_before}
use Rattle.mc_meaning.specs.Stores.{Path, Store, put, on_places}
use Rattle.mc_meaning.specs.Within.{Does}
use Rattle.mc_meaning.specs.Positions.{points_at_end}
use Rattle.mc_meaning.specs.Statements.{run_from}

-- the open activations: how many, their levels, and their cells with the static ones
pub record Open : Type 0 where
  pub count : ℕ
  pub levels : ℕ
  pub cells : ℕ

-- and one more, of this function
abbrev pub with_one : Function → Open → Open
with_one g open_now = record {
  count = suc open_now.count;
  levels = open_now.levels + levels_of g;
  cells = open_now.cells + frame_of g;
}

-- the objects of an activation, from one on
abbrev pub objects_from : ℕ → ℕ → List Object → List (Target Path)
objects_from activation k [] = []
objects_from activation k (o ∷ os) =
    record { place = activation ∷ k ∷ []; cells = 0 } ∷ objects_from activation (suc k) os

-- The objects of a new activation are unset, but for the parameters (C17 6.2.4p6, 6.9.1p10).
abbrev pub enter : ℕ → Function → List (Passed Path) → Store → Store
enter activation g passed m =
    passed_to on_places (objects_from activation 0 g.objects) passed
    (put (activation ∷ []) None m)

-- A call of function f of the program. Each activation has a level at least, so no more than 512
-- are open.
abbrev pub call_in : Program → ℕ → Open → ℕ → Option Path → List (Passed Path) → Does (Given Path)
call_in p zero around f into passed = spends (stops Levels)
call_in p (suc depth) around f into passed =
    with_some NoReturn (slice_get p.functions f) (λ g.
    let inside = with_one g around in
    let before = points_before p.functions f in
    call_does inside.levels inside.cells
    (body_does (enter inside.count g passed) (lists (Entered f ∷ []))
    (run_from g.body Running (record {
      activation = inside.count;
      arrays = lent_of passed;
      call = call_in p depth inside;
      points = before;
      decisions = roots_before p.functions f;
    }))
    (lists (Exited (points_at_end g before).exits ∷ []))
    (leaves on_places into (λ m. m))))
