-- A flap controller of 25 lines, and a test of six cycles.
use Rattle.std.specs.Prelude.{◌≡◌, ℕ, ◌+◌, ℤ, pos, true, false, List, [], ◌∷◌, ◌++◌, Option, Some, None}
use Rattle.mc_value.specs.declared.int_type.IntType.TheVariants.{Int, Bool}
use Rattle.mc_value.specs.declared.operators.BinOp.TheVariants.{Lt, Gt}
use Rattle.mc_typed.specs.declared.plans.Ending.TheVariants as ending
use Rattle.mc_typed.specs.declared.plans.TestState.TheVariants.{Pass}
use Rattle.mc_typed.specs.Layout.{ObjectType, Scalar, Structure, no_members, members}
use Rattle.mc_typed.specs.Tree.{Place, Function, Program}
use Rattle.mc_typed.specs.Tree as t
use Rattle.mc_typed.specs.Plans.{Call, Plan}
use Rattle.mc_steps.specs.Events.{Event, Entered, Exited, Started, Chosen}
use Rattle.mc_meaning.specs.Tests.{plain_state}
use Rattle.tests_meaning.specs.Words.{here, local, static, object, int, read, var, num, two, conj, disj, member, called, does, set, add, take, gives, when, plain, with_number, declares, select, case, default, function, ints}
use Rattle.tests_meaning.specs.Seen.{Row, evaluated, T, F}

-- typedef struct { int speed; _Bool ground; } Air;
abbrev pub air : ObjectType
air = Structure 0 (members (Scalar Int) (members (Scalar Bool) no_members))

-- static int target(Lever lever) { switch (lever) { case UP: return 0; case TAKEOFF: return 15;
-- case LANDING: return 30; default: return 0; } }
abbrev pub target : Function
target = function (ints 1) (t.NumberResult Int) (int ∷ [])
    (select (var 0) (case 0 ∷ gives (num 0) ∷ case 1 ∷ gives (num 15) ∷ case 2 ∷ gives (num 30)
    ∷ default ∷ gives (num 0) ∷ []) ∷ [])

-- static int angle;
abbrev pub angle : Place
angle = static 0

abbrev pub ground : Place
ground = member (local 1) 1

-- int cycle(int lever) { Air air; air.speed = mcdc_in(); air.ground = mcdc_in();
-- int want = target(lever);
-- if (want > 15 && (air.speed > 160 || air.ground)) want = 15;
-- if (angle < want) angle += 5; else if (angle > want) angle -= 5;
-- mcdc_out(angle); return angle; }
abbrev pub cycle : Function
cycle = function (ints 1) (t.NumberResult Int) (int ∷ object air ∷ int ∷ [])
    (declares (plain 1 2 ∷ [])
    ∷ does (set (member (local 1) 0) (t.Input here))
    ∷ does (t.Assign ground Bool (t.Convert Bool false (t.Input here) here) here)
    ∷ declares (with_number 2 (called 0 (var 0 ∷ [])) ∷ [])
    ∷ when (conj (two Gt (var 2) (num 15))
    (disj (two Gt (read (member (local 1) 0)) (num 160)) (t.Read ground Bool)))
    (does (set (local 2) (num 15)))
    ∷ t.IfElse (two Lt (read angle) (var 2)) (does (add angle (num 5)))
    (when (two Gt (read angle) (var 2)) (does (take angle (num 5)))) here here
    ∷ does (t.Output (read angle) here)
    ∷ gives (read angle) ∷ [])

abbrev pub flap : Program
flap = record {
  functions = target ∷ cycle ∷ [];
  statics = record { object = int; initial = pos 0 ∷ [] } ∷ [];
  structures = air ∷ [];
}

-- a cycle with the lever at this position, which has to give and to put out this angle
abbrev pub turn : ℕ → ℕ → Call
turn lever to = record {
  function = 1;
  arguments = pos lever ∷ [];
  expect = Some (pos to);
  output = Some (pos to ∷ []);
}

abbrev pub flight : Plan
flight = record {
  name = [];
  calls = turn 2 5 ∷ turn 2 10 ∷ turn 2 15 ∷ turn 1 15 ∷ turn 0 10 ∷ turn 0 5 ∷ [];
  inputs = pos 100 ∷ pos 0 ∷ pos 200 ∷ pos 0 ∷ pos 100 ∷ pos 1 ∷ pos 120 ∷ pos 0 ∷ pos 150
      ∷ pos 0 ∷ pos 150 ∷ pos 0 ∷ [];
  fuel = 1000000;
}

-- a cycle up to its first decision, where `target` chooses this label and leaves by this exit with
-- this statement
abbrev pub wanted : ℕ → List Event
wanted label =
    Entered 1 ∷ Started 5 ∷ Started 6 ∷ Started 7 ∷ Entered 0 ∷ Started 0 ∷ Chosen label
    ∷ Started (1 + label) ∷ Exited label ∷ Started 8 ∷ []

-- the end of a cycle
abbrev pub done : List Event
done = Started 14 ∷ Started 15 ∷ Exited 4 ∷ []

abbrev pub happened : List Event
happened =
    wanted 2 ++ evaluated 0 (T ∷ F ∷ F ∷ []) false
    ∷ Started 10 ∷ evaluated 1 (T ∷ []) true ∷ Started 11 ∷ done
    ++ wanted 2 ++ evaluated 0 (T ∷ T ∷ None ∷ []) true ∷ Started 9
    ∷ Started 10 ∷ evaluated 1 (T ∷ []) true ∷ Started 11 ∷ done
    ++ wanted 2 ++ evaluated 0 (T ∷ F ∷ T ∷ []) true ∷ Started 9
    ∷ Started 10 ∷ evaluated 1 (T ∷ []) true ∷ Started 11 ∷ done
    ++ wanted 1 ++ evaluated 0 (F ∷ None ∷ None ∷ []) false
    ∷ Started 10 ∷ evaluated 1 (F ∷ []) false ∷ Started 12 ∷ evaluated 2 (F ∷ []) false ∷ done
    ++ wanted 0 ++ evaluated 0 (F ∷ None ∷ None ∷ []) false
    ∷ Started 10 ∷ evaluated 1 (F ∷ []) false ∷ Started 12 ∷ evaluated 2 (T ∷ []) true
    ∷ Started 13 ∷ done
    ++ wanted 0 ++ evaluated 0 (F ∷ None ∷ None ∷ []) false
    ∷ Started 10 ∷ evaluated 1 (F ∷ []) false ∷ Started 12 ∷ evaluated 2 (T ∷ []) true
    ∷ Started 13 ∷ done

abbrev pub values : List (Option ℤ)
values =
    Some (pos 5) ∷ Some (pos 10) ∷ Some (pos 15) ∷ Some (pos 15) ∷ Some (pos 10) ∷ Some (pos 5) ∷ []

abbrev pub row : Row
row = record {
  program = flap;
  plan = flight;
  seen = record {
    ending = ending.Returned;
    values = values;
    output = pos 5 ∷ pos 10 ∷ pos 15 ∷ pos 15 ∷ pos 10 ∷ pos 5 ∷ [];
    fuel = 999906;
    events = happened;
  };
}

abbrev pub Passes : Type 0
Passes = plain_state flap flight ≡ Pass
