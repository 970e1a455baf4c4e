-- How runs end, and what is expected of their calls: functions that fall off their end, labels that
-- are absent, limits, and the outputs of a test.
use Rattle.std.specs.Prelude.{◌≡◌, ℕ, ℤ, pos, negsuc, true, false, List, [], ◌∷◌, ◌++◌, map, replicate, Option, Some, None}
use Rattle.mc_value.specs.declared.trap.Trap.TheVariants as trap
use Rattle.mc_value.specs.declared.int_type.IntType.TheVariants.{Int}
use Rattle.mc_value.specs.declared.operators.BinOp.TheVariants.{Add, Div}
use Rattle.mc_typed.specs.declared.plans.Ending.TheVariants as ending
use Rattle.mc_typed.specs.declared.plans.TestState.{TestState}
use Rattle.mc_typed.specs.declared.plans.TestState.TheVariants.{Pass, Fail, Ended}
use Rattle.mc_typed.specs.Layout.{Scalar, Array}
use Rattle.mc_typed.specs.Tree.{Expression, Effect, FunctionCall, Function, Object, Program, Statement, StaticObject}
use Rattle.mc_typed.specs.Tree as typed
use Rattle.mc_typed.specs.Plans.{Call, Plan}
use Rattle.mc_steps.specs.Runs.{State, stops}
use Rattle.mc_steps.specs.Runs as runs
use Rattle.mc_steps.specs.Expressions.{output_does}
use Rattle.mc_steps.specs.Events.{Event, Entered, Exited, Started, Chosen}
use Rattle.mc_meaning.specs.Tests.{plain_state}
use Rattle.tests_meaning.specs.Words.{here, slot, local, object, int, read, var, num, two, member, args, call, nums, does, set, add, gives, when, while, plain, declares, function, of_ints, ints, program, block, select, case, default, stop}
use Rattle.tests_meaning.specs.RulesOfValues.{pair, with_pairs}
use Rattle.tests_meaning.specs.Seen.{Row, calls, one_call, gave, stopped, trapped, evaluated, T, F}

-- ---- functions that fall off their end (C17 6.9.1p12)

-- struct S g(int n){struct S s={1,2};if(n)return s;}
abbrev pub g : Function
g = function (ints 1) (typed.StructureResult pair) (int ∷ object pair ∷ [])
    (declares (record {
      slot = slot 1;
      cells = 2;
      value = Some (typed.ListInitializer (typed.initializers (typed.NumberInitializer (num 1))
          (typed.initializers (typed.NumberInitializer (num 2)) typed.no_initializers)) 2);
    } ∷ [])
    ∷ when (var 0) (typed.Return (typed.ReturnStructure (typed.Stored (local 1)) 2) here) ∷ [])

-- g(n), whose structure the object with number 1 takes
abbrev pub g_of : ℕ → FunctionCall
g_of n = typed.call 0 (args (nums (num n ∷ []))) (Some (slot 1)) here

-- int h(struct S p){return p.b;} and f as it is given, with two structures
abbrev pub with_g : List Statement → Program
with_g statements = with_pairs (g
    ∷ function (typed.StructureParameter pair ∷ []) (typed.NumberResult Int) (object pair ∷ [])
    (gives (read (member (local 0) 1)) ∷ [])
    ∷ function [] (typed.NumberResult Int) (object pair ∷ object pair ∷ object pair ∷ []) statements
    ∷ [])

-- the whole effect of a call of g, or one under `?:`
abbrev pub drops : ℕ → Effect
drops n = typed.StructureEffect (typed.Returned (g_of n)) true

abbrev pub uses : ℕ → Effect
uses n = typed.Discard (typed.StructureEffect (typed.Returned (g_of n)) false) here

-- int f(void){struct S t;t=g(n);return t.b;}
abbrev pub copied : ℕ → Program
copied n = with_g (declares (plain 0 2 ∷ [])
    ∷ does (typed.Copy (local 0) (typed.Returned (g_of n)) 2 here) ∷ gives (read (member (local 0) 1)) ∷ [])

-- int f(void){return h(g(n));}
abbrev pub given : ℕ → Program
given n = with_g (gives (typed.Call (call 1
    (typed.StructureArgument (typed.Returned (g_of n)) (slot 2) ∷ [])) Int) ∷ [])

-- int f(void){struct S t=g(n);return t.b;}
abbrev pub initial : ℕ → Program
initial n = with_g (declares (record {
  slot = slot 0;
  cells = 2;
  value = Some (typed.StructureInitializer (typed.Returned (g_of n)) 2);
} ∷ []) ∷ gives (read (member (local 0) 1)) ∷ [])

abbrev pub then_7 : Effect → Program
then_7 e = with_g (does e ∷ gives (num 7) ∷ [])

-- g(0), from its entry to its closing brace: it has the statements 0 to 2, the exits 0 and 1
abbrev pub g_falls : List Event
g_falls = Entered 0 ∷ Started 0 ∷ Started 1 ∷ evaluated 0 (F ∷ []) false ∷ Exited 1 ∷ []

abbrev pub g_returns : List Event
g_returns = Entered 0 ∷ Started 0 ∷ Started 1 ∷ evaluated 0 (T ∷ []) true ∷ Started 2 ∷ Exited 0 ∷ []

-- f, from its entry to the call of g in its first statement
abbrev pub f_calls : List Event → List Event
f_calls more = Entered 2 ∷ Started 4 ∷ more

-- int k(int n){if(n)return k(0);}: its value is used in its own `return`
abbrev pub inner_use : Program
inner_use = program (of_ints 1 1
    (when (var 0) (gives (typed.Call (call 0 (nums (num 0 ∷ []))) Int)) ∷ []) ∷ [])

-- ---- loops whose test traps

abbrev pub one_by_zero : Expression
one_by_zero = two Div (num 1) (num 0)

-- void f(void){do;while(1/0);} and void f(void){for(;1/0;);}
abbrev pub do_trap : Program
do_trap = program
    (function [] typed.NoResult [] (typed.DoWhile (typed.Null here) one_by_zero here here ∷ []) ∷ [])

abbrev pub for_trap : Program
for_trap = program (function [] typed.NoResult []
    (typed.For (typed.StartEffects []) (Some one_by_zero) [] (typed.Null here) here here ∷ []) ∷ [])

-- ---- a `default` that is absent is chosen where no label is, and nowhere else

-- int f(int n){switch(n){case 1:n=5;}return n;}
abbrev pub completed : Program
completed = program (of_ints 1 1
    (select (var 0) (case 1 ∷ does (set (local 0) (num 5)) ∷ []) ∷ gives (var 0) ∷ []) ∷ [])

-- int f(int n){switch(n){case 1:break;}return n;}
abbrev pub broken : Program
broken = program (of_ints 1 1 (select (var 0) (case 1 ∷ stop ∷ []) ∷ gives (var 0) ∷ []) ∷ [])

-- int f(int n){while(n){switch(n){case 1:n=0;continue;}n=1;}return n;}
abbrev pub continued : Program
continued = program (of_ints 1 1
    (while (var 0) (block
    (select (var 0) (case 1 ∷ does (set (local 0) (num 0)) ∷ typed.Continue here ∷ [])
    ∷ does (set (local 0) (num 1)) ∷ [])) ∷ gives (var 0) ∷ []) ∷ [])

-- int f(int n){switch(n){case 1:;default:n=2;case 3:n=n+1;}return n;}: a `default` between labels
abbrev pub default_between : Program
default_between = program (of_ints 1 1
    (select (var 0) (case 1 ∷ typed.Null here ∷ default ∷ does (set (local 0) (num 2))
    ∷ case 3 ∷ does (add (local 0) (num 1)) ∷ []) ∷ gives (var 0) ∷ []) ∷ [])

-- ---- fuel comes before what follows it

-- int f(void){return mcdc_in();}
abbrev pub input : Program
input = program (of_ints 0 0 (gives (typed.Input here) ∷ []) ∷ [])

-- int f(void){while(1/0);return 1;}: without a unit the test is not evaluated
abbrev pub while_trap : Program
while_trap = program (of_ints 0 0 (while one_by_zero (typed.Null here) ∷ gives (num 1) ∷ []) ∷ [])

-- ---- cells of activations and of objects with static storage duration

abbrev pub array : ℕ → Object
array n = object (Array n (Scalar Int))

-- int f(void){int t[n];return 1;}
abbrev pub large : ℕ → List StaticObject → Program
large n statics = record {
  functions = function [] (typed.NumberResult Int) (array n ∷ [])
      (declares (plain 0 n ∷ []) ∷ gives (num 1) ∷ []) ∷ [];
  statics = statics;
  structures = [];
}

abbrev pub static_array : ℕ → List StaticObject
static_array n = record { object = array n; initial = replicate n (pos 0) } ∷ []

abbrev pub begun : List Event
begun = Entered 0 ∷ Started 0 ∷ []

abbrev pub rows : List Row
rows =
    calls (copied 1) 2 [] (gave (pos 2) 93 (f_calls (g_returns ++ Started 5 ∷ Exited 3 ∷ [])))
    ∷ calls (copied 0) 2 [] (trapped trap.NoReturn 95 (f_calls g_falls))
    ∷ calls (given 1) 2 [] (gave (pos 2) 92 (f_calls (g_returns ++ Entered 1 ∷ Started 3 ∷ Exited 2
    ∷ Exited 3 ∷ [])))
    ∷ calls (given 0) 2 [] (trapped trap.NoReturn 95 (f_calls g_falls))
    ∷ calls (initial 1) 2 [] (gave (pos 2) 93 (f_calls (g_returns ++ Started 5 ∷ Exited 3 ∷ [])))
    ∷ calls (initial 0) 2 [] (trapped trap.NoReturn 95 (f_calls g_falls))
    ∷ calls (then_7 (drops 0)) 2 [] (gave (pos 7) 94 (f_calls (g_falls ++ Started 5 ∷ Exited 3
    ∷ [])))
    ∷ calls (then_7 (typed.Discard (drops 0) here)) 2 [] (gave (pos 7) 94 (f_calls (g_falls ++ Started 5
    ∷ Exited 3 ∷ [])))
    ∷ calls (then_7 (typed.ChoiceEffect (num 1) (uses 0) (uses 0) here)) 2 []
    (trapped trap.NoReturn 95 (f_calls g_falls))
    ∷ calls inner_use 0 (pos 1 ∷ []) (trapped trap.NoReturn 95 (begun ++ evaluated 0 (T ∷ []) true
    ∷ Started 1 ∷ begun ++ evaluated 0 (F ∷ []) false ∷ Exited 1 ∷ []))
    ∷ calls do_trap 0 [] (trapped trap.Division 96 (begun ++ Started 1 ∷ []))
    ∷ calls for_trap 0 [] (trapped trap.Division 97 begun)
    ∷ calls completed 0 (pos 1 ∷ []) (gave (pos 5) 96 (begun ++ Chosen 1 ∷ Started 1 ∷ Started 2
    ∷ Exited 0 ∷ []))
    ∷ calls completed 0 (pos 2 ∷ []) (gave (pos 2) 97 (begun ++ Chosen 0 ∷ Started 2 ∷ Exited 0
    ∷ []))
    ∷ calls broken 0 (pos 1 ∷ []) (gave (pos 1) 96 (begun ++ Chosen 1 ∷ Started 1 ∷ Started 2
    ∷ Exited 0 ∷ []))
    ∷ calls broken 0 (pos 2 ∷ []) (gave (pos 2) 97 (begun ++ Chosen 0 ∷ Started 2 ∷ Exited 0 ∷ []))
    ∷ calls continued 0 (pos 3 ∷ []) (gave (pos 0) 89 (begun ++ evaluated 0 (T ∷ []) true
    ∷ Started 1 ∷ Chosen 0 ∷ Started 4 ∷ evaluated 0 (T ∷ []) true ∷ Started 1 ∷ Chosen 1
    ∷ Started 2 ∷ Started 3 ∷ evaluated 0 (F ∷ []) false ∷ Started 5 ∷ Exited 0 ∷ []))
    ∷ calls default_between 0 (pos 1 ∷ []) (gave (pos 3) 94 (begun ++ Chosen 0 ∷ Started 1
    ∷ Started 2 ∷ Started 3 ∷ Started 4 ∷ Exited 0 ∷ []))
    ∷ calls default_between 0 (pos 3 ∷ []) (gave (pos 4) 96 (begun ++ Chosen 2 ∷ Started 3
    ∷ Started 4 ∷ Exited 0 ∷ []))
    ∷ calls default_between 0 (pos 9 ∷ []) (gave (pos 3) 95 (begun ++ Chosen 1 ∷ Started 2
    ∷ Started 3 ∷ Started 4 ∷ Exited 0 ∷ []))
    ∷ record {
      program = input;
      plan = one_call 0 [] [] 2;
      seen = stopped ending.Fuel 0 begun;
    }
    ∷ record {
      program = while_trap;
      plan = one_call 0 [] [] 2;
      seen = stopped ending.Fuel 0 begun;
    }
    ∷ record { program = input; plan = one_call 0 [] [] 1; seen = stopped ending.Fuel 0 (Entered 0 ∷ []) }
    ∷ record { program = input; plan = one_call 0 [] [] 0; seen = stopped ending.Fuel 0 [] }
    ∷ []

-- 65,536 cells are open at most, those of the objects with static storage duration among them.
abbrev pub large_rows : List Row
large_rows =
    calls (large 65536 []) 0 [] (gave (pos 1) 98 (Entered 0 ∷ Started 0 ∷ Exited 0 ∷ []))
    ∷ calls (large 65535 (static_array 1)) 0 []
    (gave (pos 1) 98 (Entered 0 ∷ Started 0 ∷ Exited 0 ∷ []))
    ∷ calls (large 65536 (static_array 1)) 0 [] (stopped ending.Cells 99 [])
    ∷ []

-- ---- without a unit nothing is put out, and the room is not looked at

abbrev pub without_unit : ℕ → State (Unit {0})
without_unit k = record { memory = tt; fuel = 0; inputs = []; output = replicate k (pos 7) }

abbrev pub OutputTakesAUnit : Type 0
OutputTakesAUnit =
    (output_does {M = Unit {0}} {E = Event} (runs.gives (pos 8)) (without_unit 1)).out
    ≡ (stops {M = Unit {0}} {E = Event} ending.Fuel (without_unit 1)).out

abbrev pub FuelComesFirst : Type 0
FuelComesFirst =
    (output_does {M = Unit {0}} {E = Event} (runs.gives (pos 8)) (without_unit 4096)).out
    ≡ (stops {M = Unit {0}} {E = Event} ending.Fuel (without_unit 4096)).out

-- ---- what a test expects

-- int f(int a){mcdc_out(a);mcdc_out(a+1);return a;}
abbrev pub two_outputs : Program
two_outputs = program (of_ints 1 1 (does (typed.Output (var 0) here)
    ∷ does (typed.Output (two Add (var 0) (num 1)) here) ∷ gives (var 0) ∷ []) ∷ [])

abbrev pub expecting : Option ℤ → Option (List ℤ) → ℤ → Call
expecting v output a = record { function = 0; arguments = a ∷ []; expect = v; output = output }

abbrev pub test : ℕ → List Call → Plan
test fuel calls = record { name = []; calls = calls; inputs = []; fuel = fuel }

-- f(5) with these outputs
abbrev pub puts : List ℤ → TestState
puts output = plain_state two_outputs (test 100 (expecting None (Some output) (pos 5) ∷ []))

abbrev pub of_outputs : List TestState
of_outputs = map puts (
    (pos 5 ∷ pos 6 ∷ [])
    ∷ (pos 5 ∷ [])
    ∷ []
    ∷ (pos 5 ∷ pos 6 ∷ pos 7 ∷ [])
    ∷ (pos 5 ∷ pos 7 ∷ [])
    ∷ (pos 4 ∷ pos 6 ∷ [])
    ∷ (pos 6 ∷ pos 5 ∷ [])
    ∷ (negsuc 4 ∷ pos 6 ∷ [])
    ∷ [])

-- f(5) and f(7)
abbrev pub twice : Option ℤ → Option (List ℤ) → Option ℤ → Option (List ℤ) → TestState
twice v output w more =
    plain_state two_outputs (test 100 (expecting v output (pos 5) ∷ expecting w more (pos 7) ∷ []))

abbrev pub of_calls : List TestState
of_calls =
    twice (Some (pos 5)) (Some (pos 5 ∷ pos 6 ∷ [])) (Some (pos 7)) (Some (pos 7 ∷ pos 8 ∷ []))
    ∷ twice (Some (pos 5)) (Some (pos 5 ∷ pos 6 ∷ [])) (Some (pos 5)) (Some (pos 7 ∷ pos 8 ∷ []))
    ∷ twice (Some (negsuc 4)) None None None
    ∷ twice None (Some (pos 5 ∷ pos 6 ∷ [])) None (Some (pos 5 ∷ pos 6 ∷ []))
    ∷ twice None (Some (pos 5 ∷ pos 6 ∷ pos 7 ∷ [])) None (Some (pos 8 ∷ []))
    ∷ twice None None None (Some (pos 7 ∷ pos 8 ∷ []))
    ∷ []

-- what was met does not count where the run ends in another way
abbrev pub cut : TestState
cut = plain_state two_outputs (test 3 (expecting (Some (pos 9)) None (pos 5) ∷ []))

abbrev pub ExpectationsAreJudged : Type 0
ExpectationsAreJudged =
    (of_outputs ≡ Pass ∷ Fail ∷ Fail ∷ Fail ∷ Fail ∷ Fail ∷ Fail ∷ Fail ∷ [])
    × (of_calls ≡ Pass ∷ Fail ∷ Fail ∷ Fail ∷ Fail ∷ Pass ∷ [])
    × (cut ≡ Ended ending.Fuel)
