-- What is easily got wrong about statements, labels, limits and tests: short programs, and their
-- runs.
use Rattle.std.specs.Prelude.{◌≡◌, ℕ, suc, ℤ, pos, negsuc, true, false, List, [], ◌∷◌, ◌++◌, replicate, Option, Some, None}
use Rattle.mc_value.specs.declared.trap.Trap.TheVariants.{Division}
use Rattle.mc_value.specs.declared.operators.BinOp.TheVariants.{Add, Div, Lt, Gt, Eq}
use Rattle.mc_typed.specs.declared.plans.Ending.TheVariants as ending
use Rattle.mc_typed.specs.declared.plans.TestState.{TestState}
use Rattle.mc_typed.specs.declared.plans.TestState.TheVariants.{Pass, Fail, Ended}
use Rattle.mc_typed.specs.Tree.{Expression, Effect, Statement, Program}
use Rattle.mc_typed.specs.Tree as t
use Rattle.mc_typed.specs.Plans.{Call, Plan}
use Rattle.mc_steps.specs.Runs.{State, Acts, stops}
use Rattle.mc_steps.specs.Runs as runs
use Rattle.mc_steps.specs.Expressions.{output_does}
use Rattle.mc_steps.specs.Statements.{Given}
use Rattle.mc_steps.specs.Calls.{call_does}
use Rattle.mc_meaning.specs.Stores.{Path, Store}
use Rattle.mc_meaning.specs.Within.{Does}
use Rattle.mc_steps.specs.Events.{Event, Entered, Exited, Started, Chosen}
use Rattle.mc_meaning.specs.Tests.{plain_state}
use Rattle.tests_meaning.specs.Words.{here, local, static, int, read, var, num, two, conj, disj, choice, does, set, add, take, gives, when, while, plain, with_number, declares, function, of_ints, program, block, select, case, default, stop}
use Rattle.tests_meaning.specs.Seen.{Row, calls, gave, ended, trapped, evaluated, T, F}

-- a loop: for(first;test;step)body
abbrev pub for : List Effect → Option Expression → List Effect → Statement → Statement
for first test step a = t.For (t.StartEffects first) test step a here here

abbrev pub do_while : Statement → Expression → Statement
do_while a e = t.DoWhile a e here here

-- ---- switch

-- int f(int n){switch(n){case 1:n=5;case 2:n+=1;break;default:n=0;}return n;}: a label that is
-- reached from the statement before it is not chosen
abbrev pub fall_through : Program
fall_through = program (of_ints 1 1 (select (var 0)
    (case 1 ∷ does (set (local 0) (num 5)) ∷ case 2 ∷ does (add (local 0) (num 1)) ∷ stop
    ∷ default ∷ does (set (local 0) (num 0)) ∷ []) ∷ gives (var 0) ∷ []) ∷ [])

-- int f(int n){switch(n){default:n+=1;case 1:n+=2;}return n;}: `default` may stand first, and only
-- a value without a label of its own leads to it
abbrev pub default_first : Program
default_first = program (of_ints 1 1 (select (var 0)
    (default ∷ does (add (local 0) (num 1)) ∷ case 1 ∷ does (add (local 0) (num 2)) ∷ [])
    ∷ gives (var 0) ∷ []) ∷ [])

-- int f(int n){switch(n){case 1:return 5;}return n;}: the `default` that is absent is a label,
-- before those of the body
abbrev pub absent_default : Program
absent_default = program (of_ints 1 1 (select (var 0) (case 1 ∷ gives (num 5) ∷ [])
    ∷ gives (var 0) ∷ []) ∷ [])

-- int f(int n){switch(n){case 1:switch(n){case 2:;}default:;}return n;}: labels of an inner switch
-- are its own
abbrev pub inner_switch : Program
inner_switch = program (of_ints 1 1 (select (var 0)
    (case 1 ∷ select (var 0) (case 2 ∷ t.Null here ∷ []) ∷ default ∷ t.Null here ∷ [])
    ∷ gives (var 0) ∷ []) ∷ [])

-- int f(int n){int i;for(i=0;i<3;i+=1){switch(i){case 1:continue;default:break;}n+=10;}return n;}:
-- `break` ends the switch, `continue` the body of the loop, and then comes the step
abbrev pub break_and_continue : Program
break_and_continue = program (of_ints 1 2 (declares (plain 1 1 ∷ [])
    ∷ for (set (local 1) (num 0) ∷ []) (Some (two Lt (var 1) (num 3)))
    (add (local 1) (num 1) ∷ [])
    (block (select (var 1) (case 1 ∷ t.Continue here ∷ default ∷ stop ∷ [])
    ∷ does (add (local 0) (num 10)) ∷ []))
    ∷ gives (var 0) ∷ []) ∷ [])

-- ---- loops

-- int f(int n){do{n-=1;if(n==1)continue;}while(n>0);return n;}: `continue` goes to the test
abbrev pub do_continue : Program
do_continue = program (of_ints 1 1
    (do_while (block (does (take (local 0) (num 1))
    ∷ when (two Eq (var 0) (num 1)) (t.Continue here) ∷ [])) (two Gt (var 0) (num 0))
    ∷ gives (var 0) ∷ []) ∷ [])

-- int f(void){for(int i=0;;i+=1)if(i==1)return i;}: a test that is absent takes a unit too, and the
-- declaration none; the closing brace is no exit
abbrev pub no_test : Program
no_test = program (of_ints 0 1
    (t.For (t.StartDeclaration (with_number 0 (num 0) ∷ [])) None (add (local 0) (num 1) ∷ [])
    (when (two Eq (var 0) (num 1)) (gives (var 0))) here here ∷ [])
    ∷ of_ints 0 0 (gives (num 3) ∷ []) ∷ [])

-- void f(void){while(1/0);}: a constant expression that traps is no decision, and the brace after
-- it an exit, so the exit of g after it has the number 1. int g(void){return 3;}
abbrev pub constant_trap : Program
constant_trap = program (function [] t.NoResult []
    (while (two Div (num 1) (num 0)) (t.Null here) ∷ [])
    ∷ of_ints 0 0 (gives (num 3) ∷ []) ∷ [])

-- void f(void){while(1)break;}: the loop completes by its `break`
abbrev pub left_by_break : Program
left_by_break = program (function [] t.NoResult [] (while (num 1) stop ∷ [])
    ∷ of_ints 0 0 (gives (num 3) ∷ []) ∷ [])

-- int f(int n){while(n){n=7;break;}return n+1;}, and with `do` and the test at its end: after a
-- `break` the statement after the loop is the next one
abbrev pub then_more : Statement → Program
then_more loop = program (of_ints 1 1 (loop ∷ gives (two Add (var 0) (num 1)) ∷ []) ∷ [])

abbrev pub seven_and_stop : Statement
seven_and_stop = block (does (set (local 0) (num 7)) ∷ stop ∷ [])

-- ---- declarations

-- int f(void){int x,y=1,z=y;int u;return z;}: several objects of one declaration take one unit and
-- are one statement, a declaration without an initializer takes none
abbrev pub several_objects : Program
several_objects = program (of_ints 0 4
    (declares (plain 0 1 ∷ with_number 1 (num 1) ∷ with_number 2 (var 1) ∷ [])
    ∷ declares (plain 3 1 ∷ []) ∷ gives (var 2) ∷ []) ∷ [])

-- ---- decisions

-- int f(int a,int b){return !(a||b)?1:2;}: `!` is a node of the tree, and its operand's value
-- counts
abbrev pub negated : Program
negated = program (of_ints 2 2
    (gives (choice (t.Not (disj (var 0) (var 1)) here) (num 1) (num 2)) ∷ []) ∷ [])

-- int f(int a){return (1&&0)||a;}: a constant expression in a tree is of it, with two conditions
abbrev pub constant_in_tree : Program
constant_in_tree = program
    (of_ints 1 1 (gives (disj (conj (num 1) (num 0)) (var 0)) ∷ []) ∷ [])

-- int f(int a){return 1&&0;}: but alone it is no decision
abbrev pub constant_alone : Program
constant_alone = program (of_ints 1 1 (gives (conj (num 1) (num 0)) ∷ []) ∷ [])

-- int f(int a,int b){if(a ? b : 0)return 1;return 0;}: the first operand of `?:` is a decision in
-- the condition of another
abbrev pub choice_as_test : Program
choice_as_test = program (of_ints 2 2
    (when (choice (var 0) (var 1) (num 0)) (gives (num 1)) ∷ gives (num 0) ∷ []) ∷ [])

abbrev pub begun : List Event
begun = Entered 0 ∷ Started 0 ∷ []

abbrev pub rows : List Row
rows =
    calls fall_through 0 (pos 1 ∷ []) (gave (pos 6) 94 (begun ++ Chosen 0 ∷ Started 1 ∷ Started 2
    ∷ Started 3 ∷ Started 5 ∷ Exited 0 ∷ []))
    ∷ calls fall_through 0 (pos 2 ∷ []) (gave (pos 3) 95 (begun ++ Chosen 1 ∷ Started 2
    ∷ Started 3 ∷ Started 5 ∷ Exited 0 ∷ []))
    ∷ calls fall_through 0 (pos 7 ∷ []) (gave (pos 0) 96 (begun ++ Chosen 2 ∷ Started 4
    ∷ Started 5 ∷ Exited 0 ∷ []))
    ∷ calls default_first 0 (pos 1 ∷ []) (gave (pos 3) 96 (begun ++ Chosen 1 ∷ Started 2
    ∷ Started 3 ∷ Exited 0 ∷ []))
    ∷ calls default_first 0 (pos 4 ∷ []) (gave (pos 7) 95 (begun ++ Chosen 0 ∷ Started 1
    ∷ Started 2 ∷ Started 3 ∷ Exited 0 ∷ []))
    ∷ calls absent_default 0 (pos 3 ∷ []) (gave (pos 3) 97 (begun ++ Chosen 0 ∷ Started 2
    ∷ Exited 1 ∷ []))
    ∷ calls absent_default 0 (pos 1 ∷ []) (gave (pos 5) 97 (begun ++ Chosen 1 ∷ Started 1
    ∷ Exited 0 ∷ []))
    ∷ calls inner_switch 0 (pos 1 ∷ []) (gave (pos 1) 95 (begun ++ Chosen 0 ∷ Started 1
    ∷ Chosen 1 ∷ Started 3 ∷ Started 4 ∷ Exited 0 ∷ []))
    ∷ calls inner_switch 0 (pos 2 ∷ []) (gave (pos 2) 96 (begun ++ Chosen 3 ∷ Started 3
    ∷ Started 4 ∷ Exited 0 ∷ []))
    ∷ calls break_and_continue 0 (pos 5 ∷ []) (gave (pos 25) 85 (begun
    ++ evaluated 0 (T ∷ []) true ∷ Started 1 ∷ Chosen 1 ∷ Started 3 ∷ Started 4
    ∷ evaluated 0 (T ∷ []) true ∷ Started 1 ∷ Chosen 0 ∷ Started 2
    ∷ evaluated 0 (T ∷ []) true ∷ Started 1 ∷ Chosen 1 ∷ Started 3 ∷ Started 4
    ∷ evaluated 0 (F ∷ []) false ∷ Started 5 ∷ Exited 0 ∷ []))
    ∷ calls do_continue 0 (pos 2 ∷ []) (gave (pos 0) 90 (begun ++ Started 1 ∷ Started 2
    ∷ evaluated 0 (T ∷ []) true ∷ Started 3 ∷ evaluated 1 (T ∷ []) true ∷ Started 1 ∷ Started 2
    ∷ evaluated 0 (F ∷ []) false ∷ evaluated 1 (F ∷ []) false ∷ Started 4 ∷ Exited 0 ∷ []))
    ∷ calls no_test 0 [] (gave (pos 1) 93 (begun ++ Started 1 ∷ evaluated 0 (F ∷ []) false
    ∷ Started 1 ∷ evaluated 0 (T ∷ []) true ∷ Started 2 ∷ Exited 0 ∷ []))
    ∷ calls no_test 1 [] (gave (pos 3) 98 (Entered 1 ∷ Started 3 ∷ Exited 1 ∷ []))
    ∷ calls constant_trap 0 [] (trapped Division 97 begun)
    ∷ calls constant_trap 1 [] (gave (pos 3) 98 (Entered 1 ∷ Started 2 ∷ Exited 1 ∷ []))
    ∷ calls left_by_break 0 [] (ended 96 (begun ++ Started 1 ∷ Exited 0 ∷ []))
    ∷ calls left_by_break 1 [] (gave (pos 3) 98 (Entered 1 ∷ Started 2 ∷ Exited 1 ∷ []))
    ∷ calls (then_more (while (var 0) seven_and_stop)) 0 (pos 3 ∷ []) (gave (pos 8) 94 (begun
    ++ evaluated 0 (T ∷ []) true ∷ Started 1 ∷ Started 2 ∷ Started 3 ∷ Exited 0 ∷ []))
    ∷ calls (then_more (do_while seven_and_stop (var 0))) 0 (pos 3 ∷ []) (gave (pos 8) 95 (begun
    ++ Started 1 ∷ Started 2 ∷ Started 3 ∷ Exited 0 ∷ []))
    ∷ calls several_objects 0 [] (gave (pos 1) 97 (begun ++ Started 1 ∷ Exited 0 ∷ []))
    ∷ calls negated 0 (pos 0 ∷ pos 2 ∷ []) (gave (pos 2) 98 (begun
    ++ evaluated 0 (F ∷ T ∷ []) false ∷ Exited 0 ∷ []))
    ∷ calls negated 0 (pos 0 ∷ pos 0 ∷ []) (gave (pos 1) 98 (begun
    ++ evaluated 0 (F ∷ F ∷ []) true ∷ Exited 0 ∷ []))
    ∷ calls constant_in_tree 0 (pos 9 ∷ []) (gave (pos 1) 98 (begun
    ++ evaluated 0 (T ∷ F ∷ T ∷ []) true ∷ Exited 0 ∷ []))
    ∷ calls constant_alone 0 (pos 9 ∷ []) (gave (pos 0) 98 (begun ++ Exited 0 ∷ []))
    ∷ calls choice_as_test 0 (pos 1 ∷ pos 7 ∷ []) (gave (pos 1) 97 (begun
    ++ evaluated 1 (T ∷ []) true ∷ evaluated 0 (T ∷ []) true ∷ Started 1 ∷ Exited 0 ∷ []))
    ∷ []

-- ---- limits

-- After the unit come the levels, then the cells, and only then the entry: whatever is done in it,
-- a call that passes both limits ends as `Levels`, and without a unit as `Fuel`.
abbrev pub with_units : Store → ℕ → State Store
with_units m n = record { memory = m; fuel = n; inputs = []; output = [] }

abbrev pub LimitsAreInOrder : Type 0
LimitsAreInOrder =
    (inside : Does (Given Path)) (m : Store) (n : ℕ)
    → (call_does 513 65537 inside (with_units m (suc n)) ≡ stops ending.Levels (with_units m n))
    × (call_does 512 65537 inside (with_units m (suc n)) ≡ stops ending.Cells (with_units m n))
    × (call_does 512 65536 inside (with_units m (suc n)) ≡ inside (with_units m n))
    × (call_does 513 65537 inside (with_units m 0) ≡ stops ending.Fuel (with_units m 0))

-- Where 4,096 numbers stand in the output the next one ends the run, and where 4,095 stand it has
-- its place.
abbrev pub filled : ℕ → State (Unit {0})
filled k = record { memory = tt; fuel = 1; inputs = []; output = replicate k (pos 7) }

abbrev pub put_out : Acts (Unit {0}) Event (Unit {0})
put_out = output_does (runs.gives (pos 8))

abbrev pub OutputIsLimited : Type 0
OutputIsLimited =
    ((put_out (filled 4096)).out ≡ (stops {M = Unit {0}} {E = Event} ending.OutputFull
    (record (filled 4096) { fuel = 0 })).out)
    × ((put_out (filled 4095)).out ≡ (runs.gives {M = Unit {0}} {E = Event} tt
    (record {
      memory = tt;
      fuel = 0;
      inputs = [];
      output = replicate 4095 (pos 7) ++ pos 8 ∷ [];
    })).out)

-- ---- the state of a test

-- static int s;int f(int n){s+=n;mcdc_out(s);return 10/s;}
abbrev pub summing : Program
summing = record {
  functions = of_ints 1 1 (does (add (static 0) (var 0)) ∷ does (t.Output (read (static 0)) here)
      ∷ gives (two Div (num 10) (read (static 0))) ∷ []) ∷ [];
  statics = record { object = int; initial = pos 1 ∷ [] } ∷ [];
  structures = [];
}

abbrev pub sums : ℤ → Option ℤ → Option (List ℤ) → Call
sums n expect output =
    record { function = 0; arguments = n ∷ []; expect = expect; output = output }

abbrev pub test : List Call → Plan
test calls = record { name = []; calls = calls; inputs = []; fuel = 100 }

-- the calls of a test work on one store, each is judged by its own output, and a call that traps
-- keeps the values before it and the whole output
abbrev pub states : List TestState
states =
    plain_state summing (test (sums (pos 1) (Some (pos 5)) (Some (pos 2 ∷ []))
    ∷ sums (pos 3) (Some (pos 2)) (Some (pos 5 ∷ [])) ∷ []))
    ∷ plain_state summing (test (sums (pos 1) None None ∷ sums (pos 3) (Some (pos 3)) None ∷ []))
    ∷ plain_state summing (test (sums (pos 1) None (Some []) ∷ sums (pos 3) None None ∷ []))
    ∷ plain_state summing
    (test (sums (pos 1) None None ∷ sums (pos 3) None (Some (pos 2 ∷ [])) ∷ []))
    ∷ plain_state summing (test (sums (pos 1) (Some (pos 6)) None ∷ sums (negsuc 1) None None ∷ []))
    ∷ []

abbrev pub StatesAreJudged : Type 0
StatesAreJudged = states ≡ Pass ∷ Fail ∷ Fail ∷ Fail ∷ Ended (ending.Trap Division) ∷ []

-- the second call sets s to 0, puts it out and traps
abbrev pub trapped_test : Row
trapped_test = record {
  program = summing;
  plan = test (sums (pos 1) None None ∷ sums (negsuc 1) None None ∷ sums (pos 1) None None ∷ []);
  seen = record {
    ending = ending.Trap Division;
    values = Some (pos 5) ∷ [];
    output = pos 2 ∷ pos 0 ∷ [];
    fuel = 90;
    events = begun ++ Started 1 ∷ Started 2 ∷ Exited 0 ∷ begun ++ Started 1 ∷ Started 2 ∷ [];
  };
}
