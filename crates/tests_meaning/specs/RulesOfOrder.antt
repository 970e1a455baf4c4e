-- In which order the parts of a program are evaluated, and how decisions are numbered: short
-- programs, and their runs. `int g(int v){mcdc_out(v);return v;}` shows when it is called.
use Rattle.std.specs.Prelude.{ℕ, ℤ, pos, true, false, List, [], ◌∷◌, ◌++◌, Some}
use Rattle.mc_value.specs.declared.trap.Trap.TheVariants as trap
use Rattle.mc_value.specs.declared.int_type.IntType.TheVariants.{Int}
use Rattle.mc_value.specs.declared.operators.BinOp.TheVariants.{Sub, Lt, Gt}
use Rattle.mc_typed.specs.declared.plans.Ending.TheVariants as ending
use Rattle.mc_typed.specs.Layout.{Scalar, Array}
use Rattle.mc_typed.specs.Tree.{Expression, Function, Program}
use Rattle.mc_typed.specs.Tree as typed
use Rattle.mc_steps.specs.Events.{Event, Entered, Exited, Started, Chosen}
use Rattle.tests_meaning.specs.Words.{here, slot, local, object, int, read, var, num, two, choice, item, member, call, called, does, set, add, gives, when, plain, with_list, declares, function, of_ints, ints, program, select, case, default}
use Rattle.tests_meaning.specs.RulesOfValues.{pair, with_pairs}
use Rattle.tests_meaning.specs.Seen.{Row, Seen, calls, one_call, gave, trapped, evaluated, T, F}

-- ---- what is put out shows the order

abbrev pub g : Function
g = of_ints 1 1 (does (typed.Output (var 0) here) ∷ gives (var 0) ∷ [])

-- g(v)
abbrev pub g_of : ℕ → Expression
g_of v = called 0 (num v ∷ [])

-- a call of g: it has the statements 0 and 1, and the exit 0
abbrev pub g_runs : List Event
g_runs = Entered 0 ∷ Started 0 ∷ Started 1 ∷ Exited 0 ∷ []

abbrev pub put_out : List ℤ → ℤ → ℕ → List Event → Seen
put_out output v fuel events = record {
  ending = ending.Returned;
  values = Some v ∷ [];
  output = output;
  fuel = fuel;
  events = events;
}

-- int f(void){return g(5)-g(3);}: the left operand comes first
abbrev pub operands : Program
operands = program (g ∷ of_ints 0 0 (gives (two Sub (g_of 5) (g_of 3)) ∷ []) ∷ [])

-- int h(int a,int b){return a-b;}int f(void){return h(g(5),g(3));}: so do arguments
abbrev pub arguments : Program
arguments = program (g ∷ of_ints 2 2 (gives (two Sub (var 0) (var 1)) ∷ [])
    ∷ of_ints 0 0 (gives (called 1 (g_of 5 ∷ g_of 3 ∷ [])) ∷ []) ∷ [])

-- int f(void){int t[2]={0};t[g(1)]=g(7);return t[1];}: the place comes before the right side
abbrev pub assigned : Program
assigned = program (g ∷ function [] (typed.NumberResult Int) (object (Array 2 (Scalar Int)) ∷ [])
    (declares (with_list 0 2 (typed.NumberInitializer (num 0) ∷ []) ∷ [])
    ∷ does (set (item (local 0) 2 (g_of 1)) (g_of 7))
    ∷ gives (read (item (local 0) 2 (num 1))) ∷ []) ∷ [])

-- struct S{int a;int b;};struct S h(void){struct S s={g(8),9};return s;}
-- int f(void){struct S t[2];t[g(1)]=h();return t[1].b;}: of a structure too
abbrev pub copied : Program
copied = with_pairs (g
    ∷ function [] (typed.StructureResult pair) (object pair ∷ [])
    (declares (with_list 0 2
    (typed.NumberInitializer (g_of 8) ∷ typed.NumberInitializer (num 9) ∷ []) ∷ [])
    ∷ typed.Return (typed.ReturnStructure (typed.Stored (local 0)) 2) here ∷ [])
    ∷ function [] (typed.NumberResult Int) (object (Array 2 pair) ∷ object pair ∷ [])
    (declares (plain 0 4 ∷ [])
    ∷ does (typed.Copy (typed.Item (local 0) 2 2 (g_of 1) here)
    (typed.Returned (typed.call 1 typed.no_arguments (Some (slot 1)) here)) 2 here)
    ∷ gives (read (member (typed.Item (local 0) 2 2 (num 1) here) 1)) ∷ [])
    ∷ [])

-- int f(void){int t[2][2]={{1,2},{3,4}};return t[g(1)][g(0)];}: the outer index first
abbrev pub indexes : Program
indexes = program (g ∷ function [] (typed.NumberResult Int)
    (object (Array 2 (Array 2 (Scalar Int))) ∷ [])
    (declares (with_list 0 4 (typed.ListInitializer (typed.initializers (typed.NumberInitializer (num 1))
    (typed.initializers (typed.NumberInitializer (num 2)) typed.no_initializers)) 2
    ∷ typed.ListInitializer (typed.initializers (typed.NumberInitializer (num 3))
    (typed.initializers (typed.NumberInitializer (num 4)) typed.no_initializers)) 2 ∷ []) ∷ [])
    ∷ gives (read (item (typed.Item (local 0) 2 2 (g_of 1) here) 2 (g_of 0))) ∷ []) ∷ [])

-- int f(int a){return a?g(2):g(3);}: one arm alone
abbrev pub arms : Program
arms = program (g ∷ of_ints 1 1 (gives (choice (var 0) (g_of 2) (g_of 3)) ∷ []) ∷ [])

-- int f(void){return mcdc_in()-mcdc_in();}
abbrev pub inputs : Program
inputs = program (of_ints 0 0 (gives (two Sub (typed.Input here) (typed.Input here)) ∷ []) ∷ [])

-- ---- the numbers of decisions

abbrev pub less : ℕ → ℕ → Expression
less a b = two Lt (var a) (var b)

-- int f(int a,int b,int c){return a?b<c:b>c;}
abbrev pub in_arms : Program
in_arms = program
    (of_ints 3 3 (gives (choice (var 0) (less 1 2) (two Gt (var 1) (var 2))) ∷ []) ∷ [])

-- int f(int a,int b,int c){int i;for(i=a<b;i<c;i+=a<c)if(b<c)a=a;return i;}: the first clause, the
-- test, the step, and then the body
abbrev pub in_loop : Program
in_loop = program (of_ints 3 4 (declares (plain 3 1 ∷ [])
    ∷ typed.For (typed.StartEffects (set (local 3) (less 0 1) ∷ [])) (Some (less 3 2))
    (add (local 3) (less 0 2) ∷ []) (when (less 1 2) (does (set (local 0) (var 0)))) here here
    ∷ gives (var 3) ∷ []) ∷ [])

-- int f(int a,int b){int t[2]={0};t[a<b]+=a>b;return t[1];}: the place, then the right side
abbrev pub in_update : Program
in_update = program (function (ints 2) (typed.NumberResult Int)
    (int ∷ int ∷ object (Array 2 (Scalar Int)) ∷ [])
    (declares (record { slot = slot 2; cells = 2; value = Some (typed.ZeroInitializer (num 0) 2) } ∷ [])
    ∷ does (add (item (local 2) 2 (less 0 1)) (two Gt (var 0) (var 1)))
    ∷ gives (read (item (local 2) 2 (num 1))) ∷ []) ∷ [])

-- int f(int a,int b){switch(a<b){case 1:a=a>b;}return a<b;}: the expression of a `switch` is no
-- test, and a comparison there is a decision
abbrev pub in_switch : Program
in_switch = program (of_ints 2 2
    (select (less 0 1) (case 1 ∷ does (set (local 0) (two Gt (var 0) (var 1))) ∷ [])
    ∷ gives (less 0 1) ∷ []) ∷ [])

-- int f(int a){switch(a){case 1:return 1;default:return 2;}}: and what is no comparison is none
abbrev pub switched : Program
switched = program (of_ints 1 1
    (select (var 0) (case 1 ∷ gives (num 1) ∷ default ∷ gives (num 2) ∷ []) ∷ []) ∷ [])

-- int h(int a,int b){return a;}int f(int a,int b){return h(a<b,a>b);}
abbrev pub in_arguments : Program
in_arguments = program (of_ints 2 2 (gives (var 0) ∷ [])
    ∷ of_ints 2 2 (gives (called 0 (less 0 1 ∷ two Gt (var 0) (var 1) ∷ [])) ∷ []) ∷ [])

-- ---- structures

-- void h(struct S p){p.a=9;}int f(void){struct S s={1,2};h(s);return s.a;}: a parameter is a copy
abbrev pub by_value : Program
by_value = with_pairs (function (typed.StructureParameter pair ∷ []) typed.NoResult (object pair ∷ [])
    (does (set (member (local 0) 0) (num 9)) ∷ [])
    ∷ function [] (typed.NumberResult Int) (object pair ∷ object pair ∷ [])
    (declares (with_list 0 2 (typed.NumberInitializer (num 1) ∷ typed.NumberInitializer (num 2) ∷ []) ∷ [])
    ∷ does (typed.CallEffect (call 0 (typed.StructureArgument (typed.Stored (local 0)) (slot 1) ∷ [])))
    ∷ gives (read (member (local 0) 0)) ∷ []) ∷ [])

abbrev pub rows : List Row
rows =
    record {
      program = operands;
      plan = one_call 1 [] [] 100;
      seen = put_out (pos 5 ∷ pos 3 ∷ []) (pos 2) 90
          (Entered 1 ∷ Started 2 ∷ g_runs ++ g_runs ++ Exited 1 ∷ []);
    }
    ∷ record {
      program = arguments;
      plan = one_call 2 [] [] 100;
      seen = put_out (pos 5 ∷ pos 3 ∷ []) (pos 2) 88 (Entered 2 ∷ Started 3 ∷ g_runs ++ g_runs
          ++ Entered 1 ∷ Started 2 ∷ Exited 1 ∷ Exited 2 ∷ []);
    }
    ∷ record {
      program = assigned;
      plan = one_call 1 [] [] 100;
      seen = put_out (pos 1 ∷ pos 7 ∷ []) (pos 7) 88 (Entered 1 ∷ Started 2 ∷ Started 3 ∷ g_runs
          ++ g_runs ++ Started 4 ∷ Exited 1 ∷ []);
    }
    ∷ record {
      program = copied;
      plan = one_call 2 [] [] 100;
      seen = put_out (pos 1 ∷ pos 8 ∷ []) (pos 9) 86 (Entered 2 ∷ Started 4 ∷ g_runs
          ++ Entered 1 ∷ Started 2 ∷ g_runs ++ Started 3 ∷ Exited 1 ∷ Started 5 ∷ Exited 2 ∷ []);
    }
    ∷ record {
      program = indexes;
      plan = one_call 1 [] [] 100;
      seen = put_out (pos 1 ∷ pos 0 ∷ []) (pos 3) 89 (Entered 1 ∷ Started 2 ∷ Started 3 ∷ g_runs
          ++ g_runs ++ Exited 1 ∷ []);
    }
    ∷ record {
      program = arms;
      plan = one_call 1 (pos 4 ∷ []) [] 100;
      seen = put_out (pos 2 ∷ []) (pos 2) 94 (Entered 1 ∷ Started 2 ∷ evaluated 0 (T ∷ []) true
          ∷ g_runs ++ Exited 1 ∷ []);
    }
    ∷ record {
      program = arms;
      plan = one_call 1 (pos 0 ∷ []) [] 100;
      seen = put_out (pos 3 ∷ []) (pos 3) 94 (Entered 1 ∷ Started 2 ∷ evaluated 0 (F ∷ []) false
          ∷ g_runs ++ Exited 1 ∷ []);
    }
    ∷ record {
      program = inputs;
      plan = one_call 0 [] (pos 7 ∷ pos 5 ∷ pos 9 ∷ []) 100;
      seen = gave (pos 2) 96 (Entered 0 ∷ Started 0 ∷ Exited 0 ∷ []);
    }
    ∷ record {
      program = inputs;
      plan = one_call 0 [] (pos 7 ∷ []) 100;
      seen = trapped trap.InputEnd 96 (Entered 0 ∷ Started 0 ∷ []);
    }
    ∷ calls in_arms 0 (pos 1 ∷ pos 1 ∷ pos 2 ∷ []) (gave (pos 1) 98 (Entered 0 ∷ Started 0
    ∷ evaluated 0 (T ∷ []) true ∷ evaluated 1 (T ∷ []) true ∷ Exited 0 ∷ []))
    ∷ calls in_arms 0 (pos 0 ∷ pos 1 ∷ pos 2 ∷ []) (gave (pos 0) 98 (Entered 0 ∷ Started 0
    ∷ evaluated 0 (F ∷ []) false ∷ evaluated 2 (F ∷ []) false ∷ Exited 0 ∷ []))
    ∷ calls in_loop 0 (pos 1 ∷ pos 1 ∷ pos 2 ∷ []) (gave (pos 2) 90 (Entered 0 ∷ Started 0
    ∷ evaluated 0 (F ∷ []) false
    ∷ evaluated 1 (T ∷ []) true ∷ Started 1 ∷ evaluated 3 (T ∷ []) true ∷ Started 2
    ∷ evaluated 2 (T ∷ []) true
    ∷ evaluated 1 (T ∷ []) true ∷ Started 1 ∷ evaluated 3 (T ∷ []) true ∷ Started 2
    ∷ evaluated 2 (T ∷ []) true
    ∷ evaluated 1 (F ∷ []) false ∷ Started 3 ∷ Exited 0 ∷ []))
    ∷ calls in_update 0 (pos 1 ∷ pos 2 ∷ []) (gave (pos 0) 96 (Entered 0 ∷ Started 0 ∷ Started 1
    ∷ evaluated 0 (T ∷ []) true ∷ evaluated 1 (F ∷ []) false ∷ Started 2 ∷ Exited 0 ∷ []))
    ∷ calls in_switch 0 (pos 1 ∷ pos 2 ∷ []) (gave (pos 1) 96 (Entered 0 ∷ Started 0
    ∷ evaluated 0 (T ∷ []) true ∷ Chosen 1 ∷ Started 1 ∷ evaluated 1 (F ∷ []) false ∷ Started 2
    ∷ evaluated 2 (T ∷ []) true ∷ Exited 0 ∷ []))
    ∷ calls in_switch 0 (pos 2 ∷ pos 2 ∷ []) (gave (pos 0) 97 (Entered 0 ∷ Started 0
    ∷ evaluated 0 (F ∷ []) false ∷ Chosen 0 ∷ Started 2 ∷ evaluated 2 (F ∷ []) false ∷ Exited 0
    ∷ []))
    ∷ calls switched 0 (pos 1 ∷ []) (gave (pos 1) 97 (Entered 0 ∷ Started 0 ∷ Chosen 0 ∷ Started 1
    ∷ Exited 0 ∷ []))
    ∷ calls in_arguments 1 (pos 1 ∷ pos 2 ∷ []) (gave (pos 1) 96 (Entered 1 ∷ Started 1
    ∷ evaluated 0 (T ∷ []) true ∷ evaluated 1 (F ∷ []) false ∷ Entered 0 ∷ Started 0 ∷ Exited 0
    ∷ Exited 1 ∷ []))
    ∷ calls by_value 1 [] (gave (pos 1) 94 (Entered 1 ∷ Started 1 ∷ Started 2 ∷ Entered 0
    ∷ Started 0 ∷ Exited 0 ∷ Started 3 ∷ Exited 1 ∷ []))
    ∷ []
