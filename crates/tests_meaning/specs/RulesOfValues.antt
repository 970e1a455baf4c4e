-- What is easily got wrong about values, places and calls: short programs, and their runs.
use Rattle.std.specs.Prelude.{ℕ, pos, true, false, List, [], ◌∷◌, ◌++◌, Some}
use Rattle.mc_value.specs.declared.trap.Trap.TheVariants.{Division, Index, Unset, NoReturn}
use Rattle.mc_value.specs.declared.int_type.IntType.TheVariants.{Int, UChar}
use Rattle.mc_value.specs.declared.operators.BinOp.TheVariants.{Add, Sub, Mul, Div, Lt, Gt}
use Rattle.mc_typed.specs.declared.operators.Operator.TheVariants as operator
use Rattle.mc_typed.specs.declared.plans.Ending.TheVariants as ending
use Rattle.mc_typed.specs.Layout.{ObjectType, Scalar, Array, Structure, no_members, members}
use Rattle.mc_typed.specs.Tree.{Place, Argument, Expression, Function, Program}
use Rattle.mc_typed.specs.Tree as t
use Rattle.mc_steps.specs.Events.{Event, Entered, Exited, Started}
use Rattle.tests_meaning.specs.Words.{here, slot, local, static, object, int, read, var, num, two, conj, choice, item, member, args, call, nums, called, does, set, add, value, gives, when, while, plain, with_number, items, with_list, declares, function, of_ints, ints, program, block}
use Rattle.tests_meaning.specs.Seen.{Row, calls, one_call, gave, ended, stopped, trapped, evaluated, T, F}

-- ---- decisions and traps

-- int f(int a,int b){return a && 1/(a<b)>0;}: the decision `a<b` has ended when `/` traps, and the
-- decision around it has not
abbrev pub trap_inside : Program
trap_inside = program (of_ints 2 2
    (gives (conj (var 0) (two Gt (two Div (num 1) (two Lt (var 0) (var 1))) (num 0))) ∷ []) ∷ [])

-- ---- values that are read

-- void f(void){int x;x;}
abbrev pub dropped : Program
dropped = program (function [] t.NoResult (int ∷ [])
    (declares (plain 0 1 ∷ []) ∷ does (value (var 0)) ∷ []) ∷ [])

-- void f(void){int x;(void)x;}
abbrev pub discarded : Program
discarded = program (function [] t.NoResult (int ∷ [])
    (declares (plain 0 1 ∷ []) ∷ does (t.Discard (value (var 0)) here) ∷ []) ∷ [])

abbrev pub pair : ObjectType
pair = Structure 0 (members (Scalar Int) (members (Scalar Int) no_members))

abbrev pub with_pairs : List Function → Program
with_pairs functions = record { functions = functions; statics = []; structures = pair ∷ [] }

-- void f(void){struct S s;s;}
abbrev pub dropped_structure : Program
dropped_structure = with_pairs (function [] t.NoResult (object pair ∷ [])
    (declares (plain 0 2 ∷ []) ∷ does (t.StructureEffect (t.Stored (local 0)) true) ∷ []) ∷ [])

-- int f(void){int x=x;return 1;}
abbrev pub own_value : Program
own_value = program (of_ints 0 1 (declares (with_number 0 (var 0) ∷ []) ∷ gives (num 1) ∷ []) ∷ [])

-- void f(void){int i=0;while(i<2){int x=i?x:0;i+=1;}}: in the second turn x is unset again
abbrev pub again_unset : Program
again_unset = program (function [] t.NoResult (int ∷ int ∷ [])
    (declares (with_number 0 (num 0) ∷ [])
    ∷ while (two Lt (var 0) (num 2)) (block
    (declares (with_number 1 (choice (var 0) (var 1) (num 0)) ∷ [])
    ∷ does (add (local 0) (num 1)) ∷ [])) ∷ []) ∷ [])

-- ---- lists

-- int f(int i){int t[3]={1,t[0]};return t[i];}: an item is stored before the next is evaluated, and
-- the rest becomes 0
abbrev pub list_in_order : Program
list_in_order = program (function (ints 1) (t.NumberResult Int)
    (int ∷ object (Array 3 (Scalar Int)) ∷ [])
    (declares (with_list 1 3 (t.NumberInitializer (num 1)
    ∷ t.NumberInitializer (read (item (local 1) 3 (num 0))) ∷ []) ∷ [])
    ∷ gives (read (item (local 1) 3 (var 0))) ∷ []) ∷ [])

-- int f(void){int t[2]={t[1]};return 1;}: the rest is not 0 before the list ends
abbrev pub list_before_its_end : Program
list_before_its_end = program (function [] (t.NumberResult Int) (object (Array 2 (Scalar Int)) ∷ [])
    (declares (with_list 0 2 (t.NumberInitializer (read (item (local 0) 2 (num 1))) ∷ []) ∷ [])
    ∷ gives (num 1) ∷ []) ∷ [])

-- t[i]
abbrev pub chosen : Place
chosen = t.Item (local 1) 2 2 (var 0) here

-- struct S{int a;int b;};int f(int i){struct S t[2]={{1},{2,3}};return t[i].a*10+t[i].b;}
abbrev pub inner_lists : Program
inner_lists = with_pairs (function (ints 1) (t.NumberResult Int) (int ∷ object (Array 2 pair) ∷ [])
    (declares (with_list 1 4
    (t.ListInitializer (items (t.NumberInitializer (num 1) ∷ [])) 2
    ∷ t.ListInitializer (items (t.NumberInitializer (num 2) ∷ t.NumberInitializer (num 3) ∷ [])) 2
    ∷ []) ∷ [])
    ∷ gives (two Add (two Mul (read (member chosen 0)) (num 10)) (read (member chosen 1)))
    ∷ []) ∷ [])

-- ---- assignment

abbrev pub static_int : ℕ → t.StaticObject
static_int v = record { object = int; initial = pos v ∷ [] }

-- static int a=1;int g(void){a=5;return 1;}int f(void){a+=g();return a;}: the old value is read
-- after the right side
abbrev pub old_value_last : Program
old_value_last = record {
  functions = of_ints 0 0 (does (set (static 0) (num 5)) ∷ gives (num 1) ∷ [])
      ∷ of_ints 0 0 (does (add (static 0) (called 0 [])) ∷ gives (read (static 0)) ∷ []) ∷ [];
  statics = static_int 1 ∷ [];
  structures = [];
}

-- static int i;static int t[2]={7,8};int g(void){i=1;return 3;}int f(void){t[i]+=g();return t[0];}:
-- the place comes before the right side
abbrev pub place_first : Program
place_first = record {
  functions = of_ints 0 0 (does (set (static 0) (num 1)) ∷ gives (num 3) ∷ [])
      ∷ of_ints 0 0 (does (add (item (static 1) 2 (read (static 0))) (called 0 []))
      ∷ gives (read (item (static 1) 2 (num 0))) ∷ []) ∷ [];
  statics = static_int 0
      ∷ record { object = object (Array 2 (Scalar Int)); initial = pos 7 ∷ pos 8 ∷ [] } ∷ [];
  structures = [];
}

-- int f(void){unsigned char c=250;c+=10;return c;}: the sum is an int, and then it wraps
abbrev pub narrow : Program
narrow = program (function [] (t.NumberResult Int) (object (Scalar UChar) ∷ [])
    (declares (with_number 0 (t.Convert UChar false (num 250) here) ∷ [])
    ∷ does (t.Update (local 0) UChar (operator.Binary Add) Int (num 10) here)
    ∷ gives (t.Convert Int false (t.Read (local 0) UChar) here) ∷ []) ∷ [])

-- ---- arrays

-- int g(int t[9],int i){return t[i];}int f(int i){int t[2]={1,2};return g(t,i);}: the index is
-- tested against the caller's array
abbrev pub lent : Program
lent = program (
    function (t.ArrayParameter (Scalar Int) ∷ t.NumberParameter Int ∷ []) (t.NumberResult Int)
    (int ∷ []) (gives (read (t.Parameter 0 1 (var 0) here)) ∷ [])
    ∷ function (ints 1) (t.NumberResult Int) (int ∷ object (Array 2 (Scalar Int)) ∷ [])
    (declares (with_list 1 2
    (t.NumberInitializer (num 1) ∷ t.NumberInitializer (num 2) ∷ []) ∷ [])
    ∷ gives (t.Call (call 0 (t.ArrayArgument (local 1) 2 ∷ t.NumberArgument (var 0) ∷ [])) Int)
    ∷ []) ∷ [])

-- void h(int t[],int v){t[1]=v;}void g(int t[]){h(t,5);}
-- int f(void){int t[2][2];g(t[1]);return t[1][1];}: an array is handed on, and written through
abbrev pub handed_on : Program
handed_on = program (
    function (t.ArrayParameter (Scalar Int) ∷ t.NumberParameter Int ∷ []) t.NoResult (int ∷ [])
    (does (set (t.Parameter 0 1 (num 1) here) (var 0)) ∷ [])
    ∷ function (t.ArrayParameter (Scalar Int) ∷ []) t.NoResult []
    (does (t.CallEffect (call 0 (t.AgainArgument 0 here ∷ t.NumberArgument (num 5) ∷ []))) ∷ [])
    ∷ function [] (t.NumberResult Int) (object (Array 2 (Array 2 (Scalar Int))) ∷ [])
    (declares (plain 0 4 ∷ [])
    ∷ does (t.CallEffect (call 1 (t.ArrayArgument (t.Item (local 0) 2 2 (num 1) here) 2 ∷ [])))
    ∷ gives (read (item (t.Item (local 0) 2 2 (num 1) here) 2 (num 1))) ∷ [])
    ∷ [])

-- int g(void){return 0;}int f(void){int t[2][2];return t[2][g()];}: the first index is tested
-- before the second is evaluated
abbrev pub two_indexes : Program
two_indexes = program (
    of_ints 0 0 (gives (num 0) ∷ [])
    ∷ function [] (t.NumberResult Int) (object (Array 2 (Array 2 (Scalar Int))) ∷ [])
    (declares (plain 0 4 ∷ [])
    ∷ gives (read (item (t.Item (local 0) 2 2 (num 2) here) 2 (called 0 []))) ∷ [])
    ∷ [])

-- ---- calls

-- int g(void){return 1;}int h(int v){return v;}int f(void){return h(g());}
abbrev pub argument_first : Program
argument_first = program (of_ints 0 0 (gives (num 1) ∷ []) ∷ of_ints 1 1 (gives (var 0) ∷ [])
    ∷ of_ints 0 0 (gives (called 1 (called 0 [] ∷ [])) ∷ []) ∷ [])

-- int g(int n){if(n)return 1;} and f as it is given
abbrev pub may_fall_off : List t.Statement → Program
may_fall_off statements =
    program (of_ints 1 1 (when (var 0) (gives (num 1)) ∷ []) ∷ of_ints 0 0 statements ∷ [])

abbrev pub g_of_0 : Expression
g_of_0 = called 0 (num 0 ∷ [])

abbrev pub g_runs : List Event
g_runs = Entered 0 ∷ Started 0 ∷ evaluated 0 (F ∷ []) false ∷ Exited 1 ∷ []

abbrev pub f_runs : List Event
f_runs = Entered 1 ∷ Started 2 ∷ g_runs

-- int f(int n){int x=n;if(n)f(n-1);return x;}: each activation has its own x
abbrev pub own_locals : Program
own_locals = program (of_ints 1 2
    (declares (with_number 1 (var 0) ∷ [])
    ∷ when (var 0) (does (value (called 0 (two Sub (var 0) (num 1) ∷ []))))
    ∷ gives (var 1) ∷ []) ∷ [])

-- int f(int n){int x;if(n){x=n;return f(n-1);}return x;}: an activation begins with x unset, also
-- where one before it had the same place
abbrev pub new_locals : Program
new_locals = program (of_ints 1 2
    (declares (plain 1 1 ∷ [])
    ∷ when (var 0) (block (does (set (local 1) (var 0))
    ∷ gives (called 0 (two Sub (var 0) (num 1) ∷ [])) ∷ []))
    ∷ gives (var 1) ∷ []) ∷ [])

-- the call of function 0 with this number, whose structure this object takes
abbrev pub g_into : ℕ → ℕ → t.FunctionCall
g_into v k = t.call 0 (args (nums (num v ∷ []))) (Some (slot k)) here

-- struct S g(int v){struct S s;s.b=v;return s;}
-- int f(void){struct S t;t=g(4);g(5);return t.b;}: a structure is returned by value, with a member
-- that is unset
abbrev pub returned_structure : Program
returned_structure = with_pairs (
    function (ints 1) (t.StructureResult pair) (int ∷ object pair ∷ [])
    (declares (plain 1 2 ∷ []) ∷ does (set (member (local 1) 1) (var 0))
    ∷ t.Return (t.ReturnStructure (t.Stored (local 1)) 2) here ∷ [])
    ∷ function [] (t.NumberResult Int) (object pair ∷ object pair ∷ object pair ∷ [])
    (declares (plain 0 2 ∷ [])
    ∷ does (t.Copy (local 0) (t.Returned (g_into 4 1)) 2 here)
    ∷ does (t.StructureEffect (t.Returned (g_into 5 2)) true)
    ∷ gives (read (member (local 0) 1)) ∷ [])
    ∷ [])

abbrev pub rows : List Row
rows =
    calls trap_inside 0 (pos 1 ∷ pos 0 ∷ []) (trapped Division 98
    (Entered 0 ∷ Started 0 ∷ evaluated 1 (F ∷ []) false ∷ []))
    ∷ calls dropped 0 [] (trapped Unset 98 (Entered 0 ∷ Started 0 ∷ []))
    ∷ calls discarded 0 [] (trapped Unset 98 (Entered 0 ∷ Started 0 ∷ []))
    ∷ calls dropped_structure 0 [] (ended 98 (Entered 0 ∷ Started 0 ∷ Exited 0 ∷ []))
    ∷ calls own_value 0 [] (trapped Unset 98 (Entered 0 ∷ Started 0 ∷ []))
    ∷ calls again_unset 0 [] (trapped Unset 92 (Entered 0 ∷ Started 0 ∷ Started 1
    ∷ evaluated 0 (T ∷ []) true ∷ Started 2 ∷ evaluated 1 (F ∷ []) false ∷ Started 3
    ∷ evaluated 0 (T ∷ []) true ∷ Started 2 ∷ evaluated 1 (T ∷ []) true ∷ []))
    ∷ calls list_in_order 0 (pos 1 ∷ []) (gave (pos 1) 97 (Entered 0 ∷ Started 0 ∷ Started 1
    ∷ Exited 0 ∷ []))
    ∷ calls list_in_order 0 (pos 2 ∷ []) (gave (pos 0) 97 (Entered 0 ∷ Started 0 ∷ Started 1
    ∷ Exited 0 ∷ []))
    ∷ calls list_before_its_end 0 [] (trapped Unset 98 (Entered 0 ∷ Started 0 ∷ []))
    ∷ calls inner_lists 0 (pos 0 ∷ []) (gave (pos 10) 97 (Entered 0 ∷ Started 0 ∷ Started 1
    ∷ Exited 0 ∷ []))
    ∷ calls inner_lists 0 (pos 1 ∷ []) (gave (pos 23) 97 (Entered 0 ∷ Started 0 ∷ Started 1
    ∷ Exited 0 ∷ []))
    ∷ calls old_value_last 1 [] (gave (pos 6) 94 (Entered 1 ∷ Started 2 ∷ Entered 0 ∷ Started 0
    ∷ Started 1 ∷ Exited 0 ∷ Started 3 ∷ Exited 1 ∷ []))
    ∷ calls place_first 1 [] (gave (pos 10) 94 (Entered 1 ∷ Started 2 ∷ Entered 0 ∷ Started 0
    ∷ Started 1 ∷ Exited 0 ∷ Started 3 ∷ Exited 1 ∷ []))
    ∷ calls narrow 0 [] (gave (pos 4) 96 (Entered 0 ∷ Started 0 ∷ Started 1 ∷ Started 2
    ∷ Exited 0 ∷ []))
    ∷ calls lent 1 (pos 1 ∷ []) (gave (pos 2) 95 (Entered 1 ∷ Started 1 ∷ Started 2 ∷ Entered 0
    ∷ Started 0 ∷ Exited 0 ∷ Exited 1 ∷ []))
    ∷ calls lent 1 (pos 2 ∷ []) (trapped Index 95 (Entered 1 ∷ Started 1 ∷ Started 2 ∷ Entered 0
    ∷ Started 0 ∷ []))
    ∷ calls handed_on 2 [] (gave (pos 5) 93 (Entered 2 ∷ Started 2 ∷ Entered 1 ∷ Started 1
    ∷ Entered 0 ∷ Started 0 ∷ Exited 0 ∷ Exited 1 ∷ Started 3 ∷ Exited 2 ∷ []))
    ∷ calls two_indexes 1 [] (trapped Index 98 (Entered 1 ∷ Started 1 ∷ []))
    ∷ record {
      program = argument_first;
      plan = one_call 2 [] [] 4;
      seen = stopped ending.Fuel 0 (Entered 2 ∷ Started 2 ∷ Entered 0 ∷ Started 0 ∷ Exited 0 ∷ []);
    }
    ∷ calls (may_fall_off (does (value g_of_0) ∷ gives (num 2) ∷ [])) 1 [] (gave (pos 2) 95
    (f_runs ++ Started 3 ∷ Exited 2 ∷ []))
    ∷ calls (may_fall_off (does (t.Discard (value g_of_0) here) ∷ gives (num 2) ∷ [])) 1 []
    (gave (pos 2) 95 (f_runs ++ Started 3 ∷ Exited 2 ∷ []))
    ∷ calls (may_fall_off (gives g_of_0 ∷ [])) 1 [] (trapped NoReturn 96 f_runs)
    ∷ calls (may_fall_off (does (t.ChoiceEffect (num 1)
    (t.Discard (t.NumberEffect g_of_0 false) here)
    (t.Discard (t.NumberEffect g_of_0 false) here) here) ∷ gives (num 2) ∷ [])) 1 []
    (trapped NoReturn 96 f_runs)
    ∷ calls own_locals 0 (pos 2 ∷ []) (gave (pos 2) 86 (Entered 0 ∷ Started 0 ∷ Started 1
    ∷ evaluated 0 (T ∷ []) true ∷ Started 2 ∷ Entered 0 ∷ Started 0 ∷ Started 1
    ∷ evaluated 0 (T ∷ []) true ∷ Started 2 ∷ Entered 0 ∷ Started 0 ∷ Started 1
    ∷ evaluated 0 (F ∷ []) false ∷ Started 3 ∷ Exited 0 ∷ Started 3 ∷ Exited 0 ∷ Started 3
    ∷ Exited 0 ∷ []))
    ∷ calls new_locals 0 (pos 1 ∷ []) (trapped Unset 93 (Entered 0 ∷ Started 0
    ∷ evaluated 0 (T ∷ []) true ∷ Started 1 ∷ Started 2 ∷ Entered 0 ∷ Started 0
    ∷ evaluated 0 (F ∷ []) false ∷ Started 3 ∷ []))
    ∷ calls returned_structure 1 [] (gave (pos 4) 90 (Entered 1 ∷ Started 2 ∷ Entered 0 ∷ Started 0
    ∷ Started 1 ∷ Exited 0 ∷ Started 3 ∷ Entered 0 ∷ Started 0 ∷ Started 1 ∷ Exited 0 ∷ Started 4
    ∷ Exited 1 ∷ []))
    ∷ []
