-- Short programs that each show a trap or another ending, and their runs.
use Rattle.std.specs.Prelude.{ℕ, zero, suc, pos, negsuc, true, false, List, [], ◌∷◌, ◌++◌, replicate}
use Rattle.mc_value.specs.declared.trap.Trap.TheVariants.{Overflow, Division, Shift, Index, Unset, NoReturn, InputEnd}
use Rattle.mc_value.specs.declared.int_type.IntType.TheVariants.{Int}
use Rattle.mc_value.specs.declared.operators.BinOp.TheVariants.{Add, Div, Gt}
use Rattle.mc_value.specs.declared.operators.ShiftOp.TheVariants.{Left}
use Rattle.mc_typed.specs.declared.operators.Operator.TheVariants as operator
use Rattle.mc_typed.specs.declared.plans.Ending.TheVariants as ending
use Rattle.mc_typed.specs.Layout.{ObjectType, Scalar, Array, Structure, no_members, members}
use Rattle.mc_typed.specs.Tree.{Program}
use Rattle.mc_typed.specs.Tree as t
use Rattle.mc_typed.specs.Examples as example
use Rattle.mc_steps.specs.Events.{Event, Entered, Exited, Started}
use Rattle.tests_meaning.specs.Words.{here, local, object, int, read, var, num, two, item, member, does, set, take, gives, when, while, plain, with_list, declares, function, of_ints, ints, program, block}
use Rattle.tests_meaning.specs.Seen.{Row, calls, one_call, gave, stopped, trapped, evaluated, T, F}

-- int f(int a,int b){return a+b;}
abbrev pub sum : Program
sum = program (of_ints 2 2 (gives (two Add (var 0) (var 1)) ∷ []) ∷ [])

-- int f(int a,int b){return a/b;}
abbrev pub quotient : Program
quotient = program (of_ints 2 2 (gives (two Div (var 0) (var 1)) ∷ []) ∷ [])

-- int f(int a,int b){return a<<b;}
abbrev pub shifted : Program
shifted = program
    (of_ints 2 2 (gives (t.Binary (operator.Shift Left) Int (var 0) (var 1) here) ∷ []) ∷ [])

-- int f(int i){int t[3]={7};return t[i];}
abbrev pub indexed : Program
indexed = program (function (ints 1) (t.NumberResult Int) (int ∷ object (Array 3 (Scalar Int)) ∷ [])
    (declares (with_list 1 3 (t.NumberInitializer (num 7) ∷ []) ∷ [])
    ∷ gives (read (item (local 1) 3 (var 0))) ∷ []) ∷ [])

-- int f(void){int x;return x;}
abbrev pub unset : Program
unset = program (of_ints 0 1 (declares (plain 0 1 ∷ []) ∷ gives (var 0) ∷ []) ∷ [])

-- struct S{int a;int b;};int f(void){struct S s;struct S t;s.a=4;t=s;return t.a;}
abbrev pub pair : ObjectType
pair = Structure 0 (members (Scalar Int) (members (Scalar Int) no_members))

abbrev pub copied : Program
copied = record {
  functions = function [] (t.NumberResult Int) (object pair ∷ object pair ∷ [])
      (declares (plain 0 2 ∷ []) ∷ declares (plain 1 2 ∷ [])
      ∷ does (set (member (local 0) 0) (num 4))
      ∷ does (t.Copy (local 1) (t.Stored (local 0)) 2 here)
      ∷ gives (read (member (local 1) 0)) ∷ []) ∷ [];
  statics = [];
  structures = pair ∷ [];
}

-- int f(int a){if(a)return 1;}
abbrev pub sometimes : Program
sometimes = program (of_ints 1 1 (when (var 0) (gives (num 1)) ∷ []) ∷ [])

-- int mcdc_in(void);int f(void){return mcdc_in();}
abbrev pub input : Program
input = program (of_ints 0 0 (gives (t.Input here) ∷ []) ∷ [])

-- int f(int n){int t[30000];t[0]=n;return n?f(n-1):0;}
abbrev pub large : Program
large = record { functions = example.array ∷ []; statics = []; structures = [] }

-- void mcdc_out(int v);void f(int n){while(n>0){mcdc_out(n);n--;}}
abbrev pub output : Program
output = program (function (ints 1) t.NoResult (int ∷ [])
    (while (two Gt (var 0) (num 0))
    (block (does (t.Output (var 0) here) ∷ does (take (local 0) (num 1)) ∷ [])) ∷ []) ∷ [])

abbrev pub begun : List Event
begun = Entered 0 ∷ Started 0 ∷ []

-- int f(int n){return n?f(n-1):0;}: the events of so many calls up to the innermost decision, where
-- each of the others is true, and the exits of so many
abbrev pub opened : ℕ → List Event
opened zero = []
opened (suc n) = Entered 0 ∷ Started 0 ∷ evaluated 0 (T ∷ []) true ∷ opened n

-- mcdc_out(n); n--; for n from this number down to 1
abbrev pub counted_down : ℕ → List Event
counted_down zero = []
counted_down (suc n) =
    evaluated 0 (T ∷ []) true ∷ Started 1 ∷ Started 2 ∷ counted_down n

abbrev pub rows : List Row
rows =
    calls sum 0 (pos 2147483647 ∷ pos 1 ∷ []) (trapped Overflow 98 begun)
    ∷ calls quotient 0 (pos 1 ∷ pos 0 ∷ []) (trapped Division 98 begun)
    ∷ calls quotient 0 (negsuc 2147483647 ∷ negsuc 0 ∷ []) (trapped Overflow 98 begun)
    ∷ calls shifted 0 (pos 1 ∷ pos 30 ∷ []) (gave (pos 1073741824) 98 (begun ++ Exited 0 ∷ []))
    ∷ calls shifted 0 (pos 1 ∷ pos 31 ∷ []) (trapped Shift 98 begun)
    ∷ calls shifted 0 (pos 1 ∷ pos 32 ∷ []) (trapped Shift 98 begun)
    ∷ calls shifted 0 (negsuc 0 ∷ pos 1 ∷ []) (trapped Shift 98 begun)
    ∷ calls indexed 0 (pos 2 ∷ []) (gave (pos 0) 97 (begun ++ Started 1 ∷ Exited 0 ∷ []))
    ∷ calls indexed 0 (pos 3 ∷ []) (trapped Index 97 (begun ++ Started 1 ∷ []))
    ∷ calls indexed 0 (negsuc 0 ∷ []) (trapped Index 97 (begun ++ Started 1 ∷ []))
    ∷ calls unset 0 [] (trapped Unset 98 begun)
    ∷ calls copied 0 [] (gave (pos 4) 96 (begun ++ Started 1 ∷ Started 2 ∷ Exited 0 ∷ []))
    ∷ calls example.structures 2 [] (gave (pos 3) 92 (Entered 2 ∷ Started 3 ∷ Started 4
    ∷ Entered 0 ∷ Started 0 ∷ Started 1 ∷ Exited 0 ∷ Entered 1 ∷ Started 2 ∷ Exited 1
    ∷ Exited 2 ∷ []))
    ∷ calls sometimes 0 (pos 1 ∷ []) (gave (pos 1) 97 (begun ++ evaluated 0 (T ∷ []) true
    ∷ Started 1 ∷ Exited 0 ∷ []))
    ∷ calls sometimes 0 (pos 0 ∷ []) (trapped NoReturn 98 (begun ++ evaluated 0 (F ∷ []) false
    ∷ Exited 1 ∷ []))
    ∷ calls input 0 [] (trapped InputEnd 97 begun)
    ∷ record {
      program = input;
      plan = one_call 0 [] (pos 5 ∷ []) 100;
      seen = gave (pos 5) 97 (begun ++ Exited 0 ∷ []);
    }
    ∷ calls large 0 (pos 1 ∷ []) (gave (pos 0) 94 (begun ++ Started 1 ∷ evaluated 0 (T ∷ []) true
    ∷ begun ++ Started 1 ∷ evaluated 0 (F ∷ []) false ∷ Exited 0 ∷ Exited 0 ∷ []))
    ∷ calls large 0 (pos 2 ∷ []) (stopped ending.Cells 93 (begun
    ++ Started 1 ∷ evaluated 0 (T ∷ []) true ∷ begun ++ Started 1 ∷ evaluated 0 (T ∷ []) true ∷ []))
    ∷ record {
      program = example.recursion;
      plan = one_call 0 (pos 84 ∷ []) [] 1000000;
      seen = gave (pos 0) 999830 (opened 84 ++ Entered 0 ∷ Started 0 ∷ evaluated 0 (F ∷ []) false
          ∷ replicate 85 (Exited 0));
    }
    ∷ record {
      program = example.recursion;
      plan = one_call 0 (pos 85 ∷ []) [] 1000000;
      seen = stopped ending.Levels 999829 (opened 85);
    }
    ∷ []
