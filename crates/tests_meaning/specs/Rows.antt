-- Short programs that each show one rule of decisions, and their runs.
use Rattle.std.specs.Prelude.{pos, true, false, List, [], ◌∷◌, ◌++◌, None}
use Rattle.mc_value.specs.declared.trap.Trap.TheVariants.{Division}
use Rattle.mc_value.specs.declared.int_type.IntType.TheVariants.{Int, UInt, Long}
use Rattle.mc_value.specs.declared.operators.BinOp.TheVariants.{Add, Sub, Div, Lt, Gt, Eq, Ne}
use Rattle.mc_value.specs.declared.operators.UnOp.TheVariants.{Minus}
use Rattle.mc_typed.specs.declared.operators.Operator.TheVariants.{Binary}
use Rattle.mc_typed.specs.declared.plans.Ending.TheVariants as ending
use Rattle.mc_typed.specs.Layout.{Scalar}
use Rattle.mc_typed.specs.Tree.{Function, Program}
use Rattle.mc_typed.specs.Tree as t
use Rattle.mc_steps.specs.Events.{Event, Entered, Exited, Started}
use Rattle.tests_meaning.specs.Words.{here, local, object, var, num, two, conj, called, does, set, take, value, gives, when, while, plain, with_number, declares, function, of_ints, program, block}
use Rattle.tests_meaning.specs.Seen.{Row, calls, one_call, gave, stopped, trapped, evaluated, T, F}

-- int g(int v,int w){return v+w;}
-- int f(int x,int p,int q){int y;y = x < 3;g(p && q, x);return y;}
abbrev pub anywhere : Program
anywhere = program (
    of_ints 2 2 (gives (two Add (var 0) (var 1)) ∷ [])
    ∷ of_ints 3 4 (declares (plain 3 1 ∷ [])
    ∷ does (set (local 3) (two Lt (var 0) (num 3)))
    ∷ does (value (called 0 (conj (var 1) (var 2) ∷ var 0 ∷ [])))
    ∷ gives (var 3) ∷ [])
    ∷ [])

-- int f(int p,int q,int r,int s){return (p<q) == (r<s);}
abbrev pub compared : Program
compared = program (of_ints 4 4
    (gives (two Eq (two Lt (var 0) (var 1)) (two Lt (var 2) (var 3))) ∷ []) ∷ [])

-- int f(int n){return n>0 && f(n-1);}
abbrev pub again : Program
again = program (of_ints 1 1
    (gives (conj (two Gt (var 0) (num 0)) (called 0 (two Sub (var 0) (num 1) ∷ []))) ∷ []) ∷ [])

-- int f(void){long x=4294967296;if(x)return 1;return 0;}
abbrev pub long : Program
long = program (function [] (t.NumberResult Int) (object (Scalar Long) ∷ [])
    (declares (with_number 0 (t.Constant (pos 4294967296) Long here) ∷ [])
    ∷ when (t.Read (local 0) Long) (gives (num 1)) ∷ gives (num 0) ∷ []) ∷ [])

-- int f(int a,int b){int y=a<5;return y && a != 0 && 10 / b > 1;}
abbrev pub cut : Program
cut = program (of_ints 2 3 (declares (with_number 2 (two Lt (var 0) (num 5)) ∷ [])
    ∷ gives (conj (conj (var 2) (two Ne (var 0) (num 0)))
    (two Gt (two Div (num 10) (var 1)) (num 1))) ∷ []) ∷ [])

-- int f(void){return -1<1u;}int g(void){return -2147483648<0;}
abbrev pub constants : Program
constants = program (
    of_ints 0 0 (gives (t.Binary (Binary Lt) UInt
    (t.Convert UInt false (t.Unary Minus Int (num 1) here) here)
    (t.Constant (pos 1) UInt here) here) ∷ [])
    ∷ of_ints 0 0 (gives (t.Binary (Binary Lt) Long
    (t.Unary Minus Long (t.Constant (pos 2147483648) Long here) here)
    (t.Convert Long false (num 0) here) here) ∷ [])
    ∷ [])

-- int f(int n){while(n>0)n--;return n;}
abbrev pub counting : Program
counting = program (of_ints 1 1
    (while (two Gt (var 0) (num 0)) (does (take (local 0) (num 1))) ∷ gives (var 0) ∷ []) ∷ [])

-- void f(void){while(1){}}
abbrev pub endless : Program
endless = program (function [] t.NoResult [] (while (num 1) (block []) ∷ []) ∷ [])

-- f(2) of `counting`, but for its last two events
abbrev pub counted : List Event
counted =
    Entered 0 ∷ Started 0 ∷ evaluated 0 (T ∷ []) true ∷ Started 1 ∷ evaluated 0 (T ∷ []) true
    ∷ Started 1 ∷ evaluated 0 (F ∷ []) false ∷ []

abbrev pub rows : List Row
rows =
    calls anywhere 1 (pos 2 ∷ pos 1 ∷ pos 1 ∷ []) (gave (pos 1) 94 (Entered 1 ∷ Started 1
    ∷ evaluated 0 (T ∷ []) true ∷ Started 2 ∷ evaluated 1 (T ∷ T ∷ []) true ∷ Entered 0
    ∷ Started 0 ∷ Exited 0 ∷ Started 3 ∷ Exited 1 ∷ []))
    ∷ calls compared 0 (pos 1 ∷ pos 2 ∷ pos 1 ∷ pos 2 ∷ []) (gave (pos 1) 98 (Entered 0
    ∷ Started 0 ∷ evaluated 1 (T ∷ []) true ∷ evaluated 2 (T ∷ []) true
    ∷ evaluated 0 (T ∷ []) true ∷ Exited 0 ∷ []))
    ∷ calls again 0 (pos 3 ∷ []) (gave (pos 0) 92 (Entered 0 ∷ Started 0 ∷ Entered 0
    ∷ Started 0 ∷ Entered 0 ∷ Started 0 ∷ Entered 0 ∷ Started 0
    ∷ evaluated 0 (F ∷ None ∷ []) false ∷ Exited 0 ∷ evaluated 0 (T ∷ F ∷ []) false ∷ Exited 0
    ∷ evaluated 0 (T ∷ F ∷ []) false ∷ Exited 0 ∷ evaluated 0 (T ∷ F ∷ []) false ∷ Exited 0 ∷ []))
    ∷ calls long 0 [] (gave (pos 1) 96 (Entered 0 ∷ Started 0 ∷ Started 1
    ∷ evaluated 0 (T ∷ []) true ∷ Started 2 ∷ Exited 0 ∷ []))
    ∷ calls cut 0 (pos 3 ∷ pos 0 ∷ []) (trapped Division 97 (Entered 0 ∷ Started 0
    ∷ evaluated 0 (T ∷ []) true ∷ Started 1 ∷ []))
    ∷ calls constants 0 [] (gave (pos 0) 98 (Entered 0 ∷ Started 0 ∷ Exited 0 ∷ []))
    ∷ calls constants 1 [] (gave (pos 1) 98 (Entered 1 ∷ Started 1 ∷ Exited 1 ∷ []))
    ∷ record {
      program = counting;
      plan = one_call 0 (pos 2 ∷ []) [] 8;
      seen = gave (pos 0) 0 (counted ++ Started 2 ∷ Exited 0 ∷ []);
    }
    ∷ record {
      program = counting;
      plan = one_call 0 (pos 2 ∷ []) [] 7;
      seen = stopped ending.Fuel 0 counted;
    }
    ∷ record {
      program = endless;
      plan = one_call 0 [] [] 5;
      seen = stopped ending.Fuel 0 (Entered 0 ∷ Started 0 ∷ []);
    }
    ∷ []
