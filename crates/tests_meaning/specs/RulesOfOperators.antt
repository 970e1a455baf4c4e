-- What each operator gives, and where it traps: short programs, and their runs.
use Rattle.std.specs.Prelude.{pos, negsuc, true, false, List, [], ◌∷◌, ◌++◌, map, None}
use Rattle.mc_value.specs.declared.trap.Trap.TheVariants as trap
use Rattle.mc_value.specs.declared.int_type.IntType.{IntType}
use Rattle.mc_value.specs.declared.int_type.IntType.TheVariants.{Bool, SChar, UChar, Short, Int, UInt, Long}
use Rattle.mc_value.specs.declared.operators.BinOp.TheVariants.{Mul, Div, Rem, Add, Sub, Lt, Gt, Le, Ge, Eq, Ne, And, Xor, Or}
use Rattle.mc_value.specs.declared.operators.ShiftOp.{ShiftOp}
use Rattle.mc_value.specs.declared.operators.ShiftOp.TheVariants.{Left, Right}
use Rattle.mc_value.specs.declared.operators.UnOp.TheVariants.{Plus, Minus, Flip}
use Rattle.mc_typed.specs.declared.operators.Operator.TheVariants as operator
use Rattle.mc_typed.specs.declared.plans.Ending.TheVariants as ending
use Rattle.mc_typed.specs.Layout.{Scalar}
use Rattle.mc_typed.specs.Tree.{Expression, Program, Statement}
use Rattle.mc_typed.specs.Tree as typed
use Rattle.mc_steps.specs.Events.{Event, Entered, Exited, Started}
use Rattle.tests_meaning.specs.Words.{here, local, object, int, var, num, two, conj, disj, does, gives, function, of_ints, program}
use Rattle.tests_meaning.specs.Seen.{Row, calls, one_call, gave, trapped, evaluated, T, F}

-- ---- operators of arithmetic, of bits, and shifts (C17 6.5.3.3, 6.5.5 to 6.5.7, 6.5.10 to 6.5.12)

-- mcdc_out(e);
abbrev pub out : Expression → Statement
out e = does (typed.Output e here)

abbrev pub shift : ShiftOp → Expression → Expression → Expression
shift s e f = typed.Binary (operator.Shift s) Int e f here

-- void f(int a,int b){mcdc_out(a*b);mcdc_out(a/b);mcdc_out(a%b);mcdc_out(a+b);mcdc_out(a-b);
-- mcdc_out(a&b);mcdc_out(a^b);mcdc_out(a|b);mcdc_out(a<<2);mcdc_out(a>>1);mcdc_out(b>>1);
-- mcdc_out(+b);mcdc_out(-b);mcdc_out(~b);}
abbrev pub each_operator : Program
each_operator = program (function (typed.NumberParameter Int ∷ typed.NumberParameter Int ∷ []) typed.NoResult
    (int ∷ int ∷ [])
    (map (λ o. out (two o (var 0) (var 1)))
    (Mul ∷ Div ∷ Rem ∷ Add ∷ Sub ∷ And ∷ Xor ∷ Or ∷ [])
    ++ out (shift Left (var 0) (num 2)) ∷ out (shift Right (var 0) (num 1))
    ∷ out (shift Right (var 1) (num 1))
    ∷ map (λ o. out (typed.Unary o Int (var 1) here)) (Plus ∷ Minus ∷ Flip ∷ [])) ∷ [])

-- int f(int a){return -a;}
abbrev pub negative : Program
negative = program (of_ints 1 1 (gives (typed.Unary Minus Int (var 0) here) ∷ []) ∷ [])

-- int f(int a,int b){return a%b;}
abbrev pub remainder : Program
remainder = program (of_ints 2 2 (gives (two Rem (var 0) (var 1)) ∷ []) ∷ [])

-- ---- shifts: the amount keeps its own type, and the left operand gives the width (C17 6.5.7)

-- a f(a x,b y){return x OP y;}
abbrev pub shifting : ShiftOp → IntType → IntType → Program
shifting s a b = program (function (typed.NumberParameter a ∷ typed.NumberParameter b ∷ [])
    (typed.NumberResult a) (object (Scalar a) ∷ object (Scalar b) ∷ [])
    (gives (typed.Binary (operator.Shift s) a (typed.Read (local 0) a) (typed.Read (local 1) b) here) ∷ [])
    ∷ [])

-- a f(a x,b y){x OP= y;return x;}
abbrev pub shifted : ShiftOp → IntType → IntType → Program
shifted s a b = program (function (typed.NumberParameter a ∷ typed.NumberParameter b ∷ [])
    (typed.NumberResult a) (object (Scalar a) ∷ object (Scalar b) ∷ [])
    (does (typed.Update (local 0) a (operator.Shift s) a (typed.Read (local 1) b) here)
    ∷ gives (typed.Read (local 0) a) ∷ []) ∷ [])

-- int f(int x){x/=2u;return x;}: the old value becomes unsigned before the division
abbrev pub halved : Program
halved = program (of_ints 1 1
    (does (typed.Update (local 0) Int (operator.Binary Div) UInt (typed.Constant (pos 2) UInt here)
    here) ∷ gives (var 0) ∷ []) ∷ [])

-- ---- comparisons as values (C17 6.5.8p6, 6.5.9p3)

-- int f(int a,int b){return (a<b)+2*(a>b)+4*(a<=b)+8*(a>=b)+16*(a==b)+32*(a!=b);}: each of them is a
-- decision
abbrev pub comparisons : Program
comparisons = program (of_ints 2 2 (gives
    (two Add (two Add (two Add (two Add (two Add (two Lt (var 0) (var 1))
    (two Mul (num 2) (two Gt (var 0) (var 1))))
    (two Mul (num 4) (two Le (var 0) (var 1))))
    (two Mul (num 8) (two Ge (var 0) (var 1))))
    (two Mul (num 16) (two Eq (var 0) (var 1))))
    (two Mul (num 32) (two Ne (var 0) (var 1)))) ∷ []) ∷ [])

abbrev pub compared : List Event → List Event
compared outcomes = Entered 0 ∷ Started 0 ∷ outcomes ++ Exited 0 ∷ []

-- ---- `||`, `&&` and `!` as values: 0 or 1, whatever their operands are (C17 6.5.3.3p5, 6.5.13p3,
-- 6.5.14p3)

-- int f(int a,int b){return (a||b)+2*(a&&b)+4*!a;}
abbrev pub logic : Program
logic = program (of_ints 2 2 (gives
    (two Add (two Add (disj (var 0) (var 1)) (two Mul (num 2) (conj (var 0) (var 1))))
    (two Mul (num 4) (typed.Not (var 0) here))) ∷ []) ∷ [])

-- ---- conversions (C17 6.3.1.2, 6.3.1.3)

-- int f(int x){return (int)(a)x;}
abbrev pub through : IntType → Program
through a = program (of_ints 1 1
    (gives (typed.Convert Int false (typed.Convert a true (var 0) here) here) ∷ []) ∷ [])

-- int f(int x){a y=x;y=y+1;return y;}: the sum is an int, and then it is converted
abbrev pub stored : IntType → Program
stored a = program (function (typed.NumberParameter Int ∷ []) (typed.NumberResult Int)
    (int ∷ object (Scalar a) ∷ [])
    (does (typed.Assign (local 1) a (typed.Convert a false (var 0) here) here)
    ∷ does (typed.Assign (local 1) a (typed.Convert a false
    (two Add (typed.Convert Int false (typed.Read (local 1) a) here) (num 1)) here) here)
    ∷ gives (typed.Convert Int false (typed.Read (local 1) a) here) ∷ []) ∷ [])

abbrev pub begun : List Event
begun = Entered 0 ∷ Started 0 ∷ []

abbrev pub rows : List Row
rows =
    record {
      program = each_operator;
      plan = one_call 0 (pos 13 ∷ negsuc 4 ∷ []) [] 100;
      seen = record {
        ending = ending.Returned;
        values = None ∷ [];
        output = negsuc 64 ∷ negsuc 1 ∷ pos 3 ∷ pos 8 ∷ pos 18 ∷ pos 9 ∷ negsuc 9 ∷ negsuc 0
            ∷ pos 52 ∷ pos 6 ∷ negsuc 2 ∷ negsuc 4 ∷ pos 5 ∷ pos 4 ∷ [];
        fuel = 71;
        events = Entered 0 ∷ map Started (0 ∷ 1 ∷ 2 ∷ 3 ∷ 4 ∷ 5 ∷ 6 ∷ 7 ∷ 8 ∷ 9 ∷ 10 ∷ 11 ∷ 12
            ∷ 13 ∷ []) ++ Exited 0 ∷ [];
      };
    }
    ∷ calls negative 0 (negsuc 2147483647 ∷ []) (trapped trap.Overflow 98 begun)
    ∷ calls negative 0 (negsuc 2147483646 ∷ []) (gave (pos 2147483647) 98 (begun ++ Exited 0 ∷ []))
    ∷ calls remainder 0 (pos 7 ∷ pos 0 ∷ []) (trapped trap.Division 98 begun)
    ∷ calls remainder 0 (negsuc 2147483647 ∷ negsuc 0 ∷ []) (trapped trap.Overflow 98 begun)
    ∷ calls remainder 0 (negsuc 6 ∷ pos 2 ∷ []) (gave (negsuc 0) 98 (begun ++ Exited 0 ∷ []))
    ∷ calls (shifting Left Long Int) 0 (pos 1 ∷ pos 62 ∷ [])
    (gave (pos 4611686018427387904) 98 (begun ++ Exited 0 ∷ []))
    ∷ calls (shifting Left Long Int) 0 (pos 1 ∷ pos 63 ∷ []) (trapped trap.Shift 98 begun)
    ∷ calls (shifting Left Long Int) 0 (pos 0 ∷ pos 64 ∷ []) (trapped trap.Shift 98 begun)
    ∷ calls (shifting Left Int Long) 0 (pos 1 ∷ pos 3 ∷ []) (gave (pos 8) 98 (begun ++ Exited 0 ∷ []))
    ∷ calls (shifting Left Int Long) 0 (pos 1 ∷ pos 4294967299 ∷ []) (trapped trap.Shift 98 begun)
    ∷ calls (shifting Left UInt Int) 0 (pos 4294967295 ∷ pos 31 ∷ [])
    (gave (pos 2147483648) 98 (begun ++ Exited 0 ∷ []))
    ∷ calls (shifting Left UInt Int) 0 (pos 1 ∷ pos 32 ∷ []) (trapped trap.Shift 98 begun)
    ∷ calls (shifting Left Int UInt) 0 (pos 1 ∷ pos 4294967295 ∷ []) (trapped trap.Shift 98 begun)
    ∷ calls (shifting Right Int Int) 0 (negsuc 7 ∷ pos 1 ∷ [])
    (gave (negsuc 3) 98 (begun ++ Exited 0 ∷ []))
    ∷ calls (shifting Right Int Int) 0 (negsuc 0 ∷ pos 31 ∷ [])
    (gave (negsuc 0) 98 (begun ++ Exited 0 ∷ []))
    ∷ calls (shifting Right Int Int) 0 (pos 1 ∷ pos 32 ∷ []) (trapped trap.Shift 98 begun)
    ∷ calls (shifting Right Int Int) 0 (pos 1 ∷ negsuc 0 ∷ []) (trapped trap.Shift 98 begun)
    ∷ calls (shifting Right Long Int) 0 (pos 4611686018427387904 ∷ pos 62 ∷ [])
    (gave (pos 1) 98 (begun ++ Exited 0 ∷ []))
    ∷ calls (shifting Right UInt Int) 0 (pos 4294967295 ∷ pos 31 ∷ [])
    (gave (pos 1) 98 (begun ++ Exited 0 ∷ []))
    ∷ calls (shifting Right Int Long) 0 (pos 1 ∷ pos 4294967296 ∷ []) (trapped trap.Shift 98 begun)
    ∷ calls (shifted Left Int Long) 0 (pos 3 ∷ pos 2 ∷ [])
    (gave (pos 12) 97 (begun ++ Started 1 ∷ Exited 0 ∷ []))
    ∷ calls (shifted Left Int Long) 0 (pos 1 ∷ pos 4294967299 ∷ []) (trapped trap.Shift 98 begun)
    ∷ calls (shifted Right Int Long) 0 (negsuc 7 ∷ pos 2 ∷ [])
    (gave (negsuc 1) 97 (begun ++ Started 1 ∷ Exited 0 ∷ []))
    ∷ calls (shifted Right Int Long) 0 (pos 1 ∷ pos 4294967296 ∷ []) (trapped trap.Shift 98 begun)
    ∷ calls halved 0 (negsuc 1 ∷ []) (gave (pos 2147483647) 97 (begun ++ Started 1 ∷ Exited 0 ∷ []))
    ∷ calls comparisons 0 (pos 1 ∷ pos 2 ∷ []) (gave (pos 37) 98 (compared
    (evaluated 0 (T ∷ []) true ∷ evaluated 1 (F ∷ []) false ∷ evaluated 2 (T ∷ []) true
    ∷ evaluated 3 (F ∷ []) false ∷ evaluated 4 (F ∷ []) false ∷ evaluated 5 (T ∷ []) true ∷ [])))
    ∷ calls comparisons 0 (pos 2 ∷ negsuc 0 ∷ []) (gave (pos 42) 98 (compared
    (evaluated 0 (F ∷ []) false ∷ evaluated 1 (T ∷ []) true ∷ evaluated 2 (F ∷ []) false
    ∷ evaluated 3 (T ∷ []) true ∷ evaluated 4 (F ∷ []) false ∷ evaluated 5 (T ∷ []) true ∷ [])))
    ∷ calls comparisons 0 (pos 2 ∷ pos 2 ∷ []) (gave (pos 28) 98 (compared
    (evaluated 0 (F ∷ []) false ∷ evaluated 1 (F ∷ []) false ∷ evaluated 2 (T ∷ []) true
    ∷ evaluated 3 (T ∷ []) true ∷ evaluated 4 (T ∷ []) true ∷ evaluated 5 (F ∷ []) false ∷ [])))
    ∷ calls logic 0 (pos 5 ∷ pos 7 ∷ []) (gave (pos 3) 98 (compared
    (evaluated 0 (T ∷ None ∷ []) true ∷ evaluated 1 (T ∷ T ∷ []) true ∷ evaluated 2 (T ∷ []) false
    ∷ [])))
    ∷ calls logic 0 (pos 0 ∷ pos 7 ∷ []) (gave (pos 5) 98 (compared
    (evaluated 0 (F ∷ T ∷ []) true ∷ evaluated 1 (F ∷ None ∷ []) false ∷ evaluated 2 (F ∷ []) true
    ∷ [])))
    ∷ calls logic 0 (pos 5 ∷ pos 0 ∷ []) (gave (pos 1) 98 (compared
    (evaluated 0 (T ∷ None ∷ []) true ∷ evaluated 1 (T ∷ F ∷ []) false ∷ evaluated 2 (T ∷ []) false
    ∷ [])))
    ∷ calls logic 0 (pos 0 ∷ pos 0 ∷ []) (gave (pos 4) 98 (compared
    (evaluated 0 (F ∷ F ∷ []) false ∷ evaluated 1 (F ∷ None ∷ []) false ∷ evaluated 2 (F ∷ []) true
    ∷ [])))
    ∷ calls (through Bool) 0 (pos 256 ∷ []) (gave (pos 1) 98 (begun ++ Exited 0 ∷ []))
    ∷ calls (through UChar) 0 (negsuc 0 ∷ []) (gave (pos 255) 98 (begun ++ Exited 0 ∷ []))
    ∷ calls (through SChar) 0 (pos 200 ∷ []) (gave (negsuc 55) 98 (begun ++ Exited 0 ∷ []))
    ∷ calls (through Short) 0 (pos 98304 ∷ []) (gave (negsuc 32767) 98 (begun ++ Exited 0 ∷ []))
    ∷ calls (stored SChar) 0 (pos 127 ∷ [])
    (gave (negsuc 127) 96 (begun ++ Started 1 ∷ Started 2 ∷ Exited 0 ∷ []))
    ∷ calls (stored Bool) 0 (pos 7 ∷ [])
    (gave (pos 1) 96 (begun ++ Started 1 ∷ Started 2 ∷ Exited 0 ∷ []))
    ∷ []
