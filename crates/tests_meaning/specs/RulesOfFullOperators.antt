-- `&`, `|` and `^` between Boolean operands, and between others: short programs, and their runs.
use Rattle.std.specs.Prelude.{ℤ, pos, true, false, List, [], ◌∷◌, ◌++◌, None}
use Rattle.mc_value.specs.declared.trap.Trap.TheVariants as trap
use Rattle.mc_value.specs.declared.int_type.IntType.TheVariants.{Bool, Int}
use Rattle.mc_value.specs.declared.operators.BinOp.{BinOp}
use Rattle.mc_value.specs.declared.operators.BinOp.TheVariants.{Div, Lt, Gt, Eq, And, Xor, Or}
use Rattle.mc_typed.specs.declared.operators.Operator.TheVariants.{Binary}
use Rattle.mc_typed.specs.Layout.{Scalar}
use Rattle.mc_typed.specs.Tree.{Expression, Program}
use Rattle.mc_typed.specs.Tree as typed
use Rattle.mc_steps.specs.Events.{Event, Entered, Exited, Started}
use Rattle.tests_meaning.specs.Words.{here, local, object, int, var, num, two, conj, call, nums, does, gives, when, with_number, declares, function, of_ints, program}
use Rattle.tests_meaning.specs.Seen.{Row, Seen, calls, gave, trapped, evaluated, T, F}

-- ---- both operands are evaluated, and the operator gives the value (C17 6.5.10 to 6.5.12)

-- x<1
abbrev pub low : Expression → Expression
low e = two Lt e (num 1)

-- int f(int a,int b){return (a<1) OP (b<1);}
abbrev pub between : BinOp → Program
between o = program (of_ints 2 2 (gives (two o (low (var 0)) (low (var 1))) ∷ []) ∷ [])

-- int f(int a,int b){return !((a<1)&(b<1));}
abbrev pub turned : Program
turned = program (of_ints 2 2
    (gives (typed.Not (two And (low (var 0)) (low (var 1))) here) ∷ []) ∷ [])

-- int f(int a,int b,int c){return (a<1^b<1)&&c;}
abbrev pub before_and : Program
before_and = program (of_ints 3 3
    (gives (conj (two Xor (low (var 0)) (low (var 1))) (var 2)) ∷ []) ∷ [])

-- int f(int a,int b,int c){return (a<1)|(b<1&&c);}: within its right operand `&&` may leave a
-- condition out
abbrev pub after_or : Program
after_or = program (of_ints 3 3
    (gives (two Or (low (var 0)) (conj (low (var 1)) (var 2))) ∷ []) ∷ [])

-- int f(int a,int b){return (a<1)&(10/b>1);}: the left operand does not keep the right one from
-- being evaluated, and a trap there leaves no event of the decision
abbrev pub cut : Program
cut = program (of_ints 2 2
    (gives (two And (low (var 0)) (two Gt (two Div (num 10) (var 1)) (num 1))) ∷ []) ∷ [])

-- int f(int a,int b,int c){return (a<1)&((b<1)==(c<1));}: the right operand is one condition, in
-- which two decisions of their own stand
abbrev pub inside : Program
inside = program (of_ints 3 3
    (gives (two And (low (var 0)) (two Eq (low (var 1)) (low (var 2)))) ∷ []) ∷ [])

-- ---- operands of type _Bool

-- an object of type _Bool, converted to int (C17 6.3.1.1p2)
abbrev pub flag : Expression → Expression
flag e = typed.Convert Int false e here

-- int f(_Bool b,_Bool c){return b&c;}
abbrev pub flags : Program
flags = program (function (typed.NumberParameter Bool ∷ typed.NumberParameter Bool ∷ [])
    (typed.NumberResult Int) (object (Scalar Bool) ∷ object (Scalar Bool) ∷ [])
    (gives (two And (flag (typed.Read (local 0) Bool)) (flag (typed.Read (local 1) Bool))) ∷ [])
    ∷ [])

-- int f(int a,int b){return (_Bool)a^(b<1);}: the condition is true where a differs from 0
abbrev pub cast : Program
cast = program (of_ints 2 2
    (gives (two Xor (flag (typed.Convert Bool true (var 0) here)) (low (var 1))) ∷ []) ∷ [])

-- _Bool g(int x){return x>2;}int f(int a,int b){return g(a)&(b<1);}
abbrev pub answered : Program
answered = program (
    function (typed.NumberParameter Int ∷ []) (typed.NumberResult Bool) (int ∷ [])
    (gives (typed.Convert Bool false (two Gt (var 0) (num 2)) here) ∷ [])
    ∷ of_ints 2 2
    (gives (two And (flag (typed.Call (call 0 (nums (var 0 ∷ []))) Bool)) (low (var 1))) ∷ [])
    ∷ [])

-- ---- what is no full operator

-- int f(int a,int b){return a&b;}: no operand is Boolean, and there is no decision
abbrev pub of_numbers : Program
of_numbers = program (of_ints 2 2 (gives (two And (var 0) (var 1)) ∷ []) ∷ [])

-- int f(int a,int b){return (a<1)&b;}: one operand is, and is a decision of its own
abbrev pub mixed : Program
mixed = program (of_ints 2 2 (gives (two And (low (var 0)) (var 1)) ∷ []) ∷ [])

-- int f(int a,int b){if((a<1) OP F)return 1;return 0;}: a controlling expression is a decision.
-- With `b` for F it has one condition, in which `a<1` is a decision of its own, and with `b<1` two.
abbrev pub tested : BinOp → Expression → Program
tested o f = program (of_ints 2 2
    (when (two o (low (var 0)) f) (gives (num 1)) ∷ gives (num 0) ∷ []) ∷ [])

-- int f(int a,int b){return (int)(a<1)&(b<1);}: a cast to int is no Boolean operand
abbrev pub cast_away : Program
cast_away = program (of_ints 2 2
    (gives (two And (typed.Convert Int true (low (var 0)) here) (low (var 1))) ∷ []) ∷ [])

-- int f(int a){_Bool b=1;b&=a<1;return b;}: nor is a compound assignment
abbrev pub updated : Program
updated = program (function (typed.NumberParameter Int ∷ []) (typed.NumberResult Int)
    (int ∷ object (Scalar Bool) ∷ [])
    (declares (with_number 1 (typed.Convert Bool false (num 1) here) ∷ [])
    ∷ does (typed.Update (local 1) Bool (Binary And) Int (low (var 0)) here)
    ∷ gives (flag (typed.Read (local 1) Bool)) ∷ []) ∷ [])

-- int f(void){return (1<2)|(0<1);}: an integer constant expression is no decision
abbrev pub constant : Program
constant = program (of_ints 0 0
    (gives (two Or (two Lt (num 1) (num 2)) (two Lt (num 0) (num 1))) ∷ []) ∷ [])

-- ---- their runs

abbrev pub begun : List Event
begun = Entered 0 ∷ Started 0 ∷ []

-- it returned this, and evaluated these decisions on the way
abbrev pub told : ℤ → List Event → Seen
told v events = gave v 98 (begun ++ events ++ Exited 0 ∷ [])

abbrev pub zero : ℤ
zero = pos 0

abbrev pub one : ℤ
one = pos 1

abbrev pub value_rows : List Row
value_rows =
    calls (between And) 0 (zero ∷ zero ∷ []) (told one (evaluated 0 (T ∷ T ∷ []) true ∷ []))
    ∷ calls (between And) 0 (zero ∷ one ∷ []) (told zero (evaluated 0 (T ∷ F ∷ []) false ∷ []))
    ∷ calls (between And) 0 (one ∷ zero ∷ []) (told zero (evaluated 0 (F ∷ T ∷ []) false ∷ []))
    ∷ calls (between And) 0 (one ∷ one ∷ []) (told zero (evaluated 0 (F ∷ F ∷ []) false ∷ []))
    ∷ calls (between Or) 0 (zero ∷ zero ∷ []) (told one (evaluated 0 (T ∷ T ∷ []) true ∷ []))
    ∷ calls (between Or) 0 (zero ∷ one ∷ []) (told one (evaluated 0 (T ∷ F ∷ []) true ∷ []))
    ∷ calls (between Or) 0 (one ∷ zero ∷ []) (told one (evaluated 0 (F ∷ T ∷ []) true ∷ []))
    ∷ calls (between Or) 0 (one ∷ one ∷ []) (told zero (evaluated 0 (F ∷ F ∷ []) false ∷ []))
    ∷ calls (between Xor) 0 (zero ∷ zero ∷ []) (told zero (evaluated 0 (T ∷ T ∷ []) false ∷ []))
    ∷ calls (between Xor) 0 (zero ∷ one ∷ []) (told one (evaluated 0 (T ∷ F ∷ []) true ∷ []))
    ∷ calls (between Xor) 0 (one ∷ zero ∷ []) (told one (evaluated 0 (F ∷ T ∷ []) true ∷ []))
    ∷ calls (between Xor) 0 (one ∷ one ∷ []) (told zero (evaluated 0 (F ∷ F ∷ []) false ∷ []))
    ∷ []

abbrev pub nested_rows : List Row
nested_rows =
    calls turned 0 (zero ∷ zero ∷ []) (told zero (evaluated 0 (T ∷ T ∷ []) false ∷ []))
    ∷ calls turned 0 (one ∷ zero ∷ []) (told one (evaluated 0 (F ∷ T ∷ []) true ∷ []))
    ∷ calls before_and 0 (zero ∷ one ∷ one ∷ [])
    (told one (evaluated 0 (T ∷ F ∷ T ∷ []) true ∷ []))
    ∷ calls before_and 0 (zero ∷ zero ∷ one ∷ [])
    (told zero (evaluated 0 (T ∷ T ∷ None ∷ []) false ∷ []))
    ∷ calls before_and 0 (one ∷ zero ∷ zero ∷ [])
    (told zero (evaluated 0 (F ∷ T ∷ F ∷ []) false ∷ []))
    ∷ calls before_and 0 (one ∷ one ∷ one ∷ [])
    (told zero (evaluated 0 (F ∷ F ∷ None ∷ []) false ∷ []))
    ∷ calls after_or 0 (zero ∷ zero ∷ one ∷ [])
    (told one (evaluated 0 (T ∷ T ∷ T ∷ []) true ∷ []))
    ∷ calls after_or 0 (zero ∷ one ∷ one ∷ [])
    (told one (evaluated 0 (T ∷ F ∷ None ∷ []) true ∷ []))
    ∷ calls after_or 0 (one ∷ zero ∷ zero ∷ [])
    (told zero (evaluated 0 (F ∷ T ∷ F ∷ []) false ∷ []))
    ∷ calls cut 0 (zero ∷ zero ∷ []) (trapped trap.Division 98 begun)
    ∷ calls cut 0 (one ∷ zero ∷ []) (trapped trap.Division 98 begun)
    ∷ calls cut 0 (one ∷ one ∷ []) (told zero (evaluated 0 (F ∷ T ∷ []) false ∷ []))
    ∷ calls inside 0 (zero ∷ zero ∷ one ∷ [])
    (told zero (evaluated 1 (T ∷ []) true ∷ evaluated 2 (F ∷ []) false
    ∷ evaluated 0 (T ∷ F ∷ []) false ∷ []))
    ∷ []

abbrev pub operand_rows : List Row
operand_rows =
    calls flags 0 (one ∷ one ∷ []) (told one (evaluated 0 (T ∷ T ∷ []) true ∷ []))
    ∷ calls flags 0 (one ∷ zero ∷ []) (told zero (evaluated 0 (T ∷ F ∷ []) false ∷ []))
    ∷ calls cast 0 (pos 256 ∷ one ∷ []) (told one (evaluated 0 (T ∷ F ∷ []) true ∷ []))
    ∷ calls cast 0 (pos 256 ∷ zero ∷ []) (told zero (evaluated 0 (T ∷ T ∷ []) false ∷ []))
    ∷ calls answered 1 (pos 3 ∷ zero ∷ []) (gave one 96 (Entered 1 ∷ Started 1 ∷ Entered 0
    ∷ Started 0 ∷ evaluated 0 (T ∷ []) true ∷ Exited 0 ∷ evaluated 1 (T ∷ T ∷ []) true
    ∷ Exited 1 ∷ []))
    ∷ calls of_numbers 0 (pos 3 ∷ one ∷ []) (told one [])
    ∷ calls mixed 0 (zero ∷ pos 3 ∷ []) (told one (evaluated 0 (T ∷ []) true ∷ []))
    ∷ calls mixed 0 (zero ∷ pos 2 ∷ []) (told zero (evaluated 0 (T ∷ []) true ∷ []))
    ∷ calls (tested And (var 1)) 0 (zero ∷ pos 3 ∷ []) (gave one 97 (begun
    ++ evaluated 1 (T ∷ []) true ∷ evaluated 0 (T ∷ []) true ∷ Started 1 ∷ Exited 0 ∷ []))
    ∷ calls (tested And (var 1)) 0 (zero ∷ pos 2 ∷ []) (gave zero 97 (begun
    ++ evaluated 1 (T ∷ []) true ∷ evaluated 0 (F ∷ []) false ∷ Started 2 ∷ Exited 1 ∷ []))
    ∷ calls (tested Or (low (var 1))) 0 (one ∷ zero ∷ []) (gave one 97 (begun
    ++ evaluated 0 (F ∷ T ∷ []) true ∷ Started 1 ∷ Exited 0 ∷ []))
    ∷ calls cast_away 0 (zero ∷ one ∷ [])
    (told zero (evaluated 0 (T ∷ []) true ∷ evaluated 1 (F ∷ []) false ∷ []))
    ∷ calls updated 0 (one ∷ []) (gave zero 96 (begun ++ Started 1 ∷ evaluated 0 (F ∷ []) false
    ∷ Started 2 ∷ Exited 0 ∷ []))
    ∷ calls constant 0 [] (told one [])
    ∷ []
