-- Which bodies complete, and so have an exit at their closing brace: `void f(int n){..}` with a body
-- of each shape, and after it `int z(void){return 3;}`. The numbers of the statement and the exit of
-- z say how many there are before it.
use Rattle.std.specs.Prelude.{ℕ, pos, true, List, [], ◌∷◌, map, None}
use Rattle.mc_value.specs.declared.int_type.IntType.TheVariants.{Int, Char}
use Rattle.mc_value.specs.declared.operators.BinOp.TheVariants.{Div}
use Rattle.mc_value.specs.declared.operators.UnOp.TheVariants.{Minus}
use Rattle.mc_typed.specs.Tree.{Expression, Statement}
use Rattle.mc_typed.specs.Tree as typed
use Rattle.mc_steps.specs.Events.{Entered, Exited, Started}
use Rattle.tests_meaning.specs.Words.{here, int, var, num, two, conj, disj, choice, gives, when, while, plain, with_number, declares, function, of_ints, ints, program, block, select, case, default, stop}
use Rattle.tests_meaning.specs.Seen.{Row, calls, gave}

-- ---- statements in short

abbrev pub null : Statement
null = typed.Null here

-- return;
abbrev pub leaves : Statement
leaves = typed.Return typed.ReturnNothing here

abbrev pub again : Statement
again = typed.Continue here

abbrev pub either : Statement → Statement → Statement
either a b = typed.IfElse (var 0) a b here here

abbrev pub if_n : Statement → Statement
if_n a = when (var 0) a

abbrev pub while_n : Statement → Statement
while_n a = while (var 0) a

abbrev pub endless : Statement → Statement
endless a = while (num 1) a

-- for(;;)
abbrev pub for_ever : Statement → Statement
for_ever a = typed.For (typed.StartEffects []) None [] a here here

abbrev pub do_while : Statement → Expression → Statement
do_while a e = typed.DoWhile a e here here

-- ---- a body, and how many statements and exits it has

pub record Shape : Type 0 where
  pub body : List Statement
  pub statements : ℕ
  pub exits : ℕ

abbrev pub shape : List Statement → ℕ → ℕ → Shape
shape body statements exits = record { body = body; statements = statements; exits = exits }

abbrev pub row_of : Shape → Row
row_of x = calls
    (program (function (ints 1) typed.NoResult (int ∷ int ∷ []) x.body
    ∷ of_ints 0 0 (gives (num 3) ∷ []) ∷ [])) 1 []
    (gave (pos 3) 98 (Entered 1 ∷ Started x.statements ∷ Exited x.exits ∷ []))

-- ---- sequences and branches

abbrev pub branches : List Shape
branches =
    shape [] 0 1
    ∷ shape (null ∷ []) 1 1
    ∷ shape (leaves ∷ []) 1 1
    ∷ shape (null ∷ leaves ∷ []) 2 1
    -- return;;
    ∷ shape (leaves ∷ null ∷ []) 2 1
    ∷ shape (block (leaves ∷ []) ∷ []) 1 1
    ∷ shape (block (null ∷ []) ∷ []) 1 1
    -- int x; int x=1;
    ∷ shape (declares (plain 1 1 ∷ []) ∷ []) 0 1
    ∷ shape (declares (with_number 1 (num 1) ∷ []) ∷ []) 1 1
    ∷ shape (if_n leaves ∷ []) 2 2
    -- if(1)return;
    ∷ shape (when (num 1) leaves ∷ []) 2 2
    ∷ shape (either leaves leaves ∷ []) 3 2
    ∷ shape (either leaves null ∷ []) 3 2
    ∷ shape (either null leaves ∷ []) 3 2
    ∷ shape (either null null ∷ []) 3 1
    ∷ []

-- ---- loops

abbrev pub loops : List Shape
loops =
    shape (while_n leaves ∷ []) 2 2
    ∷ shape (endless null ∷ []) 2 0
    ∷ shape (endless leaves ∷ []) 2 1
    ∷ shape (endless again ∷ []) 2 0
    ∷ shape (endless stop ∷ []) 2 1
    ∷ shape (endless (block (stop ∷ [])) ∷ []) 2 1
    ∷ shape (endless (block (null ∷ stop ∷ [])) ∷ []) 3 1
    ∷ shape (endless (if_n stop) ∷ []) 3 1
    ∷ shape (endless (either stop null) ∷ []) 4 1
    ∷ shape (endless (either null stop) ∷ []) 4 1
    -- the `break` of a loop or `switch` inside is not its own
    ∷ shape (endless (while_n stop) ∷ []) 3 0
    ∷ shape (endless (for_ever stop) ∷ []) 3 0
    ∷ shape (endless (do_while stop (var 0)) ∷ []) 3 0
    ∷ shape (endless (select (var 0) (case 1 ∷ stop ∷ [])) ∷ []) 3 0
    ∷ shape (for_ever null ∷ []) 2 0
    ∷ shape (for_ever stop ∷ []) 2 1
    ∷ shape (do_while null (num 1) ∷ []) 2 0
    ∷ shape (do_while stop (num 1) ∷ []) 2 1
    ∷ shape (do_while again (num 1) ∷ []) 2 0
    ∷ shape (do_while null (num 0) ∷ []) 2 1
    ∷ shape (do_while null (var 0) ∷ []) 2 1
    -- do return;while(n); its test decides, and not its body
    ∷ shape (do_while leaves (var 0) ∷ []) 2 2
    ∷ []

-- ---- controlling expressions: only a constant expression other than 0 goes on for ever

abbrev pub tested : Expression → ℕ → Shape
tested e exits = shape (while e null ∷ []) 2 exits

abbrev pub tests : List Shape
tests =
    tested (num 0) 1
    ∷ tested (num 7) 0
    ∷ tested (typed.Unary Minus Int (num 1) here) 0
    ∷ tested (typed.Not (num 0) here) 0
    ∷ tested (typed.Not (num 5) here) 1
    ∷ tested (conj (num 1) (num 1)) 0
    ∷ tested (conj (num 1) (num 0)) 1
    ∷ tested (disj (num 0) (num 1)) 0
    -- an object in it is enough, though it is not evaluated (C17 6.6p6)
    ∷ tested (disj (num 1) (var 0)) 1
    ∷ tested (conj (var 0) (num 1)) 1
    ∷ tested (choice (num 1) (num 2) (num 0)) 0
    ∷ tested (choice (num 0) (num 2) (num 0)) 1
    ∷ tested (choice (num 1) (num 2) (var 0)) 1
    ∷ tested (choice (num 1) (var 0) (num 2)) 1
    -- (char)256 is 0, (char)257 is 1
    ∷ tested (typed.Convert Char true (num 256) here) 1
    ∷ tested (typed.Convert Char true (num 257) here) 0
    -- what is not evaluated makes nothing trap (C17 6.5.14p4, 6.5.15p4)
    ∷ tested (disj (num 1) (two Div (num 1) (num 0))) 0
    ∷ tested (choice (num 1) (num 2) (two Div (num 1) (num 0))) 0
    ∷ tested (choice (num 0) (two Div (num 1) (num 0)) (num 2)) 0
    -- one that traps is not other than 0
    ∷ tested (disj (num 0) (two Div (num 1) (num 0))) 1
    ∷ tested (two Div (num 1) (num 0)) 1
    ∷ shape (do_while null (two Div (num 1) (num 0)) ∷ []) 2 1
    ∷ []

-- ---- switches

abbrev pub cases : List Shape
cases =
    shape (select (var 0) [] ∷ []) 1 1
    ∷ shape (select (var 0) (case 1 ∷ leaves ∷ []) ∷ []) 2 2
    ∷ shape (select (var 0) (default ∷ leaves ∷ []) ∷ []) 2 1
    ∷ shape (select (var 0) (default ∷ null ∷ []) ∷ []) 2 1
    ∷ shape (select (var 0) (default ∷ block (leaves ∷ []) ∷ []) ∷ []) 2 1
    ∷ shape (select (var 0) (case 1 ∷ null ∷ default ∷ leaves ∷ []) ∷ []) 3 1
    ∷ shape (select (var 0) (case 1 ∷ leaves ∷ default ∷ leaves ∷ []) ∷ []) 3 2
    -- the last item decides
    ∷ shape (select (var 0) (default ∷ leaves ∷ case 1 ∷ null ∷ []) ∷ []) 3 2
    ∷ shape (select (var 0) (default ∷ null ∷ case 1 ∷ leaves ∷ []) ∷ []) 3 1
    ∷ shape (select (var 0) (default ∷ leaves ∷ null ∷ []) ∷ []) 3 2
    ∷ shape (select (var 0) (default ∷ null ∷ leaves ∷ []) ∷ []) 3 1
    -- and a `break` of its own
    ∷ shape (select (var 0) (default ∷ stop ∷ []) ∷ []) 2 1
    ∷ shape (select (var 0) (case 1 ∷ stop ∷ default ∷ leaves ∷ []) ∷ []) 3 2
    ∷ shape (select (var 0) (case 1 ∷ block (stop ∷ []) ∷ default ∷ leaves ∷ []) ∷ []) 3 2
    ∷ shape (select (var 0) (case 1 ∷ if_n stop ∷ default ∷ leaves ∷ []) ∷ []) 4 2
    ∷ shape (select (var 0) (case 1 ∷ while_n stop ∷ default ∷ leaves ∷ []) ∷ []) 4 1
    ∷ shape (select (var 0) (case 1 ∷ select (var 0) (case 2 ∷ stop ∷ []) ∷ default ∷ leaves ∷ [])
    ∷ []) 4 1
    -- while(1)switch(n){default:continue;}
    ∷ shape (endless (select (var 0) (default ∷ again ∷ [])) ∷ []) 3 0
    ∷ []

abbrev pub rows : List Row
rows = map row_of branches

abbrev pub loop_rows : List Row
loop_rows = map row_of loops

abbrev pub test_rows : List Row
test_rows = map row_of tests

abbrev pub case_rows : List Row
case_rows = map row_of cases
