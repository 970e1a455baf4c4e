-- Initializers, clauses of `for`, and updates: short programs, and their runs.
use Rattle.std.specs.Prelude.{ℕ, pos, true, false, List, [], ◌∷◌, Some}
use Rattle.mc_value.specs.declared.trap.Trap.TheVariants.{Unset}
use Rattle.mc_value.specs.declared.int_type.IntType.TheVariants.{Int, UInt, Long}
use Rattle.mc_value.specs.declared.operators.BinOp.TheVariants.{Sub, Lt}
use Rattle.mc_value.specs.declared.operators.ShiftOp.TheVariants.{Left}
use Rattle.mc_typed.specs.declared.operators.Operator.TheVariants as operator
use Rattle.mc_typed.specs.Layout.{ObjectType, Scalar, Array, Structure, no_members, members}
use Rattle.mc_typed.specs.Tree.{Place, Program}
use Rattle.mc_typed.specs.Tree as t
use Rattle.mc_steps.specs.Events.{Entered, Exited, Started}
use Rattle.tests_meaning.specs.Words.{here, slot, local, static, object, int, read, var, num, two, choice, item, member, does, set, add, gives, plain, declares, function, of_ints, ints, program}
use Rattle.tests_meaning.specs.Seen.{Row, calls, gave, trapped, evaluated, T, F}
use Rattle.tests_meaning.specs.RulesOfValues.{pair, with_pairs}
use Rattle.tests_meaning.specs.RulesOfStatements.{for}

-- int f(int i){int t[3]={0};return t[i];}
abbrev pub all_zero : Program
all_zero = program (function (ints 1) (t.NumberResult Int)
    (int ∷ object (Array 3 (Scalar Int)) ∷ [])
    (declares (record { slot = slot 1; cells = 3; value = Some (t.ZeroInitializer (num 0) 3) } ∷ [])
    ∷ gives (read (item (local 1) 3 (var 0))) ∷ []) ∷ [])

-- int f(void){int x={0};return x;}: also of a scalar
abbrev pub zero_scalar : Program
zero_scalar = program (of_ints 0 1
    (declares (record { slot = slot 0; cells = 1; value = Some (t.ZeroInitializer (num 0) 1) } ∷ [])
    ∷ gives (read (local 0)) ∷ []) ∷ [])

-- struct S{int a;int b;};int f(void){struct S s;s.b=3;struct S t=s;return t.b;}, or with the member
-- a: a structure is copied with what is unset in it
abbrev pub from_structure : ℕ → Program
from_structure i = with_pairs (function [] (t.NumberResult Int) (object pair ∷ object pair ∷ [])
    (declares (plain 0 2 ∷ []) ∷ does (set (member (local 0) 1) (num 3))
    ∷ declares (record {
      slot = slot 1;
      cells = 2;
      value = Some (t.StructureInitializer (t.Stored (local 0)) 2);
    } ∷ [])
    ∷ gives (read (member (local 1) i)) ∷ []) ∷ [])

-- int f(int n){int i,s;for(i=0,s=0;i<n;i+=1,s+=i);return s;}: clauses from the left
abbrev pub two_clauses : Program
two_clauses = program (of_ints 1 3 (declares (plain 1 1 ∷ plain 2 1 ∷ [])
    ∷ for (set (local 1) (num 0) ∷ set (local 2) (num 0) ∷ []) (Some (two Lt (var 1) (var 0)))
    (add (local 1) (num 1) ∷ add (local 2) (var 1) ∷ []) (t.Null here)
    ∷ gives (var 2) ∷ []) ∷ [])

-- static int t[2][2]={{1,2},{3}};int f(int i,int j){return t[i][j];}
abbrev pub inner_static : Program
inner_static = record {
  functions = of_ints 2 2
      (gives (read (item (t.Item (static 0) 2 2 (var 0) here) 2 (var 1))) ∷ []) ∷ [];
  statics = record {
    object = object (Array 2 (Array 2 (Scalar Int)));
    initial = pos 1 ∷ pos 2 ∷ pos 3 ∷ pos 0 ∷ [];
  } ∷ [];
  structures = [];
}

-- struct S{int a[2];int b;};static struct S t[2]={{{1,2},3},{{4,5},6}};
-- int f(int i,int j){return j<2?t[i].a[j]:t[i].b;}: parts of different sizes, one after the other
abbrev pub array_and_int : ObjectType
array_and_int = Structure 0 (members (Array 2 (Scalar Int)) (members (Scalar Int) no_members))

abbrev pub chosen : Place
chosen = t.Item (static 0) 2 3 (var 0) here

abbrev pub static_structures : Program
static_structures = record {
  functions = of_ints 2 2 (gives (choice (two Lt (var 1) (num 2))
      (read (item (t.Member chosen 0 0 here) 2 (var 1))) (read (t.Member chosen 1 2 here))) ∷ [])
      ∷ [];
  statics = record {
    object = object (Array 2 array_and_int);
    initial = pos 1 ∷ pos 2 ∷ pos 3 ∷ pos 4 ∷ pos 5 ∷ pos 6 ∷ [];
  } ∷ [];
  structures = array_and_int ∷ [];
}

-- int f(int a){a<<=2L;return a;}: the number of places is not converted
abbrev pub shifted : Program
shifted = program (of_ints 1 1
    (does (t.Update (local 0) Int (operator.Shift Left) Int (t.Constant (pos 2) Long here) here)
    ∷ gives (var 0) ∷ []) ∷ [])

-- unsigned f(unsigned a){a-=1u;return a;}: a difference of unsigned numbers wraps
abbrev pub wrapped : Program
wrapped = program (function (t.NumberParameter UInt ∷ []) (t.NumberResult UInt)
    (object (Scalar UInt) ∷ [])
    (does (t.Update (local 0) UInt (operator.Binary Sub) UInt (t.Constant (pos 1) UInt here) here)
    ∷ gives (t.Read (local 0) UInt) ∷ []) ∷ [])

abbrev pub rows : List Row
rows =
    calls all_zero 0 (pos 2 ∷ []) (gave (pos 0) 97 (Entered 0 ∷ Started 0 ∷ Started 1
    ∷ Exited 0 ∷ []))
    ∷ calls zero_scalar 0 [] (gave (pos 0) 97 (Entered 0 ∷ Started 0 ∷ Started 1 ∷ Exited 0 ∷ []))
    ∷ calls (from_structure 1) 0 [] (gave (pos 3) 96 (Entered 0 ∷ Started 0 ∷ Started 1 ∷ Started 2
    ∷ Exited 0 ∷ []))
    ∷ calls (from_structure 0) 0 [] (trapped Unset 96 (Entered 0 ∷ Started 0 ∷ Started 1
    ∷ Started 2 ∷ []))
    ∷ calls two_clauses 0 (pos 2 ∷ []) (gave (pos 3) 92 (Entered 0 ∷ Started 0
    ∷ evaluated 0 (T ∷ []) true ∷ Started 1 ∷ evaluated 0 (T ∷ []) true ∷ Started 1
    ∷ evaluated 0 (F ∷ []) false ∷ Started 2 ∷ Exited 0 ∷ []))
    ∷ calls inner_static 0 (pos 1 ∷ pos 0 ∷ []) (gave (pos 3) 98 (Entered 0 ∷ Started 0
    ∷ Exited 0 ∷ []))
    ∷ calls inner_static 0 (pos 0 ∷ pos 1 ∷ []) (gave (pos 2) 98 (Entered 0 ∷ Started 0
    ∷ Exited 0 ∷ []))
    ∷ calls static_structures 0 (pos 0 ∷ pos 1 ∷ []) (gave (pos 2) 98 (Entered 0 ∷ Started 0
    ∷ evaluated 0 (T ∷ []) true ∷ Exited 0 ∷ []))
    ∷ calls static_structures 0 (pos 1 ∷ pos 0 ∷ []) (gave (pos 4) 98 (Entered 0 ∷ Started 0
    ∷ evaluated 0 (T ∷ []) true ∷ Exited 0 ∷ []))
    ∷ calls static_structures 0 (pos 0 ∷ pos 2 ∷ []) (gave (pos 3) 98 (Entered 0 ∷ Started 0
    ∷ evaluated 0 (F ∷ []) false ∷ Exited 0 ∷ []))
    ∷ calls static_structures 0 (pos 1 ∷ pos 2 ∷ []) (gave (pos 6) 98 (Entered 0 ∷ Started 0
    ∷ evaluated 0 (F ∷ []) false ∷ Exited 0 ∷ []))
    ∷ calls shifted 0 (pos 3 ∷ []) (gave (pos 12) 97 (Entered 0 ∷ Started 0 ∷ Started 1
    ∷ Exited 0 ∷ []))
    ∷ calls wrapped 0 (pos 0 ∷ []) (gave (pos 4294967295) 97 (Entered 0 ∷ Started 0 ∷ Started 1
    ∷ Exited 0 ∷ []))
    ∷ []
