-- Bits that were counted by hand, and trees with other probes than a program's own.
use Rattle.std.specs.Prelude.{◌≡◌, ℕ, ℤ, pos, false, List, [], ◌∷◌, Some, None}
use Rattle.mc_value.specs.declared.int_type.IntType.TheVariants.{Int, Long}
use Rattle.mc_value.specs.declared.operators.BinOp.TheVariants.{Sub}
use Rattle.mc_typed.specs.declared.operators.Operator.TheVariants.{Binary}
use Rattle.mc_typed.specs.declared.operators.LogicOperator.TheVariants.{And}
use Rattle.mc_typed.specs.declared.probes.Probe.TheVariants as probe
use Rattle.mc_typed.specs.declared.plans.Ending.TheVariants.{Returned}
use Rattle.mc_typed.specs.Layout.{Scalar}
use Rattle.mc_typed.specs.Tree.{Object}
use Rattle.mc_typed.specs.Tree as t
use Rattle.mc_probe.specs.Tree as p
use Rattle.mc_probe.specs.Tests.{run_of}
use Rattle.tests_meaning.specs.Words.{here, slot, int, ints}
use Rattle.tests_meaning.specs.Seen.{one_call}
use Rattle.tests_meaning.specs.Rows as rows
use Rattle.tests_probe.specs.Followed.{Hit, hit_of, instrumented_run}

-- the bits that a call hits
abbrev pub bits : t.Program → ℕ → List ℤ → List ℕ
bits program f arguments = (instrumented_run program (one_call f arguments [] 100)).hits

-- `int g(int v,int w){..}int f(int x,int p,int q){..}`: entries from 0, exits from 2, statements
-- from 4, the paths of `x < 3` from 8 and of `p && q` from 10
abbrev pub Anywhere : Type 0
Anywhere =
    bits rows.anywhere 1 (pos 2 ∷ pos 1 ∷ pos 1 ∷ [])
    ≡ 1 ∷ 5 ∷ 8 ∷ 6 ∷ 10 ∷ 0 ∷ 4 ∷ 2 ∷ 7 ∷ 3 ∷ []

-- `int f(int p,int q,int r,int s){return (p<q) == (r<s);}`: the whole from 3, `p<q` from 5, `r<s`
-- from 7
abbrev pub Compared : Type 0
Compared =
    bits rows.compared 0 (pos 1 ∷ pos 2 ∷ pos 1 ∷ pos 2 ∷ []) ≡ 0 ∷ 2 ∷ 5 ∷ 7 ∷ 3 ∷ 1 ∷ []

-- `int f(int n){return n>0 && f(n-1);}`: the vectors `TT=T`, `TF=F` and `F-=F` have the bits 3, 4
-- and 5; each activation has a register of its own
abbrev pub Again : Type 0
Again =
    bits rows.again 0 (pos 3 ∷ [])
    ≡ 0 ∷ 2 ∷ 0 ∷ 2 ∷ 0 ∷ 2 ∷ 0 ∷ 2 ∷ 5 ∷ 1 ∷ 4 ∷ 1 ∷ 4 ∷ 1 ∷ 4 ∷ 1 ∷ []

-- a decision that a trap cuts is not hit
abbrev pub Cut : Type 0
Cut = bits rows.cut 0 (pos 3 ∷ pos 0 ∷ []) ≡ 0 ∷ 2 ∷ 4 ∷ 3 ∷ []

-- ---- trees with other probes

-- a function of numbers without bits of its own, with these objects, registers and items
abbrev pub function : ℕ → List Object → ℕ → p.Statements → p.Function
function parameters objects registers body = record {
  name = [];
  name_span = here;
  parameters = ints parameters;
  result = t.NumberResult Int;
  objects = objects;
  body = body;
  closing = here;
  registers = registers;
  entry = None;
  exit = None;
}

abbrev pub tree : List p.Function → ℕ → p.Tree
tree functions n =
    record { program = record { functions = functions; statics = []; structures = [] }; bits = n }

abbrev pub gives : p.Expression → p.Statements
gives e = p.statements (p.Return (p.ReturnNumber e) here None None) p.no_statements

abbrev pub decision : ℕ → ℕ → p.Expression → p.Expression
decision register base e = p.Probe (probe.Decision register base) e

abbrev pub condition : ℕ → ℕ → ℕ → p.Expression → p.Expression
condition register on_true on_false e = p.Probe (probe.Condition register on_true on_false) e

abbrev pub number : ℕ → p.Expression
number n = p.Constant (pos n) Int here

abbrev pub var : ℕ → p.Expression
var k = p.Read (p.Local (slot k) here) Int

abbrev pub run : p.Tree → List ℤ → Hit
run x arguments = hit_of (run_of x (one_call 0 arguments [] 100))

-- it returned this, and hit these bits
abbrev pub gave : ℤ → ℕ → List ℕ → Hit
gave v fuel hits = record {
  run = record {
    ending = Returned;
    values = Some v ∷ [];
    output = [];
    fuel = fuel;
    events = [];
  };
  hits = hits;
}

-- int f(void){long x=4294967296;return MCDC_D(0,10,MCDC_C(0,5,7,x));}: the condition is true in its
-- own type, gives 1 and adds 5
abbrev pub of_long : p.Tree
of_long = tree (function 0
    (record { object_type = Scalar Long; cells = 1; start = 0 } ∷ []) 1
    (p.statements (p.Declaration (record {
      slot = slot 0;
      cells = 1;
      value = Some (p.NumberInitializer (p.Constant (pos 4294967296) Long here));
    } ∷ []) here None)
    (gives (p.Convert Int false (decision 0 10
    (condition 0 5 7 (p.Read (p.Local (slot 0) here) Long))) here))) ∷ []) 100

abbrev pub OfLong : Type 0
OfLong = run of_long [] ≡ gave (pos 1) 97 (15 ∷ [])

-- int f(int n){return MCDC_D(0,3,MCDC_C(0,4294967295,4294967290,n));}: sums wrap
abbrev pub wraps : p.Tree
wraps = tree (function 1 (int ∷ []) 1
    (gives (decision 0 3 (condition 0 4294967295 4294967290 (var 0)))) ∷ []) 4294967295

abbrev pub Wraps : Type 0
Wraps =
    (run wraps (pos 1 ∷ []) ≡ gave (pos 1) 98 (2 ∷ []))
    × (run wraps (pos 0 ∷ []) ≡ gave (pos 0) 98 (4294967293 ∷ []))

-- The condition adds twice: the register itself wraps.
abbrev pub wraps_inside : p.Tree
wraps_inside = tree (function 1 (int ∷ []) 1
    (gives (decision 0 0 (condition 0 4294967295 0 (condition 0 3 0 (var 0))))) ∷ []) 100

abbrev pub WrapsInside : Type 0
WrapsInside = run wraps_inside (pos 9 ∷ []) ≡ gave (pos 1) 98 (2 ∷ [])

-- with 5 bits the bit 5 is not hit, and 4 is
abbrev pub in_bits : p.Tree
in_bits = tree (function 1 (int ∷ []) 1 (gives (decision 0 4 (condition 0 0 1 (var 0)))) ∷ []) 5

abbrev pub InBits : Type 0
InBits =
    (run in_bits (pos 1 ∷ []) ≡ gave (pos 1) 98 (4 ∷ []))
    × (run in_bits (pos 0 ∷ []) ≡ gave (pos 0) 98 [])

-- int f(int n){return MCDC_D(0,0,MCDC_C(0,10,1,n) && f(n-1));}: the register of an outer activation
-- keeps its 10 while that of an inner one begins at 0
abbrev pub nested : p.Tree
nested = tree (function 1 (int ∷ []) 1 (gives (decision 0 0
    (p.Logic And (condition 0 10 1 (var 0))
    (p.Call (p.call 0 (p.arguments (p.NumberArgument
    (p.Binary (Binary Sub) Int (var 0) (number 1) here)) p.no_arguments) None here) Int)
    here))) ∷ []) 100

abbrev pub Nested : Type 0
Nested = run nested (pos 2 ∷ []) ≡ gave (pos 0) 94 (1 ∷ 10 ∷ 10 ∷ [])
