-- Worked programs, as their typed trees.
use Rattle.std.specs.Prelude.{ℕ, pos, true, false, [], ◌∷◌, Some, None}
use Rattle.mc_span.specs.declared.span.Span.{Span}
use Rattle.mc_value.specs.declared.int_type.IntType.TheVariants.{Int, Long}
use Rattle.mc_value.specs.declared.operators.BinOp.TheVariants.{Add, Sub, Lt}
use Rattle.mc_typed.specs.declared.operators.Operator.TheVariants.{Binary}
use Rattle.mc_typed.specs.declared.expressions.Slot.{Slot}
use Rattle.mc_typed.specs.Layout.{ObjectType, Scalar, Array, Structure, no_members, members}
use Rattle.mc_typed.specs.Tree.{Place, Expression, StructureValue, Statement, Object, Function, Program}
use Rattle.mc_typed.specs.Tree as typed
use Rattle.mc_typed.specs.Plans.{Call, Plan}

abbrev pub at : ℕ → ℕ → Span
at from to = record { start = from; end = to }

abbrev pub slot : ℕ → ℕ → Slot
slot k from = record { object = k; start = from }

-- the value of a local integer, and a constant, of type int
abbrev pub local : ℕ → Span → Expression
local k span = typed.Read (typed.Local (slot k k) span) Int

abbrev pub constant : ℕ → Span → Expression
constant n span = typed.Constant (pos n) Int span

abbrev pub scalar : ℕ → Object
scalar k = record { object_type = Scalar Int; cells = 1; start = k }

-- int f(int n){return n?f(n-1):0;}
abbrev pub recursive : Function
recursive = record {
  name = 102 ∷ [];
  name_span = (at 4 5);
  parameters = typed.NumberParameter Int ∷ [];
  result = typed.NumberResult Int;
  objects = scalar 0 ∷ [];
  body = typed.statements (typed.Return (typed.ReturnNumber (typed.Choice
      (local 0 (at 20 21))
      (typed.Call (typed.call 0 (typed.arguments
      (typed.NumberArgument (typed.Binary (Binary Sub) Int
      (local 0 (at 24 25)) (constant 1 (at 26 27)) (at 24 27))) typed.no_arguments) None (at 22 28))
      Int)
      (constant 0 (at 29 30)) Int (at 20 30))) (at 13 31)) typed.no_statements;
  closing = (at 31 32);
}

abbrev pub recursion : Program
recursion = record { functions = recursive ∷ []; statics = []; structures = [] }

-- int f(int n){int t[30000];t[0]=n;return n?f(n-1):0;}
abbrev pub array : Function
array = record {
  name = 102 ∷ [];
  name_span = (at 4 5);
  parameters = typed.NumberParameter Int ∷ [];
  result = typed.NumberResult Int;
  objects = scalar 0 ∷ record { object_type = Array 30000 (Scalar Int); cells = 30000; start = 1 }
      ∷ [];
  body = typed.statements (typed.Declaration
      (record { slot = slot 1 1; cells = 30000; value = None } ∷ [])
      (at 13 26))
      (typed.statements (typed.EffectStatement (typed.Assign
      (typed.Item (typed.Local (slot 1 1) (at 26 27)) 30000 1 (constant 0 (at 28 29)) (at 26 30))
      Int
      (local 0 (at 31 32)) (at 26 32)) (at 26 33))
      (typed.statements (typed.Return (typed.ReturnNumber (typed.Choice
      (local 0 (at 40 41))
      (typed.Call (typed.call 0 (typed.arguments
      (typed.NumberArgument (typed.Binary (Binary Sub) Int
      (local 0 (at 44 45)) (constant 1 (at 46 47)) (at 44 47))) typed.no_arguments) None (at 42 48))
      Int)
      (constant 0 (at 49 50)) Int (at 40 50))) (at 33 51)) typed.no_statements));
  closing = (at 51 52);
}

-- struct S{int a;};static struct S s;int g(void){s.a=9;return 1;}int h(struct S p,int q){return
-- p.a+q;}int f(void){s.a=2;return h(s,g());}
abbrev pub structure : ObjectType
structure = Structure 0 (members (Scalar Int) no_members)

abbrev pub stored : Span → Place
stored span = typed.Static (slot 0 0) span

abbrev pub setter : Function
setter = record {
  name = 103 ∷ [];
  name_span = (at 39 40);
  parameters = [];
  result = typed.NumberResult Int;
  objects = [];
  body = typed.statements (typed.EffectStatement
      (typed.Assign (typed.Member (stored (at 47 48)) 0 0 (at 47 50)) Int
      (constant 9 (at 51 52)) (at 47 52)) (at 47 53))
      (typed.statements (typed.Return (typed.ReturnNumber (constant 1 (at 60 61))) (at 53 62))
      typed.no_statements);
  closing = (at 62 63);
}

abbrev pub callee : Function
callee = record {
  name = 104 ∷ [];
  name_span = (at 67 68);
  parameters = typed.StructureParameter structure ∷ typed.NumberParameter Int ∷ [];
  result = typed.NumberResult Int;
  objects = record { object_type = structure; cells = 1; start = 0 } ∷ scalar 1 ∷ [];
  body = typed.statements (typed.Return (typed.ReturnNumber (typed.Binary (Binary Add) Int
      (typed.Read (typed.Member (typed.Local (slot 0 0) (at 94 95)) 0 0 (at 94 97)) Int)
      (local 1 (at 98 99)) (at 94 99))) (at 87 100)) typed.no_statements;
  closing = (at 100 101);
}

abbrev pub caller : Function
caller = record {
  name = 102 ∷ [];
  name_span = (at 105 106);
  parameters = [];
  result = typed.NumberResult Int;
  objects = record { object_type = structure; cells = 1; start = 0 } ∷ [];
  body = typed.statements
      (typed.EffectStatement (typed.Assign (typed.Member (stored (at 113 114)) 0 0 (at 113 116)) Int
      (constant 2 (at 117 118)) (at 113 118)) (at 113 119))
      (typed.statements (typed.Return (typed.ReturnNumber (typed.Call (typed.call 1
      (typed.arguments (typed.StructureArgument (typed.Stored (stored (at 128 129))) (slot 0 0))
      (typed.arguments (typed.NumberArgument
      (typed.Call (typed.call 0 typed.no_arguments None (at 130 133)) Int))
      typed.no_arguments))
      None (at 126 134)) Int)) (at 119 135)) typed.no_statements);
  closing = (at 135 136);
}

abbrev pub structures : Program
structures = record {
  functions = setter ∷ callee ∷ caller ∷ [];
  statics = record {
    object = record { object_type = structure; cells = 1; start = 0 };
    initial =
        pos 0 ∷ [];
  } ∷ [];
  structures = structure ∷ [];
}

-- int f(int n){int x=n+1;switch(n){case 1:for(;x<9;x++);default:return (long)x;}}
abbrev pub constructs : Function
constructs = record {
  name = 102 ∷ [];
  name_span = (at 4 5);
  parameters = typed.NumberParameter Int ∷ [];
  result = typed.NumberResult Int;
  objects = scalar 0 ∷ scalar 1 ∷ [];
  body = typed.statements (typed.Declaration (record {
    slot = slot 1 1;
    cells = 1;
    value = Some (typed.NumberInitializer (typed.Binary (Binary Add) Int
        (local 0 (at 19 20)) (constant 1 (at 21 22)) (at 19 22)));
  } ∷ []) (at 13 23))
      (typed.statements (typed.Switch (local 0 (at 30 31))
      (typed.statements (typed.Label (Some (pos 1)) (at 33 40))
      (typed.statements
      (typed.For (typed.StartEffects [])
      (Some (typed.Binary (Binary Lt) Int (local 1 (at 45 46)) (constant 9 (at 47 48)) (at 45 48)))
      (typed.Update (typed.Local (slot 1 1) (at 49 50)) Int (Binary Add) Int (constant 1 (at 50 52))
      (at 49 52) ∷ [])
      (typed.Null (at 53 54)) (at 40 43) (at 40 54))
      (typed.statements (typed.Label None (at 54 62))
      (typed.statements
      (typed.Return (typed.ReturnNumber
      (typed.Convert Int false (typed.Convert Long true (local 1 (at 75 76)) (at 69 76))
      (at 69 76)))
      (at 62 77))
      typed.no_statements)))) (at 23 29) (at 23 78))
      typed.no_statements);
  closing = (at 78 79);
}

-- the call f(84) with the value 0 expected, and a call whose argument no int holds
abbrev pub plan : Call → Plan
plan c = record { name = 116 ∷ 49 ∷ []; calls = c ∷ []; inputs = []; fuel = 1000000 }

abbrev pub deep_plan : Plan
deep_plan = plan
    (record { function = 0; arguments = pos 84 ∷ []; expect = Some (pos 0); output = None })

abbrev pub wide_plan : Plan
wide_plan = plan
    (record { function = 0; arguments = pos 2147483648 ∷ []; expect = None; output = None })

-- a call of a function with a structure parameter
abbrev pub structure_plan : Plan
structure_plan =
    plan (record { function = 1; arguments = pos 1 ∷ pos 1 ∷ []; expect = None; output = None })
