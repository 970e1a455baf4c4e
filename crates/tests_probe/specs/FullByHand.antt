-- Programs with operators that are evaluated in full: bits, a map and a tree, all written by hand
-- from the text.
use Rattle.std.specs.Prelude.{◌≡◌, pos, [], ◌∷◌, map, Some, None}
use Rattle.mc_value.specs.declared.int_type.IntType.TheVariants.{Int}
use Rattle.mc_value.specs.declared.operators.BinOp.{BinOp}
use Rattle.mc_value.specs.declared.operators.BinOp.TheVariants.{Lt, Xor}
use Rattle.mc_cond.specs.Tree.{Leaf}
use Rattle.mc_cond.specs.Tree as cond
use Rattle.mc_typed.specs.declared.operators.LogicOperator.TheVariants as logic
use Rattle.mc_typed.specs.Examples.{at, local, constant, scalar}
use Rattle.mc_typed.specs.Tree.{Program}
use Rattle.mc_typed.specs.Tree as typed
use Rattle.mc_probe.specs.Tree.{Tree}
use Rattle.mc_probe.specs.Tree as probed
use Rattle.mc_probe.specs.Maps.{Map}
use Rattle.mc_probe.specs.Table.{instrumented}
use Rattle.tests_meaning.specs.RulesOfFullOperators as full
use Rattle.tests_probe.specs.Followed.{map_of}
use Rattle.tests_probe.specs.Bits.{bits}
use Rattle.tests_probe.specs.ByHand.{two, body, var, number, binary, decision, condition, items}

-- ---- two conditions

-- The bits that `int f(int a,int b){return (a<1) OP (b<1);}` hits for (0, 0), (0, 1), (1, 0) and
-- (1, 1): its entry has the bit 0, its exit 1, its statement 2, and the paths TT, TF, FT and FF
-- have 3 to 6. Where `a<1` is false 2 is added, and where `b<1` is false 1.
abbrev pub PathsOf : BinOp → Type 0
PathsOf operator =
    map (λ arguments. bits (full.between operator) 0 arguments)
    ((pos 0 ∷ pos 0 ∷ []) ∷ (pos 0 ∷ pos 1 ∷ []) ∷ (pos 1 ∷ pos 0 ∷ []) ∷ (pos 1 ∷ pos 1 ∷ []) ∷ [])
    ≡ (0 ∷ 2 ∷ 3 ∷ 1 ∷ []) ∷ (0 ∷ 2 ∷ 4 ∷ 1 ∷ []) ∷ (0 ∷ 2 ∷ 5 ∷ 1 ∷ []) ∷ (0 ∷ 2 ∷ 6 ∷ 1 ∷ []) ∷ []

-- ---- an idle number

-- `int f(int a,int b,int c){return (a<1^b<1)&&c;}`: after a false `a<1` 4 is added, after a false
-- `b<1` 2, and after a false `c` 1. So TT- has 0, TFT 2, TFF 3, FTT 4, FTF 5 and FF- 6. No
-- evaluation has 1, which is the bit 4.
abbrev pub program : Program
program = record {
  functions = record {
    name = 102 ∷ [];
    name_span = at 4 5;
    parameters =
        typed.NumberParameter Int ∷ typed.NumberParameter Int ∷ typed.NumberParameter Int ∷ [];
    result = typed.NumberResult Int;
    objects = scalar 0 ∷ scalar 1 ∷ scalar 2 ∷ [];
    body = body (typed.Return (typed.ReturnNumber (typed.Logic logic.And
        (two Xor (two Lt (local 0 (at 33 34)) (constant 1 (at 35 36)) (at 33 36))
        (two Lt (local 1 (at 37 38)) (constant 1 (at 39 40)) (at 37 40)) (at 33 40))
        (local 2 (at 43 44)) (at 32 44))) (at 25 45) ∷ []);
    closing = at 45 46;
  } ∷ [];
  statics = [];
  structures = [];
}

abbrev pub its_map : Map
its_map = record {
  entries = at 4 5 ∷ [];
  exits = at 25 45 ∷ [];
  statements = at 25 45 ∷ [];
  labels = [];
  decisions = record {
    decision = record {
      root = at 32 44;
      function = 0;
      tree = cond.And (cond.FullXor (Leaf 0) (Leaf 1)) (Leaf 2);
      conditions = at 33 36 ∷ at 37 40 ∷ at 43 44 ∷ [];
    };
    base = 3;
  } ∷ [];
  bits = 10;
}

abbrev pub its_tree : Tree
its_tree = record {
  program = record {
    functions = record {
      name = 102 ∷ [];
      name_span = at 4 5;
      parameters =
          typed.NumberParameter Int ∷ typed.NumberParameter Int ∷ typed.NumberParameter Int ∷ [];
      result = typed.NumberResult Int;
      objects = scalar 0 ∷ scalar 1 ∷ scalar 2 ∷ [];
      body = items (probed.Return (probed.ReturnNumber (decision 0 3 (probed.Logic logic.And
          (binary Xor
          (condition 0 4 (binary Lt (var 0 (at 33 34)) (number 1 (at 35 36)) (at 33 36)))
          (condition 0 2 (binary Lt (var 1 (at 37 38)) (number 1 (at 39 40)) (at 37 40)))
          (at 33 40))
          (condition 0 1 (var 2 (at 43 44))) (at 32 44))))
          (at 25 45) (Some 2) (Some 1) ∷ []);
      closing = at 45 46;
      registers = 1;
      entry = Some 0;
      exit = None;
    } ∷ [];
    statics = [];
    structures = [];
  };
  bits = 10;
}

abbrev pub MapIsThat : Type 0
MapIsThat = map_of program ≡ its_map

abbrev pub TreeIsThat : Type 0
TreeIsThat = instrumented its_map program ≡ its_tree

-- ---- one operand that is Boolean

-- `int f(int a,int b){return (a<1)&b;}`: `&` is no operator of a decision, so `a<1` is a decision
-- of one condition, with its paths from 3 on, and `b` has no bits
abbrev pub MixedHits : Type 0
MixedHits =
    map (λ arguments. bits full.mixed 0 arguments)
    ((pos 0 ∷ pos 3 ∷ []) ∷ (pos 1 ∷ pos 3 ∷ []) ∷ [])
    ≡ (0 ∷ 2 ∷ 3 ∷ 1 ∷ []) ∷ (0 ∷ 2 ∷ 4 ∷ 1 ∷ []) ∷ []
