-- A program with each probe, its map and its tree, all written by hand from the text:
--
--     int g(int a,int b){return a&&b;}
--     void f(int n){int x=n<1;int y;;for(int i=0;i<2;i+=1){if(n)continue;else break;}
--     switch(n){case 1:x=2;break;case 2:switch(x){case 7:;}case 3:y=3;}do x-=1;while(x>0);
--     while(!(n||x))g(x,y);switch(x){default:return;}}
--     void h(void){}
--
-- without the ends of the lines. Its numbers:
--
-- | Bits | Of what, in the order of the text |
-- |---|---|
-- | 0 to 2 | the entries of g, f and h |
-- | 3 to 5 | the exits: both `return`, the closing brace of h |
-- | 6 to 24 | the counted statements: one in g, and in f those from `int x=n<1;` to the last `return` |
-- | 25 to 31 | the labels: `switch` for its absent `default`, `case 1`, `case 2`, `switch`, `case 7`,
-- `case 3`, `default` |
-- | 32 to 34 | the paths of `a&&b`: TT, TF, F- |
-- | 35 to 42 | two each of `n<1`, `i<2`, `n` and `x>0` |
-- | 43 to 45 | the paths of `!(n||x)`: T-, FT, FF |
--
-- g has the register 0 for its decision. f has 0 to 4 for its decisions, and 5 to 7 for its switches.
use Rattle.std.specs.Prelude.{◌≡◌, ℕ, pos, true, List, [], ◌∷◌, Some, None}
use Rattle.mc_span.specs.declared.span.Span.{Span}
use Rattle.mc_value.specs.declared.int_type.IntType.TheVariants.{Int}
use Rattle.mc_value.specs.declared.operators.BinOp.{BinOp}
use Rattle.mc_value.specs.declared.operators.BinOp.TheVariants.{Add, Sub, Lt, Gt}
use Rattle.mc_cond.specs.Tree.{Leaf}
use Rattle.mc_cond.specs.Tree as cond
use Rattle.mc_typed.specs.declared.operators.Operator.TheVariants.{Binary}
use Rattle.mc_typed.specs.declared.operators.LogicOperator.TheVariants.{And, Or}
use Rattle.mc_typed.specs.declared.probes.Mark.{Mark}
use Rattle.mc_typed.specs.declared.probes.Probe.TheVariants as probe
use Rattle.mc_typed.specs.Examples.{at, slot, local, constant, scalar}
use Rattle.mc_typed.specs.Tree.{Program, Object}
use Rattle.mc_typed.specs.Tree as typed
use Rattle.mc_probe.specs.Tree.{Tree}
use Rattle.mc_probe.specs.Tree as probed
use Rattle.mc_probe.specs.Maps.{Map, Mapped}
use Rattle.mc_probe.specs.Table.{instrumented}
use Rattle.tests_probe.specs.Followed.{map_of}

-- ---- the typed program

abbrev pub place : ℕ → Span → typed.Place
place k span = typed.Local (slot k k) span

abbrev pub two : BinOp → typed.Expression → typed.Expression → Span → typed.Expression
two operator e f span = typed.Binary (Binary operator) Int e f span

abbrev pub body : List typed.Statement → typed.Statements
body [] = typed.no_statements
body (s ∷ rest) = typed.statements s (body rest)

abbrev pub set : ℕ → Span → typed.Expression → Span → typed.Effect
set k name e span = typed.Assign (place k name) Int e span

abbrev pub changed : BinOp → ℕ → Span → typed.Expression → Span → typed.Effect
changed operator k name e span = typed.Update (place k name) Int (Binary operator) Int e span

abbrev pub objects : List Object
objects = scalar 0 ∷ scalar 1 ∷ scalar 2 ∷ scalar 3 ∷ []

abbrev pub program : Program
program = record {
  functions =
      record {
        name = 103 ∷ [];
        name_span = at 4 5;
        parameters = typed.NumberParameter Int ∷ typed.NumberParameter Int ∷ [];
        result = typed.NumberResult Int;
        objects = scalar 0 ∷ scalar 1 ∷ [];
        body = body (typed.Return (typed.ReturnNumber
            (typed.Logic And (local 0 (at 26 27)) (local 1 (at 29 30)) (at 26 30))) (at 19 31) ∷ []);
        closing = at 31 32;
      }
      ∷ record {
        name = 102 ∷ [];
        name_span = at 37 38;
        parameters = typed.NumberParameter Int ∷ [];
        result = typed.NoResult;
        objects = objects;
        body = body
            (typed.Declaration (record {
              slot = slot 1 1;
              cells = 1;
              value = Some (typed.NumberInitializer
                  (two Lt (local 0 (at 52 53)) (constant 1 (at 54 55)) (at 52 55)));
            } ∷ []) (at 46 56)
            ∷ typed.Declaration (record { slot = slot 2 2; cells = 1; value = None } ∷ []) (at 56 62)
            ∷ typed.Null (at 62 63)
            ∷ typed.For (typed.StartDeclaration (record {
              slot = slot 3 3;
              cells = 1;
              value = Some (typed.NumberInitializer (constant 0 (at 73 74)));
            } ∷ [])) (Some (two Lt (local 3 (at 75 76)) (constant 2 (at 77 78)) (at 75 78)))
            (changed Add 3 (at 79 80) (constant 1 (at 82 83)) (at 79 83) ∷ [])
            (typed.Compound (body (typed.IfElse (local 0 (at 88 89)) (typed.Continue (at 90 99))
            (typed.Break (at 104 110)) (at 85 87) (at 85 110) ∷ [])) (at 84 111))
            (at 63 66) (at 63 111)
            ∷ typed.Switch (local 0 (at 118 119)) (body
            (typed.Label (Some (pos 1)) (at 121 128)
            ∷ typed.EffectStatement (set 1 (at 128 129) (constant 2 (at 130 131)) (at 128 131))
            (at 128 132)
            ∷ typed.Break (at 132 138)
            ∷ typed.Label (Some (pos 2)) (at 138 145)
            ∷ typed.Switch (local 1 (at 152 153)) (body (typed.Label (Some (pos 7)) (at 155 162)
            ∷ typed.Null (at 162 163) ∷ [])) (at 145 151) (at 145 164)
            ∷ typed.Label (Some (pos 3)) (at 164 171)
            ∷ typed.EffectStatement (set 2 (at 171 172) (constant 3 (at 173 174)) (at 171 174))
            (at 171 175) ∷ []))
            (at 111 117) (at 111 176)
            ∷ typed.DoWhile (typed.EffectStatement
            (changed Sub 1 (at 179 180) (constant 1 (at 182 183)) (at 179 183)) (at 179 184))
            (two Gt (local 1 (at 190 191)) (constant 0 (at 192 193)) (at 190 193))
            (at 176 178) (at 176 195)
            ∷ typed.For (typed.StartEffects []) (Some (typed.Not (typed.Logic Or (local 0 (at 203 204))
            (local 1 (at 206 207)) (at 203 207)) (at 201 208))) []
            (typed.EffectStatement (typed.NumberEffect (typed.Call (typed.call 0
            (typed.arguments (typed.NumberArgument (local 1 (at 211 212)))
            (typed.arguments (typed.NumberArgument (local 2 (at 213 214))) typed.no_arguments)) None
            (at 209 215)) Int) true) (at 209 216))
            (at 195 200) (at 195 216)
            ∷ typed.Switch (local 1 (at 223 224)) (body (typed.Label None (at 226 234)
            ∷ typed.Return typed.ReturnNothing (at 234 241) ∷ [])) (at 216 222) (at 216 242)
            ∷ []);
        closing = at 242 243;
      }
      ∷ record {
        name = 104 ∷ [];
        name_span = at 248 249;
        parameters = [];
        result = typed.NoResult;
        objects = [];
        body = typed.no_statements;
        closing = at 256 257;
      }
      ∷ [];
  statics = [];
  structures = [];
}

-- ---- its map

-- a decision of one condition, which stands where its root stands
abbrev pub single : ℕ → ℕ → Span → Mapped
single base f root = record {
  decision = record { root = root; function = f; tree = Leaf 0; conditions = root ∷ [] };
  base = base;
}

abbrev pub map : Map
map = record {
  entries = at 4 5 ∷ at 37 38 ∷ at 248 249 ∷ [];
  exits = at 19 31 ∷ at 234 241 ∷ at 256 257 ∷ [];
  statements = at 19 31 ∷ at 46 56 ∷ at 62 63 ∷ at 63 66 ∷ at 85 87 ∷ at 90 99 ∷ at 104 110
      ∷ at 111 117 ∷ at 128 132 ∷ at 132 138 ∷ at 145 151 ∷ at 162 163 ∷ at 171 175 ∷ at 176 178
      ∷ at 179 184 ∷ at 195 200 ∷ at 209 216 ∷ at 216 222 ∷ at 234 241 ∷ [];
  labels = at 111 117 ∷ at 121 128 ∷ at 138 145 ∷ at 145 151 ∷ at 155 162 ∷ at 164 171 ∷ at 226 234
      ∷ [];
  decisions =
      record {
        decision = record {
          root = at 26 30;
          function = 0;
          tree = cond.And (Leaf 0) (Leaf 1);
          conditions = at 26 27 ∷ at 29 30 ∷ [];
        };
        base = 32;
      }
      ∷ single 35 1 (at 52 55)
      ∷ single 37 1 (at 75 78)
      ∷ single 39 1 (at 88 89)
      ∷ single 41 1 (at 190 193)
      ∷ record {
        decision = record {
          root = at 201 208;
          function = 1;
          tree = cond.Not (cond.Or (Leaf 0) (Leaf 1));
          conditions = at 203 204 ∷ at 206 207 ∷ [];
        };
        base = 43;
      }
      ∷ [];
  bits = 46;
}

-- ---- its tree with probes

abbrev pub var : ℕ → Span → probed.Expression
var k span = probed.Read (probed.Local (slot k k) span) Int

abbrev pub number : ℕ → Span → probed.Expression
number n span = probed.Constant (pos n) Int span

abbrev pub binary : BinOp → probed.Expression → probed.Expression → Span → probed.Expression
binary operator e f span = probed.Binary (Binary operator) Int e f span

-- MCDC_D(r,base,e), MCDC_C(r,0,false,e) and a decision that is one condition
abbrev pub decision : ℕ → ℕ → probed.Expression → probed.Expression
decision r base e = probed.Probe (probe.Decision r base) e

abbrev pub condition : ℕ → ℕ → probed.Expression → probed.Expression
condition r on_false e = probed.Probe (probe.Condition r 0 on_false) e

abbrev pub alone : ℕ → ℕ → probed.Expression → probed.Expression
alone r base e = decision r base (condition r 1 e)

abbrev pub items : List probed.Statement → probed.Statements
items [] = probed.no_statements
items (s ∷ rest) = probed.statements s (items rest)

abbrev pub mark : ℕ → ℕ → Mark
mark r bit = record { register = r; bit = bit }

abbrev pub stored : ℕ → Span → probed.Expression → Span → probed.Effect
stored k name e span = probed.Assign (probed.Local (slot k k) name) Int e span

abbrev pub updated : BinOp → ℕ → Span → probed.Expression → Span → probed.Effect
updated operator k name e span =
    probed.Update (probed.Local (slot k k) name) Int (Binary operator) Int e span

abbrev pub tree : Tree
tree = record {
  program = record {
    functions =
        record {
          name = 103 ∷ [];
          name_span = at 4 5;
          parameters = typed.NumberParameter Int ∷ typed.NumberParameter Int ∷ [];
          result = typed.NumberResult Int;
          objects = scalar 0 ∷ scalar 1 ∷ [];
          body = items (probed.Return (probed.ReturnNumber (decision 0 32 (probed.Logic And
              (condition 0 2 (var 0 (at 26 27))) (condition 0 1 (var 1 (at 29 30))) (at 26 30))))
              (at 19 31) (Some 6) (Some 3) ∷ []);
          closing = at 31 32;
          registers = 1;
          entry = Some 0;
          exit = None;
        }
        ∷ record {
          name = 102 ∷ [];
          name_span = at 37 38;
          parameters = typed.NumberParameter Int ∷ [];
          result = typed.NoResult;
          objects = objects;
          body = items
              (probed.Declaration (record {
                slot = slot 1 1;
                cells = 1;
                value = Some (probed.NumberInitializer (alone 0 35
                    (binary Lt (var 0 (at 52 53)) (number 1 (at 54 55)) (at 52 55))));
              } ∷ []) (at 46 56) (Some 7)
              ∷ probed.Declaration (record { slot = slot 2 2; cells = 1; value = None } ∷ [])
              (at 56 62) None
              ∷ probed.Null (at 62 63) (Some 8)
              ∷ probed.For (probed.StartDeclaration (record {
                slot = slot 3 3;
                cells = 1;
                value = Some (probed.NumberInitializer (number 0 (at 73 74)));
              } ∷ []))
              (Some (alone 1 37 (binary Lt (var 3 (at 75 76)) (number 2 (at 77 78)) (at 75 78))))
              (updated Add 3 (at 79 80) (number 1 (at 82 83)) (at 79 83) ∷ [])
              (probed.Compound (items (probed.IfElse (alone 2 39 (var 0 (at 88 89)))
              (probed.Continue (at 90 99) (Some 11)) (probed.Break (at 104 110) (Some 12)) (at 85 87)
              (at 85 110) (Some 10) ∷ [])) (at 84 111))
              (at 63 66) (at 63 111) (Some 9)
              ∷ probed.Switch (probed.Probe (probe.Switch 5) (var 0 (at 118 119))) (items
              (probed.Label (Some (pos 1)) (at 121 128) (Some (mark 5 26))
              ∷ probed.EffectStatement (stored 1 (at 128 129) (number 2 (at 130 131)) (at 128 131))
              (at 128 132) (Some 14)
              ∷ probed.Break (at 132 138) (Some 15)
              ∷ probed.Label (Some (pos 2)) (at 138 145) (Some (mark 5 27))
              ∷ probed.Switch (probed.Probe (probe.Switch 6) (var 1 (at 152 153))) (items
              (probed.Label (Some (pos 7)) (at 155 162) (Some (mark 6 29))
              ∷ probed.Null (at 162 163) (Some 17) ∷ [])) (at 145 151) (at 145 164) (Some 16)
              (Some (mark 6 28))
              ∷ probed.Label (Some (pos 3)) (at 164 171) (Some (mark 5 30))
              ∷ probed.EffectStatement (stored 2 (at 171 172) (number 3 (at 173 174)) (at 171 174))
              (at 171 175) (Some 18) ∷ []))
              (at 111 117) (at 111 176) (Some 13) (Some (mark 5 25))
              ∷ probed.DoWhile (probed.EffectStatement
              (updated Sub 1 (at 179 180) (number 1 (at 182 183)) (at 179 183)) (at 179 184)
              (Some 20))
              (alone 3 41 (binary Gt (var 1 (at 190 191)) (number 0 (at 192 193)) (at 190 193)))
              (at 176 178) (at 176 195) (Some 19)
              ∷ probed.For (probed.StartEffects []) (Some (decision 4 43 (probed.Not (probed.Logic Or
              (condition 4 1 (var 0 (at 203 204))) (condition 4 1 (var 1 (at 206 207)))
              (at 203 207)) (at 201 208)))) []
              (probed.EffectStatement (probed.NumberEffect (probed.Call (probed.call 0
              (probed.arguments (probed.NumberArgument (var 1 (at 211 212)))
              (probed.arguments (probed.NumberArgument (var 2 (at 213 214))) probed.no_arguments)) None
              (at 209 215)) Int) true) (at 209 216) (Some 22))
              (at 195 200) (at 195 216) (Some 21)
              ∷ probed.Switch (probed.Probe (probe.Switch 7) (var 1 (at 223 224))) (items
              (probed.Label None (at 226 234) (Some (mark 7 31))
              ∷ probed.Return probed.ReturnNothing (at 234 241) (Some 24) (Some 4) ∷ []))
              (at 216 222) (at 216 242) (Some 23) None
              ∷ []);
          closing = at 242 243;
          registers = 8;
          entry = Some 1;
          exit = None;
        }
        ∷ record {
          name = 104 ∷ [];
          name_span = at 248 249;
          parameters = [];
          result = typed.NoResult;
          objects = [];
          body = probed.no_statements;
          closing = at 256 257;
          registers = 0;
          entry = Some 2;
          exit = Some 5;
        }
        ∷ [];
    statics = [];
    structures = [];
  };
  bits = 46;
}

-- ---- what the definitions give

abbrev pub MapIsThat : Type 0
MapIsThat = map_of program ≡ map

abbrev pub TreeIsThat : Type 0
TreeIsThat = instrumented map program ≡ tree

-- ---- a text of one function

-- `int f(int a,int b){return a&&b;}`: its entry has the bit 0, its exit 1, its statement 2, and the
-- paths TT, TF and F- of `a&&b` have 3 to 5
abbrev pub short : Program
short = record {
  functions = record {
    name = 102 ∷ [];
    name_span = at 4 5;
    parameters = typed.NumberParameter Int ∷ typed.NumberParameter Int ∷ [];
    result = typed.NumberResult Int;
    objects = scalar 0 ∷ scalar 1 ∷ [];
    body = body (typed.Return (typed.ReturnNumber
        (typed.Logic And (local 0 (at 26 27)) (local 1 (at 29 30)) (at 26 30))) (at 19 31) ∷ []);
    closing = at 31 32;
  } ∷ [];
  statics = [];
  structures = [];
}

abbrev pub short_map : Map
short_map = record {
  entries = at 4 5 ∷ [];
  exits = at 19 31 ∷ [];
  statements = at 19 31 ∷ [];
  labels = [];
  decisions = record {
    decision = record {
      root = at 26 30;
      function = 0;
      tree = cond.And (Leaf 0) (Leaf 1);
      conditions = at 26 27 ∷ at 29 30 ∷ [];
    };
    base = 3;
  } ∷ [];
  bits = 6;
}

abbrev pub short_tree : Tree
short_tree = record {
  program = record {
    functions = record {
      name = 102 ∷ [];
      name_span = at 4 5;
      parameters = typed.NumberParameter Int ∷ typed.NumberParameter Int ∷ [];
      result = typed.NumberResult Int;
      objects = scalar 0 ∷ scalar 1 ∷ [];
      body = items (probed.Return (probed.ReturnNumber (decision 0 3 (probed.Logic And
          (condition 0 2 (var 0 (at 26 27))) (condition 0 1 (var 1 (at 29 30))) (at 26 30))))
          (at 19 31) (Some 2) (Some 1) ∷ []);
      closing = at 31 32;
      registers = 1;
      entry = Some 0;
      exit = None;
    } ∷ [];
    statics = [];
    structures = [];
  };
  bits = 6;
}

abbrev pub ShortMapIsThat : Type 0
ShortMapIsThat = map_of short ≡ short_map

abbrev pub ShortTreeIsThat : Type 0
ShortTreeIsThat = instrumented short_map short ≡ short_tree
