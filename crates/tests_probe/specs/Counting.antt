-- A program with its map by hand: `int f(int n){while(n>0)n--;return n;}`.
use Rattle.std.specs.Prelude.{◌≡◌, ℕ, pos, [], ◌∷◌, Some}
use Rattle.mc_value.specs.declared.int_type.IntType.TheVariants.{Int}
use Rattle.mc_value.specs.declared.operators.BinOp.TheVariants.{Sub, Gt}
use Rattle.mc_typed.specs.declared.operators.Operator.TheVariants.{Binary}
use Rattle.mc_typed.specs.declared.plans.Ending.TheVariants.{Returned, Fuel}
use Rattle.mc_typed.specs.Tree.{Program}
use Rattle.mc_typed.specs.Tree as t
use Rattle.mc_typed.specs.Examples.{at, slot, local, constant, scalar}
use Rattle.mc_cond.specs.Tree.{Leaf}
use Rattle.mc_probe.specs.Tree.{Tree}
use Rattle.mc_probe.specs.Tests.{run_of}
use Rattle.mc_probe.specs.Maps.{Map, IsMapOf}
use Rattle.mc_probe.specs.Table.{instrumented}
use Rattle.tests_meaning.specs.Seen.{one_call}
use Rattle.tests_probe.specs.Followed.{Hit, hit_of}

abbrev pub counting : Program
counting = record {
  functions = record {
    name = 102 ∷ [];
    name_span = at 4 5;
    parameters = t.NumberParameter Int ∷ [];
    result = t.NumberResult Int;
    objects = scalar 0 ∷ [];
    body = t.statements
        (t.For (t.StartEffects [])
        (Some (t.Binary (Binary Gt) Int (local 0 (at 19 20)) (constant 0 (at 21 22)) (at 19 22))) []
        (t.EffectStatement
        (t.Update (t.Local (slot 0 0) (at 23 24)) Int (Binary Sub) Int (constant 1 (at 24 26))
        (at 23 26))
        (at 23 27)) (at 13 18) (at 13 27))
        (t.statements (t.Return (t.ReturnNumber (local 0 (at 34 35))) (at 27 36)) t.no_statements);
    closing = at 36 37;
  } ∷ [];
  statics = [];
  structures = [];
}

abbrev pub counting_map : Map
counting_map = record {
  entries = at 4 5 ∷ [];
  exits = at 27 36 ∷ [];
  statements = at 13 18 ∷ at 23 27 ∷ at 27 36 ∷ [];
  labels = [];
  decisions = record {
    decision = record { root = at 19 22; function = 0; tree = Leaf 0; conditions = at 19 22 ∷ [] };
    base = 5;
  } ∷ [];
  bits = 7;
}

abbrev pub counted : Tree
counted = instrumented counting_map counting

-- this is the program's map
abbrev pub IsItsMap : Type 0
IsItsMap = IsMapOf counting counting_map

abbrev pub run : ℕ → Hit
run fuel = hit_of (run_of counted (one_call 0 (pos 2 ∷ []) [] fuel))

-- The entry has bit 0 and the exit bit 1, the statements have 2 to 4, the true path 5 and the false
-- one 6. Probes take no fuel: 8 units are enough, and 7 are not.
abbrev pub WithFuel : Type 0
WithFuel = run 8 ≡ record {
  run = record {
    ending = Returned;
    values = Some (pos 0) ∷ [];
    output = [];
    fuel = 0;
    events = [];
  };
  hits = 0 ∷ 2 ∷ 5 ∷ 3 ∷ 5 ∷ 3 ∷ 6 ∷ 4 ∷ 1 ∷ [];
}

abbrev pub WithoutFuel : Type 0
WithoutFuel = run 7 ≡ record {
  run = record { ending = Fuel; values = []; output = []; fuel = 0; events = [] };
  hits = 0 ∷ 2 ∷ 5 ∷ 3 ∷ 5 ∷ 3 ∷ 6 ∷ [];
}
