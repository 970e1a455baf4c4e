-- Functions and records for worked examples.
use Rattle.std.specs.Prelude.{ℕ, List, [], ◌∷◌, codes}
use Rattle.mc_value.specs.declared.int_type.IntType.TheVariants.{Bool, Int}
use Rattle.csv_records.specs.Rows.{Fields}
use Rattle.mc_typed.specs.Layout.{Scalar}
use Rattle.mc_typed.specs.Tree.{Function, Object, ParameterType, ResultType}
use Rattle.mc_typed.specs.Tree as typed

-- a function without statements; what objects it has does not matter to a tests file
abbrev pub with_result : ResultType → List ℕ → List ParameterType → Function
with_result result name parameters = record {
  name = name;
  name_span = record { start = 0; end = 0 };
  parameters = parameters;
  result = result;
  objects = [];
  body = typed.no_statements;
  closing = record { start = 0; end = 0 };
}

-- `int f(_Bool)`, `void v(void)` and `int t(int [])`
abbrev pub functions : List Function
functions =
    with_result (typed.NumberResult Int) (codes "f") (typed.NumberParameter Bool ∷ [])
    ∷ with_result typed.NoResult (codes "v") []
    ∷ with_result (typed.NumberResult Int) (codes "t") (typed.ArrayParameter (Scalar Int) ∷ [])
    ∷ []

-- the record `NAME,CALL,ARGUMENTS,INPUTS,EXPECT,`
abbrev pub fields : List ℕ → List ℕ → List ℕ → List ℕ → List ℕ → Fields
fields name call arguments inputs expect = name ∷ call ∷ arguments ∷ inputs ∷ expect ∷ [] ∷ []

-- the record `NAME,v,,,,`
abbrev pub calls_v : List ℕ → Fields
calls_v name = fields name (codes "v") [] [] []
