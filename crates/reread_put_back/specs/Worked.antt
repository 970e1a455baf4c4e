-- Worked probes: those of `int f(int a,int b){return a&&b;}`, a register that the function does not
-- have, probes that stand at no place, probes round an implied conversion, and sums of paths.
use Rattle.std.specs.Prelude.{◌≡◌, ℕ, ◌+◌, false, List, [], ◌∷◌, Some, None, Ok, Err, codes}
use Rattle.mc_span.specs.declared.span.Span.{Span}
use Rattle.mc_value.specs.declared.int_type.IntType.{IntType}
use Rattle.mc_value.specs.declared.int_type.IntType.TheVariants as int_type
use Rattle.mc_value.specs.declared.operators.BinOp.TheVariants as bits
use Rattle.mc_typed.specs.declared.operators.Operator.TheVariants as operator
use Rattle.mc_typed.specs.declared.operators.LogicOperator.TheVariants as logic
use Rattle.mc_typed.specs.declared.probes.Probe.TheVariants as probe
use Rattle.mc_typed.specs.Layout.{Scalar}
use Rattle.mc_typed.specs.Tree.{ArrayParameter, NumberParameter, NumberResult}
use Rattle.mc_typed.specs.Tree as typed
use Rattle.mc_probe.specs.Tree as probed
use Rattle.reread_pieces.specs.declared.piece.What.{What}
use Rattle.reread_pieces.specs.declared.piece.What.TheVariants as what
use Rattle.reread_pieces.specs.declared.placed.Placed.{Placed}
use Rattle.reread_put_back.specs.Back.{back, put_back}
use Rattle.reread_put_back.specs.Pens.{begun}
use Rattle.reread_put_back.specs.Sums.{paths}

abbrev span : ℕ → ℕ → Span
span start end = record { start = start; end = end }

abbrev at : ℕ → Span → What → Placed
at word place row = record { what = row; word = word; span = place }

-- ---- `int f(int a,int b){return a&&b;}`

abbrev local : ℕ → IntType → ℕ → typed.Expression
local object a start =
    typed.Read (typed.Local (record { object = object; start = object }) (span start (start + 1))) a

abbrev function : typed.Function
function = record {
  name = codes "f";
  name_span = span 4 5;
  parameters = NumberParameter int_type.Int ∷ NumberParameter int_type.Int ∷ [];
  result = NumberResult int_type.Int;
  objects = [];
  body =
      typed.statements
      (typed.Return
      (typed.ReturnNumber
      (typed.Logic logic.And (local 0 int_type.Int 26) (local 1 int_type.Int 29) (span 26 30)))
      (span 19 31))
      typed.no_statements;
  closing = span 31 32;
}

abbrev program : typed.Program
program = record { functions = function ∷ []; statics = []; structures = [] }

-- its probes, where the register of its decision is this one, and those that follow
abbrev placed : ℕ → List Placed → List Placed
placed register more =
    at 26 (span 4 5) (what.Registers 1) ∷ at 50 (span 4 5) (what.Entry 0)
    ∷ at 67 (span 19 31) (what.Statement 2) ∷ at 97 (span 26 30) (what.Decision register 3)
    ∷ at 114 (span 26 27) (what.Condition 0 0 2) ∷ at 142 (span 29 30) (what.Condition 0 0 1)
    ∷ at 171 (span 19 31) (what.ValueEnd 1) ∷ more

abbrev read : ℕ → IntType → ℕ → probed.Expression
read object a start =
    probed.Read
    (probed.Local (record { object = object; start = object }) (span start (start + 1))) a

abbrev with_probes : probed.Function
with_probes = record {
  name = codes "f";
  name_span = span 4 5;
  parameters = NumberParameter int_type.Int ∷ NumberParameter int_type.Int ∷ [];
  result = NumberResult int_type.Int;
  objects = [];
  body =
      probed.statements
      (probed.Return
      (probed.ReturnNumber
      (probed.Probe (probe.Decision 0 3)
      (probed.Logic logic.And
      (probed.Probe (probe.Condition 0 0 2) (read 0 int_type.Int 26))
      (probed.Probe (probe.Condition 0 0 1) (read 1 int_type.Int 29)) (span 26 30))))
      (span 19 31) (Some 2) (Some 1))
      probed.no_statements;
  closing = span 31 32;
  registers = 1;
  entry = Some 0;
  exit = None;
}

abbrev pub TheFunction : Type 0
TheFunction =
    put_back program (placed 0 [])
    ≡ Ok (record {
      program = record { functions = with_probes ∷ []; statics = []; structures = [] };
      bits = 6;
    })

-- ---- faults

-- a decision with the second register of a function that has one
abbrev pub NoRegister : Type 0
NoRegister = put_back program (placed 1 []) ≡ Err 97

-- a probe after all that stands at no place
abbrev pub NoPlace : Type 0
NoPlace = put_back program (placed 0 (at 190 (span 19 31) (what.Statement 0) ∷ [])) ≡ Err 190

-- ---- a probe at no place, inside a decision

-- `int f(int t[2],int a){return t[a]||a;}`
abbrev indexing : typed.Function
indexing = record {
  name = codes "f";
  name_span = span 4 5;
  parameters = ArrayParameter (Scalar int_type.Int) ∷ NumberParameter int_type.Int ∷ [];
  result = NumberResult int_type.Int;
  objects = [];
  body =
      typed.statements
      (typed.Return
      (typed.ReturnNumber
      (typed.Logic logic.Or
      (typed.Read (typed.Parameter 0 1 (local 1 int_type.Int 31) (span 29 33)) int_type.Int)
      (local 1 int_type.Int 35) (span 29 36)))
      (span 22 37))
      typed.no_statements;
  closing = span 37 38;
}

-- `MCDC_D(0,65535,MCDC_W(0,t)[a]||MCDC_C(0,0,1,a))`: no value stands at `t`. The path on which `a`
-- is false reaches bit 65,536, so the decision, which begins before that, has a fault too.
abbrev pub PathBehindNoPlace : Type 0
PathBehindNoPlace =
    put_back (record { functions = indexing ∷ []; statics = []; structures = [] })
    (at 22 (span 4 5) (what.Registers 1) ∷ at 48 (span 29 36) (what.Decision 0 65535)
    ∷ at 63 (span 29 30) (what.Switch 0) ∷ at 79 (span 35 36) (what.Condition 0 0 1) ∷ [])
    ≡ Err 48

-- with a base that is one less, the first fault is that of the probe round `t`
abbrev pub NoPlaceInDecision : Type 0
NoPlaceInDecision =
    put_back (record { functions = indexing ∷ []; statics = []; structures = [] })
    (at 22 (span 4 5) (what.Registers 1) ∷ at 48 (span 29 36) (what.Decision 0 65534)
    ∷ at 63 (span 29 30) (what.Switch 0) ∷ at 79 (span 35 36) (what.Condition 0 0 1) ∷ [])
    ≡ Err 63

-- ---- an implied conversion

abbrev promoted : IntType → typed.Expression
promoted a = typed.Convert int_type.Int false (local 0 a 7) (span 7 8)

abbrev all : List What → List Placed
all [] = []
all (row ∷ rows) = at 0 (span 7 8) row ∷ all rows

abbrev round : IntType → List What → probed.Expression
round a rows = (back 1 (promoted a) (begun (all rows))).0

abbrev pub TheSwitch : Type 0
TheSwitch =
    round int_type.Char (what.Switch 0 ∷ what.Condition 0 0 1 ∷ [])
    ≡ probed.Probe (probe.Switch 0)
    (probed.Convert int_type.Int false
    (probed.Probe (probe.Condition 0 0 1) (read 0 int_type.Char 7)) (span 7 8))

-- as an operand of `&`, `|` or `^`
abbrev pub TheFlag : Type 0
TheFlag =
    round int_type.Bool (what.Condition 0 0 1 ∷ [])
    ≡ probed.Probe (probe.Condition 0 0 1)
    (probed.Convert int_type.Int false (read 0 int_type.Bool 7) (span 7 8))

-- ---- sums of paths

-- a condition that adds this where it is true
abbrev adds : ℕ → ℕ → probed.Expression
adds more object = probed.Probe (probe.Condition 0 more 0) (read object int_type.Int object)

-- `a&&!b`
abbrev pub TheAnd : Type 0
TheAnd =
    paths 0
    (probed.Logic logic.And (adds 1 0) (probed.Not (adds 2 1) (span 0 0)) (span 0 0))
    ≡ record { on_true = 1 ∷ []; on_false = 0 ∷ 3 ∷ [] }

-- `a^b`
abbrev pub TheXor : Type 0
TheXor =
    paths 0
    (probed.Binary (operator.Binary bits.Xor) int_type.Int (adds 1 0) (adds 2 1) (span 0 0))
    ≡ record { on_true = 1 ∷ 2 ∷ []; on_false = 3 ∷ 0 ∷ [] }
