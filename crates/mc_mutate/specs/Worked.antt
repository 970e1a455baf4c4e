-- Programs `int f(int a,int b){return E;}`, by the return value E, for laws that compute.
use Rattle.std.specs.Prelude.{ℕ, ◌+◌, [], ◌∷◌}
use Rattle.mc_span.specs.declared.span.Span.{Span}
use Rattle.mc_value.specs.declared.int_type.IntType.TheVariants.{Int}
use Rattle.mc_typed.specs.Layout.{Scalar}
use Rattle.mc_typed.specs.Tree.{Expression, Object, Program}
use Rattle.mc_typed.specs.Tree as typed
use Rattle.mc_mutate.specs.declared.changes.Change.{Change}
use Rattle.mc_mutate.specs.declared.changes.MutantKind.{MutantKind}

abbrev pub at : ℕ → ℕ → Span
at first end = record { start = first; end = end }

abbrev pub scalar : ℕ → Object
scalar cell = record { object_type = Scalar Int; cells = 1; start = cell }

-- the parameter with this number, where its name stands at this byte
abbrev pub read : ℕ → ℕ → Expression
read parameter first =
    typed.Read (typed.Local (record { object = parameter; start = parameter })
    (at first (first + 1))) Int

-- `return E;` ends at this byte
abbrev pub returning : ℕ → Expression → Program
returning end e = record {
  functions = record {
    name = 102 ∷ [];
    name_span = at 4 5;
    parameters = typed.NumberParameter Int ∷ (typed.NumberParameter Int ∷ []);
    result = typed.NumberResult Int;
    objects = scalar 0 ∷ (scalar 1 ∷ []);
    body = typed.statements (typed.Return (typed.ReturnNumber e) (at 19 end)) typed.no_statements;
    closing = at end (end + 1);
  } ∷ [];
  statics = [];
  structures = [];
}

abbrev pub change : MutantKind → ℕ → Change
change kind first = record { kind = kind; at = first }
