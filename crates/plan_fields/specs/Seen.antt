-- What clauses see of the numbers that are read.
use Rattle.std.specs.Prelude.{ℤ, List, Option, option_map, Vec}
use Rattle.std.specs.declared.alloc.Global.{Global}
use Rattle.plan_fields.specs.Fields as fields
use Rattle.plan_fields.specs.declared.fields.Numbers.{Numbers}

abbrev pub seen_output : Option (Vec ℤ Global) → Option (List ℤ)
seen_output o = option_map (λ v. v.items) o

abbrev pub seen_numbers : Numbers → fields.Numbers
seen_numbers n = record {
  arguments = n.arguments.items;
  inputs = n.inputs.items;
  expect = n.expect;
  output = seen_output n.output;
}
