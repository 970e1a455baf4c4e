-- Which trees are well-formed, which tree is a program with its probes, and which events stand.
use Rattle.std.specs.Prelude.{pos, List, [], ◌∷◌, Some, None}
use Rattle.mc_value.specs.declared.int_type.IntType.TheVariants.{Int}
use Rattle.mc_typed.specs.declared.probes.Probe.TheVariants as probe
use Rattle.mc_typed.specs.declared.probes.Mark.{Mark}
use Rattle.mc_typed.specs.Plans.{Plan}
use Rattle.mc_typed.specs.Examples.{at}
use Rattle.mc_steps.specs.Events.{Entered}
use Rattle.mc_meaning.specs.Tests.{Stands}
use Rattle.mc_probe.specs.Tree.{Expression, Statement, Statements}
use Rattle.mc_probe.specs.Tree as p
use Rattle.mc_probe.specs.WellFormed.{FitsStatement, FitFunctions}
use Rattle.mc_probe.specs.Table.{IsInstrumented}
use Rattle.tests_meaning.specs.Seen.{one_call}
use Rattle.tests_probe.specs.Counting.{counting, counting_map, counted}

-- ---- probes

-- the tree of the program with its probes fits, and is that of the table
abbrev pub Fits : Type 0
Fits = FitFunctions counted.program.functions

abbrev pub IsItsTree : Type 0
IsItsTree = IsInstrumented counting counting_map counted

abbrev pub one : Expression
one = p.Constant (pos 1) Int (at 0 1)

abbrev pub mark : Mark
mark = record { register = 0; bit = 3 }

abbrev pub no_label : Statements
no_label = p.no_statements

abbrev pub with_default : Statements
with_default = p.statements (p.Label None (at 2 3) None) p.no_statements

abbrev pub probed : Statement
probed = p.If (p.Probe (probe.Switch 0) one) (p.Null (at 1 2) None) (at 0 1) (at 0 2) None

-- a probe whose register is none of the function's
abbrev pub Registers : Type 0
Registers =
    FitsStatement 1 probed × ¬ FitsStatement 0 probed

-- a bit of a declaration that initializes nothing
abbrev pub Declarations : Type 0
Declarations =
    FitsStatement 0 (p.Declaration [] (at 0 1) None)
    × ¬ FitsStatement 0 (p.Declaration [] (at 0 1) (Some 3))

-- the probe of an absent `default` where there is one
abbrev pub Defaults : Type 0
Defaults =
    FitsStatement 1 (p.Switch one no_label (at 0 1) (at 0 2) None (Some mark))
    × ¬ FitsStatement 1 (p.Switch one with_default (at 0 1) (at 0 2) None (Some mark))

-- a probe in the list `{E}`, which is not evaluated
abbrev pub zeros : Expression → Statement
zeros e = p.Declaration (record {
  slot = record { object = 0; start = 0 };
  cells = 3;
  value = Some (p.ZeroInitializer e 3);
} ∷ []) (at 0 1) None

abbrev pub Zeros : Type 0
Zeros = FitsStatement 1 (zeros one) × ¬ FitsStatement 1 (zeros (p.Probe (probe.Switch 0) one))

-- ---- what stands

abbrev pub plans : List Plan
plans = one_call 0 (pos 2 ∷ []) [] 8 ∷ []

-- the entry stands under the test, and not where the test is skipped
abbrev pub EntryStands : Type 0
EntryStands =
    Stands [] counting plans (Entered 0) 0 × (¬ Stands (0 ∷ []) counting plans (Entered 0) 0)
