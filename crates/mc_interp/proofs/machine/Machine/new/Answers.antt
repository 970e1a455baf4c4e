use Rattle.std.proofs.Common.{List, map, subst, sym}
use Rattle.mc_typed.specs.declared.functions.Function as code_function
use Rattle.mc_typed.specs.Views as plain
use Rattle.mc_interp.specs.Machines.{AreFramed}
use Rattle.mc_interp.proofs.Machines.{all_framed}
use Rattle.mc_interp.proofs.machine.Machine.new.Goals as goal

pub shapes_of-requires : goal.shapes_of-requires
shapes_of-requires c =
    subst (λ (l : List code_function.Function). AreFramed (map plain.function_of l)) (sym c.functions-functions.ensures.functions)
    (all_framed (plain.program_of c.program.result.now) (plain.program_of c.program.result.now).functions c.functions-functions.ensures.sound.functions)
