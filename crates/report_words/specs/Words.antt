-- The words of how tests end.
use Rattle.std.specs.Prelude.{ℕ, List, [], codes}
use Rattle.mc_value.specs.declared.trap.Trap.{Trap}
use Rattle.mc_value.specs.declared.trap.Trap.TheVariants.{Overflow, Division, Shift, Index, Unset, NoReturn, InputEnd}
use Rattle.mc_typed.specs.declared.plans.Ending.{Ending}
use Rattle.mc_typed.specs.declared.plans.Ending.TheVariants as ending
use Rattle.mc_typed.specs.declared.plans.TestState.{TestState}
use Rattle.mc_typed.specs.declared.plans.TestState.TheVariants.{Pass, Fail, Ended}

abbrev pub trap_word : Trap → List ℕ
trap_word Overflow = codes "trap-overflow"
trap_word Division = codes "trap-division"
trap_word Shift = codes "trap-shift"
trap_word Index = codes "trap-index"
trap_word Unset = codes "trap-unset"
trap_word NoReturn = codes "trap-no-return"
trap_word InputEnd = codes "trap-input-end"

-- why a call did not return; a test in which each call returned has another word
abbrev pub ending_word : Ending → List ℕ
ending_word ending.Returned = []
ending_word (ending.Trap trap) = trap_word trap
ending_word ending.Fuel = codes "fuel"
ending_word ending.Levels = codes "levels"
ending_word ending.Cells = codes "cells"
ending_word ending.OutputFull = codes "output-full"

abbrev pub state_word : TestState → List ℕ
state_word Pass = codes "pass"
state_word Fail = codes "fail"
state_word (Ended why) = ending_word why
