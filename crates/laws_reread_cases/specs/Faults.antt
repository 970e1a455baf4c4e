-- Faults of instrumented texts.
use Rattle.std.specs.Prelude.{◌≤◌, ℕ}
use Rattle.mc_lex.specs.declared.fault.LexFault.TheVariants as lex
use Rattle.mc_parse.specs.declared.fault.ParseFault.TheVariants as parse
use Rattle.mc_types.specs.declared.fault.TypeFault.TheVariants as types
use Rattle.reread_program.specs.declared.fault.RereadFault.TheVariants as fault
use Rattle.reread_program.specs.Reading.{IsOnSyntax}
use Rattle.reread_program.specs.Returned.{HoldsNoWant}

-- one on the syntax of so many tokens has the number of one of them, or of their end
abbrev pub FaultsAreInside : Type 0
FaultsAreInside =
    (count at : ℕ) → IsOnSyntax count (fault.Parse (parse.Syntax at)) → at ≤ count

abbrev pub WantsAreNotHeld : Type 0
WantsAreNotHeld =
    ¬ HoldsNoWant (fault.Lex lex.OutOfMemory)
    × ¬ HoldsNoWant (fault.Parse parse.OutOfMemory)
    × ¬ HoldsNoWant (fault.Typing types.OutOfMemory)
