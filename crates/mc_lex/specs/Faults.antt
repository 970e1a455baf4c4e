-- Where a lexical fault stands, and what it is called.
use Rattle.std.specs.Prelude.{ℕ, List, [], Option, Some, None, codes}
use Rattle.mc_lex.specs.declared.fault.LexFault.{LexFault}
use Rattle.mc_lex.specs.declared.fault.LexFault.TheVariants as fault

-- the place, by the number of bytes before it; that memory ran out has none
abbrev pub fault_place : LexFault → Option ℕ
fault_place (fault.Byte at) = Some at
fault_place (fault.Token at) = Some at
fault_place (fault.Directive at) = Some at
fault_place (fault.OutsideWord at) = Some at
fault_place (fault.Limit at) = Some at
fault_place fault.OutOfMemory = None

-- the words; that memory ran out has none
abbrev pub fault_word : LexFault → List ℕ
fault_word (fault.Byte at) = codes "byte"
fault_word (fault.Token at) = codes "token"
fault_word (fault.Directive at) = codes "directive"
fault_word (fault.OutsideWord at) = codes "outside word"
fault_word (fault.Limit at) = codes "constant too wide"
fault_word fault.OutOfMemory = []
