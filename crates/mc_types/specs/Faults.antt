-- What a fault of names and types is called, and what a refusal of a unit says.
use Rattle.std.specs.Prelude.{ℕ, List, [], Option, Some, None, option_map, codes}
use Rattle.mc_tree.specs.Tree.{Item}
use Rattle.types_rules.specs.Typing.{IsFirstFaultOf}
use Rattle.types_faults.specs.declared.fault.Fault.{Fault}
use Rattle.types_faults.specs.declared.fault.FaultKind.{FaultKind}
use Rattle.types_faults.specs.declared.fault.FaultKind.TheVariants as kind
use Rattle.mc_types.specs.declared.fault.TypeFault.{TypeFault}
use Rattle.mc_types.specs.declared.fault.TypeFault.TheVariants as fault

abbrev at_place : FaultKind → ℕ → Option Fault
at_place kind at = Some (record { kind = kind; at = at })

-- the fault of the unit; that memory ran out is none
abbrev pub fault_of : TypeFault → Option Fault
fault_of (fault.Undeclared at) = at_place kind.Undeclared at
fault_of (fault.Redeclared at) = at_place kind.Redeclared at
fault_of (fault.Mismatch at) = at_place kind.Mismatch at
fault_of (fault.NotConstant at) = at_place kind.NotConstant at
fault_of (fault.DuplicateLabel at) = at_place kind.DuplicateLabel at
fault_of (fault.NoBody at) = at_place kind.NoBody at
fault_of (fault.Limit at) = at_place kind.Limit at
fault_of fault.OutOfMemory = None

-- the place, by the number of bytes before it
abbrev pub place_of : TypeFault → Option ℕ
place_of e = option_map (λ f. f.at) (fault_of e)

-- the words; that memory ran out has none
abbrev pub kind_word : FaultKind → List ℕ
kind_word kind.Undeclared = codes "undeclared"
kind_word kind.Redeclared = codes "redeclared"
kind_word kind.Mismatch = codes "mismatch"
kind_word kind.NotConstant = codes "not constant"
kind_word kind.DuplicateLabel = codes "duplicate label"
kind_word kind.NoBody = codes "no body"
kind_word kind.Limit = codes "type limit"

abbrev word_in : Option Fault → List ℕ
word_in (Some f) = kind_word f.kind
word_in None = []

abbrev pub word_of : TypeFault → List ℕ
word_of e = word_in (fault_of e)

-- the fault is the first one of the unit, where there is one
abbrev pub IsFirstIn : List Item → Option Fault → Type 0
IsFirstIn items None = Unit {0}
IsFirstIn items (Some f) = IsFirstFaultOf items f

-- A refusal names the first fault of the unit, but where memory ran out.
abbrev pub IsRefused : List Item → TypeFault → Type 0
IsRefused items e = IsFirstIn items (fault_of e)
