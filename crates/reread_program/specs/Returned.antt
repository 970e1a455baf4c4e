-- What calls return of what a phase gives.
use Rattle.std.specs.Prelude.{◌≡◌, ◌≢◌, ◌⊎◌, ℕ, Result, Ok, Err, ⊤}
use Rattle.mc_lex.specs.declared.fault.LexFault.TheVariants as lex
use Rattle.mc_parse.specs.declared.fault.ParseFault.TheVariants as parse
use Rattle.mc_types.specs.declared.fault.TypeFault.TheVariants as types
use Rattle.reread_program.specs.declared.fault.RereadFault.{RereadFault}
use Rattle.reread_program.specs.declared.fault.RereadFault.TheVariants as fault

-- a fault, which a phase has; out of memory says nothing
abbrev pub GivesFault : {B : Type 0} → (Result B RereadFault → Type 0) → RereadFault → Type 0
GivesFault Phase fault.OutOfMemory = ⊤
GivesFault Phase f = Phase (Err f)

-- a phase holds of what a function gives, and of its fault
abbrev pub Gives : {A B : Type 0} → (A → B) → (Result B RereadFault → Type 0)
    → Result A RereadFault → Type 0
Gives seen Phase (Ok a) = Phase (Ok (seen a))
Gives seen Phase (Err f) = GivesFault Phase f

-- no fault of a phase holds a want of memory
abbrev pub HoldsNoWant : RereadFault → Type 0
HoldsNoWant (fault.Lex e) = e ≢ lex.OutOfMemory
HoldsNoWant (fault.Parse e) = e ≢ parse.OutOfMemory
HoldsNoWant (fault.Typing e) = e ≢ types.OutOfMemory
HoldsNoWant f = ⊤

-- a fault of the syntax, at some token
abbrev pub IsSyntax : RereadFault → Type 0
IsSyntax f = (at : ℕ) × (f ≡ fault.Parse (parse.Syntax at))

-- one fault, or two of the syntax, which may name different places
abbrev pub AreOne : RereadFault → RereadFault → Type 0
AreOne f g = (f ≡ g) ⊎ (IsSyntax f × IsSyntax g)

-- two answers are one
abbrev pub Agree : {A : Type 0} → Result A RereadFault → Result A RereadFault → Type 0
Agree (Ok a) (Ok b) = a ≡ b
Agree (Ok a) (Err g) = ⊥
Agree (Err f) (Ok b) = ⊥
Agree (Err f) (Err g) = AreOne f g

-- a phase gives at most one thing
abbrev pub IsOne : {A : Type 0} → (Result A RereadFault → Type 0) → Type 0
IsOne {A} Phase = (u v : Result A RereadFault) → Phase u → Phase v → Agree u v
