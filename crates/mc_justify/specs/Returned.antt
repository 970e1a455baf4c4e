-- What a call returned, beside what a file stands for, and what its justifications are fit for.
use Rattle.std.specs.Prelude.{◌≡◌, ◌≢◌, ℕ, ◌<◌, List, [], All, Result, Ok, Err, Vec}
use Rattle.std.specs.Str.{IsUtf8}
use Rattle.std.specs.declared.alloc.Global.{Global}
use Rattle.mc_oblige.specs.declared.justification.Justification.{Justification}
use Rattle.mc_oblige.specs.Verdicts.{NameEachOnce}
use Rattle.mc_justify.specs.declared.fault.JustifyFault.{JustifyFault}
use Rattle.mc_justify.specs.declared.fault.JustifyFault.TheVariants as fault
use Rattle.mc_justify.specs.Faults.{Fault, Json, Limit, Shape, Unknown, Quote, Repeated}

-- the fault, unless memory ran out
abbrev pub GivesFault : {A : Type 0} → Result A Fault → JustifyFault → Type 0
GivesFault found fault.Json = found ≡ Err Json
GivesFault found fault.Limit = found ≡ Err Limit
GivesFault found (fault.Shape n) = found ≡ Err (Shape n)
GivesFault found (fault.Unknown n) = found ≡ Err (Unknown n)
GivesFault found (fault.Quote n kept given) = found ≡ Err (Quote n kept.now given)
GivesFault found (fault.Repeated n) = found ≡ Err (Repeated n)
GivesFault found fault.OutOfMemory = Unit {0}

-- the justifications or the fault, unless memory ran out
abbrev pub Gives : Result (List Justification) Fault
    → Result (Vec Justification Global) JustifyFault → Type 0
Gives found (Ok v) = found ≡ Ok v.items
Gives found (Err e) = GivesFault found e

-- justifications of so many obligations, on which verdicts and reports can rest
pub record AreFit (count : ℕ) (named : List Justification) : Type 0 where
  pub inside : All (λ j. j.obligation < count) named
  pub once : NameEachOnce named
  pub text : All (λ j. IsUtf8 j.reason) named
  pub some : All (λ j. j.reason ≢ []) named
