-- A fault that `?` hands on as it is.
use Rattle.std.proofs.Common.{◌≡◌, sym, subst}
use Rattle.std.specs.Prelude.{Result, Ok, Err, IfErr, IsErrAnd}
use Rattle.mc_record.specs.declared.fault.RecordFault.{RecordFault}

pub raised : {A : Type 0} (r : Result A RecordFault) (given : RecordFault) (Q : RecordFault → Type 0) → IsErrAnd r (λ e. e ≡ given) → Q given → IfErr r Q
raised (Ok a) given Q is q = tt
raised (Err e) given Q is q = subst Q (sym is) q
