-- What phases keep: at most one answer, and what a function gives of phases in a row.
use Rattle.std.proofs.Common.{◌≡◌, Result, Ok, Err, sym, subst, inl, inr}
use Rattle.std.specs.Result.{IsErr, IsErrAnd}
use Rattle.mc_probe.specs.declared.tree.Instrumented.{Instrumented}
use Rattle.mc_probe.specs.Tree.{Tree}
use Rattle.mc_probe.specs.Trees.{tree_of}
use Rattle.reread_program.specs.declared.fault.RereadFault.{RereadFault}
use Rattle.reread_program.specs.declared.fault.RereadFault.TheVariants as fault
use Rattle.reread_program.specs.Reading.{Then}
use Rattle.reread_program.specs.Returned.{Gives, GivesFault, IsOne}

-- ---- at most one

pub one_then : {A B : Type 0} (Phase : Result A RereadFault → Type 0) (Next : A → Result B RereadFault → Type 0)
    → IsOne Phase → ((a : A) → Phase (Ok a) → IsOne (Next a)) → IsOne (Then Phase Next)
one_then {A} {B} Phase Next one next (Ok b) (Ok c) (a, p, q) (d, r, s) =
    let same : a ≡ d = one (Ok a) (Ok d) p r in
    next d r (Ok b) (Ok c) (subst (λ (x : A). Next x (Ok b)) same q) s
one_then {A} {B} Phase Next one next (Ok b) (Err e) (a, p, q) (inl r) = absurd (one (Ok a) (Err e) p r)
one_then {A} {B} Phase Next one next (Ok b) (Err e) (a, p, q) (inr (d, r, s)) =
    let same : a ≡ d = one (Ok a) (Ok d) p r in
    next d r (Ok b) (Err e) (subst (λ (x : A). Next x (Ok b)) same q) s
one_then {A} {B} Phase Next one next (Err e) (Ok c) (inl p) (d, r, s) = absurd (one (Err e) (Ok d) p r)
one_then {A} {B} Phase Next one next (Err e) (Ok c) (inr (a, p, q)) (d, r, s) =
    let same : a ≡ d = one (Ok a) (Ok d) p r in
    next d r (Err e) (Ok c) (subst (λ (x : A). Next x (Err e)) same q) s
one_then {A} {B} Phase Next one next (Err e) (Err f) (inl p) (inl r) = one (Err e) (Err f) p r
one_then {A} {B} Phase Next one next (Err e) (Err f) (inl p) (inr (d, r, s)) = absurd (one (Err e) (Ok d) p r)
one_then {A} {B} Phase Next one next (Err e) (Err f) (inr (a, p, q)) (inl r) = absurd (one (Ok a) (Err f) p r)
one_then {A} {B} Phase Next one next (Err e) (Err f) (inr (a, p, q)) (inr (d, r, s)) =
    let same : a ≡ d = one (Ok a) (Ok d) p r in
    next d r (Err e) (Err f) (subst (λ (x : A). Next x (Err e)) same q) s

-- ---- what a function gives of phases in a row

module _ {A B : Type 0} (Phase : Result A RereadFault → Type 0) (Next : A → Result B RereadFault → Type 0) where
  pub fault_goes_on : (a : A) (f : RereadFault) → Phase (Ok a) → GivesFault (Next a) f → GivesFault (Then Phase Next) f
  fault_goes_on a (fault.Lex e) p q = inr (a, p, q)
  fault_goes_on a (fault.Parse e) p q = inr (a, p, q)
  fault_goes_on a (fault.Outside e) p q = inr (a, p, q)
  fault_goes_on a (fault.Typing e) p q = inr (a, p, q)
  fault_goes_on a (fault.Probe at) p q = inr (a, p, q)
  fault_goes_on a fault.OutOfMemory p q = tt

  pub fault_stops : (f : RereadFault) → GivesFault Phase f → GivesFault (Then Phase Next) f
  fault_stops (fault.Lex e) p = inl p
  fault_stops (fault.Parse e) p = inl p
  fault_stops (fault.Outside e) p = inl p
  fault_stops (fault.Typing e) p = inl p
  fault_stops (fault.Probe at) p = inl p
  fault_stops fault.OutOfMemory p = tt

pub goes_on : {A B C : Type 0} (seen : C → B) (Phase : Result A RereadFault → Type 0) (Next : A → Result B RereadFault → Type 0) (a : A) (r : Result C RereadFault)
    → Phase (Ok a) → Gives seen (Next a) r → Gives seen (Then Phase Next) r
goes_on seen Phase Next a (Ok c) p q = (a, p, q)
goes_on seen Phase Next a (Err f) p q = fault_goes_on Phase Next a f p q

pub stops : {A B C D : Type 0} (seen : C → B) (first : D → A) (Phase : Result A RereadFault → Type 0) (Next : A → Result B RereadFault → Type 0) (why : RereadFault)
    → Gives first Phase (Err why) → Gives seen (Then Phase Next) (Err why)
stops seen first Phase Next why p = fault_stops Phase Next why p

-- an exit hands its fault on
pub handed_on : (Phase : Result Tree RereadFault → Type 0) (why : RereadFault) (given : Result Instrumented RereadFault) → IsErr given → IsErrAnd given (λ (e : RereadFault). e ≡ why)
    → Gives tree_of Phase (Err why) → Gives tree_of Phase given
handed_on Phase why (Ok a) is same stopped = absurd (cc is)
handed_on Phase why (Err e) is same stopped = subst (λ (w : RereadFault). Gives tree_of Phase (Err w)) (sym same) stopped
