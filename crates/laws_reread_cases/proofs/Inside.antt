-- A fault of the syntax.
use Rattle.std.proofs.Common.{◌≡◌, ℕ, ◌≤◌, sym, ap, subst}
use Rattle.mc_parse.specs.declared.fault.ParseFault.{ParseFault}
use Rattle.mc_parse.specs.declared.fault.ParseFault.TheVariants as parse
use Rattle.reread_program.specs.declared.fault.RereadFault.{RereadFault}
use Rattle.reread_program.specs.declared.fault.RereadFault.TheVariants as fault
use Rattle.laws_reread_cases.specs.Faults.{FaultsAreInside}

abbrev at_of : RereadFault → ℕ
at_of (fault.Parse (parse.Syntax at)) = at
at_of _ = 0

pub faults_inside : FaultsAreInside
faults_inside count at (other, within, same) = subst (λ (n : ℕ). n ≤ count) (sym (ap at_of same)) within
