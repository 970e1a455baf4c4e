-- A list of faults has at most one first fault.
use Rattle.std.proofs.Common.{◌≡◌, ◌∙◌, ℕ, nat_eq, if◌then◌else◌, List, [], ◌∷◌, refl, sym, ap, subst, inl, inr, arith}
use Rattle.types_faults.specs.declared.fault.Fault.{Fault}
use Rattle.types_faults.specs.declared.fault.FaultKind.{FaultKind}
use Rattle.types_faults.specs.declared.fault.FaultKind.TheVariants.{Undeclared, Redeclared, Mismatch, NotConstant, DuplicateLabel, NoBody, Limit}
use Rattle.types_faults.specs.Faults.{number_of, NotAfter, IsAmong, NoneBefore, IsFirst}

abbrev kind_numbered : ℕ → FaultKind
kind_numbered n =
    if nat_eq n 1 then Undeclared
    else if nat_eq n 2 then Redeclared
    else if nat_eq n 3 then Mismatch
    else if nat_eq n 4 then NotConstant
    else if nat_eq n 5 then DuplicateLabel
    else if nat_eq n 6 then NoBody
    else Limit

known_by_number : (k : FaultKind) → kind_numbered (number_of k) ≡ k
known_by_number Undeclared = refl
known_by_number Redeclared = refl
known_by_number Mismatch = refl
known_by_number NotConstant = refl
known_by_number DuplicateLabel = refl
known_by_number NoBody = refl
known_by_number Limit = refl

one_kind : (j k : FaultKind) → number_of j ≡ number_of k → j ≡ k
one_kind j k same = sym (known_by_number j) ∙ ap kind_numbered same ∙ known_by_number k

abbrev made : FaultKind → ℕ → Fault
made kind at = record { kind = kind; at = at }

same_fault : (f g : Fault) → f.kind ≡ g.kind → f.at ≡ g.at → f ≡ g
same_fault f g kind at = ap (λ (k : FaultKind). made k f.at) kind ∙ ap (made g.kind) at

both_ways : (f g : Fault) → NotAfter f g → NotAfter g f → f ≡ g
both_ways f g (inl a) (inl b) = absurd (omega (arith, a, b))
both_ways f g (inl a) (inr b) = absurd (omega (arith, a, b.0))
both_ways f g (inr a) (inl b) = absurd (omega (arith, a.0, b))
both_ways f g (inr a) (inr b) =
    same_fault f g (one_kind f.kind g.kind (omega (arith, a.1, b.1))) a.0

none_before : (f g : Fault) (fs : List Fault) → IsAmong g fs → NoneBefore f fs → NotAfter f g
none_before f g [] there none = absurd there
none_before f g (x ∷ xs) (inl same) none = subst (λ (y : Fault). NotAfter f y) (sym same) none.0
none_before f g (x ∷ xs) (inr there) none = none_before f g xs there none.1

pub one_first : (fs : List Fault) (f g : Fault) → IsFirst fs f → IsFirst fs g → f ≡ g
one_first fs f g a b =
    both_ways f g (none_before f g fs b.there a.first) (none_before g f fs a.there b.first)

pub none_first : (fs : List Fault) (f : Fault) → fs ≡ [] → IsFirst fs f → ⊥
none_first fs f none first = subst (λ (gs : List Fault). IsAmong f gs) none first.there
