-- What is found at a node, by its fault, its value and the scope after it.
use Rattle.std.proofs.Common.{◌≡◌, ◌∙◌, List, ◌++◌, Option, sym, ap}
use Rattle.types_faults.specs.declared.fault.Fault.{Fault}
use Rattle.types_faults.specs.Faults.{lesser, least_of}
use Rattle.types_rules.specs.Scopes.{Scope}
use Rattle.types_rules.specs.Values.{Judged, judged}
use Rattle.types_faults.specs.Kept.{listed}
use Rattle.types_scopes.proofs.Squeezed.{joined_leasts}

pub same_parts : {A : Type 0} (o p : Option Fault) (v w : Option A) (r s : Scope)
    → o ≡ p → v ≡ w → r ≡ s → judged (listed o) v r ≡ judged (listed p) w s
same_parts {A = A} o p v w r s fault value scope =
    ap (λ (q : Option Fault). let j : Judged A = judged (listed q) v r in j) fault
    ∙ ap (λ (u : Option A). let j : Judged A = judged (listed p) u r in j) value
    ∙ ap (λ (t : Scope). let j : Judged A = judged (listed p) w t in j) scope

-- the least of two lists, from that of each
pub lesser_joined : (least one other : Option Fault) (fs gs : List Fault) → least ≡ lesser one other
    → one ≡ least_of fs → other ≡ least_of gs → least ≡ least_of (fs ++ gs)
lesser_joined least one other fs gs is first second =
    is ∙ ap (λ o. lesser o other) first ∙ ap (lesser (least_of fs)) second ∙ sym (joined_leasts fs gs)
