-- What the first of some faults tells of them.
use Rattle.std.proofs.Common.{◌≡◌, ◌∙◌, ℕ, nat_lt, nat_le, Bool, true, false, if◌then◌else◌, arith, List, [], ◌∷◌, ◌++◌, Option, Some, None, refl, sym, ap, append_assoc}
use Rattle.types_faults.specs.declared.fault.Fault.{Fault}
use Rattle.types_faults.specs.declared.fault.FaultKind.{FaultKind}
use Rattle.types_faults.specs.declared.fault.FaultKind.TheVariants.{Undeclared, Redeclared, Mismatch, NotConstant, DuplicateLabel, NoBody, Limit}
use Rattle.types_faults.specs.Faults.{fault_if, number_of, lesser_of, lesser, least_of, unless_faulty}
use Rattle.types_rules.specs.Types.{Member, CType}
use Rattle.types_rules.specs.Scopes.{Scope}
use Rattle.types_rules.specs.Values.{judged}
use Rattle.types_rules.specs.Declarators.{Listed, completed}
use Rattle.types_rules.specs.Declarations.{layout_counted}
use Rattle.types_faults.proofs.Leasts.{least_joined}
use Rattle.types_faults.specs.Kept.{listed, least}
use Rattle.types_scopes.proofs.Squeezed.{joined_listed, joined_leasts, least_front, least_least, least_listed, unless_least}

abbrev pub listed_by : {A : Type 0} → List Fault → List A → Scope → Listed A
listed_by fs xs s = record { faults = fs; items = xs; scope = s }

-- ---- no fault

pub unless_least_of : {A : Type 0} (fs : List Fault) (v : Option A)
    → unless_faulty (listed (least_of fs)) v ≡ unless_faulty fs v
unless_least_of fs v = unless_least fs v

pub unless_by_least : {A : Type 0} (fs : List Fault) (o : Option Fault) (v : Option A) → o ≡ least_of fs
    → unless_faulty (listed o) v ≡ unless_faulty fs v
unless_by_least fs o v h = ap (λ (p : Option Fault). unless_faulty (listed p) v) h ∙ unless_least fs v

pub unless_by_list : {A : Type 0} (fs : List Fault) (o : Option Fault) (v : Option A) → o ≡ least_of fs
    → unless_faulty (listed o) v ≡ unless_faulty fs v
unless_by_list fs o v h = unless_by_least fs o v h

pub completed_by_least : (fs : List Fault) (members : List Member)
    → completed (listed (least_of fs)) members ≡ completed fs members
completed_by_least [] members = refl
completed_by_least (f ∷ fs) members = by_rest f (least_of fs)
  where
    by_rest : (f : Fault) (o : Option Fault) → completed (listed (lesser (Some f) o)) members ≡ completed (f ∷ fs) members
    by_rest f None = refl
    by_rest f (Some g) = refl

pub counted_by_least : (fs : List Fault) (u : Option CType) (s : Scope)
    → layout_counted (listed (least_of fs)) u s ≡ layout_counted fs u s
counted_by_least [] u s = refl
counted_by_least (f ∷ fs) u s = by_rest f (least_of fs)
  where
    by_rest : (f : Fault) (o : Option Fault) → layout_counted (listed (lesser (Some f) o)) u s ≡ layout_counted (f ∷ fs) u s
    by_rest f None = refl
    by_rest f (Some g) = refl

-- what is the same of two lists with one first fault
pub unless_same : {A : Type 0} (fs gs : List Fault) (v : Option A) → least fs ≡ least gs
    → unless_faulty fs v ≡ unless_faulty gs v
unless_same fs gs v h =
    sym (unless_least fs v) ∙ ap (λ (hs : List Fault). unless_faulty hs v) h ∙ unless_least gs v

pub completed_same : (fs gs : List Fault) (members : List Member) → least fs ≡ least gs
    → completed fs members ≡ completed gs members
completed_same fs gs members h =
    sym (completed_by_least fs members) ∙ ap (λ (hs : List Fault). completed hs members) h ∙ completed_by_least gs members

pub counted_same : (fs gs : List Fault) (u : Option CType) (s : Scope) → least fs ≡ least gs
    → layout_counted fs u s ≡ layout_counted gs u s
counted_same fs gs u s h =
    sym (counted_by_least fs u s) ∙ ap (λ (hs : List Fault). layout_counted hs u s) h ∙ counted_by_least gs u s

pub judged_same : {A : Type 0} (fs gs : List Fault) (v w : Option A) (s t : Scope) → fs ≡ gs → v ≡ w → s ≡ t
    → judged fs v s ≡ judged gs w t
judged_same fs gs v w s t a b c = cc

pub listed_same : {A : Type 0} (fs gs : List Fault) (xs ys : List A) (s t : Scope) → fs ≡ gs → xs ≡ ys → s ≡ t
    → listed_by fs xs s ≡ listed_by gs ys t
listed_same fs gs xs ys s t a b c = cc

-- ---- joined lists

pub joined_three : (a b c : Option Fault)
    → least_of (listed (least_of (listed a ++ listed b)) ++ listed c) ≡ least_of ((listed a ++ listed b) ++ listed c)
joined_three a b c =
    sym (least_listed (least_of (listed (least_of (listed a ++ listed b)) ++ listed c)))
    ∙ ap least_of (least_front (listed a ++ listed b) (listed c))
    ∙ least_least ((listed a ++ listed b) ++ listed c)

-- one more fault after those so far
pub names_step : (f : Option Fault) (own rest : List Fault)
    → least_of (listed (least_of (listed f ++ own)) ++ rest) ≡ least_of (listed f ++ (own ++ rest))
names_step f own rest =
    sym (least_listed (least_of (listed (least_of (listed f ++ own)) ++ rest)))
    ∙ ap least_of (least_front (listed f ++ own) rest)
    ∙ least_least ((listed f ++ own) ++ rest)
    ∙ ap least_of (append_assoc (listed f) own rest)

-- what a function found of parts, step by step
pub valued_joined : (part own constant inner r : Option Fault) (fs ks : List Fault)
    → own ≡ least_of fs → constant ≡ least_of ks → inner ≡ lesser own constant → r ≡ lesser part inner
    → r ≡ least_of (listed part ++ (fs ++ ks))
valued_joined part own constant inner r fs ks ko kc ki kr =
    kr
    ∙ ap (lesser part) (ki ∙ ap (λ (o : Option Fault). lesser o constant) ko ∙ ap (lesser (least_of fs)) kc ∙ sym (joined_leasts fs ks))
    ∙ sym (joined_listed part (fs ++ ks))

pub length_joined : (constant own r : Option Fault) (ks : List Fault) (at : ℕ) (misfit b : Bool)
    → constant ≡ least_of ks → own ≡ least_of (fault_if misfit Mismatch at) → misfit ≡ b → r ≡ lesser constant own
    → r ≡ least_of (ks ++ fault_if b Mismatch at)
length_joined constant own r ks at misfit b kc ko kb kr =
    kr ∙ ap (λ (o : Option Fault). lesser o own) kc
    ∙ ap (lesser (least_of ks)) (ko ∙ ap (λ (m : Bool). least_of (fault_if m Mismatch at)) kb)
    ∙ sym (joined_leasts ks (fault_if b Mismatch at))

-- ---- in another order

same_kind : (a b : FaultKind) → number_of a ≡ number_of b → a ≡ b
same_kind Undeclared Undeclared h = refl
same_kind Redeclared Redeclared h = refl
same_kind Mismatch Mismatch h = refl
same_kind NotConstant NotConstant h = refl
same_kind DuplicateLabel DuplicateLabel h = refl
same_kind NoBody NoBody h = refl
same_kind Limit Limit h = refl
same_kind Undeclared Redeclared h = absurd (cc)
same_kind Undeclared Mismatch h = absurd (cc)
same_kind Undeclared NotConstant h = absurd (cc)
same_kind Undeclared DuplicateLabel h = absurd (cc)
same_kind Undeclared NoBody h = absurd (cc)
same_kind Undeclared Limit h = absurd (cc)
same_kind Redeclared Undeclared h = absurd (cc)
same_kind Redeclared Mismatch h = absurd (cc)
same_kind Redeclared NotConstant h = absurd (cc)
same_kind Redeclared DuplicateLabel h = absurd (cc)
same_kind Redeclared NoBody h = absurd (cc)
same_kind Redeclared Limit h = absurd (cc)
same_kind Mismatch Undeclared h = absurd (cc)
same_kind Mismatch Redeclared h = absurd (cc)
same_kind Mismatch NotConstant h = absurd (cc)
same_kind Mismatch DuplicateLabel h = absurd (cc)
same_kind Mismatch NoBody h = absurd (cc)
same_kind Mismatch Limit h = absurd (cc)
same_kind NotConstant Undeclared h = absurd (cc)
same_kind NotConstant Redeclared h = absurd (cc)
same_kind NotConstant Mismatch h = absurd (cc)
same_kind NotConstant DuplicateLabel h = absurd (cc)
same_kind NotConstant NoBody h = absurd (cc)
same_kind NotConstant Limit h = absurd (cc)
same_kind DuplicateLabel Undeclared h = absurd (cc)
same_kind DuplicateLabel Redeclared h = absurd (cc)
same_kind DuplicateLabel Mismatch h = absurd (cc)
same_kind DuplicateLabel NotConstant h = absurd (cc)
same_kind DuplicateLabel NoBody h = absurd (cc)
same_kind DuplicateLabel Limit h = absurd (cc)
same_kind NoBody Undeclared h = absurd (cc)
same_kind NoBody Redeclared h = absurd (cc)
same_kind NoBody Mismatch h = absurd (cc)
same_kind NoBody NotConstant h = absurd (cc)
same_kind NoBody DuplicateLabel h = absurd (cc)
same_kind NoBody Limit h = absurd (cc)
same_kind Limit Undeclared h = absurd (cc)
same_kind Limit Redeclared h = absurd (cc)
same_kind Limit Mismatch h = absurd (cc)
same_kind Limit NotConstant h = absurd (cc)
same_kind Limit DuplicateLabel h = absurd (cc)
same_kind Limit NoBody h = absurd (cc)

abbrev fault_by : FaultKind → ℕ → Fault
fault_by k n = record { kind = k; at = n }

fault_same : (x y : FaultKind) (m n : ℕ) → x ≡ y → m ≡ n → fault_by x m ≡ fault_by y n
fault_same x y m n p q = cc

same_fault : (a b : Fault) → a.at ≡ b.at → a.kind ≡ b.kind → a ≡ b
same_fault a b h k = fault_same a.kind b.kind a.at b.at k h

by_places : (a b : Fault) (x y p q : Bool) → nat_lt a.at b.at ≡ x → nat_lt b.at a.at ≡ y
    → nat_le (number_of a.kind) (number_of b.kind) ≡ p → nat_le (number_of b.kind) (number_of a.kind) ≡ q
    → (if x then a else if y then b else if p then a else b)
    ≡ (if y then b else if x then a else if q then b else a)
by_places a b true true p q hx hy hp hq = absurd (grind (arith, hx, hy))
by_places a b true false p q hx hy hp hq = refl
by_places a b false true p q hx hy hp hq = refl
by_places a b false false true true hx hy hp hq =
    let at : a.at ≡ b.at = grind (arith, hx, hy) in
    let numbers : number_of a.kind ≡ number_of b.kind = grind (arith, hp, hq) in
    same_fault a b at (same_kind a.kind b.kind numbers)
by_places a b false false true false hx hy hp hq = refl
by_places a b false false false true hx hy hp hq = refl
by_places a b false false false false hx hy hp hq = absurd (grind (arith, hp, hq))

swapped : (a b : Fault) → lesser_of a b ≡ lesser_of b a
swapped a b =
    by_places a b (nat_lt a.at b.at) (nat_lt b.at a.at) (nat_le (number_of a.kind) (number_of b.kind))
    (nat_le (number_of b.kind) (number_of a.kind)) refl refl refl refl

lesser_swapped : (a b : Option Fault) → lesser a b ≡ lesser b a
lesser_swapped None None = refl
lesser_swapped None (Some b) = refl
lesser_swapped (Some a) None = refl
lesser_swapped (Some a) (Some b) = ap Some (swapped a b)

pub least_swapped : (fs gs : List Fault) → least (fs ++ gs) ≡ least (gs ++ fs)
least_swapped fs gs =
    ap listed (least_joined fs gs ∙ lesser_swapped (least_of fs) (least_of gs) ∙ sym (least_joined gs fs))
