-- Nodes see of the faults of their parts the least alone.
use Rattle.std.proofs.Common.{◌≡◌, ◌∙◌, List, [], ◌∷◌, ◌++◌, Option, Some, None, refl, sym, ap}
use Rattle.types_faults.specs.declared.fault.Fault.{Fault}
use Rattle.types_faults.specs.Faults.{lesser, least_of, unless_faulty}
use Rattle.types_rules.specs.Values.{Judged, judged_one, judged_two, judged_three, judged_four}
use Rattle.types_faults.proofs.Leasts.{least_joined}
use Rattle.types_faults.specs.Kept.{listed, least}
use Rattle.types_scopes.specs.steps.Squeezed.{squeezed_part}

pub least_listed : (o : Option Fault) → least_of (listed o) ≡ o
least_listed None = refl
least_listed (Some f) = refl

pub least_least : (fs : List Fault) → least_of (least fs) ≡ least_of fs
least_least fs = least_listed (least_of fs)

-- in front of others
pub least_front : (fs gs : List Fault) → least (least fs ++ gs) ≡ least (fs ++ gs)
least_front fs gs =
    ap listed (least_joined (least fs) gs ∙ ap (λ o. lesser o (least_of gs)) (least_least fs) ∙ sym (least_joined fs gs))

-- after others
pub least_back : (fs gs hs : List Fault) → least gs ≡ least hs → least (fs ++ gs) ≡ least (fs ++ hs)
least_back fs gs hs h =
    ap listed (least_joined fs gs ∙ ap (lesser (least_of fs)) (same gs hs h) ∙ sym (least_joined fs hs))
  where
    same : (gs hs : List Fault) → least gs ≡ least hs → least_of gs ≡ least_of hs
    same gs hs h = sym (least_least gs) ∙ ap least_of h ∙ least_least hs

pub least_two : (fs gs own : List Fault) → least (least fs ++ (least gs ++ own)) ≡ least (fs ++ (gs ++ own))
least_two fs gs own =
    least_front fs (least gs ++ own) ∙ least_back fs (least gs ++ own) (gs ++ own) (least_front gs own)

pub least_three : (fs gs hs own : List Fault)
    → least (least fs ++ (least gs ++ (least hs ++ own))) ≡ least (fs ++ (gs ++ (hs ++ own)))
least_three fs gs hs own =
    least_front fs (least gs ++ (least hs ++ own))
    ∙ least_back fs (least gs ++ (least hs ++ own)) (gs ++ (hs ++ own)) (least_two gs hs own)

-- what has a fault inside has no type
pub unless_least : {A : Type 0} (fs : List Fault) (v : Option A) → unless_faulty (least fs) v ≡ unless_faulty fs v
unless_least [] v = refl
unless_least (f ∷ fs) v = by_rest f (least_of fs) v
  where
    by_rest : {A : Type 0} (f : Fault) (o : Option Fault) (v : Option A) → unless_faulty (listed (lesser (Some f) o)) v ≡ None
    by_rest f None v = refl
    by_rest f (Some g) v = refl

-- ---- nodes of parts

pub one_part : {A B : Type 0} (own : List Fault) (v : Option B) (x : Judged A)
    → squeezed_part (judged_one own v (squeezed_part x)) ≡ squeezed_part (judged_one own v x)
one_part {B = B} own v x =
    ap (λ (fs : List Fault). let j : Judged B = record { faults = fs; value = v; scope = x.scope } in j)
    (least_front x.faults own)

pub two_parts : {A B C : Type 0} (own : List Fault) (v : Option C) (x : Judged A) (y : Judged B)
    → squeezed_part (judged_two own v (squeezed_part x) (squeezed_part y)) ≡ squeezed_part (judged_two own v x y)
two_parts {C = C} own v x y =
    ap (λ (fs : List Fault). let j : Judged C = record { faults = fs; value = v; scope = y.scope } in j)
    (least_two x.faults y.faults own)

pub three_parts : {A B C D : Type 0} (own : List Fault) (v : Option D) (x : Judged A) (y : Judged B) (z : Judged C)
    → squeezed_part (judged_three own v (squeezed_part x) (squeezed_part y) (squeezed_part z))
    ≡ squeezed_part (judged_three own v x y z)
three_parts {D = D} own v x y z =
    ap (λ (fs : List Fault). let j : Judged D = record { faults = fs; value = v; scope = z.scope } in j)
    (least_three x.faults y.faults z.faults own)

pub least_four : (fs gs hs js own : List Fault)
    → least (least fs ++ (least gs ++ (least hs ++ (least js ++ own))))
    ≡ least (fs ++ (gs ++ (hs ++ (js ++ own))))
least_four fs gs hs js own =
    least_front fs (least gs ++ (least hs ++ (least js ++ own)))
    ∙ least_back fs (least gs ++ (least hs ++ (least js ++ own))) (gs ++ (hs ++ (js ++ own)))
    (least_three gs hs js own)

pub four_parts : {A B C D E : Type 0} (own : List Fault) (v : Option E) (x : Judged A) (y : Judged B)
    (z : Judged C) (w : Judged D)
    → squeezed_part (judged_four own v (squeezed_part x) (squeezed_part y) (squeezed_part z) (squeezed_part w))
    ≡ squeezed_part (judged_four own v x y z w)
four_parts {E = E} own v x y z w =
    ap (λ (fs : List Fault). let j : Judged E = record { faults = fs; value = v; scope = w.scope } in j)
    (least_four x.faults y.faults z.faults w.faults own)

-- one more part or test in front
pub joined_listed : (o : Option Fault) (gs : List Fault) → least_of (listed o ++ gs) ≡ lesser o (least_of gs)
joined_listed None gs = refl
joined_listed (Some f) gs = refl

pub joined_leasts : (fs gs : List Fault) → least_of (fs ++ gs) ≡ lesser (least_of fs) (least_of gs)
joined_leasts = least_joined

-- two parts, and a part alone
pub joined_least : (one other : Option Fault) → least_of (listed one ++ listed other) ≡ lesser one other
joined_least None None = refl
joined_least None (Some g) = refl
joined_least (Some f) None = refl
joined_least (Some f) (Some g) = refl

pub least_alone : (o : Option Fault) → least (listed o ++ []) ≡ listed o
least_alone None = refl
least_alone (Some f) = refl
