-- Lists and optional values of the program as those of the definitions.
use Rattle.std.proofs.Common.{◌≡◌, ◌∙◌, List, [], ◌++◌, map, Option, Some, None, option_map, Vec, Result, Ok, Err, IfOk, refl, ap}
use Rattle.std.proofs.lemmas.List.{map-append}
use Rattle.std.specs.declared.alloc.Global.{Global}
use Rattle.types_faults.specs.declared.fault.Fault.{Fault}
use Rattle.types_faults.specs.Faults.{least_of}
use Rattle.types_faults.specs.Kept.{listed}
use Rattle.types_rules.specs.Scopes.{Scope}
use Rattle.types_rules.specs.Values as values
use Rattle.types_rules.specs.Values.{judged_two, lift2}
use Rattle.types_rules.specs.Declarations.{append, both_lists}
use Rattle.types_scopes.specs.declared.found.Judged.{Judged}
use Rattle.types_scopes.specs.Found.{judged_of}
use Rattle.types_scopes.specs.Lists.{items_in}
use Rattle.types_scopes.specs.steps.Squeezed.{squeezed_part}

-- what two clauses say of a result, together
pub both_ok : {R E : Type 0} {P Q S : R → Type 0} → ((r : R) → P r → Q r → S r)
    → (x : Result R E) → IfOk x P → IfOk x Q → IfOk x S
both_ok f (Ok r) p q = f r p q
both_ok f (Err e) p q = tt

-- ---- one list after the other

-- what a list of the program stands for
abbrev seen : {A B : Type 0} → (List A → B) → Vec A Global → B
seen view v = view v.items

seen_items : {A B : Type 0} (view : List A → B) (o : Option (Vec A Global))
    → option_map (seen view) o ≡ option_map view (option_map items_in o)
seen_items view None = refl
seen_items view (Some v) = refl

both_seen : {A B : Type 0} (view : List A → B) (join : B → B → B)
    → ((xs ys : List A) → view (xs ++ ys) ≡ join (view xs) (view ys))
    → (x y : Option (Vec A Global))
    → option_map view (lift2 append (option_map items_in x) (option_map items_in y))
    ≡ lift2 join (option_map (seen view) x) (option_map (seen view) y)
both_seen view join same (Some x) (Some y) = ap Some (same x.items y.items)
both_seen view join same (Some x) None = refl
both_seen view join same None y = refl

pub lists_joined_by : {A B : Type 0} (view : List A → B) (join : B → B → B)
    → ((xs ys : List A) → view (xs ++ ys) ≡ join (view xs) (view ys))
    → (r x y : Judged (Vec A Global)) (s : Scope)
    → r.fault ≡ least_of (listed x.fault ++ (listed y.fault ++ []))
    → option_map items_in r.value
    ≡ lift2 append (option_map items_in x.value) (option_map items_in y.value)
    → judged_of (seen view) r s
    ≡ squeezed_part (judged_two []
    (lift2 join (option_map (seen view) x.value) (option_map (seen view) y.value))
    (judged_of (seen view) x s) (judged_of (seen view) y s))
lists_joined_by {B = B} view join same r x y s fault value =
    ap (λ (o : Option Fault). let j : values.Judged B = record {
      faults = listed o;
      value = option_map (seen view) r.value;
      scope = s;
    } in j) fault
    ∙ ap (λ (w : Option B). let j : values.Judged B = record {
      faults = listed (least_of (listed x.fault ++ (listed y.fault ++ [])));
      value = w;
      scope = s;
    } in j)
    (seen_items view r.value ∙ ap (option_map view) value ∙ both_seen view join same x.value y.value)

pub lists_joined : {A B : Type 0} (f : A → B) (r x y : Judged (Vec A Global)) (s : Scope)
    → r.fault ≡ least_of (listed x.fault ++ (listed y.fault ++ []))
    → option_map items_in r.value
    ≡ lift2 append (option_map items_in x.value) (option_map items_in y.value)
    → judged_of (λ v. map f v.items) r s
    ≡ squeezed_part (both_lists
    (judged_of (λ v. map f v.items) x s) (judged_of (λ v. map f v.items) y s))
lists_joined f = lists_joined_by (map f) append (map-append f)
