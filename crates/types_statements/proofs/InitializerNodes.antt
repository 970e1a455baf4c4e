-- Nodes of initializers see of the faults of their parts the least alone.
use Rattle.std.proofs.Common.{◌≡◌, ◌∙◌, ℕ, Bool, true, false, List, [], ◌++◌, Option, Some, None, option_map, option_and_then, if◌then◌else◌, ap}
use Rattle.mc_typed.specs.Tree as t
use Rattle.types_faults.specs.declared.fault.Fault.{Fault}
use Rattle.types_rules.specs.Types.{CType}
use Rattle.types_rules.specs.Scopes.{Scope}
use Rattle.types_rules.specs.Values.{Judged, judged, Found, part, kind_found, number_found, lift2}
use Rattle.types_rules.specs.Initializers.{target_of, item_faults, static_faults, item_value, single_judged, zero_value, is_zero, zero_judged, count_faults, list_value, list_judged, braced_judged, items_judged}
use Rattle.types_faults.specs.Kept.{listed, least}
use Rattle.types_scopes.specs.steps.Squeezed.{squeezed, squeezed_part}
use Rattle.types_statements.specs.Items.{then_item, item_then}
use Rattle.types_scopes.proofs.Squeezed.{least_front, least_least, one_part, two_parts}

pub single_node : (static : Bool) (u : Option CType) (at : ℕ) (x : Found)
    → squeezed_part (single_judged static u at (squeezed x))
    ≡ squeezed_part (single_judged static u at x)
single_node static u at x =
    let target = target_of x.scope.structures u in
    one_part
    (item_faults static target at (kind_found x)
    ++ static_faults static at x.constant (number_found x))
    (option_and_then (item_value x.scope.structures u target) x.value) (part x)

pub list_node : (u : Option CType) (at count : ℕ) (x : Judged t.Initializers)
    → squeezed_part (list_judged u at count (squeezed_part x))
    ≡ squeezed_part (list_judged u at count x)
list_node u at count x =
    let target = target_of x.scope.structures u in
    one_part (count_faults at count target)
    (option_and_then (list_value x.scope.structures u target) x.value) x

pub items_node : (x : Judged t.Initializer) (y : Judged t.Initializers) (s : Scope)
    → squeezed_part (items_judged (record (squeezed_part x) { scope = s }) (squeezed_part y))
    ≡ squeezed_part (items_judged x y)
items_node x y s = two_parts [] (lift2 t.initializers x.value y.value) x y

pub item_then_node : (x : Judged t.Initializers) (y : Judged t.Initializer) (s : Scope)
    → squeezed_part (item_then (record (squeezed_part x) { scope = s }) (squeezed_part y))
    ≡ squeezed_part (item_then x y)
item_then_node x y s = two_parts [] (lift2 then_item x.value y.value) x y

pub zero_node : (u : Option CType) (x : Found) (s : Scope)
    → squeezed_part (zero_judged u (Some (squeezed x)) s)
    ≡ squeezed_part (zero_judged u (Some x) s)
zero_node u x s =
    ap (λ (o : Option Fault). let j : Judged t.Initializer = record {
      faults = listed o;
      value = zero_value x.scope.structures u (number_found x);
      scope = x.scope;
    } in j) (least_least x.faults)

abbrev optional : Option Found → Option Found
optional x = option_map squeezed x

pub braced_node : (u : Option CType) (at count : ℕ) (only : Option Found)
    (x : Judged t.Initializers) (s : Scope)
    → squeezed_part (braced_judged u at count (optional only) (squeezed_part x) s)
    ≡ squeezed_part (braced_judged u at count only x s)
braced_node u at count None x s = list_node u at count x
braced_node u at count (Some f) x s = by_zero (is_zero (Some f))
  where
    by_zero : (b : Bool)
        → squeezed_part (if b then zero_judged u (Some (squeezed f)) s
        else list_judged u at count (squeezed_part x))
        ≡ squeezed_part (if b then zero_judged u (Some f) s else list_judged u at count x)
    by_zero true = zero_node u f s
    by_zero false = list_node u at count x

-- a list of one item
one_item : (y : Judged t.Initializer) (s : Scope)
    → squeezed_part (item_then (judged [] (Some t.no_initializers) s) (squeezed_part y))
    ≡ squeezed_part (items_judged y (judged [] (Some t.no_initializers) y.scope))
one_item y s = by_value y.value
  where
    by_value : (v : Option t.Initializer)
        → squeezed_part (item_then (judged [] (Some t.no_initializers) s)
        (record { faults = least y.faults; value = v; scope = y.scope }))
        ≡ squeezed_part (items_judged (record { faults = y.faults; value = v; scope = y.scope })
        (judged [] (Some t.no_initializers) y.scope))
    by_value None =
        ap (λ (fs : List Fault). let j : Judged t.Initializers = record {
          faults = fs;
          value = None;
          scope = y.scope;
        } in j) (least_front y.faults [])
    by_value (Some i) =
        ap (λ (fs : List Fault). let j : Judged t.Initializers = record {
          faults = fs;
          value = Some (t.initializers i t.no_initializers);
          scope = y.scope;
        } in j) (least_front y.faults [])

pub list_of_one : (u : Option CType) (at : ℕ) (y : Judged t.Initializer) (s : Scope)
    → squeezed_part (list_judged u at 1 (squeezed_part
    (item_then (judged [] (Some t.no_initializers) s) (squeezed_part y))))
    ≡ squeezed_part (list_judged u at 1
    (items_judged y (judged [] (Some t.no_initializers) y.scope)))
list_of_one u at y s =
    let more : Judged t.Initializers =
    items_judged y (judged [] (Some t.no_initializers) y.scope) in
    ap (λ x. squeezed_part (list_judged u at 1 x)) (one_item y s) ∙ list_node u at 1 more
