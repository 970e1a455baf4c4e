-- What is found of an initializer, from what is found of its parts: of the faults the least is kept.
use Rattle.std.proofs.Common.{◌≡◌, ◌∙◌, ℕ, suc, ◌+◌, Bool, true, false, List, [], ◌∷◌, ◌++◌, Option, Some, None, if◌then◌else◌, option_map, length, map, refl, sym, ap, arith}
use Rattle.mc_span.specs.declared.span.Span.{Span}
use Rattle.mc_tree.specs.Tree.{span_of}
use Rattle.mc_tree.specs.Tree as t
use Rattle.mc_tree.specs.declared.declarations.initializer.Initializer as written
use Rattle.mc_tree.specs.Units.{initializer_of, initializers_from}
use Rattle.mc_typed.specs.Tree.{Initializer, Initializers}
use Rattle.mc_typed.specs.Tree as typed
use Rattle.types_faults.specs.declared.fault.Fault.{Fault}
use Rattle.types_rules.specs.Types.{CType}
use Rattle.types_rules.specs.Scopes.{Scope}
use Rattle.types_rules.specs.Values.{Judged, judged, lift2, Found}
use Rattle.types_rules.specs.Judgement.{judge}
use Rattle.types_rules.specs.Initializers.{Parts, braced_judged, item_count, first_part, is_zero, items_judged, judge_initializer, judge_items, later_parts, list_judged, only_expression, parts_of, single_judged, target_of, zero_judged}
use Rattle.types_faults.specs.Kept.{least}
use Rattle.types_scopes.specs.steps.Squeezed.{squeezed, squeezed_part}
use Rattle.types_scopes.proofs.Squeezed.{least_front}
use Rattle.types_statements.specs.Initializers.{parts_from}
use Rattle.types_statements.proofs.ItemParts.{later}
use Rattle.types_statements.proofs.InitializerNodes.{single_node, list_node, zero_node}
use Rattle.mc_types.proofs.Arms.{one_arm}

pub in_single : (static : Bool) (u : Option CType) (e : t.Expression) (s : Scope) (x : Found)
    → x ≡ squeezed (judge e s)
    → squeezed_part (single_judged static u (span_of e).start x)
    ≡ squeezed_part (judge_initializer static u (t.Single e) s)
in_single static u e s x h =
    one_arm squeezed squeezed_part (single_judged static u (span_of e).start)
    (λ v. single_node static u (span_of e).start v) (judge e s) x h

-- ---- a list

-- the parts of the items after this one
pub later_parts_from : (n : ℕ) (p : Parts) → parts_from (n + 1) p ≡ later_parts (parts_from n p)
later_parts_from n p =
    let one : n + 1 ≡ suc n = omega arith in
    ap (λ (k : ℕ). parts_from k p) one ∙ sym (later n p)

-- a list that is not of an expression alone
pub in_list : (static : Bool) (u : Option CType) (items : t.Initializers) (span : Span) (s : Scope)
    (x : Judged Initializers)
    → x ≡ squeezed_part (judge_items static (parts_of (target_of s.structures u)) items s)
    → squeezed_part (list_judged u span.start (item_count items) x)
    ≡ squeezed_part (list_judged u span.start (item_count items)
    (judge_items static (parts_of (target_of s.structures u)) items s))
in_list static u items span s x h =
    one_arm squeezed_part squeezed_part (list_judged u span.start (item_count items))
    (λ v. list_node u span.start (item_count items) v)
    (judge_items static (parts_of (target_of s.structures u)) items s) x h

-- ---- an expression alone in braces

front_same : (fs gs hs : List Fault) → least fs ≡ least gs → least (fs ++ hs) ≡ least (gs ++ hs)
front_same fs gs hs h =
    sym (least_front fs hs) ∙ ap (λ (v : List Fault). least (v ++ hs)) h ∙ least_front gs hs

abbrev pub nothing : Scope → Judged Initializers
nothing s = judged [] (Some typed.no_initializers) s

one_item : (static : Bool) (u : Option CType) (at : ℕ) (x : Found)
    → squeezed_part (items_judged (single_judged static u at (squeezed x)) (nothing x.scope))
    ≡ squeezed_part (items_judged (single_judged static u at x) (nothing x.scope))
one_item static u at x =
    let one = single_judged static u at x in
    let more = single_judged static u at (squeezed x) in
    ap (λ (fs : List Fault).
    let j : Judged Initializers = record {
      faults = fs;
      value = lift2 typed.initializers one.value (Some typed.no_initializers);
      scope = x.scope;
    } in j)
    (front_same more.faults one.faults ([] ++ [])
    (ap (λ (v : Judged Initializer). v.faults) (single_node static u at x)))

braced_same : (u : Option CType) (at : ℕ) (x : Found) (y z : Judged Initializers) (s : Scope)
    → squeezed_part y ≡ squeezed_part z
    → squeezed_part (braced_judged u at 1 (Some (squeezed x)) y s)
    ≡ squeezed_part (braced_judged u at 1 (Some x) z s)
braced_same u at x y z s h = by_zero (is_zero (Some x))
  where
    by_zero : (b : Bool)
        → squeezed_part (if b then zero_judged u (Some (squeezed x)) s else list_judged u at 1 y)
        ≡ squeezed_part (if b then zero_judged u (Some x) s else list_judged u at 1 z)
    by_zero true = zero_node u x s
    by_zero false =
        sym (list_node u at 1 y) ∙ ap (λ (v : Judged Initializers). squeezed_part (list_judged u at 1 v)) h
        ∙ list_node u at 1 z

pub in_braces : (static : Bool) (u v : Option CType) (e : t.Expression) (span : Span) (s : Scope)
    (x : Found)
    → x ≡ squeezed (judge e s)
    → v ≡ first_part (parts_of (target_of s.structures u))
    → squeezed_part (braced_judged u span.start 1 (Some x)
    (items_judged (single_judged static v (span_of e).start x) (nothing x.scope)) x.scope)
    ≡ squeezed_part (judge_initializer static u
    (t.Braced (t.initializers (t.Single e) t.no_initializers) span) s)
in_braces static u v e span s x h k =
    let p : Found = judge e s in
    ap (λ (w : Found). squeezed_part (braced_judged u span.start 1 (Some w)
    (items_judged (single_judged static v (span_of e).start w) (nothing w.scope)) w.scope)) h
    ∙ braced_same u span.start p
    (items_judged (single_judged static v (span_of e).start (squeezed p)) (nothing p.scope))
    (items_judged (single_judged static v (span_of e).start p) (nothing p.scope)) p.scope
    (one_item static v (span_of e).start p)
    ∙ ap (λ (w : Option CType). squeezed_part (braced_judged u span.start 1 (Some p)
    (items_judged (single_judged static w (span_of e).start p) (nothing p.scope)) s)) k

-- ---- the two kinds of lists

-- a list that is not of an expression alone is judged by its items
pub in_items : (static : Bool) (u : Option CType) (all : t.Initializers) (span : Span) (s : Scope)
    → only_expression all ≡ None
    → squeezed_part (list_judged u span.start (item_count all)
    (judge_items static (parts_of (target_of s.structures u)) all s))
    ≡ squeezed_part (judge_initializer static u (t.Braced all span) s)
in_items static u all span s h =
    sym (ap (λ (o : Option t.Expression). squeezed_part (braced_judged u span.start (item_count all)
    (option_map (λ e. judge e s) o)
    (judge_items static (parts_of (target_of s.structures u)) all s) s)) h)

-- a list of an expression alone has no other item
pub only_item : (all : t.Initializers) (e : t.Expression) → Some e ≡ only_expression all
    → t.initializers (t.Single e) t.no_initializers ≡ all
only_item t.no_initializers e h = cc
only_item (t.initializers (t.Single x) t.no_initializers) e h = cc
only_item (t.initializers (t.Single x) (t.initializers y rest)) e h = cc
only_item (t.initializers (t.Braced items span) rest) e h = cc

-- no other number of items is an expression alone
pub only_none : (all : List written.Initializer) → (length all ≡ 1 → ⊥)
    → None ≡ only_expression (initializers_from (map initializer_of all))
only_none [] other = refl
only_none (a ∷ []) other = absurd (other refl)
only_none (a ∷ b ∷ rest) other = more (initializer_of a)
  where
    more : (x : t.Initializer) → None ≡ only_expression (t.initializers x
        (t.initializers (initializer_of b) (initializers_from (map initializer_of rest))))
    more (t.Single e) = refl
    more (t.Braced items span) = refl
