-- Places of an activation, and the types of the cells that stand there.
use Rattle.std.proofs.Common.{◌≡◌, ℕ, ◌+◌, ◌*◌, ◌<◌, ◌≤◌, ℤ, List, [], length, map, refl, sym, ap, subst, ◌∙◌, arith, Option, Some, None, option_map}
use Rattle.std.specs.Prelude.{slice_get, IfSome}
use Rattle.std.proofs.lemmas.Option.{slice_get_within, slice_get-map}
use Rattle.mc_limits.specs.Limits.{most_run_cells}
use Rattle.mc_value.specs.declared.int_type.IntType.{IntType}
use Rattle.mc_value.specs.IntTypes.{InRange}
use Rattle.mc_typed.specs.declared.expressions.Slot.{Slot}
use Rattle.mc_typed.specs.Layout.{ObjectType, Scalar, Array, Structure, Members, cells, cells_all, member, start}
use Rattle.mc_typed.specs.Tree.{Object}
use Rattle.mc_typed.specs.Sound.{Scope, IsSlot, object_type_at, element_of, length_of, member_of, offset_of}
use Rattle.mc_typed.proofs.Places.{block_fits, begins, within_in}
use Rattle.mc_typed.proofs.CellTypes.{part_item, part_member, part_scalar}
use Rattle.mc_probe.specs.Flat.{Activation}
use Rattle.mc_interp.specs.declared.store.Store.{Store}
use Rattle.mc_interp.specs.declared.frame.Frame.{Frame}
use Rattle.mc_interp.specs.declared.values.Lent as code
use Rattle.mc_interp.specs.Stores.{lent_of}
use Rattle.mc_interp.specs.Typed.{Stands, StandsSome, IsLent, AreTyped, IsPlaced}
use Rattle.mc_interp.specs.Frames.{activation_of, scope_in, IsReady}

abbrev IsThere : {A : Type 0} → Option A → Type 0
IsThere None = ⊥
IsThere (Some x) = Unit {0}

abbrev from_or : {A : Type 0} → A → Option A → A
from_or d None = d
from_or d (Some x) = x

pub none_some : {A X : Type 0} (x : A) → None ≡ Some x → X
none_some x e = absurd (subst IsThere (sym e) tt)

pub some_eq : {A : Type 0} (x y : A) → Some x ≡ Some y → x ≡ y
some_eq x y e = ap (from_or x) e

-- ---- objects

object_stands : (types : List IntType) (base at : ℕ) (objects : List Object) (k : ℕ) (o : Option Object) →
    ((k : ℕ) (o : Object) → slice_get objects k ≡ Some o → Stands types (base + o.start) o.object_type) →
    slice_get objects k ≡ o → option_map (λ (o : Object). o.start) o ≡ Some at →
    StandsSome types (base + at) (option_map (λ (o : Object). o.object_type) o)
object_stands types base at objects k None all e h = none_some at h
object_stands types base at objects k (Some o) all e h =
    subst (λ n. Stands types (base + n) o.object_type) (some_eq o.start at h) (all k o e)

pub placed_local : (c : Scope) (w : Activation) (slot : Slot) → IsSlot c.objects slot →
    IsPlaced c w (w.base + slot.start) (object_type_at c.objects slot.object)
placed_local c w slot h types t =
    object_stands types w.base slot.start c.objects slot.object (slice_get c.objects slot.object) t.objects refl h

-- ---- elements

pub stands_item : (types : List IntType) (k i n : ℕ) (u : ObjectType) → Stands types k (Array n u) → i < n →
    Stands types (k + i * cells u) u
stands_item types k i n u h l =
    let f = block_fits (cells u) i n l in
    let w : k + n * cells u ≤ length types = h.within in
    record { part = part_item types k n u i h.part l; within = omega (arith, f, w) }

pub placed_item : (c : Scope) (w : Activation) (k i n stride : ℕ) (t : Option ObjectType) → IsPlaced c w k t →
    length_of t ≡ Some n → option_map cells (element_of t) ≡ Some stride → i < n →
    IsPlaced c w (k + i * stride) (element_of t)
placed_item c w k i n stride None h l s lt types ok = none_some n l
placed_item c w k i n stride (Some (Scalar a)) h l s lt types ok = none_some n l
placed_item c w k i n stride (Some (Structure number ms)) h l s lt types ok = none_some n l
placed_item c w k i n stride (Some (Array m u)) h l s lt types ok =
    let e : m ≡ n = some_eq m n l in
    let d : cells u ≡ stride = some_eq (cells u) stride s in
    let lm : i < m = omega (arith, e, lt) in
    subst (λ x. Stands types (k + i * x) u) d (stands_item types k i m u (h types ok) lm)

-- ---- members

stands_member : (types : List IntType) (k number i : ℕ) (ms : Members) (u : ObjectType) →
    Stands types k (Structure number ms) → member ms i ≡ Some u → Stands types (k + start ms i) u
stands_member types k number i ms u h e =
    let f = within_in ms i [] u (start ms i) (begins ms i u e) in
    let w : k + cells_all ms ≤ length types = h.within in
    record { part = part_member types k number ms i u h.part e; within = omega (arith, f, w) }

member_stands : (types : List IntType) (k number i offset : ℕ) (ms : Members) (o : Option ObjectType) →
    Stands types k (Structure number ms) → member ms i ≡ o →
    option_map (λ (u : ObjectType). start ms i) o ≡ Some offset → StandsSome types (k + offset) o
member_stands types k number i offset ms None h e s = none_some offset s
member_stands types k number i offset ms (Some u) h e s =
    subst (λ x. Stands types (k + x) u) (some_eq (start ms i) offset s) (stands_member types k number i ms u h e)

pub placed_member : (c : Scope) (w : Activation) (k i offset : ℕ) (t : Option ObjectType) → IsPlaced c w k t →
    offset_of t i ≡ Some offset → IsPlaced c w (k + offset) (member_of t i)
placed_member c w k i offset None h s types ok = none_some offset s
placed_member c w k i offset (Some (Scalar a)) h s types ok = none_some offset s
placed_member c w k i offset (Some (Array m u)) h s types ok = none_some offset s
placed_member c w k i offset (Some (Structure number ms)) h s types ok =
    member_stands types k number i offset ms (member ms i) (h types ok) refl s

-- ---- what a ready state gives

abbrev pub AreWithin : Store → ℕ → Option ObjectType → Type 0
AreWithin m at None = Unit {0}
AreWithin m at (Some u) = at + cells u ≤ length m.cells.cells

pub within_ready : (f : Frame) (m : Store) (room at : ℕ) (t : Option ObjectType) → IsReady f m room →
    IsPlaced (scope_in f) (activation_of f) at t → AreWithin m at t
within_ready f m room at None r h = tt
within_ready f m room at (Some u) r h =
    let s = h r.types r.typed in omega (arith, s.within, r.has.room)

pub scalar_there : (f : Frame) (m : Store) (room at : ℕ) (t : Option ObjectType) (a : IntType) → IsReady f m room →
    IsPlaced (scope_in f) (activation_of f) at t → t ≡ Some (Scalar a) → at < length m.cells.cells
scalar_there f m room at t a r h e =
    let w : at + 1 ≤ length m.cells.cells = subst (AreWithin m at) e (within_ready f m room at t r h) in
    omega (arith, w)

pub scalar_typed : (f : Frame) (m : Store) (room at : ℕ) (t : Option ObjectType) (a : IntType) → IsReady f m room →
    IsPlaced (scope_in f) (activation_of f) at t → t ≡ Some (Scalar a) → (v : ℤ) →
    slice_get m.cells.cells at ≡ Some (Some v) → InRange a v
scalar_typed f m room at t a r h e v g =
    let s = subst (StandsSome r.types at) e (h r.types r.typed) in
    r.has.each at a v (part_scalar r.types at a s.part) g

pub place_small : (f : Frame) (m : Store) (room at : ℕ) (t : Option ObjectType) → IsReady f m room →
    IsPlaced (scope_in f) (activation_of f) at t → at ≤ most_run_cells
place_small f m room at None r h = absurd (h r.types r.typed)
place_small f m room at (Some u) r h =
    let s = h r.types r.typed in omega (arith, s.within, r.has.room, r.small)

pub item_room : (f : Frame) (m : Store) (room at n stride : ℕ) (t : Option ObjectType) → IsReady f m room →
    IsPlaced (scope_in f) (activation_of f) at t → length_of t ≡ Some n →
    option_map cells (element_of t) ≡ Some stride → at + n * stride ≤ most_run_cells
item_room f m room at n stride None r h l s = none_some n l
item_room f m room at n stride (Some (Scalar a)) r h l s = none_some n l
item_room f m room at n stride (Some (Structure number ms)) r h l s = none_some n l
item_room f m room at n stride (Some (Array k u)) r h l s =
    let x = h r.types r.typed in
    let w : at + k * cells u ≤ length r.types = x.within in
    let e : k ≡ n = some_eq k n l in
    let d : cells u ≡ stride = some_eq (cells u) stride s in
    let z : at + n * stride ≤ length r.types =
    subst (λ y. at + n * y ≤ length r.types) d (subst (λ y. at + y * cells u ≤ length r.types) e w) in
    omega (arith, z, r.has.room, r.small)

-- ---- arrays that are lent

lent_found : (types : List IntType) (u : ObjectType) (o : Option code.Lent) → IsLent types (option_map lent_of o) u →
    (l : code.Lent) × (o ≡ Some l) × Stands types l.base (Array l.length u)
lent_found types u None h = absurd h
lent_found types u (Some l) h = (l, refl, h)

lent_in : (c : Scope) (types : List IntType) (lents : List code.Lent) (k : ℕ) (u : ObjectType) →
    IsLent types (slice_get (map lent_of lents) k) u →
    (l : code.Lent) × (slice_get lents k ≡ Some l) × Stands types l.base (Array l.length u)
lent_in c types lents k u h =
    lent_found types u (slice_get lents k) (subst (λ o. IsLent types o u) (slice_get-map lent_of lents k) h)

lent_stands : (f : Frame) (types : List IntType) (array : ℕ) (u : ObjectType) →
    AreTyped (scope_in f) (activation_of f) types → slice_get (scope_in f).arrays array ≡ Some u →
    (l : code.Lent) × (slice_get f.arrays.now array ≡ Some l) × Stands types l.base (Array l.length u)
lent_stands f types array u ok e = lent_in (scope_in f) types f.arrays.now array u (ok.arrays array u e)

element_there : (o : Option ObjectType) (stride : ℕ) → option_map cells o ≡ Some stride →
    (u : ObjectType) × (o ≡ Some u) × (cells u ≡ stride)
element_there None stride e = none_some stride e
element_there (Some u) stride e = (u, refl, some_eq (cells u) stride e)

pub lent_there : (f : Frame) (m : Store) (room array stride : ℕ) → IsReady f m room →
    option_map cells (slice_get (scope_in f).arrays array) ≡ Some stride → array < length f.arrays.now
lent_there f m room array stride r e =
    let x = element_there (slice_get (scope_in f).arrays array) stride e in
    let l = lent_stands f r.types array x.0 r.typed x.1 in
    slice_get_within f.arrays.now array l.0 l.1

pub lent_small : (f : Frame) (m : Store) (room array stride : ℕ) → IsReady f m room →
    option_map cells (slice_get (scope_in f).arrays array) ≡ Some stride →
    IfSome (slice_get f.arrays.now array) (λ l. l.base + l.length * stride ≤ most_run_cells)
lent_small f m room array stride r e =
    let x = element_there (slice_get (scope_in f).arrays array) stride e in
    let l = lent_stands f r.types array x.0 r.typed x.1 in
    let w : l.0.base + l.0.length * cells x.0 ≤ length r.types = l.2.within in
    let z : l.0.base + l.0.length * stride ≤ length r.types =
    subst (λ y. l.0.base + l.0.length * y ≤ length r.types) x.2 w in
    let b : l.0.base + l.0.length * stride ≤ most_run_cells = omega (arith, z, r.has.room, r.small) in
    subst (λ o. IfSome o (λ l. l.base + l.length * stride ≤ most_run_cells)) (sym l.1) b

abbrev IsItem : ℕ → code.Lent → ℕ → Type 0
IsItem stride l k = (i : ℕ) × (i < l.length) × (k ≡ l.base + i * stride)

item_lent : (f : Frame) (array stride k : ℕ) (l : code.Lent) (o : Option ObjectType) →
    slice_get f.arrays.now array ≡ Some l → slice_get (scope_in f).arrays array ≡ o →
    option_map cells o ≡ Some stride → IsItem stride l k → IsPlaced (scope_in f) (activation_of f) k o
item_lent f array stride k l None a e s i types ok = none_some stride s
item_lent f array stride k l (Some u) a e s (i, lt, is) types ok =
    let x = lent_stands f types array u ok e in
    let same : x.0 ≡ l = some_eq x.0 l (sym x.1 ∙ a) in
    let d : cells u ≡ stride = some_eq (cells u) stride s in
    let all = subst (λ (y : code.Lent). Stands types y.base (Array y.length u)) same x.2 in
    subst (λ n. Stands types n u) (sym is)
    (subst (λ y. Stands types (l.base + i * y) u) d (stands_item types l.base i l.length u all lt))

pub lent_placed : (f : Frame) (m : Store) (room array stride : ℕ) (result : Option ℕ) → IsReady f m room →
    option_map cells (slice_get (scope_in f).arrays array) ≡ Some stride →
    IfSome (slice_get f.arrays.now array) (λ l. IfSome result (λ k. (i : ℕ) × (i < l.length) × (k ≡ l.base + i * stride))) →
    IfSome result (λ k. IsPlaced (scope_in f) (activation_of f) k (slice_get (scope_in f).arrays array))
lent_placed f m room array stride None r e h = tt
lent_placed f m room array stride (Some k) r e h =
    let x = element_there (slice_get (scope_in f).arrays array) stride e in
    let l = lent_stands f r.types array x.0 r.typed x.1 in
    let i : IsItem stride l.0 k = subst (λ o. IfSome o (λ l. IfSome (Some k) (λ k. (i : ℕ) × (i < l.length) × (k ≡ l.base + i * stride)))) l.1 h in
    item_lent f array stride k l.0 (slice_get (scope_in f).arrays array) l.1 refl e i

pub items_placed : (f : Frame) (base n stride : ℕ) (t : Option ObjectType) (result : Option ℕ) →
    IsPlaced (scope_in f) (activation_of f) base t → length_of t ≡ Some n → option_map cells (element_of t) ≡ Some stride →
    IfSome result (λ k. (i : ℕ) × (i < n) × (k ≡ base + i * stride)) →
    IfSome result (λ k. IsPlaced (scope_in f) (activation_of f) k (element_of t))
items_placed f base n stride t None p l s h = tt
items_placed f base n stride t (Some k) p l s (i, lt, is) =
    subst (λ n. IsPlaced (scope_in f) (activation_of f) n (element_of t)) (sym is)
    (placed_item (scope_in f) (activation_of f) base i n stride t p l s lt)
