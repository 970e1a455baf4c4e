-- Initializers of what stands at a place.
use Rattle.std.proofs.Common.{◌≡◌, ℕ, zero, suc, ◌+◌, ◌*◌, ◌≤◌, List, [], ◌∷◌, length, refl, sym, ap, subst, ◌∙◌, arith, Option, Some, None, option_map}
use Rattle.std.proofs.lemmas.Nat.{mul-le}
use Rattle.mc_typed.specs.Layout.{ObjectType, Scalar, Array, Structure, Members, no_members, members, cells, cells_all, member, start}
use Rattle.mc_typed.specs.Tree.{Declarator, Initializer, Initializers, Object}
use Rattle.mc_typed.specs.Tree as t
use Rattle.mc_typed.specs.Sound.{Scope, AreElements, AreLaidOut, AreMembers, IsDeclarator, IsInitial, IsInitializer, cells_at, count_of, object_type_at}
use Rattle.mc_probe.specs.Flat.{Activation}
use Rattle.mc_interp.specs.Typed.{Stands, IsPlaced}
use Rattle.mc_interp.specs.declared.store.Store.{Store}
use Rattle.mc_interp.specs.declared.frame.Frame.{Frame}
use Rattle.mc_interp.specs.Frames.{activation_of, scope_in, IsReady}
use Rattle.mc_interp.specs.Effects.{width, IsBlock, Initializes, InitializeAll, InitializesSome}
use Rattle.mc_interp.proofs.Doings.{placed_room}
use Rattle.mc_interp.proofs.Placed.{none_some, placed_local, placed_member, stands_item}

module _ (c : Scope) (w : Activation) where
  width_is : (i : Initializer) (u : ObjectType) → IsInitializer i u c → width i ≡ cells u
  width_is (t.NumberInitializer e) (Scalar a) h = refl
  width_is (t.NumberInitializer e) (Array n u) h = absurd h
  width_is (t.NumberInitializer e) (Structure k ms) h = absurd h
  width_is (t.StructureInitializer value n) u h = h.2
  width_is (t.ListInitializer items n) (Scalar a) h = absurd h
  width_is (t.ListInitializer items n) (Array k u) h = h.0
  width_is (t.ListInitializer items n) (Structure k ms) h = h.0
  width_is (t.ZeroInitializer e n) u h = h.0

  block : (at n : ℕ) (u : ObjectType) → n ≡ cells u → IsPlaced c w at (Some u) → IsBlock c w at n
  block at n u e p types ok = let s = p types ok in omega (arith, s.within, e)

  member_placed : (at k i : ℕ) (ms : Members) (u : ObjectType) → IsPlaced c w at (Some (Structure k ms)) → member ms i ≡ Some u →
      IsPlaced c w (at + (0 + start ms i)) (Some u)
  member_placed at k i ms u p e =
      let there = placed_member c w at i (start ms i) (Some (Structure k ms)) p (ap (option_map (λ (v : ObjectType). start ms i)) e) in
      let same : start ms i ≡ 0 + start ms i = omega arith in
      subst (λ n. IsPlaced c w (at + n) (Some u)) same (subst (IsPlaced c w (at + start ms i)) e there)

  mutual
    pub initializes : (i : Initializer) (u : ObjectType) (at : ℕ) → IsInitializer i u c → IsPlaced c w at (Some u) →
        Initializes c w i at
    initializes (t.NumberInitializer e) (Scalar a) at h p = (h.0, subst (λ b. IsPlaced c w at (Some (Scalar b))) (sym h.1) p)
    initializes (t.NumberInitializer e) (Array n u) at h p = absurd h
    initializes (t.NumberInitializer e) (Structure k ms) at h p = absurd h
    initializes (t.StructureInitializer value n) u at h p =
        (h.0, subst (IsPlaced c w at) (sym h.1) p, ap (option_map cells) h.1 ∙ ap Some (sym h.2))
    initializes (t.ListInitializer items n) (Scalar a) at h p = absurd h
    initializes (t.ListInitializer items n) (Array k u) at h p = (
      block at n (Array k u) h.0 p,
      subst (InitializeAll c w items at 0) (sym h.0) (elements items u at k 0 0 (omega arith) (omega (arith, h.1)) h.2 p),
    )
    initializes (t.ListInitializer items n) (Structure k ms) at h p = (
      block at n (Structure k ms) h.0 p,
      subst (InitializeAll c w items at 0) (sym h.0)
          (parts items ms at 0 (cells_all ms) (omega arith) h.1
          (λ i u e. member_placed at k i ms u p e)),
    )
    initializes (t.ZeroInitializer e n) u at h p = block at n u h.0 p

    elements : (items : Initializers) (u : ObjectType) (at k j offset : ℕ) → offset ≡ j * cells u → j + count_of items ≤ k →
        AreElements items u c → IsPlaced c w at (Some (Array k u)) → InitializeAll c w items at offset (k * cells u)
    elements t.no_initializers u at k j offset e l h p =
        let m = mul-le j (cells u) k (cells u) (omega (arith, l)) (omega arith) in omega (arith, e, m)
    elements (t.initializers i rest) u at k j offset e l h p =
        let d = width_is i u h.0 in
        let next : offset + width i ≡ suc j * cells u = omega (arith, e, d) in (
          initializes i u (at + offset) h.0 (λ types ok. subst (λ n. Stands types (at + n) u) (sym e) (stands_item types at j k u (p types ok) (omega (arith, l)))),
          elements rest u at k (suc j) (offset + width i) next (omega (arith, l)) h.1 p,
        )

    -- the members from one on
    parts : (items : Initializers) (ms : Members) (at offset n : ℕ) → offset + cells_all ms ≤ n → AreMembers items ms c →
        ((i : ℕ) (u : ObjectType) → member ms i ≡ Some u → IsPlaced c w (at + (offset + start ms i)) (Some u)) →
        InitializeAll c w items at offset n
    parts t.no_initializers ms at offset n l h p = omega (arith, l)
    parts (t.initializers i rest) no_members at offset n l h p = absurd h
    parts (t.initializers i rest) (members u ms) at offset n l h p =
        let d = width_is i u h.0 in
        let here : offset + 0 ≡ offset = omega arith in (
          initializes i u (at + offset) h.0 (subst (λ k. IsPlaced c w (at + k) (Some u)) here (p 0 u refl)),
          parts rest ms at (offset + width i) n (omega (arith, l, d)) h.1
              (λ j v e.
              let there : offset + (cells u + start ms j) ≡ offset + width i + start ms j = omega (arith, d) in
              subst (λ k. IsPlaced c w (at + k) (Some v)) there (p (suc j) v e)),
        )

  pub offset_within : (items : Initializers) (at offset n : ℕ) → InitializeAll c w items at offset n → offset ≤ n
  offset_within t.no_initializers at offset n h = h
  offset_within (t.initializers i rest) at offset n h =
      let l = offset_within rest at (offset + width i) n h.1 in omega (arith, l)

  -- ---- declarators

  pub initial_set : (i : Option Initializer) (u : Option ObjectType) (at : ℕ) → IsInitial i u c → IsPlaced c w at u → InitializesSome c w i at
  initial_set None u at h p = tt
  initial_set (Some i) None at h p = absurd h
  initial_set (Some i) (Some u) at h p = initializes i u at h p

-- ---- room

-- the cells of an object are those of its type
cells_known : (all : List ObjectType) (n : ℕ) (objects : List Object) (k c : ℕ) → AreLaidOut all n objects → cells_at objects k ≡ Some c →
    option_map cells (object_type_at objects k) ≡ Some c
cells_known all n [] k c h e = none_some c e
cells_known all n (o ∷ os) zero c h e = ap Some (sym h.1) ∙ e
cells_known all n (o ∷ os) (suc k) c h e = cells_known all (n + o.cells) os k c h.3 e

pub declared_room : (f : Frame) (m : Store) (room : ℕ) (d : Declarator) → IsReady f m room → IsDeclarator d (scope_in f) →
    f.base + d.slot.start + d.cells ≤ length m.cells.cells
declared_room f m room d r h =
    placed_room f m room (f.base + d.slot.start) d.cells (object_type_at (scope_in f).objects d.slot.object) r
    (placed_local (scope_in f) (activation_of f) d.slot h.0)
    (cells_known _ 0 (scope_in f).objects d.slot.object d.cells r.whole.laid h.1)

pub declared_set : (f : Frame) (d : Declarator) → IsDeclarator d (scope_in f) →
    InitializesSome (scope_in f) (activation_of f) d.value (f.base + d.slot.start)
declared_set f d h =
    initial_set (scope_in f) (activation_of f) d.value (object_type_at (scope_in f).objects d.slot.object) (f.base + d.slot.start) h.2
    (placed_local (scope_in f) (activation_of f) d.slot h.0)
