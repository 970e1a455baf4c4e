-- Whole declarations: what is found of them is well where they have no fault.
use Rattle.std.proofs.Common.{◌≡◌, ℕ, true, ◌&&◌, ◌||◌, List, [], ◌∷◌, ◌++◌, length, Option, Some, None, is_some, refl, ap, sym, ◌∙◌, subst, append_assoc}
use Rattle.mc_tree.specs.Tree.{Name, ArrayLengths, Initializer, InitDeclarator, Declaration, Parameters}
use Rattle.mc_tree.specs.Tree as tree
use Rattle.mc_typed.specs.declared.expressions.Slot.{Slot}
use Rattle.mc_typed.specs.Tree.{Declarator}
use Rattle.mc_typed.specs.Frames.{slots_value, slots_declarators}
use Rattle.mc_typed.specs.Sound.{AreDeclarators}
use Rattle.mc_typed.specs.Sound as sound
use Rattle.types_faults.specs.declared.fault.Fault.{Fault}
use Rattle.types_faults.specs.declared.fault.FaultKind.TheVariants.{Mismatch}
use Rattle.types_faults.specs.Faults.{fault_if, unless_faulty}
use Rattle.types_rules.specs.Types.{CType}
use Rattle.types_rules.specs.Scopes.{Typedef, Scope}
use Rattle.types_rules.specs.Declarators.{redeclared_faults, misnamed_faults, is_later_absent, is_first_absent, declared_type, absent_faults}
use Rattle.types_rules.specs.Judgement.{typed_by, judge_specifiers, judge_lengths}
use Rattle.types_rules.specs.Declarations.{Storage, TypedefStorage, StaticStorage, AutomaticStorage, storage_of, count_listed, object_faults, typedef_faults, typedef_judged, object_judged, judge_init, judge_init_declarator, judge_init_declarators, append, is_tag_alone, empty_faults, judge_declaration}
use Rattle.laws_soundness.specs.Growth.{AreBelow}
use Rattle.laws_soundness.specs.Blocks.{IsNoFunction, declarator_of, HaveNoFunction, DeclaresNoFunction}
use Rattle.laws_soundness.specs.Fits.{World, Completes, ArePositive, MeaningFits, Fits, Ends, Made, IsDeclared}
use Rattle.laws_soundness.proofs.Lists.{right_nil}
use Rattle.laws_soundness.proofs.Tests.{nil_left, nil_right, no_fault, or_left, or_right, lift2_some}
use Rattle.laws_soundness.proofs.Grows.{below_append, lengths_grow, specifiers_grow}
use Rattle.laws_soundness.proofs.Fitting.{fits_name, made_none, made_as, made_two, ends_before}
use Rattle.laws_soundness.proofs.Types.{type_typed}
use Rattle.laws_soundness.proofs.Sound.{specifiers_well, lengths_well}
use Rattle.laws_soundness.proofs.Extends.{init_declarators_extend, object_extends}
use Rattle.laws_soundness.proofs.Declarations.{count_is, given_type, object_is, both_nil, automatic_well, static_well}

-- ---- typedef names

no_value : (value : Option Initializer) (at : ℕ) → fault_if (is_some value) Mismatch at ≡ [] → value ≡ None
no_value None at h = refl
no_value (Some i) at h = absurd (cc)

typedef_at : (w : World) (s : Scope) (faults : List Fault) (name : Name) (lengths : ArrayLengths)
    (base u : Option CType) (v : CType) → u ≡ Some v → ArePositive v.lengths → Fits w s
    → AreBelow (length s.statics) s.names → (typedef_judged faults name lengths base u None s).faults ≡ []
    → IsDeclared w s (typedef_judged faults name lengths base u None s).value
    (typedef_judged faults name lengths base u None s).scope
typedef_at w s faults name lengths base u v e p fit below h =
    let own = typedef_faults name lengths None s in
    let own_nil = nil_left own [] (nil_right faults _ h) in
    let et : unless_faulty (faults ++ own) u ≡ Some v =
    ap (λ f. unless_faulty f u) (both_nil faults own (nil_left faults _ h) own_nil) ∙ e in
    record {
      declared = [];
      is = refl;
      sound = tt;
      made = made_none s;
      fits = fits_name w s name (Typedef (unless_faulty (faults ++ own) u)) fit
          (subst (λ o. MeaningFits w s.structures name.text (Typedef o)) (sym et) p);
      below = below_append (length s.statics) s.names _ below (tt, tt);
    }

typedef_well : (w : World) (s : Scope) (faults : List Fault) (name : Name) (lengths : ArrayLengths)
    (o : Option (List ℕ)) (b : CType) (ns : List ℕ) (value : Option Initializer) → Fits w s
    → AreBelow (length s.statics) s.names → o ≡ Some ns → ArePositive ns → ArePositive b.lengths
    → (typedef_judged faults name lengths (Some b) (declared_type lengths o (count_listed value) (Some b)) value s).faults ≡ []
    → IsDeclared w s
    (typedef_judged faults name lengths (Some b) (declared_type lengths o (count_listed value) (Some b)) value s).value
    (typedef_judged faults name lengths (Some b) (declared_type lengths o (count_listed value) (Some b)) value s).scope
typedef_well w s faults name lengths o b ns value fit below q p pb h =
    let at = name.span.start in
    let own = typedef_faults name lengths value s in
    let own_nil = nil_left own _ (nil_right faults _ h) in
    let rest = nil_right (misnamed_faults name s) _ (nil_right (redeclared_faults name s) _ own_nil) in
    let none = no_value value at (nil_right (absent_faults lengths None at) _ rest) in
    let absent = no_fault (is_later_absent lengths || (is_first_absent lengths && true)) Mismatch at
    (nil_left (absent_faults lengths None at) _ rest) in
    subst (λ v. (typedef_judged faults name lengths (Some b) (declared_type lengths o (count_listed v) (Some b)) v s).faults ≡ []
    → IsDeclared w s
    (typedef_judged faults name lengths (Some b) (declared_type lengths o (count_listed v) (Some b)) v s).value
    (typedef_judged faults name lengths (Some b) (declared_type lengths o (count_listed v) (Some b)) v s).scope) (sym none)
    (λ k.
    let g = given_type lengths o None b ns q p pb tt (or_left (is_later_absent lengths) _ absent)
    (or_right (is_later_absent lengths) _ absent) in
    typedef_at w s faults name lengths (Some b) (declared_type lengths o None (Some b)) g.type g.is g.positive fit below k) h

-- ---- declarators

object_well : (w : World) (storage : Storage) (s : Scope) (faults : List Fault) (name : Name)
    (lengths : ArrayLengths) (o : Option (List ℕ)) (b : CType) (ns : List ℕ) (value : Option Initializer)
    → Fits w s → AreBelow (length s.statics) s.names → Completes s.structures w.structures → o ≡ Some ns
    → ArePositive ns → ArePositive b.lengths
    → Ends w (object_judged storage faults name lengths (Some b) (declared_type lengths o (count_listed value) (Some b)) value s).scope
    → (object_judged storage faults name lengths (Some b) (declared_type lengths o (count_listed value) (Some b)) value s).faults ≡ []
    → IsDeclared w s
    (object_judged storage faults name lengths (Some b) (declared_type lengths o (count_listed value) (Some b)) value s).value
    (object_judged storage faults name lengths (Some b) (declared_type lengths o (count_listed value) (Some b)) value s).scope
object_well w TypedefStorage s faults name lengths o b ns value fit below c q p pb ends h =
    typedef_well w s faults name lengths o b ns value fit below q p pb h
object_well w StaticStorage s faults name lengths o b ns value fit below c q p pb ends h =
    let u = declared_type lengths o (count_listed value) (Some b) in
    let own = object_faults name lengths (count_listed value) (Some b) u s in
    static_well w s faults name lengths (Some b) u value fit below
    (object_is w s name lengths o (count_listed value) b ns fit c q p pb (count_is value)
    (nil_left own _ (nil_right faults _ h))) ends h
object_well w AutomaticStorage s faults name lengths o b ns value fit below c q p pb ends h =
    let u = declared_type lengths o (count_listed value) (Some b) in
    let own = object_faults name lengths (count_listed value) (Some b) u s in
    automatic_well w s faults name lengths (Some b) u value fit below
    (object_is w s name lengths o (count_listed value) b ns fit c q p pb (count_is value)
    (nil_left own _ (nil_right faults _ h))) ends h

-- the faults of the lengths stand first
lengths_faults : (storage : Storage) (faults : List Fault) (name : Name) (lengths : ArrayLengths)
    (base u : Option CType) (value : Option Initializer) (s : Scope)
    → (object_judged storage faults name lengths base u value s).faults ≡ [] → faults ≡ []
lengths_faults TypedefStorage faults name lengths base u value s h = nil_left faults _ h
lengths_faults StaticStorage faults name lengths base u value s h = nil_left faults _ h
lengths_faults AutomaticStorage faults name lengths base u value s h = nil_left faults _ h

pub init_well : (w : World) (storage : Storage) (b : CType) (d : tree.Declarator) (value : Option Initializer)
    (s : Scope) → IsNoFunction d → ArePositive b.lengths → Fits w s → AreBelow (length s.statics) s.names
    → Ends w (judge_init storage (Some b) d value s).scope → (judge_init storage (Some b) d value s).faults ≡ []
    → IsDeclared w s (judge_init storage (Some b) d value s).value (judge_init storage (Some b) d value s).scope
init_well w storage b (tree.object stars name lengths span) value s none pb fit below ends h =
    let x = judge_lengths lengths s in
    let u = declared_type lengths x.value (count_listed value) (Some b) in
    let g = lengths_grow lengths s in
    let e = object_extends storage x.faults name lengths (Some b) u value x.scope in
    let ends_x = ends_before w x.scope _ e ends in
    let l = lengths_well w lengths s fit ends_x (lengths_faults storage x.faults name lengths (Some b) u value x.scope h) in
    let below_x : AreBelow (length x.scope.statics) x.scope.names =
    subst (λ z. AreBelow (length z) x.scope.names) (sym g.statics) (g.below (length s.statics) below) in
    let d = object_well w storage x.scope x.faults name lengths x.value b l.value value l.fits below_x
    ends_x.structures l.is l.positive pb ends h in
    record {
      declared = d.declared;
      is = d.is;
      sound = d.sound;
      made = made_from s x.scope
          (object_judged storage x.faults name lengths (Some b) u value x.scope).scope _ l.still d.made;
      fits = d.fits;
      below = d.below;
    }
  where
    made_from : (s t u : Scope) (m : List Slot) → t.objects ≡ s.objects → Made t u m → Made s u m
    made_from s t u m e p = made_two s t u [] m ([], e ∙ sym (right_nil s.objects), refl) p
init_well w storage b (tree.function stars name all span) value s none pb fit below ends h = absurd none

init_declarator_well : (w : World) (storage : Storage) (b : CType) (d : InitDeclarator) (s : Scope)
    → IsNoFunction (declarator_of d) → ArePositive b.lengths → Fits w s → AreBelow (length s.statics) s.names
    → Ends w (judge_init_declarator storage (Some b) d s).scope
    → (judge_init_declarator storage (Some b) d s).faults ≡ []
    → IsDeclared w s (judge_init_declarator storage (Some b) d s).value (judge_init_declarator storage (Some b) d s).scope
init_declarator_well w storage b (tree.bare d) s none pb fit below ends h =
    init_well w storage b d None s none pb fit below ends h
init_declarator_well w storage b (tree.initialized d value) s none pb fit below ends h =
    init_well w storage b d (Some value) s none pb fit below ends h

declarators_append : (c : sound.Scope) (xs ys : List Declarator) → AreDeclarators xs c → AreDeclarators ys c
    → AreDeclarators (xs ++ ys) c
declarators_append c [] ys h k = k
declarators_append c (x ∷ xs) ys h k = (h.0, declarators_append c xs ys h.1 k)

slots_append : (xs ys : List Declarator) → slots_declarators (xs ++ ys) ≡ slots_declarators xs ++ slots_declarators ys
slots_append [] ys = refl
slots_append (x ∷ xs) ys =
    ap (λ l. x.slot ∷ l) (ap (λ l. slots_value x.value ++ l) (slots_append xs ys)
    ∙ sym (append_assoc (slots_value x.value) (slots_declarators xs) (slots_declarators ys)))

init_declarators_well : (w : World) (storage : Storage) (b : CType) (ds : List InitDeclarator) (s : Scope)
    → HaveNoFunction ds → ArePositive b.lengths → Fits w s → AreBelow (length s.statics) s.names
    → Ends w (judge_init_declarators storage (Some b) ds s).scope
    → (judge_init_declarators storage (Some b) ds s).faults ≡ []
    → IsDeclared w s (judge_init_declarators storage (Some b) ds s).value
    (judge_init_declarators storage (Some b) ds s).scope
init_declarators_well w storage b [] s none pb fit below ends h = record {
  declared = [];
  is = refl;
  sound = tt;
  made = made_none s;
  fits = fit;
  below = below;
}
init_declarators_well w storage b (d ∷ ds) s none pb fit below ends h =
    let x = judge_init_declarator storage (Some b) d s in
    let y = judge_init_declarators storage (Some b) ds x.scope in
    let e = init_declarators_extend storage (Some b) ds x.scope in
    let dx = init_declarator_well w storage b d s none.0 pb fit below (ends_before w x.scope y.scope e ends)
    (nil_left x.faults _ h) in
    let dy = init_declarators_well w storage b ds x.scope none.1 pb dx.fits dx.below ends
    (nil_left y.faults [] (nil_right x.faults _ h)) in
    record {
      declared = dx.declared ++ dy.declared;
      is = lift2_some append x.value y.value dx.declared dy.declared dx.is dy.is;
      sound = declarators_append w.scope dx.declared dy.declared dx.sound dy.sound;
      made = made_as s y.scope _ _ (sym (slots_append dx.declared dy.declared))
          (made_two s x.scope y.scope _ _ dx.made dy.made);
      fits = dy.fits;
      below = dy.below;
    }

-- ---- declarations

-- a declaration of a block
pub declaration_well : (w : World) (d : Declaration) (s : Scope) → DeclaresNoFunction d → Fits w s
    → AreBelow (length s.statics) s.names → Ends w (judge_declaration d s).scope
    → (judge_declaration d s).faults ≡ []
    → IsDeclared w s (judge_declaration d s).value (judge_declaration d s).scope
declaration_well w (tree.declaration all ds span) s none fit below ends h =
    let z = judge_specifiers (is_tag_alone all ds) all s in
    let x = typed_by span.start all z in
    let storage = storage_of all s.is_file in
    let e = init_declarators_extend storage x.value ds x.scope in
    let ends_x = ends_before w x.scope _ e ends in
    let g = specifiers_grow (is_tag_alone all ds) all s in
    let here = nil_left x.faults _ (nil_left (x.faults ++ empty_faults all ds span.start) _ h) in
    let later = nil_right (x.faults ++ empty_faults all ds span.start) _ h in
    let tz = specifiers_well w (is_tag_alone all ds) all s fit ends_x (nil_left z.faults _ here) in
    let tx = type_typed w s span.start all z tz here in
    let below_x : AreBelow (length x.scope.statics) x.scope.names =
    subst (λ l. AreBelow (length l) x.scope.names) (sym g.statics) (g.below (length s.statics) below) in
    let d = subst (λ o. Ends w (judge_init_declarators storage o ds x.scope).scope
    → (judge_init_declarators storage o ds x.scope).faults ≡ []
    → IsDeclared w x.scope (judge_init_declarators storage o ds x.scope).value
    (judge_init_declarators storage o ds x.scope).scope) (sym tx.is)
    (λ e f. init_declarators_well w storage tx.value ds x.scope none tx.positive tx.fits below_x e f) ends later in
    record {
      declared = d.declared;
      is = d.is;
      sound = d.sound;
      made = made_two s x.scope (judge_init_declarators storage x.value ds x.scope).scope [] _ ([], tx.still ∙ sym (right_nil s.objects), refl) d.made;
      fits = d.fits;
      below = d.below;
    }
