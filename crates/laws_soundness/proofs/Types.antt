-- Specifiers, enumerators, lengths and members: what is found of them is well where their parts are
-- and they have no fault of their own.
use Rattle.std.proofs.Common.{◌≡◌, ℕ, zero, suc, ◌≤◌, ℤ, pos, negsuc, ◌+ℤ◌, Bool, true, false, not, ◌||◌, if◌then◌else◌, min, List, [], ◌∷◌, ◌++◌, length, slice_get, Option, Some, None, option_map, option_and_then, is_some, is_none, refl, ap, sym, ◌∙◌, subst, arith}
use Rattle.mc_span.specs.declared.span.Span.{Span}
use Rattle.mc_tree.specs.Tree.{Name, Specifiers}
use Rattle.mc_value.specs.declared.int_type.IntType.TheVariants as the
use Rattle.mc_value.specs.IntTypes.{in_range}
use Rattle.types_faults.specs.declared.fault.FaultKind.TheVariants.{Mismatch, NotConstant}
use Rattle.types_rules.specs.Types.{Base, Void, Integer, Tagged, CType, plain, int, Structure, Incomplete, Complete, Faulty, is_faulty_structure, is_faulty, base_of_words, qualified, any_is_no_word, has_type, has, type_of_words_or}
use Rattle.mc_tree.specs.declared.declarations.specifier_word.SpecifierWord.TheVariants as word
use Rattle.types_rules.specs.Scopes.{Meaning, Automatic, Borrowed, Constant, Function, Typedef, TagMeaning, StructureTag, EnumerationTag, Scope, meaning_of, tag_of, tag_here, with_name, with_tag, with_structure, with_structure_at}
use Rattle.types_rules.specs.Scopes as scope
use Rattle.types_rules.specs.Values.{Judged, judged, Found, number_found, number_in}
use Rattle.mc_typed.specs.Constants.{constant_value}
use Rattle.types_rules.specs.Profile.{most_kept}
use Rattle.types_rules.specs.Constants.{value_of_constant, constant_found, traps, constant_faults}
use Rattle.types_rules.specs.Declarators.{used_type, typedef_type, structure_type, declared_tag, used_structure_tag, structure_tag, used_enumeration_tag, fits_int, in_int, enumerator_judged, valued_enumerator_judged, redeclared_faults, misnamed_faults, length_of, is_no_length, length_faults, lengths_judged}
use Rattle.types_rules.specs.Judgement.{typed_by, one_of, specifiers_judged}
use Rattle.laws_soundness.specs.Fits.{World, Completes, ArePositive, StructuresFit, MeaningFits, Fits, IsWell, IsTyped, AreTyped, AreCounted, AreLengths}
use Rattle.laws_soundness.proofs.Lists.{get_appended}
use Rattle.laws_soundness.proofs.Tests.{nil_left, nil_right, no_fault, or_left, or_right, not_false, false_true, none_some, and_then_some, lift2_some}
use Rattle.laws_soundness.proofs.Fitting.{name_fits, fits_name, fits_tag, fits_structure}
use Rattle.laws_soundness.proofs.Values.{numbers}
use Rattle.laws_soundness.proofs.Expressions.{in_range_is}

-- ---- specifiers

pub none_typed : (w : World) (s : Scope) → Fits w s → AreTyped w s false (judged [] None s)
none_typed w s fit = record {
  there = λ q. false_true q;
  positive = λ u q. none_some u q;
  fits = fit;
  still = refl;
}

pub some_typed : (w : World) (s t : Scope) (b : Bool) (x : Judged CType) (u : CType) → x.value ≡ Some u
    → ArePositive u.lengths → Fits w x.scope → x.scope.objects ≡ s.objects → AreTyped w s b x
some_typed w s t b x u is p fit still = record {
  there = λ q. (u, is);
  positive = λ v q. let same : u ≡ v = some_same u v (sym is ∙ q) in subst (λ x. ArePositive x.lengths) same p;
  fits = fit;
  still = still;
}
  where
    some_same : (a b : CType) → Some a ≡ Some b → a ≡ b
    some_same a b h = cc

never_faulty : (w : World) (all : List Structure) (b : Base) → StructuresFit w all
    → is_faulty all b ≡ false
never_faulty w all Void fit = refl
never_faulty w all (Integer a) fit = refl
never_faulty w all (Tagged k) fit = by_entry (slice_get all k) refl
  where
    by_entry : (o : Option Structure) → slice_get all k ≡ o → is_faulty_structure o ≡ false
    by_entry None e = refl
    by_entry (Some (Incomplete b)) e = refl
    by_entry (Some (Complete ms)) e = refl
    by_entry (Some Faulty) e = absurd (fit k Faulty e)

used : (w : World) (s : Scope) (u : CType) → Fits w s → used_type s u ≡ Some u
used w s u fit = ap (λ b. if b then None else Some u) (never_faulty w s.structures u.base fit.structures)

pub typedef_typed : (w : World) (s : Scope) (name : Name) (m : Option Meaning) → Fits w s
    → meaning_of name s ≡ m → (typedef_type name s m).faults ≡ []
    → AreTyped w s true (typedef_type name s m)
typedef_typed w s name None fit e h = absurd (cc)
typedef_typed w s name (Some (Typedef (Some u))) fit e h =
    let f = name_fits w s.structures name.text s.names (Typedef (Some u)) fit.names e in
    some_typed w s s true (typedef_type name s (Some (Typedef (Some u)))) u (used w s u fit) f fit refl
typedef_typed w s name (Some (Typedef None)) fit e h =
    absurd (name_fits w s.structures name.text s.names (Typedef None) fit.names e)
typedef_typed w s name (Some (Automatic slot u)) fit e h = absurd (cc)
typedef_typed w s name (Some (scope.Stored slot u)) fit e h = absurd (cc)
typedef_typed w s name (Some (Borrowed array u)) fit e h = absurd (cc)
typedef_typed w s name (Some (Constant v)) fit e h = absurd (cc)
typedef_typed w s name (Some (Function f b)) fit e h = absurd (cc)

structure_typed : (w : World) (s : Scope) (k : ℕ) → Fits w s
    → AreTyped w s true (judged [] (structure_type k s) s)
structure_typed w s k fit =
    some_typed w s s true (judged [] (structure_type k s) s) (plain (Tagged k))
    (used w s (plain (Tagged k)) fit) tt fit refl

pub completes_more : (all : List Structure) (x : Structure) → Completes all (all ++ (x ∷ []))
completes_more all x k ms h = get_appended all (x ∷ []) k (Complete ms) h

pub tag_typed : (w : World) (alone : Bool) (tag : Name) (span : Span) (s : Scope) → Fits w s
    → (structure_tag alone tag span s).faults ≡ []
    → AreTyped w s true (structure_tag alone tag span s)
tag_typed w true tag span s fit h = by_tag (tag_here tag s) h
  where
    by_tag : (m : Option TagMeaning) → (declared_tag tag s m).faults ≡ []
        → AreTyped w s true (declared_tag tag s m)
    by_tag None q =
        some_typed w s s true (declared_tag tag s None) (plain (Tagged (length s.structures))) refl tt
        (fits_tag w (with_structure (Incomplete false) s) tag _
        (fits_structure w s false fit (completes_more s.structures (Incomplete false)))) refl
    by_tag (Some (StructureTag k)) q = structure_typed w s k fit
    by_tag (Some EnumerationTag) q = absurd (cc)
tag_typed w false tag span s fit h = by_tag (tag_of tag s) h
  where
    by_tag : (m : Option TagMeaning) → (used_structure_tag tag span s m).faults ≡ []
        → AreTyped w s true (used_structure_tag tag span s m)
    by_tag None q = absurd (cc)
    by_tag (Some (StructureTag k)) q = structure_typed w s k fit
    by_tag (Some EnumerationTag) q = absurd (cc)

pub enumeration_tag_typed : (w : World) (tag : Name) (span : Span) (s : Scope) (m : Option TagMeaning)
    → Fits w s → (used_enumeration_tag tag span s m).faults ≡ []
    → AreTyped w s true (used_enumeration_tag tag span s m)
enumeration_tag_typed w tag span s None fit h = absurd (cc)
enumeration_tag_typed w tag span s (Some EnumerationTag) fit h =
    some_typed w s s true (used_enumeration_tag tag span s (Some EnumerationTag)) int refl tt fit refl
enumeration_tag_typed w tag span s (Some (StructureTag k)) fit h = absurd (cc)

pub specifiers_typed : (w : World) (s : Scope) (b c : Bool) (x y : Judged CType) → AreTyped w s b x
    → AreTyped w x.scope c y → AreTyped w s (b || c) (specifiers_judged x y)
specifiers_typed w s b c x y tx ty = record {
  there = λ q. there b c q tx.there ty.there;
  positive = λ u q. positive x.value y.value u tx.positive ty.positive q;
  fits = ty.fits;
  still = ty.still ∙ tx.still;
}
  where
    or_some : (o p : Option CType) → (u : CType) × (o ≡ Some u) → (u : CType) × (one_of o p ≡ Some u)
    or_some o p r = (r.0, ap (λ z. one_of z p) r.1)

    or_other : (o p : Option CType) → (u : CType) × (p ≡ Some u) → (u : CType) × (one_of o p ≡ Some u)
    or_other None p r = r
    or_other (Some u) p r = (u, refl)

    there : (b c : Bool) → (b || c) ≡ true → (b ≡ true → (u : CType) × (x.value ≡ Some u))
        → (c ≡ true → (u : CType) × (y.value ≡ Some u))
        → (u : CType) × (one_of x.value y.value ≡ Some u)
    there true c q f g = or_some x.value y.value (f refl)
    there false c q f g = or_other x.value y.value (g q)

    positive : (o p : Option CType) (u : CType) → ((v : CType) → o ≡ Some v → ArePositive v.lengths)
        → ((v : CType) → p ≡ Some v → ArePositive v.lengths) → one_of o p ≡ Some u
        → ArePositive u.lengths
    positive None p u f g q = g u q
    positive (Some v) p u f g q = f u q

pub type_typed : (w : World) (s : Scope) (at : ℕ) (all : Specifiers) (x : Judged CType)
    → AreTyped w s (any_is_no_word all) x → (typed_by at all x).faults ≡ []
    → IsTyped w s (typed_by at all x)
type_typed w s at all x tx h =
    by_words (base_of_words all) refl
    (not_false (has_type all) (no_fault _ Mismatch at (nil_right x.faults _ h)))
  where
    by_words : (o : Option Base) → base_of_words all ≡ o → (is_some (base_of_words all) || any_is_no_word all) ≡ true
        → IsTyped w s (typed_by at all x)
    by_words (Some b) e q = record {
      value = qualified (has word.Const all) (plain b);
      is = ap (λ o. option_map (qualified (has word.Const all)) (type_of_words_or x.value o)) e;
      positive = tt;
      fits = tx.fits;
      still = tx.still;
    }
    by_words None e q =
        let any : any_is_no_word all ≡ true = sym (ap (λ o. is_some o || any_is_no_word all) e) ∙ q in
        let u = tx.there any in
        record {
          value = qualified (has word.Const all) u.0;
          is = ap (λ o. option_map (qualified (has word.Const all)) (type_of_words_or x.value o)) e
              ∙ ap (option_map (qualified (has word.Const all))) u.1;
          positive = tx.positive u.0 u.1;
          fits = tx.fits;
          still = tx.still;
        }

-- ---- constants

-- a constant without a fault has a value
pub record IsConstant (w : World) (s : Scope) (x : Found) : Type 0 where
  pub value : ℤ
  pub is : constant_found x ≡ Some value
  pub still : x.scope.objects ≡ s.objects

pub constant_well : (w : World) (s : Scope) (at : ℕ) (x : Found) → IsWell w s x
    → constant_faults at x.constant (number_found x) ≡ [] → IsConstant w s x
constant_well w s at x wx h =
    let b = no_fault _ NotConstant at h in
    let c = not_false x.constant (or_left (not x.constant) _ b) in
    let k = wx.constant c in
    let n = numbers w x.scope.structures wx.value k.1 wx.sound in
    let is : number_found x ≡ Some n.number = and_then_some number_in x.value wx.value wx.is ∙ n.is in
    let v = known (constant_value n.number)
    (subst (λ o. traps o ≡ false) is (or_right (not x.constant) _ b)) in
    record {
      value = v.0;
      is = ap (λ d. value_of_constant d (number_found x)) c ∙ ap (option_and_then constant_value) is ∙ v.1;
      still = k.0;
    }
  where
    known : (o : Option ℤ) → is_none o ≡ false → (v : ℤ) × (o ≡ Some v)
    known None q = absurd (cc)
    known (Some v) q = (v, refl)

-- ---- enumerators

pub enumerator_counted : (w : World) (s : Scope) (name : Name) (o : Option ℤ) (v : ℤ) → o ≡ Some v → Fits w s
    → (enumerator_judged name o s).faults ≡ [] → AreCounted w s (enumerator_judged name o s)
enumerator_counted w s name o v e fit h =
    let rest = nil_right (redeclared_faults name s) _ h in
    let own = no_fault _ Mismatch name.span.start (nil_right (misnamed_faults name s) _ rest) in
    let k : fits_int o ≡ true = not_false (fits_int o) own in
    let small : in_range the.Int v ≡ true = sym (ap fits_int e) ∙ k in
    let is : in_int o ≡ Some v = ap (λ b. if b then o else None) k ∙ e in
    record {
      value = v +ℤ pos 1;
      is = ap (option_map (λ w. w +ℤ pos 1)) is;
      fits = fits_name w s name (Constant (in_int o)) fit
          (subst (λ x. MeaningFits w s.structures name.text (Constant x)) (sym is)
          (in_range_is the.Int v small));
      still = refl;
    }

pub valued_counted : (w : World) (s : Scope) (name : Name) (at : ℕ) (x : Found) → IsWell w s x
    → (enumerator_judged name (constant_found x) x.scope).faults ≡ []
    → constant_faults at x.constant (number_found x) ≡ []
    → AreCounted w s (valued_enumerator_judged name at x)
valued_counted w s name at x wx h own =
    let c = constant_well w s at x wx own in
    let r = enumerator_counted w x.scope name (constant_found x) c.value c.is wx.fits h in
    record { value = r.value; is = r.is; fits = r.fits; still = r.still ∙ c.still }

-- ---- lengths

pub length_well : (w : World) (s : Scope) (at : ℕ) (x : Found) (y : Judged (List ℕ)) → IsWell w s x
    → AreLengths w x.scope y → length_faults at x.constant (number_found x) ≡ []
    → AreLengths w s (lengths_judged at x y)
length_well w s at x y wx wy h =
    let c = constant_well w s at x wx (nil_left _ _ h) in
    let own = no_fault _ Mismatch at
    (nil_right (constant_faults at x.constant (number_found x)) _ h) in
    let n = known c.value (subst (λ o. is_no_length o ≡ false) c.is own) in
    record {
      value = n.0 ∷ wy.value;
      is = lift2_some (λ n ns. n ∷ ns) _ y.value n.0 wy.value
          (and_then_some length_of (constant_found x) c.value c.is ∙ n.1) wy.is;
      positive = (n.2, wy.positive);
      fits = wy.fits;
      still = wy.still ∙ c.still;
    }
  where
    known : (v : ℤ) → is_no_length (Some v) ≡ false → (n : ℕ) × (length_of v ≡ Some n) × (1 ≤ n)
    known (pos zero) q = absurd (cc)
    known (pos (suc n)) q = (min (suc n) most_kept, refl, omega arith)
    known (negsuc n) q = absurd (cc)
