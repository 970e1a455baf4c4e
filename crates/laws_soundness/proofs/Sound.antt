-- What is found of an expression without a fault is well, in every scope that fits.
use Rattle.std.proofs.Common.{◌≡◌, ℕ, ℤ, pos, Bool, true, false, if◌then◌else◌, List, [], ◌∷◌, length, slice_get, Option, Some, None, refl, ap, sym, ◌∙◌, subst, arith}
use Rattle.mc_span.specs.declared.span.Span.{Span}
use Rattle.mc_tree.specs.Tree.{Name, Expression, Expressions, TypeName, Specifier, Specifiers, StructMember, Members, Enumerator, Enumerators, Declarator, Declarators, ArrayLengths, span_of}
use Rattle.mc_tree.specs.Tree as tree
use Rattle.mc_value.specs.declared.int_type.IntType.{IntType}
use Rattle.mc_value.specs.declared.int_type.IntType.TheVariants as the
use Rattle.mc_value.specs.IntTypes.{InRange, in_range}
use Rattle.mc_typed.specs.Tree as t
use Rattle.types_faults.specs.declared.fault.Fault.{Fault}
use Rattle.types_faults.specs.declared.fault.FaultKind.TheVariants.{Redeclared}
use Rattle.types_faults.specs.Faults.{fault_if, unless_faulty}
use Rattle.types_rules.specs.Types.{CType, int, Member, Structure, Incomplete, ParameterKind, Signature, any_is_no_word, is_no_word}
use Rattle.types_rules.specs.Scopes.{Meaning, Automatic, Constant, Function, Typedef, Scope, meaning_of, tag_of, prototype, with_structure_at}
use Rattle.types_rules.specs.Scopes as scope
use Rattle.types_rules.specs.Values.{Judged}
use Rattle.types_rules.specs.Constants.{types_of_constant, constant_found}
use Rattle.types_rules.specs.Expressions.{operator_after, operator_before}
use Rattle.types_rules.specs.Calls.{Given, argument_judged, arguments_judged, parameters_of, argument_count, callee_faults, call_found}
use Rattle.types_rules.specs.Declarators.{has_member, opened, enumeration_scope, enumeration_faults, enumeration_judged, enumerator_judged}
use Rattle.types_rules.specs.Judgement.{typed_by, judge, judge_arguments, judge_type, judge_specifier, judge_specifiers, judge_member, judge_members, judge_enumerator, judge_enumerators, judge_declarator, judge_declarators, judge_lengths, judge_parameters}
use Rattle.laws_soundness.specs.Growth.{Grown}
use Rattle.laws_soundness.specs.Fits.{World, Completes, ArePositive, ListFits, SignatureFits, Fits, Ends, IsWell, IsTyped, AreTyped, AreCounted, AreLengths, AreListed, AreWell}
use Rattle.laws_soundness.proofs.Tests.{nil_left, nil_right, lift2_some}
use Rattle.laws_soundness.proofs.Grows.{grown_call, grown_counted, grown_name, assigned_scope, stepped_scope, grows, arguments_grow, specifiers_grow, members_grow, enumerators_grow, declarators_grow, lengths_grow}
use Rattle.laws_soundness.proofs.Fitting.{kept_completes, name_fits, fits_tag, ends_back, made_none, made_two}
use Rattle.laws_soundness.proofs.Expressions.{name_well, literal_well, first_holds, in_range_is, index_well, member_well, unary_well, binary_well}
use Rattle.laws_soundness.proofs.Effects.{cast_well, conditional_well, assigned_parts, stepped_part}
use Rattle.laws_soundness.proofs.Calls.{IsGiven, argument_well, counts, call_well}
use Rattle.laws_soundness.proofs.Types.{none_typed, some_typed, typedef_typed, tag_typed, enumeration_tag_typed, specifiers_typed, type_typed, enumerator_counted, valued_counted, length_well}
use Rattle.laws_soundness.proofs.Members.{completes_set, list_kept, list_empty, member_listed_well, begins, structure_well}

-- ---- leaves

character_well : (w : World) (s : Scope) (v : ℤ) (span : Span) → Fits w s
    → (judge (tree.Character v span) s).faults ≡ [] → IsWell w s (judge (tree.Character v span) s)
character_well w s v span fit h =
    literal_well w s v (if in_range the.Int v then Some the.Int else None) span fit
    (λ b e. by_test (in_range the.Int v) refl b e) h
  where
    by_test : (x : Bool) → in_range the.Int v ≡ x → (b : IntType)
        → (if x then Some the.Int else None) ≡ Some b → InRange b v
    by_test true q b e =
        let same : the.Int ≡ b = cc in subst (λ c. InRange c v) same (in_range_is the.Int v q)
    by_test false q b e = absurd (cc)

kept_of : (s t : Scope) → Grown s t → Completes s.structures t.structures
kept_of s t g = kept_completes s.structures t.structures g.structures

ends_completes : (w : World) (s : Scope) → Ends w s → Completes s.structures w.structures
ends_completes w s e = e.structures

-- ---- calls

-- what a name that is called means
record IsCallee (w : World) (name : Name) (m : Option Meaning) : Type 0 where
  signature : Signature
  has_body : Bool
  is : m ≡ Some (Function (Some signature) has_body)
  fits : SignatureFits w name.text signature

callee : (w : World) (s : Scope) (name : Name) (at count : ℕ) (x : Scope) (m : Option Meaning) → Fits w s
    → meaning_of name s ≡ m → callee_faults name at count x m ≡ [] → IsCallee w name m
callee w s name at count x None fit e h = absurd (cc)
callee w s name at count x (Some (Function (Some f) b)) fit e h =
    record {
      signature = f;
      has_body = b;
      is = refl;
      fits = name_fits w s.structures name.text s.names (Function (Some f) b) fit.names e;
    }
callee w s name at count x (Some (Function None b)) fit e h =
    absurd (name_fits w s.structures name.text s.names (Function None b) fit.names e)
callee w s name at count x (Some (Automatic slot u)) fit e h = absurd (cc)
callee w s name at count x (Some (scope.Stored slot u)) fit e h = absurd (cc)
callee w s name at count x (Some (scope.Borrowed array u)) fit e h = absurd (cc)
callee w s name at count x (Some (Constant v)) fit e h = absurd (cc)
callee w s name at count x (Some (Typedef u)) fit e h = absurd (cc)

-- arguments, one after the other
more_well : (w : World) (s : Scope) (p : ParameterKind) (ps : List ParameterKind) (x : Given t.Argument)
    (y : Given t.Arguments) → IsGiven w s p x → AreWell w x.scope ps y
    → AreWell w s (p ∷ ps) (arguments_judged x y)
more_well w s p ps x y gx wy = record {
  value = t.arguments gx.value wy.value;
  is = lift2_some t.arguments x.value y.value gx.value wy.value gx.is wy.is;
  sound = (gx.sound, wy.sound);
  made = made_two s x.scope y.scope _ _ gx.made wy.made;
  fits = wy.fits;
}

-- the call, by what the name means
call_by : (w : World) (s : Scope) (name : Name) (count : ℕ) (span : Span) (x : Given t.Arguments)
    (m : Option Meaning) → IsCallee w name m → Fits w s → Ends w (call_found name count span m x).scope
    → Ends w x.scope → callee_faults name span.start count x.scope m ≡ []
    → (count ≡ length (parameters_of m) → AreWell w s (parameters_of m) x)
    → IsWell w s (call_found name count span m x)
call_by w s name count span x m c fit =
    subst (λ o. Ends w (call_found name count span o x).scope → Ends w x.scope
    → callee_faults name span.start count x.scope o ≡ []
    → (count ≡ length (parameters_of o) → AreWell w s (parameters_of o) x)
    → IsWell w s (call_found name count span o x)) (sym c.is)
    (λ ends ends_x h given.
    call_well w s name count span c.signature c.has_body x c.fits
    (given (counts w s name span.start count c.signature c.has_body x.scope h).0)
    ends_x.structures ends h)

-- an enumeration begins with its tag
enumeration_begins : (w : World) (s : Scope) (tag : Option Name) → Fits w s
    → (Fits w (enumeration_scope tag s)) × ((enumeration_scope tag s).objects ≡ s.objects)
enumeration_begins w s None fit = (fit, refl)
enumeration_begins w s (Some tag) fit = (fits_tag w s tag _ fit, refl)

enumeration_typed : (w : World) (s : Scope) (faults : List Fault) (x : Judged ℤ) → Fits w x.scope
    → x.scope.objects ≡ s.objects → (enumeration_judged faults x).faults ≡ []
    → AreTyped w s true (enumeration_judged faults x)
enumeration_typed w s faults x fit still h =
    some_typed w s s true (enumeration_judged faults x) int
    (ap (λ f. unless_faulty f (Some int)) h) tt fit still

-- a list that has begun is no structure that the program has to keep
ends_unset : (w : World) (s : Scope) (n : ℕ) (new : Structure)
    → slice_get s.structures n ≡ Some (Incomplete true) → Ends w (with_structure_at n new s) → Ends w s
ends_unset w s n new e ends = record {
  structures = λ k ms h. ends.structures k ms (completes_set s.structures n new true e k ms h);
  objects = ends.objects;
  statics = ends.statics;
}

mutual
  pub well : (w : World) (e : Expression) (s : Scope) → Fits w s → Ends w (judge e s).scope
      → (judge e s).faults ≡ [] → IsWell w s (judge e s)
  well w (tree.Named name) s fit ends h = name_well w s name (meaning_of name s) fit refl h
  well w (tree.Constant v decimal unsigned longs span) s fit ends h =
      literal_well w s (pos v) _ span fit
      (λ b e. first_holds (pos v) (types_of_constant decimal unsigned longs) b e) h
  well w (tree.Character v span) s fit ends h = character_well w s v span fit h
  well w (tree.Parenthesized inner span) s fit ends h = well w inner s fit ends h
  well w (tree.Call name given span) s fit ends h =
      let m = meaning_of name s in
      let x = judge_arguments given (parameters_of m) s in
      let own = nil_right x.faults _ h in
      let c = callee w s name span.start (argument_count given) x.scope m fit refl own in
      let ends_x = ends_back w x.scope _ (grown_call _ _ x.scope) ends in
      call_by w s name (argument_count given) span x m c fit ends ends_x own
      (λ n. arguments_well w given (parameters_of m) s fit ends_x (nil_left x.faults _ h) n)
  well w (tree.Index a b span) s fit ends h =
      let x = judge a s in
      let y = judge b x.scope in
      let g = grows b x.scope in
      let wx = well w a s fit (ends_back w x.scope y.scope g ends) (nil_left x.faults _ h) in
      let rest = nil_right x.faults _ h in
      index_well w s span x y wx (well w b x.scope wx.fits ends (nil_left y.faults _ rest))
      (kept_of x.scope y.scope g) (nil_right y.faults _ rest)
  well w (tree.Member a name span) s fit ends h =
      let x = judge a s in
      member_well w s name span x (well w a s fit ends (nil_left x.faults _ h))
      (nil_right x.faults _ h)
  well w (tree.PostfixStep operator a span) s fit ends h =
      let x = judge a s in
      let at = operator_after span in
      let p = stepped_part operator at span x h in
      p.well w s (well w a s fit (subst (Ends w) (stepped_scope operator at span x) ends) p.part)
  well w (tree.PrefixStep operator a span) s fit ends h =
      let x = judge a s in
      let at = operator_before span in
      let p = stepped_part operator at span x h in
      p.well w s (well w a s fit (subst (Ends w) (stepped_scope operator at span x) ends) p.part)
  well w (tree.Unary operator a span) s fit ends h =
      let x = judge a s in
      unary_well w s operator span x (well w a s fit ends (nil_left x.faults _ h))
      (nil_right x.faults _ h)
  well w (tree.Cast type a span) s fit ends h =
      let x = judge_type type s in
      let y = judge a x.scope in
      let g = grows a x.scope in
      let wx = type_well w type s fit (ends_back w x.scope y.scope g ends) (nil_left x.faults _ h) in
      let rest = nil_right x.faults _ h in
      cast_well w s span x a y wx (well w a x.scope wx.fits ends (nil_left y.faults _ rest))
      (nil_right y.faults _ rest)
  well w (tree.Binary operator a b span) s fit ends h =
      let x = judge a s in
      let y = judge b x.scope in
      let wx = well w a s fit (ends_back w x.scope y.scope (grows b x.scope) ends) (nil_left x.faults _ h) in
      let rest = nil_right x.faults _ h in
      binary_well w s operator span x y wx (well w b x.scope wx.fits ends (nil_left y.faults _ rest))
      (nil_right y.faults _ rest)
  well w (tree.Conditional a b c span) s fit ends h =
      let x = judge a s in
      let y = judge b x.scope in
      let z = judge c y.scope in
      let ends_y = ends_back w y.scope z.scope (grows c y.scope) ends in
      let ends_x = ends_back w x.scope y.scope (grows b x.scope) ends_y in
      let rest = nil_right x.faults _ h in
      let last = nil_right y.faults _ rest in
      let wx = well w a s fit ends_x (nil_left x.faults _ h) in
      let wy = well w b x.scope wx.fits ends_y (nil_left y.faults _ rest) in
      conditional_well w s span x y z wx wy (well w c y.scope wy.fits ends (nil_left z.faults _ last))
      (kept_of y.scope z.scope (grows c y.scope)) (nil_right z.faults _ last)
  well w (tree.Assignment operator a b span) s fit ends h =
      let x = judge a s in
      let y = judge b x.scope in
      let p = assigned_parts operator span x y h in
      let ends_y = subst (Ends w) (assigned_scope operator span x y) ends in
      let wx = well w a s fit (ends_back w x.scope y.scope (grows b x.scope) ends_y) p.left in
      p.well w s wx (well w b x.scope wx.fits ends_y p.right)
      (kept_of x.scope y.scope (grows b x.scope))
  well w (tree.Comma operands span) s fit ends h =
      let own = nil_right (judge_arguments operands [] s).faults _ h in absurd (cc)

  pub arguments_well : (w : World) (es : Expressions) (ps : List ParameterKind) (s : Scope) → Fits w s
      → Ends w (judge_arguments es ps s).scope → (judge_arguments es ps s).faults ≡ []
      → argument_count es ≡ length ps → AreWell w s ps (judge_arguments es ps s)
  arguments_well w tree.no_expressions [] s fit ends h n = record {
    value = t.no_arguments;
    is = refl;
    sound = tt;
    made = made_none s;
    fits = fit;
  }
  arguments_well w tree.no_expressions (p ∷ ps) s fit ends h n = absurd (omega (arith, n))
  arguments_well w (tree.expressions e rest) [] s fit ends h n = absurd (omega (arith, n))
  arguments_well w (tree.expressions e rest) (p ∷ ps) s fit ends h n =
      let x = judge e s in
      let at = (span_of e).start in
      let a = argument_judged at (Some p) x in
      let y = judge_arguments rest ps a.scope in
      let ends_a = ends_back w a.scope y.scope (arguments_grow rest ps a.scope) ends in
      let ends_x = ends_back w x.scope a.scope (grown_counted _ x.scope) ends_a in
      let here = nil_left a.faults y.faults h in
      let wx = well w e s fit ends_x (nil_left x.faults _ here) in
      let ga = argument_well w s at p x wx ends_x.structures ends_a (nil_right x.faults _ here) in
      let wy = arguments_well w rest ps a.scope ga.fits ends (nil_right a.faults y.faults h) (omega (arith, n)) in
      more_well w s p ps a y ga wy

  pub type_well : (w : World) (type : TypeName) (s : Scope) → Fits w s → Ends w (judge_type type s).scope
      → (judge_type type s).faults ≡ [] → IsTyped w s (judge_type type s)
  type_well w (tree.type_name all stars span) s fit ends h =
      let x = judge_specifiers false all s in
      type_typed w s span.start all x (specifiers_well w false all s fit ends (nil_left x.faults _ h)) h

  pub specifier_well : (w : World) (alone : Bool) (one : Specifier) (s : Scope) → Fits w s
      → Ends w (judge_specifier alone one s).scope → (judge_specifier alone one s).faults ≡ []
      → AreTyped w s (is_no_word one) (judge_specifier alone one s)
  specifier_well w alone (tree.Word word span) s fit ends h = none_typed w s fit
  specifier_well w alone (tree.TypedefName name) s fit ends h =
      typedef_typed w s name (meaning_of name s) fit refl h
  specifier_well w alone (tree.StructureTag tag span) s fit ends h = tag_typed w alone tag span s fit h
  specifier_well w alone (tree.Structure tag all span) s fit ends h =
      let x = opened tag s in
      let y = judge_members all [] x.scope in
      let b = begins w s tag fit (nil_left x.faults y.faults h) in
      let g = members_grow all [] x.scope in
      let ends_y = ends_unset w y.scope x.number _
      (g.structures x.number (Incomplete true) b.begun tt) ends in
      structure_well w s x y b g.structures
      (members_well w all [] x.scope b.fits ends_y (nil_right x.faults y.faults h)
      (list_empty w x.scope.structures)) h
  specifier_well w alone (tree.EnumerationTag tag span) s fit ends h =
      enumeration_tag_typed w tag span s (tag_of tag s) fit h
  specifier_well w alone (tree.Enumeration tag all span) s fit ends h =
      let t = enumeration_scope tag s in
      let x = judge_enumerators all (Some (pos 0)) t in
      let e = enumeration_begins w s tag fit in
      let c = enumerators_well w all (Some (pos 0)) (pos 0) t refl e.0 ends
      (nil_right (enumeration_faults tag s) x.faults h) in
      enumeration_typed w s (enumeration_faults tag s) x c.fits (c.still ∙ e.1) h

  pub specifiers_well : (w : World) (alone : Bool) (all : Specifiers) (s : Scope) → Fits w s
      → Ends w (judge_specifiers alone all s).scope → (judge_specifiers alone all s).faults ≡ []
      → AreTyped w s (any_is_no_word all) (judge_specifiers alone all s)
  specifiers_well w alone tree.no_specifiers s fit ends h = none_typed w s fit
  specifiers_well w alone (tree.specifiers one rest) s fit ends h =
      let x = judge_specifier alone one s in
      let y = judge_specifiers alone rest x.scope in
      let later = nil_right x.faults _ h in
      let tx = specifier_well w alone one s fit
      (ends_back w x.scope y.scope (specifiers_grow alone rest x.scope) ends) (nil_left x.faults _ h) in
      let ty = specifiers_well w alone rest x.scope tx.fits ends (nil_left y.faults [] later) in
      specifiers_typed w s (is_no_word one) (any_is_no_word rest) x y tx ty

  pub member_is_well : (w : World) (m : StructMember) (members : List Member) (s : Scope) → Fits w s
      → Ends w (judge_member m members s).scope → (judge_member m members s).faults ≡ []
      → ListFits w s.structures members → AreListed w s (judge_member m members s)
  member_is_well w (tree.member all ds span) members s fit ends h list =
      let x = judge_specifiers false all s in
      let u = typed_by span.start all x in
      let y = judge_declarators u.value ds members x.scope in
      let ends_x = ends_back w x.scope y.scope (declarators_grow u.value ds members x.scope) ends in
      let own = nil_left u.faults y.faults h in
      let tx = specifiers_well w false all s fit ends_x (nil_left x.faults _ own) in
      let tu = type_typed w s span.start all x tx own in
      let l = declarators_well w u.value tu.value ds members x.scope tu.is tu.positive tu.fits ends
      (nil_right u.faults y.faults h)
      (list_kept w s.structures x.scope.structures members
      (kept_of s x.scope (specifiers_grow false all s)) list) in
      record { list = l.list; fits = l.fits; still = l.still ∙ tu.still }

  pub members_well : (w : World) (all : Members) (members : List Member) (s : Scope) → Fits w s
      → Ends w (judge_members all members s).scope → (judge_members all members s).faults ≡ []
      → ListFits w s.structures members → AreListed w s (judge_members all members s)
  members_well w tree.no_members members s fit ends h list =
      record { list = list; fits = fit; still = refl }
  members_well w (tree.members m rest) members s fit ends h list =
      let x = judge_member m members s in
      let y = judge_members rest x.items x.scope in
      let lx = member_is_well w m members s fit
      (ends_back w x.scope y.scope (members_grow rest x.items x.scope) ends)
      (nil_left x.faults y.faults h) list in
      let ly = members_well w rest x.items x.scope lx.fits ends (nil_right x.faults y.faults h) lx.list in
      record { list = ly.list; fits = ly.fits; still = ly.still ∙ lx.still }

  pub enumerator_well : (w : World) (one : Enumerator) (o : Option ℤ) (v : ℤ) (s : Scope) → o ≡ Some v
      → Fits w s → Ends w (judge_enumerator one o s).scope → (judge_enumerator one o s).faults ≡ []
      → AreCounted w s (judge_enumerator one o s)
  enumerator_well w (tree.enumerator name) o v s e fit ends h =
      enumerator_counted w s name o v e fit h
  enumerator_well w (tree.valued_enumerator name e) o v s q fit ends h =
      let x = judge e s in
      let y = enumerator_judged name (constant_found x) x.scope in
      let rest = nil_right x.faults _ h in
      let wx = well w e s fit (ends_back w x.scope y.scope (grown_name name _ x.scope (λ n. tt) tt) ends)
      (nil_left x.faults _ h) in
      valued_counted w s name (span_of e).start x wx (nil_left y.faults _ rest) (nil_right y.faults _ rest)

  pub enumerators_well : (w : World) (all : Enumerators) (o : Option ℤ) (v : ℤ) (s : Scope) → o ≡ Some v
      → Fits w s → Ends w (judge_enumerators all o s).scope → (judge_enumerators all o s).faults ≡ []
      → AreCounted w s (judge_enumerators all o s)
  enumerators_well w tree.no_enumerators o v s e fit ends h =
      record { value = v; is = e; fits = fit; still = refl }
  enumerators_well w (tree.enumerators one rest) o v s e fit ends h =
      let x = judge_enumerator one o s in
      let y = judge_enumerators rest x.value x.scope in
      let cx = enumerator_well w one o v s e fit
      (ends_back w x.scope y.scope (enumerators_grow rest x.value x.scope) ends)
      (nil_left x.faults y.faults h) in
      let cy = enumerators_well w rest x.value cx.value x.scope cx.is cx.fits ends
      (nil_right x.faults y.faults h) in
      record { value = cy.value; is = cy.is; fits = cy.fits; still = cy.still ∙ cx.still }

  pub declarator_well : (w : World) (base : Option CType) (u : CType) (d : Declarator)
      (members : List Member) (s : Scope) → base ≡ Some u → ArePositive u.lengths → Fits w s
      → Ends w (judge_declarator base d members s).scope
      → (judge_declarator base d members s).faults ≡ [] → ListFits w s.structures members
      → AreListed w s (judge_declarator base d members s)
  declarator_well w base u (tree.object stars name lengths span) members s is p fit ends h list =
      let y = judge_lengths lengths s in
      member_listed_well w s base name lengths members y u is p list
      (kept_of s y.scope (lengths_grow lengths s)) (ends_completes w y.scope ends)
      (lengths_well w lengths s fit ends (nil_left y.faults _ h)) h
  declarator_well w base u (tree.function stars name all span) members s is p fit ends h list =
      let own = nil_right (judge_parameters all (prototype s)).faults _ h in
      absurd (cc (nil_right (fault_if (has_member name.text members) Redeclared name.span.start) _ own))

  pub declarators_well : (w : World) (base : Option CType) (u : CType) (ds : Declarators)
      (members : List Member) (s : Scope) → base ≡ Some u → ArePositive u.lengths → Fits w s
      → Ends w (judge_declarators base ds members s).scope
      → (judge_declarators base ds members s).faults ≡ [] → ListFits w s.structures members
      → AreListed w s (judge_declarators base ds members s)
  declarators_well w base u tree.no_declarators members s is p fit ends h list =
      record { list = list; fits = fit; still = refl }
  declarators_well w base u (tree.declarators d rest) members s is p fit ends h list =
      let x = judge_declarator base d members s in
      let y = judge_declarators base rest x.items x.scope in
      let lx = declarator_well w base u d members s is p fit
      (ends_back w x.scope y.scope (declarators_grow base rest x.items x.scope) ends)
      (nil_left x.faults y.faults h) list in
      let ly = declarators_well w base u rest x.items x.scope is p lx.fits ends
      (nil_right x.faults y.faults h) lx.list in
      record { list = ly.list; fits = ly.fits; still = ly.still ∙ lx.still }

  pub lengths_well : (w : World) (lengths : ArrayLengths) (s : Scope) → Fits w s
      → Ends w (judge_lengths lengths s).scope → (judge_lengths lengths s).faults ≡ []
      → AreLengths w s (judge_lengths lengths s)
  lengths_well w tree.no_lengths s fit ends h =
      record { value = []; is = refl; positive = tt; fits = fit; still = refl }
  lengths_well w (tree.absent_length rest) s fit ends h = lengths_well w rest s fit ends h
  lengths_well w (tree.given_length e rest) s fit ends h =
      let x = judge e s in
      let y = judge_lengths rest x.scope in
      let wx = well w e s fit (ends_back w x.scope y.scope (lengths_grow rest x.scope) ends)
      (nil_left x.faults _ h) in
      let later = nil_right x.faults _ h in
      let ly = lengths_well w rest x.scope wx.fits ends (nil_left y.faults _ later) in
      length_well w s (span_of e).start x y wx ly (nil_right y.faults _ later)
