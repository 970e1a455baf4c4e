-- Functions of a unit without a fault: no two have one name.
use Rattle.std.proofs.Common.{◌≡◌, ℕ, Bool, true, false, ◌||◌, if◌then◌else◌, List, [], ◌∷◌, ◌++◌, length, take, drop, Option, Some, None, option_map, refl, ap, sym, ◌∙◌, subst, bytes_eq, ◌⊎◌, inl, inr}
use Rattle.std.proofs.lemmas.Slice.Eq.{bytes_eq-Decides}
use Rattle.mc_span.specs.declared.span.Span.{Span}
use Rattle.mc_tree.specs.Tree.{Name, Specifiers, Parameters, InitDeclarator, Initializer, Declaration, BlockItems, Item}
use Rattle.mc_tree.specs.Tree as tree
use Rattle.mc_typed.specs.Tree.{Statements}
use Rattle.mc_typed.specs.Tree as t
use Rattle.types_faults.specs.declared.fault.Fault.{Fault}
use Rattle.types_faults.specs.declared.fault.FaultKind.TheVariants.{Mismatch, Redeclared}
use Rattle.types_faults.specs.Faults.{fault, fault_if, unless_faulty}
use Rattle.types_rules.specs.Types.{CType, Signature}
use Rattle.types_rules.specs.Scopes.{Entry, Meaning, Automatic, Stored, Borrowed, Constant, Function, Typedef, Scope, file_scope, later_or, named, meaning_here, is_external, with_name, prototype, body_scope}
use Rattle.types_rules.specs.Values.{Judged, lift2}
use Rattle.types_rules.specs.Declarators.{declared_type}
use Rattle.types_rules.specs.Judgement.{typed_by, judge_specifiers, judge_lengths, judge_parameters}
use Rattle.types_rules.specs.Declarations.{Storage, TypedefStorage, StaticStorage, AutomaticStorage, storage_of, count_listed, has_body, result_of, repeated_faults, function_faults, signature_listed, function_form_faults, again_faults, judge_init, judge_init_declarator, judge_init_declarators, append, is_tag_alone, empty_faults, judge_declaration}
use Rattle.types_rules.specs.Statements.{outermost}
use Rattle.types_rules.specs.Bodies.{judge_block}
use Rattle.types_rules.specs.Typing.{names_faults, is_incomplete, definition_faults, function_from, with_function, function_listed, judge_definition, judge_item, judge_unit, bodies_of, found_of, program_from}
use Rattle.laws_soundness.specs.Growth.{Begins, MeansNoFunction, NameNoFunction, AddsNoFunction}
use Rattle.laws_soundness.specs.Laws.{LacksName, NamesDiffer, FunctionNamesDiffer}
use Rattle.laws_soundness.proofs.Lists.{begins_trans, begins_with, cut_back}
use Rattle.laws_soundness.proofs.Tests.{nil_left, nil_right, no_fault, or_left}
use Rattle.laws_soundness.proofs.Grows.{adds_both, specifiers_grow, lengths_grow}
use Rattle.laws_soundness.proofs.Passes.{block_passes}
use Rattle.laws_soundness.proofs.Extends.{init_extends}
use Rattle.laws_soundness.proofs.Numbered.{IsOfFile}
use Rattle.laws_soundness.proofs.FileScope.{object_adds, storage_of_file}

-- ---- what a name means last

-- a function with a body, or no function
abbrev HasBody : Meaning → Type 0
HasBody (Function f b) = b ≡ true
HasBody _ = Unit {0}

-- the names of functions that have been defined
abbrev IsThere : List ℕ → List (List ℕ) → Type 0
IsThere n [] = ⊥
IsThere n (m ∷ ms) = (m ≡ n) ⊎ IsThere n ms

record IsSeen (n : List ℕ) (es : List Entry) : Type 0 where
  meaning : Meaning
  is : named n es ≡ Some meaning
  body : HasBody meaning

record Seen (s : Scope) (ns : List (List ℕ)) : Type 0 where
  names : (n : List ℕ) → IsThere n ns → IsSeen n s.names
  from : s.names_from ≡ 0
  file : s.is_file ≡ true

later_assoc : (a b c : Option Meaning) → later_or (later_or c b) a ≡ later_or c (later_or b a)
later_assoc a b None = refl
later_assoc a b (Some x) = refl

named_append : (n : List ℕ) (xs ys : List Entry) → named n (xs ++ ys) ≡ later_or (named n ys) (named n xs)
named_append n [] ys = last_none (named n ys)
  where
    last_none : (o : Option Meaning) → o ≡ later_or o None
    last_none None = refl
    last_none (Some m) = refl
named_append n (x ∷ xs) ys =
    let a : Option Meaning = if bytes_eq x.name n then Some x.meaning else None in
    ap (λ o. later_or o a) (named_append n xs ys) ∙ later_assoc a (named n xs) (named n ys)

no_function_means : (n : List ℕ) (es : List Entry) (m : Meaning) → NameNoFunction es → named n es ≡ Some m
    → MeansNoFunction m
no_function_means n [] m none h = absurd (cc)
no_function_means n (e ∷ es) m none h = by_rest (named n es) refl h (λ q. no_function_means n es m none.1 q)
  where
    by_test : (b : Bool) → (if b then Some e.meaning else None) ≡ Some m → MeansNoFunction m
    by_test true h = let same : e.meaning ≡ m = cc in subst MeansNoFunction same none.0
    by_test false h = absurd (cc)

    by_rest : (o : Option Meaning) → named n es ≡ o → later_or o (if bytes_eq e.name n then Some e.meaning else None) ≡ Some m
        → (named n es ≡ Some m → MeansNoFunction m) → MeansNoFunction m
    by_rest (Some x) q h below = let same : x ≡ m = cc in below (q ∙ ap Some same)
    by_rest None q h below = by_test (bytes_eq e.name n) h

no_function_bodied : (m : Meaning) → MeansNoFunction m → HasBody m
no_function_bodied (Function f b) h = absurd h
no_function_bodied (Automatic slot u) h = tt
no_function_bodied (Stored slot u) h = tt
no_function_bodied (Borrowed array u) h = tt
no_function_bodied (Constant v) h = tt
no_function_bodied (Typedef u) h = tt

seen_more : (n : List ℕ) (xs ys : List Entry) → AddsNoFunction xs ys → IsSeen n xs → IsSeen n ys
seen_more n xs ys p x = by_more (named n p.0) refl
  where
    whole : named n ys ≡ later_or (named n p.0) (named n xs)
    whole = ap (named n) p.1 ∙ named_append n xs p.0

    by_more : (o : Option Meaning) → named n p.0 ≡ o → IsSeen n ys
    by_more None q = record {
      meaning = x.meaning;
      is = whole ∙ ap (λ o. later_or o (named n xs)) q ∙ x.is;
      body = x.body;
    }
    by_more (Some m) q = record {
      meaning = m;
      is = whole ∙ ap (λ o. later_or o (named n xs)) q;
      body = no_function_bodied m (no_function_means n p.0 m p.2 q);
    }

-- with one more function, which has a body where one with this name had
seen_function : (n : List ℕ) (name : Name) (f : Option Signature) (b : Bool) (es : List Entry) → IsSeen n es
    → (n ≡ name.text → b ≡ true) → IsSeen n (es ++ (record { name = name.text; meaning = Function f b } ∷ []))
seen_function n name f b es x body = by_test (bytes_eq name.text n) refl
  where
    by_test : (c : Bool) → bytes_eq name.text n ≡ c
        → IsSeen n (es ++ (record { name = name.text; meaning = Function f b } ∷ []))
    by_test true q = record {
      meaning = Function f b;
      is = named_append n es (record { name = name.text; meaning = Function f b } ∷ [])
          ∙ ap (λ c. later_or (if c then Some (Function f b) else None) (named n es)) q;
      body = body (sym ((bytes_eq-Decides name.text n).0 q));
    }
    by_test false q = record {
      meaning = x.meaning;
      is = named_append n es (record { name = name.text; meaning = Function f b } ∷ [])
          ∙ ap (λ c. later_or (if c then Some (Function f b) else None) (named n es)) q ∙ x.is;
      body = x.body;
    }

-- a name that was seen has a body where it is declared again as a function
body_before : (name : Name) (f : Option Signature) (at : ℕ) (s : Scope) (ns : List (List ℕ)) → Seen s ns
    → IsThere name.text ns → repeated_faults (meaning_here name s) f at ≡ [] → has_body (meaning_here name s) ≡ true
body_before name f at s ns seen there h =
    let x = seen.names name.text there in
    let here : meaning_here name s ≡ Some x.meaning = ap (λ n. named name.text (drop n s.names)) seen.from ∙ x.is in
    ap has_body here ∙ by_meaning x.meaning x.body (subst (λ o. repeated_faults o f at ≡ []) here h)
  where
    by_meaning : (m : Meaning) → HasBody m → repeated_faults (Some m) f at ≡ [] → has_body (Some m) ≡ true
    by_meaning (Function g b) k q = k
    by_meaning (Automatic slot u) k q = absurd (cc)
    by_meaning (Stored slot u) k q = absurd (cc)
    by_meaning (Borrowed array u) k q = absurd (cc)
    by_meaning (Constant v) k q = absurd (cc)
    by_meaning (Typedef u) k q = absurd (cc)

-- ---- declarations

seen_named : (name : Name) (f g : Option Signature) (s : Scope) (ns : List (List ℕ)) (at : ℕ) → Seen s ns
    → repeated_faults (meaning_here name s) g at ≡ []
    → Seen (with_name name (Function f (has_body (meaning_here name s))) s) ns
seen_named name f g s ns at seen h = record {
  names = λ n there. seen_function n name f (has_body (meaning_here name s)) s.names (seen.names n there)
      (λ e. body_before name g at s ns seen (subst (λ m. IsThere m ns) e there) h);
  from = seen.from;
  file = seen.file;
}

seen_init : (storage : Storage) (base : Option CType) (d : tree.Declarator) (value : Option Initializer) (s : Scope)
    (ns : List (List ℕ)) → IsOfFile storage → Seen s ns → (judge_init storage base d value s).faults ≡ []
    → Seen (judge_init storage base d value s).scope ns
seen_init storage base (tree.object stars name lengths span) value s ns of seen h =
    let l = judge_lengths lengths s in
    let u = declared_type lengths l.value (count_listed value) base in
    let x = (judge_init storage base (tree.object stars name lengths span) value s).scope in
    let e = init_extends storage base (tree.object stars name lengths span) value s in
    let adds = adds_both s.names l.scope.names x.names (lengths_grow lengths s).functions
    (object_adds storage l.faults name lengths base u value l.scope of) in
    record {
      names = λ n there. seen_more n s.names x.names adds (seen.names n there);
      from = e.names_from ∙ seen.from;
      file = e.is_file ∙ seen.file;
    }
seen_init TypedefStorage base (tree.function stars name all span) value s ns of seen h =
    let at = name.span.start in
    let y = judge_parameters all (prototype s) in
    let f = signature_listed base y in
    let again = again_faults TypedefStorage name f s in
    let functions = function_faults name base (length y.items) f in
    let own = again ++ (functions ++ function_form_faults TypedefStorage value at) in
    let form : fault Mismatch at ≡ [] =
    nil_right functions _ (nil_right again _ (nil_left own _ (nil_right y.faults _ h))) in
    absurd (cc)
seen_init StaticStorage base (tree.function stars name all span) (Some i) s ns of seen h =
    let at = name.span.start in
    let y = judge_parameters all (prototype s) in
    let f = signature_listed base y in
    let again = again_faults StaticStorage name f s in
    let functions = function_faults name base (length y.items) f in
    let own = again ++ (functions ++ function_form_faults StaticStorage (Some i) at) in
    let form : fault Mismatch at ≡ [] =
    nil_right functions _ (nil_right again _ (nil_left own _ (nil_right y.faults _ h))) in
    absurd (cc)
seen_init StaticStorage base (tree.function stars name all span) None s ns of seen h =
    let at = name.span.start in
    let y = judge_parameters all (prototype s) in
    let f = signature_listed base y in
    let again = again_faults StaticStorage name f s in
    let functions = function_faults name base (length y.items) f in
    let own = again ++ (functions ++ function_form_faults StaticStorage None at) in
    seen_named name (unless_faulty own f) f s ns at seen (nil_left again _ (nil_left own [] (nil_right y.faults _ h)))
seen_init AutomaticStorage base (tree.function stars name all span) value s ns of seen h = absurd of

seen_init_declarator : (storage : Storage) (base : Option CType) (d : InitDeclarator) (s : Scope)
    (ns : List (List ℕ)) → IsOfFile storage → Seen s ns → (judge_init_declarator storage base d s).faults ≡ []
    → Seen (judge_init_declarator storage base d s).scope ns
seen_init_declarator storage base (tree.bare d) s ns of seen h = seen_init storage base d None s ns of seen h
seen_init_declarator storage base (tree.initialized d value) s ns of seen h =
    seen_init storage base d (Some value) s ns of seen h

seen_init_declarators : (storage : Storage) (base : Option CType) (ds : List InitDeclarator) (s : Scope)
    (ns : List (List ℕ)) → IsOfFile storage → Seen s ns → (judge_init_declarators storage base ds s).faults ≡ []
    → Seen (judge_init_declarators storage base ds s).scope ns
seen_init_declarators storage base [] s ns of seen h = seen
seen_init_declarators storage base (d ∷ ds) s ns of seen h =
    let x = judge_init_declarator storage base d s in
    let y = judge_init_declarators storage base ds x.scope in
    seen_init_declarators storage base ds x.scope ns of (seen_init_declarator storage base d s ns of seen (nil_left x.faults _ h))
    (nil_left y.faults [] (nil_right x.faults _ h))

seen_specifiers : (alone : Bool) (all : Specifiers) (s : Scope) (ns : List (List ℕ)) → Seen s ns
    → Seen (judge_specifiers alone all s).scope ns
seen_specifiers alone all s ns seen =
    let x = (judge_specifiers alone all s).scope in
    let g = specifiers_grow alone all s in
    record {
      names = λ n there. seen_more n s.names x.names g.functions (seen.names n there);
      from = g.names_from ∙ seen.from;
      file = g.is_file ∙ seen.file;
    }

seen_declaration : (d : Declaration) (s : Scope) (ns : List (List ℕ)) → Seen s ns
    → (judge_declaration d s).faults ≡ [] → Seen (judge_declaration d s).scope ns
seen_declaration (tree.declaration all ds span) s ns seen h =
    let alone = is_tag_alone all ds in
    let x = typed_by span.start all (judge_specifiers alone all s) in
    seen_init_declarators (storage_of all s.is_file) x.value ds x.scope ns (storage_of_file all s.is_file seen.file)
    (seen_specifiers alone all s ns seen) (nil_right (x.faults ++ empty_faults all ds span.start) _ h)

-- ---- definitions

record IsNew (s : Scope) (ns : List (List ℕ)) (name : Name) (x : Judged (List t.Function)) : Type 0 where
  seen : Seen x.scope (name.text ∷ ns)
  new : IsThere name.text ns → ⊥

definition_new : (all : Specifiers) (name : Name) (parameters : Parameters) (body : BlockItems) (span : Span)
    (s : Scope) (ns : List (List ℕ)) → Seen s ns
    → (judge_definition all name parameters body span s).faults ≡ []
    → IsNew s ns name (judge_definition all name parameters body span s)
definition_new all name parameters body span s ns seen h =
    let at = name.span.start in
    let x = typed_by span.start all (judge_specifiers false all s) in
    let y = judge_parameters parameters (prototype x.scope) in
    let f = signature_listed x.value y in
    let file = with_function name f x.scope in
    let b = body_scope x.scope file y.scope in
    let z = judge_block (outermost (result_of x.value)) body b in
    let later = nil_right (names_faults parameters) _ (nil_right y.faults _ (nil_right x.faults _ h)) in
    let repeated = nil_left (repeated_faults (meaning_here name x.scope) f at) _ later in
    let last = nil_right (function_faults name x.value (length y.items) f) _
    (nil_right (repeated_faults (meaning_here name x.scope) f at) _ later) in
    let incomplete = is_incomplete x.scope.structures (result_of x.value) in
    let none : has_body (meaning_here name x.scope) ≡ false =
    or_left (has_body (meaning_here name x.scope)) (is_external name)
    (no_fault (has_body (meaning_here name x.scope) || is_external name) Redeclared at
    (nil_right (fault_if incomplete Mismatch at) _ (nil_left (definition_faults name (result_of x.value) x.scope) _ last))) in
    let seen_x = seen_specifiers false all s ns seen in
    let names : Begins Entry file.names z.scope.names =
    begins_trans Entry file.names b.names z.scope.names
    (begins_with Entry file.names (drop (length x.scope.names) y.scope.names))
    (block_passes (outermost (result_of x.value)) body b).names in
    let cut : take (length file.names) z.scope.names ≡ file.names = cut_back Entry file.names z.scope.names names in
    let old = λ (n : List ℕ) (there : IsThere n ns).
    seen_function n name f true x.scope.names (seen_x.names n there) (λ e. refl) in
    let own : IsSeen name.text file.names = record {
      meaning = Function f true;
      is = named_append name.text x.scope.names (record { name = name.text; meaning = Function f true } ∷ [])
          ∙ ap (λ c. later_or (if c then Some (Function f true) else None) (named name.text x.scope.names))
          ((bytes_eq-Decides name.text name.text).1 refl);
      body = refl;
    } in
    record {
      seen = record {
        names = λ n there. subst (IsSeen n) (sym cut) (by_place file.names own old n there);
        from = seen_x.from;
        file = seen_x.file;
      };
      new = λ there.
          let k = body_before name f at x.scope ns seen_x there repeated in true_false (sym k ∙ none);
    }
  where
    by_place : (es : List Entry) → IsSeen name.text es → ((n : List ℕ) → IsThere n ns → IsSeen n es) → (n : List ℕ)
        → IsThere n (name.text ∷ ns) → IsSeen n es
    by_place es own old n (inl e) = subst (λ m. IsSeen m es) e own
    by_place es own old n (inr there) = old n there

    true_false : true ≡ false → ⊥
    true_false e = cc

-- ---- units

record AreNew (ns : List (List ℕ)) (fs : List t.Function) : Type 0 where
  differ : NamesDiffer fs
  new : (n : List ℕ) → IsThere n ns → LacksName n fs

function_there : (name : Name) (span : Span) (f : Option Signature) (z : Judged Statements) (fs : List t.Function)
    → function_listed name span f z ≡ Some fs → (fn : t.Function) × (fs ≡ fn ∷ []) × (fn.name ≡ name.text)
function_there name span f z fs h = by_parts f z.value h
  where
    by_parts : (f : Option Signature) (b : Option Statements)
        → lift2 (λ g body. function_from name span z.scope g body ∷ []) f b ≡ Some fs
        → (fn : t.Function) × (fs ≡ fn ∷ []) × (fn.name ≡ name.text)
    by_parts (Some g) (Some b) h =
        let same : function_from name span z.scope g b ∷ [] ≡ fs = cc in
        (function_from name span z.scope g b, sym same, refl)
    by_parts (Some g) None h = absurd (cc)
    by_parts None b h = absurd (cc)

nothing_there : (ds : Option (List t.Declarator)) (fs : List t.Function)
    → option_map (λ x. []) ds ≡ Some fs → fs ≡ []
nothing_there (Some ds) fs h = let same : [] ≡ fs = cc in sym same
nothing_there None fs h = absurd (cc)

record AreParts (a b : Option (List t.Function)) (fs : List t.Function) : Type 0 where
  first : List t.Function
  rest : List t.Function
  first_is : a ≡ Some first
  rest_is : b ≡ Some rest
  whole : fs ≡ first ++ rest

parts_there : (a b : Option (List t.Function)) (fs : List t.Function) → lift2 append a b ≡ Some fs → AreParts a b fs
parts_there (Some xs) (Some ys) fs h =
    let same : xs ++ ys ≡ fs = cc in
    record { first = xs; rest = ys; first_is = refl; rest_is = refl; whole = sym same }
parts_there (Some xs) None fs h = absurd (cc)
parts_there None b fs h = absurd (cc)

new_one : (ns : List (List ℕ)) (name : List ℕ) (fn : t.Function) (fs : List t.Function) → fn.name ≡ name
    → (IsThere name ns → ⊥) → AreNew (name ∷ ns) fs → AreNew ns (fn ∷ fs)
new_one ns name fn fs e new a = record {
  differ = (subst (λ n. LacksName n fs) (sym e) (a.new name (inl refl)), a.differ);
  new = λ n there.
      ((λ q. new (subst (λ m. IsThere m ns) (sym q ∙ e) there)), a.new n (inr there));
}

unit_new : (items : List Item) (s : Scope) (ns : List (List ℕ)) (fs : List t.Function) → Seen s ns
    → (judge_unit items s).faults ≡ [] → (judge_unit items s).value ≡ Some fs → AreNew ns fs
unit_new [] s ns fs seen h v =
    let same : [] ≡ fs = cc in
    subst (AreNew ns) same (record { differ = tt; new = λ n there. tt })
unit_new (tree.Declared d ∷ rest) s ns fs seen h v =
    let x = judge_item (tree.Declared d) s in
    let y = judge_unit rest x.scope in
    let p = parts_there x.value y.value fs v in
    let empty = nothing_there (judge_declaration d s).value p.first p.first_is in
    let same : fs ≡ p.rest = p.whole ∙ ap (λ l. l ++ p.rest) empty in
    subst (AreNew ns) (sym same)
    (unit_new rest x.scope ns p.rest (seen_declaration d s ns seen (nil_left x.faults _ h))
    (nil_left y.faults [] (nil_right x.faults _ h)) p.rest_is)
unit_new (tree.Defined all (tree.function stars name parameters at) body span ∷ rest) s ns fs seen h v =
    let x = judge_definition all name parameters body span s in
    let y = judge_unit rest x.scope in
    let p = parts_there x.value y.value fs v in
    let u = typed_by span.start all (judge_specifiers false all s) in
    let q = judge_parameters parameters (prototype u.scope) in
    let f = signature_listed u.value q in
    let b = body_scope u.scope (with_function name f u.scope) q.scope in
    let one = function_there name span f (judge_block (outermost (result_of u.value)) body b) p.first p.first_is in
    let k = definition_new all name parameters body span s ns seen (nil_left x.faults _ h) in
    let same : fs ≡ one.0 ∷ p.rest = p.whole ∙ ap (λ l. l ++ p.rest) one.1 in
    subst (AreNew ns) (sym same)
    (new_one ns name.text one.0 p.rest one.2 k.new
    (unit_new rest x.scope (name.text ∷ ns) p.rest k.seen (nil_left y.faults [] (nil_right x.faults _ h)) p.rest_is))
unit_new (tree.Defined all (tree.object stars name lengths at) body span ∷ rest) s ns fs seen h v =
    absurd (never span.start _ h)
  where
    never : (at : ℕ) (more : List Fault) → fault Mismatch at ++ more ≡ [] → ⊥
    never at more h = cc

pub function_names_differ : FunctionNamesDiffer
function_names_differ items p h = by_value (found_of items).value refl h.1
  where
    by_value : (o : Option (List t.Function)) → (found_of items).value ≡ o
        → option_map (program_from (found_of items).scope) o ≡ Some p → NamesDiffer p.functions
    by_value None q e = absurd (cc)
    by_value (Some fs) q e =
        let same : program_from (found_of items).scope fs ≡ p = cc in
        let a = unit_new items (file_scope (bodies_of items)) [] fs
        (record { names = λ n there. absurd there; from = refl; file = refl }) h.0 q in
        subst (λ (q : t.Program). NamesDiffer q.functions) same a.differ
