-- Initializers, declarations, statements and units: what is found of them has the operators and
-- operands of the source.
use Rattle.std.proofs.Common.{◌≡◌, ℕ, ◌+◌, refl, ℤ, Bool, true, false, ◌||◌, if◌then◌else◌, nat_lt, arith, List, [], ◌∷◌, ◌++◌, Option, Some, None, option_map, option_and_then, subst, sym, ap, ◌∙◌}
use Rattle.std.proofs.lemmas.Bool.Decides.{nat_tests}
use Rattle.mc_span.specs.declared.span.Span.{Span}
use Rattle.mc_tree.specs.Tree.{Name, Expression, Expressions, ArrayLengths, Initializer, Initializers, InitDeclarator, Declaration, Statement, BlockItems, ForStart, Item, span_of}
use Rattle.mc_tree.specs.Tree as tree
use Rattle.mc_tree.specs.declared.declarations.specifier_word.SpecifierWord.TheVariants as word
use Rattle.mc_grammar.specs.WordSets.{some_word}
use Rattle.mc_value.specs.declared.int_type.IntType.{IntType}
use Rattle.mc_value.specs.Conversions.{converted}
use Rattle.mc_typed.specs.declared.expressions.Slot.{Slot}
use Rattle.mc_typed.specs.Constants.{constant_value}
use Rattle.mc_typed.specs.Layout.{ObjectType}
use Rattle.mc_typed.specs.Tree.{Declarator, Effect, Statements}
use Rattle.mc_typed.specs.Tree as typed
use Rattle.types_faults.specs.declared.fault.Fault.{Fault}
use Rattle.types_faults.specs.Faults.{unless_faulty}
use Rattle.types_rules.specs.Types.{Base, Void, Integer, Tagged, CType, plain, Structure, cells_of, Signature, count, has}
use Rattle.types_rules.specs.Scopes.{Automatic, Labels, Scope, next_slot, next_static, with_name, with_counted, block, prototype, body_scope, file_scope}
use Rattle.types_rules.specs.Scopes as scope
use Rattle.types_rules.specs.Values.{Judged, Value, Number, Stored, Borrowed, Returned, Done, Assigned, Designator, number_in, structure_in, number_found, effect_in, whole, lift2, lift3}
use Rattle.types_rules.specs.Constants.{value_of_constant}
use Rattle.types_rules.specs.Expressions.{convert_to, promote}
use Rattle.types_rules.specs.Declarators.{declared_type}
use Rattle.types_rules.specs.Judgement.{typed_by, judge, judge_specifiers, judge_lengths, judge_parameters}
use Rattle.types_rules.specs.Initializers.{Target, Missing, ScalarTarget, ArrayTarget, StructureTarget, target_of, Parts, parts_of, first_part, later_parts, scalar_value, item_value, item_count, only_item, list_value, zero_value, zero_judged, list_judged, braced_judged, only_expression, judge_initializer, judge_items}
use Rattle.types_rules.specs.Initializers as initializers
use Rattle.types_rules.specs.Declarations.{Storage, TypedefStorage, StaticStorage, AutomaticStorage, storage_of, count_listed, judge_optional_initializer, object_faults, layout_counted, declarator_value, static_value, object_judged, judge_init_declarator, append, judge_init_declarators, is_tag_alone, judge_declaration, result_of, signature_listed}
use Rattle.types_rules.specs.Statements.{Around, outermost, inside, in_loop, in_switch, closed, compound_scope, alone, only, followed, statement_found, keyword, declaration_judged, items_of, switch_scope, label_value, case_judged, default_judged, lift4, loop, return_value}
use Rattle.types_rules.specs.Bodies.{listed, judge_effect, judge_clauses, judge_part, judge_optional_part, judge_start, judge_test, span_of_declaration, judge_statement, judge_block}
use Rattle.types_rules.specs.Typing.{function_from, with_function, judge_item, judge_unit, bodies_of, found_of, program_from}
use Rattle.laws_types.specs.Source.{IsNumberOf, IsStructureOf, IsEffectOf}
use Rattle.laws_types.specs.Source as of
use Rattle.laws_types.specs.SourceUnits.{IsInitializerOf, AreInitializersOf, AreObjectsOf, AreDeclaredBy, AreClausesOf, ArePartOf, IsStartOf, IsTestOf, IsReturnOf, AreStatementsOf, AreItemsOf, AreFunctionsOf, ProgramsHaveTheirSource, keeps_apart, DeclarationsMakeObjects}
use Rattle.laws_types.specs.SourceUnits as of_units
use Rattle.laws_types.proofs.ExactValues.{WhereSome, map_where, then_where, lift_where}
use Rattle.laws_types.proofs.SourceValues.{IsValueOf, convert_of, promote_of, number_of, number_found_of, structure_of, discarded_of}
use Rattle.laws_types.proofs.SourceValues as source_values

-- ---- initializers

zero_of : (a : Expression) (span : Span) (all : List Structure) (u : Option CType) (e : Option typed.Expression)
    → WhereSome (IsNumberOf a) e
    → WhereSome (IsInitializerOf (tree.Braced (tree.initializers (tree.Single a) tree.no_initializers) span))
    (zero_value all u e)
zero_of a span all (Some u) (Some e) h = of_units.zero_initial h
zero_of a span all (Some u) None h = tt
zero_of a span all None e h = tt

scalar_of : (a : Expression) (b : Base) (v : Value) → IsValueOf a v
    → WhereSome (IsInitializerOf (tree.Single a)) (scalar_value b v)
scalar_of a (Integer t) v h =
    map_where (IsNumberOf a) (IsInitializerOf (tree.Single a)) (λ e. typed.NumberInitializer (convert_to t e))
    (number_in v) (λ e p. of_units.number_initial (convert_of t a e p)) (number_of a v h)
scalar_of a Void v h = tt
scalar_of a (Tagged k) v h = tt

item_is_of : (a : Expression) (all : List Structure) (u : Option CType) (target : Target) (v : Value)
    → IsValueOf a v → WhereSome (IsInitializerOf (tree.Single a)) (item_value all u target v)
item_is_of a all (Some u) (ScalarTarget z) v h = scalar_of a z.base v h
item_is_of a all (Some u) (StructureTarget k members) v h =
    map_where (IsStructureOf a) (IsInitializerOf (tree.Single a))
    (λ w. typed.StructureInitializer w (cells_of all u)) (structure_in k v)
    (λ w p. of_units.structure_initial p) (structure_of a k v h)
item_is_of a all (Some u) Missing v h = tt
item_is_of a all (Some u) (ArrayTarget n z) v h = tt
item_is_of a all None target v h = tt

only_item_of : (items : Initializers) (span : Span) (all : typed.Initializers) → AreInitializersOf items all
    → WhereSome (IsInitializerOf (tree.Braced items span)) (only_item all)
only_item_of items span typed.no_initializers h = tt
only_item_of items span (typed.initializers i typed.no_initializers) h = of_units.in_braces h
only_item_of items span (typed.initializers i (typed.initializers j rest)) h = tt

list_of : (items : Initializers) (span : Span) (structures : List Structure) (u : Option CType)
    (target : Target) (all : typed.Initializers) → AreInitializersOf items all
    → WhereSome (IsInitializerOf (tree.Braced items span)) (list_value structures u target all)
list_of items span structures (Some u) (ScalarTarget v) all h = only_item_of items span all h
list_of items span structures (Some u) (ArrayTarget n v) all h = of_units.list_initial h
list_of items span structures (Some u) (StructureTarget k members) all h = of_units.list_initial h
list_of items span structures (Some u) Missing all h = tt
list_of items span structures None target all h = tt

listed_of : (items : Initializers) (span : Span) (u : Option CType) (at count : ℕ)
    (x : Judged typed.Initializers) → WhereSome (AreInitializersOf items) x.value
    → WhereSome (IsInitializerOf (tree.Braced items span)) (list_judged u at count x).value
listed_of items span u at count x h =
    let all = x.scope.structures in
    let target = target_of all u in
    then_where (AreInitializersOf items) (IsInitializerOf (tree.Braced items span)) (list_value all u target)
    x.value (list_of items span all u target) h

braced_of : (items : Initializers) (span : Span) (u : Option CType) (at count : ℕ)
    (x : Judged typed.Initializers) (s : Scope) → WhereSome (AreInitializersOf items) x.value
    → WhereSome (IsInitializerOf (tree.Braced items span))
    (braced_judged u at count (option_map (λ e. judge e s) (only_expression items)) x s).value
braced_of tree.no_initializers span u at count x s h = listed_of tree.no_initializers span u at count x h
braced_of (tree.initializers (tree.Braced all inner) rest) span u at count x s h =
    listed_of (tree.initializers (tree.Braced all inner) rest) span u at count x h
braced_of (tree.initializers (tree.Single a) (tree.initializers one rest)) span u at count x s h =
    listed_of (tree.initializers (tree.Single a) (tree.initializers one rest)) span u at count x h
braced_of (tree.initializers (tree.Single a) tree.no_initializers) span u at count x s h =
    by_test (initializers.is_zero (Some (judge a s)))
  where
    by_test : (b : Bool)
        → WhereSome (IsInitializerOf (tree.Braced (tree.initializers (tree.Single a) tree.no_initializers) span))
        (if b then zero_judged u (Some (judge a s)) s else list_judged u at count x).value
    by_test true =
        zero_of a span (judge a s).scope.structures u (number_found (judge a s))
        (number_found_of a (judge a s) (source_values.found_of a s))
    by_test false = listed_of (tree.initializers (tree.Single a) tree.no_initializers) span u at count x h

mutual
  initializer_of : (static : Bool) (u : Option CType) (i : Initializer) (s : Scope)
      → WhereSome (IsInitializerOf i) (judge_initializer static u i s).value
  initializer_of static u (tree.Single a) s =
      let x = judge a s in
      let all = x.scope.structures in
      then_where (IsValueOf a) (IsInitializerOf (tree.Single a)) (item_value all u (target_of all u)) x.value
      (item_is_of a all u (target_of all u)) (source_values.found_of a s)
  initializer_of static u (tree.Braced items span) s =
      let parts = parts_of (target_of s.structures u) in
      braced_of items span u span.start (item_count items) (judge_items static parts items s) s
      (items_are_of static parts items s)

  items_are_of : (static : Bool) (parts : Parts) (items : Initializers) (s : Scope)
      → WhereSome (AreInitializersOf items) (judge_items static parts items s).value
  items_are_of static parts tree.no_initializers s = of_units.no_initials
  items_are_of static parts (tree.initializers one rest) s =
      let x = judge_initializer static (first_part parts) one s in
      lift_where (IsInitializerOf one) (AreInitializersOf rest) (AreInitializersOf (tree.initializers one rest))
      typed.initializers x.value (judge_items static (later_parts parts) rest x.scope).value
      (λ i more p q. of_units.initials p q)
      (initializer_of static (first_part parts) one s)
      (items_are_of static (later_parts parts) rest x.scope)

-- ---- declarations

-- what one declarator declares, before those of the others
abbrev AreFirst : InitDeclarator → List Declarator → Type 0
AreFirst d xs =
    (rest : List InitDeclarator) (ys : List Declarator) → AreObjectsOf rest ys → AreObjectsOf (d ∷ rest) (xs ++ ys)

-- objects, where they are automatic, and else none
abbrev AreMade : Storage → InitDeclarator → List Declarator → Type 0
AreMade AutomaticStorage d xs = AreFirst d xs
AreMade StaticStorage d xs = xs ≡ []
AreMade TypedefStorage d xs = xs ≡ []

abbrev AreAllMade : Storage → List InitDeclarator → List Declarator → Type 0
AreAllMade AutomaticStorage ds xs = AreObjectsOf ds xs
AreAllMade StaticStorage ds xs = xs ≡ []
AreAllMade TypedefStorage ds xs = xs ≡ []

static_of : (layout : Option ObjectType) (value : Option (Option typed.Initializer))
    → WhereSome (λ xs. xs ≡ []) (static_value layout value)
static_of (Some layout) (Some value) = refl
static_of (Some layout) None = tt
static_of None value = tt

bare_of : (stars : ℕ) (name : Name) (list : ArrayLengths) (span : Span) (slot : Slot)
    (layout : Option ObjectType)
    → WhereSome (AreFirst (tree.bare (tree.object stars name list span)))
    (declarator_value slot layout (Some None))
bare_of stars name list span slot None = tt
bare_of stars name list span slot (Some layout) = λ rest ys h. of_units.object_bare refl h

initialized_of : (stars : ℕ) (name : Name) (list : ArrayLengths) (span : Span) (i : Initializer)
    (slot : Slot) (layout : Option ObjectType) (value : Option typed.Initializer)
    → WhereSome (IsInitializerOf i) value
    → WhereSome (AreFirst (tree.initialized (tree.object stars name list span) i))
    (declarator_value slot layout (option_map Some value))
initialized_of stars name list span i slot None value h = tt
initialized_of stars name list span i slot (Some layout) None h = tt
initialized_of stars name list span i slot (Some layout) (Some value) h =
    λ rest ys k. of_units.object_initialized h refl k

bare_made : (storage : Storage) (stars : ℕ) (name : Name) (list : ArrayLengths) (span : Span)
    (faults : List Fault) (base u : Option CType) (s : Scope)
    → WhereSome (AreMade storage (tree.bare (tree.object stars name list span)))
    (object_judged storage faults name list base u None s).value
bare_made TypedefStorage stars name list span faults base u s = refl
bare_made StaticStorage stars name list span faults base u s =
    let own = object_faults name list (count_listed None) base u s in
    let named = with_name name (scope.Stored (next_static s) (unless_faulty (faults ++ own) u)) s in
    let x = judge_optional_initializer true (unless_faulty own u) None named in
    static_of (layout_counted (own ++ x.faults) u x.scope) x.value
bare_made AutomaticStorage stars name list span faults base u s =
    let own = object_faults name list (count_listed None) base u s in
    bare_of stars name list span (next_slot s) (layout_counted own u s)

initialized_made : (storage : Storage) (stars : ℕ) (name : Name) (list : ArrayLengths) (span : Span)
    (i : Initializer) (faults : List Fault) (base u : Option CType) (s : Scope)
    → WhereSome (AreMade storage (tree.initialized (tree.object stars name list span) i))
    (object_judged storage faults name list base u (Some i) s).value
initialized_made TypedefStorage stars name list span i faults base u s = refl
initialized_made StaticStorage stars name list span i faults base u s =
    let own = object_faults name list (count_listed (Some i)) base u s in
    let named = with_name name (scope.Stored (next_static s) (unless_faulty (faults ++ own) u)) s in
    let x = judge_optional_initializer true (unless_faulty own u) (Some i) named in
    static_of (layout_counted (own ++ x.faults) u x.scope) x.value
initialized_made AutomaticStorage stars name list span i faults base u s =
    let own = object_faults name list (count_listed (Some i)) base u s in
    let layout = layout_counted own u s in
    let named = with_name name (Automatic (next_slot s) (unless_faulty (faults ++ own) u)) s in
    let declared = with_counted layout named in
    let v = unless_faulty own u in
    initialized_of stars name list span i (next_slot s) layout (judge_initializer false v i declared).value
    (initializer_of false v i declared)

function_made : (storage : Storage) (d : InitDeclarator) → AreFirst d []
    → AreMade storage d []
function_made TypedefStorage d h = refl
function_made StaticStorage d h = refl
function_made AutomaticStorage d h = h

init_declarator_of : (storage : Storage) (base : Option CType) (d : InitDeclarator) (s : Scope)
    → WhereSome (AreMade storage d) (judge_init_declarator storage base d s).value
init_declarator_of storage base (tree.bare (tree.object stars name list span)) s =
    let x = judge_lengths list s in
    bare_made storage stars name list span x.faults base (declared_type list x.value (count_listed None) base)
    x.scope
init_declarator_of storage base (tree.initialized (tree.object stars name list span) i) s =
    let x = judge_lengths list s in
    initialized_made storage stars name list span i x.faults base
    (declared_type list x.value (count_listed (Some i)) base) x.scope
init_declarator_of storage base (tree.bare (tree.function stars name given span)) s =
    function_made storage (tree.bare (tree.function stars name given span))
    (λ rest ys h. of_units.function_bare h)
init_declarator_of storage base (tree.initialized (tree.function stars name given span) i) s =
    function_made storage (tree.initialized (tree.function stars name given span) i)
    (λ rest ys h. of_units.function_initialized h)

both_made : (storage : Storage) (d : InitDeclarator) (ds : List InitDeclarator) (xs ys : List Declarator)
    → AreMade storage d xs → AreAllMade storage ds ys → AreAllMade storage (d ∷ ds) (append xs ys)
both_made AutomaticStorage d ds xs ys h k = h ds ys k
both_made StaticStorage d ds [] [] h k = refl
both_made StaticStorage d ds (x ∷ xs) ys h k = absurd (cc)
both_made StaticStorage d ds [] (y ∷ ys) h k = absurd (cc)
both_made TypedefStorage d ds [] [] h k = refl
both_made TypedefStorage d ds (x ∷ xs) ys h k = absurd (cc)
both_made TypedefStorage d ds [] (y ∷ ys) h k = absurd (cc)

none_made : (storage : Storage) → AreAllMade storage [] []
none_made AutomaticStorage = of_units.no_objects
none_made StaticStorage = refl
none_made TypedefStorage = refl

init_declarators_of : (storage : Storage) (base : Option CType) (ds : List InitDeclarator) (s : Scope)
    → WhereSome (AreAllMade storage ds) (judge_init_declarators storage base ds s).value
init_declarators_of storage base [] s = none_made storage
init_declarators_of storage base (d ∷ ds) s =
    let x = judge_init_declarator storage base d s in
    lift_where (AreMade storage d) (AreAllMade storage ds) (AreAllMade storage (d ∷ ds)) append x.value
    (judge_init_declarators storage base ds x.scope).value (both_made storage d ds)
    (init_declarator_of storage base d s) (init_declarators_of storage base ds x.scope)

-- ---- which declarations make objects

one_more : (n : ℕ) → nat_lt 0 (n + 1) ≡ true
one_more n = grind (arith, nat_tests)

or_true : (b : Bool) → (b || true) ≡ true
or_true true = refl
or_true false = refl

kept_words : (all : tree.Specifiers) → some_word keeps_apart all ≡ (has word.Static all || has word.Typedef all)
kept_words tree.no_specifiers = refl
kept_words (tree.specifiers (tree.Word word.Static span) rest) = rw (one_more (count word.Static rest)) refl
kept_words (tree.specifiers (tree.Word word.Typedef span) rest) =
    rw (one_more (count word.Typedef rest), or_true (has word.Static rest)) refl
kept_words (tree.specifiers (tree.Word word.Extern span) rest) = kept_words rest
kept_words (tree.specifiers (tree.Word word.Const span) rest) = kept_words rest
kept_words (tree.specifiers (tree.Word word.Void span) rest) = kept_words rest
kept_words (tree.specifiers (tree.Word word.Bool span) rest) = kept_words rest
kept_words (tree.specifiers (tree.Word word.Char span) rest) = kept_words rest
kept_words (tree.specifiers (tree.Word word.Short span) rest) = kept_words rest
kept_words (tree.specifiers (tree.Word word.Int span) rest) = kept_words rest
kept_words (tree.specifiers (tree.Word word.Long span) rest) = kept_words rest
kept_words (tree.specifiers (tree.Word word.Signed span) rest) = kept_words rest
kept_words (tree.specifiers (tree.Word word.Unsigned span) rest) = kept_words rest
kept_words (tree.specifiers (tree.TypedefName name) rest) = kept_words rest
kept_words (tree.specifiers (tree.StructureTag tag span) rest) = kept_words rest
kept_words (tree.specifiers (tree.Structure tag all span) rest) = kept_words rest
kept_words (tree.specifiers (tree.EnumerationTag tag span) rest) = kept_words rest
kept_words (tree.specifiers (tree.Enumeration tag all span) rest) = kept_words rest

automatic_words : (typedef is_file static : Bool)
    → (if typedef then TypedefStorage else if is_file || static then StaticStorage else AutomaticStorage) ≡ AutomaticStorage
    → (static || typedef) ≡ false
automatic_words true is_file static e = absurd (cc)
automatic_words false true static e = absurd (cc)
automatic_words false false true e = absurd (cc)
automatic_words false false false e = refl

declared_by : (storage : Storage) (all : tree.Specifiers) (ds : List InitDeclarator) (span : Span)
    (o : Option (List Declarator)) → (storage ≡ AutomaticStorage → some_word keeps_apart all ≡ false)
    → WhereSome (AreAllMade storage ds) o → WhereSome (AreDeclaredBy (tree.declaration all ds span)) o
declared_by storage all ds span None k h = tt
declared_by AutomaticStorage all ds span (Some xs) k h = of_units.automatic (k refl) h
declared_by StaticStorage all ds span (Some []) k h = of_units.kept_apart
declared_by StaticStorage all ds span (Some (x ∷ xs)) k h = absurd (cc)
declared_by TypedefStorage all ds span (Some []) k h = of_units.kept_apart
declared_by TypedefStorage all ds span (Some (x ∷ xs)) k h = absurd (cc)

declaration_of : (d : Declaration) (s : Scope) → WhereSome (AreDeclaredBy d) (judge_declaration d s).value
declaration_of (tree.declaration all ds span) s =
    let x = typed_by span.start all (judge_specifiers (is_tag_alone all ds) all s) in
    let storage = storage_of all s.is_file in
    declared_by storage all ds span (judge_init_declarators storage x.value ds x.scope).value
    (λ e. kept_words all ∙ automatic_words (has word.Typedef all) s.is_file (has word.Static all) e)
    (init_declarators_of storage x.value ds x.scope)

-- what is made, where some words are among them or not
abbrev AreMadeWhere : Bool → List InitDeclarator → List Declarator → Type 0
AreMadeWhere kept ds all = (kept ≡ false → AreObjectsOf ds all) × (kept ≡ true → all ≡ [])

made_where : (typedef static : Bool) (ds : List InitDeclarator) (all : List Declarator)
    → AreAllMade (if typedef then TypedefStorage else if static then StaticStorage else AutomaticStorage) ds all
    → AreMadeWhere (static || typedef) ds all
made_where true true ds all h = (λ q. absurd (cc), λ q. h)
made_where true false ds all h = (λ q. absurd (cc), λ q. h)
made_where false true ds all h = (λ q. absurd (cc), λ q. h)
made_where false false ds all h = (λ q. h, λ q. absurd (cc))

pub declarations_make_objects : DeclarationsMakeObjects
declarations_make_objects words ds span s all file e =
    let x = typed_by span.start words (judge_specifiers (is_tag_alone words ds) words s) in
    let some = init_declarators_of (storage_of words s.is_file) x.value ds x.scope in
    let made = subst (λ (o : Option (List Declarator)). WhereSome (AreAllMade (storage_of words s.is_file) ds) o) e some in
    let here = subst (λ (b : Bool). AreAllMade (storage_of words b) ds all) file made in
    subst (λ (b : Bool). AreMadeWhere b ds all) (sym (kept_words words))
    (made_where (has word.Typedef words) (has word.Static words) ds all here)

-- ---- the parts of a statement

whole_of : {a : Expression} {x : Effect} → IsEffectOf a x → IsEffectOf a (whole x)
whole_of (of.effect_inside h) = of.effect_inside (whole_of h)
whole_of (of.assignment p q) = of.assignment p q
whole_of (of.copy p q) = of.copy p q
whole_of (of.update e p q) = of.update e p q
whole_of (of.step_after p q) = of.step_after p q
whole_of (of.step_before p q) = of.step_before p q
whole_of (of.number_effect h) = of.number_effect h
whole_of (of.structure_effect h) = of.structure_effect h
whole_of (of.call_effect h) = of.call_effect h
whole_of (of.output e h) = of.output e h
whole_of (of.effect_choice p q r) = of.effect_choice p q r
whole_of (of.discard h) = of.discard (whole_of h)

effect_in_of : (a : Expression) (v : Value) → IsValueOf a v → WhereSome (IsEffectOf a) (effect_in v)
effect_in_of a (Assigned effect) h = h
effect_in_of a (Number e) h = discarded_of a (Number e) h
effect_in_of a (Stored place u) h = discarded_of a (Stored place u) h
effect_in_of a (Borrowed array u span) h = discarded_of a (Borrowed array u span) h
effect_in_of a (Returned c k) h = discarded_of a (Returned c k) h
effect_in_of a (Done effect) h = discarded_of a (Done effect) h
effect_in_of a Designator h = discarded_of a Designator h

effect_of : (a : Expression) (s : Scope) → WhereSome (IsEffectOf a) (judge_effect a s).value
effect_of a s =
    let x = judge a s in
    map_where (IsEffectOf a) (IsEffectOf a) whole (option_and_then effect_in x.value) (λ x p. whole_of p)
    (then_where (IsValueOf a) (IsEffectOf a) effect_in x.value (effect_in_of a) (source_values.found_of a s))

number_is_of : (a : Expression) (s : Scope) → WhereSome (IsNumberOf a) (number_found (judge a s))
number_is_of a s = number_found_of a (judge a s) (source_values.found_of a s)

-- one clause, before those of the others
abbrev AreFirstClauses : Expression → List Effect → Type 0
AreFirstClauses a xs =
    (rest : Expressions) (ys : List Effect) → AreClausesOf rest ys
    → AreClausesOf (tree.expressions a rest) (xs ++ ys)

first_clause : (a : Expression) (s : Scope) → WhereSome (AreFirstClauses a) (listed (judge_effect a s)).value
first_clause a s =
    map_where (IsEffectOf a) (AreFirstClauses a) (λ effect. effect ∷ []) (judge_effect a s).value
    (λ x p rest ys h. of_units.clauses p h) (effect_of a s)

clauses_of : (es : Expressions) (s : Scope) → WhereSome (AreClausesOf es) (judge_clauses es s).value
clauses_of tree.no_expressions s = of_units.no_clauses
clauses_of (tree.expressions a rest) s =
    let x = listed (judge_effect a s) in
    lift_where (AreFirstClauses a) (AreClausesOf rest) (AreClausesOf (tree.expressions a rest)) append x.value
    (judge_clauses rest x.scope).value (λ xs ys h k. h rest ys k) (first_clause a s) (clauses_of rest x.scope)

clause_of : (a : Expression) (s : Scope) → WhereSome (ArePartOf (Some a)) (listed (judge_effect a s)).value
clause_of a s =
    map_where (IsEffectOf a) (ArePartOf (Some a)) (λ effect. effect ∷ []) (judge_effect a s).value
    (λ x p. of_units.one_clause p) (effect_of a s)

part_of : (a : Expression) (s : Scope) → WhereSome (ArePartOf (Some a)) (judge_part a s).value
part_of (tree.Comma operands span) s =
    more (judge_clauses operands s).value (clauses_of operands s)
  where
    more : (o : Option (List Effect)) → WhereSome (AreClausesOf operands) o
        → WhereSome (ArePartOf (Some (tree.Comma operands span))) o
    more None h = tt
    more (Some xs) h = of_units.more_clauses h
part_of (tree.Named name) s = clause_of (tree.Named name) s
part_of (tree.Constant v decimal unsigned longs span) s =
    clause_of (tree.Constant v decimal unsigned longs span) s
part_of (tree.Character v span) s = clause_of (tree.Character v span) s
part_of (tree.Parenthesized inner span) s = clause_of (tree.Parenthesized inner span) s
part_of (tree.Call name given span) s = clause_of (tree.Call name given span) s
part_of (tree.Index a b span) s = clause_of (tree.Index a b span) s
part_of (tree.Member a name span) s = clause_of (tree.Member a name span) s
part_of (tree.PostfixStep operator a span) s = clause_of (tree.PostfixStep operator a span) s
part_of (tree.PrefixStep operator a span) s = clause_of (tree.PrefixStep operator a span) s
part_of (tree.Unary operator a span) s = clause_of (tree.Unary operator a span) s
part_of (tree.Cast type a span) s = clause_of (tree.Cast type a span) s
part_of (tree.Binary operator a b span) s = clause_of (tree.Binary operator a b span) s
part_of (tree.Conditional a b c span) s = clause_of (tree.Conditional a b c span) s
part_of (tree.Assignment operator a b span) s = clause_of (tree.Assignment operator a b span) s

optional_part_of : (a : Option Expression) (s : Scope)
    → WhereSome (ArePartOf a) (judge_optional_part a s).value
optional_part_of None s = of_units.no_part
optional_part_of (Some a) s = part_of a s

start_of : (start : ForStart) (s : Scope) → WhereSome (IsStartOf start) (judge_start start s).value
start_of (tree.StartsLocal d) s =
    map_where (AreDeclaredBy d) (IsStartOf (tree.StartsLocal d)) typed.StartDeclaration (judge_declaration d s).value
    (λ x p. of_units.start_declaration p) (declaration_of d s)
start_of (tree.StartsExpression a) s =
    map_where (ArePartOf a) (IsStartOf (tree.StartsExpression a)) typed.StartEffects (judge_optional_part a s).value
    (λ x p. of_units.start_clauses p) (optional_part_of a s)

test_of : (at : ℕ) (a : Option Expression) (s : Scope) → WhereSome (IsTestOf a) (judge_test at a s).value
test_of at None s = of_units.no_test
test_of at (Some a) s =
    map_where (IsNumberOf a) (IsTestOf (Some a)) Some (number_found (judge a s)) (λ f p. of_units.one_test p)
    (number_is_of a s)

return_of : (a : Expression) (all : List Structure) (r : Option Base) (v : Value) → IsValueOf a v
    → WhereSome (IsReturnOf (Some a)) (return_value all r v)
return_of a all (Some (Integer t)) v h =
    map_where (IsNumberOf a) (IsReturnOf (Some a)) (λ e. typed.ReturnNumber (convert_to t e)) (number_in v)
    (λ e p. of_units.return_number (convert_of t a e p)) (number_of a v h)
return_of a all (Some (Tagged k)) v h =
    map_where (IsStructureOf a) (IsReturnOf (Some a))
    (λ w. typed.ReturnStructure w (cells_of all (plain (Tagged k)))) (structure_in k v)
    (λ w p. of_units.return_structure p) (structure_of a k v h)
return_of a all (Some Void) v h = tt
return_of a all None v h = tt

-- ---- statements in a list

-- a statement alone
abbrev IsAloneOf : Statement → typed.Statement → Type 0
IsAloneOf s one = AreStatementsOf s (of_units.alone one)

only_of : (s : Statement) (xs : Statements) → AreStatementsOf s xs → WhereSome (IsAloneOf s) (only xs)
only_of s typed.no_statements h = tt
only_of s (typed.statements one typed.no_statements) h = h
only_of s (typed.statements one (typed.statements other rest)) h = tt

statement_is_of : (s : Statement) (x : Judged Statements) → WhereSome (AreStatementsOf s) x.value
    → WhereSome (IsAloneOf s) (statement_found x)
statement_is_of s x h = then_where (AreStatementsOf s) (IsAloneOf s) only x.value (only_of s) h

-- the items of a body that is a compound statement
abbrev AreBodyOf : Statement → Statements → Type 0
AreBodyOf s all = (at : Span) × AreStatementsOf s (of_units.alone (typed.Compound all at))

body_of : (s : Statement) (one : typed.Statement) → IsAloneOf s one → WhereSome (AreBodyOf s) (items_of one)
body_of s (typed.Compound items span) h = (span, h)
body_of s (typed.Label v span) h = tt
body_of s (typed.Declaration ds span) h = tt
body_of s (typed.Null span) h = tt
body_of s (typed.EffectStatement effect span) h = tt
body_of s (typed.If e u word span) h = tt
body_of s (typed.IfElse e u v word span) h = tt
body_of s (typed.Switch e items word span) h = tt
body_of s (typed.For start test step u word span) h = tt
body_of s (typed.DoWhile u e word span) h = tt
body_of s (typed.Break span) h = tt
body_of s (typed.Continue span) h = tt
body_of s (typed.Return value span) h = tt

-- the label of a `case`, before the statement at which it stands
abbrev AreLabelOf : Expression → Span → Statements → Type 0
AreLabelOf a label xs =
    (e : typed.Expression) × (t : IntType) × (v w : ℤ) × IsNumberOf a e × (constant_value e ≡ Some v)
    × (w ≡ converted t v) × (xs ≡ of_units.alone (typed.Label (Some w) label))

case_of : (a : Expression) (label : Span) (constant : Bool) (e : Option typed.Expression) (labels : Option Labels)
    → WhereSome (IsNumberOf a) e
    → WhereSome (AreLabelOf a label)
    (option_map (λ w. alone (typed.Label (Some w) label)) (label_value labels (value_of_constant constant e)))
case_of a label constant e None h = tt
case_of a label false e (Some labels) h = by_type labels.value_type
  where
    by_type : (t : Option IntType) → WhereSome (AreLabelOf a label)
        (option_map (λ w. alone (typed.Label (Some w) label)) (lift2 converted t None))
    by_type None = tt
    by_type (Some t) = tt
case_of a label true None (Some labels) h = by_type labels.value_type
  where
    by_type : (t : Option IntType) → WhereSome (AreLabelOf a label)
        (option_map (λ w. alone (typed.Label (Some w) label)) (lift2 converted t None))
    by_type None = tt
    by_type (Some t) = tt
case_of a label true (Some e) (Some labels) h = by_parts labels.value_type (constant_value e) refl
  where
    by_parts : (t : Option IntType) (v : Option ℤ) → constant_value e ≡ v → WhereSome (AreLabelOf a label)
        (option_map (λ w. alone (typed.Label (Some w) label)) (lift2 converted t v))
    by_parts None v q = tt
    by_parts (Some t) None q = tt
    by_parts (Some t) (Some v) q = (e, t, v, converted t v, h, q, refl, refl)

labelled : (a : Expression) (label span : Span) (s : Statement) (xs ys : Statements) → AreLabelOf a label xs
    → AreStatementsOf s ys → AreStatementsOf (tree.Case a label s span) (followed xs ys)
labelled a label span s xs ys h k =
    subst (λ (zs : Statements). AreStatementsOf (tree.Case a label s span) zs)
    (sym (ap (λ (zs : Statements). followed zs ys) h.7)) (of_units.case_label h.1 h.4 h.5 h.6 k)

default_of : (label span : Span) (s : Statement) (o : Option Statements) → WhereSome (AreStatementsOf s) o
    → WhereSome (AreStatementsOf (tree.Default label s span))
    (lift2 followed (Some (alone (typed.Label None label))) o)
default_of label span s None h = tt
default_of label span s (Some ys) h = of_units.default_label h

if_else_of : (a : Expression) (s u : Statement) (span : Span) (e : Option typed.Expression)
    (x y : Option typed.Statement) → WhereSome (IsNumberOf a) e → WhereSome (IsAloneOf s) x
    → WhereSome (IsAloneOf u) y
    → WhereSome (AreStatementsOf (tree.IfElse a s u span))
    (lift3 (λ e one other. alone (typed.IfElse e one other (keyword 2 span) span)) e x y)
if_else_of a s u span (Some e) (Some x) (Some y) p q r = of_units.if_else_statement p q r
if_else_of a s u span (Some e) (Some x) None p q r = tt
if_else_of a s u span (Some e) None y p q r = tt
if_else_of a s u span None x y p q r = tt

while_of : (a : Expression) (s : Statement) (span : Span) (e : Option typed.Expression)
    (d : Option typed.Statement) → WhereSome (IsNumberOf a) e → WhereSome (IsAloneOf s) d
    → WhereSome (AreStatementsOf (tree.While a s span))
    (lift4 (loop 5 span) (Some (typed.StartEffects [])) (option_map Some e) (Some []) d)
while_of a s span (Some e) (Some one) h k = of_units.while_statement h k
while_of a s span (Some e) None h k = tt
while_of a s span None d h k = tt

for_of : (start : ForStart) (a b : Option Expression) (s : Statement) (span : Span) (w : Option typed.ForStart)
    (x : Option (Option typed.Expression)) (y : Option (List Effect)) (z : Option typed.Statement)
    → WhereSome (IsStartOf start) w → WhereSome (IsTestOf a) x → WhereSome (ArePartOf b) y
    → WhereSome (IsAloneOf s) z
    → WhereSome (AreStatementsOf (tree.For start a b s span)) (lift4 (loop 3 span) w x y z)
for_of start a b s span (Some w) (Some x) (Some y) (Some z) p q r h = of_units.for_statement p q r h
for_of start a b s span (Some w) (Some x) (Some y) None p q r h = tt
for_of start a b s span (Some w) (Some x) None z p q r h = tt
for_of start a b s span (Some w) None y z p q r h = tt
for_of start a b s span None x y z p q r h = tt

joined_is : (xs ys : Statements) → followed xs ys ≡ of_units.joined xs ys
joined_is typed.no_statements ys = refl
joined_is (typed.statements x xs) ys = ap (typed.statements x) (joined_is xs ys)

item_before : (s : Statement) (rest : BlockItems) (xs ys : Statements) → AreStatementsOf s xs → AreItemsOf rest ys
    → AreItemsOf (tree.statement s rest) (followed xs ys)
item_before s rest xs ys h k =
    subst (λ (zs : Statements). AreItemsOf (tree.statement s rest) zs) (sym (joined_is xs ys)) (of_units.statement_item h k)

-- a declaration, before the items after it
before : (d : Declaration) (rest : BlockItems) (ds : Option (List Declarator)) (xs : Option Statements)
    → WhereSome (AreDeclaredBy d) ds → WhereSome (AreItemsOf rest) xs
    → WhereSome (AreItemsOf (tree.local d rest))
    (lift2 followed (option_map (λ ds. alone (typed.Declaration ds (span_of_declaration d))) ds) xs)
before (tree.declaration all list span) rest (Some ds) (Some xs) h k = of_units.local_item h k
before d rest (Some ds) None h k = tt
before d rest None xs h k = tt

-- ---- statements

mutual
  statement_of : (w : Around) (one : Statement) (s : Scope)
      → WhereSome (AreStatementsOf one) (judge_statement w one s).value
  statement_of w (tree.Compound items span) s =
      map_where (AreItemsOf items) (AreStatementsOf (tree.Compound items span))
      (λ items. alone (typed.Compound items span))
      (judge_block (inside w) items (compound_scope w s)).value (λ x p. of_units.compound p)
      (block_of (inside w) items (compound_scope w s))
  statement_of w (tree.Null span) s = of_units.null_statement
  statement_of w (tree.ExpressionStatement a span) s =
      map_where (IsEffectOf a) (AreStatementsOf (tree.ExpressionStatement a span))
      (λ effect. alone (typed.EffectStatement effect span))
      (judge_effect a s).value (λ x p. of_units.effect_statement p) (effect_of a s)
  statement_of w (tree.If a one span) s =
      let x = judge a s in
      let y = closed x.scope (judge_statement (inside w) one (block x.scope)) in
      lift_where (IsNumberOf a) (IsAloneOf one) (AreStatementsOf (tree.If a one span))
      (λ e one. alone (typed.If e one (keyword 2 span) span)) (number_found x) (statement_found y)
      (λ f u p q. of_units.if_statement p q) (number_is_of a s)
      (statement_is_of one y (statement_of (inside w) one (block x.scope)))
  statement_of w (tree.IfElse a one other span) s =
      let x = judge a s in
      let y = closed x.scope (judge_statement (inside w) one (block x.scope)) in
      let z = closed y.scope (judge_statement (inside w) other (block y.scope)) in
      if_else_of a one other span (number_found x) (statement_found y) (statement_found z) (number_is_of a s)
      (statement_is_of one y (statement_of (inside w) one (block x.scope)))
      (statement_is_of other z (statement_of (inside w) other (block y.scope)))
  statement_of w (tree.Switch a body span) s =
      let x = judge a s in
      let y = closed x.scope (judge_statement (in_switch w) body (switch_scope x)) in
      lift_where (IsNumberOf a) (AreBodyOf body) (AreStatementsOf (tree.Switch a body span))
      (λ e items. alone (typed.Switch (promote e) items (keyword 6 span) span)) (number_found x)
      (option_and_then items_of (statement_found y))
      (λ f items p q. of_units.switch_statement (promote_of a f p) q.1)
      (number_is_of a s)
      (then_where (IsAloneOf body) (AreBodyOf body) items_of (statement_found y) (body_of body)
      (statement_is_of body y (statement_of (in_switch w) body (switch_scope x))))
  statement_of w (tree.While a one span) s =
      let x = judge a s in
      let u = closed x.scope (judge_statement (in_loop w) one (block x.scope)) in
      while_of a one span (number_found x) (statement_found u) (number_is_of a s)
      (statement_is_of one u (statement_of (in_loop w) one (block x.scope)))
  statement_of w (tree.DoWhile one a span) s =
      let x = closed s (judge_statement (in_loop w) one (block s)) in
      lift_where (IsAloneOf one) (IsNumberOf a) (AreStatementsOf (tree.DoWhile one a span))
      (λ one e. alone (typed.DoWhile one e (keyword 2 span) span)) (statement_found x)
      (number_found (judge a x.scope)) (λ u f p q. of_units.do_statement p q)
      (statement_is_of one x (statement_of (in_loop w) one (block s))) (number_is_of a x.scope)
  statement_of w (tree.For start test step one span) s =
      let x = judge_start start (block s) in
      let y = judge_test span.start test x.scope in
      let z = judge_optional_part step y.scope in
      let u = closed z.scope (judge_statement (in_loop w) one (block z.scope)) in
      for_of start test step one span x.value y.value z.value (statement_found u)
      (start_of start (block s)) (test_of span.start test x.scope) (optional_part_of step y.scope)
      (statement_is_of one u (statement_of (in_loop w) one (block z.scope)))
  statement_of w (tree.Case a label one span) s =
      let e = judge a s in
      let x = case_judged label (span_of a).start e in
      lift_where (AreLabelOf a label) (AreStatementsOf one) (AreStatementsOf (tree.Case a label one span))
      followed x.value (judge_statement (inside w) one x.scope).value (labelled a label span one)
      (case_of a label e.constant (number_found e) e.scope.labels (number_is_of a s))
      (statement_of (inside w) one x.scope)
  statement_of w (tree.Default label one span) s =
      let x = default_judged label s in
      default_of label span one (judge_statement (inside w) one x.scope).value
      (statement_of (inside w) one x.scope)
  statement_of w (tree.Label name one span) s = tt
  statement_of w (tree.Goto name span) s = tt
  statement_of w (tree.Break span) s = of_units.break_statement
  statement_of w (tree.Continue span) s = of_units.continue_statement
  statement_of w (tree.Return None span) s = of_units.return_statement of_units.return_nothing
  statement_of w (tree.Return (Some a) span) s =
      let x = judge a s in
      let all = x.scope.structures in
      map_where (IsReturnOf (Some a)) (AreStatementsOf (tree.Return (Some a) span))
      (λ v. alone (typed.Return v span))
      (option_and_then (return_value all w.result) x.value) (λ v p. of_units.return_statement p)
      (then_where (IsValueOf a) (IsReturnOf (Some a)) (return_value all w.result) x.value
      (return_of a all w.result) (source_values.found_of a s))

  block_of : (w : Around) (items : BlockItems) (s : Scope)
      → WhereSome (AreItemsOf items) (judge_block w items s).value
  block_of w tree.no_block_items s = of_units.no_items
  block_of w (tree.local d rest) s =
      let at = span_of_declaration d in
      let x = declaration_judged at (judge_declaration d s) in
      before d rest (judge_declaration d s).value (judge_block w rest x.scope).value (declaration_of d s)
      (block_of w rest x.scope)
  block_of w (tree.statement one rest) s =
      let x = judge_statement w one s in
      lift_where (AreStatementsOf one) (AreItemsOf rest) (AreItemsOf (tree.statement one rest)) followed x.value
      (judge_block w rest x.scope).value (item_before one rest) (statement_of w one s)
      (block_of w rest x.scope)

-- ---- units

-- the functions of an item, before those of the others
abbrev AreFirstFunctions : Item → List typed.Function → Type 0
AreFirstFunctions i fs =
    (rest : List Item) (gs : List typed.Function) → AreFunctionsOf rest gs → AreFunctionsOf (i ∷ rest) (fs ++ gs)

function_of : (all : tree.Specifiers) (stars : ℕ) (name : Name) (parameters : tree.Parameters) (at span : Span)
    (body : BlockItems) (s : Scope) (f : Option Signature) (b : Option Statements)
    → WhereSome (AreItemsOf body) b
    → WhereSome (AreFirstFunctions (tree.Defined all (tree.function stars name parameters at) body span))
    (lift2 (λ g body. function_from name span s g body ∷ []) f b)
function_of all stars name parameters at span body s (Some g) (Some b) h =
    λ rest gs k. of_units.defined (record { named = refl; place = refl; items = h; closing = refl }) k
function_of all stars name parameters at span body s (Some g) None h = tt
function_of all stars name parameters at span body s None b h = tt

declared_only_of : (d : Declaration) (ds : Option (List Declarator))
    → WhereSome (AreFirstFunctions (tree.Declared d)) (option_map (λ x. []) ds)
declared_only_of d None = tt
declared_only_of d (Some ds) = λ rest gs k. of_units.declared k

unit_item_of : (i : Item) (s : Scope) → WhereSome (AreFirstFunctions i) (judge_item i s).value
unit_item_of (tree.Declared d) s = declared_only_of d (judge_declaration d s).value
unit_item_of (tree.Defined all (tree.function stars name parameters at) body span) s =
    let x = typed_by span.start all (judge_specifiers false all s) in
    let y = judge_parameters parameters (prototype x.scope) in
    let f = signature_listed x.value y in
    let b = body_scope x.scope (with_function name f x.scope) y.scope in
    let w = outermost (result_of x.value) in
    let z = judge_block w body b in
    function_of all stars name parameters at span body z.scope f z.value (block_of w body b)
unit_item_of (tree.Defined all (tree.object stars name lengths at) body span) s = tt

unit_of : (items : List Item) (s : Scope) → WhereSome (AreFunctionsOf items) (judge_unit items s).value
unit_of [] s = of_units.no_functions
unit_of (i ∷ rest) s =
    let x = judge_item i s in
    lift_where (AreFirstFunctions i) (AreFunctionsOf rest) (AreFunctionsOf (i ∷ rest)) append x.value
    (judge_unit rest x.scope).value (λ fs gs h k. h rest gs k) (unit_item_of i s) (unit_of rest x.scope)

pub programs_have_their_source : ProgramsHaveTheirSource
programs_have_their_source items p h =
    by_value (found_of items).value (unit_of items (file_scope (bodies_of items))) h
  where
    by_value : (o : Option (List typed.Function)) → WhereSome (AreFunctionsOf items) o
        → option_map (program_from (found_of items).scope) o ≡ Some p → AreFunctionsOf items p.functions
    by_value None k e = absurd (cc)
    by_value (Some fs) k e =
        let same : program_from (found_of items).scope fs ≡ p = cc in
        subst (λ (q : typed.Program). AreFunctionsOf items q.functions) same k
