-- When what is declared so far agrees with the typed program in the end, and when what is found
-- of a node is sound in it.
use Rattle.std.specs.Prelude.{◌≡◌, ℕ, ◌+◌, ◌<◌, ◌≤◌, ℤ, Bool, true, false, List, [], ◌∷◌, ◌++◌, length, map, take, slice_get, Option, Some, None}
use Rattle.mc_tree.specs.Tree.{Name}
use Rattle.mc_value.specs.declared.int_type.IntType.{IntType}
use Rattle.mc_value.specs.declared.int_type.IntType.TheVariants as the
use Rattle.mc_value.specs.IntTypes.{InRange}
use Rattle.mc_typed.specs.declared.expressions.Slot.{Slot}
use Rattle.mc_typed.specs.Layout.{ObjectType, cells, cells_all, nesting, nesting_all, members_from, repeated, scalars, scalars_all}
use Rattle.mc_typed.specs.Layout as layout
use Rattle.mc_typed.specs.Tree.{Object, StaticObject, Effect, Arguments, Statement, Statements}
use Rattle.mc_typed.specs.Tree as typed
use Rattle.mc_typed.specs.Frames.{slots_place, slots, slots_call, slots_arguments, slots_effect, slots_initializer, slots_initializers, slots_declarators, slots_statements}
use Rattle.mc_typed.specs.Sound.{IsSlotOf, place_type, structure_type, IsPlace, IsExpression, IsStructureCall, IsEffect, IsCast, AreArguments, IsInitializer, AreElements, AreMembers, AreDeclarators, AreStatements, labels_of, AreInRange, AreInitial, IsFormed, AreFormed, parameters_at, result_at, slots_from}
use Rattle.mc_typed.specs.Sound as sound
use Rattle.mc_limits.specs.Limits.{most_frame_cells, most_nesting, most_static_cells}
use Rattle.mc_value.specs.ObjectTypes.{most_cells}
use Rattle.types_rules.specs.Profile.{most_counted, most_numbered, start_at, most_summed}
use Rattle.types_rules.specs.Types.{Base, Tagged, CType, plain, Member, Structure, Incomplete, Complete, Faulty, is_complete, layout_of, structures_from, ParameterKind, ByValue, ByArray, Signature}
use Rattle.types_rules.specs.Scopes.{Entry, Labels, Meaning, Automatic, Constant, Function, Typedef, Scope, file_scope, place_from, is_input, is_output}
use Rattle.types_rules.specs.Scopes as scope
use Rattle.types_rules.specs.Values.{Judged, Value, Number, Stored, Borrowed, Returned, Done, Assigned, Designator, Found, kind_of, is_integer, whole}
use Rattle.types_rules.specs.Calls.{Given}
use Rattle.types_rules.specs.Declarators.{Listed}
use Rattle.types_rules.specs.Expressions.{layouts_of}
use Rattle.types_rules.specs.Initializers.{Parts, Elements, Members, NoParts, values_of, values_of_items}
use Rattle.types_rules.specs.Declarations.{input_signature, output_signature}
use Rattle.types_rules.specs.Statements.{Around, alone, has_value, with_value, default_in}
use Rattle.types_rules.specs.Typing.{parameter_type, result_type}
use Rattle.laws_soundness.specs.Growth.{Begins, AreBelow}

-- the objects of a function and its arrays have numbers
abbrev pub AreNumbered : List Object → List ObjectType → Type 0
AreNumbered objects arrays = (length objects ≤ most_numbered) × (length arrays ≤ most_numbered)

-- The program in the end: what the body of one function can name in it, its structure types, and
-- the names of the functions that have a body.
pub record World : Type 0 where
  pub scope : sound.Scope
  pub structures : List Structure
  pub bodies : List (List ℕ)
  pub few : AreNumbered scope.objects scope.arrays

abbrev pub objects_of : World → List ObjectType
objects_of w = structures_from 0 w.structures

-- ---- types of objects

-- each array has an element at least
abbrev mutual
  pub IsFull : ObjectType → Type 0
  IsFull (layout.Scalar a) = Unit {0}
  IsFull (layout.Array n u) = (1 ≤ n) × IsFull u
  IsFull (layout.Structure k ms) = AreFull ms

  pub AreFull : layout.Members → Type 0
  AreFull layout.no_members = Unit {0}
  AreFull (layout.members u ms) = IsFull u × AreFull ms

-- The type of an object in a program with these structure types. Their numbers are exact where they
-- are few, which only a whole program shows.
pub record IsTypeIn (all : List Structure) (u : ObjectType) : Type 0 where
  pub formed : length all ≤ most_counted → IsFormed (structures_from 0 all) u
  pub full : IsFull u
  pub small : cells u ≤ most_cells
  pub flat : nesting u ≤ most_nesting

abbrev pub AreTypesIn : List Structure → List ObjectType → Type 0
AreTypesIn all [] = Unit {0}
AreTypesIn all (u ∷ us) = IsTypeIn all u × AreTypesIn all us

-- ---- types

-- what is complete stays so
abbrev pub Completes : List Structure → List Structure → Type 0
Completes all more =
    (k : ℕ) (ms : List Member) → slice_get all k ≡ Some (Complete ms)
    → slice_get more k ≡ Some (Complete ms)

abbrev pub ArePositive : List ℕ → Type 0
ArePositive [] = Unit {0}
ArePositive (n ∷ ns) = (1 ≤ n) × ArePositive ns

-- a member has a complete type, with the layout of that type
abbrev pub MemberFits : List Structure → Member → Type 0
MemberFits all m =
    (u : CType) × (m.member_type ≡ Some u) × (m.layout ≡ layout_of all u)
    × (is_complete all u.base ≡ true)

abbrev pub MembersFit : List Structure → List Member → Type 0
MembersFit all [] = Unit {0}
MembersFit all (m ∷ ms) = MemberFits all m × MembersFit all ms

pub record ListFits (w : World) (all : List Structure) (ms : List Member) : Type 0 where
  pub types : MembersFit all ms
  pub formed : length w.structures ≤ most_counted
      → AreFormed (objects_of w) (members_from (map (λ m. m.layout) ms))
  pub full : AreFull (members_from (map (λ m. m.layout) ms))
  pub few : length ms ≤ most_counted
  pub small : cells_all (members_from (map (λ m. m.layout) ms)) ≤ most_cells
  pub flat : nesting_all (members_from (map (λ m. m.layout) ms)) < most_nesting

abbrev pub StructureFits : World → List Structure → Structure → Type 0
StructureFits w all (Incomplete b) = Unit {0}
StructureFits w all (Complete ms) = ListFits w all ms
StructureFits w all Faulty = ⊥

abbrev pub StructuresFit : World → List Structure → Type 0
StructuresFit w all = (k : ℕ) (x : Structure) → slice_get all k ≡ Some x → StructureFits w all x

-- ---- names

-- the function with this number has this type
pub record FunctionFits (w : World) (f : Signature) (k : ℕ) : Type 0 where
  pub there : k < length w.scope.functions
  pub parameters :
      parameters_at (slice_get w.scope.functions k) ≡ map (parameter_type w.structures) f.parameters
  pub result : result_at (slice_get w.scope.functions k) ≡ result_type w.structures f.result

-- its declarations agree with its definition, and those of the external functions with theirs
pub record SignatureFits (w : World) (name : List ℕ) (f : Signature) : Type 0 where
  pub defined : (k : ℕ) → place_from 0 name w.bodies ≡ Some k → FunctionFits w f k
  pub input : (n : Name) → n.text ≡ name → is_input n ≡ true → f ≡ input_signature
  pub output : (n : Name) → n.text ≡ name → is_output n ≡ true → f ≡ output_signature

-- an object has a complete type, and stands in the program where the name says
abbrev pub MeaningFits : World → List Structure → List ℕ → Meaning → Type 0
MeaningFits w all name (Automatic slot (Some u)) =
    IsSlotOf w.scope.objects slot (layout_of all u) × (is_complete all u.base ≡ true)
    × IsTypeIn w.structures (layout_of all u)
MeaningFits w all name (scope.Stored slot (Some u)) =
    IsSlotOf w.scope.statics slot (layout_of all u) × (is_complete all u.base ≡ true)
    × IsTypeIn w.structures (layout_of all u)
MeaningFits w all name (scope.Borrowed array u) =
    (slice_get w.scope.arrays array ≡ Some (layout_of all u)) × (is_complete all u.base ≡ true)
    × IsTypeIn w.structures (layout_of all u)
MeaningFits w all name (Constant (Some v)) = InRange the.Int v
MeaningFits w all name (Function (Some f) has_body) = SignatureFits w name f
MeaningFits w all name (Typedef (Some u)) = ArePositive u.lengths
MeaningFits w all name _ = ⊥

abbrev pub NamesFit : World → List Structure → List Entry → Type 0
NamesFit w all [] = Unit {0}
NamesFit w all (e ∷ es) = MeaningFits w all e.name e.meaning × NamesFit w all es

-- ---- objects of a function

-- they lie one after the other from a cell on, until the limit is passed
abbrev pub AreLaid : ℕ → World → ℕ → List Object → Type 0
AreLaid most w n [] = Unit {0}
AreLaid most w n (o ∷ os) =
    IsTypeIn w.structures o.object_type × (o.cells ≡ cells o.object_type)
    × (o.start ≡ start_at most n) × AreLaid most w (n + o.cells) os

abbrev pub total : List Object → ℕ
total [] = 0
total (o ∷ os) = o.cells + total os

-- the same of objects with static storage duration, whose values are those of their types; each has
-- a number
pub record StaticsFit (w : World) (objects : List StaticObject) (n : ℕ) : Type 0 where
  pub laid : AreLaid most_static_cells w 0 (map (λ o. o.object) objects)
  pub cells : n ≡ total (map (λ o. o.object) objects)
  pub room : n ≤ most_static_cells
  pub few : length objects ≤ most_numbered
  pub initial : AreInitial objects

-- ---- scopes

pub record Fits (w : World) (s : Scope) : Type 0 where
  pub names : NamesFit w s.structures s.names
  pub structures : StructuresFit w s.structures
  pub laid : AreLaid most_frame_cells w 0 s.objects
  pub frame : s.frame ≡ start_at most_summed (total s.objects)
  pub statics : StaticsFit w s.statics s.static_cells
  pub bodies : s.bodies ≡ w.bodies

-- the program has all that is declared so far, and perhaps more
pub record Ends (w : World) (s : Scope) : Type 0 where
  pub structures : Completes s.structures w.structures
  pub objects : Begins Object s.objects w.scope.objects
  pub statics : Begins Object (map (λ o. o.object) s.statics) w.scope.statics

-- these objects, and no others, are made between two scopes, in this order
abbrev pub Made : Scope → Scope → List Slot → Type 0
Made s t l =
    (os : List Object) × (t.objects ≡ s.objects ++ os) × (l ≡ slots_from (length s.objects) os)

-- ---- values

abbrev pub IsSoundValue : World → List Structure → Value → Type 0
IsSoundValue w all (Number e) = IsExpression e w.scope
IsSoundValue w all (Stored place u) =
    IsPlace place w.scope × (place_type w.scope place ≡ Some (layout_of all u))
    × (is_complete all u.base ≡ true) × IsTypeIn w.structures (layout_of all u)
IsSoundValue w all (Borrowed array u span) =
    (slice_get w.scope.arrays array ≡ Some (layout_of all u)) × (is_complete all u.base ≡ true)
    × IsTypeIn w.structures (layout_of all u)
IsSoundValue w all (Returned c k) =
    IsStructureCall c w.scope
    × (structure_type w.scope (typed.Returned c) ≡ Some (layout_of all (plain (Tagged k))))
    × (is_complete all (Tagged k) ≡ true)
IsSoundValue w all (Done effect) =
    IsEffect effect false w.scope × IsEffect (whole effect) true w.scope × IsCast effect
    × IsCast (whole effect)
IsSoundValue w all (Assigned effect) = IsEffect effect true w.scope × (whole effect ≡ effect)
IsSoundValue w all Designator = Unit {0}

abbrev pub slots_of : Value → List Slot
slots_of (Number e) = slots e
slots_of (Stored place u) = slots_place place
slots_of (Borrowed array u span) = []
slots_of (Returned c k) = slots_call c
slots_of (Done effect) = slots_effect effect
slots_of (Assigned effect) = slots_effect effect
slots_of Designator = []

abbrev pub Designates : Value → Type 0
Designates (Stored place u) = Unit {0}
Designates (Borrowed array u span) = Unit {0}
Designates _ = ⊥

-- What is found of an expression without a fault: a sound value, whose objects are those that are
-- made. A constant is an integer, and makes none.
pub record IsWell (w : World) (s : Scope) (x : Found) : Type 0 where
  pub value : Value
  pub is : x.value ≡ Some value
  pub sound : IsSoundValue w x.scope.structures value
  pub made : Made s x.scope (slots_of value)
  pub fits : Fits w x.scope
  pub place : x.place ≡ true → Designates value
  pub constant : x.constant ≡ true
      → (x.scope.objects ≡ s.objects) × (is_integer (kind_of value) ≡ true)

-- What is found of a type without a fault: nothing in it makes objects.
pub record IsTyped (w : World) (s : Scope) (x : Judged CType) : Type 0 where
  pub value : CType
  pub is : x.value ≡ Some value
  pub positive : ArePositive value.lengths
  pub fits : Fits w x.scope
  pub still : x.scope.objects ≡ s.objects

-- What is found of arguments without a fault, as many as there are parameters.
pub record AreWell (w : World) (s : Scope) (ps : List ParameterKind) (x : Given Arguments)
    : Type 0 where
  pub value : Arguments
  pub is : x.value ≡ Some value
  pub sound : AreArguments value (map (parameter_type w.structures) ps) w.scope
  pub made : Made s x.scope (slots_arguments value)
  pub fits : Fits w x.scope

-- what is found of specifiers without a fault: the type of the one that is no word
pub record AreTyped (w : World) (s : Scope) (is_there : Bool) (x : Judged CType) : Type 0 where
  pub there : is_there ≡ true → (u : CType) × (x.value ≡ Some u)
  pub positive : (u : CType) → x.value ≡ Some u → ArePositive u.lengths
  pub fits : Fits w x.scope
  pub still : x.scope.objects ≡ s.objects

-- of enumerators: the value of the next one
pub record AreCounted (w : World) (s : Scope) (x : Judged ℤ) : Type 0 where
  pub value : ℤ
  pub is : x.value ≡ Some value
  pub fits : Fits w x.scope
  pub still : x.scope.objects ≡ s.objects

-- of the lengths that are given
pub record AreLengths (w : World) (s : Scope) (x : Judged (List ℕ)) : Type 0 where
  pub value : List ℕ
  pub is : x.value ≡ Some value
  pub positive : ArePositive value
  pub fits : Fits w x.scope
  pub still : x.scope.objects ≡ s.objects

-- and of members
pub record AreListed (w : World) (s : Scope) (x : Listed Member) : Type 0 where
  pub list : ListFits w x.scope.structures x.items
  pub fits : Fits w x.scope
  pub still : x.scope.objects ≡ s.objects

-- What is found of an initializer without a fault, for an object of this type; `static` says that
-- the object has static storage duration.
pub record IsInitialized (w : World) (static : Bool) (s : Scope) (u : CType)
    (x : Judged typed.Initializer) : Type 0 where
  pub value : typed.Initializer
  pub is : x.value ≡ Some value
  pub sound : IsInitializer value (layout_of x.scope.structures u) w.scope
  pub made : Made s x.scope (slots_initializer value)
  pub fits : Fits w x.scope
  pub values : static ≡ true
      → (x.scope.objects ≡ s.objects)
      × AreInRange (scalars (layout_of x.scope.structures u)) (values_of value)

-- ---- what the items of a list are for

-- so many items have room
abbrev pub HasRoom : Parts → ℕ → Type 0
HasRoom (Elements u) n = Unit {0}
HasRoom (Members ms) n = n ≤ length ms
HasRoom NoParts n = ⊥

-- the types of the parts are complete
abbrev pub ArePartsKnown : List Structure → Parts → Type 0
ArePartsKnown all (Elements u) = is_complete all u.base ≡ true
ArePartsKnown all (Members ms) = MembersFit all ms
ArePartsKnown all NoParts = ⊥

-- items are sound for these parts
abbrev pub AreItems : List Structure → Parts → typed.Initializers → sound.Scope → Type 0
AreItems all (Elements u) items c = AreElements items (layout_of all u) c
AreItems all (Members ms) items c = AreMembers items (layouts_of ms) c
AreItems all NoParts items c = ⊥

-- the types of the cells of so many parts
abbrev pub scalars_of : List Structure → Parts → ℕ → List IntType
scalars_of all (Elements u) n = repeated n (scalars (layout_of all u))
scalars_of all (Members ms) n = scalars_all (layouts_of (take n ms))
scalars_of all NoParts n = []

pub record AreInitialized (w : World) (static : Bool) (s : Scope) (parts : Parts) (n : ℕ)
    (x : Judged typed.Initializers) : Type 0 where
  pub value : typed.Initializers
  pub is : x.value ≡ Some value
  pub count : sound.count_of value ≡ n
  pub sound : AreItems x.scope.structures parts value w.scope
  pub made : Made s x.scope (slots_initializers value)
  pub fits : Fits w x.scope
  pub values : static ≡ true
      → (x.scope.objects ≡ s.objects)
      × AreInRange (scalars_of x.scope.structures parts n) (values_of_items value)

-- What is found of declarators without a fault: the objects with automatic storage duration that
-- they declare.
pub record IsDeclared (w : World) (s : Scope) (value : Option (List typed.Declarator))
    (after : Scope)
    : Type 0 where
  pub declared : List typed.Declarator
  pub is : value ≡ Some declared
  pub sound : AreDeclarators declared w.scope
  pub made : Made s after (slots_declarators declared)
  pub fits : Fits w after
  pub below : AreBelow (length after.statics) after.names

-- ---- statements

-- the labels that stand in a list of items are new, each after those before it
abbrev pub LabelsGo : Option Labels → List (Option ℤ) → Option Labels → Type 0
LabelsGo l [] m = m ≡ l
LabelsGo None (v ∷ vs) m = ⊥
LabelsGo (Some l) (Some v ∷ vs) m =
    (has_value v l.values ≡ false) × LabelsGo (Some (with_value v l)) vs m
LabelsGo (Some l) (None ∷ vs) m =
    (l.has_default ≡ false) × LabelsGo (Some (default_in l)) vs m

-- labels have the type of the controlling expression
abbrev pub LabelsFit : Option Labels → Option IntType → Type 0
LabelsFit None None = Unit {0}
LabelsFit None (Some a) = ⊥
LabelsFit (Some l) None = ⊥
LabelsFit (Some l) (Some a) = l.value_type ≡ Some a

-- what stands around a statement agrees with the program
pub record IsAround (w : World) (a : Around) (v : sound.Around) (s : Scope) : Type 0 where
  pub breaks : v.breaks ≡ a.breaks
  pub continues : v.continues ≡ a.continues
  pub labels : LabelsFit s.labels v.labels
  pub result : (b : Base) × (a.result ≡ Some b) × (w.scope.result ≡ result_type w.structures b)

-- what is found of statements without a fault
pub record IsRun (w : World) (v : sound.Around) (s : Scope) (x : Judged Statements) : Type 0 where
  pub value : Statements
  pub is : x.value ≡ Some value
  pub sound : AreStatements value w.scope v
  pub made : Made s x.scope (slots_statements value)
  pub fits : Fits w x.scope
  pub below : AreBelow (length x.scope.statics) x.scope.names
  pub labels : LabelsGo s.labels (labels_of value) x.scope.labels

-- of one statement: where no label may stand it is a statement alone
pub record IsOne (w : World) (v : sound.Around) (s : Scope) (x : Judged Statements) : Type 0 where
  pub run : IsRun w v s x
  pub single : s.labels ≡ None → (one : Statement) × (run.value ≡ alone one)

-- the scope in which a unit begins fits every program
abbrev pub FileScopeFits : Type 0
FileScopeFits = (w : World) → Fits w (file_scope w.bodies)

-- ---- parameters

-- the element types of the arrays among what parameters take
abbrev pub arrays_in : List Structure → List (Option ParameterKind) → List ObjectType
arrays_in all [] = []
arrays_in all (Some (ByArray u) ∷ ps) = layout_of all u ∷ arrays_in all ps
arrays_in all (_ ∷ ps) = arrays_in all ps

-- the program has these arrays after those of the parameters before
pub record ArraysEnd (w : World) (s : Scope) (items : List (Option ParameterKind)) : Type 0 where
  pub before : List ObjectType
  pub more : List ObjectType
  pub count : length before ≡ s.arrays
  pub are : w.scope.arrays ≡ before ++ (arrays_in w.structures items ++ more)

abbrev pub base_of_kind : ParameterKind → Base
base_of_kind (ByValue b) = b
base_of_kind (ByArray u) = u.base

-- what parameters take is complete
abbrev pub AreComplete : List Structure → List ParameterKind → Type 0
AreComplete all [] = Unit {0}
AreComplete all (k ∷ ks) = (is_complete all (base_of_kind k) ≡ true) × AreComplete all ks

-- What is found of parameters without a fault: each takes something, and those that are no arrays
-- have objects of their types.
pub record AreParametersFound (w : World) (s : Scope) (x : Listed (Option ParameterKind))
    : Type 0 where
  pub kinds : List ParameterKind
  pub are : x.items ≡ map Some kinds
  pub complete : AreComplete x.scope.structures kinds
  pub objects : (os : List Object) × (x.scope.objects ≡ s.objects ++ os)
      × (map (λ o. o.object_type) os ≡ sound.values_of (map (parameter_type w.structures) kinds))
  pub arrays : x.scope.arrays ≡ s.arrays + length (arrays_in w.structures x.items)
  pub elements : AreTypesIn w.structures (arrays_in w.structures x.items)
  pub fits : Fits w x.scope
  pub below : AreBelow (length x.scope.statics) x.scope.names
