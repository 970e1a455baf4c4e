-- When a program is sound: each node has the type that C17 6.5 to 6.9 ask for, and what it names
-- exists.
use Rattle.std.specs.Prelude.{◌≡◌, ◌≢◌, ℕ, ◌+◌, ◌<◌, ◌≤◌, ◌^◌, ℤ, Bool, true, false, IsTrue, List, [], ◌∷◌, map, length, drop, slice_get, Option, Some, None, option_map}
use Rattle.mc_value.specs.declared.int_type.IntType.{IntType}
use Rattle.mc_value.specs.declared.int_type.IntType.TheVariants as the
use Rattle.mc_value.specs.declared.operators.BinOp.{BinOp}
use Rattle.mc_value.specs.declared.operators.BinOp.TheVariants.{Lt, Gt, Le, Ge, Eq, Ne}
use Rattle.mc_value.specs.declared.operators.UnOp.{UnOp}
use Rattle.mc_value.specs.declared.operators.UnOp.TheVariants.{Not}
use Rattle.mc_limits.specs.Limits.{most_frame_cells, most_nesting, most_parameters, most_static_cells}
use Rattle.mc_value.specs.IntTypes.{InRange}
use Rattle.mc_value.specs.ObjectTypes.{most_cells}
use Rattle.mc_value.specs.Conversions.{promoted, common_of}
use Rattle.mc_value.specs.Arithmetic.{binary_type}
use Rattle.mc_typed.specs.declared.operators.Operator.{Operator}
use Rattle.mc_typed.specs.declared.operators.Operator.TheVariants.{Binary, Shift}
use Rattle.mc_typed.specs.declared.expressions.Slot.{Slot}
use Rattle.mc_typed.specs.Layout.{ObjectType, Scalar, Array, Structure, Members, no_members, members, cells, nesting, member, start, scalars}
use Rattle.mc_typed.specs.Tree.{Place, Expression, StructureValue, FunctionCall, Argument, Arguments, Effect, Initializer, Initializers, Declarator, ForStart, ReturnValue, Statement, Statements, ParameterType, ResultType, Object, StaticObject, Function, Program}
use Rattle.mc_typed.specs.Tree as typed
use Rattle.mc_typed.specs.Frames.{slots_statements, frame_of, static_cells}

-- ---- what a body can name

pub record Scope : Type 0 where
  pub functions : List Function
  pub statics : List Object
  pub objects : List Object
  -- the element types of the arrays that the array parameters name
  pub arrays : List ObjectType
  pub result : ResultType

abbrev pub object_type_at : List Object → ℕ → Option ObjectType
object_type_at objects k = option_map (λ o. o.object_type) (slice_get objects k)

abbrev pub cells_at : List Object → ℕ → Option ℕ
cells_at objects k = option_map (λ o. o.cells) (slice_get objects k)

-- the object of this number exists and begins where the slot says
abbrev pub IsSlot : List Object → Slot → Type 0
IsSlot objects s = option_map (λ o. o.start) (slice_get objects s.object) ≡ Some s.start

-- and has this type
abbrev pub IsSlotOf : List Object → Slot → ObjectType → Type 0
IsSlotOf objects s u = IsSlot objects s × (object_type_at objects s.object ≡ Some u)

abbrev pub parameters_at : Option Function → List ParameterType
parameters_at None = []
parameters_at (Some f) = f.parameters

abbrev pub result_at : Option Function → ResultType
result_at None = typed.NoResult
result_at (Some f) = f.result

-- ---- types of places and values

abbrev pub element_of : Option ObjectType → Option ObjectType
element_of (Some (Array n u)) = Some u
element_of _ = None

abbrev pub length_of : Option ObjectType → Option ℕ
length_of (Some (Array n u)) = Some n
length_of _ = None

abbrev pub member_of : Option ObjectType → ℕ → Option ObjectType
member_of (Some (Structure k ms)) i = member ms i
member_of _ i = None

abbrev pub offset_of : Option ObjectType → ℕ → Option ℕ
offset_of (Some (Structure k ms)) i = option_map (λ u. start ms i) (member ms i)
offset_of _ i = None

-- the type of the object that a place designates
abbrev pub place_type : Scope → Place → Option ObjectType
place_type c (typed.Local slot span) = object_type_at c.objects slot.object
place_type c (typed.Static slot span) = object_type_at c.statics slot.object
place_type c (typed.Parameter array stride index span) = slice_get c.arrays array
place_type c (typed.Item array n stride index span) = element_of (place_type c array)
place_type c (typed.Member structure i offset span) = member_of (place_type c structure) i

-- the type of what an operator gives for a left operand of this type
abbrev pub operator_type : Operator → IntType → IntType
operator_type (Binary operator) a = binary_type operator a
operator_type (Shift operator) a = a

-- the type of an integer expression
abbrev pub type_of : Expression → IntType
type_of (typed.Constant v a span) = a
type_of (typed.Read place a) = a
type_of (typed.Unary operator a e span) = a
type_of (typed.Convert a written e span) = a
type_of (typed.Not e span) = the.Int
type_of (typed.Binary operator a e f span) = operator_type operator a
type_of (typed.Logic operator e f span) = the.Int
type_of (typed.Choice e f g a span) = a
type_of (typed.Call k a) = a
type_of (typed.Input span) = the.Int

abbrev pub structure_result : ResultType → Option ObjectType
structure_result (typed.StructureResult u) = Some u
structure_result _ = None

-- the type of a structure
abbrev pub structure_type : Scope → StructureValue → Option ObjectType
structure_type c (typed.Stored place) = place_type c place
structure_type c (typed.Returned (typed.call f given result span)) =
    structure_result (result_at (slice_get c.functions f))

abbrev pub IsStructureType : Option ObjectType → Type 0
IsStructureType (Some (Structure k ms)) = Unit {0}
IsStructureType _ = ⊥

-- ---- expressions (C17 6.5)

-- `!` has a node of its own
abbrev pub IsUnary : UnOp → Type 0
IsUnary Not = ⊥
IsUnary _ = Unit {0}

-- Both operands have one promoted type, to which they are converted (C17 6.3.1.8); those of a shift
-- have each their promoted type (C17 6.5.7p3).
abbrev pub HasOperands : Operator → IntType → IntType → IntType → Type 0
HasOperands (Binary operator) a left right = (promoted a ≡ a) × (left ≡ a) × (right ≡ a)
HasOperands (Shift operator) a left right = (promoted a ≡ a) × (left ≡ a) × (promoted right ≡ right)

-- a temporary object takes a structure, and nothing else (C17 6.2.4p8)
abbrev pub Takes : Option Slot → ResultType → Scope → Type 0
Takes (Some slot) (typed.StructureResult u) c = IsSlotOf c.objects slot u
Takes (Some slot) _ c = ⊥
Takes None (typed.StructureResult u) c = ⊥
Takes None _ c = Unit {0}

abbrev mutual
  pub IsPlace : Place → Scope → Type 0
  IsPlace (typed.Local slot span) c = IsSlot c.objects slot
  IsPlace (typed.Static slot span) c = IsSlot c.statics slot
  IsPlace (typed.Parameter array stride index span) c =
      (option_map cells (slice_get c.arrays array) ≡ Some stride) × IsExpression index c
  IsPlace (typed.Item array n stride index span) c =
      IsPlace array c
      × (length_of (place_type c array) ≡ Some n)
      × (option_map cells (element_of (place_type c array)) ≡ Some stride)
      × IsExpression index c
  IsPlace (typed.Member structure i offset span) c =
      IsPlace structure c × (offset_of (place_type c structure) i ≡ Some offset)

  pub IsExpression : Expression → Scope → Type 0
  IsExpression (typed.Constant v a span) c = InRange a v
  IsExpression (typed.Read place a) c = IsPlace place c × (place_type c place ≡ Some (Scalar a))
  IsExpression (typed.Unary operator a e span) c =
      IsUnary operator × (promoted a ≡ a) × IsExpression e c × (type_of e ≡ a)
  IsExpression (typed.Convert a written e span) c = IsExpression e c
  IsExpression (typed.Not e span) c = IsExpression e c
  IsExpression (typed.Binary operator a e f span) c =
      IsExpression e c × IsExpression f c × HasOperands operator a (type_of e) (type_of f)
  IsExpression (typed.Logic operator e f span) c = IsExpression e c × IsExpression f c
  IsExpression (typed.Choice e f g a span) c =
      IsExpression e c × IsExpression f c × IsExpression g c
      × (promoted a ≡ a) × (type_of f ≡ a) × (type_of g ≡ a)
  IsExpression (typed.Call k a) c = IsCall k c (typed.NumberResult a)
  IsExpression (typed.Input span) c = Unit {0}

  pub IsStructure : StructureValue → Scope → Type 0
  IsStructure (typed.Stored place) c = IsPlace place c × IsStructureType (place_type c place)
  IsStructure (typed.Returned k) c = IsStructureCall k c

  -- a call of a function that gives this
  pub IsCall : FunctionCall → Scope → ResultType → Type 0
  IsCall (typed.call f given result span) c r =
      (f < length c.functions)
      × AreArguments given (parameters_at (slice_get c.functions f)) c
      × Takes result r c
      × (result_at (slice_get c.functions f) ≡ r)

  pub IsStructureCall : FunctionCall → Scope → Type 0
  IsStructureCall (typed.call f given result span) c =
      (f < length c.functions)
      × AreArguments given (parameters_at (slice_get c.functions f)) c
      × IsStructureType (structure_result (result_at (slice_get c.functions f)))
      × Takes result (result_at (slice_get c.functions f)) c

  -- as many arguments as parameters, each of the kind and type of its parameter (C17 6.5.2.2)
  pub AreArguments : Arguments → List ParameterType → Scope → Type 0
  AreArguments typed.no_arguments [] c = Unit {0}
  AreArguments typed.no_arguments (p ∷ ps) c = ⊥
  AreArguments (typed.arguments a rest) [] c = ⊥
  AreArguments (typed.arguments a rest) (p ∷ ps) c = IsArgument a p c × AreArguments rest ps c

  pub IsArgument : Argument → ParameterType → Scope → Type 0
  IsArgument (typed.NumberArgument e) (typed.NumberParameter a) c = IsExpression e c ×
      (type_of e ≡ a)
  IsArgument (typed.NumberArgument e) _ c = ⊥
  IsArgument (typed.StructureArgument value copy) (typed.StructureParameter u) c =
      IsStructure value c × (structure_type c value ≡ Some u) × IsSlotOf c.objects copy u
  IsArgument (typed.StructureArgument value copy) _ c = ⊥
  IsArgument (typed.ArrayArgument place n) (typed.ArrayParameter u) c =
      IsPlace place c × (place_type c place ≡ Some (Array n u))
  IsArgument (typed.ArrayArgument place n) _ c = ⊥
  IsArgument (typed.AgainArgument array span) (typed.ArrayParameter u) c = slice_get c.arrays
      array ≡ Some u
  IsArgument (typed.AgainArgument array span) _ c = ⊥

-- ---- effects (C17 6.5.16, 6.8.3)

abbrev pub compares : BinOp → Bool
compares Lt = true
compares Gt = true
compares Le = true
compares Ge = true
compares Eq = true
compares Ne = true
compares _ = false

-- a compound assignment has no relational or equality operator
abbrev pub Updates : Operator → Type 0
Updates (Binary operator) = compares operator ≡ false
Updates (Shift operator) = Unit {0}

-- The old value of the target is converted to the common type of the operands, which is then common
-- to itself and the target's type, and for a shift to the target's promoted type (C17 6.5.16.2p3).
abbrev pub Converts : Operator → IntType → IntType → Type 0
Converts (Binary operator) a common = common_of a common ≡ common
Converts (Shift operator) a common = promoted a ≡ common

-- no assignment stands under a cast to void
abbrev pub IsCast : Effect → Type 0
IsCast (typed.Assign target a e span) = ⊥
IsCast (typed.Update target a operator common e span) = ⊥
IsCast (typed.Copy target value n span) = ⊥
IsCast _ = Unit {0}

-- Assignments stand only as whole expression statements or clauses of a `for`: `whole` says that
-- the effect is one.
abbrev pub IsEffect : Effect → Bool → Scope → Type 0
IsEffect (typed.Assign target a e span) whole c =
    IsTrue whole × IsPlace target c × (place_type c target ≡ Some (Scalar a)) × IsExpression e c
    × (type_of e ≡ a)
IsEffect (typed.Update target a operator common e span) whole c =
    IsTrue whole × IsPlace target c × (place_type c target ≡ Some (Scalar a)) × Updates operator
    × Converts operator a common × IsExpression e c × HasOperands operator common common (type_of e)
IsEffect (typed.Copy target value n span) whole c =
    IsTrue whole × IsPlace target c × IsStructure value c
    × (place_type c target ≡ structure_type c value)
    × (option_map cells (structure_type c value) ≡ Some n)
IsEffect (typed.NumberEffect e w) whole c = (w ≡ whole) × IsExpression e c
IsEffect (typed.StructureEffect value w) whole c = (w ≡ whole) × IsStructure value c
IsEffect (typed.CallEffect k) whole c = IsCall k c typed.NoResult
IsEffect (typed.Output e span) whole c = IsExpression e c × (type_of e ≡ the.Int)
IsEffect (typed.ChoiceEffect e a b span) whole c =
    IsExpression e c × IsEffect a false c × IsEffect b false c
IsEffect (typed.Discard a span) whole c = IsCast a × IsEffect a whole c

-- ---- initializers (C17 6.7.9)

abbrev pub count_of : Initializers → ℕ
count_of typed.no_initializers = 0
count_of (typed.initializers i rest) = count_of rest + 1

abbrev mutual
  pub IsInitializer : Initializer → ObjectType → Scope → Type 0
  IsInitializer (typed.NumberInitializer e) (Scalar a) c = IsExpression e c × (type_of e ≡ a)
  IsInitializer (typed.NumberInitializer e) _ c = ⊥
  IsInitializer (typed.StructureInitializer value n) u c =
      IsStructure value c × (structure_type c value ≡ Some u) × (n ≡ cells u)
  IsInitializer (typed.ListInitializer items n) (Scalar a) c = ⊥
  IsInitializer (typed.ListInitializer items n) (Array k u) c =
      (n ≡ cells (Array k u)) × (count_of items ≤ k) × AreElements items u c
  IsInitializer (typed.ListInitializer items n) (Structure k ms) c =
      (n ≡ cells (Structure k ms)) × AreMembers items ms c
  IsInitializer (typed.ZeroInitializer e n) u c = (n ≡ cells u) × IsExpression e c

  -- items for the first elements
  pub AreElements : Initializers → ObjectType → Scope → Type 0
  AreElements typed.no_initializers u c = Unit {0}
  AreElements (typed.initializers i rest) u c = IsInitializer i u c × AreElements rest u c

  -- and for the first members
  pub AreMembers : Initializers → Members → Scope → Type 0
  AreMembers typed.no_initializers ms c = Unit {0}
  AreMembers (typed.initializers i rest) no_members c = ⊥
  AreMembers (typed.initializers i rest) (members u ms) c = IsInitializer i u c × AreMembers rest
      ms c

abbrev pub IsInitial : Option Initializer → Option ObjectType → Scope → Type 0
IsInitial None u c = Unit {0}
IsInitial (Some i) None c = ⊥
IsInitial (Some i) (Some u) c = IsInitializer i u c

-- ---- statements (C17 6.8)

abbrev pub IsDeclarator : Declarator → Scope → Type 0
IsDeclarator d c =
    IsSlot c.objects d.slot × (cells_at c.objects d.slot.object ≡ Some d.cells)
    × IsInitial d.value (object_type_at c.objects d.slot.object) c

abbrev pub AreDeclarators : List Declarator → Scope → Type 0
AreDeclarators [] c = Unit {0}
AreDeclarators (d ∷ ds) c = IsDeclarator d c × AreDeclarators ds c

abbrev pub AreClauses : List Effect → Scope → Type 0
AreClauses [] c = Unit {0}
AreClauses (e ∷ es) c = IsEffect e true c × AreClauses es c

abbrev pub IsStart : ForStart → Scope → Type 0
IsStart (typed.StartEffects effects) c = AreClauses effects c
IsStart (typed.StartDeclaration declarators) c = AreDeclarators declarators c

abbrev pub IsTest : Option Expression → Scope → Type 0
IsTest None c = Unit {0}
IsTest (Some e) c = IsExpression e c

abbrev pub IsReturn : ReturnValue → ResultType → Scope → Type 0
IsReturn typed.ReturnNothing typed.NoResult c = Unit {0}
IsReturn typed.ReturnNothing _ c = ⊥
IsReturn (typed.ReturnNumber e) (typed.NumberResult a) c = IsExpression e c × (type_of e ≡ a)
IsReturn (typed.ReturnNumber e) _ c = ⊥
IsReturn (typed.ReturnStructure value n) (typed.StructureResult u) c =
    IsStructure value c × (structure_type c value ≡ Some u) × (n ≡ cells u)
IsReturn (typed.ReturnStructure value n) _ c = ⊥

-- what stands around a statement: whether `break` and `continue` have something to end, and,
-- directly in the body of a `switch`, the promoted type of its controlling expression
pub record Around : Type 0 where
  pub breaks : Bool
  pub continues : Bool
  pub labels : Option IntType

abbrev pub outermost : Around
outermost = record { breaks = false; continues = false; labels = None }

abbrev pub inside : Around → Around
inside w = record w { labels = None }

abbrev pub in_loop : Around
in_loop = record { breaks = true; continues = true; labels = None }

abbrev pub in_switch : Around → IntType → Around
in_switch w a = record { breaks = true; continues = w.continues; labels = Some a }

-- a label has a value of that type (C17 6.8.4.2p5)
abbrev pub IsLabel : Option ℤ → Option IntType → Type 0
IsLabel v None = ⊥
IsLabel None (Some a) = Unit {0}
IsLabel (Some v) (Some a) = InRange a v

-- the labels among the items of a body
abbrev pub labels_of : Statements → List (Option ℤ)
labels_of typed.no_statements = []
labels_of (typed.statements (typed.Label v span) rest) = v ∷ labels_of rest
labels_of (typed.statements _ rest) = labels_of rest

abbrev pub Lacks : Option ℤ → List (Option ℤ) → Type 0
Lacks l [] = Unit {0}
Lacks l (m ∷ ms) = (l ≢ m) × Lacks l ms

-- no two are the same (C17 6.8.4.2p3)
abbrev pub Differ : List (Option ℤ) → Type 0
Differ [] = Unit {0}
Differ (l ∷ ls) = Lacks l ls × Differ ls

abbrev mutual
  pub IsStatement : Statement → Scope → Around → Type 0
  IsStatement (typed.Compound items span) c w = AreStatements items c (inside w)
  IsStatement (typed.Label v span) c w = IsLabel v w.labels
  IsStatement (typed.Declaration declarators span) c w = AreDeclarators declarators c
  IsStatement (typed.Null span) c w = Unit {0}
  IsStatement (typed.EffectStatement effect span) c w = IsEffect effect true c
  IsStatement (typed.If e s keyword span) c w = IsExpression e c × IsStatement s c (inside w)
  IsStatement (typed.IfElse e s u keyword span) c w =
      IsExpression e c × IsStatement s c (inside w) × IsStatement u c (inside w)
  IsStatement (typed.Switch e items keyword span) c w =
      IsExpression e c × (promoted (type_of e) ≡ type_of e)
      × AreStatements items c (in_switch w (type_of e))
      × Differ (labels_of items)
  IsStatement (typed.For start test step s keyword span) c w =
      IsStart start c × IsTest test c × AreClauses step c × IsStatement s c in_loop
  IsStatement (typed.DoWhile s e keyword span) c w = IsStatement s c in_loop × IsExpression e c
  IsStatement (typed.Break span) c w = IsTrue w.breaks
  IsStatement (typed.Continue span) c w = IsTrue w.continues
  IsStatement (typed.Return value span) c w = IsReturn value c.result c

  pub AreStatements : Statements → Scope → Around → Type 0
  AreStatements typed.no_statements c w = Unit {0}
  AreStatements (typed.statements s rest) c w = IsStatement s c w × AreStatements rest c w

-- ---- types and objects

-- an array has an element at least, and a structure's number says what its members are
abbrev mutual
  pub IsFormed : List ObjectType → ObjectType → Type 0
  IsFormed structures (Scalar a) = Unit {0}
  IsFormed structures (Array n u) = (1 ≤ n) × IsFormed structures u
  IsFormed structures (Structure k ms) =
      (slice_get structures k ≡ Some (Structure k ms)) × AreFormed structures ms

  pub AreFormed : List ObjectType → Members → Type 0
  AreFormed structures no_members = Unit {0}
  AreFormed structures (members u ms) = IsFormed structures u × AreFormed structures ms

-- the limits of this profile: the cells, and the arrays and structures inside one another
pub record IsObjectType (structures : List ObjectType) (u : ObjectType) : Type 0 where
  pub formed : IsFormed structures u
  pub small : cells u ≤ most_cells
  pub flat : nesting u ≤ most_nesting

-- objects that lie one after the other from a cell on
abbrev pub AreLaidOut : List ObjectType → ℕ → List Object → Type 0
AreLaidOut structures n [] = Unit {0}
AreLaidOut structures n (o ∷ os) =
    IsObjectType structures o.object_type × (o.cells ≡ cells o.object_type) × (o.start ≡ n)
    × AreLaidOut structures (n + o.cells) os

abbrev pub AreInRange : List IntType → List ℤ → Type 0
AreInRange [] [] = Unit {0}
AreInRange [] (v ∷ vs) = ⊥
AreInRange (a ∷ types) [] = ⊥
AreInRange (a ∷ types) (v ∷ vs) = InRange a v × AreInRange types vs

-- each cell has an initial value of its type
abbrev pub AreInitial : List StaticObject → Type 0
AreInitial [] = Unit {0}
AreInitial (s ∷ ss) = AreInRange (scalars s.object.object_type) s.initial × AreInitial ss

-- the structure type with number k is the one at place k
abbrev pub AreStructures : List ObjectType → ℕ → List ObjectType → Type 0
AreStructures all k [] = Unit {0}
AreStructures all k (Structure n ms ∷ us) =
    (n ≡ k) × IsObjectType all (Structure n ms) × AreStructures all (k + 1) us
AreStructures all k (_ ∷ us) = ⊥

-- ---- functions (C17 6.9.1)

-- the parameters that are objects of the function, and the element types of those that name arrays
abbrev pub values_of : List ParameterType → List ObjectType
values_of [] = []
values_of (typed.NumberParameter a ∷ ps) = Scalar a ∷ values_of ps
values_of (typed.StructureParameter u ∷ ps) = u ∷ values_of ps
values_of (typed.ArrayParameter u ∷ ps) = values_of ps

abbrev pub arrays_of : List ParameterType → List ObjectType
arrays_of [] = []
arrays_of (typed.NumberParameter a ∷ ps) = arrays_of ps
arrays_of (typed.StructureParameter u ∷ ps) = arrays_of ps
arrays_of (typed.ArrayParameter u ∷ ps) = u ∷ arrays_of ps

abbrev pub AreObjectTypes : List ObjectType → List ObjectType → Type 0
AreObjectTypes structures [] = Unit {0}
AreObjectTypes structures (u ∷ us) = IsObjectType structures u × AreObjectTypes structures us

abbrev pub AreParameters : List ParameterType → Type 0
AreParameters [] = Unit {0}
AreParameters (typed.StructureParameter u ∷ ps) = IsStructureType (Some u) × AreParameters ps
AreParameters (_ ∷ ps) = AreParameters ps

abbrev pub IsResult : List ObjectType → ResultType → Type 0
IsResult structures (typed.StructureResult u) = IsObjectType structures u × IsStructureType (Some u)
IsResult structures _ = Unit {0}

-- the first objects have these types
abbrev pub Begins : List ObjectType → List Object → Type 0
Begins [] os = Unit {0}
Begins (u ∷ us) [] = ⊥
Begins (u ∷ us) (o ∷ os) = (o.object_type ≡ u) × Begins us os

-- the slots of objects that are numbered from k on
abbrev pub slots_from : ℕ → List Object → List Slot
slots_from k [] = []
slots_from k (o ∷ os) = record { object = k; start = o.start } ∷ slots_from (k + 1) os

abbrev pub scope_of : Program → Function → Scope
scope_of p f = record {
  functions = p.functions;
  statics = map (λ s. s.object) p.statics;
  objects = f.objects;
  arrays = arrays_of f.parameters;
  result = f.result;
}

pub record IsFunction (p : Program) (f : Function) : Type 0 where
  pub few : length f.parameters ≤ most_parameters
  pub parameters : AreParameters f.parameters
  pub arrays : AreObjectTypes p.structures (arrays_of f.parameters)
  pub result : IsResult p.structures f.result
  -- The objects are the parameters that are no arrays, and then those of the body, each named once.
  pub begins : Begins (values_of f.parameters) f.objects
  pub laid : AreLaidOut p.structures 0 f.objects
  pub named :
      slots_statements f.body ≡ drop (length (values_of f.parameters)) (slots_from 0 f.objects)
  pub frame : frame_of f ≤ most_frame_cells
  pub body : AreStatements f.body (scope_of p f) outermost

abbrev pub AreFunctions : Program → List Function → Type 0
AreFunctions p [] = Unit {0}
AreFunctions p (f ∷ fs) = IsFunction p f × AreFunctions p fs

-- ---- programs

pub record IsSound (p : Program) : Type 0 where
  pub functions : AreFunctions p p.functions
  pub statics : AreLaidOut p.structures 0 (map (λ s. s.object) p.statics)
  pub initial : AreInitial p.statics
  pub static_room : static_cells p ≤ most_static_cells
  pub structures : AreStructures p.structures 0 p.structures
  -- fewer than 2^31 of each
  pub functions_few : length p.functions < 2 ^ 31
  pub statics_few : length p.statics < 2 ^ 31
  pub structures_few : length p.structures < 2 ^ 31
