-- What is found at a node: its faults, what it stands for in the typed program where it has a type,
-- and the scope after it.
use Rattle.std.specs.Prelude.{ℕ, ◌==◌, Bool, true, false, not, if◌then◌else◌, List, ◌++◌, [], ◌∷◌, Option, Some, None, option_map, option_and_then}
use Rattle.mc_span.specs.declared.span.Span.{Span}
use Rattle.mc_tree.specs.Tree.{Expression, Parenthesized}
use Rattle.mc_tree.specs.Tree as tree
use Rattle.mc_typed.specs.Tree.{Place, StructureValue, FunctionCall, Effect}
use Rattle.mc_typed.specs.Tree as typed
use Rattle.types_faults.specs.declared.fault.Fault.{Fault}
use Rattle.types_faults.specs.declared.fault.FaultKind.TheVariants.{Mismatch}
use Rattle.types_faults.specs.Faults.{fault_if}
use Rattle.types_rules.specs.Types.{Base, Void, Integer, Tagged, CType}
use Rattle.types_rules.specs.Scopes.{Scope}

-- ---- judgements

-- of anything but an expression
pub record Judged (A : Type 0) : Type 0 where
  pub faults : List Fault
  pub value : Option A
  pub scope : Scope

abbrev pub judged : {A : Type 0} → List Fault → Option A → Scope → Judged A
judged faults value s = record { faults = faults; value = value; scope = s }

-- with this scope after it
abbrev pub with_scope : {A : Type 0} → Scope → Judged A → Judged A
with_scope s x = record x { scope = s }

abbrev pub lift2 : {A B C : Type 0} → (A → B → C) → Option A → Option B → Option C
lift2 f (Some a) (Some b) = Some (f a b)
lift2 f (Some a) None = None
lift2 f None b = None

abbrev pub lift3 : {A B C D : Type 0} → (A → B → C → D) → Option A → Option B → Option C → Option D
lift3 f (Some a) b c = lift2 (f a) b c
lift3 f None b c = None

-- ---- values

-- an expression with a type
pub data Value : Type 0 where
  -- an integer that is not stored in an object
  Number : typed.Expression → Value
  -- an object or a part of one, and its type
  Stored : Place → CType → Value
  -- the array that an array parameter names: its number, the type of its elements
  Borrowed : ℕ → CType → Span → Value
  -- a structure that a call returns, and its number
  Returned : FunctionCall → ℕ → Value
  -- a void expression
  Done : Effect → Value
  -- an assignment or a step, which is used for nothing else
  Assigned : Effect → Value
  -- the name of a function
  Designator : Value

-- which kind of type an expression has
pub data Kind : Type 0 where
  IsVoid : Kind
  IsAssignment : Kind
  IsInteger : Kind
  IsStructure : ℕ → Kind
  -- an array, with the type of its elements
  IsArray : CType → Kind
  IsFunction : Kind

abbrev pub kind_of_base : Base → Kind
kind_of_base Void = IsVoid
kind_of_base (Integer a) = IsInteger
kind_of_base (Tagged k) = IsStructure k

abbrev pub kind_of_object : CType → List ℕ → Kind
kind_of_object u [] = kind_of_base u.base
kind_of_object u (n ∷ ns) = IsArray (record u { lengths = ns })

abbrev pub kind_of : Value → Kind
kind_of (Number e) = IsInteger
kind_of (Stored place u) = kind_of_object u u.lengths
kind_of (Borrowed array element span) = IsArray element
kind_of (Returned c k) = IsStructure k
kind_of (Done effect) = IsVoid
kind_of (Assigned effect) = IsAssignment
kind_of Designator = IsFunction

-- what is found of an expression: also, whether it designates an object, and whether it is built as
-- an integer constant expression (C17 6.3.2.1p1, 6.6p6); where a name or a type in it is missing,
-- whether it may be
pub record Found : Type 0 where
  pub faults : List Fault
  pub value : Option Value
  pub place : Bool
  pub constant : Bool
  pub scope : Scope

abbrev pub kind_found : Found → Option Kind
kind_found x = option_map kind_of x.value

-- ---- nodes: the faults of the parts, joined, and then the node's own

abbrev pub judged_one : {A B : Type 0} → List Fault → Option B → Judged A → Judged B
judged_one own value x = judged (x.faults ++ own) value x.scope

abbrev pub judged_two : {A B C : Type 0} → List Fault → Option C → Judged A → Judged B → Judged C
judged_two own value x y = judged (x.faults ++ (y.faults ++ own)) value y.scope

abbrev pub judged_three : {A B C D : Type 0} → List Fault → Option D → Judged A → Judged B
    → Judged C → Judged D
judged_three own value x y z =
    judged (x.faults ++ (y.faults ++ (z.faults ++ own))) value z.scope

abbrev pub judged_four : {A B C D E : Type 0} → List Fault → Option E → Judged A → Judged B
    → Judged C → Judged D → Judged E
judged_four own value x y z w =
    judged (x.faults ++ (y.faults ++ (z.faults ++ (w.faults ++ own)))) value w.scope

-- an expression as a part
abbrev pub part : Found → Judged Value
part x = judged x.faults x.value x.scope

-- an expression: whether it is a place, whether it is built as a constant
abbrev pub found : Bool → Bool → Judged Value → Found
found place constant x = record {
  faults = x.faults;
  value = x.value;
  place = place;
  constant = constant;
  scope = x.scope;
}

-- ---- tests on the kinds of parts, where they are known

abbrev pub is_integer : Kind → Bool
is_integer IsInteger = true
is_integer _ = false

abbrev pub is_array : Kind → Bool
is_array (IsArray element) = true
is_array _ = false

abbrev pub is_structure : Kind → Bool
is_structure (IsStructure k) = true
is_structure _ = false

-- An array and the name of a function stand in no statement of their own (C17 6.3.2.1p3, p4) and
-- under no cast to void, where no assignment stands either.
abbrev pub is_effect : Kind → Bool
is_effect (IsArray element) = false
is_effect IsFunction = false
is_effect _ = true

abbrev pub is_discarded : Kind → Bool
is_discarded IsAssignment = false
is_discarded k = is_effect k

-- its kind is known, and the test does not hold of it
abbrev pub fails : (Kind → Bool) → Option Kind → Bool
fails test None = false
fails test (Some k) = not (test k)

-- an operand that is known to be no integer
abbrev pub integer_faults : ℕ → Option Kind → List Fault
integer_faults at k = fault_if (fails is_integer k) Mismatch at

-- ---- parts of the typed tree

-- the value of an object (C17 6.3.2.1p2)
abbrev pub number_stored : Place → Base → List ℕ → Option typed.Expression
number_stored place (Integer a) [] = Some (typed.Read place a)
number_stored place _ _ = None

abbrev pub number_in : Value → Option typed.Expression
number_in (Number e) = Some e
number_in (Stored place u) = number_stored place u.base u.lengths
number_in _ = None

abbrev pub structure_stored : ℕ → Place → Base → List ℕ → Option StructureValue
structure_stored k place (Tagged j) [] = if j == k then Some (typed.Stored place) else None
structure_stored k place _ _ = None

-- a structure of the type with this number
abbrev pub structure_in : ℕ → Value → Option StructureValue
structure_in k (Stored place u) = structure_stored k place u.base u.lengths
structure_in k (Returned c j) = if j == k then Some (typed.Returned c) else None
structure_in k _ = None

abbrev pub any_structure_in : Kind → Value → Option StructureValue
any_structure_in (IsStructure k) v = structure_in k v
any_structure_in _ v = None

abbrev pub number_found : Found → Option typed.Expression
number_found x = option_and_then number_in x.value

abbrev pub structure_found : ℕ → Found → Option StructureValue
structure_found k x = option_and_then (structure_in k) x.value

-- ---- expressions that are evaluated for their effects (C17 6.8.3)

abbrev pub value_effect : Option typed.Expression → Option StructureValue → Option Effect
value_effect (Some e) value = Some (typed.NumberEffect e false)
value_effect None (Some value) = Some (typed.StructureEffect value false)
value_effect None None = None

abbrev pub discarded_in : Value → Option Effect
discarded_in (Done effect) = Some effect
discarded_in v = value_effect (number_in v) (any_structure_in (kind_of v) v)

abbrev pub effect_in : Value → Option Effect
effect_in (Assigned effect) = Some effect
effect_in v = discarded_in v

-- As a whole expression statement or clause of a `for`, perhaps under casts to void, an effect does
-- not use the value of a call.
abbrev pub whole : Effect → Effect
whole (typed.NumberEffect e b) = typed.NumberEffect e true
whole (typed.StructureEffect value b) = typed.StructureEffect value true
whole (typed.Discard effect span) = typed.Discard (whole effect) span
whole (typed.Assign target a e span) = typed.Assign target a e span
whole (typed.Update target a operator common e span) = typed.Update target a operator common e span
whole (typed.Copy target value n span) = typed.Copy target value n span
whole (typed.CallEffect c) = typed.CallEffect c
whole (typed.Output e span) = typed.Output e span
whole (typed.ChoiceEffect e a b span) = typed.ChoiceEffect e a b span

-- where an expression starts inside the parentheses round it
abbrev pub bare_start : Expression → ℕ
bare_start (Parenthesized inner span) = bare_start inner
bare_start e = (tree.span_of e).start

-- what an expression statement, and a cast to void, has to be, at the expression itself
abbrev pub effect_faults : Expression → Option Kind → List Fault
effect_faults e k = fault_if (fails is_effect k) Mismatch (bare_start e)

abbrev pub discarded_faults : Expression → Option Kind → List Fault
discarded_faults e k = fault_if (fails is_discarded k) Mismatch (bare_start e)
