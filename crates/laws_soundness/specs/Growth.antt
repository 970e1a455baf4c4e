-- What stays of what is declared so far.
use Rattle.std.specs.Prelude.{◌≡◌, ℕ, ◌<◌, Bool, false, List, [], ◌∷◌, ◌++◌, slice_get, Some}
use Rattle.mc_tree.specs.Tree.{Expression, Specifiers}
use Rattle.mc_typed.specs.Tree.{Object, StaticObject}
use Rattle.types_rules.specs.Types.{Structure, Incomplete}
use Rattle.types_rules.specs.Scopes.{Entry, Meaning, Stored, Function, Scope}
use Rattle.types_rules.specs.Judgement.{judge, judge_specifiers}

-- the second list begins with the first
abbrev pub Begins : (A : Type 0) → List A → List A → Type 0
Begins A xs ys = (more : List A) × (ys ≡ xs ++ more)

-- A structure that is incomplete, and whose list has not begun, may get a list.
abbrev pub IsSettled : Structure → Type 0
IsSettled (Incomplete false) = ⊥
IsSettled _ = Unit {0}

-- any other structure stays as it is
abbrev pub Kept : List Structure → List Structure → Type 0
Kept all more =
    (k : ℕ) (x : Structure) → slice_get all k ≡ Some x → IsSettled x → slice_get more k ≡ Some x

-- an object with static storage duration that a name means is one of the first so many
abbrev pub IsBelow : ℕ → Meaning → Type 0
IsBelow n (Stored slot u) = slot.object < n
IsBelow n _ = Unit {0}

abbrev pub AreBelow : ℕ → List Entry → Type 0
AreBelow n [] = Unit {0}
AreBelow n (e ∷ es) = IsBelow n e.meaning × AreBelow n es

-- a name that means no function
abbrev pub MeansNoFunction : Meaning → Type 0
MeansNoFunction (Function f has_body) = ⊥
MeansNoFunction _ = Unit {0}

abbrev pub NameNoFunction : List Entry → Type 0
NameNoFunction [] = Unit {0}
NameNoFunction (e ∷ es) = MeansNoFunction e.meaning × NameNoFunction es

-- the second list has more names than the first, but none that means a function
abbrev pub AddsNoFunction : List Entry → List Entry → Type 0
AddsNoFunction xs ys = (more : List Entry) × (ys ≡ xs ++ more) × NameNoFunction more

-- after an expression or an initializer
pub record Grown (s t : Scope) : Type 0 where
  pub names : Begins Entry s.names t.names
  pub functions : AddsNoFunction s.names t.names
  pub structures : Kept s.structures t.structures
  pub statics : t.statics ≡ s.statics
  pub static_cells : t.static_cells ≡ s.static_cells
  pub below : (n : ℕ) → AreBelow n s.names → AreBelow n t.names
  pub objects : Begins Object s.objects t.objects
  pub bodies : t.bodies ≡ s.bodies
  pub names_from : t.names_from ≡ s.names_from
  pub is_file : t.is_file ≡ s.is_file
  pub labels : t.labels ≡ s.labels
  pub arrays : t.arrays ≡ s.arrays

-- after a declaration
pub record Extended (s t : Scope) : Type 0 where
  pub names : Begins Entry s.names t.names
  pub structures : Kept s.structures t.structures
  pub statics : Begins StaticObject s.statics t.statics
  pub objects : Begins Object s.objects t.objects
  pub bodies : t.bodies ≡ s.bodies
  pub names_from : t.names_from ≡ s.names_from
  pub is_file : t.is_file ≡ s.is_file
  pub labels : t.labels ≡ s.labels

-- after a statement
pub record Passed (s t : Scope) : Type 0 where
  pub names : Begins Entry s.names t.names
  pub structures : Kept s.structures t.structures
  pub statics : Begins StaticObject s.statics t.statics
  pub objects : Begins Object s.objects t.objects
  pub bodies : t.bodies ≡ s.bodies

-- ---- laws

abbrev pub ExpressionsGrow : Type 0
ExpressionsGrow =
    ((e : Expression) (s : Scope) → Grown s (judge e s).scope)
    × ((alone : Bool) (all : Specifiers) (s : Scope) → Grown s (judge_specifiers alone all s).scope)
