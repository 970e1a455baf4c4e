-- What is found of a node without a fault is sound, in every scope that fits the program in the
-- end.
use Rattle.std.specs.Prelude.{◌≡◌, ◌≢◌, ℕ, ◌<◌, ◌^◌, Bool, true, false, List, [], ◌∷◌, length, Some, None}
use Rattle.mc_tree.specs.Tree.{Expression, Specifiers, Initializer, BlockItems, ParameterList, Item}
use Rattle.mc_tree.specs.Length.{token_count}
use Rattle.mc_typed.specs.Sound.{IsSound}
use Rattle.mc_typed.specs.Sound as sound
use Rattle.mc_typed.specs.Tree.{Function, Program}
use Rattle.mc_subset.specs.Nodes.{nodes_of_unit}
use Rattle.mc_subset.specs.Forms.{first_outside}
use Rattle.types_rules.specs.Types.{CType, is_complete, layout_of, any_is_no_word}
use Rattle.types_rules.specs.Scopes.{Scope}
use Rattle.types_rules.specs.Judgement.{judge, judge_specifiers, judge_parameter_list}
use Rattle.types_rules.specs.Initializers.{judge_initializer}
use Rattle.types_rules.specs.Statements.{Around}
use Rattle.types_rules.specs.Bodies.{judge_block}
use Rattle.types_rules.specs.Typing.{HasTyping, IsTypingOf, typing_of}
use Rattle.laws_soundness.specs.Growth.{AreBelow}
use Rattle.laws_soundness.specs.Blocks.{BlockHasNoFunction}
use Rattle.laws_soundness.specs.Plain.{IsPlainProgram}
use Rattle.laws_soundness.specs.Fits.{World, IsTypeIn, Fits, Ends, IsWell, AreTyped, IsInitialized, IsAround, IsRun, ArraysEnd, AreParametersFound}

abbrev pub ExpressionsAreSound : Type 0
ExpressionsAreSound =
    (w : World) (e : Expression) (s : Scope) → Fits w s → Ends w (judge e s).scope
    → (judge e s).faults ≡ [] → IsWell w s (judge e s)

abbrev pub SpecifiersAreSound : Type 0
SpecifiersAreSound =
    (w : World) (alone : Bool) (all : Specifiers) (s : Scope) → Fits w s
    → Ends w (judge_specifiers alone all s).scope → (judge_specifiers alone all s).faults ≡ []
    → AreTyped w s (any_is_no_word all) (judge_specifiers alone all s)

abbrev pub InitializersAreSound : Type 0
InitializersAreSound =
    (w : World) (static : Bool) (u : CType) (i : Initializer) (s : Scope) → Fits w s
    → is_complete s.structures u.base ≡ true → IsTypeIn w.structures (layout_of s.structures u)
    → Ends w (judge_initializer static (Some u) i s).scope
    → (judge_initializer static (Some u) i s).faults ≡ []
    → IsInitialized w static s u (judge_initializer static (Some u) i s)

-- Of a function's body: its statements are sound, its objects are those that they name, each once
-- and in the order of the text, and the labels of each `switch` differ.
abbrev pub BodiesAreSound : Type 0
BodiesAreSound =
    (w : World) (a : Around) (v : sound.Around) (items : BlockItems) (s : Scope)
    → BlockHasNoFunction items → a.is_body ≡ false → IsAround w a v s → Fits w s
    → AreBelow (length s.statics) s.names → Ends w (judge_block a items s).scope
    → (judge_block a items s).faults ≡ [] → IsRun w v s (judge_block a items s)

-- Of a list of parameters: each takes something, and those that are no arrays have objects of their
-- types, in their order.
abbrev pub ParametersAreSound : Type 0
ParametersAreSound =
    (w : World) (ps : ParameterList) (s : Scope) → Fits w s → AreBelow (length s.statics) s.names
    → Ends w (judge_parameter_list ps s).scope → ArraysEnd w s (judge_parameter_list ps s).items
    → (judge_parameter_list ps s).faults ≡ [] → AreParametersFound w s (judge_parameter_list ps s)

-- ---- units

-- no node of a unit has an outside form
abbrev pub IsAccepted : List Item → Type 0
IsAccepted items = first_outside (nodes_of_unit items) ≡ None

-- fewer than 2^31 of each
pub record IsFew (p : Program) : Type 0 where
  pub functions : length p.functions < 2 ^ 31
  pub statics : length p.statics < 2 ^ 31
  pub structures : length p.structures < 2 ^ 31

-- An accepted unit with a typing has a typed program.
abbrev pub UnitsAreTyped : Type 0
UnitsAreTyped =
    (items : List Item) → IsAccepted items → HasTyping items
    → (p : Program) × (typing_of items ≡ Some p)

-- It is sound.
abbrev pub UnitsAreSound : Type 0
UnitsAreSound =
    (items : List Item) (p : Program) → IsAccepted items → IsTypingOf items p → IsFew p → IsSound p

-- There are no more than tokens.
abbrev pub UnitsAreFew : Type 0
UnitsAreFew =
    (items : List Item) (p : Program) → IsTypingOf items p → token_count items < 2 ^ 31 → IsFew p

-- no function of a list has this name
abbrev pub LacksName : List ℕ → List Function → Type 0
LacksName name [] = Unit {0}
LacksName name (f ∷ fs) = (f.name ≢ name) × LacksName name fs

abbrev pub NamesDiffer : List Function → Type 0
NamesDiffer [] = Unit {0}
NamesDiffer (f ∷ fs) = LacksName f.name fs × NamesDiffer fs

-- No two of its functions have one name (C17 6.9p3, p5).
abbrev pub FunctionNamesDiffer : Type 0
FunctionNamesDiffer =
    (items : List Item) (p : Program) → IsTypingOf items p → NamesDiffer p.functions

-- In a typed program no implied conversion stands on what is compared with 0, and each list that
-- sets an object to 0 holds a constant of value 0.
abbrev pub UnitsArePlain : Type 0
UnitsArePlain = (items : List Item) (p : Program) → typing_of items ≡ Some p → IsPlainProgram p
