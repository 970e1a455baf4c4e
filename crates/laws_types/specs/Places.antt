-- What names, elements, members and calls stand for: which object, which part and after how many
-- cells it begins, and which function with which arguments, in their order (C17 6.2.1, 6.5.1 and
-- 6.5.2). The numbers were worked out by hand.
use Rattle.std.specs.Prelude.{◌≡◌, ℕ, pos, false, List, [], ◌∷◌, ◌++◌, map, codes, Some, None, option_and_then}
use Rattle.mc_tree.specs.Tree as tree
use Rattle.mc_value.specs.declared.int_type.IntType.TheVariants.{Char, Int, Long}
use Rattle.mc_typed.specs.declared.expressions.Slot.{Slot}
use Rattle.mc_typed.specs.Layout as layout
use Rattle.mc_typed.specs.Tree as typed
use Rattle.types_rules.specs.Types.{CType, Structure, Complete, Integer, Tagged, Void, int, plain, ByValue, ByArray}
use Rattle.types_rules.specs.Scopes.{Entry, Scope, Meaning, Automatic, Stored, Borrowed, Constant, Function}
use Rattle.types_rules.specs.Values.{number_found, effect_in}
use Rattle.types_rules.specs.Judgement.{judge}
use Rattle.laws_types.specs.Written.{here, there, scope, named, digit, read, read_as}

-- ---- more names

abbrev pub slot : ℕ → Slot
slot k = record { object = k; start = k }

abbrev pub called : List ℕ → Meaning → Entry
called name meaning = record { name = name; meaning = meaning }

-- int [n]..
abbrev pub ints : List ℕ → CType
ints lengths = record int { lengths = lengths }

-- struct S{int a;long b[2];int c;}
abbrev pub structure : Structure
structure = Complete (
    record { name = codes "a"; member_type = Some int; layout = layout.Scalar Int }
    ∷ record {
      name = codes "b";
      member_type = Some (record (plain (Integer Long)) { lengths = 2 ∷ [] });
      layout = layout.Array 2 (layout.Scalar Long);
    }
    ∷ record { name = codes "c"; member_type = Some int; layout = layout.Scalar Int } ∷ [])

-- The functions `f(long,struct S,int [])` and `v(void)` have the numbers 1 and 2, and one before them
-- has 0. Of the two `z` the later one is the inner one. `p` is the second array parameter.
abbrev pub more : List Entry
more =
    called (codes "s") (Automatic (slot 20) (Some (plain (Tagged 0))))
    ∷ called (codes "t") (Automatic (slot 21) (Some (record (plain (Tagged 0)) { lengths = 3 ∷ [] })))
    ∷ called (codes "x") (Automatic (slot 22) (Some (ints (6 ∷ []))))
    ∷ called (codes "m") (Stored (slot 1) (Some (ints (2 ∷ 5 ∷ []))))
    ∷ called (codes "p") (Borrowed 1 (ints (4 ∷ [])))
    ∷ called (codes "z") (Automatic (slot 30) (Some int))
    ∷ called (codes "z") (Automatic (slot 31) (Some int))
    ∷ called (codes "E") (Constant (Some (pos 7)))
    ∷ called (codes "f") (Function (Some (record {
      result = Integer Int;
      parameters = ByValue (Integer Long) ∷ ByValue (Tagged 0) ∷ ByArray int ∷ [];
    })) false)
    ∷ called (codes "v") (Function (Some (record { result = Void; parameters = [] })) false)
    ∷ called (codes "mcdc_in") (Function (Some (record { result = Integer Int; parameters = [] })) false)
    ∷ called (codes "mcdc_out")
    (Function (Some (record { result = Void; parameters = ByValue (Integer Int) ∷ [] })) false)
    ∷ []

abbrev pub around : Scope
around = record scope {
  names = scope.names ++ more;
  structures = structure ∷ [];
  bodies = codes "e" ∷ codes "f" ∷ codes "v" ∷ [];
}

-- ---- what is written

abbrev pub the : List ℕ → tree.Expression
the text = tree.Named (record { text = text; span = here })

abbrev pub element : tree.Expression → tree.Expression → tree.Expression
element a i = tree.Index a i there

abbrev pub member : tree.Expression → List ℕ → tree.Expression
member a text = tree.Member a (record { text = text; span = here }) there

abbrev pub all : List tree.Expression → tree.Expressions
all [] = tree.no_expressions
all (e ∷ rest) = tree.expressions e (all rest)

abbrev pub call : List ℕ → List tree.Expression → tree.Expression
call text given = tree.Call (record { text = text; span = here }) (all given) there

-- `a` to `l` are the objects of `Written`
abbrev pub written : List tree.Expression
written =
    the (codes "z")
    ∷ the (codes "E")
    ∷ tree.Character (pos 97) here
    ∷ element (the (codes "x")) (named Int)
    ∷ element (element (the (codes "m")) (named Int)) (named Long)
    ∷ element (element (the (codes "p")) (named Char)) (digit 3)
    ∷ member (the (codes "s")) (codes "a")
    ∷ member (the (codes "s")) (codes "c")
    ∷ element (member (the (codes "s")) (codes "b")) (digit 1)
    ∷ member (element (the (codes "t")) (digit 2)) (codes "c")
    ∷ call (codes "mcdc_in") []
    ∷ call (codes "f") (named Int ∷ element (the (codes "t")) (digit 2) ∷ the (codes "x") ∷ [])
    ∷ []

-- ---- what it stands for

abbrev pub local : ℕ → typed.Place
local k = typed.Local (slot k) here

abbrev pub number : ℕ → typed.Expression
number n = typed.Constant (pos n) Int here

-- t[2]
abbrev pub third : typed.Place
third = typed.Item (local 21) 3 4 (number 2) there

abbrev pub meant : List typed.Expression
meant =
    typed.Read (local 31) Int
    ∷ number 7
    ∷ number 97
    ∷ typed.Read (typed.Item (local 22) 6 1 (read Int) there) Int
    ∷ typed.Read (typed.Item (typed.Item (typed.Static (slot 1) here) 2 5 (read Int) there) 5 1
    (read Long) there) Int
    ∷ typed.Read (typed.Item (typed.Parameter 1 4 (read Char) there) 4 1 (number 3) there) Int
    ∷ typed.Read (typed.Member (local 20) 0 0 there) Int
    ∷ typed.Read (typed.Member (local 20) 2 3 there) Int
    ∷ typed.Read (typed.Item (typed.Member (local 20) 1 1 there) 2 1 (number 1) there) Long
    ∷ typed.Read (typed.Member third 2 3 there) Int
    ∷ typed.Input there
    ∷ typed.Call (typed.call 1 (typed.arguments (typed.NumberArgument (read_as Long Int))
    (typed.arguments (typed.StructureArgument (typed.Stored third)
    (record { object = 0; start = 0 }))
    (typed.arguments (typed.ArrayArgument (local 22) 6) typed.no_arguments))) None there) Int
    ∷ []

abbrev pub effects : List tree.Expression
effects = call (codes "v") [] ∷ call (codes "mcdc_out") (named Char ∷ []) ∷ []

abbrev pub meant_effects : List typed.Effect
meant_effects =
    typed.CallEffect (typed.call 2 typed.no_arguments None there)
    ∷ typed.Output (read_as Int Char) there ∷ []

-- ---- the laws

abbrev pub NamesAreResolved : Type 0
NamesAreResolved = map (λ e. number_found (judge e around)) written ≡ map Some meant

abbrev pub CallsAreResolved : Type 0
CallsAreResolved =
    map (λ e. option_and_then effect_in (judge e around).value) effects ≡ map Some meant_effects
