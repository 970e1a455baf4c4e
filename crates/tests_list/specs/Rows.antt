-- Listings that were written out by hand.
use Rattle.std.specs.Prelude.{◌≡◌, ℕ, List, [], ◌∷◌, codes}
use Rattle.std.specs.List.{concat}
use Rattle.mc_oblige.specs.declared.verdict.VerdictState.TheVariants.{Met, Justified, Stale, Missing}
use Rattle.mc_list.specs.Lines.{stripped}
use Rattle.tests_list.specs.Words.{IsListed}

-- the entry, the exit and the statement, the outcomes and the conditions of `a&&b`; of two tests of
-- three the second condition is missing
abbrev pub line : List ℕ
line = codes "int f(int a,int b){return a&&b;}"

abbrev pub OneLine : Type 0
OneLine =
    IsListed line
    ((4, Met) ∷ (19, Met) ∷ (19, Met) ∷ (26, Met) ∷ (26, Met) ∷ (26, Met) ∷ (29, Met) ∷ [])
    (codes "      1 + | int f(int a,int b){return a&&b;}")
    × IsListed line
    ((4, Met) ∷ (19, Met) ∷ (19, Met) ∷ (26, Met) ∷ (26, Met) ∷ (26, Met) ∷ (29, Missing) ∷ [])
    (codes "      1 ! | int f(int a,int b){return a&&b;}")

-- a line on which nothing starts, then one with each verdict, and with worse ones on the same line,
-- after it and before it
abbrev pub Marked : Type 0
Marked =
    IsListed (codes "a\nbc\nd\nef\ng\n")
    ((2, Met) ∷ (5, Justified) ∷ (7, Stale) ∷ (10, Missing) ∷ [])
    (codes "      1   | a\n      2 + | bc\n      3 j | d\n      4 ~ | ef\n      5 ! | g\n")
    × IsListed (codes "a\nbc\nd\nef\ng\n")
    ((3, Met) ∷ (2, Justified) ∷ (5, Justified) ∷ (5, Stale) ∷ (8, Stale) ∷ (7, Missing) ∷ [])
    (codes "      1   | a\n      2 j | bc\n      3 ~ | d\n      4 ! | ef\n      5   | g\n")
    × IsListed (codes "a\nbc\n")
    ((0, Stale) ∷ (0, Justified) ∷ (2, Missing) ∷ (3, Met) ∷ [])
    (codes "      1 ~ | a\n      2 ! | bc\n")
    × IsListed [] [] []

-- CR LF, a line without bytes but LF, no last LF, and bytes above 127
abbrev pub LineEnds : Type 0
LineEnds =
    IsListed (97 ∷ 13 ∷ 10 ∷ 10 ∷ 195 ∷ 169 ∷ 13 ∷ [])
    ((0, Met) ∷ (4, Missing) ∷ [])
    (concat (codes "      1 + | a" ∷ (13 ∷ 10 ∷ []) ∷ codes "      2   | \n      3 ! | "
    ∷ (195 ∷ 169 ∷ 13 ∷ [])
    ∷ []))
    × (stripped (codes "      1 + | a\n      2   |\nshort\n")
    ≡ codes "a\n" ∷ [] ∷ [] ∷ [])
