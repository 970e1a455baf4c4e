-- The generated source: functions g1, g2 and so on, each in a line of its own.
use Rattle.std.specs.Prelude.{ℕ, ◌%◌, List, [], ◌∷◌, ◌++◌, codes, slice_index_or}
use Rattle.std.specs.List.{flat_map, range_with_len}
use Rattle.std.specs.Fmt.{decimal}

-- what a function asks in its loop, by its number modulo 4, from 0 on
abbrev pub conditions : List (List ℕ)
conditions =
    codes "!(a<b&&b<c)||c<d" ∷ codes "a<b&&c<d" ∷ codes "a<b||c<d" ∷ codes "(a<b||b<c)&&c<d" ∷ []

abbrev pub condition_of : ℕ → List ℕ
condition_of k = slice_index_or conditions (k % 4) []

abbrev pub function_line : ℕ → List ℕ
function_line k =
    codes "int g" ++ (decimal k
    ++ (codes "(int a,int b,int c,int d){int s=0;int i;for(i=0;i<8;i++){if(" ++ (condition_of k
    ++ codes ")s++;}return s;}\n")))

-- the numbers of n functions
abbrev pub numbers : ℕ → List ℕ
numbers n = range_with_len 1 n

abbrev pub source_text : ℕ → List ℕ
source_text n = flat_map function_line (numbers n)
