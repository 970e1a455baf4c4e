-- The tests file of the generated source: each function is called with each choice of four
-- arguments from 0 and 1.
use Rattle.std.specs.Prelude.{ℕ, List, ◌++◌, codes}
use Rattle.std.specs.Int.{bit_at}
use Rattle.std.specs.List.{flat_map, range_with_len}
use Rattle.std.specs.Fmt.{decimal}
use Rattle.mc_gen.specs.Source.{numbers}

-- the binary digits of the test's number, the lowest first
abbrev pub arguments_of : ℕ → List ℕ
arguments_of j =
    decimal (bit_at j 0) ++ (codes " " ++ (decimal (bit_at j 1) ++ (codes " "
    ++ (decimal (bit_at j 2) ++ (codes " " ++ decimal (bit_at j 3))))))

-- test j of function k
abbrev pub test_line : ℕ → ℕ → List ℕ
test_line k j =
    codes "g" ++ (decimal k ++ (codes "_" ++ (decimal j ++ (codes ",g" ++ (decimal k ++ (codes ","
    ++ (arguments_of j ++ codes ",,,\n")))))))

-- the tests of function k, from 0 on
abbrev pub lines_of : ℕ → List ℕ
lines_of k = flat_map (test_line k) (range_with_len 0 16)

abbrev pub tests_text : ℕ → List ℕ
tests_text n =
    codes "test,call,arguments,inputs,expect,output\n" ++ flat_map lines_of (numbers n)
