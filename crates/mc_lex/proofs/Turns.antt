-- One turn of a loop of the lexer.
use Rattle.std.proofs.Common.{◌≡◌, ℕ, ◌+◌, ◌*◌, ◌^◌, ◌<◌, ◌≤◌, Bool, true, false, cond, nat_lt, List, [], ◌∷◌, length, Some, None, refl, ap, sym, ◌∙◌, arith}
use Rattle.std.proofs.lemmas.Bool.Decides.{nat_tests}
use Rattle.std.proofs.Math.Nat.{le-mul_of_pos_right}
use Rattle.std.specs.Char.{digit_value}
use Rattle.std.specs.Str.Parse.{digits_value_after}
use Rattle.mc_lex.specs.steps.Scanner.{close_from, if_fits}

-- no comment ends in less than two bytes
pub close_short : (n : ℕ) (bs : List ℕ) → length bs < 2 → close_from n bs ≡ None
close_short n [] h = refl
close_short n (a ∷ []) h = refl
close_short n (a ∷ b ∷ bs) h = absurd (omega arith)

-- ---- values of digits

-- a number grows with each digit
times : (n radix : ℕ) → 1 ≤ radix → n ≤ n * radix
times n radix h = le-mul_of_pos_right n (omega arith)

grows : (radix n : ℕ) (ds : List ℕ) → 1 ≤ radix → n ≤ digits_value_after radix n ds
grows radix n [] h = omega arith
grows radix n (d ∷ ds) h = omega (arith, times n radix h, grows radix (n * radix + digit_value d) ds h)

too_great : (n : ℕ) → if_fits n ≡ None → 2 ^ 64 ≤ n
too_great n e = by_test (nat_lt n (2 ^ 64)) refl e
  where
    by_test : (t : Bool) → nat_lt n (2 ^ 64) ≡ t → cond t (Some n) None ≡ None → 2 ^ 64 ≤ n
    by_test true h f = absurd (cc)
    by_test false h f = grind (arith, nat_tests)

none_fits : (n : ℕ) → 2 ^ 64 ≤ n → if_fits n ≡ None
none_fits n h = let no_test : nat_lt n (2 ^ 64) ≡ false = grind (arith, nat_tests) in rw no_test refl

-- a value that 64 bits do not hold is never held again
pub never_fits : (radix n : ℕ) (d : ℕ) (ds : List ℕ) → 1 ≤ radix → if_fits (n * radix + digit_value d) ≡ None → None ≡ if_fits (digits_value_after radix n (d ∷ ds))
never_fits radix n d ds h e = sym (none_fits _ (omega (arith, too_great _ e, grows radix (n * radix + digit_value d) ds h)))

pub fits : (n m : ℕ) → if_fits n ≡ Some m → n ≡ m
fits n m e = by_test (nat_lt n (2 ^ 64)) e
  where
    by_test : (t : Bool) → cond t (Some n) None ≡ Some m → n ≡ m
    by_test true f = cc
    by_test false f = absurd (cc)

pub all_read : (radix n : ℕ) (ds : List ℕ) → length ds < 1 → digits_value_after radix n ds ≡ n
all_read radix n [] h = refl
all_read radix n (d ∷ ds) h = absurd (omega arith)

pub still_fits : (n m : ℕ) → Some m ≡ if_fits n → m < 2 ^ 64
still_fits n m e = by_test (nat_lt n (2 ^ 64)) refl e
  where
    by_test : (t : Bool) → nat_lt n (2 ^ 64) ≡ t → Some m ≡ cond t (Some n) None → m < 2 ^ 64
    by_test true h f = let same : m ≡ n = cc in let less : n < 2 ^ 64 = grind (arith, nat_tests) in omega arith
    by_test false h f = absurd (cc)

pub some_fits : (n : ℕ) → n < 2 ^ 64 → Some n ≡ if_fits n
some_fits n h = let test : nat_lt n (2 ^ 64) ≡ true = grind (arith, nat_tests) in rw test refl

pub value_read : (radix n : ℕ) (ds : List ℕ) (whole : ℕ) → whole ≡ digits_value_after radix n ds → length ds < 1 → n < 2 ^ 64 → Some n ≡ if_fits whole
value_read radix n ds whole e h less = some_fits n less ∙ ap if_fits (sym (e ∙ all_read radix n ds h))

pub ruleset value_steps = (never_fits, fits, all_read)
