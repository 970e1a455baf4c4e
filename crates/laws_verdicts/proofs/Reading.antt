-- An obligation is read back from its name.
use Rattle.std.proofs.Common.{◌≡◌, ℕ, pred, ◌+◌, ◌<◌, ◌^◌, true, false, cond, nat_lt, ◌==◌, List, [], ◌∷◌, ◌++◌, sym, ap, ◌∙◌, refl, arith, decimal}
use Rattle.std.specs.Char.{digit_value}
use Rattle.std.specs.Str.Parse.{AllDigits, digits_value}
use Rattle.std.proofs.lemmas.Fmt.{decimal_is_IsNumeral}
use Rattle.std.proofs.lemmas.Bool.Decides.{nat_tests}
use Rattle.mc_oblige.specs.Ids.{id_text}
use Rattle.mc_oblige.specs.declared.obligation.ObligationId.{ObligationId}
use Rattle.mc_oblige.specs.declared.obligation.ObligationId.TheVariants.{Entry, Exit, Statement, Label, Outcome, Condition}

-- ---- digits, and what follows them

abbrev front : List ℕ → List ℕ
front [] = []
front (c ∷ cs) = cond (nat_lt (digit_value c) 10) (c ∷ front cs) []

abbrev back : List ℕ → List ℕ
back [] = []
back (c ∷ cs) = cond (nat_lt (digit_value c) 10) (back cs) (c ∷ cs)

front_is : (ds : List ℕ) (c : ℕ) (rest : List ℕ) → AllDigits 10 ds → nat_lt (digit_value c) 10 ≡ false → front (ds ++ c ∷ rest) ≡ ds
front_is [] c rest are other = rw other refl
front_is (d ∷ ds) c rest are other =
    let yes : nat_lt (digit_value d) 10 ≡ true = grind (arith, nat_tests, are.0) in
    rw yes (ap (λ (l : List ℕ). d ∷ l) (front_is ds c rest are.1 other))

back_is : (ds : List ℕ) (c : ℕ) (rest : List ℕ) → AllDigits 10 ds → nat_lt (digit_value c) 10 ≡ false → back (ds ++ c ∷ rest) ≡ c ∷ rest
back_is [] c rest are other = rw other refl
back_is (d ∷ ds) c rest are other =
    let yes : nat_lt (digit_value d) 10 ≡ true = grind (arith, nat_tests, are.0) in
    rw yes (back_is ds c rest are.1 other)

-- ---- names

abbrev number_in : List ℕ → ℕ
number_in ds = pred (digits_value 10 ds)

abbrev in_decision : ℕ → List ℕ → ObligationId
in_decision d [] = Entry 0
in_decision d (c ∷ cs) = cond (c == 84) (Outcome d true) (cond (c == 70) (Outcome d false) (Condition d (number_in cs)))

abbrev read : List ℕ → ObligationId
read [] = Entry 0
read (c ∷ cs) =
    cond (c == 69) (Entry (number_in cs))
    (cond (c == 88) (Exit (number_in cs))
    (cond (c == 83) (Statement (number_in cs))
    (cond (c == 76) (Label (number_in cs))
    (in_decision (number_in (front cs)) (back cs)))))

-- its numbers are written in full
abbrev pub IsSmall : ObligationId → Type 0
IsSmall (Entry k) = k + 1 < 2 ^ 64
IsSmall (Exit k) = k + 1 < 2 ^ 64
IsSmall (Statement k) = k + 1 < 2 ^ 64
IsSmall (Label k) = k + 1 < 2 ^ 64
IsSmall (Outcome d outcome) = d + 1 < 2 ^ 64
IsSmall (Condition d k) = (d + 1 < 2 ^ 64) × (k + 1 < 2 ^ 64)

number_read : (k : ℕ) → k + 1 < 2 ^ 64 → number_in (decimal (k + 1)) ≡ k
number_read k small = ap pred (decimal_is_IsNumeral (k + 1) small).1 ∙ omega arith

decision_read : (d c : ℕ) (rest : List ℕ) → d + 1 < 2 ^ 64 → nat_lt (digit_value c) 10 ≡ false
    → in_decision (number_in (front (decimal (d + 1) ++ c ∷ rest))) (back (decimal (d + 1) ++ c ∷ rest)) ≡ in_decision d (c ∷ rest)
decision_read d c rest small other =
    let digits = (decimal_is_IsNumeral (d + 1) small).0.1 in
    ap (λ (l : List ℕ). in_decision (number_in l) (back (decimal (d + 1) ++ c ∷ rest))) (front_is (decimal (d + 1)) c rest digits other)
    ∙ ap (λ (l : List ℕ). in_decision (number_in (decimal (d + 1))) l) (back_is (decimal (d + 1)) c rest digits other)
    ∙ ap (λ (n : ℕ). in_decision n (c ∷ rest)) (number_read d small)

read_is : (id : ObligationId) → IsSmall id → read (id_text id) ≡ id
read_is (Entry k) small = ap Entry (number_read k small)
read_is (Exit k) small = ap Exit (number_read k small)
read_is (Statement k) small = ap Statement (number_read k small)
read_is (Label k) small = ap Label (number_read k small)
read_is (Outcome d true) small = decision_read d 84 [] small refl
read_is (Outcome d false) small = decision_read d 70 [] small refl
read_is (Condition d k) small = decision_read d 67 (decimal (k + 1)) small.0 refl ∙ ap (Condition d) (number_read k small.1)

pub one_name : (a b : ObligationId) → IsSmall a → IsSmall b → id_text a ≡ id_text b → a ≡ b
one_name a b small_a small_b same = sym (read_is a small_a) ∙ ap read same ∙ read_is b small_b
