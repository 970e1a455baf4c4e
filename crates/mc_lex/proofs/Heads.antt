-- Of a table, only the texts whose first byte is that of the bytes can stand at their start.
use Rattle.std.proofs.Common.{◌≡◌, ℕ, Bool, true, false, not, ◌||◌, cond, if◌then◌else◌, nat_eq, slice_index_or, ◌<◌, ◌≤◌, arith, List, [], ◌∷◌, length, refl, ap, sym}
use Rattle.std.proofs.lemmas.Bool.Decides.{nat_tests}
use Rattle.std.specs.List.{starts_with}
use Rattle.std.specs.Str.{bytes_eq}
use Rattle.mc_lex.specs.steps.Scanner.{first_of, from_byte, punctuators_and_openings, punctuator_len, begins_alone, outside_punctuators_and_openings}
use Rattle.mc_lex.specs.Words.{one_of, keywords}
use Rattle.mc_lex.specs.Punctuators.{outside_punctuators, literal_openings}
use Rattle.mc_lex.proofs.Texts.{not_both, passes}

flipped : (b c : ℕ) → nat_eq b c ≡ false → nat_eq c b ≡ false
flipped b c h = grind (arith, nat_tests, h)

pub by_head : (table : List (List ℕ)) (b : ℕ) (bs : List ℕ) → first_of (from_byte b table) (b ∷ bs) ≡ first_of table (b ∷ bs)
by_head [] b bs = refl
by_head ([] ∷ ts) b bs = refl
by_head ((c ∷ cs) ∷ ts) b bs = by_test (nat_eq b c) refl (by_head ts b bs)
  where
    by_test : (t : Bool) → nat_eq b c ≡ t → first_of (from_byte b ts) (b ∷ bs) ≡ first_of ts (b ∷ bs) → first_of (cond t ((c ∷ cs) ∷ from_byte b ts) (from_byte b ts)) (b ∷ bs) ≡ first_of ((c ∷ cs) ∷ ts) (b ∷ bs)
    by_test true e same = ap (λ n. if starts_with nat_eq (b ∷ bs) (c ∷ cs) then length (c ∷ cs) else n) same
    by_test false e same = rw (flipped b c e) same

pub one_by_head : (table : List (List ℕ)) (b : ℕ) (bs : List ℕ) → one_of (from_byte b table) (b ∷ bs) ≡ one_of table (b ∷ bs)
one_by_head [] b bs = refl
one_by_head ([] ∷ ts) b bs = one_by_head ts b bs
one_by_head ((c ∷ cs) ∷ ts) b bs = by_test (nat_eq b c) refl (one_by_head ts b bs)
  where
    by_test : (t : Bool) → nat_eq b c ≡ t → one_of (from_byte b ts) (b ∷ bs) ≡ one_of ts (b ∷ bs) → one_of (cond t ((c ∷ cs) ∷ from_byte b ts) (from_byte b ts)) (b ∷ bs) ≡ one_of ((c ∷ cs) ∷ ts) (b ∷ bs)
    by_test true e same = ap (λ t. bytes_eq (b ∷ bs) (c ∷ cs) || t) same
    by_test false e same = rw e same

-- what stands at the start, by the first byte
pub by_nothing : (bs : List ℕ) → length bs < 1 → 0 ≡ punctuator_len bs
unfolding punctuator_len punctuators_and_openings
by_nothing [] n = refl
by_nothing (b ∷ bs) n = absurd (omega (arith, n))

pub by_byte : (bs : List ℕ) → 1 ≤ length bs → first_of (from_byte (slice_index_or bs 0 0) punctuators_and_openings) bs ≡ punctuator_len bs
unfolding punctuator_len
by_byte [] n = absurd (omega (arith, n))
by_byte (b ∷ bs) n = by_head punctuators_and_openings b bs

pub one_by_byte : (table : List (List ℕ)) (bs : List ℕ) → 1 ≤ length bs → one_of (from_byte (slice_index_or bs 0 0) table) bs ≡ one_of table bs
one_by_byte table [] n = absurd (omega (arith, n))
one_by_byte table (b ∷ bs) n = one_by_head table b bs

-- no text of this table is empty
pub one_of_nothing : (table : List (List ℕ)) (bs : List ℕ) → length bs < 1 → one_of table [] ≡ false → false ≡ one_of table bs
one_of_nothing table [] n e = sym e
one_of_nothing table (b ∷ bs) n e = absurd (omega (arith, n))

-- none of those that are left out begins with a byte that stands alone
pub lone_inside : (text : List ℕ) → begins_alone text ≡ true → false ≡ one_of outside_punctuators_and_openings text
unfolding outside_punctuators_and_openings outside_punctuators literal_openings
lone_inside text h = by_test (one_of outside_punctuators_and_openings text) (λ e. passes (λ t. not (begins_alone t)) outside_punctuators_and_openings text refl e)
  where
    by_test : (t : Bool) → (t ≡ true → not (begins_alone text) ≡ true) → false ≡ t
    by_test false f = refl
    by_test true f = absurd (not_both (not (begins_alone text)) (f refl) (rw h refl))

-- no text of the table begins with the byte
abbrev Misses : ℕ → List (List ℕ) → Type 0
Misses b [] = Unit {0}
Misses b ([] ∷ ts) = ⊥
Misses b ((c ∷ cs) ∷ ts) = (nat_eq b c ≡ false) × Misses b ts

misses : (b : ℕ) (table : List (List ℕ)) → Misses b table → [] ≡ from_byte b table
misses b [] m = refl
misses b ([] ∷ ts) m = absurd m
misses b ((c ∷ cs) ∷ ts) m = rw m.0 (misses b ts m.1)

-- no keyword begins with another byte than these
pub no_keyword : (b : ℕ) → nat_eq b 98 ≡ false → nat_eq b 99 ≡ false → nat_eq b 100 ≡ false → nat_eq b 101 ≡ false → nat_eq b 102 ≡ false → nat_eq b 103 ≡ false → nat_eq b 105 ≡ false → nat_eq b 108 ≡ false → nat_eq b 114 ≡ false → nat_eq b 115 ≡ false → nat_eq b 116 ≡ false → nat_eq b 117 ≡ false → nat_eq b 118 ≡ false → nat_eq b 119 ≡ false → nat_eq b 95 ≡ false → [] ≡ from_byte b keywords
unfolding keywords
no_keyword b h0 h1 h2 h3 h4 h5 h6 h7 h8 h9 h10 h11 h12 h13 h14 = misses b keywords (h0, (h1, (h1, (h1, (h1, (h2, (h2, (h3, (h3, (h3, (h4, (h5, (h6, (h6, (h7, (h8, (h9, (h9, (h9, (h9, (h9, (h10, (h11, (h12, (h13, (h14, tt))))))))))))))))))))))))))
