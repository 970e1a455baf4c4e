-- The character constant at the start.
use Rattle.std.proofs.Common.{◌≡◌, ℕ, ◌+◌, ◌≤◌, Bool, true, false, ◌&&◌, cond, nat_le, nat_eq, List, [], ◌∷◌, ◌++◌, length, take, drop, Option, Some, None, refl, ap, subst, sym, ◌∙◌, arith, append_assoc, length-append, take-append-drop}
use Rattle.std.proofs.lemmas.List.Folds.{length-prefix_len}
use Rattle.std.proofs.lemmas.Bool.{leb-true}
use Rattle.std.proofs.lemmas.Bool.Decides.{nat_tests}
use Rattle.std.specs.List.{prefix_len, list_all}
use Rattle.std.specs.Str.Parse.{digits_value}
use Rattle.mc_lex.specs.declared.character.Quoted.{Quoted}
use Rattle.mc_lex.specs.Bytes.{is_octal, is_hexadecimal}
use Rattle.mc_lex.specs.Characters.{is_plain, simple_escape, Inside, plain, simple, octal, hexadecimal, IsCharacter}
use Rattle.mc_lex.specs.steps.Scanner.{starts_with_byte, by_digits, by_simple, escape_at, plain_at, quoted_at, character_at}
use Rattle.mc_lex.proofs.Texts.{both, same_byte, first_part, rest_of, run_all, run_exact, run_within}

abbrev pub quoted : ℕ → ℕ → Quoted
quoted n b = record { length = n; byte = b }

-- ---- a character constant is found

plain_facts : (b : ℕ) → is_plain b ≡ true → nat_eq b 92 ≡ false
plain_facts b h = grind (arith, nat_tests)

octal_no_x : (b : ℕ) → is_octal b ≡ true → nat_eq b 120 ≡ false
octal_no_x b h = grind (arith, nat_tests)

no_octal_escape : (c b : ℕ) → is_octal c ≡ true → simple_escape c ≡ Some b → ⊥
no_octal_escape c b h e =
    let c1 : nat_eq c 39 ≡ false = grind (arith, nat_tests) in
    let c2 : nat_eq c 34 ≡ false = grind (arith, nat_tests) in
    let c3 : nat_eq c 63 ≡ false = grind (arith, nat_tests) in
    let c4 : nat_eq c 92 ≡ false = grind (arith, nat_tests) in
    let c5 : nat_eq c 97 ≡ false = grind (arith, nat_tests) in
    let c6 : nat_eq c 98 ≡ false = grind (arith, nat_tests) in
    let c7 : nat_eq c 102 ≡ false = grind (arith, nat_tests) in
    let c8 : nat_eq c 110 ≡ false = grind (arith, nat_tests) in
    let c9 : nat_eq c 114 ≡ false = grind (arith, nat_tests) in
    let c10 : nat_eq c 116 ≡ false = grind (arith, nat_tests) in
    let c11 : nat_eq c 118 ≡ false = grind (arith, nat_tests) in
    let none : simple_escape c ≡ None = rw (c1, c2, c3, c4, c5, c6, c7, c8, c9, c10, c11) refl in
    let clash : None ≡ Some b = sym none ∙ e in cc

no_x_escape : (c b : ℕ) → nat_eq c 120 ≡ true → simple_escape c ≡ Some b → ⊥
no_x_escape c b h e = let clash : None ≡ Some b = ap simple_escape (sym (same_byte c 120 h)) ∙ e in cc

false_of : (a : Bool) → (a ≡ true → ⊥) → a ≡ false
false_of true h = absurd (h refl)
false_of false h = refl

yes : {A : Type 0} (t : Bool) (x y : A) → t ≡ true → cond t x y ≡ x
yes true x y e = refl
yes false x y e = absurd (cc)

no : {A : Type 0} (t : Bool) (x y : A) → t ≡ false → cond t x y ≡ y
no true x y e = absurd (cc)
no false x y e = refl

all_four : (a b c d : Bool) → a ≡ true → b ≡ true → c ≡ true → d ≡ true → (a && b && c && d) ≡ true
all_four a b c d e f g h = rw (e, f, g, h) refl

-- digits up to a `'`
digits_found : (p : ℕ → Bool) (base start most : ℕ) (ds after : List ℕ) → p 39 ≡ false → list_all p ds ≡ true → nat_le 1 (length ds) ≡ true → nat_le (length ds) most ≡ true → nat_le (digits_value base ds) 255 ≡ true
    → by_digits base start most (prefix_len p (ds ++ (39 ∷ after))) (ds ++ (39 ∷ after)) ≡ Some (quoted (start + length ds + 1) (digits_value base ds))
digits_found p base start most ds after q all some few small =
    let n = run_exact p ds (39 ∷ after) all (rw q refl) in
    rw n (rw (first_part ds (39 ∷ after), rest_of ds (39 ∷ after)) (yes (nat_le 1 (length ds) && nat_le (length ds) most && true && nat_le (digits_value base ds) 255) _ _ (all_four _ _ _ _ some few refl small)))

plain_found : (b : ℕ) (after : List ℕ) → is_plain b ≡ true → quoted_at (b ∷ 39 ∷ after) ≡ Some (quoted 3 b)
plain_found b after h = no (nat_eq b 92) _ _ (plain_facts b h) ∙ yes (is_plain b && true) _ _ (rw h refl)

simple_found : (c b : ℕ) (after : List ℕ) → simple_escape c ≡ Some b → escape_at (c ∷ 39 ∷ after) ≡ Some (quoted 4 b)
simple_found c b after h =
    no (nat_eq c 120) _ _ (false_of (nat_eq c 120) (λ x. no_x_escape c b x h))
    ∙ no (is_octal c) _ _ (false_of (is_octal c) (λ x. no_octal_escape c b x h))
    ∙ ap (λ o. by_simple o (39 ∷ after)) h

octal_found : (o : ℕ) (os after : List ℕ) → list_all is_octal (o ∷ os) ≡ true → length (o ∷ os) ≤ 3 → digits_value 8 (o ∷ os) ≤ 255 → escape_at ((o ∷ os) ++ (39 ∷ after)) ≡ Some (quoted (2 + length (o ∷ os) + 1) (digits_value 8 (o ∷ os)))
octal_found o os after all few small =
    let first = (both (is_octal o) (list_all is_octal os) all).0 in
    no (nat_eq o 120) _ _ (octal_no_x o first)
    ∙ yes (is_octal o) _ _ first
    ∙ digits_found is_octal 8 2 3 (o ∷ os) after refl all (grind (arith, nat_tests)) (grind (arith, nat_tests)) (grind (arith, nat_tests))

hexadecimal_found : (ds after : List ℕ) → list_all is_hexadecimal ds ≡ true → 1 ≤ length ds → digits_value 16 ds ≤ 255 → escape_at (120 ∷ (ds ++ (39 ∷ after))) ≡ Some (quoted (3 + length ds + 1) (digits_value 16 ds))
hexadecimal_found ds after all some small =
    digits_found is_hexadecimal 16 3 (length (ds ++ (39 ∷ after))) ds after refl all (grind (arith, nat_tests)) (grind (arith, nat_tests, length-append ds (39 ∷ after))) (grind (arith, nat_tests))

pub character_found : (text : List ℕ) (byte : ℕ) → IsCharacter text byte → (after : List ℕ) → character_at (text ++ after) ≡ Some (quoted (length text) byte)
unfolding character_at
character_found text byte c after = subst (λ t. character_at (t ++ after) ≡ Some (quoted (length t) byte)) (sym c.whole) (by_inside c.inside byte c.stands)
  where
    sized : (m n b : ℕ) → m ≡ n → Some (quoted m b) ≡ Some (quoted n b)
    sized m n b e = ap (λ k. Some (quoted k b)) e

    by_inside : (inside : List ℕ) (byte : ℕ) → Inside inside byte → character_at (((39 ∷ inside) ++ (39 ∷ [])) ++ after) ≡ Some (quoted (length ((39 ∷ inside) ++ (39 ∷ []))) byte)
    by_inside inside byte (plain b h) = plain_found b after h
    by_inside inside byte (simple c b h) = simple_found c b after h
    by_inside inside byte (octal [] all some few small) = absurd (omega arith)
    by_inside inside byte (octal (o ∷ os) all some few small) =
        ap escape_at (append_assoc (o ∷ os) (39 ∷ []) after) ∙ octal_found o os after all few small ∙ sized _ _ _ (omega (arith, length-append (o ∷ os) (39 ∷ [])))
    by_inside inside byte (hexadecimal ds all some small) =
        ap (λ l. escape_at (120 ∷ l)) (append_assoc ds (39 ∷ []) after) ∙ hexadecimal_found ds after all some small ∙ sized _ _ _ (omega (arith, length-append ds (39 ∷ [])))

-- ---- what is found is a character constant

pub record Found (bs : List ℕ) (q : Quoted) : Type 0 where
  pub text : List ℕ
  pub after : List ℕ
  pub whole : bs ≡ text ++ after
  pub size : length text ≡ q.length
  pub constant : IsCharacter text q.byte

-- what stands after `'` and before the next bytes
abbrev Opened : List ℕ → Quoted → Type 0
Opened bs q = (inside after : List ℕ) × (bs ≡ inside ++ (39 ∷ after)) × (length inside + 2 ≡ q.length) × Inside inside q.byte

four : (a b c d : Bool) → (a && b && c && d) ≡ true → (a ≡ true) × (b ≡ true) × (c ≡ true) × (d ≡ true)
four a b c d e =
    let x = both (a && b && c) d e in
    let y = both (a && b) c x.0 in
    let z = both a b y.0 in
    (z.0, z.1, y.1, x.1)

-- what a list begins with
begins_byte : (b : ℕ) (bs : List ℕ) → starts_with_byte b bs ≡ true → bs ≡ b ∷ drop 1 bs
begins_byte b [] e = absurd (cc)
begins_byte b (x ∷ bs) e = ap (λ y. y ∷ bs) (same_byte x b e)

chosen : (t : Bool) (x q : Quoted) → cond t (Some x) None ≡ Some q → (t ≡ true) × (x ≡ q)
chosen true x q e = (refl, cc)
chosen false x q e = absurd (cc)

digits_opened : (base start most n : ℕ) (digits : List ℕ) (q : Quoted) → n ≤ length digits → by_digits base start most n digits ≡ Some q
    → (nat_le 1 n ≡ true) × (nat_le n most ≡ true) × (digits ≡ take n digits ++ (39 ∷ drop 1 (drop n digits))) × (digits_value base (take n digits) ≤ 255) × (quoted (start + n + 1) (digits_value base (take n digits)) ≡ q)
digits_opened base start most n digits q within e =
    let parts = chosen _ _ q e in
    let tests = four (nat_le 1 n) (nat_le n most) (starts_with_byte 39 (drop n digits)) (nat_le (digits_value base (take n digits)) 255) parts.0 in
    (tests.0, tests.1, sym (take-append-drop n digits) ∙ ap (λ l. take n digits ++ l) (begins_byte 39 (drop n digits) tests.2), leb-true _ _ tests.3, parts.1)

abbrev along : (R : List ℕ → Quoted → Type 0) (bs : List ℕ) (p q : Quoted) → p ≡ q → R bs p → R bs q
along R bs p q e h = subst (λ x. R bs x) e h

escape_opened : (bs : List ℕ) (q : Quoted) → escape_at bs ≡ Some q → Opened (92 ∷ bs) q
escape_opened [] q e = absurd (cc)
escape_opened (c ∷ bs) q e = by_first (nat_eq c 120) refl (is_octal c) refl e
  where
    by_escape : (o : Option ℕ) → simple_escape c ≡ o → by_simple o bs ≡ Some q → Opened (92 ∷ c ∷ bs) q
    by_escape None s f = absurd (cc)
    by_escape (Some b) s f =
        let parts = chosen _ _ q f in
        along Opened _ (quoted 4 b) q parts.1 (92 ∷ c ∷ [], drop 1 bs, ap (λ l. 92 ∷ c ∷ l) (begins_byte 39 bs parts.0), refl, simple c b s)

    by_first : (t : Bool) → nat_eq c 120 ≡ t → (u : Bool) → is_octal c ≡ u → cond t (by_digits 16 3 (length bs) (prefix_len is_hexadecimal bs) bs) (cond u (by_digits 8 2 3 (prefix_len is_octal (c ∷ bs)) (c ∷ bs)) (by_simple (simple_escape c) bs)) ≡ Some q
        → Opened (92 ∷ c ∷ bs) q
    by_first true x u o f =
        let n = prefix_len is_hexadecimal bs in
        let d = digits_opened 16 3 (length bs) n bs q (run_within is_hexadecimal bs) f in
        let size : length (take n bs) ≡ n = length-prefix_len is_hexadecimal bs in
        let some : 1 ≤ n = leb-true 1 n d.0 in
        along Opened _ (quoted (3 + n + 1) (digits_value 16 (take n bs))) q d.4
        (92 ∷ 120 ∷ take n bs, drop 1 (drop n bs), ap (λ y. 92 ∷ y ∷ bs) (same_byte c 120 x) ∙ ap (λ l. 92 ∷ 120 ∷ l) d.2, omega arith, hexadecimal (take n bs) (run_all is_hexadecimal bs) (omega arith) d.3)
    by_first false x true o f =
        let n = prefix_len is_octal (c ∷ bs) in
        let d = digits_opened 8 2 3 n (c ∷ bs) q (run_within is_octal (c ∷ bs)) f in
        let size : length (take n (c ∷ bs)) ≡ n = length-prefix_len is_octal (c ∷ bs) in
        let some : 1 ≤ n = leb-true 1 n d.0 in
        let few : n ≤ 3 = leb-true n 3 d.1 in
        along Opened _ (quoted (2 + n + 1) (digits_value 8 (take n (c ∷ bs)))) q d.4
        (92 ∷ take n (c ∷ bs), drop 1 (drop n (c ∷ bs)), ap (λ l. 92 ∷ l) d.2, omega arith, octal (take n (c ∷ bs)) (run_all is_octal (c ∷ bs)) (omega arith) (omega arith) d.3)
    by_first false x false o f = by_escape (simple_escape c) refl f

plain_opened : (b : ℕ) (bs : List ℕ) (q : Quoted) → plain_at b bs ≡ Some q → Opened (b ∷ bs) q
plain_opened b bs q e =
    let parts = chosen _ _ q e in
    let two = both (is_plain b) (starts_with_byte 39 bs) parts.0 in
    along Opened _ (quoted 3 b) q parts.1 (b ∷ [], drop 1 bs, ap (λ l. b ∷ l) (begins_byte 39 bs two.1), refl, plain b two.0)

quoted_opened : (bs : List ℕ) (q : Quoted) → quoted_at bs ≡ Some q → Opened bs q
quoted_opened [] q e = absurd (cc)
quoted_opened (b ∷ bs) q e = by_first (nat_eq b 92) refl e
  where
    by_first : (t : Bool) → nat_eq b 92 ≡ t → cond t (escape_at bs) (plain_at b bs) ≡ Some q → Opened (b ∷ bs) q
    by_first true x f = subst (λ y. Opened (y ∷ bs) q) (sym (same_byte b 92 x)) (escape_opened bs q f)
    by_first false x f = plain_opened b bs q f

pub character_is : (bs : List ℕ) (q : Quoted) → character_at bs ≡ Some q → Found bs q
unfolding character_at
character_is [] q e = absurd (cc)
character_is (b ∷ bs) q e = by_first (nat_eq b 39) refl e
  where
    by_first : (t : Bool) → nat_eq b 39 ≡ t → cond t (quoted_at bs) None ≡ Some q → Found (b ∷ bs) q
    by_first true x f =
        let o = quoted_opened bs q f in
        record {
          text = (39 ∷ o.0) ++ (39 ∷ []);
          after = o.1;
          whole = ap (λ y. y ∷ bs) (same_byte b 39 x) ∙ ap (λ l. 39 ∷ l) (o.2 ∙ sym (append_assoc o.0 (39 ∷ []) o.1));
          size = omega (arith, o.3, length-append o.0 (39 ∷ []));
          constant = record { inside = o.0; whole = refl; stands = o.4 };
        }
    by_first false x f = absurd (cc)
