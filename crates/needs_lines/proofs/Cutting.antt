-- A part of a list, found by two halvings.
use Rattle.std.proofs.Common.{◌≡◌, ◌∙◌, ◌-◌, ◌≤◌, ℕ, zero, suc, Bool, true, false, List, [], ◌∷◌, length, map, take, drop, refl, ap, sym, subst, arith}
use Rattle.std.proofs.lemmas.List.{length-drop}
use Rattle.std.proofs.lemmas.Bool.Decides.{nat_tests}
use Rattle.std.specs.Prelude.{not, ◌&&◌, nat_lt, nat_le, filter}
use Rattle.std.specs.List.{AllWithin}
use Rattle.std.specs.List.Sorted.{IsPartitionPoint}
use Rattle.mc_span.specs.declared.span.Span.{Span}
use Rattle.mc_lex.specs.declared.token.Token.{Token}
use Rattle.mc_lex.specs.Tokens.{Tok, tok_of, toks_of}
use Rattle.needs_lines.specs.Parts.{begins_in, tokens_in}

module _ {X : Type 0} (p q : X → Bool) where
  abbrev keep : X → Bool
  keep x = not (p x) && q x

  skip : (x : X) (xs : List X) → p x ≡ true → filter keep (x ∷ xs) ≡ filter keep xs
  skip x xs is = rw is refl

  none : (x : X) (xs : List X) → p x ≡ false → q x ≡ false → filter keep (x ∷ xs) ≡ filter keep xs
  none x xs off past = rw off (rw past refl)

  one : (x : X) (xs : List X) → p x ≡ false → q x ≡ true → filter keep (x ∷ xs) ≡ x ∷ filter keep xs
  one x xs off is = rw off (rw is refl)

  front : (n : ℕ) (xs : List X) → AllWithin (λ y. p y ≡ true) xs 0 n → n ≤ length xs → filter keep xs ≡ filter keep (drop n xs)
  front zero xs all le = refl
  front (suc n) [] all le = absurd (omega (arith, le))
  front (suc n) (x ∷ xs) all le =
      skip x xs (all 0 x (omega arith) (omega arith)) ∙ front n xs (λ k d low high. all (suc k) d (omega arith) (omega (arith, high))) (omega (arith, le))

  back : (m : ℕ) (ys : List X) → AllWithin (λ y. p y ≡ false) ys 0 (length ys) → AllWithin (λ y. q y ≡ true) ys 0 m → AllWithin (λ y. q y ≡ false) ys m (length ys) → m ≤ length ys → filter keep ys ≡ take m ys
  back zero [] off is past le = refl
  back (suc m) [] off is past le = absurd (omega (arith, le))
  back zero (y ∷ ys) off is past le =
      none y ys (off 0 y (omega arith) (omega arith)) (past 0 y (omega arith) (omega arith))
      ∙ back zero ys (λ k d low high. off (suc k) d (omega arith) (omega (arith, high))) (λ k d low high. absurd (omega (arith, high))) (λ k d low high. past (suc k) d (omega arith) (omega (arith, high))) (omega arith)
  back (suc m) (y ∷ ys) off is past le =
      one y ys (off 0 y (omega arith) (omega arith)) (is 0 y (omega arith) (omega arith))
      ∙ ap (λ (zs : List X). y ∷ zs)
      (back m ys (λ k d low high. off (suc k) d (omega arith) (omega (arith, high))) (λ k d low high. is (suc k) d (omega arith) (omega (arith, high))) (λ k d low high. past (suc k) d (omega (arith, low)) (omega (arith, high))) (omega (arith, le)))

  pub shifted : (P : X → Type 0) (n : ℕ) (xs : List X) → n ≤ length xs → AllWithin P xs n (length xs) → AllWithin P (drop n xs) 0 (length (drop n xs))
  shifted P zero xs le all = all
  shifted P (suc n) [] le all = absurd (omega (arith, le))
  shifted P (suc n) (x ∷ xs) le all = shifted P n xs (omega (arith, le)) (λ k d low high. all (suc k) d (omega (arith, low)) (omega (arith, high)))

  pub cut : (n m : ℕ) (xs : List X) → n ≤ length xs → m ≤ length (drop n xs) → IsPartitionPoint (λ y. p y ≡ true) (λ y. p y ≡ false) xs n → IsPartitionPoint (λ y. q y ≡ true) (λ y. q y ≡ false) (drop n xs) m → filter keep xs ≡ take m (drop n xs)
  cut n m xs le few first second =
      front n xs first.0 le ∙ back m (drop n xs) (shifted (λ y. p y ≡ false) n xs le first.1) second.0 second.1 few

-- what is left of a list after its first n elements
all_taken : {X : Type 0} (k : ℕ) (xs : List X) → length xs ≤ k → take k xs ≡ xs
all_taken zero [] le = refl
all_taken (suc k) [] le = refl
all_taken zero (x ∷ xs) le = absurd (omega (arith, le))
all_taken {X} (suc k) (x ∷ xs) le = ap (λ (ys : List X). x ∷ ys) (all_taken k xs (omega (arith, le)))

pub tail_whole : {X : Type 0} (n : ℕ) (xs : List X) → n ≤ length xs → take (length xs - n) (drop n xs) ≡ drop n xs
tail_whole n xs le = all_taken (length xs - n) (drop n xs) (omega (arith, length-drop n xs, le))

-- ---- of tokens

same_test : (a b : ℕ) → nat_le a b ≡ not (nat_lt b a)
same_test a b = grind (arith, nat_tests)

module _ (span : Span) where
  abbrev ahead : Token → Bool
  ahead t = nat_lt t.start span.start

  abbrev within : Token → Bool
  within t = nat_lt t.start span.«end»

  agree : (t : Token) → begins_in span (tok_of t) ≡ keep ahead within t
  agree t = ap (λ (b : Bool). b && within t) (same_test span.start t.start)

  mapped : (t : Token) (ts : List Token) (b : Bool) → begins_in span (tok_of t) ≡ b → tokens_in (toks_of ts) span ≡ map tok_of (filter (keep ahead within) ts) → tokens_in (toks_of (t ∷ ts)) span ≡ map tok_of (filter (keep ahead within) (t ∷ ts))
  mapped t ts true is rest = rw (is, sym (agree t) ∙ is) (ap (λ (us : List Tok). tok_of t ∷ us) rest)
  mapped t ts false is rest = rw (is, sym (agree t) ∙ is) rest

  of_map : (ts : List Token) → tokens_in (toks_of ts) span ≡ map tok_of (filter (keep ahead within) ts)
  of_map [] = refl
  of_map (t ∷ ts) = mapped t ts (begins_in span (tok_of t)) refl (of_map ts)

  pub found : (n m : ℕ) (ts : List Token) → n ≤ length ts → m ≤ length (drop n ts) → IsPartitionPoint (λ t. ahead t ≡ true) (λ t. ahead t ≡ false) ts n → IsPartitionPoint (λ t. within t ≡ true) (λ t. within t ≡ false) (drop n ts) m → toks_of (take m (drop n ts)) ≡ tokens_in (toks_of ts) span
  found n m ts le few first second = sym (of_map ts ∙ ap (map tok_of) (cut ahead within n m ts le few first second))

  pub found_in : (n m : ℕ) (ts later : List Token) → later ≡ drop n ts → n ≤ length ts → m ≤ length later → IsPartitionPoint (λ t. ahead t ≡ true) (λ t. ahead t ≡ false) ts n → IsPartitionPoint (λ t. within t ≡ true) (λ t. within t ≡ false) later m → toks_of (take m later) ≡ tokens_in (toks_of ts) span
  found_in n m ts later is le few first second =
      let P : List Token → Type 0 = λ l. m ≤ length l → IsPartitionPoint (λ t. within t ≡ true) (λ t. within t ≡ false) l m → toks_of (take m l) ≡ tokens_in (toks_of ts) span in
      subst P (sym is) (λ f s. found n m ts le f first s) few second
