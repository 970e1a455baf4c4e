-- First parts of a text.
use Rattle.std.proofs.Common.{◌≡◌, ◌≢◌, ◌∙◌, ◌+◌, ◌-◌, ℕ, zero, suc, Bool, true, false, not, nat_eq, nat_lt, List, [], ◌∷◌, ◌++◌, length, take, drop, Option, Some, None, option_map, Bor, MatchOption, refl, sym, ap, subst, arith, inl, inr, append_assoc, length-append}
use Rattle.std.specs.Prelude.{◌==◌, All, flat_map}
use Rattle.std.specs.Cmp.Lexicographic.{pointwise}
use Rattle.std.specs.List.{list_all, position, position_or_len}
use Rattle.std.proofs.lemmas.Bool.{cases_Bool, false≢true}
use Rattle.std.proofs.lemmas.Bool.Decides.{Decides-eqb, nat_tests}
use Rattle.std.proofs.lemmas.List.{drop_at, take_at, take_all, length_push, length-drop}
use Rattle.std.proofs.lemmas.Slice.Eq.{strip_prefix_is}
use Rattle.mc_record.specs.Parts.{many_in, strip, until, with_part}
use Rattle.mc_record.specs.Seen.{onto}

itself : (b : ℕ) → (b == b) ≡ true
itself b = (Decides-eqb b b).1 refl

-- ---- a front that is taken away

pub strip_front : (front rest : List ℕ) → strip front (front ++ rest) ≡ Some rest
strip_front [] rest = refl
strip_front (b ∷ front) rest = rw (itself b) (strip_front front rest)

pub strip_only : (front text rest : List ℕ) → strip front text ≡ Some rest → text ≡ front ++ rest
strip_only [] text rest is = cc
strip_only (b ∷ front) [] rest is = absurd (cc is)
strip_only (b ∷ front) (c ∷ text) rest is = elim (cases_Bool (b == c)) [
  | inl same ↦
      let e : b ≡ c = (Decides-eqb b c).0 same in
      let tail : text ≡ front ++ rest = strip_only front text rest (rw same at is) in
      cc
  | inr differ ↦ absurd (cc (rw differ at is))
]

strip_none : (front text : List ℕ) → ((rest : List ℕ) → text ≢ front ++ rest) → strip front text ≡ None
strip_none front text never = by_found (strip front text) refl
  where
    by_found : (o : Option (List ℕ)) → strip front text ≡ o → strip front text ≡ None
    by_found None is = is
    by_found (Some rest) is = absurd (never rest (strip_only front text rest is))

-- what `strip_prefix` gives
pub stripped : (text front : List ℕ) (r : Option (Bor (List ℕ))) → MatchOption r (pointwise nat_eq (take (length front) text) front ≡ false) (λ x. (pointwise nat_eq (take (length front) text) front ≡ true) × (x.now ≡ drop (length front) text) × (length x.now + length front ≡ length text))
    → option_map (λ x. x.now) r ≡ strip front text
stripped text front None h = sym (strip_none front text (strip_prefix_is Decides-eqb text front None h))
stripped text front (Some x) h = sym (ap (strip front) (strip_prefix_is Decides-eqb text front (Some x) h) ∙ strip_front front x.now)

-- one front after the other
pub strip_both : (first second text : List ℕ) → strip (first ++ second) text ≡ with_part (strip first text) (strip second)
strip_both [] second text = refl
strip_both (b ∷ first) second [] = refl
strip_both (b ∷ first) second (c ∷ text) = elim (cases_Bool (b == c)) [
  | inl same ↦ rw same (strip_both first second text)
  | inr differ ↦ rw differ refl
]

-- ---- what stands before a byte

abbrev pub lacks : ℕ → List ℕ → Bool
lacks byte text = list_all (λ b. not (b == byte)) text

place_after : (byte : ℕ) (front rest : List ℕ) → lacks byte front ≡ true → position_or_len (λ b. b == byte) (front ++ byte ∷ rest) ≡ length front
place_after byte [] rest is = rw (itself byte) refl
place_after byte (b ∷ front) rest is = elim (cases_Bool (b == byte)) [
  | inl same ↦ absurd (false≢true (rw same at is))
  | inr differ ↦ rw differ (ap (λ n. 1 + n) (place_after byte front rest (rw differ at is)) ∙ omega arith)
]

pub until_front : (byte : ℕ) (front rest : List ℕ) → lacks byte front ≡ true → until byte (front ++ byte ∷ rest) ≡ Some (front, rest)
until_front byte front rest is =
    let place = place_after byte front rest is in
    let inside : nat_lt (length front) (length (front ++ byte ∷ rest)) ≡ true = grind (arith, nat_tests, length-append front (byte ∷ rest)) in
    let before : take (length front) (front ++ byte ∷ rest) ≡ front = take_at front (byte ∷ rest) (length front) refl in
    let whole : (front ++ byte ∷ []) ++ rest ≡ front ++ byte ∷ rest = append_assoc front (byte ∷ []) rest in
    let later : drop (length front + 1) (front ++ byte ∷ rest) ≡ rest = ap (drop (length front + 1)) (sym whole) ∙ drop_at (front ++ byte ∷ []) rest (length front + 1) (length_push front byte) in
    rw (place, inside) (ap (λ (x : List ℕ). Some (x, drop (length front + 1) (front ++ byte ∷ rest))) before ∙ ap (λ (x : List ℕ). Some (front, x)) later)

pub until_found : (byte : ℕ) (text : List ℕ) (n : ℕ) → position (λ b. b == byte) text ≡ Some n → until byte text ≡ Some (take n text, take (length text - (n + 1)) (drop (n + 1) text))
until_found byte text n is =
    let rest : drop (n + 1) text ≡ take (length text - (n + 1)) (drop (n + 1) text) = sym (take_all (length text - (n + 1)) (drop (n + 1) text) (omega (arith, length-drop (n + 1) text))) in
    rw is (ap (λ (x : List ℕ). Some (take n text, x)) rest)

-- ---- parts of one kind

pub same_pair : {A B : Type 0} (a b : A) (c d : B) → ◌≡◌ {A = Option (A × B)} (Some (a, c)) (Some (b, d)) → (a ≡ b) × (c ≡ d)
same_pair {A} {B} a b c d is =
    let e : ◌≡◌ {A = A × B} (a, c) (b, d) = cc in
    (ap (λ (p : A × B). p.0) e, ap (λ (p : A × B). p.1) e)

pub all_cons : {X : Type 0} (P : X → Type 0) (x : X) (xs : List X) → P x → All P xs → All P (x ∷ xs)
all_cons P x xs here later zero d inside = here
all_cons P x xs here later (suc k) d inside = later k d (omega (arith, inside))

module _ (one : List ℕ → Option (ℕ × List ℕ)) where
  -- what was written part by part is read part by part
  pub many_read : (text : ℕ → List ℕ) (P : ℕ → Type 0) → ((n : ℕ) (rest : List ℕ) → P n → one (text n ++ rest) ≡ Some (n, rest)) → (ns rest : List ℕ) → All P ns → many_in one (length ns) (flat_map text ns ++ rest) ≡ Some (ns, rest)
  many_read text P each [] rest are = refl
  many_read text P each (n ∷ ns) rest are =
      let first = each n (flat_map text ns ++ rest) (are 0 n (omega arith)) in
      let later = many_read text P each ns rest (λ k d inside. are (suc k) d (omega (arith, inside))) in
      rw (append_assoc (text n) (flat_map text ns) rest, first, later) refl

  -- so many, each with what each has
  pub many_are : (P : ℕ → Type 0) → ((text rest : List ℕ) (n : ℕ) → one text ≡ Some (n, rest) → P n) → (count : ℕ) (text ns rest : List ℕ) → many_in one count text ≡ Some (ns, rest) → (length ns ≡ count) × All P ns
  many_are P each zero text ns rest is =
      let none : [] ≡ ns = (same_pair [] ns text rest is).0 in
      subst (λ (l : List ℕ). (length l ≡ 0) × All P l) none (refl, λ k d inside. absurd (omega (arith, inside)))
  many_are P each (suc count) text ns rest is = by_first (one text) refl is (many_are P each count)
    where
      by_later : (n : ℕ) (after : List ℕ) (o : Option (List ℕ × List ℕ)) → one text ≡ Some (n, after) → many_in one count after ≡ o → with_part {B = List ℕ × List ℕ} o (λ more. Some (n ∷ more.0, more.1)) ≡ Some (ns, rest) → ((text ns rest : List ℕ) → many_in one count text ≡ Some (ns, rest) → (length ns ≡ count) × All P ns) → (length ns ≡ suc count) × All P ns
      by_later n after None first later found others = absurd (cc found)
      by_later n after (Some (ms, end)) first later found others =
          let whole : n ∷ ms ≡ ns = (same_pair (n ∷ ms) ns end rest found).0 in
          let more = others after ms end later in
          subst (λ (l : List ℕ). (length l ≡ suc count) × All P l) whole (omega (arith, more.0), all_cons P n ms (each text after n first) more.1)

      by_first : (o : Option (ℕ × List ℕ)) → one text ≡ o → with_part {B = List ℕ × List ℕ} o (λ first. with_part {B = List ℕ × List ℕ} (many_in one count first.1) (λ more. Some (first.0 ∷ more.0, more.1))) ≡ Some (ns, rest) → ((text ns rest : List ℕ) → many_in one count text ≡ Some (ns, rest) → (length ns ≡ count) × All P ns) → (length ns ≡ suc count) × All P ns
      by_first None first found others = absurd (cc found)
      by_first (Some (n, after)) first found others = by_later n after (many_in one count after) first refl found others

  -- one more of them
  pub many_next : (front : List ℕ) (count n : ℕ) (text rest : List ℕ) → one text ≡ Some (n, rest) → onto front (many_in one (suc count) text) ≡ onto (front ++ n ∷ []) (many_in one count rest)
  many_next front count n text rest first = rw first (by_later (many_in one count rest))
    where
      by_later : (o : Option (List ℕ × List ℕ)) → onto front (with_part {B = List ℕ × List ℕ} o (λ more. Some (n ∷ more.0, more.1))) ≡ onto (front ++ n ∷ []) o
      by_later None = refl
      by_later (Some (ns, end)) = ap (λ (l : List ℕ). Some (l, end)) (sym (append_assoc front (n ∷ []) ns))

  pub many_none : (count : ℕ) (text : List ℕ) → one text ≡ None → many_in one (suc count) text ≡ None
  many_none count text none = rw none refl
