-- Parts that were found in a text stand there.
use Rattle.std.proofs.Common.{◌≡◌, ◌∙◌, ◌+◌, ◌<◌, ℕ, zero, suc, nat_lt, List, [], ◌∷◌, ◌++◌, length, take, drop, Option, Some, None, refl, sym, ap, subst, arith, inl, inr, append_assoc}
use Rattle.std.specs.Prelude.{◌==◌, Result, Ok, Err, flat_map}
use Rattle.std.specs.List.{position_or_len}
use Rattle.std.proofs.lemmas.Bool.{cases_Bool}
use Rattle.std.proofs.lemmas.Bool.Decides.{Decides-eqb, nat_tests}
use Rattle.mc_record.specs.Parts.{many_in, read_on, strip, until, with_part}
use Rattle.mc_record.specs.Reading.{or_shape}
use Rattle.mc_record.specs.declared.fault.RecordFault.{RecordFault}
use Rattle.mc_record.proofs.Fronts.{same_pair}

-- ---- parts that were there

pub read_ok : {A B : Type 0} (r : Result A RecordFault) (f : A → Result B RecordFault) (b : B) → read_on r f ≡ Ok b → (a : A) × (r ≡ Ok a) × (f a ≡ Ok b)
read_ok (Ok a) f b is = (a, refl, is)
read_ok (Err e) f b is = absurd (cc is)

pub part_some : {A B : Type 0} (o : Option A) (f : A → Option B) (b : B) → with_part o f ≡ Some b → (a : A) × (o ≡ Some a) × (f a ≡ Some b)
part_some (Some a) f b is = (a, refl, is)
part_some None f b is = absurd (cc is)

pub shape_ok : {A : Type 0} (line : ℕ) (o : Option A) (a : A) → or_shape line o ≡ Ok a → o ≡ Some a
shape_ok line (Some x) a is = cc
shape_ok line None a is = absurd (cc is)

-- ---- a front

pub strip_only : (front text rest : List ℕ) → strip front text ≡ Some rest → text ≡ front ++ rest
strip_only [] text rest is = cc
strip_only (b ∷ front) [] rest is = absurd (cc is)
strip_only (b ∷ front) (c ∷ text) rest is = elim (cases_Bool (b == c)) [
  | inl same ↦
      let e : b ≡ c = (Decides-eqb b c).0 same in
      let tail : text ≡ front ++ rest = strip_only front text rest (rw same at is) in
      cc
  | inr differ ↦ absurd (cc (rw differ at is))
]

-- ---- what stands before a byte

splits : (byte : ℕ) (text : List ℕ) (n : ℕ) → position_or_len (λ b. b == byte) text ≡ n → n < length text → text ≡ take n text ++ byte ∷ drop (n + 1) text
splits byte [] n found less = absurd (omega (arith, less))
splits byte (b ∷ text) n found less = elim (cases_Bool (b == byte)) [
  | inl same ↦
      let first : 0 ≡ n = rw same at found in
      let e : b ≡ byte = (Decides-eqb b byte).0 same in
      subst (λ k. b ∷ text ≡ take k (b ∷ text) ++ byte ∷ drop (k + 1) (b ∷ text)) first (ap (λ c. c ∷ text) e)
  | inr differ ↦
      let m = position_or_len (λ c. c == byte) text in
      let later : 1 + m ≡ n = rw differ at found in
      let count : suc m ≡ n = omega (arith, later) in
      let rest = splits byte text m refl (omega (arith, less, later)) in
      let more : suc (m + 1) ≡ suc m + 1 = omega arith in
      subst (λ k. b ∷ text ≡ take k (b ∷ text) ++ byte ∷ drop (k + 1) (b ∷ text)) count
      (subst (λ k. b ∷ text ≡ b ∷ (take m text ++ byte ∷ drop k (b ∷ text))) more (ap (λ (l : List ℕ). b ∷ l) rest))
]

pub until_only : (byte : ℕ) (text front rest : List ℕ) → until byte text ≡ Some (front, rest) → text ≡ front ++ byte ∷ rest
until_only byte text front rest is = elim (cases_Bool (nat_lt (position_or_len (λ b. b == byte) text) (length text))) [
  | inl inside ↦
      let n = position_or_len (λ b. b == byte) text in
      let e : ◌≡◌ {A = Option (List ℕ × List ℕ)} (Some (take n text, drop (n + 1) text)) (Some (front, rest)) = rw inside at is in
      let parts = same_pair (take n text) front (drop (n + 1) text) rest e in
      let less : n < length text = grind (arith, nat_tests, inside) in
      splits byte text n refl less ∙ (λ i. parts.0 i ++ byte ∷ parts.1 i)
  | inr outside ↦ absurd (cc (rw outside at is))
]

-- ---- parts of one kind

pub many_only : (one : List ℕ → Option (ℕ × List ℕ)) (written : ℕ → List ℕ) → ((text rest : List ℕ) (n : ℕ) → one text ≡ Some (n, rest) → text ≡ written n ++ rest) → (count : ℕ) (text ns rest : List ℕ) → many_in one count text ≡ Some (ns, rest) → text ≡ flat_map written ns ++ rest
many_only one written each zero text ns rest is =
    let same = same_pair [] ns text rest is in
    same.1 ∙ ap (λ (l : List ℕ). flat_map written l ++ rest) same.0
many_only one written each (suc count) text ns rest is =
    let give : ℕ → List ℕ × List ℕ → Option (List ℕ × List ℕ) = λ n more. Some (n ∷ more.0, more.1) in
    let from_first = part_some (one text) (λ first. with_part {B = List ℕ × List ℕ} (many_in one count first.1) (give first.0)) (ns, rest) is in
    let n = from_first.0.0 in
    let after = from_first.0.1 in
    let from_later = part_some (many_in one count after) (give n) (ns, rest) from_first.2 in
    let ms = from_later.0.0 in
    let end = from_later.0.1 in
    let same = same_pair (n ∷ ms) ns end rest from_later.2 in
    let first : text ≡ written n ++ after = each text after n from_first.1 in
    let later : after ≡ flat_map written ms ++ end = many_only one written each count after ms end from_later.1 in
    first ∙ ap (λ (l : List ℕ). written n ++ l) later ∙ sym (append_assoc (written n) (flat_map written ms) end)
    ∙ (λ i. flat_map written (same.0 i) ++ same.1 i)
