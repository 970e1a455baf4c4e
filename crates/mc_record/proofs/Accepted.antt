-- What is read keeps what a record has to keep.
use Rattle.std.proofs.Common.{◌≡◌, ◌∙◌, ◌+◌, ◌≤◌, ℕ, Bool, true, false, nat_le, List, [], length, Option, Some, None, refl, sym, ap, subst, arith, inl, inr, codes}
use Rattle.std.specs.Prelude.{◌&&◌, Result, Ok, Err, ℤ, pos, negsuc}
use Rattle.std.proofs.lemmas.Bool.{cases_Bool}
use Rattle.std.proofs.lemmas.Bool.Decides.{nat_tests}
use Rattle.mc_limits.specs.Limits.{most_bits, most_tests, most_words}
use Rattle.mc_core.specs.Matrix.{HasNoSpareBit}
use Rattle.mc_core.specs.Shape.{word_count}
use Rattle.mc_core.specs.declared.shape.Shape.{Shape}
use Rattle.csv_records.specs.Numbers.{number_of}
use Rattle.mc_record.specs.Bits.{bits_in}
use Rattle.mc_record.specs.Kept.{Kept, IsKept}
use Rattle.mc_record.specs.Parts.{read_on, strip, until, with_part}
use Rattle.mc_record.specs.Reading.{after_bits, after_header, after_source, body_in, count_in, head_in, is_end, or_shape, record_of, test_count, with_words}
use Rattle.mc_record.specs.Tests.{TestsRead, tests_in}
use Rattle.mc_record.specs.declared.fault.RecordFault.{RecordFault}
use Rattle.mc_record.specs.declared.fault.RecordFault.TheVariants as fault
use Rattle.mc_record.proofs.BitLines.{AreRows, bits_are}
use Rattle.mc_record.proofs.Numbers.{and_parts}
use Rattle.mc_record.proofs.TestLines.{AreTests, tests_are}

-- ---- parts that were there

read_ok : {A B : Type 0} (r : Result A RecordFault) (f : A → Result B RecordFault) (b : B) → read_on r f ≡ Ok b → (a : A) × (r ≡ Ok a) × (f a ≡ Ok b)
read_ok (Ok a) f b is = (a, refl, is)
read_ok (Err e) f b is = absurd (cc is)

part_some : {A B : Type 0} (o : Option A) (f : A → Option B) (b : B) → with_part o f ≡ Some b → (a : A) × (o ≡ Some a) × (f a ≡ Some b)
part_some (Some a) f b is = (a, refl, is)
part_some None f b is = absurd (cc is)

shape_ok : {A : Type 0} (line : ℕ) (o : Option A) (a : A) → or_shape line o ≡ Ok a → o ≡ Some a
shape_ok line (Some x) a is = cc
shape_ok line None a is = absurd (cc is)

-- ---- the number of tests

counted : (bits : ℕ) (o : Option ℤ) (tests : ℕ) → test_count bits o ≡ Some tests → (tests ≤ most_tests) × (word_count (record { bits = bits; tests = tests }) ≤ most_words)
counted bits None tests is = absurd (cc is)
counted bits (Some (negsuc n)) tests is = absurd (cc is)
counted bits (Some (pos n)) tests is = elim (cases_Bool (nat_le n most_tests && nat_le (word_count (record { bits = bits; tests = n })) most_words)) [
  | inl fits ↦
      let e : ◌≡◌ {A = Option ℕ} (Some n) (Some tests) = rw fits at is in
      let same : n ≡ tests = cc in
      let parts = and_parts (nat_le n most_tests) (nat_le (word_count (record { bits = bits; tests = n })) most_words) fits in
      let few : n ≤ most_tests = grind (arith, nat_tests, parts.0) in
      let small : word_count (record { bits = bits; tests = n }) ≤ most_words = grind (arith, nat_tests, parts.1) in
      subst (λ m. (m ≤ most_tests) × (word_count (record { bits = bits; tests = m }) ≤ most_words)) same (few, small)
  | inr over ↦ absurd (cc (rw over at is))
]

pub head_small : (digest : List ℕ) (bits : ℕ) (old_rules : Bool) (text : List ℕ) (tests : ℕ) (rest : List ℕ) → head_in digest bits old_rules text ≡ Ok (tests, rest) → (tests ≤ most_tests) × (word_count (record { bits = bits; tests = tests }) ≤ most_words)
head_small digest bits old_rules text tests rest is =
    let third : List ℕ → Result (ℕ × List ℕ) RecordFault = λ r. or_shape 4 (count_in bits r) in
    let second : List ℕ → Result (ℕ × List ℕ) RecordFault = λ r. read_on (after_bits bits r) third in
    let first : List ℕ → Result (ℕ × List ℕ) RecordFault = λ r. read_on (after_source digest r) second in
    let one = read_ok (after_header old_rules text) first (tests, rest) is in
    let two = read_ok (after_source digest one.0) second (tests, rest) one.2 in
    let three = read_ok (after_bits bits two.0) third (tests, rest) two.2 in
    let count = shape_ok 4 (count_in bits three.0) (tests, rest) three.2 in
    let give : List ℕ → ℕ → Option (ℕ × List ℕ) = λ after t. Some (t, after) in
    let number : List ℕ × List ℕ → Option (ℕ × List ℕ) = λ n. with_part {B = ℕ × List ℕ} (test_count bits (number_of n.0)) (give n.1) in
    let line : List ℕ → Option (ℕ × List ℕ) = λ l. with_part {B = ℕ × List ℕ} (until 10 l) number in
    let from_line = part_some (strip (codes "tests ") three.0) line (tests, rest) count in
    let from_number = part_some (until 10 from_line.0) number (tests, rest) from_line.2 in
    let from_count = part_some (test_count bits (number_of from_number.0.0)) (give from_number.0.1) (tests, rest) from_number.2 in
    let e : ◌≡◌ {A = Option (ℕ × List ℕ)} (Some (from_count.0, from_number.0.1)) (Some (tests, rest)) = from_count.2 in
    let p : ◌≡◌ {A = ℕ × List ℕ} (from_count.0, from_number.0.1) (tests, rest) = cc in
    let same : from_count.0 ≡ tests = ap (λ (x : ℕ × List ℕ). x.0) p in
    counted bits (number_of from_number.0.0) tests (from_count.1 ∙ ap (λ n. Some n) same)

-- ---- the words

no_rows : (shape : Shape) → AreRows shape 0 []
no_rows shape = record { many = omega arith; clear = λ a t less. absurd (omega (arith, less)) }

pub words_are : (shape : Shape) (text found rest : List ℕ) → bits_in shape 0 [] shape.bits text ≡ Ok (found, rest) → (length found ≡ word_count shape) × HasNoSpareBit shape found
words_are shape text found rest is =
    let all : 0 + shape.bits ≡ shape.bits = omega arith in
    let are : AreRows shape shape.bits found = subst (λ n. AreRows shape n found) all (bits_are shape shape.bits 0 [] text found rest (no_rows shape) is) in
    (are.many, are.clear)

-- ---- the body, step by step

module _ (digest : List ℕ) (shape : Shape) (text : List ℕ) where
  abbrev from_tests : TestsRead → Result Kept RecordFault
  from_tests t = read_on (bits_in shape 0 [] shape.bits t.rest) (λ w. with_words digest shape t w)

  pub body_tests_fault : (e : RecordFault) → tests_in [] [] shape.tests text ≡ Err e → body_in digest shape text ≡ Err e
  body_tests_fault e is = ap (λ (r : Result TestsRead RecordFault). read_on r from_tests) is

  module _ (t : TestsRead) (tests : tests_in [] [] shape.tests text ≡ Ok t) where
    start : body_in digest shape text ≡ from_tests t
    start = ap (λ (r : Result TestsRead RecordFault). read_on r from_tests) tests

    pub body_bits_fault : (e : RecordFault) → bits_in shape 0 [] shape.bits t.rest ≡ Err e → body_in digest shape text ≡ Err e
    body_bits_fault e is = start ∙ ap (λ (r : Result (List ℕ × List ℕ) RecordFault). read_on r (λ w. with_words digest shape t w)) is

    module _ (words rest : List ℕ) (bits : bits_in shape 0 [] shape.bits t.rest ≡ Ok (words, rest)) where
      later : body_in digest shape text ≡ with_words digest shape t (words, rest)
      later = start ∙ ap (λ (r : Result (List ℕ × List ℕ) RecordFault). read_on r (λ w. with_words digest shape t w)) bits

      pub body_end_fault : is_end rest ≡ false → body_in digest shape text ≡ Err (fault.Ending (5 + shape.tests + shape.bits))
      body_end_fault other = later ∙ rw other refl

      pub body_found : is_end rest ≡ true → body_in digest shape text ≡ Ok (record { digest = digest; names = t.names; states = t.states; matrix = record { shape = shape; words = words } })
      body_found last = later ∙ rw last refl

-- ---- the whole

no_tests : (text : List ℕ) → AreTests (record { names = []; states = []; rest = text })
no_tests text = record { many = refl; named = refl; distinct = refl; judged = λ k d inside. absurd (omega (arith, inside)) }

pub body_is_kept : (digest : List ℕ) (shape : Shape) (text : List ℕ) (k : Kept) → shape.bits ≤ most_bits → shape.tests ≤ most_tests → word_count shape ≤ most_words → body_in digest shape text ≡ Ok k → IsKept k
body_is_kept digest shape text k few_bits few_tests few_words is =
    let t = read_ok (tests_in [] [] shape.tests text) (from_tests digest shape text) k is in
    let w = read_ok (bits_in shape 0 [] shape.bits t.0.rest) (with_words digest shape t.0) k t.2 in
    let are = tests_are shape.tests [] [] text t.0 (no_tests text) t.1 in
    let names : length t.0.names ≡ shape.tests = omega (arith, are.1) in
    by_end t.0 w.0 (is_end w.0.1) refl w.2 are.0 names
  where
    by_end : (t : TestsRead) (w : List ℕ × List ℕ) (b : Bool) → is_end w.1 ≡ b → with_words digest shape t w ≡ Ok k → AreTests t → length t.names ≡ shape.tests → IsKept k
    by_end t w true last found are names =
        let e : ◌≡◌ {A = Result Kept RecordFault} (Ok (record { digest = digest; names = t.names; states = t.states; matrix = record { shape = shape; words = w.0 } })) (Ok k) = rw last at found in
        let same : record { digest = digest; names = t.names; states = t.states; matrix = record { shape = shape; words = w.0 } } ≡ k = cc in
        subst IsKept same (record {
          names = names;
          states = omega (arith, are.many, names);
          named = are.named;
          distinct = are.distinct;
          judged = are.judged;
          few_bits = few_bits;
          few_tests = few_tests;
          few_words = few_words;
        })
    by_end t w false last found are names = absurd (cc (rw last at found))

pub record_is_kept : (digest : List ℕ) (bits : ℕ) (old_rules : Bool) (text : List ℕ) (k : Kept) → bits ≤ most_bits → record_of digest bits old_rules text ≡ Ok k → IsKept k
record_is_kept digest bits old_rules text k few is =
    let body : ℕ × List ℕ → Result Kept RecordFault = λ head. body_in digest (record { bits = bits; tests = head.0 }) head.1 in
    let head = read_ok (head_in digest bits old_rules text) body k is in
    let small = head_small digest bits old_rules text head.0.0 head.0.1 head.1 in
    body_is_kept digest (record { bits = bits; tests = head.0.0 }) head.0.1 k few small.0 small.1 head.2

-- a record that is read has the digest of the source and the bits of its program
body_is_of : (digest : List ℕ) (shape : Shape) (text : List ℕ) (k : Kept) → body_in digest shape text ≡ Ok k → (k.digest ≡ digest) × (k.matrix.shape ≡ shape)
body_is_of digest shape text k is =
    let t = read_ok (tests_in [] [] shape.tests text) (from_tests digest shape text) k is in
    let w = read_ok (bits_in shape 0 [] shape.bits t.0.rest) (with_words digest shape t.0) k t.2 in
    by_end t.0 w.0 (is_end w.0.1) refl w.2
  where
    by_end : (t : TestsRead) (w : List ℕ × List ℕ) (b : Bool) → is_end w.1 ≡ b → with_words digest shape t w ≡ Ok k → (k.digest ≡ digest) × (k.matrix.shape ≡ shape)
    by_end t w true last found =
        let e : ◌≡◌ {A = Result Kept RecordFault} (Ok (record { digest = digest; names = t.names; states = t.states; matrix = record { shape = shape; words = w.0 } })) (Ok k) = rw last at found in
        let same : record { digest = digest; names = t.names; states = t.states; matrix = record { shape = shape; words = w.0 } } ≡ k = cc in
        (sym (ap (λ (x : Kept). x.digest) same), sym (ap (λ (x : Kept). x.matrix.shape) same))
    by_end t w false last found = absurd (cc (rw last at found))

pub record_is_of : (digest : List ℕ) (bits : ℕ) (old_rules : Bool) (text : List ℕ) (k : Kept) → record_of digest bits old_rules text ≡ Ok k → (k.digest ≡ digest) × (k.matrix.shape.bits ≡ bits)
record_is_of digest bits old_rules text k is =
    let body : ℕ × List ℕ → Result Kept RecordFault = λ head. body_in digest (record { bits = bits; tests = head.0 }) head.1 in
    let head = read_ok (head_in digest bits old_rules text) body k is in
    let of = body_is_of digest (record { bits = bits; tests = head.0.0 }) head.0.1 k head.2 in
    (of.0, ap (λ (s : Shape). s.bits) of.1)

pub head_fault : (digest : List ℕ) (bits : ℕ) (old_rules : Bool) (text : List ℕ) (e : RecordFault) → head_in digest bits old_rules text ≡ Err e → record_of digest bits old_rules text ≡ Err e
head_fault digest bits old_rules text e is = ap (λ (r : Result (ℕ × List ℕ) RecordFault). read_on r (λ head. body_in digest (record { bits = bits; tests = head.0 }) head.1)) is

pub head_found : (digest : List ℕ) (bits : ℕ) (old_rules : Bool) (text : List ℕ) (tests : ℕ) (rest : List ℕ) → head_in digest bits old_rules text ≡ Ok (tests, rest) → record_of digest bits old_rules text ≡ body_in digest (record { bits = bits; tests = tests }) rest
head_found digest bits old_rules text tests rest is = ap (λ (r : Result (ℕ × List ℕ) RecordFault). read_on r (λ head. body_in digest (record { bits = bits; tests = head.0 }) head.1)) is
