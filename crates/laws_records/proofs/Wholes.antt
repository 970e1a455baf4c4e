-- A text that was read is the text of its record.
use Rattle.std.proofs.Common.{◌≡◌, ◌∙◌, ◌≤◌, ℕ, Bool, true, false, List, [], ◌∷◌, ◌++◌, refl, sym, ap, subst, inl, inr}
use Rattle.std.specs.Prelude.{Result, Ok}
use Rattle.std.specs.List.{concat}
use Rattle.std.proofs.lemmas.List.{append-nil}
use Rattle.std.proofs.lemmas.List.Folds.{concat-append}
use Rattle.std.proofs.lemmas.Slice.Eq.{bytes_eq-Decides}
use Rattle.mc_limits.specs.Limits.{most_bits}
use Rattle.mc_core.specs.Laws.{AreWords}
use Rattle.mc_core.specs.declared.shape.Shape.{Shape}
use Rattle.mc_record.specs.Bits.{bits_in}
use Rattle.mc_record.specs.Kept.{Kept}
use Rattle.mc_record.specs.Laws.{IsDigest}
use Rattle.mc_record.specs.Lines.{bit_lines, bits_line, end_line, later_lines, source_line, test_lines, tests_line}
use Rattle.mc_record.specs.Parts.{read_on}
use Rattle.mc_record.specs.Reading.{body_in, head_in, is_end, record_of, with_words}
use Rattle.mc_record.specs.Tests.{TestsRead, tests_in}
use Rattle.mc_record.specs.declared.fault.RecordFault.{RecordFault}
use Rattle.mc_record.proofs.Accepted.{record_is_kept, words_are}
use Rattle.mc_record.proofs.Composed.{old_read, written_read}
use Rattle.laws_records.specs.Texts.{IsOf, IsText, TextsAreRead}
use Rattle.laws_records.proofs.BitLines.{bits_only}
use Rattle.laws_records.proofs.Fronts.{read_ok}
use Rattle.laws_records.proofs.Heads.{IsFirst, head_only}
use Rattle.laws_records.proofs.TestLines.{tests_only}

-- ---- what follows the first four lines

abbrev body_of : Kept → List ℕ
body_of k = concat (test_lines k.names k.states) ++ (concat (bit_lines k.matrix) ++ end_line)

record IsBody (given : List ℕ) (read : Shape) (text : List ℕ) (k : Kept) : Type 0 where
  pub digest : k.digest ≡ given
  pub shape : k.matrix.shape ≡ read
  pub words : AreWords k.matrix.shape k.matrix.words
  pub lines : text ≡ body_of k

abbrev kept_as : List ℕ → Shape → TestsRead → List ℕ → Kept
kept_as digest shape t words = record { digest = digest; names = t.names; states = t.states; matrix = record { shape = shape; words = words } }

body_only : (digest : List ℕ) (shape : Shape) (text : List ℕ) (k : Kept) → body_in digest shape text ≡ Ok k → IsBody digest shape text k
body_only digest shape text k is =
    let from_tests : TestsRead → Result Kept RecordFault = λ t. read_on (bits_in shape 0 [] shape.bits t.rest) (λ w. with_words digest shape t w) in
    let t = read_ok (tests_in [] [] shape.tests text) from_tests k is in
    let w = read_ok (bits_in shape 0 [] shape.bits t.0.rest) (with_words digest shape t.0) k t.2 in
    by_end t.0 w.0.0 w.0.1 (is_end w.0.1) refl w.2 (tests_only shape.tests text t.0 t.1) w.1
  where
    by_end : (t : TestsRead) (words rest : List ℕ) (b : Bool) → is_end rest ≡ b → with_words digest shape t (words, rest) ≡ Ok k → text ≡ concat (test_lines t.names t.states) ++ t.rest
        → bits_in shape 0 [] shape.bits t.rest ≡ Ok (words, rest) → IsBody digest shape text k
    by_end t words rest false other found tests bits = absurd (cc (rw other at found))
    by_end t words rest true last found tests bits =
        let e : ◌≡◌ {A = Result Kept RecordFault} (Ok (kept_as digest shape t words)) (Ok k) = rw last at found in
        let same : kept_as digest shape t words ≡ k = cc in
        let end : rest ≡ end_line = (bytes_eq-Decides rest end_line).0 last in
        let only = bits_only shape t.rest words rest bits in
        let are = words_are shape t.rest words rest bits in
        subst (IsBody digest shape text) same (record {
          digest = refl;
          shape = refl;
          words = record { sound = record { whole = are.0; spare = are.1 }; fit = only.1 };
          lines = tests ∙ ap (λ (l : List ℕ). concat (test_lines t.names t.states) ++ l) (only.0 ∙ ap (λ (l : List ℕ). concat (bit_lines (record { shape = shape; words = words })) ++ l) end);
        })

-- ---- the whole

later_text : (k : Kept) → concat (later_lines k) ≡ source_line k.digest ++ (bits_line k.matrix.shape.bits ++ (tests_line k.matrix.shape.tests ++ body_of k))
later_text k =
    let last : concat (bit_lines k.matrix ++ end_line ∷ []) ≡ concat (bit_lines k.matrix) ++ end_line = concat-append (bit_lines k.matrix) (end_line ∷ []) ∙ ap (λ (l : List ℕ). concat (bit_lines k.matrix) ++ l) (append-nil end_line) in
    let body : concat (test_lines k.names k.states ++ (bit_lines k.matrix ++ end_line ∷ [])) ≡ body_of k =
    concat-append (test_lines k.names k.states) (bit_lines k.matrix ++ end_line ∷ []) ∙ ap (λ (l : List ℕ). concat (test_lines k.names k.states) ++ l) last in
    ap (λ (l : List ℕ). source_line k.digest ++ (bits_line k.matrix.shape.bits ++ (tests_line k.matrix.shape.tests ++ l))) body

text_is : (old_rules : Bool) (k : Kept) (text first : List ℕ) → IsFirst old_rules first → text ≡ first ++ concat (later_lines k) → IsText old_rules k text
text_is old_rules k text first (inl new) is = inl (is ∙ ap (λ (l : List ℕ). l ++ concat (later_lines k)) new)
text_is old_rules k text first (inr (rules, old)) is = inr (rules, is ∙ ap (λ (l : List ℕ). l ++ concat (later_lines k)) old)

read_only : (digest : List ℕ) (bits : ℕ) (old_rules : Bool) (text : List ℕ) (k : Kept) → IsDigest digest → bits ≤ most_bits → record_of digest bits old_rules text ≡ Ok k → IsOf digest bits k × IsText old_rules k text
read_only digest bits old_rules text k of few is =
    let from_head : ℕ × List ℕ → Result Kept RecordFault = λ head. body_in digest (record { bits = bits; tests = head.0 }) head.1 in
    let read = read_ok (head_in digest bits old_rules text) from_head k is in
    let tests = read.0.0 in
    let rest = read.0.1 in
    let head = head_only digest bits old_rules text tests rest read.1 in
    let body = body_only digest (record { bits = bits; tests = tests }) rest k read.2 in
    let text_of : text ≡ head.first ++ concat (later_lines k) =
    head.lines
    ∙ ap (λ (l : List ℕ). head.first ++ l) (
    (λ i. source_line (sym body.digest i) ++ (bits_line (sym body.shape i).bits ++ (tests_line (sym body.shape i).tests ++ body.lines i)))
    ∙ sym (later_text k)
    ) in (
      record {
        written = record {
          kept = record_is_kept digest bits old_rules text k few is;
          digest = subst IsDigest (sym body.digest) of;
          words = body.words;
        };
        digest = body.digest;
        bits = ap (λ (s : Shape). s.bits) body.shape;
      },
      text_is old_rules k text head.first head.is_first text_of,
    )

written_is : (digest : List ℕ) (bits : ℕ) (old_rules : Bool) (text : List ℕ) (k : Kept) → IsOf digest bits k → IsText old_rules k text → record_of digest bits old_rules text ≡ Ok k
written_is digest bits old_rules text k of (inl is) = (λ i. record_of (sym of.digest i) (sym of.bits i) old_rules (is i)) ∙ written_read k old_rules of.written
written_is digest bits old_rules text k of (inr (rules, is)) = (λ i. record_of (sym of.digest i) (sym of.bits i) (rules i) (is i)) ∙ old_read k of.written

pub texts_are_read : TextsAreRead
texts_are_read digest bits old_rules text k of few =
    (λ is. read_only digest bits old_rules text k of few is, λ both. written_is digest bits old_rules text k both.0 both.1)
