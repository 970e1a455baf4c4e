-- The lines of tests that were read stand in the text.
use Rattle.std.proofs.Common.{◌≡◌, ◌∙◌, ℕ, zero, suc, List, [], ◌∷◌, ◌++◌, Option, Some, None, refl, sym, ap, inl, inr, append_assoc, codes}
use Rattle.std.specs.Prelude.{if◌then◌else◌, Ok}
use Rattle.std.specs.List.{concat, list_any}
use Rattle.std.specs.Str.{bytes_eq}
use Rattle.std.proofs.lemmas.Bool.{cases_Bool}
use Rattle.std.proofs.lemmas.List.{append-nil}
use Rattle.csv_records.specs.Names.{is_name}
use Rattle.mc_typed.specs.declared.plans.TestState.{TestState}
use Rattle.report_words.specs.Named.{state_named}
use Rattle.report_words.specs.Words.{state_word}
use Rattle.report_words.proofs.Naming.{named_have_words}
use Rattle.mc_record.specs.Lines.{newline, test_line, test_lines}
use Rattle.mc_record.specs.Parts.{read_on, strip, until, with_part}
use Rattle.mc_record.specs.Tests.{TestsRead, test_in, tests_in, with_test}
use Rattle.laws_records.proofs.Fronts.{part_some, strip_only, until_only}

-- ---- a line

abbrev Found : Type 0
Found = List ℕ × TestState × List ℕ

abbrev from_state : List ℕ → List ℕ → TestState → Option Found
from_state name after state = if is_name name then Some (name, state, after) else None

abbrev from_word : List ℕ → List ℕ × List ℕ → Option Found
from_word name word = with_part {B = Found} (state_named word.0) (from_state name word.1)

abbrev from_name : List ℕ × List ℕ → Option Found
from_name name = with_part {B = Found} (until 10 name.1) (from_word name.0)

named_so : (n name after rest : List ℕ) (s state : TestState) → from_state n after s ≡ Some (name, state, rest) → (n ≡ name) × (s ≡ state) × (after ≡ rest)
named_so n name after rest s state is = elim (cases_Bool (is_name n)) [
  | inl named ↦
      let e : ◌≡◌ {A = Option Found} (Some (n, s, after)) (Some (name, state, rest)) = rw named at is in
      let p : ◌≡◌ {A = Found} (n, s, after) (name, state, rest) = cc in
      (ap (λ (t : Found). t.0) p, ap (λ (t : Found). t.1) p, ap (λ (t : Found). t.2) p)
  | inr other ↦ absurd (cc (rw other at is))
]

line_shape : (name word rest : List ℕ) → name ++ 32 ∷ (word ++ 10 ∷ rest) ≡ (name ++ (codes " " ++ (word ++ newline))) ++ rest
line_shape name word rest =
    sym (append_assoc name (codes " " ++ (word ++ newline)) rest
    ∙ ap (λ (l : List ℕ). name ++ 32 ∷ l) (append_assoc word newline rest))

line_is : (text front n after word end name rest : List ℕ) (state : TestState) → text ≡ codes "test " ++ front → front ≡ n ++ 32 ∷ after → after ≡ word ++ 10 ∷ end → n ≡ name → word ≡ state_word state → end ≡ rest
    → text ≡ test_line name state ++ rest
line_is text front n after word end name rest state first second third same_name same_word same_end =
    let parts : front ≡ name ++ 32 ∷ (state_word state ++ 10 ∷ rest) = second ∙ ap (λ (l : List ℕ). n ++ 32 ∷ l) third ∙ (λ i. same_name i ++ 32 ∷ (same_word i ++ 10 ∷ same_end i)) in
    first ∙ ap (λ (l : List ℕ). codes "test " ++ l) (parts ∙ line_shape name (state_word state) rest)

pub test_only : (text name rest : List ℕ) (state : TestState) → test_in text ≡ Some (name, state, rest) → text ≡ test_line name state ++ rest
test_only text name rest state is =
    let front = part_some (strip (codes "test ") text) (λ line. with_part {B = Found} (until 32 line) from_name) (name, state, rest) is in
    let first = part_some (until 32 front.0) from_name (name, state, rest) front.2 in
    let second = part_some (until 10 first.0.1) (from_word first.0.0) (name, state, rest) first.2 in
    let third = part_some (state_named second.0.0) (from_state first.0.0 second.0.1) (name, state, rest) second.2 in
    let same = named_so first.0.0 name second.0.1 rest third.0 state third.2 in
    let word : second.0.0 ≡ state_word state = sym (named_have_words second.0.0 third.0 third.1).0 ∙ ap state_word same.1 in
    line_is text front.0 first.0.0 first.0.1 second.0.0 second.0.1 name rest state (strip_only (codes "test ") text front.0 front.1)
    (until_only 32 front.0 first.0.0 first.0.1 first.1) (until_only 10 first.0.1 second.0.0 second.0.1 second.1) same.0 word same.2

-- ---- all lines

-- the tests after those before, with their lines
record AreMore (names : List (List ℕ)) (states : List TestState) (n : ℕ) (text : List ℕ) (t : TestsRead) : Type 0 where
  pub names_after : List (List ℕ)
  pub states_after : List TestState
  pub names_are : t.names ≡ names ++ names_after
  pub states_are : t.states ≡ states ++ states_after
  pub lines : text ≡ concat (test_lines names_after states_after) ++ t.rest

one_more : (names : List (List ℕ)) (states : List TestState) (n : ℕ) (text name after : List ℕ) (state : TestState) (t : TestsRead) → text ≡ test_line name state ++ after
    → AreMore (names ++ name ∷ []) (states ++ state ∷ []) n after t → AreMore names states (suc n) text t
one_more names states n text name after state t line more = record {
  names_after = name ∷ more.names_after;
  states_after = state ∷ more.states_after;
  names_are = more.names_are ∙ append_assoc names (name ∷ []) more.names_after;
  states_are = more.states_are ∙ append_assoc states (state ∷ []) more.states_after;
  lines = line ∙ ap (λ (l : List ℕ). test_line name state ++ l) more.lines ∙ sym (append_assoc (test_line name state) (concat (test_lines more.names_after more.states_after)) t.rest);
}

tests_more : (n : ℕ) (names : List (List ℕ)) (states : List TestState) (text : List ℕ) (t : TestsRead) → tests_in names states n text ≡ Ok t → AreMore names states n text t
tests_more zero names states text t is =
    let e : ◌≡◌ {A = TestsRead} (record { names = names; states = states; rest = text }) t = cc in
    record {
      names_after = [];
      states_after = [];
      names_are = sym (ap (λ (x : TestsRead). x.names) e) ∙ sym (append-nil names);
      states_are = sym (ap (λ (x : TestsRead). x.states) e) ∙ sym (append-nil states);
      lines = ap (λ (x : TestsRead). x.rest) e;
    }
tests_more (suc n) names states text t is = by_test (test_in text) refl is (tests_more n)
  where
    by_test : (o : Option Found) → test_in text ≡ o → read_on (with_test names states o) (λ u. tests_in u.names u.states n u.rest) ≡ Ok t → ((names : List (List ℕ)) (states : List TestState) (text : List ℕ) (t : TestsRead) → tests_in names states n text ≡ Ok t → AreMore names states n text t) → AreMore names states (suc n) text t
    by_test None found read later = absurd (cc read)
    by_test (Some (name, state, after)) found read later = elim (cases_Bool (list_any (bytes_eq name) names)) [
      | inl again ↦ absurd (cc (rw again at read))
      | inr new ↦
          let more = later (names ++ name ∷ []) (states ++ state ∷ []) after t (rw new at read) in
          one_more names states n text name after state t (test_only text name after state found) more
    ]

pub tests_only : (n : ℕ) (text : List ℕ) (t : TestsRead) → tests_in [] [] n text ≡ Ok t → text ≡ concat (test_lines t.names t.states) ++ t.rest
tests_only n text t is =
    let more = tests_more n [] [] text t is in
    more.lines ∙ (λ i. concat (test_lines (sym more.names_are i) (sym more.states_are i)) ++ t.rest)
