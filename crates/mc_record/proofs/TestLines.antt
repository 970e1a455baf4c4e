-- Tests that were written are read as the same tests.
use Rattle.std.proofs.Common.{◌≡◌, ◌≢◌, ◌∙◌, ◌+◌, ◌-◌, ◌<◌, ◌≤◌, ℕ, zero, suc, Bool, true, false, not, List, [], ◌∷◌, ◌++◌, length, Option, Some, None, refl, sym, ap, subst, arith, inl, inr, append_assoc, codes}
use Rattle.std.specs.Prelude.{◌&&◌, ◌||◌, All, if◌then◌else◌, Result, Ok, Err}
use Rattle.std.specs.List.{concat, list_all, list_any}
use Rattle.std.specs.Str.{bytes_eq}
use Rattle.std.proofs.lemmas.Bool.{cases_Bool, false≢true}
use Rattle.std.proofs.lemmas.List.{append-nil, length_push}
use Rattle.std.proofs.lemmas.List.Elements.{All-push}
use Rattle.std.proofs.lemmas.List.Folds.{list_all-append}
use Rattle.std.proofs.lemmas.Slice.Eq.{bytes_eq-Decides}
use Rattle.csv_records.specs.Names.{is_name, is_name_byte}
use Rattle.mc_typed.specs.declared.plans.Ending.TheVariants as ending
use Rattle.mc_typed.specs.declared.plans.TestState.{TestState}
use Rattle.mc_typed.specs.declared.plans.TestState.TheVariants.{Pass, Fail, Ended}
use Rattle.mc_value.specs.declared.trap.Trap.TheVariants.{Overflow, Division, Shift, Index, Unset, NoReturn, InputEnd}
use Rattle.report_words.specs.Words.{state_word}
use Rattle.report_words.specs.Named.{state_named}
use Rattle.report_words.proofs.Naming.{named_by_word, named_have_words}
use Rattle.mc_record.specs.Kept.{are_distinct}
use Rattle.mc_record.specs.Lines.{newline, test_line, test_lines}
use Rattle.mc_record.specs.Parts.{read_on, strip, until, with_part}
use Rattle.mc_record.specs.Tests.{TestsRead, test_in, tests_in, with_test}
use Rattle.mc_record.specs.declared.fault.RecordFault.{RecordFault}
use Rattle.mc_record.specs.declared.fault.RecordFault.TheVariants as fault
use Rattle.mc_record.proofs.Fronts.{lacks, until_front}
use Rattle.mc_record.proofs.Numbers.{and_parts, lacks_all}

-- ---- a line

name_lacks : (name : List ℕ) → is_name name ≡ true → lacks 32 name ≡ true
name_lacks name is = lacks_all is_name_byte 32 name refl (and_parts _ (list_all is_name_byte name) is).1

word_lacks : (state : TestState) → lacks 10 (state_word state) ≡ true
word_lacks Pass = refl
word_lacks Fail = refl
word_lacks (Ended ending.Returned) = refl
word_lacks (Ended (ending.Trap Overflow)) = refl
word_lacks (Ended (ending.Trap Division)) = refl
word_lacks (Ended (ending.Trap Shift)) = refl
word_lacks (Ended (ending.Trap Index)) = refl
word_lacks (Ended (ending.Trap Unset)) = refl
word_lacks (Ended (ending.Trap NoReturn)) = refl
word_lacks (Ended (ending.Trap InputEnd)) = refl
word_lacks (Ended ending.Fuel) = refl
word_lacks (Ended ending.Levels) = refl
word_lacks (Ended ending.Cells) = refl
word_lacks (Ended ending.OutputFull) = refl

-- a name and a word, as they are found
abbrev parts_of : List ℕ → Option (List ℕ × TestState × List ℕ)
parts_of line =
    with_part (until 32 line) (λ name.
    with_part (until 10 name.1) (λ word.
    with_part (state_named word.0) (λ state.
    if is_name name.0 then Some (name.0, state, word.1) else None)))

parts_read : (name word rest : List ℕ) (state : TestState) → is_name name ≡ true → lacks 32 name ≡ true → lacks 10 word ≡ true → state_named word ≡ Some state → parts_of (name ++ 32 ∷ (word ++ 10 ∷ rest)) ≡ Some (name, state, rest)
parts_read name word rest state is first second named =
    rw (until_front 32 name (word ++ 10 ∷ rest) first, until_front 10 word rest second, named, is) refl

line_shape : (name word rest : List ℕ) → (name ++ (codes " " ++ (word ++ newline))) ++ rest ≡ name ++ 32 ∷ (word ++ 10 ∷ rest)
line_shape name word rest =
    append_assoc name (codes " " ++ (word ++ newline)) rest
    ∙ ap (λ (l : List ℕ). name ++ 32 ∷ l) (append_assoc word newline rest)

pub test_read : (name rest : List ℕ) (state : TestState) → is_name name ≡ true → state ≢ Ended ending.Returned → test_in (test_line name state ++ rest) ≡ Some (name, state, rest)
test_read name rest state is judged =
    ap parts_of (line_shape name (state_word state) rest)
    ∙ parts_read name (state_word state) rest state is (name_lacks name is) (word_lacks state) (named_by_word state judged)

-- ---- names that are new

pub eq_swapped : (a b : List ℕ) → bytes_eq a b ≡ bytes_eq b a
eq_swapped a b = elim (cases_Bool (bytes_eq a b)) [
  | inl same ↦ same ∙ sym ((bytes_eq-Decides b a).1 (sym ((bytes_eq-Decides a b).0 same)))
  | inr differ ↦ elim (cases_Bool (bytes_eq b a)) [
    | inl back ↦ absurd (false≢true (sym differ ∙ (bytes_eq-Decides a b).1 (sym ((bytes_eq-Decides b a).0 back))))
    | inr apart ↦ differ ∙ sym apart
  ]
]

or_none : (a : Bool) → (a || false) ≡ a
or_none true = refl
or_none false = refl

or_assoc : (a b c : Bool) → (a || (b || c)) ≡ ((a || b) || c)
or_assoc true b c = refl
or_assoc false b c = refl

pub any_more : (f : List ℕ → Bool) (xs : List (List ℕ)) (y : List ℕ) → list_any f (xs ++ y ∷ []) ≡ (list_any f xs || f y)
any_more f [] y = or_none (f y)
any_more f (x ∷ xs) y = ap (λ b. f x || b) (any_more f xs y) ∙ or_assoc (f x) (list_any f xs) (f y)

-- none of the names stands among those seen
abbrev pub are_new : List (List ℕ) → List (List ℕ) → Bool
are_new seen names = list_all (λ n. not (list_any (bytes_eq n) seen)) names

neither : (a b : Bool) → not a ≡ true → b ≡ false → not (a || b) ≡ true
neither true b is other = absurd (false≢true is)
neither false b is other = ap not other

or_parts : (a b : Bool) → not (a || b) ≡ true → (a ≡ false) × (not b ≡ true)
or_parts true b is = absurd (false≢true is)
or_parts false b is = (refl, is)

pub new_more : (seen : List (List ℕ)) (n : List ℕ) (names : List (List ℕ)) → are_new seen names ≡ true → not (list_any (bytes_eq n) names) ≡ true → are_new (seen ++ n ∷ []) names ≡ true
new_more seen n [] new other = refl
new_more seen n (m ∷ names) new other =
    let parts = and_parts (not (list_any (bytes_eq m) seen)) (are_new seen names) new in
    let apart = or_parts (bytes_eq n m) (list_any (bytes_eq n) names) other in
    let here : not (list_any (bytes_eq m) (seen ++ n ∷ [])) ≡ true = ap not (any_more (bytes_eq m) seen n) ∙ neither (list_any (bytes_eq m) seen) (bytes_eq m n) parts.0 (eq_swapped m n ∙ apart.0) in
    rw here (new_more seen n names parts.1 apart.1)

is_not : (a : Bool) → not a ≡ true → a ≡ false
is_not true is = absurd (false≢true is)
is_not false is = refl

-- ---- all lines

abbrev with_both : List (List ℕ) → List TestState → List (List ℕ) → List TestState → List ℕ → TestsRead
with_both seen states names more rest = record { names = seen ++ names; states = states ++ more; rest = rest }

both_more : (seen : List (List ℕ)) (states : List TestState) (n : List ℕ) (s : TestState) (names : List (List ℕ)) (more : List TestState) (rest : List ℕ)
    → with_both (seen ++ n ∷ []) (states ++ s ∷ []) names more rest ≡ with_both seen states (n ∷ names) (s ∷ more) rest
both_more seen states n s names more rest =
    ap (λ (l : List (List ℕ)). let t : TestsRead = record { names = l; states = (states ++ s ∷ []) ++ more; rest = rest } in t) (append_assoc seen (n ∷ []) names)
    ∙ ap (λ (l : List TestState). let t : TestsRead = record { names = seen ++ n ∷ names; states = l; rest = rest } in t) (append_assoc states (s ∷ []) more)

both_none : (seen : List (List ℕ)) (states : List TestState) (rest : List ℕ) → record { names = seen; states = states; rest = rest } ≡ with_both seen states [] [] rest
both_none seen states rest =
    ap (λ (l : List (List ℕ)). let t : TestsRead = record { names = l; states = states; rest = rest } in t) (sym (append-nil seen))
    ∙ ap (λ (l : List TestState). let t : TestsRead = record { names = seen ++ []; states = l; rest = rest } in t) (sym (append-nil states))

pub tests_read : (seen : List (List ℕ)) (states : List TestState) (names : List (List ℕ)) (more : List TestState) (rest : List ℕ) → length more ≡ length names → list_all is_name names ≡ true → are_distinct names ≡ true → are_new seen names ≡ true → All (λ s. s ≢ Ended ending.Returned) more
    → tests_in seen states (length names) (concat (test_lines names more) ++ rest) ≡ Ok (with_both seen states names more rest)
tests_read seen states [] [] rest many named distinct new judged = ap Ok (both_none seen states rest)
tests_read seen states [] (s ∷ more) rest many named distinct new judged = absurd (omega (arith, many))
tests_read seen states (n ∷ names) [] rest many named distinct new judged = absurd (omega (arith, many))
tests_read seen states (n ∷ names) (s ∷ more) rest many named distinct new judged =
    let name = and_parts (is_name n) (list_all is_name names) named in
    let apart = and_parts (not (list_any (bytes_eq n) names)) (are_distinct names) distinct in
    let fresh = and_parts (not (list_any (bytes_eq n) seen)) (are_new seen names) new in
    let line : test_in ((test_line n s ++ concat (test_lines names more)) ++ rest) ≡ Some (n, s, concat (test_lines names more) ++ rest) =
    ap test_in (append_assoc (test_line n s) (concat (test_lines names more)) rest) ∙ test_read n (concat (test_lines names more) ++ rest) s name.0 (judged 0 s (omega arith)) in
    let later = tests_read (seen ++ n ∷ []) (states ++ s ∷ []) names more rest (omega (arith, many)) name.1 apart.1 (new_more seen n names fresh.1 apart.0) (λ k d inside. judged (suc k) d (omega (arith, inside))) in
    ap (λ (o : Option (List ℕ × TestState × List ℕ)). read_on (with_test seen states o) (λ t. tests_in t.names t.states (length names) t.rest)) line
    ∙ rw (is_not (list_any (bytes_eq n) seen) fresh.0) (later ∙ ap Ok (both_more seen states n s names more rest))

-- ---- a line, step by step

module _ (names : List (List ℕ)) (states : List TestState) (text : List ℕ) where
  pub test_none : test_in text ≡ None → with_test names states (test_in text) ≡ Err (fault.Word (5 + length names))
  test_none none = rw none refl

  module _ (name rest : List ℕ) (state : TestState) (found : test_in text ≡ Some (name, state, rest)) where
    pub test_again : list_any (bytes_eq name) names ≡ true → with_test names states (test_in text) ≡ Err (fault.NameAgain (5 + length names))
    test_again again = rw (found, again) refl

    pub test_new : (after : List (List ℕ)) (later : List TestState) → list_any (bytes_eq name) names ≡ false → after ≡ names ++ name ∷ [] → later ≡ states ++ state ∷ []
        → with_test names states (test_in text) ≡ Ok (record { names = after; states = later; rest = rest })
    test_new after later new names_are states_are =
        rw (found, new)
        (ap (λ (l : List (List ℕ)). let t : TestsRead = record { names = l; states = states ++ state ∷ []; rest = rest } in let r : Result TestsRead RecordFault = Ok t in r) (sym names_are)
        ∙ ap (λ (l : List TestState). let t : TestsRead = record { names = after; states = l; rest = rest } in let r : Result TestsRead RecordFault = Ok t in r) (sym states_are))

-- one test more, of those that are left
pub tests_step : (count i : ℕ) (names : List (List ℕ)) (states : List TestState) (text : List ℕ) (t : TestsRead) → i < count → with_test names states (test_in text) ≡ Ok t → tests_in names states (count - i) text ≡ tests_in t.names t.states (count - (i + 1)) t.rest
tests_step count i names states text t less is =
    let more : count - i ≡ suc (count - (i + 1)) = omega arith in
    rw more (ap (λ (r : Result TestsRead RecordFault). read_on r (λ t. tests_in t.names t.states (count - (i + 1)) t.rest)) is)

pub tests_stop : (count i : ℕ) (names : List (List ℕ)) (states : List TestState) (text : List ℕ) (e : RecordFault) → i < count → with_test names states (test_in text) ≡ Err e → tests_in names states (count - i) text ≡ Err e
tests_stop count i names states text e less is =
    let more : count - i ≡ suc (count - (i + 1)) = omega arith in
    rw more (ap (λ (r : Result TestsRead RecordFault). read_on r (λ t. tests_in t.names t.states (count - (i + 1)) t.rest)) is)

pub tests_done : (count i : ℕ) (names : List (List ℕ)) (states : List TestState) (text : List ℕ) → count ≤ i → tests_in names states (count - i) text ≡ Ok (record { names = names; states = states; rest = text })
tests_done count i names states text over = let none : count - i ≡ 0 = omega arith in rw none refl

-- ---- what is read

-- a test that a line has can be written
pub record IsTest (name : List ℕ) (state : TestState) : Type 0 where
  pub named : is_name name ≡ true
  pub judged : state ≢ Ended ending.Returned

test_is : (text name rest : List ℕ) (state : TestState) → test_in text ≡ Some (name, state, rest) → IsTest name state
test_is text name rest state is = by_line (strip (codes "test ") text) is
  where
    by_state : (n word after : List ℕ) (o : Option TestState) → state_named word ≡ o → with_part {B = List ℕ × TestState × List ℕ} o (λ s. if is_name n then Some (n, s, after) else None) ≡ Some (name, state, rest) → IsTest name state
    by_state n word after None is found = absurd (cc found)
    by_state n word after (Some s) is found = elim (cases_Bool (is_name n)) [
      | inl named ↦
          let e : ◌≡◌ {A = Option (List ℕ × TestState × List ℕ)} (Some (n, s, after)) (Some (name, state, rest)) = rw named at found in
          let p : ◌≡◌ {A = List ℕ × TestState × List ℕ} (n, s, after) (name, state, rest) = cc in
          let same_name : n ≡ name = ap (λ (t : List ℕ × TestState × List ℕ). t.0) p in
          let same_state : s ≡ state = ap (λ (t : List ℕ × TestState × List ℕ). t.1) p in
          record {
            named = subst (λ (l : List ℕ). is_name l ≡ true) same_name named;
            judged = subst (λ (t : TestState). t ≢ Ended ending.Returned) same_state (named_have_words word s is).1;
          }
      | inr other ↦ absurd (cc (rw other at found))
    ]

    by_word : (n : List ℕ) (o : Option (List ℕ × List ℕ)) → with_part {B = List ℕ × TestState × List ℕ} o (λ word. with_part {B = List ℕ × TestState × List ℕ} (state_named word.0) (λ s. if is_name n then Some (n, s, word.1) else None)) ≡ Some (name, state, rest) → IsTest name state
    by_word n None found = absurd (cc found)
    by_word n (Some (word, after)) found = by_state n word after (state_named word) refl found

    by_name : (o : Option (List ℕ × List ℕ)) → with_part {B = List ℕ × TestState × List ℕ} o (λ n. with_part {B = List ℕ × TestState × List ℕ} (until 10 n.1) (λ word. with_part {B = List ℕ × TestState × List ℕ} (state_named word.0) (λ s. if is_name n.0 then Some (n.0, s, word.1) else None))) ≡ Some (name, state, rest) → IsTest name state
    by_name None found = absurd (cc found)
    by_name (Some (n, after)) found = by_word n (until 10 after) found

    by_line : (o : Option (List ℕ)) → with_part {B = List ℕ × TestState × List ℕ} o parts_of ≡ Some (name, state, rest) → IsTest name state
    by_line None found = absurd (cc found)
    by_line (Some line) found = by_name (until 32 line) found

-- each test has a name of its own and a state
pub record AreTests (t : TestsRead) : Type 0 where
  pub many : length t.states ≡ length t.names
  pub named : list_all is_name t.names ≡ true
  pub distinct : are_distinct t.names ≡ true
  pub judged : All (λ s. s ≢ Ended ending.Returned) t.states

any_swapped : (n : List ℕ) (names : List (List ℕ)) → list_any (λ m. bytes_eq m n) names ≡ list_any (bytes_eq n) names
any_swapped n [] = refl
any_swapped n (m ∷ names) = rw (eq_swapped m n, any_swapped n names) refl

apart_from_all : (a b d e : Bool) → (not (a || b) && (d && not e)) ≡ ((not a && d) && not (b || e))
apart_from_all true b d e = refl
apart_from_all false true true e = refl
apart_from_all false true false e = refl
apart_from_all false false d e = refl

distinct_more : (names : List (List ℕ)) (n : List ℕ) → are_distinct (names ++ n ∷ []) ≡ (are_distinct names && not (list_any (λ m. bytes_eq m n) names))
distinct_more [] n = refl
distinct_more (x ∷ xs) n = rw (any_more (bytes_eq x) xs n, distinct_more xs n) (apart_from_all (list_any (bytes_eq x) xs) (bytes_eq x n) (are_distinct xs) (list_any (λ m. bytes_eq m n) xs))

pub distinct_new : (names : List (List ℕ)) (n : List ℕ) → are_distinct names ≡ true → list_any (bytes_eq n) names ≡ false → are_distinct (names ++ n ∷ []) ≡ true
distinct_new names n distinct new = distinct_more names n ∙ rw (distinct, any_swapped n names, new) refl

next_tests : (names : List (List ℕ)) (states : List TestState) (text name rest : List ℕ) (state : TestState) → AreTests (record { names = names; states = states; rest = text }) → IsTest name state → list_any (bytes_eq name) names ≡ false
    → AreTests (record { names = names ++ name ∷ []; states = states ++ state ∷ []; rest = rest })
next_tests names states text name rest state are is new = record {
  many = omega (arith, length_push names name, length_push states state, are.many);
  named = list_all-append is_name names (name ∷ []) ∙ rw (are.named, is.named) refl;
  distinct = distinct_new names name are.distinct new;
  judged = All-push (λ s. s ≢ Ended ending.Returned) states state are.judged is.judged;
}

pub tests_are : (n : ℕ) (names : List (List ℕ)) (states : List TestState) (text : List ℕ) (t : TestsRead) → AreTests (record { names = names; states = states; rest = text }) → tests_in names states n text ≡ Ok t → AreTests t × (length t.names ≡ length names + n)
tests_are zero names states text t are is =
    let e : ◌≡◌ {A = TestsRead} (record { names = names; states = states; rest = text }) t = cc in
    let none : length names ≡ length names + 0 = omega arith in
    subst (λ (x : TestsRead). AreTests x × (length x.names ≡ length names + 0)) e (are, none)
tests_are (suc n) names states text t are is = by_test (test_in text) refl is (tests_are n)
  where
    by_test : (o : Option (List ℕ × TestState × List ℕ)) → test_in text ≡ o → read_on (with_test names states o) (λ u. tests_in u.names u.states n u.rest) ≡ Ok t
        → ((names : List (List ℕ)) (states : List TestState) (text : List ℕ) (t : TestsRead) → AreTests (record { names = names; states = states; rest = text }) → tests_in names states n text ≡ Ok t → AreTests t × (length t.names ≡ length names + n)) → AreTests t × (length t.names ≡ length names + suc n)
    by_test None found read later = absurd (cc read)
    by_test (Some (name, state, rest)) found read later = elim (cases_Bool (list_any (bytes_eq name) names)) [
      | inl again ↦ absurd (cc (rw again at read))
      | inr new ↦
          let more = later (names ++ name ∷ []) (states ++ state ∷ []) rest t (next_tests names states text name rest state are (test_is text name rest state found) new) (rw new at read) in
          (more.0, omega (arith, more.1, length_push names name))
    ]
