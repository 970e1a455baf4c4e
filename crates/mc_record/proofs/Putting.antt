-- Lines that are put one after the other.
use Rattle.std.proofs.Common.{◌≡◌, ◌∙◌, ◌+◌, ◌-◌, ◌*◌, ◌<◌, ◌≤◌, ℕ, zero, suc, true, nat_le, List, [], ◌∷◌, ◌++◌, length, take, drop, get_or, refl, sym, ap, subst, arith, append_assoc, length-take, length-drop}
use Rattle.std.specs.Prelude.{◌&&◌, map, Option, Result, Ok, Err}
use Rattle.std.specs.Io.KnownBytes.{Appends}
use Rattle.std.specs.List.{concat, list_all, range_with_len}
use Rattle.std.proofs.Math.Nat.{add-mul, mul-le-mul_right}
use Rattle.std.proofs.KnownBytes.{Appends-trans}
use Rattle.std.proofs.lemmas.Bool.Decides.{nat_tests}
use Rattle.std.proofs.lemmas.List.{append-nil, take_all}
use Rattle.std.proofs.lemmas.List.Folds.{concat-append}
use Rattle.mc_limits.specs.Limits.{most_tests}
use Rattle.mc_core.specs.Matrix.{MatrixView}
use Rattle.mc_core.specs.Shape.{place, rows}
use Rattle.mc_core.specs.declared.shape.Shape.{Shape}
use Rattle.mc_port.proofs.Puts.{part_after, puts_stops, puts_then}
use Rattle.mc_port.specs.Sink.{Puts}
use Rattle.mc_port.specs.declared.sink.PutFault.{PutFault}
use Rattle.csv_records.specs.Names.{is_name, is_name_byte}
use Rattle.mc_typed.specs.declared.plans.Ending.TheVariants as ending
use Rattle.mc_typed.specs.declared.plans.TestState.{TestState}
use Rattle.mc_typed.specs.declared.plans.TestState.TheVariants.{Pass, Fail, Ended}
use Rattle.mc_value.specs.declared.trap.Trap.TheVariants.{Overflow, Division, Shift, Index, Unset, NoReturn, InputEnd}
use Rattle.report_words.specs.Words.{state_word}
use Rattle.mc_record.specs.Kept.{Kept}
use Rattle.mc_record.specs.Lines.{bit_line, bit_lines, bits_line, end_line, header_line, most_row_words, record_lines, row_of, source_line, test_line, test_lines, tests_line}
use Rattle.mc_record.proofs.Numbers.{and_parts}

-- ---- two texts

-- a first text that was put whole, and a second one
pub both_put : (a b c : Option (List ℕ)) (f g h : ℕ) (xs ys first second : List ℕ) (u : Unit {0}) (r : Result (Unit {0}) PutFault) → first ≡ xs → second ≡ ys
    → Puts a b f g first (Ok u) → Puts b c g h second r → f ≤ g → g ≤ h → Puts a c f h (xs ++ ys) r
both_put a b c f g h xs ys first second u r is are put then le le2 =
    puts_then a b c f g h xs ys u r (subst (λ (l : List ℕ). Puts a b f g l (Ok u)) is put) (subst (λ (l : List ℕ). Puts b c g h l r) are then) le le2

-- a first text that was not put whole
pub one_stopped : (a b : Option (List ℕ)) (f g : ℕ) (xs ys first : List ℕ) (e : PutFault) → first ≡ xs → Puts a b f g first (Err e) → Puts a b f g (xs ++ ys) (Err e)
one_stopped a b f g xs ys first e is put = puts_stops a b f g xs ys e (subst (λ (l : List ℕ). Puts a b f g l (Err e)) is put)

-- one line more
pub line_put : (a b c : Option (List ℕ)) (done line piece : List ℕ) → piece ≡ line → Appends a b done → Appends b c piece → Appends a c (done ++ line)
line_put a b c done line piece is put then = Appends-trans a b c done line put (subst (λ (l : List ℕ). Appends b c l) is then)

-- a line that was not put whole
pub line_stopped : (a b c : Option (List ℕ)) (f g h : ℕ) (done line piece rest whole : List ℕ) (e : PutFault) → piece ≡ line → done ++ (line ++ rest) ≡ whole → Appends a b done → f ≤ g
    → Puts b c g h piece (Err e) → Puts a c f h whole (Err e)
line_stopped a b c f g h done line piece rest whole e is joined put le then =
    let part : Puts b c g h line (Err e) = subst (λ (l : List ℕ). Puts b c g h l (Err e)) is then in
    (grind (arith, le, part.0), part_after a b c done line rest whole joined put part.1)

-- ---- lengths

pub name_short : (name : List ℕ) → is_name name ≡ true → length name ≤ 64
name_short name is =
    let outer = and_parts (nat_le 1 (length name) && nat_le (length name) 64) (list_all is_name_byte name) is in
    let inner = and_parts (nat_le 1 (length name)) (nat_le (length name) 64) outer.0 in
    grind (arith, nat_tests, inner.1)

pub word_short : (state : TestState) → length (state_word state) ≤ 14
word_short Pass = omega arith
word_short Fail = omega arith
word_short (Ended ending.Returned) = omega arith
word_short (Ended (ending.Trap Overflow)) = omega arith
word_short (Ended (ending.Trap Division)) = omega arith
word_short (Ended (ending.Trap Shift)) = omega arith
word_short (Ended (ending.Trap Index)) = omega arith
word_short (Ended (ending.Trap Unset)) = omega arith
word_short (Ended (ending.Trap NoReturn)) = omega arith
word_short (Ended (ending.Trap InputEnd)) = omega arith
word_short (Ended ending.Fuel) = omega arith
word_short (Ended ending.Levels) = omega arith
word_short (Ended ending.Cells) = omega arith
word_short (Ended ending.OutputFull) = omega arith

-- ---- the lines of tests

-- the name of the first test, and the others
pub first_named : (names : List (List ℕ)) (name : List ℕ) → 1 ≤ length names → name ≡ get_or names 0 name → list_all is_name names ≡ true → (is_name name ≡ true) × (list_all is_name (take (length names - 1) (drop 1 names)) ≡ true)
first_named [] name some is named = absurd (omega arith)
first_named (n ∷ names) name some is named =
    let rest : take (length (n ∷ names) - 1) names ≡ names = take_all (length (n ∷ names) - 1) names (omega arith) in
    let parts = and_parts (is_name n) (list_all is_name names) named in
    (ap is_name is ∙ parts.0, ap (list_all is_name) rest ∙ parts.1)

-- the line of the first test, and those of the others
pub first_test : (names : List (List ℕ)) (states : List TestState) (name : List ℕ) → 1 ≤ length names → 1 ≤ length states → name ≡ get_or names 0 name
    → concat (test_lines names states) ≡ test_line name (get_or states 0 Pass) ++ concat (test_lines (take (length names - 1) (drop 1 names)) (take (length states - 1) (drop 1 states)))
first_test [] states name some more is = absurd (omega arith)
first_test (n ∷ names) [] name some more is = absurd (omega arith)
first_test (n ∷ names) (s ∷ states) name some more is =
    let names_rest : take (length (n ∷ names) - 1) names ≡ names = take_all (length (n ∷ names) - 1) names (omega arith) in
    let states_rest : take (length (s ∷ states) - 1) states ≡ states = take_all (length (s ∷ states) - 1) states (omega arith) in
    rw (names_rest, states_rest) (ap (λ (l : List ℕ). test_line l s ++ concat (test_lines names states)) (sym is))

pub as_many_left : (names : List (List ℕ)) (states : List TestState) → length states ≡ length names → length (take (length states - 1) (drop 1 states)) ≡ length (take (length names - 1) (drop 1 names))
as_many_left names states same = simp (length-take, length-drop) (omega arith)

-- ---- lines by number

range_split : (a n m : ℕ) → range_with_len a (n + m) ≡ range_with_len a n ++ range_with_len (a + n) m
range_split a zero m =
    let same : a + 0 ≡ a = omega arith in
    let count : 0 + m ≡ m = omega arith in
    ap (range_with_len a) count ∙ ap (λ k. range_with_len k m) (sym same)
range_split a (suc n) m =
    let count : suc n + m ≡ suc (n + m) = omega arith in
    let start : a + 1 + n ≡ a + suc n = omega arith in
    ap (range_with_len a) count
    ∙ ap (λ (l : List ℕ). a ∷ l) (range_split (a + 1) n m ∙ ap (λ k. range_with_len (a + 1) n ++ range_with_len k m) start)

module _ (line : ℕ → List ℕ) where
  abbrev lines : ℕ → ℕ → List ℕ
  lines a n = concat (map line (range_with_len a n))

  map_both : (xs ys : List ℕ) → concat (map line (xs ++ ys)) ≡ concat (map line xs) ++ concat (map line ys)
  map_both [] ys = refl
  map_both (x ∷ xs) ys = ap (λ (l : List ℕ). line x ++ l) (map_both xs ys) ∙ sym (append_assoc (line x) (concat (map line xs)) (concat (map line ys)))

  lines_split : (a n m : ℕ) → lines a (n + m) ≡ lines a n ++ lines (a + n) m
  lines_split a n m = ap (λ (l : List ℕ). concat (map line l)) (range_split a n m) ∙ map_both (range_with_len a n) (range_with_len (a + n) m)

  pub lines_more : (n : ℕ) → lines 0 (n + 1) ≡ lines 0 n ++ line n
  lines_more n =
      let start : 0 + n ≡ n = omega arith in
      lines_split 0 n 1 ∙ ap (λ (l : List ℕ). lines 0 n ++ l) (append-nil (line (0 + n)) ∙ ap line start)

  pub lines_whole : (n i : ℕ) → i < n → lines 0 i ++ (line i ++ lines (i + 1) (n - (i + 1))) ≡ lines 0 n
  lines_whole n i less =
      let count : (i + 1) + (n - (i + 1)) ≡ n = omega arith in
      let start : 0 + (i + 1) ≡ i + 1 = omega arith in
      sym (append_assoc (lines 0 i) (line i) (lines (i + 1) (n - (i + 1))))
      ∙ ap (λ (l : List ℕ). l ++ lines (i + 1) (n - (i + 1))) (sym (lines_more i))
      ∙ ap (λ k. lines 0 (i + 1) ++ lines k (n - (i + 1))) (sym start)
      ∙ sym (lines_split 0 (i + 1) (n - (i + 1)))
      ∙ ap (λ k. lines 0 k) count

-- ---- the words of a bit

pub row_inside : (m : MatrixView) (b : ℕ) → length m.words ≡ m.shape.bits * rows m.shape → b < m.shape.bits → b * rows m.shape + rows m.shape ≤ length m.words
row_inside m b whole less =
    let most : (b + 1) * rows m.shape ≤ m.shape.bits * rows m.shape = mul-le-mul_right (rows m.shape) (omega (arith, less)) in
    omega (arith, most, add-mul b 1 (rows m.shape), whole)

pub row_is : (m : MatrixView) (s : Shape) (b first count : ℕ) (words : List ℕ) → s ≡ m.shape → first ≡ place s b 0 → count ≡ rows s → words ≡ m.words
    → bit_line b (take (first + count - first) (drop first words)) ≡ bit_line b (row_of m b)
row_is m s b first count words is at many are =
    let plain : place m.shape b 0 ≡ b * rows m.shape = omega arith in
    let begin : first ≡ b * rows m.shape = at ∙ ap (λ (t : Shape). place t b 0) is ∙ plain in
    let all : first + count - first ≡ rows m.shape = omega (arith, many ∙ ap rows is) in
    ap (bit_line b)
    (ap (λ n. take n (drop first words)) all
    ∙ ap (λ n. take (rows m.shape) (drop n words)) begin
    ∙ ap (λ (l : List ℕ). take (rows m.shape) (drop (b * rows m.shape) l)) are)

pub rows_few : (m : MatrixView) → m.shape.tests ≤ most_tests → rows m.shape ≤ most_row_words
rows_few m few = omega arith

-- ---- the whole

pub whole_text : (k : Kept) → ((header_line ++ source_line k.digest) ++ (bits_line k.matrix.shape.bits ++ tests_line k.matrix.shape.tests)) ++ ((concat (test_lines k.names k.states) ++ concat (bit_lines k.matrix)) ++ end_line) ≡ concat (record_lines k)
whole_text k =
    let tests : List ℕ = concat (test_lines k.names k.states) in
    let bits : List ℕ = concat (bit_lines k.matrix) in
    let last : concat (bit_lines k.matrix ++ end_line ∷ []) ≡ bits ++ end_line = concat-append (bit_lines k.matrix) (end_line ∷ []) ∙ ap (λ (l : List ℕ). bits ++ l) (append-nil end_line) in
    let body : concat (test_lines k.names k.states ++ (bit_lines k.matrix ++ end_line ∷ [])) ≡ tests ++ (bits ++ end_line) =
    concat-append (test_lines k.names k.states) (bit_lines k.matrix ++ end_line ∷ []) ∙ ap (λ (l : List ℕ). tests ++ l) last in
    six header_line (source_line k.digest) (bits_line k.matrix.shape.bits) (tests_line k.matrix.shape.tests) tests bits end_line
    ∙ ap (λ (l : List ℕ). header_line ++ (source_line k.digest ++ (bits_line k.matrix.shape.bits ++ (tests_line k.matrix.shape.tests ++ l)))) (sym body)
  where
    six : (a b c d e f g : List ℕ) → ((a ++ b) ++ (c ++ d)) ++ ((e ++ f) ++ g) ≡ a ++ (b ++ (c ++ (d ++ (e ++ (f ++ g)))))
    six a b c d e f g = simp append_assoc
