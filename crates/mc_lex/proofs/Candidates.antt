-- The longest text at the start that means anything.
use Rattle.std.proofs.Common.{◌≡◌, ℕ, zero, suc, ◌<◌, ◌≤◌, Bool, true, false, not, ◌&&◌, ◌||◌, cond, nat_eq, nat_lt, List, [], ◌∷◌, ◌++◌, length, take, drop, Option, Some, None, Result, Ok, Err, refl, ap, subst, sym, ◌∙◌, arith, take-append-drop, append-nil, length-take, length-append}
use Rattle.std.proofs.lemmas.Bool.Decides.{nat_tests}
use Rattle.std.proofs.lemmas.List.Folds.{list_any-append}
use Rattle.std.specs.List.{list_all}
use Rattle.std.specs.Str.{bytes_eq}
use Rattle.mc_lex.specs.declared.token.Dialect.{Dialect}
use Rattle.mc_lex.specs.declared.token.TokenKind.{TokenKind}
use Rattle.mc_lex.specs.declared.token.TokenKind.TheVariants.{Punctuator}
use Rattle.mc_lex.specs.declared.fault_kind.FaultKind.{FaultKind}
use Rattle.mc_lex.specs.declared.fault_kind.FaultKind.TheVariants as fault_kind
use Rattle.mc_lex.specs.declared.candidate.Candidate.{Candidate}
use Rattle.mc_lex.specs.declared.candidate.Class.{Class}
use Rattle.mc_lex.specs.declared.candidate.Class.TheVariants as class
use Rattle.mc_lex.specs.declared.character.Quoted.{Quoted}
use Rattle.mc_lex.specs.Bytes.{is_digit, is_letter, is_white_space}
use Rattle.mc_lex.specs.Words.{one_of, is_word}
use Rattle.mc_lex.specs.Numbers.{starts_number, each_continues, is_number}
use Rattle.mc_lex.specs.Characters.{IsCharacter}
use Rattle.mc_lex.specs.Punctuators.{punctuators, outside_punctuators, literal_openings}
use Rattle.mc_lex.specs.Scans.{Means, IsLongest, MeansNothing}
use Rattle.mc_lex.specs.Scans as r
use Rattle.mc_lex.specs.steps.Scanner.{word_len, number_len, character_at, length_of, character_len, punctuators_and_openings, punctuator_len, longer, candidate_at, byte_kind, outside_punctuators_and_openings, punctuator_kind, kind_of, starts_with_byte, kind_next, nothing_next, length_next, candidate_next}
use Rattle.mc_lex.proofs.Texts.{both, is_false, not_both, cut, passes}
use Rattle.mc_lex.proofs.Sizes.{word_has, word_most, word_within, number_has, number_most, number_within, punctuator_has, punctuator_most, punctuator_within}
use Rattle.mc_lex.proofs.Characters.{quoted, character_found, character_is}
use Rattle.mc_lex.proofs.Numbers.{number_is, number_means}

-- ---- classes of texts

abbrev pub Stands : Class → List ℕ → Type 0
Stands class.Word text = is_word text ≡ true
Stands class.Number text = is_number text ≡ true
Stands class.Character text = (byte : ℕ) × IsCharacter text byte
Stands class.Punctuator text = one_of punctuators_and_openings text ≡ true

abbrev pub size : Class → List ℕ → ℕ
size class.Word bs = word_len bs
size class.Number bs = number_len bs
size class.Character bs = character_len bs
size class.Punctuator bs = punctuator_len bs

pub size_has : (k : Class) (bs : List ℕ) (n : ℕ) → size k bs ≡ suc n → Stands k (take (suc n) bs)
size_has class.Word bs n e = word_has bs n e
size_has class.Number bs n e = number_has bs n e
size_has class.Punctuator bs n e = punctuator_has bs n e
size_has class.Character bs n e = by_found (character_at bs) refl e
  where
    by_found : (o : Option Quoted) → character_at bs ≡ o → length_of o ≡ suc n → (byte : ℕ) × IsCharacter (take (suc n) bs) byte
    by_found None f g = absurd (cc)
    by_found (Some q) f g =
        let found = character_is bs q f in
        let text : take (suc n) bs ≡ found.text = ap (λ k. take k bs) (sym g ∙ sym found.size) ∙ (cut found.text found.after bs found.whole).0 in
        (q.byte, subst (λ t. IsCharacter t q.byte) (sym text) found.constant)

pub size_most : (k : Class) (other rest bs : List ℕ) → Stands k other → bs ≡ other ++ rest → length other ≤ size k bs
size_most class.Word other rest bs s e = word_most other rest bs s e
size_most class.Number other rest bs s e = number_most other rest bs s e
size_most class.Punctuator other rest bs s e = punctuator_most other rest bs s e
size_most class.Character other rest bs s e =
    let same : character_len bs ≡ length other = ap character_len e ∙ ap length_of (character_found other s.0 s.1 rest) in
    omega (arith, same)

pub size_within : (k : Class) (bs : List ℕ) → size k bs ≤ length bs
size_within class.Word bs = word_within bs
size_within class.Number bs = number_within bs
size_within class.Punctuator bs = punctuator_within bs
size_within class.Character bs = by_found (character_at bs) refl
  where
    by_found : (o : Option Quoted) → character_at bs ≡ o → length_of o ≤ length bs
    by_found None f = omega arith
    by_found (Some q) f =
        let found = character_is bs q f in
        omega (arith, found.size, ap length found.whole, length-append found.text found.after)

abbrev not_empty : List ℕ → Bool
not_empty [] = false
not_empty (b ∷ bs) = true

punctuators_pass : (p : List ℕ → Bool) (text : List ℕ) → list_all p punctuators_and_openings ≡ true → one_of punctuators_and_openings text ≡ true → p text ≡ true
punctuators_pass p text h o = passes p punctuators_and_openings text h o

full : (t : List ℕ) → not_empty t ≡ true → 0 < length t
full [] e = absurd (cc)
full (b ∷ bs) e = omega arith

pub stands_full : (k : Class) (text : List ℕ) → Stands k text → 0 < length text
unfolding punctuators_and_openings
stands_full class.Word [] s = absurd (cc)
stands_full class.Word (b ∷ bs) s = omega arith
stands_full class.Number [] s = absurd (cc)
stands_full class.Number (b ∷ bs) s = omega arith
stands_full class.Character text s = omega (arith, ap length (s.1).whole)
stands_full class.Punctuator text s = full text (passes not_empty punctuators_and_openings text refl s)

-- ---- the first byte

letter_facts : (b : ℕ) → is_letter b ≡ true → (is_digit b ≡ false) × (nat_eq b 46 ≡ false) × (nat_eq b 39 ≡ false) × (is_white_space b ≡ false) × (nat_eq b 35 ≡ false)
letter_facts b h = (grind (arith, nat_tests), grind (arith, nat_tests), grind (arith, nat_tests), grind (arith, nat_tests), grind (arith, nat_tests))

abbrev number_byte : ℕ → Bool
number_byte b = is_digit b || nat_eq b 46

number_first : (b : ℕ) (bs : List ℕ) → is_number (b ∷ bs) ≡ true → number_byte b ≡ true
number_first b bs h = by_rest bs (both (starts_number b bs) (each_continues b bs) h).0
  where
    part : (s t u : Bool) → (s || (t && u)) ≡ true → (s || t) ≡ true
    part true t u e = refl
    part false t u e = (both t u e).0

    one : (s t : Bool) → s ≡ true → (s || t) ≡ true
    one true t e = refl
    one false t e = absurd (cc)

    by_rest : (bs : List ℕ) → starts_number b bs ≡ true → number_byte b ≡ true
    by_rest [] e = one (is_digit b) (nat_eq b 46) e
    by_rest (c ∷ cs) e = part (is_digit b) (nat_eq b 46) (is_digit c) e

number_facts : (b : ℕ) → number_byte b ≡ true → (nat_eq b 39 ≡ false) × (is_white_space b ≡ false) × (nat_eq b 35 ≡ false)
number_facts b h = (grind (arith, nat_tests), grind (arith, nat_tests), grind (arith, nat_tests))

word_number : (text : List ℕ) → is_word text ≡ true → is_number text ≡ true → ⊥
word_number [] w n = cc
word_number (b ∷ bs) w n =
    let letter = letter_facts b (both (is_letter b) _ w).0 in
    let number = number_first b bs n in
    let none : number_byte b ≡ false = rw (letter.0, letter.1) refl in
    not_both _ number none

character_first : (text : List ℕ) (byte : ℕ) → IsCharacter text byte → starts_with_byte 39 text ≡ true
character_first text byte c = ap (starts_with_byte 39) c.whole

word_character : (text : List ℕ) → is_word text ≡ true → starts_with_byte 39 text ≡ true → ⊥
word_character [] w c = cc
word_character (b ∷ bs) w c = let letter = letter_facts b (both (is_letter b) _ w).0 in not_both _ c letter.2

number_character : (text : List ℕ) → is_number text ≡ true → starts_with_byte 39 text ≡ true → ⊥
number_character [] n c = cc
number_character (b ∷ bs) n c = let number = number_facts b (number_first b bs n) in not_both _ c number.0

-- a punctuator is nothing else
abbrev only_punctuator : List ℕ → Bool
only_punctuator text = not (is_word text) && not (is_number text) && not (starts_with_byte 39 text)

punctuator_alone : (text : List ℕ) → one_of punctuators_and_openings text ≡ true → (is_word text ≡ false) × (is_number text ≡ false) × (starts_with_byte 39 text ≡ false)
unfolding punctuators_and_openings
punctuator_alone text o =
    let x = both (not (is_word text) && not (is_number text)) (not (starts_with_byte 39 text)) (passes only_punctuator punctuators_and_openings text refl o) in
    let y = both (not (is_word text)) (not (is_number text)) x.0 in
    (is_false _ y.0, is_false _ y.1, is_false _ x.1)

-- a text is of one class
pub one_class : (j k : Class) (text : List ℕ) → Stands j text → Stands k text → j ≡ k
one_class class.Word class.Word text s t = refl
one_class class.Word class.Number text s t = absurd (word_number text s t)
one_class class.Word class.Character text s t = absurd (word_character text s (character_first text t.0 t.1))
one_class class.Word class.Punctuator text s t = absurd (not_both _ s (punctuator_alone text t).0)
one_class class.Number class.Word text s t = absurd (word_number text t s)
one_class class.Number class.Number text s t = refl
one_class class.Number class.Character text s t = absurd (number_character text s (character_first text t.0 t.1))
one_class class.Number class.Punctuator text s t = absurd (not_both _ s (punctuator_alone text t).1)
one_class class.Character class.Word text s t = absurd (word_character text t (character_first text s.0 s.1))
one_class class.Character class.Number text s t = absurd (number_character text t (character_first text s.0 s.1))
one_class class.Character class.Character text s t = refl
one_class class.Character class.Punctuator text s t = absurd (not_both _ (character_first text s.0 s.1) (punctuator_alone text t).2)
one_class class.Punctuator class.Word text s t = absurd (not_both _ t (punctuator_alone text s).0)
one_class class.Punctuator class.Number text s t = absurd (not_both _ t (punctuator_alone text s).1)
one_class class.Punctuator class.Character text s t = absurd (not_both _ (character_first text t.0 t.1) (punctuator_alone text s).2)
one_class class.Punctuator class.Punctuator text s t = refl

abbrev pub is_apart : List ℕ → Bool
is_apart [] = true
is_apart (b ∷ bs) = not (is_white_space b) && not (nat_eq b 35)

-- no text that means anything begins with white space or with `#`
pub stands_apart : (k : Class) (text : List ℕ) → Stands k text → is_apart text ≡ true
unfolding punctuators_and_openings
stands_apart class.Word [] s = refl
stands_apart class.Word (b ∷ bs) s = let letter = letter_facts b (both (is_letter b) _ s).0 in rw (letter.3, letter.4) refl
stands_apart class.Number [] s = refl
stands_apart class.Number (b ∷ bs) s = let number = number_facts b (number_first b bs s) in rw (number.1, number.2) refl
stands_apart class.Character text s = ap is_apart (s.1).whole
stands_apart class.Punctuator text s = passes is_apart punctuators_and_openings text refl s

-- ---- what a text of a class means

split_or : (a b : Bool) → (a || b) ≡ true → a ≡ false → b ≡ true
split_or true b e f = absurd (cc)
split_or false b e f = e

abbrev is_kept : List ℕ → Bool
is_kept text = one_of outside_punctuators_and_openings text || one_of punctuators text

punctuator_means : (dialect : Dialect) (text : List ℕ) → one_of punctuators_and_openings text ≡ true → Means dialect text (punctuator_kind text)
unfolding punctuators_and_openings outside_punctuators_and_openings punctuators outside_punctuators literal_openings
punctuator_means dialect text o = by_outside (one_of outside_punctuators_and_openings text) refl (one_of outside_punctuators text) refl
  where
    by_outside : (s : Bool) → one_of outside_punctuators_and_openings text ≡ s → (t : Bool) → one_of outside_punctuators text ≡ t → Means dialect text (cond s (Err fault_kind.OutsideWord) (Ok Punctuator))
    by_outside true e true f = r.outside_punctuator text f
    by_outside true e false f = r.literal_opening text (split_or _ _ (sym (list_any-append (bytes_eq text) outside_punctuators literal_openings) ∙ e) f)
    by_outside false e t f = r.punctuator text (split_or (one_of outside_punctuators_and_openings text) (one_of punctuators text) (passes is_kept punctuators_and_openings text refl o) e)

pub means_of : (dialect : Dialect) (k : Class) (text : List ℕ) → Stands k text → Means dialect text (kind_of dialect k text)
unfolding kind_of
means_of dialect class.Word text s = r.word text s
means_of dialect class.Number text s = r.number text _ s (number_is text)
means_of dialect class.Punctuator text s = punctuator_means dialect text s
means_of dialect class.Character text s =
    let found : character_at text ≡ Some (quoted (length text) s.0) = ap character_at (sym (append-nil text)) ∙ character_found text s.0 s.1 [] in
    subst (λ w. Means dialect text w) (sym (ap byte_kind found)) (r.character text s.0 s.1)

pub record Stood (dialect : Dialect) (text : List ℕ) (what : Result TokenKind FaultKind) : Type 0 where
  pub class : Class
  pub stands : Stands class text
  pub kind : kind_of dialect class text ≡ what

abbrev is_any_punctuator : List ℕ → Bool
is_any_punctuator text = one_of punctuators_and_openings text

abbrev is_outside : List ℕ → Bool
is_outside text = one_of outside_punctuators_and_openings text

abbrev is_inside : List ℕ → Bool
is_inside text = not (one_of outside_punctuators_and_openings text)

pub stood : (dialect : Dialect) (text : List ℕ) (what : Result TokenKind FaultKind) → Means dialect text what → Stood dialect text what
unfolding kind_of punctuators_and_openings outside_punctuators_and_openings punctuators outside_punctuators literal_openings
stood dialect text what (r.word text' w) = record { class = class.Word; stands = w; kind = refl }
stood dialect text what (r.number text' what' n m) = record { class = class.Number; stands = n; kind = number_means text' what' m }
stood dialect text what (r.character text' byte c) =
    let found : character_at text' ≡ Some (quoted (length text') byte) = ap character_at (sym (append-nil text')) ∙ character_found text' byte c [] in
    record { class = class.Character; stands = (byte, c); kind = ap byte_kind found }
stood dialect text what (r.punctuator text' o) = record {
  class = class.Punctuator;
  stands = passes is_any_punctuator punctuators text' refl o;
  kind = rw (is_false _ (passes is_inside punctuators text' refl o)) refl;
}
stood dialect text what (r.outside_punctuator text' o) = record {
  class = class.Punctuator;
  stands = passes is_any_punctuator outside_punctuators text' refl o;
  kind = rw (passes is_outside outside_punctuators text' refl o) refl;
}
stood dialect text what (r.literal_opening text' o) = record {
  class = class.Punctuator;
  stands = passes is_any_punctuator literal_openings text' refl o;
  kind = rw (passes is_outside literal_openings text' refl o) refl;
}

-- ---- the longest text

pub record Largest (bs : List ℕ) (e : Candidate) : Type 0 where
  pub right : e.length ≡ size e.class bs
  pub most : (k : Class) → size k bs ≤ e.length

longer_right : (bs : List ℕ) (a b : Candidate) → a.length ≡ size a.class bs → b.length ≡ size b.class bs → (longer a b).length ≡ size (longer a b).class bs
longer_right bs a b f g = by_test (nat_lt a.length b.length)
  where
    by_test : (t : Bool) → (cond t b a).length ≡ size (cond t b a).class bs
    by_test true = g
    by_test false = f

longer_most : (a b : Candidate) → (a.length ≤ (longer a b).length) × (b.length ≤ (longer a b).length)
longer_most a b = by_test (nat_lt a.length b.length) refl
  where
    by_test : (t : Bool) → nat_lt a.length b.length ≡ t → (a.length ≤ (cond t b a).length) × (b.length ≤ (cond t b a).length)
    by_test true e = (grind (arith, nat_tests), omega arith)
    by_test false e = (omega arith, grind (arith, nat_tests))

pub largest : (bs : List ℕ) → Largest bs (candidate_at bs)
unfolding candidate_at
largest bs = record { right = longer_right bs three character (longer_right bs two number (longer_right bs punctuator word refl refl) refl) refl; most = most }
  where
    punctuator : Candidate
    punctuator = record { class = class.Punctuator; length = punctuator_len bs }

    word : Candidate
    word = record { class = class.Word; length = word_len bs }

    number : Candidate
    number = record { class = class.Number; length = number_len bs }

    character : Candidate
    character = record { class = class.Character; length = character_len bs }

    two : Candidate
    two = longer punctuator word

    three : Candidate
    three = longer two number

    m2 : (punctuator.length ≤ two.length) × (word.length ≤ two.length)
    m2 = longer_most punctuator word

    m3 : (two.length ≤ three.length) × (number.length ≤ three.length)
    m3 = longer_most two number

    m4 : (three.length ≤ (longer three character).length) × (character.length ≤ (longer three character).length)
    m4 = longer_most three character

    most : (k : Class) → size k bs ≤ (longer three character).length
    most class.Word = omega (arith, m2.1, m3.0, m4.0)
    most class.Number = omega (arith, m3.1, m4.0)
    most class.Character = m4.1
    most class.Punctuator = omega (arith, m2.0, m3.0, m4.0)

taken : (n : ℕ) (bs : List ℕ) → n ≤ length bs → length (take n bs) ≡ n
taken n bs h = omega (arith, length-take n bs)

pub candidate_longest : (dialect : Dialect) (bs : List ℕ) (n : ℕ) → (candidate_at bs).length ≡ suc n → IsLongest dialect (take (suc n) bs) (drop (suc n) bs) bs (kind_of dialect (candidate_at bs).class (take (suc n) bs))
candidate_longest dialect bs n e =
    let l = largest bs in
    let k = (candidate_at bs).class in
    let here : size k bs ≡ suc n = sym l.right ∙ e in
    let within : suc n ≤ length bs = omega (arith, here, size_within k bs) in
    record {
      whole = sym (take-append-drop (suc n) bs);
      means = means_of dialect k (take (suc n) bs) (size_has k bs n here);
      longest = λ other rest something w m.
          let s = stood dialect other something m in
          omega (arith, size_most s.class other rest bs s.stands w, l.most s.class, e, taken (suc n) bs within);
    }

pub candidate_none : (dialect : Dialect) (bs : List ℕ) → (candidate_at bs).length ≡ 0 → MeansNothing dialect bs
candidate_none dialect bs e text after what w m =
    let s = stood dialect text what m in
    absurd (omega (arith, stands_full s.class text s.stands, size_most s.class text after bs s.stands w, (largest bs).most s.class, e))

pub token_next : (dialect : Dialect) (text after bs : List ℕ) (what : Result TokenKind FaultKind) → IsLongest dialect text after bs what → candidate_next dialect bs ≡ kind_next what (length text)
unfolding candidate_next
token_next dialect text after bs what l = by_len (candidate_at bs).length refl
  where
    s : Stood dialect text what
    s = stood dialect text what l.means

    by_len : (len : ℕ) → (candidate_at bs).length ≡ len → length_next dialect bs (candidate_at bs).class len ≡ kind_next what (length text)
    by_len zero e = absurd (candidate_none dialect bs e text after what l.whole l.means)
    by_len (suc n) e =
        let k = (candidate_at bs).class in
        let here : size k bs ≡ suc n = sym (largest bs).right ∙ e in
        let within : suc n ≤ length bs = omega (arith, here, size_within k bs) in
        let ours = candidate_longest dialect bs n e in
        let size : length text ≡ suc n = omega (arith, taken (suc n) bs within, l.longest _ _ _ ours.whole ours.means, ours.longest _ _ _ l.whole l.means) in
        let same : take (suc n) bs ≡ text = ap (λ m. take m bs) (sym size) ∙ (cut text after bs l.whole).0 in
        let stands : Stands k text = subst (λ t. Stands k t) same (size_has k bs n here) in
        let kinds : kind_of dialect k (take (suc n) bs) ≡ what = ap (kind_of dialect k) same ∙ ap (λ j. kind_of dialect j text) (one_class k s.class text stands s.stands) ∙ s.kind in
        ap (λ w. kind_next w (suc n)) kinds ∙ ap (kind_next what) (sym size)

pub none_next : (dialect : Dialect) (bs : List ℕ) → MeansNothing dialect bs → candidate_next dialect bs ≡ nothing_next bs
unfolding candidate_next
none_next dialect bs none = by_len (candidate_at bs).length refl
  where
    by_len : (len : ℕ) → (candidate_at bs).length ≡ len → length_next dialect bs (candidate_at bs).class len ≡ nothing_next bs
    by_len zero e = refl
    by_len (suc n) e = let ours = candidate_longest dialect bs n e in absurd (none _ _ _ ours.whole ours.means)
