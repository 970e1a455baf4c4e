-- The readers of lists, one part at a time, with turns enough.
use Rattle.std.proofs.Common.{◌≡◌, ℕ, zero, suc, ◌+◌, ◌<◌, Bool, true, false, List, [], ◌∷◌, ◌++◌, length, Some, refl, ◌∙◌, append_assoc, arith, codes}
use Rattle.std.proofs.lemmas.List.{append-nil}
use Rattle.mc_grammar.specs.Words.{Lexeme, is_punctuator, sees}
use Rattle.mc_grammar.specs.steps.Parsers.{Parser, pure}
use Rattle.laws_grammar.specs.Lists.{comma_list, braced_list, some_list, until_list}

-- a last turn, and a turn with others after it
pub one_turn : (P : ℕ → Type 0) (k : ℕ) → ((turns : ℕ) → P (suc turns)) → (turns : ℕ) → k < turns → P turns
one_turn P k f zero lt = absurd (omega (arith, lt))
one_turn P k f (suc turns) lt = f turns

pub later : (P : ℕ → Type 0) (m k : ℕ) → m < k → ((turns : ℕ) → m < turns → P (suc turns)) → (turns : ℕ) → k < turns → P turns
later P m k h f zero lt = absurd (omega (arith, lt))
later P m k h f (suc turns) lt = f turns (omega arith)

-- with a turn more than there are tokens, a loop adds these parts to those before, whatever they are
pub record Adds {A : Type 0} (loop : ℕ → List A → Parser (List A)) (ts : List Lexeme) (parts : List A) (rest : List Lexeme) : Type 0 where
  pub adds : (turns : ℕ) → length ts < turns → (before : List A) → loop turns before ts ≡ Some (before ++ parts, rest)

-- all of a list
pub all_of : {A : Type 0} {loop : ℕ → List A → Parser (List A)} {ts rest : List Lexeme} {parts : List A} → Adds loop ts parts rest → loop (length ts + 1) [] ts ≡ Some (parts, rest)
all_of {ts = ts} p = p.adds (length ts + 1) (omega arith) []

-- this turn's part, and the others
pub added : {A : Type 0} (before : List A) (part : A) (parts : List A) (rest : List Lexeme) → pure ((before ++ part ∷ []) ++ parts) rest ≡ pure (before ++ part ∷ parts) rest
added before part parts rest = rw append_assoc refl

module _ {A : Type 0} (one : Parser A) where
  comma_end : (turns : ℕ) (before : List A) (ts rest : List Lexeme) (part : A) → one ts ≡ Some (part, rest) → sees (codes ",") rest ≡ false → comma_list (suc turns) one before ts ≡ Some (before ++ part ∷ [], rest)
  unfolding comma_list
  comma_end turns before ts rest part h e = rw (h, e) refl

  comma_turn : (turns : ℕ) (before : List A) (x : Lexeme) (ts mid : List Lexeme) (part : A) → one ts ≡ Some (part, x ∷ mid) → is_punctuator (codes ",") x ≡ true
      → comma_list (suc turns) one before ts ≡ comma_list turns one (before ++ part ∷ []) mid
  unfolding comma_list
  comma_turn turns before x ts mid part h e = rw (h, e) refl

  braced_end : (turns : ℕ) (before : List A) (ts rest : List Lexeme) (part : A) → one ts ≡ Some (part, rest) → sees (codes ",") rest ≡ false → braced_list (suc turns) one before ts ≡ Some (before ++ part ∷ [], rest)
  unfolding braced_list
  braced_end turns before ts rest part h e = rw (h, e) refl

  braced_end_comma : (turns : ℕ) (before : List A) (x : Lexeme) (ts rest : List Lexeme) (part : A) → one ts ≡ Some (part, x ∷ rest) → is_punctuator (codes ",") x ≡ true → sees (codes "}") rest ≡ true
      → braced_list (suc turns) one before ts ≡ Some (before ++ part ∷ [], rest)
  unfolding braced_list
  braced_end_comma turns before x ts rest part h e f = rw (h, e, f) refl

  braced_turn : (turns : ℕ) (before : List A) (x : Lexeme) (ts mid : List Lexeme) (part : A) → one ts ≡ Some (part, x ∷ mid) → is_punctuator (codes ",") x ≡ true → sees (codes "}") mid ≡ false
      → braced_list (suc turns) one before ts ≡ braced_list turns one (before ++ part ∷ []) mid
  unfolding braced_list
  braced_turn turns before x ts mid part h e f = rw (h, e, f) refl

  some_end : (begins : List Lexeme → Bool) (turns : ℕ) (before : List A) (ts rest : List Lexeme) (part : A) → one ts ≡ Some (part, rest) → begins rest ≡ false
      → some_list (suc turns) begins one before ts ≡ Some (before ++ part ∷ [], rest)
  unfolding some_list
  some_end begins turns before ts rest part h e = rw (h, e) refl

  some_turn : (begins : List Lexeme → Bool) (turns : ℕ) (before : List A) (ts mid : List Lexeme) (part : A) → one ts ≡ Some (part, mid) → begins mid ≡ true
      → some_list (suc turns) begins one before ts ≡ some_list turns begins one (before ++ part ∷ []) mid
  unfolding some_list
  some_turn begins turns before ts mid part h e = rw (h, e) refl

  until_end : (ends : List Lexeme → Bool) (turns : ℕ) (before : List A) (ts : List Lexeme) → ends ts ≡ true → until_list (suc turns) ends one before ts ≡ Some (before ++ [], ts)
  unfolding until_list
  until_end ends turns before ts e = rw (e, append-nil before) refl

  until_turn : (ends : List Lexeme → Bool) (turns : ℕ) (before : List A) (ts mid : List Lexeme) (part : A) → ends ts ≡ false → one ts ≡ Some (part, mid)
      → until_list (suc turns) ends one before ts ≡ until_list turns ends one (before ++ part ∷ []) mid
  unfolding until_list
  until_turn ends turns before ts mid part e h = rw (e, h) refl

  pub comma_last : {ts rest : List Lexeme} {part : A} → one ts ≡ Some (part, rest) → sees (codes ",") rest ≡ false → Adds (λ turns. comma_list turns one) ts (part ∷ []) rest
  comma_last {ts = ts} {rest = rest} {part = part} h e = record { adds = one_turn _ (length ts) (λ turns before. comma_end turns before ts rest part h e) }

  pub comma_more : {x : Lexeme} {ts mid rest : List Lexeme} {part : A} {parts : List A} → one ts ≡ Some (part, x ∷ mid) → is_punctuator (codes ",") x ≡ true → length mid < length ts
      → Adds (λ turns. comma_list turns one) mid parts rest → Adds (λ turns. comma_list turns one) ts (part ∷ parts) rest
  comma_more {x = x} {ts = ts} {mid = mid} {rest = rest} {part = part} {parts = parts} h e lt p =
      record { adds = later _ (length mid) (length ts) lt (λ turns low before. comma_turn turns before x ts mid part h e ∙ p.adds turns low (before ++ part ∷ []) ∙ added before part parts rest) }

  pub braced_last : {ts rest : List Lexeme} {part : A} → one ts ≡ Some (part, rest) → sees (codes ",") rest ≡ false → Adds (λ turns. braced_list turns one) ts (part ∷ []) rest
  braced_last {ts = ts} {rest = rest} {part = part} h e = record { adds = one_turn _ (length ts) (λ turns before. braced_end turns before ts rest part h e) }

  pub braced_last_comma : {x : Lexeme} {ts rest : List Lexeme} {part : A} → one ts ≡ Some (part, x ∷ rest) → is_punctuator (codes ",") x ≡ true → sees (codes "}") rest ≡ true
      → Adds (λ turns. braced_list turns one) ts (part ∷ []) rest
  braced_last_comma {x = x} {ts = ts} {rest = rest} {part = part} h e f = record { adds = one_turn _ (length ts) (λ turns before. braced_end_comma turns before x ts rest part h e f) }

  pub braced_more : {x : Lexeme} {ts mid rest : List Lexeme} {part : A} {parts : List A} → one ts ≡ Some (part, x ∷ mid) → is_punctuator (codes ",") x ≡ true → sees (codes "}") mid ≡ false
      → length mid < length ts → Adds (λ turns. braced_list turns one) mid parts rest → Adds (λ turns. braced_list turns one) ts (part ∷ parts) rest
  braced_more {x = x} {ts = ts} {mid = mid} {rest = rest} {part = part} {parts = parts} h e f lt p =
      record { adds = later _ (length mid) (length ts) lt (λ turns low before. braced_turn turns before x ts mid part h e f ∙ p.adds turns low (before ++ part ∷ []) ∙ added before part parts rest) }

  pub some_last : (begins : List Lexeme → Bool) {ts rest : List Lexeme} {part : A} → one ts ≡ Some (part, rest) → begins rest ≡ false → Adds (λ turns. some_list turns begins one) ts (part ∷ []) rest
  some_last begins {ts = ts} {rest = rest} {part = part} h e = record { adds = one_turn _ (length ts) (λ turns before. some_end begins turns before ts rest part h e) }

  pub some_more : (begins : List Lexeme → Bool) {ts mid rest : List Lexeme} {part : A} {parts : List A} → one ts ≡ Some (part, mid) → begins mid ≡ true → length mid < length ts
      → Adds (λ turns. some_list turns begins one) mid parts rest → Adds (λ turns. some_list turns begins one) ts (part ∷ parts) rest
  some_more begins {ts = ts} {mid = mid} {rest = rest} {part = part} {parts = parts} h e lt p =
      record { adds = later _ (length mid) (length ts) lt (λ turns low before. some_turn begins turns before ts mid part h e ∙ p.adds turns low (before ++ part ∷ []) ∙ added before part parts rest) }

  pub until_none : (ends : List Lexeme → Bool) {ts : List Lexeme} → ends ts ≡ true → Adds (λ turns. until_list turns ends one) ts [] ts
  until_none ends {ts = ts} e = record { adds = one_turn _ (length ts) (λ turns before. until_end ends turns before ts e) }

  pub until_more : (ends : List Lexeme → Bool) {ts mid rest : List Lexeme} {part : A} {parts : List A} → ends ts ≡ false → one ts ≡ Some (part, mid) → length mid < length ts
      → Adds (λ turns. until_list turns ends one) mid parts rest → Adds (λ turns. until_list turns ends one) ts (part ∷ parts) rest
  until_more ends {ts = ts} {mid = mid} {rest = rest} {part = part} {parts = parts} e h lt p =
      record { adds = later _ (length mid) (length ts) lt (λ turns low before. until_turn ends turns before ts mid part e h ∙ p.adds turns low (before ++ part ∷ []) ∙ added before part parts rest) }
