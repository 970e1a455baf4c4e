-- Tokens from a place on, in a list of tokens that follow each other.
use Rattle.std.proofs.Common.{◌≡◌, ◌≤◌, ◌<◌, ◌+◌, ℕ, suc, nat_lt, Bool, true, false, cond, List, [], ◌∷◌, ◌++◌, length, take, drop, refl, sym, ap, ◌∙◌, arith}
use Rattle.std.proofs.lemmas.Bool.Decides.{nat_tests}
use Rattle.mc_lex.specs.Tokens.{Tok}
use Rattle.reread_law_texts.specs.alike.Moves.{FollowFrom, end_of}
use Rattle.mc_print.specs.Pens.{before}
use Rattle.reread_law_texts.proofs.Tokens.{is_before, not_before}

-- those that do not start before a byte, from the first such one on
abbrev pub past_place : ℕ → List Tok → List Tok
past_place at [] = []
past_place at (t ∷ ts) = cond (nat_lt t.start at) (past_place at ts) (t ∷ ts)

-- those in front of them
abbrev pub up_to : ℕ → List Tok → List Tok
up_to at [] = []
up_to at (t ∷ ts) = cond (nat_lt t.start at) (t ∷ up_to at ts) []

-- ---- numbers

pub before_is : (n m : ℕ) → nat_lt n m ≡ true → n < m
before_is n m h = grind (arith, nat_tests)

pub before_not : (n m : ℕ) → nat_lt n m ≡ false → m ≤ n
before_not n m h = grind (arith, nat_tests)

sooner : (a b c : ℕ) → a < b → b ≤ c → a < c
sooner a b c lt le = omega (arith, lt, le)

no_later : (a b c : ℕ) → a ≤ b → b ≤ c → a ≤ c
no_later a b c h k = omega (arith, h, k)

-- ---- as they are counted

pub dropped : (at : ℕ) (ts : List Tok) → past_place at ts ≡ drop (before at ts) ts
dropped at [] = refl
dropped at (t ∷ ts) = by_test (nat_lt t.start at) (dropped at ts)
  where
    by_test : (b : Bool) → past_place at ts ≡ drop (before at ts) ts → cond b (past_place at ts) (t ∷ ts) ≡ drop (cond b (suc (before at ts)) 0) (t ∷ ts)
    by_test true more = more
    by_test false more = refl

pub taken : (at : ℕ) (ts : List Tok) → up_to at ts ≡ take (before at ts) ts
taken at [] = refl
taken at (t ∷ ts) = by_test (nat_lt t.start at) (taken at ts)
  where
    by_test : (b : Bool) → up_to at ts ≡ take (before at ts) ts → cond b (t ∷ up_to at ts) [] ≡ take (cond b (suc (before at ts)) 0) (t ∷ ts)
    by_test true more = ap (λ us. t ∷ us) more
    by_test false more = refl

pub joined : (at : ℕ) (ts : List Tok) → up_to at ts ++ past_place at ts ≡ ts
joined at [] = refl
joined at (t ∷ ts) = by_test (nat_lt t.start at) (joined at ts)
  where
    by_test : (b : Bool) → up_to at ts ++ past_place at ts ≡ ts → cond b (t ∷ up_to at ts) [] ++ cond b (past_place at ts) (t ∷ ts) ≡ t ∷ ts
    by_test true more = ap (λ us. t ∷ us) more
    by_test false more = refl

-- ---- one place after the other

pub passes : (t : Tok) (ts : List Tok) (at : ℕ) → t.start < at → past_place at (t ∷ ts) ≡ past_place at ts
passes t ts at lt = ap (λ b. cond b (past_place at ts) (t ∷ ts)) (is_before t.start at lt)

pub stops : (t : Tok) (ts : List Tok) (at : ℕ) → at ≤ t.start → past_place at (t ∷ ts) ≡ t ∷ ts
stops t ts at le = ap (λ b. cond b (past_place at ts) (t ∷ ts)) (not_before t.start at le)

pub further : (a b : ℕ) (ts : List Tok) → a ≤ b → past_place b (past_place a ts) ≡ past_place b ts
further a b [] le = refl
further a b (t ∷ ts) le = by_test (nat_lt t.start a) refl (further a b ts le)
  where
    by_test : (c : Bool) → nat_lt t.start a ≡ c → past_place b (past_place a ts) ≡ past_place b ts → past_place b (cond c (past_place a ts) (t ∷ ts)) ≡ past_place b (t ∷ ts)
    by_test true e more = more ∙ sym (passes t ts b (sooner t.start a b (before_is t.start a e) le))
    by_test false e more = refl

-- ---- tokens that follow each other

pub first_place : (place : ℕ) (xs : List Tok) (t : Tok) (ts : List Tok) → FollowFrom place (xs ++ t ∷ ts) → place ≤ t.start
first_place place [] t ts h = h.0
first_place place (x ∷ xs) t ts h = let later = first_place (end_of x) xs t ts h.2 in omega (arith, h.0, later)

pub found : (place : ℕ) (xs : List Tok) (t : Tok) (ts : List Tok) → FollowFrom place (xs ++ t ∷ ts) → past_place t.start (xs ++ t ∷ ts) ≡ t ∷ ts
found place [] t ts h = stops t ts t.start (omega arith)
found place (x ∷ xs) t ts h =
    let later = first_place (end_of x) xs t ts h.2 in
    passes x (xs ++ t ∷ ts) t.start (omega (arith, h.1, later)) ∙ found (end_of x) xs t ts h.2

pub has_text : (place : ℕ) (xs : List Tok) (t : Tok) (ts : List Tok) → FollowFrom place (xs ++ t ∷ ts) → 0 < length t.text
has_text place [] t ts h = h.1
has_text place (x ∷ xs) t ts h = has_text (end_of x) xs t ts h.2

pub beyond : (place at : ℕ) (xs : List Tok) (t : Tok) (ts : List Tok) → FollowFrom place (xs ++ t ∷ ts) → end_of t ≤ at → past_place at (xs ++ t ∷ ts) ≡ past_place at ts
beyond place at [] t ts h le = passes t ts at (omega (arith, h.1, le))
beyond place at (x ∷ xs) t ts h le =
    let later = first_place (end_of x) xs t ts h.2 in
    let text : 0 < length t.text = has_text (end_of x) xs t ts h.2 in
    passes x (xs ++ t ∷ ts) at (omega (arith, h.1, later, text, le)) ∙ beyond (end_of x) at xs t ts h.2 le

pub follow_after : (place : ℕ) (xs : List Tok) (t : Tok) (ts : List Tok) → FollowFrom place (xs ++ t ∷ ts) → FollowFrom (end_of t) ts
follow_after place [] t ts h = h.2
follow_after place (x ∷ xs) t ts h = follow_after (end_of x) xs t ts h.2

-- tokens that start at a byte or later
pub not_past : (at : ℕ) (ts : List Tok) → FollowFrom at ts → past_place at ts ≡ ts
not_past at [] h = refl
not_past at (t ∷ ts) h = stops t ts at h.0

-- ---- what is left

-- From this byte on these tokens are what is left of those.
abbrev pub Left : List Tok → ℕ → List Tok → Type 0
Left tokens from ts = (s : ℕ) → from ≤ s → past_place s tokens ≡ past_place s ts

pub left_later : (tokens ts : List Tok) (from to : ℕ) → Left tokens from ts → from ≤ to → Left tokens to ts
left_later tokens ts from to h le s more = h s (no_later from to s le more)

pub left_upto : (tokens ts : List Tok) (from to : ℕ) → Left tokens from ts → from ≤ to → Left tokens to (past_place to ts)
left_upto tokens ts from to h le s more = h s (no_later from to s le more) ∙ sym (further to s ts more)

pub left_first : (tokens : List Tok) (t : Tok) (ts : List Tok) (from to : ℕ) → Left tokens from (t ∷ ts) → from ≤ to → t.start < to → Left tokens to ts
left_first tokens t ts from to h le lt s more = h s (no_later from to s le more) ∙ passes t ts s (sooner t.start to s lt more)
