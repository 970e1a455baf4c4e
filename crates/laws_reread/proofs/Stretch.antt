-- Stretches of what is spelled in which each bracket belongs to another one.
use Rattle.std.proofs.Common.{◌≡◌, Bool, true, false, ◌&&◌, ◌||◌, List, [], ◌∷◌, refl, sym, codes, true≢false}
use Rattle.std.specs.Str.{bytes_eq}
use Rattle.mc_lex.specs.Words.{one_of}
use Rattle.mc_grammar.specs.Spelling.{Spelled, Punctuator, Keyword, Identifier, TypedefName, Tag, Constant, Character, Typedef, left_parenthesis, right_parenthesis, left_bracket, right_bracket, left_brace, right_brace}
use Rattle.laws_reread.proofs.Signs.{brackets, none_of}

-- no bracket
abbrev pub IsFree : Spelled → Type 0
IsFree (Punctuator text) = one_of brackets text ≡ false
IsFree _ = Unit {0}

-- The first token is a `{`.
abbrev pub begins_brace : List Spelled → Bool
begins_brace [] = false
begins_brace (Punctuator text ∷ rest) = bytes_eq text (codes "{")
begins_brace (Typedef name ∷ rest) = begins_brace rest
begins_brace (Keyword text ∷ rest) = false
begins_brace (Identifier name ∷ rest) = false
begins_brace (TypedefName name ∷ rest) = false
begins_brace (Tag name ∷ rest) = false
begins_brace (Constant value decimal unsigned longs ∷ rest) = false
begins_brace (Character value ∷ rest) = false

-- what may follow a `)`: where no body is allowed, no `{`
abbrev pub MayFollow : Bool → List Spelled → Type 0
MayFollow true all = Unit {0}
MayFollow false all = begins_brace all ≡ false

-- From the first list to the second: whether a `{` is allowed, and whether one is after a `)`.
pub data Stretch (braces bodies : Bool) : List Spelled → List Spelled → Type 0 where
  empty : {all : List Spelled} → Stretch braces bodies all all
  free : {one : Spelled} {all rest : List Spelled}
      → IsFree one → Stretch braces bodies all rest → Stretch braces bodies (one ∷ all) rest
  round : {all mid rest : List Spelled}
      → Stretch braces bodies all (right_parenthesis ∷ mid) → MayFollow bodies mid → Stretch braces bodies mid rest
      → Stretch braces bodies (left_parenthesis ∷ all) rest
  square : {all mid rest : List Spelled}
      → Stretch braces bodies all (right_bracket ∷ mid) → Stretch braces bodies mid rest
      → Stretch braces bodies (left_bracket ∷ all) rest
  curly : {all mid rest : List Spelled}
      → braces ≡ true → Stretch braces bodies all (right_brace ∷ mid) → Stretch braces bodies mid rest
      → Stretch braces bodies (left_brace ∷ all) rest

pub join : {b n : Bool} {xs ys zs : List Spelled} → Stretch b n xs ys → Stretch b n ys zs → Stretch b n xs zs
join empty q = q
join (free e s) q = free e (join s q)
join (round s f t) q = round s f (join t q)
join (square s t) q = square s (join t q)
join (curly e s t) q = curly e s (join t q)

-- where all is allowed
pub whole : {b n : Bool} {xs ys : List Spelled} → Stretch b n xs ys → Stretch true true xs ys
whole empty = empty
whole (free e s) = free e (whole s)
whole (round s f t) = round (whole s) tt (whole t)
whole (square s t) = square (whole s) (whole t)
whole (curly e s t) = curly refl (whole s) (whole t)

-- ---- braces

abbrev pub NoBrace : Spelled → Type 0
NoBrace (Punctuator text) = bytes_eq text (codes "{") ≡ false
NoBrace _ = Unit {0}

abbrev pub NoBraces : List Spelled → Type 0
NoBraces [] = Unit {0}
NoBraces (one ∷ all) = NoBrace one × NoBraces all

free_brace : (one : Spelled) → IsFree one → NoBrace one
free_brace (Punctuator text) e = (none_of text e).brace
free_brace (Keyword text) e = tt
free_brace (Identifier name) e = tt
free_brace (TypedefName name) e = tt
free_brace (Tag name) e = tt
free_brace (Constant value decimal unsigned longs) e = tt
free_brace (Character value) e = tt
free_brace (Typedef name) e = tt

pub no_braces : {n : Bool} {xs ys : List Spelled} → Stretch false n xs ys → NoBraces ys → NoBraces xs
no_braces empty h = h
no_braces (free {one = one} e s) h = (free_brace one e, no_braces s h)
no_braces (round s f t) h = (refl, no_braces s (refl, no_braces t h))
no_braces (square s t) h = (refl, no_braces s (refl, no_braces t h))
no_braces (curly e s t) h = absurd (true≢false (sym e))

-- ---- bodies

abbrev pub is_close : Spelled → Bool
is_close (Punctuator text) = bytes_eq text (codes ")")
is_close _ = false

-- a `)` and a `{` directly after it
abbrev pub holds_body : List Spelled → Bool
holds_body [] = false
holds_body (one ∷ rest) = is_close one && begins_brace rest || holds_body rest

free_close : (one : Spelled) → IsFree one → is_close one ≡ false
free_close (Punctuator text) e = (none_of text e).close
free_close (Keyword text) e = refl
free_close (Identifier name) e = refl
free_close (TypedefName name) e = refl
free_close (Tag name) e = refl
free_close (Constant value decimal unsigned longs) e = refl
free_close (Character value) e = refl
free_close (Typedef name) e = refl

neither_body : (a b c : Bool) → a ≡ false → c ≡ false → (a && b || c) ≡ false
neither_body a b c e f = rw (e, f) refl

later_body : (b c : Bool) → b ≡ false → c ≡ false → (b || c) ≡ false
later_body b c e f = rw (e, f) refl

pub no_body : {b : Bool} {xs ys : List Spelled} → Stretch b false xs ys → holds_body ys ≡ false → holds_body xs ≡ false
no_body empty h = h
no_body (free {one = one} {all = all} e s) h = neither_body (is_close one) (begins_brace all) (holds_body all) (free_close one e) (no_body s h)
no_body (round {mid = mid} s f t) h = no_body s (later_body (begins_brace mid) (holds_body mid) f (no_body t h))
no_body (square s t) h = no_body s (no_body t h)
no_body (curly e s t) h = no_body s (no_body t h)
