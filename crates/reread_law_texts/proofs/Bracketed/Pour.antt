-- Brackets that are put by places: one token, one bracket, and parts one after the other.
use Rattle.std.proofs.Common.{◌≡◌, ◌≤◌, ◌<◌, ◌+◌, ◌-◌, ℕ, zero, suc, Bool, true, false, List, [], ◌∷◌, ◌++◌, take, drop, length, if◌then◌else◌, refl, sym, ap, ◌∙◌, codes, arith}
use Rattle.mc_span.specs.declared.span.Span.{Span}
use Rattle.mc_lex.specs.Tokens.{Tok}
use Rattle.mc_grammar.specs.Words.{Lexeme, lexeme_of, lexemes_of}
use Rattle.mc_grammar.specs.Places.{at, to}
use Rattle.mc_grammar.specs.Extent.{IsPlace, places}
use Rattle.mc_grammar.specs.Extent as extent
use Rattle.reread_law_texts.specs.weave.Brackets.{Brackets, Step, copy, put, sign, run, opening, closing, in_parentheses, in_braces_by, in_braces}
use Rattle.reread_law_texts.specs.weave.Weaving.{Steps}
use Rattle.reread_law_texts.specs.alike.Moves.{FollowFrom, end_of}
use Rattle.reread_law_texts.specs.brackets.Signs.{Sign, Signs, before, poured, opened, closed, parenthesized, once, braced}
use Rattle.reread_law_texts.proofs.Tokens.{tk, reflexive, ends_later, is_before, not_before}

-- ---- steps on tokens alone

abbrev pub run_tokens : List Step → List Tok → List Tok
run_tokens [] ts = ts
run_tokens (copy ∷ s) [] = []
run_tokens (copy ∷ s) (x ∷ ts) = x ∷ run_tokens s ts
run_tokens (put text start ∷ s) ts = sign text start ∷ run_tokens s ts

pub run_lexemes : (s : List Step) (ts : List Tok) → run s (lexemes_of ts) ≡ lexemes_of (run_tokens s ts)
run_lexemes [] ts = refl
run_lexemes (copy ∷ s) [] = refl
run_lexemes (copy ∷ s) (x ∷ ts) = ap (λ us. lexeme_of x ∷ us) (run_lexemes s ts)
run_lexemes (put text start ∷ s) ts = ap (λ us. lexeme_of (sign text start) ∷ us) (run_lexemes s ts)

-- ---- one token, one bracket

-- the first of these stands at this byte or later
abbrev pub Late : ℕ → List Sign → Type 0
Late n [] = Unit {0}
Late n (p ∷ ps) = n ≤ p.place

pub late_lower : (n m : ℕ) (ps : List Sign) → n ≤ m → Late m ps → Late n ps
late_lower n m [] h l = tt
late_lower n m (p ∷ ps) h l = omega (arith, h, l)

-- no token at the front starts before this byte
abbrev pub Head : ℕ → List Tok → Type 0
Head n [] = Unit {0}
Head n (x ∷ ts) = n ≤ x.start

longer_end : (start length : ℕ) → 0 < length → start < start + length
longer_end start length h = omega (arith, h)

shorter_start : (start length : ℕ) → start < start + length → 0 < length
shorter_start start length h = omega (arith, h)

abbrev split : ℕ → Sign → List Sign → List Tok → List Tok
split n p ps ts = take n ts ++ p.token ∷ poured ps (drop n ts)

starts_sooner : (n length place : ℕ) → n + length ≤ place → 0 < length → n < place
starts_sooner n length place h l = omega (arith, h, l)

pour_copy : (ps : List Sign) (x : Tok) (ts : List Tok) → Late (end_of x) ps → 0 < length x.text → poured ps (x ∷ ts) ≡ x ∷ poured ps ts
pour_copy [] x ts h l = refl
pour_copy (p ∷ ps) x ts h l =
    ap (λ b. split (if b then suc (before p.place ts) else 0) p ps (x ∷ ts)) (is_before x.start p.place (starts_sooner x.start (length x.text) p.place h l))

none_before : (n : ℕ) (ts : List Tok) → Head n ts → before n ts ≡ 0
none_before n [] h = refl
none_before n (x ∷ ts) h = ap (λ b. if b then suc (before n ts) else 0) (not_before x.start n h)

split_none : (p : Sign) (ps : List Sign) (ts : List Tok) → split 0 p ps ts ≡ p.token ∷ poured ps ts
split_none p ps [] = refl
split_none p ps (x ∷ ts) = refl

pour_put : (p : Sign) (ps : List Sign) (ts : List Tok) → Head p.place ts → poured (p ∷ ps) ts ≡ p.token ∷ poured ps ts
pour_put p ps ts h = ap (λ n. split n p ps ts) (none_before p.place ts h) ∙ split_none p ps ts

-- ---- parts

-- What the steps of a part do, its brackets do by their places: from this byte to that, and from these
-- tokens to those.
pub record Woven (c e : ℕ) (ts rest : List Tok) (f : Steps) (i : Signs) : Type 0 where
  pub goes : (s : List Step) (ps : List Sign) → Late e ps → run_tokens s rest ≡ poured ps rest → Late c (i ps) × (run_tokens (f s) ts ≡ poured (i ps) ts)

pub record Part (c e : ℕ) (ts rest : List Tok) (f : Steps) (i : Signs) : Type 0 where
  pub follow : FollowFrom e rest
  pub woven : Woven c e ts rest f i

-- the same, up to some byte
pub record Goes (c : ℕ) (ts rest : List Tok) (f : Steps) (i : Signs) : Type 0 where
  pub end : ℕ
  pub part : Part c end ts rest f i

pub nothing : (c : ℕ) (ts : List Tok) → FollowFrom c ts → Part c c ts ts (λ s. s) (λ ps. ps)
nothing c ts h = record { follow = h; woven = record { goes = λ s ps l e. (l, e) } }

pub token : (c : ℕ) (x : Tok) (ts : List Tok) → FollowFrom c (x ∷ ts) → Part c (end_of x) (x ∷ ts) ts (λ s. copy ∷ s) (λ ps. ps)
token c x ts h =
    record {
      follow = h.2;
      woven = record {
        goes = λ s ps l e. (
          late_lower c (end_of x) ps (ends_later c x.start (length x.text) h.0) l,
          ap (λ us. x ∷ us) e ∙ sym (pour_copy ps x ts l h.1),
        );
      };
    }

pub join : {c e k : ℕ} {ts mid rest : List Tok} {f g : Steps} {i j : Signs} → Part c e ts mid f i → (FollowFrom e mid → Part e k mid rest g j) → Part c k ts rest (λ s. f (g s)) (λ ps. i (j ps))
join {g = g} {j = j} p q =
    let second = q p.follow in
    record {
      follow = second.follow;
      woven = record { goes = λ s ps l e. let r = second.woven.goes s ps l e in p.woven.goes (g s) (j ps) r.0 r.1 };
    }

pub some : {c e : ℕ} {ts rest : List Tok} {f : Steps} {i : Signs} → Part c e ts rest f i → Goes c ts rest f i
some {e = e} p = record { end = e; part = p }

pub chain : {c : ℕ} {ts mid rest : List Tok} {f g : Steps} {i j : Signs} → Goes c ts mid f i → ((e : ℕ) → FollowFrom e mid → Goes e mid rest g j) → Goes c ts rest (λ s. f (g s)) (λ ps. i (j ps))
chain p q =
    let second = q p.end p.part.follow in
    record { end = second.end; part = join p.part (λ h. second.part) }

pub one : (c : ℕ) (x : Tok) (ts : List Tok) → FollowFrom c (x ∷ ts) → Goes c (x ∷ ts) ts (λ s. copy ∷ s) (λ ps. ps)
one c x ts h = some (token c x ts h)

-- ---- brackets round a part

pub record Placed (c : ℕ) (span : Span) (ts rest : List Tok) : Type 0 where
  pub lower : c ≤ span.start
  pub head : Head span.start ts
  pub follow : FollowFrom span.end rest

follow_head : (n : ℕ) (ts : List Tok) → FollowFrom n ts → Head n ts
follow_head n [] h = tt
follow_head n (x ∷ ts) h = h.0

opened_late : (n c : ℕ) (text : List ℕ) (span : Span) (ps : List Sign) → c ≤ span.start → Late c ps → Late c (opened n text span ps)
opened_late zero c text span ps h l = l
opened_late (suc n) c text span ps h l = h

closed_late : (n e : ℕ) (text : List ℕ) (span : Span) (ps : List Sign) → e ≤ span.end → Late span.end ps → Late e (closed n text span ps)
closed_late zero e text span ps h l = late_lower e span.end ps h l
closed_late (suc n) e text span ps h l = closed_late n e text span (record { place = span.end; token = sign text (span.end - 1) } ∷ ps) h (reflexive span.end)

open_parentheses : (n : ℕ) (span : Span) (s : List Step) (ps : List Sign) (ts : List Tok) → Head span.start ts → run_tokens s ts ≡ poured ps ts
    → run_tokens (opening n span s) ts ≡ poured (opened n (codes "(") span ps) ts
open_parentheses zero span s ps ts h e = e
open_parentheses (suc n) span s ps ts h e =
    ap (λ us. sign (codes "(") span.start ∷ us) (open_parentheses n span s ps ts h e)
    ∙ sym (pour_put (record { place = span.start; token = sign (codes "(") span.start }) (opened n (codes "(") span ps) ts h)

close_parentheses : (n : ℕ) (span : Span) (s : List Step) (ps : List Sign) (ts : List Tok) → Head span.end ts → run_tokens s ts ≡ poured ps ts
    → run_tokens (closing n span s) ts ≡ poured (closed n (codes ")") span ps) ts
close_parentheses zero span s ps ts h e = e
close_parentheses (suc n) span s ps ts h e =
    close_parentheses n span (put (codes ")") (span.end - 1) ∷ s) (record { place = span.end; token = sign (codes ")") (span.end - 1) } ∷ ps) ts h
    (ap (λ us. sign (codes ")") (span.end - 1) ∷ us) e ∙ sym (pour_put (record { place = span.end; token = sign (codes ")") (span.end - 1) }) ps ts h))

wrap_by : (n : ℕ) (span : Span) (c : ℕ) (ts rest : List Tok) (f : Steps) (i : Signs) → Placed c span ts rest → Woven c span.end ts rest f i
    → Woven c span.end ts rest (λ s. opening n span (f (closing n span s))) (λ ps. opened n (codes "(") span (i (closed n (codes ")") span ps)))
wrap_by n span c ts rest f i place p =
    record {
      goes = λ s ps l e.
          let r = p.goes (closing n span s) (closed n (codes ")") span ps) (closed_late n span.end (codes ")") span ps (reflexive span.end) l)
          (close_parentheses n span s ps rest (follow_head span.end rest place.follow) e) in (
            opened_late n c (codes "(") span (i (closed n (codes ")") span ps)) place.lower r.0,
            open_parentheses n span (f (closing n span s)) (i (closed n (codes ")") span ps)) ts place.head r.1,
          );
    }

pub wrap : (w : Brackets) (span : Span) (c : ℕ) (ts rest : List Tok) (f : Steps) (i : Signs) → Placed c span ts rest → Part c span.end ts rest f i
    → Part c span.end ts rest (in_parentheses w span f) (parenthesized w span i)
wrap w span c ts rest f i place p = record { follow = p.follow; woven = wrap_by (w.parentheses span) span c ts rest f i place p.woven }

brace_by : (b : Bool) (span : Span) (c : ℕ) (ts rest : List Tok) (f : Steps) (i : Signs) → Placed c span ts rest → Woven c span.end ts rest f i
    → Woven c span.end ts rest (in_braces_by b span f) (λ ps. opened (once b) (codes "{") span (i (closed (once b) (codes "}") span ps)))
brace_by false span c ts rest f i place p = record { goes = λ s ps l e. p.goes s ps l e }
brace_by true span c ts rest f i place p =
    record {
      goes = λ s ps l e.
          let end : Sign = record { place = span.end; token = sign (codes "}") (span.end - 1) } in
          let start : Sign = record { place = span.start; token = sign (codes "{") span.start } in
          let r = p.goes (put (codes "}") (span.end - 1) ∷ s) (end ∷ ps) (reflexive span.end)
          (ap (λ us. sign (codes "}") (span.end - 1) ∷ us) e ∙ sym (pour_put end ps rest (follow_head span.end rest place.follow))) in (
            place.lower,
            ap (λ us. sign (codes "{") span.start ∷ us) r.1 ∙ sym (pour_put start (i (end ∷ ps)) ts place.head),
          );
    }

pub brace : (w : Brackets) (span : Span) (c : ℕ) (ts rest : List Tok) (f : Steps) (i : Signs) → Placed c span ts rest → Part c span.end ts rest f i
    → Part c span.end ts rest (in_braces w span f) (braced w span i)
brace w span c ts rest f i place p = record { follow = p.follow; woven = brace_by (w.braces span) span c ts rest f i place p.woven }

-- ---- where parts stand

abbrev FollowPlaces : ℕ → List Span → Type 0
FollowPlaces c [] = Unit {0}
FollowPlaces c (place ∷ all) = (c ≤ place.start) × (place.start < place.end) × FollowPlaces place.end all

abbrev HeadPlaces : ℕ → List Span → Type 0
HeadPlaces n [] = Unit {0}
HeadPlaces n (place ∷ all) = n ≤ place.start

to_places : (c : ℕ) (ts : List Lexeme) → FollowFrom c (tk ts) → FollowPlaces c (places ts)
to_places c [] h = tt
to_places c (x ∷ ts) h = (h.0, longer_end x.token.start (length x.token.text) h.1, to_places (end_of x.token) ts h.2)

from_places : (c : ℕ) (ts : List Lexeme) → FollowPlaces c (places ts) → FollowFrom c (tk ts)
from_places c [] h = tt
from_places c (x ∷ ts) h = (h.0, shorter_start x.token.start (length x.token.text) h.1, from_places (end_of x.token) ts h.2)

head_tokens : (n : ℕ) (ts : List Lexeme) → HeadPlaces n (places ts) → Head n (tk ts)
head_tokens n [] h = tt
head_tokens n (x ∷ ts) h = h

lowest : {span : Span} {all rest : List Span} → IsPlace span all rest → (c : ℕ) → FollowPlaces c all → c ≤ span.start
lowest extent.single c h = h.0
lowest (extent.longer p) c h = h.0

at_head : {span : Span} {all rest : List Span} → IsPlace span all rest → HeadPlaces span.start all
at_head (extent.single {place = place}) = reflexive place.start
at_head (extent.longer {place = place} p) = reflexive place.start

left_after : {span : Span} {all rest : List Span} → IsPlace span all rest → (c : ℕ) → FollowPlaces c all → FollowPlaces span.end rest
left_after extent.single c h = h.2
left_after (extent.longer {place = place} p) c h = left_after p place.end h.2

pub placed : (c : ℕ) (span : Span) (ts rest : List Lexeme) → IsPlace span (places ts) (places rest) → FollowFrom c (tk ts) → Placed c span (tk ts) (tk rest)
placed c span ts rest p h =
    record {
      lower = lowest p c (to_places c ts h);
      head = head_tokens span.start ts (at_head p);
      follow = from_places span.end rest (left_after p c (to_places c ts h));
    }

-- a place that begins with one part and ends with another
pub onward : {c : ℕ} {a : Span} (b : Span) {from mid rest : List Tok} → Placed c a from mid → FollowFrom b.end rest → Placed c (to a b) from rest
onward b place h = record { lower = place.lower; head = place.head; follow = h }

-- a place that begins with a token
pub begun : (c : ℕ) (x : Lexeme) (last : Span) (ts rest : List Tok) → FollowFrom c (x.token ∷ ts) → FollowFrom last.end rest → Placed c (to (at x) last) (x.token ∷ ts) rest
begun c x last ts rest h k = record { lower = h.0; head = reflexive x.token.start; follow = k }
