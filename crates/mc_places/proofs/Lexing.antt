-- A line is a marker where it is one for the tokens of a source.
use Rattle.std.proofs.Common.{◌≡◌, ◌∙◌, ◌+◌, ℕ, suc, Bool, true, false, cond, List, [], ◌∷◌, Option, drop, refl, sym, ap, arith}
use Rattle.std.specs.Prelude.{Some, None, is_some, IsSome, ◌&&◌, ◌||◌, ◌==◌, ◌↔◌, if◌then◌else◌}
use Rattle.std.specs.List.{list_all, prefix_len}
use Rattle.std.specs.Str.Parse.{digits_value}
use Rattle.mc_lex.specs.Bytes.{is_digit, is_white_space_in_line}
use Rattle.mc_lex.specs.Gaps.{IsMarker, is_digit_or_white_space, is_quoted}
use Rattle.mc_lex.specs.steps.Scanner.{skip, is_marker_end, is_marker_name, is_marker_rest, is_marker_number, is_marker}
use Rattle.mc_lex.proofs.Markers.{marker_found, marker_is}
use Rattle.mc_places.specs.Markers.{Marker, after_number, closed, hashed, line_number, marker_of, named, numbered, past, run_of}

some_if : (t : Bool) (m : Marker) → is_some (if t then Some m else None) ≡ t
some_if true m = refl
some_if false m = refl

and_if : (t u : Bool) (o : Option Marker) → is_some o ≡ u → is_some (if t then o else None) ≡ (t && u)
and_if true u o e = e
and_if false u o e = refl

or_if : (t u : Bool) (m : Marker) (o : Option Marker) → is_some o ≡ u → is_some (if t then Some m else o) ≡ (t || u)
or_if true u m o e = refl
or_if false u m o e = e

closed_is : (number : Option ℕ) (name bs : List ℕ) → is_some (closed number name bs) ≡ is_marker_end bs
closed_is number name [] = refl
closed_is number name (b ∷ bs) = some_if (b == 34 && list_all is_digit_or_white_space bs) _

named_is : (number : Option ℕ) (bs : List ℕ) → is_some (named number bs) ≡ is_marker_name bs
named_is number [] = refl
named_is number (b ∷ bs) = and_if (b == 34) (is_marker_end (skip is_quoted bs)) (closed number (run_of is_quoted bs) (past is_quoted bs)) (closed_is number (run_of is_quoted bs) (past is_quoted bs))

rest_is : (number : Option ℕ) (bs : List ℕ) → is_some (after_number number bs) ≡ is_marker_rest bs
rest_is number bs =
    or_if (list_all is_digit_or_white_space bs) (is_marker_name (skip is_white_space_in_line bs)) _ (named number (past is_white_space_in_line bs))
    (named_is number (past is_white_space_in_line bs))

past_first : (t : Bool) (n b : ℕ) (bs : List ℕ) → t ≡ true → drop (cond t (1 + n) 0) (b ∷ bs) ≡ drop n bs
past_first true n b bs e = let next : 1 + n ≡ suc n = omega arith in ap (λ (k : ℕ). drop k (b ∷ bs)) next
past_first false n b bs e = absurd (cc)

number_if : (t : Bool) (b : ℕ) (bs : List ℕ) (number : Option ℕ) → is_digit b ≡ t → is_some (if t then after_number number (past is_digit (b ∷ bs)) else None) ≡ (t && is_marker_rest (skip is_digit bs))
number_if true b bs number is = rest_is number (past is_digit (b ∷ bs)) ∙ ap is_marker_rest (past_first (is_digit b) (prefix_len is_digit bs) b bs is)
number_if false b bs number is = refl

number_is : (bs : List ℕ) → is_some (numbered bs) ≡ is_marker_number bs
number_is [] = refl
number_is (b ∷ bs) = number_if (is_digit b) b bs (line_number (digits_value 10 (run_of is_digit (b ∷ bs)))) refl

hash_is : (bs : List ℕ) → is_some (hashed bs) ≡ is_marker bs
unfolding is_marker
hash_is [] = refl
hash_is (b ∷ bs) = and_if (b == 35) (is_marker_number (skip is_white_space_in_line bs)) (numbered (past is_white_space_in_line bs)) (number_is (past is_white_space_in_line bs))

pub lexer_has : (line : List ℕ) → IsSome (marker_of line) ↔ IsMarker (past is_white_space_in_line line)
lexer_has line =
    let text = past is_white_space_in_line line in (
      λ e. marker_is text (sym (hash_is text) ∙ e),
      λ m. hash_is text ∙ marker_found text m,
    )
