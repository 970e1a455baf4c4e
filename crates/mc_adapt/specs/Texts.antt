-- The text that is written.
use Rattle.std.specs.Prelude.{ℕ, Bool, true, false, not, ◌&&◌, if◌then◌else◌, List, [], ◌∷◌, ◌++◌, map, take, drop, codes}
use Rattle.std.specs.List.{prefix_len}
use Rattle.mc_lex.specs.Bytes.{is_digit, is_white_space}
use Rattle.adapt_tokens.specs.declared.kind.Kind.{Kind}
use Rattle.adapt_tokens.specs.declared.kind.Kind.TheVariants as kind
use Rattle.mc_adapt.specs.declared.sort.Sort.{Sort}
use Rattle.mc_adapt.specs.declared.sort.Sort.TheVariants as sort
use Rattle.mc_adapt.specs.declared.mark.Mark.{Mark}
use Rattle.mc_adapt.specs.declared.mark.Mark.TheVariants.{Stays, Goes, Outside}
use Rattle.mc_adapt.specs.Marks.{Marking}

-- a space in place of each byte; white space, a line end among it, stays
abbrev pub blank : ℕ → ℕ
blank b = if is_white_space b then b else 32

abbrev pub blanks : List ℕ → List ℕ
blanks bs = map blank bs

abbrev pub no_digit : ℕ → Bool
no_digit b = not (is_digit b)

-- `#line 12` is `#     12`: a line marker, as compilers write it
abbrev pub as_marker : List ℕ → List ℕ
as_marker [] = []
as_marker (b ∷ bs) =
    b ∷ (blanks (take (prefix_len no_digit bs) bs) ++ drop (prefix_len no_digit bs) bs)

-- a piece that stays; `#pragma` is blank
abbrev pub kept : Kind → List ℕ → List ℕ
kept kind.Pragma text = blanks text
kept kind.Line text = as_marker text
kept _ text = text

abbrev pub written_as : Mark → Kind → List ℕ → List ℕ
written_as Stays k text = kept k text
written_as Goes k text = blanks text
written_as (Outside why) k text = text

abbrev pub written : Marking → List ℕ
written m = written_as m.mark m.part.kind m.part.text

-- ---- `NAME ( ) {` becomes `NAME (void ) {` (C17 6.7.6.3p14)

abbrev pub stays : Mark → Bool
stays Stays = true
stays _ = false

abbrev pub is_gap : Sort → Bool
is_gap sort.Gap = true
is_gap _ = false

-- a token that stays
abbrev pub is_token : Mark → Sort → Bool
is_token m x = stays m && not (is_gap x)

abbrev pub is_name : Sort → Bool
is_name sort.Name = true
is_name _ = false

abbrev pub is_opening : Sort → Bool
is_opening sort.Opens = true
is_opening _ = false

abbrev pub is_closing : Sort → Bool
is_closing sort.Closes = true
is_closing _ = false

abbrev pub is_body : Sort → Bool
is_body sort.Begins = true
is_body _ = false

-- the next token that stays is `{`
abbrev pub body_follows : List Marking → Bool
body_follows [] = false
body_follows (m ∷ ms) = if is_token m.mark m.sort then is_body m.sort else body_follows ms

-- the next tokens that stay are `)` and `{`
abbrev pub empty_list_follows : List Marking → Bool
empty_list_follows [] = false
empty_list_follows (m ∷ ms) =
    if is_token m.mark m.sort then is_closing m.sort && body_follows ms else empty_list_follows ms

-- `named` says that the last token that stays is a name
abbrev pub takes_void : (named : Bool) → Marking → List Marking → Bool
takes_void named m ms =
    named && is_token m.mark m.sort && is_opening m.sort && empty_list_follows ms

abbrev pub void_if : Bool → List ℕ
void_if wanted = if wanted then codes "void" else []

abbrev pub named_after : (named : Bool) → Marking → Bool
named_after named m = if is_token m.mark m.sort then is_name m.sort else named

abbrev pub text_from : (named : Bool) → List Marking → List ℕ
text_from named [] = []
text_from named (m ∷ ms) =
    written m ++ (void_if (takes_void named m ms) ++ text_from (named_after named m) ms)

abbrev pub text_of : List Marking → List ℕ
text_of ms = text_from false ms
