-- Lines that begin with `#`: line markers, `#pragma` (C17 6.10.6), `#line` (C17 6.10.4).
use Rattle.std.specs.Prelude.{ℕ, Bool, false, if◌then◌else◌, List, [], ◌∷◌, take, drop, codes}
use Rattle.std.specs.List.{prefix_len}
use Rattle.std.specs.Str.{bytes_eq}
use Rattle.mc_lex.specs.Bytes.{is_digit, is_word_byte, is_white_space_in_line}
use Rattle.adapt_tokens.specs.declared.kind.Kind.{Kind}
use Rattle.adapt_tokens.specs.declared.kind.Kind.TheVariants as kind

-- what stands after the white space
abbrev pub past_space : List ℕ → List ℕ
past_space bs = drop (prefix_len is_white_space_in_line bs) bs

-- the letters, digits and `_` at the start, and what stands after them
abbrev pub first_word : List ℕ → List ℕ
first_word bs = take (prefix_len is_word_byte bs) bs

abbrev pub past_word : List ℕ → List ℕ
past_word bs = drop (prefix_len is_word_byte bs) bs

abbrev pub begins_with_digit : List ℕ → Bool
begins_with_digit [] = false
begins_with_digit (b ∷ bs) = is_digit b

-- by what stands after `line`
abbrev pub line_kind : List ℕ → Kind
line_kind bs = if begins_with_digit (past_space bs) then kind.Line else kind.Directive

-- by what stands after the `#` and white space
abbrev pub named_directive : List ℕ → Kind
named_directive bs =
    if begins_with_digit bs then kind.Marker
    else (if bytes_eq (first_word bs) (codes "pragma") then kind.Pragma
    else (if bytes_eq (first_word bs) (codes "line") then line_kind (past_word bs)
    else kind.Directive))

-- a line from the byte after its `#` on: a number is a marker, as compilers write it; then
-- `#pragma`, and `#line` with a number; any other is `Directive`
abbrev pub directive_kind : List ℕ → Kind
directive_kind bs = named_directive (past_space bs)
