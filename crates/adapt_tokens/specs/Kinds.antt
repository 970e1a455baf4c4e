-- What a text is by itself (C17 6.4), where it is one piece of a preprocessed source.
use Rattle.std.specs.Prelude.{ℕ, Bool, true, false, ◌&&◌, ◌||◌, ◌==◌, nat_eq, nat_le, if◌then◌else◌, List, [], ◌∷◌, length, Option, Some, None}
use Rattle.std.specs.List.{list_all}
use Rattle.mc_lex.specs.Bytes.{is_letter, is_word_byte, is_white_space, goes_on}
use Rattle.mc_lex.specs.Numbers.{starts_number, each_continues}
use Rattle.adapt_tokens.specs.Literals.{is_quote, literal_len, literal_closes}
use Rattle.adapt_tokens.specs.Directives.{directive_kind}
use Rattle.adapt_tokens.specs.declared.kind.Kind.{Kind}
use Rattle.adapt_tokens.specs.declared.kind.Kind.TheVariants as kind

abbrev pub is_empty : List ℕ → Bool
is_empty [] = true
is_empty (b ∷ bs) = false

abbrev pub when : Bool → Kind → Option Kind
when holds kind = if holds then Some kind else None

-- `'` opens a character constant, `"` a string
abbrev pub closed_kind : ℕ → Kind
closed_kind quote = if quote == 39 then kind.Character else kind.Text

-- a literal is the whole text, closed or open
abbrev pub literal_kind : ℕ → List ℕ → Option Kind
literal_kind quote bs =
    when (nat_eq (literal_len quote false bs) (length bs))
    (if literal_closes quote false bs then closed_kind quote else kind.OpenText)

-- the text after `/*` is a comment that its first `*/` ends, or an open one
abbrev pub comment_kind : List ℕ → Option Kind
comment_kind [] = Some kind.OpenComment
comment_kind (a ∷ []) = Some kind.OpenComment
comment_kind (a ∷ b ∷ bs) =
    if a == 42 && b == 47 then when (is_empty bs) kind.Comment else comment_kind (b ∷ bs)

-- ---- punctuators (C17 6.4.6); those of one byte are all bytes that are left

-- + - * / % & | ^ < > = ! before =
abbrev pub stands_before_equals : ℕ → Bool
stands_before_equals b =
    b == 43 || b == 45 || b == 42 || b == 47 || b == 37 || b == 38 || b == 124 || b == 94
    || b == 60 || b == 62 || b == 61 || b == 33

-- ++ -- & & | | < < > >
abbrev pub is_doubled : ℕ → Bool
is_doubled b = b == 43 || b == 45 || b == 38 || b == 124 || b == 60 || b == 62

-- -> <: :> <% %> %:
abbrev pub is_other_pair : ℕ → ℕ → Bool
is_other_pair a b =
    (a == 45 && b == 62) || (a == 60 && b == 58) || (a == 58 && b == 62) || (a == 60 && b == 37)
    || (a == 37 && b == 62) || (a == 37 && b == 58)

-- the punctuators of two bytes
abbrev pub is_pair : ℕ → ℕ → Bool
is_pair a b =
    (stands_before_equals a && b == 61) || (is_doubled a && b == a) || is_other_pair a b

-- the punctuators of three bytes: <<= >>= ...
abbrev pub is_triple : ℕ → ℕ → ℕ → Bool
is_triple a b c =
    ((a == 60 || a == 62) && b == a && c == 61) || (a == 46 && b == 46 && c == 46)

-- a byte that is a punctuator by itself: ! % & ( ) * + , - . / : ; < = > ? [ ] ^ { | } ~
-- (the quote 39 among them is no symbol)
abbrev pub is_lone : ℕ → Bool
is_lone b =
    b == 33 || (nat_le 37 b && nat_le b 47) || (nat_le 58 b && nat_le b 63)
    || b == 91 || b == 93 || b == 94 || (nat_le 123 b && nat_le b 126)

-- a byte that begins nothing else
abbrev pub lone_kind : ℕ → Kind
lone_kind b = if is_lone b then kind.Punctuator else kind.Byte

abbrev pub long_kind : (a b : ℕ) → List ℕ → Option Kind
long_kind a b [] = when (is_pair a b) kind.Punctuator
long_kind a b (c ∷ bs) = when (is_triple a b c && is_empty bs) kind.Punctuator

-- a comment, a punctuator, or a byte that begins nothing
abbrev pub symbol_kind : ℕ → List ℕ → Option Kind
symbol_kind a [] = Some (lone_kind a)
symbol_kind a (b ∷ bs) =
    if a == 47 && b == 42 then comment_kind bs
    else (if a == 47 && b == 47 then when (list_all goes_on bs) kind.Comment
    else long_kind a b bs)

-- what the text is, where it is one piece; `first` says that only white space stands before it on
-- its line
abbrev pub kind_of : (first : Bool) → List ℕ → Option Kind
kind_of first [] = None
kind_of first (b ∷ bs) =
    if is_white_space b then when (is_empty bs) kind.White
    else (if is_letter b then when (list_all is_word_byte bs) kind.Word
    else (if starts_number b bs then when (each_continues b bs) kind.Number
    else (if is_quote b then literal_kind b bs
    else (if b == 35 && first then when (list_all goes_on bs) (directive_kind bs)
    else symbol_kind b bs))))
