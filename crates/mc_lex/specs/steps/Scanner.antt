-- Steps of the scanner, as functions on lists: they repeat the code's loops for its proofs.
-- What a token list is does not stand here but in the files above this folder.
use Rattle.std.specs.Prelude.{◌≤◌, ◌<◌, ℕ, zero, suc, ◌+◌, ◌-◌, ◌^◌, Bool, true, false, not, ◌&&◌, ◌||◌, ◌==◌, nat_le, nat_lt, nat_eq, if◌then◌else◌, List, [], ◌∷◌, ◌++◌, length, take, drop, filter, map, Option, Some, None, Result, Ok, Err, codes}
use denote.Ref.{Bor}
use Rattle.std.specs.List.{list_all, prefix_len, starts_with}
use Rattle.std.specs.Str.Parse.{digits_value}
use Rattle.mc_lex.specs.declared.token.Dialect.{Dialect}
use Rattle.mc_lex.specs.declared.token.TokenKind.{TokenKind}
use Rattle.mc_lex.specs.declared.token.TokenKind.TheVariants.{Punctuator, Character}
use Rattle.mc_lex.specs.declared.fault_kind.FaultKind.{FaultKind}
use Rattle.mc_lex.specs.declared.fault_kind.FaultKind.TheVariants as fault_kind
use Rattle.mc_lex.specs.declared.fault.LexFault.{LexFault}
use Rattle.mc_lex.specs.declared.base.Base.{Base}
use Rattle.mc_lex.specs.declared.base.Base.TheVariants as base
use Rattle.mc_lex.specs.declared.suffix.Suffix.{Suffix}
use Rattle.mc_lex.specs.declared.suffix.Suffix.TheVariants as suffix
use Rattle.mc_lex.specs.declared.next.Next.{Next}
use Rattle.mc_lex.specs.declared.next.Next.TheVariants as next
use Rattle.mc_lex.specs.declared.candidate.Candidate.{Candidate}
use Rattle.mc_lex.specs.declared.candidate.Class.{Class}
use Rattle.mc_lex.specs.declared.candidate.Class.TheVariants as class
use Rattle.mc_lex.specs.declared.character.Quoted.{Quoted}
use Rattle.mc_lex.specs.Bytes.{is_digit, is_octal, is_hexadecimal, is_letter, is_word_byte, is_white_space, is_white_space_in_line, is_line_end, goes_on}
use Rattle.mc_lex.specs.Words.{one_of, word_kind}
use Rattle.mc_lex.specs.Numbers.{continues, starts_number, is_decimal, has_u, suffix_texts, has_hexadecimal_prefix, fault_of_number, constant}
use Rattle.mc_lex.specs.Characters.{is_plain, simple_escape, signed_char}
use Rattle.mc_lex.specs.Punctuators.{outside_punctuators, literal_openings}
use Rattle.mc_lex.specs.Lines.{is_first_on_line}
use Rattle.mc_lex.specs.Gaps.{is_digit_or_white_space, is_quoted}
use Rattle.mc_lex.specs.Scans.{fault_at}
use Rattle.mc_lex.specs.Tokens.{Tok}

-- the texts of a table of the program
abbrev pub texts : List (Bor (List ℕ)) → List (List ℕ)
texts table = map (λ t. t.now) table

-- ---- how long a text of each class at the start is, or 0

abbrev pub word_len : List ℕ → ℕ
word_len [] = 0
word_len (b ∷ bs) = if is_letter b then 1 + prefix_len is_word_byte bs else 0

-- how many bytes go on after a
abbrev pub continued : ℕ → List ℕ → ℕ
continued a [] = 0
continued a (b ∷ bs) = if continues a b then 1 + continued b bs else 0

abbrev pub number_len : List ℕ → ℕ
number_len [] = 0
number_len (a ∷ bs) = if starts_number a bs then 1 + continued a bs else 0

-- the length of the first text of the table with which the bytes begin, or 0
abbrev pub first_of : List (List ℕ) → List ℕ → ℕ
first_of [] bs = 0
first_of (t ∷ ts) bs = if starts_with nat_eq bs t then length t else first_of ts bs

-- whether a text is empty or begins with the byte
abbrev pub begins_by : ℕ → List ℕ → Bool
begins_by b [] = true
begins_by b (c ∷ cs) = nat_eq b c

-- the texts of a table that can stand where this byte is the first
abbrev pub from_byte : ℕ → List (List ℕ) → List (List ℕ)
from_byte b table = filter (begins_by b) table

-- all punctuators and openings of literals, the longest first
unfoldable pub punctuators_and_openings : List (List ℕ)
punctuators_and_openings =
    codes "<<=" ∷ codes ">>=" ∷ codes "..." ∷ (117 ∷ 56 ∷ 34 ∷ [])
    ∷ codes "++" ∷ codes "--" ∷ codes "<<" ∷ codes ">>" ∷ codes "<=" ∷ codes ">=" ∷ codes "=="
    ∷ codes "!=" ∷ codes "&&" ∷ codes "||" ∷ codes "+=" ∷ codes "-=" ∷ codes "*=" ∷ codes "/="
    ∷ codes "%=" ∷ codes "&=" ∷ codes "|=" ∷ codes "^="
    ∷ codes "->" ∷ codes "<:" ∷ codes ":>" ∷ codes "<%" ∷ codes "%>" ∷ codes "%:"
    ∷ (76 ∷ 34 ∷ []) ∷ (117 ∷ 34 ∷ []) ∷ (85 ∷ 34 ∷ []) ∷ codes "L'" ∷ codes "u'" ∷ codes "U'"
    ∷ codes "[" ∷ codes "]" ∷ codes "(" ∷ codes ")" ∷ codes "{" ∷ codes "}" ∷ codes "."
    ∷ codes "," ∷ codes ";" ∷ codes ":" ∷ codes "?" ∷ codes "~" ∷ codes "!" ∷ codes "+"
    ∷ codes "-" ∷ codes "*" ∷ codes "/" ∷ codes "%" ∷ codes "&" ∷ codes "|" ∷ codes "^"
    ∷ codes "<" ∷ codes ">" ∷ codes "=" ∷ (34 ∷ []) ∷ []

-- [ ] ( ) { } , ; ? ~
abbrev pub stands_alone : ℕ → Bool
stands_alone b =
    b == 91 || b == 93 || b == 40 || b == 41 || b == 123 || b == 125 || b == 44 || b == 59
    || b == 63 || b == 126

abbrev pub begins_alone : List ℕ → Bool
begins_alone [] = false
begins_alone (b ∷ bs) = stands_alone b

-- those that are left out
unfoldable pub outside_punctuators_and_openings : List (List ℕ)
outside_punctuators_and_openings = outside_punctuators ++ literal_openings

unfoldable pub punctuator_len : List ℕ → ℕ
punctuator_len bs = first_of punctuators_and_openings bs

-- ---- character constants

-- the first byte is b
abbrev pub starts_with_byte : ℕ → List ℕ → Bool
starts_with_byte b [] = false
starts_with_byte b (x ∷ bs) = x == b

-- a character constant whose n digits begin after so many bytes
abbrev pub by_digits : ℕ → ℕ → ℕ → ℕ → List ℕ → Option Quoted
by_digits base start most n digits =
    if nat_le 1 n && nat_le n most && starts_with_byte 39 (drop n digits)
    && nat_le (digits_value base (take n digits)) 255
    then Some (record { length = start + n + 1; byte = digits_value base (take n digits) })
    else None

abbrev pub by_simple : Option ℕ → List ℕ → Option Quoted
by_simple None bs = None
by_simple (Some byte) bs =
    if starts_with_byte 39 bs then Some (record { length = 4; byte = byte }) else None

-- after `'` and `\`
abbrev pub escape_at : List ℕ → Option Quoted
escape_at [] = None
escape_at (c ∷ bs) =
    if c == 120 then by_digits 16 3 (length bs) (prefix_len is_hexadecimal bs) bs
    else (if is_octal c then by_digits 8 2 3 (prefix_len is_octal (c ∷ bs)) (c ∷ bs)
    else by_simple (simple_escape c) bs)

abbrev pub plain_at : ℕ → List ℕ → Option Quoted
plain_at b bs =
    if is_plain b && starts_with_byte 39 bs then Some (record { length = 3; byte = b }) else None

-- after `'`
abbrev pub quoted_at : List ℕ → Option Quoted
quoted_at [] = None
quoted_at (b ∷ bs) = if b == 92 then escape_at bs else plain_at b bs

-- the character constant at the start
unfoldable pub character_at : List ℕ → Option Quoted
character_at [] = None
character_at (b ∷ bs) = if b == 39 then quoted_at bs else None

abbrev pub length_of : Option Quoted → ℕ
length_of None = 0
length_of (Some q) = q.length

abbrev pub character_len : List ℕ → ℕ
character_len bs = length_of (character_at bs)

-- ---- what the longest text at the start is

abbrev pub longer : Candidate → Candidate → Candidate
longer a b = if nat_lt a.length b.length then b else a

unfoldable pub candidate_at : List ℕ → Candidate
candidate_at bs =
    longer (longer (longer
    (record { class = class.Punctuator; length = punctuator_len bs })
    (record { class = class.Word; length = word_len bs }))
    (record { class = class.Number; length = number_len bs }))
    (record { class = class.Character; length = character_len bs })

abbrev pub byte_kind : Option Quoted → Result TokenKind FaultKind
byte_kind None = Err fault_kind.Token
byte_kind (Some q) = Ok (Character (signed_char q.byte))

-- the base of a number, by its prefix
abbrev pub base_of : List ℕ → Base
base_of text =
    if has_hexadecimal_prefix text then base.Hexadecimal
    else (if starts_with_byte 48 text then base.Octal else base.Decimal)

abbrev pub suffix_of : List ℕ → Option Suffix
suffix_of text =
    if one_of (suffix_texts suffix.None) text then Some suffix.None
    else (if one_of (suffix_texts suffix.U) text then Some suffix.U
    else (if one_of (suffix_texts suffix.L) text then Some suffix.L
    else (if one_of (suffix_texts suffix.Ul) text then Some suffix.Ul
    else (if one_of (suffix_texts suffix.Ll) text then Some suffix.Ll
    else (if one_of (suffix_texts suffix.Ull) text then Some suffix.Ull
    else None)))))

abbrev pub digits_len : Base → List ℕ → ℕ
digits_len base.Decimal body = prefix_len is_digit body
digits_len base.Octal body = prefix_len is_octal body
digits_len base.Hexadecimal body = prefix_len is_hexadecimal body

abbrev pub radix : Base → ℕ
radix base.Decimal = 10
radix base.Octal = 8
radix base.Hexadecimal = 16

-- what stands after the prefix
abbrev pub body_of : Base → List ℕ → List ℕ
body_of base.Hexadecimal (z ∷ x ∷ ds) = ds
body_of _ text = text

-- the greatest value of a type of a constant's list
abbrev pub limit : Suffix → Base → ℕ
limit form of = if is_decimal of && not (has_u form) then 2 ^ 63 - 1 else 2 ^ 64 - 1

-- the number, where 64 bits hold it
abbrev pub if_fits : ℕ → Option ℕ
if_fits n = if nat_lt n (2 ^ 64) then Some n else None

abbrev pub integer_kind : List ℕ → Base → List ℕ → Option Suffix → Result TokenKind FaultKind
integer_kind text of [] form = Err (fault_of_number text)
integer_kind text of (d ∷ ds) None = Err (fault_of_number text)
integer_kind text of (d ∷ ds) (Some form) = constant of (digits_value (radix of) (d ∷ ds)) form

-- n digits of the base, and the suffix after them
abbrev pub number_by : List ℕ → Base → ℕ → List ℕ → Result TokenKind FaultKind
number_by text of n body = integer_kind text of (take n body) (suffix_of (drop n body))

abbrev pub number_of_base : List ℕ → Base → Result TokenKind FaultKind
number_of_base text of = number_by text of (digits_len of (body_of of text)) (body_of of text)

unfoldable pub number_kind : List ℕ → Result TokenKind FaultKind
number_kind text = number_of_base text (base_of text)

abbrev pub punctuator_kind : List ℕ → Result TokenKind FaultKind
punctuator_kind text =
    if one_of outside_punctuators_and_openings text then Err fault_kind.OutsideWord
    else Ok Punctuator

-- what a text of a class is
unfoldable pub kind_of : Dialect → Class → List ℕ → Result TokenKind FaultKind
kind_of dialect class.Word text = word_kind dialect text
kind_of dialect class.Number text = number_kind text
kind_of dialect class.Character text = byte_kind (character_at text)
kind_of dialect class.Punctuator text = punctuator_kind text

-- ---- gaps

-- the bytes after the longest first part whose bytes pass the test
abbrev pub skip : (ℕ → Bool) → List ℕ → List ℕ
skip p bs = drop (prefix_len p bs) bs

-- the `"` that closes a name, and digits and white space after it
abbrev pub is_marker_end : List ℕ → Bool
is_marker_end [] = false
is_marker_end (b ∷ bs) = b == 34 && list_all is_digit_or_white_space bs

abbrev pub is_marker_name : List ℕ → Bool
is_marker_name [] = false
is_marker_name (b ∷ bs) = b == 34 && is_marker_end (skip is_quoted bs)

abbrev pub is_marker_rest : List ℕ → Bool
is_marker_rest bs =
    list_all is_digit_or_white_space bs || is_marker_name (skip is_white_space_in_line bs)

abbrev pub is_marker_number : List ℕ → Bool
is_marker_number [] = false
is_marker_number (b ∷ bs) = is_digit b && is_marker_rest (skip is_digit bs)

-- a whole line, from its `#` on, is a line marker
unfoldable pub is_marker : List ℕ → Bool
is_marker [] = false
is_marker (b ∷ bs) = b == 35 && is_marker_number (skip is_white_space_in_line bs)

-- how many bytes a comment has from here on, counted from n
abbrev pub close_from : ℕ → List ℕ → Option ℕ
close_from n [] = None
close_from n (a ∷ []) = None
close_from n (a ∷ b ∷ bs) =
    if a == 42 && b == 47 then Some (n + 2) else close_from (n + 1) (b ∷ bs)

-- how many bytes a comment has after its `/*`
abbrev pub close_len : List ℕ → Option ℕ
close_len bs = close_from 0 bs

abbrev pub line_len : List ℕ → ℕ
line_len bs = prefix_len goes_on bs

-- ---- what stands next

-- it is within the bytes
abbrev pub Within : Next → ℕ → Type 0
Within (next.Gap n) len = n ≤ len
Within (next.Token kind n) len = n ≤ len
Within (next.Refused why) len = Unit {0}

-- far from the greatest length
abbrev pub IsShort : Option ℕ → Type 0
IsShort None = Unit {0}
IsShort (Some n) = n < 2 ^ 31

abbrev pub after_first : List ℕ → List ℕ
after_first [] = []
after_first (b ∷ bs) = bs

abbrev pub comment_next : Option ℕ → Next
comment_next None = next.Refused fault_kind.Token
comment_next (Some n) = next.Gap (n + 2)

abbrev pub hash_next : Bool → List ℕ → Next
hash_next first bs =
    if first && is_marker (take (line_len bs) bs) then next.Gap (line_len bs)
    else next.Refused fault_kind.Directive

abbrev pub kind_next : Result TokenKind FaultKind → ℕ → Next
kind_next (Ok kind) n = next.Token kind n
kind_next (Err why) n = next.Refused why

abbrev pub nothing_next : List ℕ → Next
nothing_next bs =
    if starts_with_byte 39 bs then next.Refused fault_kind.Token else next.Refused fault_kind.Byte

abbrev pub length_next : Dialect → List ℕ → Class → ℕ → Next
length_next dialect bs class zero = nothing_next bs
length_next dialect bs class (suc n) = kind_next (kind_of dialect class (take (suc n) bs)) (suc n)

unfoldable pub candidate_next : Dialect → List ℕ → Next
candidate_next dialect bs = length_next dialect bs (candidate_at bs).class (candidate_at bs).length

abbrev pub begins_block_comment : List ℕ → Bool
begins_block_comment (a ∷ b ∷ bs) = a == 47 && b == 42
begins_block_comment _ = false

abbrev pub begins_line_comment : List ℕ → Bool
begins_line_comment (a ∷ b ∷ bs) = a == 47 && b == 47
begins_line_comment _ = false

unfoldable pub next_at : Dialect → Bool → List ℕ → Next
next_at dialect first [] = next.Refused fault_kind.Byte
next_at dialect first (b ∷ bs) =
    if is_white_space b then next.Gap 1
    else (if begins_block_comment (b ∷ bs) then comment_next (close_len (after_first bs))
    else (if begins_line_comment (b ∷ bs) then next.Gap (line_len (b ∷ bs))
    else (if b == 35 then hash_next first (b ∷ bs)
    else candidate_next dialect (b ∷ bs))))

-- ---- the whole source

abbrev pub go_on : Next → List ℕ → List ℕ → (List ℕ → List ℕ → List Tok × Option LexFault)
    → List Tok × Option LexFault
go_on (next.Refused why) before bs more = ([], Some (fault_at why (length before)))
go_on (next.Gap n) before bs more = more (before ++ take n bs) (drop n bs)
go_on (next.Token kind n) before bs more =
    let rest = more (before ++ take n bs) (drop n bs) in
    (record { kind = kind; text = take n bs; start = length before } ∷ rest.0, rest.1)

unfoldable pub scan : Dialect → ℕ → List ℕ → List ℕ → List Tok × Option LexFault
scan dialect zero before bs = ([], None)
scan dialect (suc fuel) before [] = ([], None)
scan dialect (suc fuel) before (b ∷ bs) =
    go_on (next_at dialect (is_first_on_line before) (b ∷ bs)) before (b ∷ bs) (scan dialect fuel)

-- whether only white space stands on the line before what follows these bytes
abbrev pub still_first : Bool → List ℕ → Bool
still_first first [] = first
still_first first (b ∷ bs) = still_first (is_line_end b || (is_white_space b && first)) bs
