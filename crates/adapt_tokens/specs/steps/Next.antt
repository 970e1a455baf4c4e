-- Steps of the code that cuts a text, as functions on lists.
use Rattle.std.specs.Prelude.{ℕ, ◌+◌, Bool, false, ◌&&◌, ◌==◌, if◌then◌else◌, List, [], ◌∷◌, length, take, Option, Some, None}
use Rattle.std.specs.List.{prefix_len}
use Rattle.mc_lex.specs.Bytes.{is_letter, is_word_byte, is_white_space, goes_on}
use Rattle.mc_lex.specs.Numbers.{starts_number}
use Rattle.mc_lex.specs.steps.Scanner.{continued, close_len}
use Rattle.adapt_tokens.specs.declared.kind.Kind.TheVariants as kind
use Rattle.adapt_tokens.specs.declared.next.Next.{Next}
use Rattle.adapt_tokens.specs.Literals.{is_quote, literal_len, literal_closes}
use Rattle.adapt_tokens.specs.Directives.{directive_kind}
use Rattle.adapt_tokens.specs.Kinds.{is_pair, is_triple, lone_kind, closed_kind}

abbrev pub line_len : List ℕ → ℕ
line_len bs = prefix_len goes_on bs

abbrev pub comment_next : List ℕ → Option ℕ → Next
comment_next bs None = record { kind = kind.OpenComment; length = 2 + length bs }
comment_next bs (Some n) = record { kind = kind.Comment; length = 2 + n }

abbrev pub lone_next : ℕ → Next
lone_next a = record { kind = lone_kind a; length = 1 }

abbrev pub pair_next : (a b : ℕ) → Next
pair_next a b =
    if is_pair a b then record { kind = kind.Punctuator; length = 2 } else lone_next a

abbrev pub long_next : (a b : ℕ) → List ℕ → Next
long_next a b [] = pair_next a b
long_next a b (c ∷ bs) =
    if is_triple a b c then record { kind = kind.Punctuator; length = 3 } else pair_next a b

abbrev pub symbol_next : ℕ → List ℕ → Next
symbol_next a [] = lone_next a
symbol_next a (b ∷ bs) =
    if a == 47 && b == 42 then comment_next bs (close_len bs)
    else (if a == 47 && b == 47 then record { kind = kind.Comment; length = 2 + line_len bs }
    else long_next a b bs)

abbrev pub literal_next : ℕ → List ℕ → Next
literal_next quote bs = record {
  kind = if literal_closes quote false bs then closed_kind quote else kind.OpenText;
  length = 1 + literal_len quote false bs;
}

abbrev pub directive_next : List ℕ → Next
directive_next bs =
    record { kind = directive_kind (take (line_len bs) bs); length = 1 + line_len bs }

abbrev pub word_next : List ℕ → Next
word_next bs = record { kind = kind.Word; length = 1 + prefix_len is_word_byte bs }

abbrev pub number_next : ℕ → List ℕ → Next
number_next b bs = record { kind = kind.Number; length = 1 + continued b bs }

abbrev pub head_next : Bool → ℕ → List ℕ → Next
head_next first b bs =
    if is_white_space b then record { kind = kind.White; length = 1 }
    else (if is_letter b then word_next bs
    else (if starts_number b bs then number_next b bs
    else (if is_quote b then literal_next b bs
    else (if b == 35 && first then directive_next bs
    else symbol_next b bs))))

-- what stands first
unfoldable pub next_at : Bool → List ℕ → Next
next_at first [] = record { kind = kind.Byte; length = 0 }
next_at first (b ∷ bs) = head_next first b bs
