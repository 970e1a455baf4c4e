-- The pieces of a printed text: each part with its first token, and where the word of its probe
-- starts. After each token of a printed text stands one byte.
use Rattle.std.specs.Prelude.{ℕ, ◌+◌, List, [], ◌∷◌, length, if◌then◌else◌}
use Rattle.mc_lex.specs.Tokens.{Tok}
use Rattle.reread_pieces.specs.declared.piece.What.{What}
use Rattle.reread_pieces.specs.Pieces.{Mark, word_is_second}
use Rattle.reread_pieces.specs.Plain.{token_of}
use Rattle.reread_probes.specs.Probes.{has_place}
use Rattle.reread_law_printed.specs.spelled.Words.{kind_in}
use Rattle.reread_law_printed.specs.parts.Parts.{Part}

-- the byte at which the next token starts, where these texts start at one
abbrev pub after : ℕ → List (List ℕ) → ℕ
after at [] = at
after at (text ∷ texts) = after (at + length text + 1) texts

abbrev pub token : List Tok → ℕ → List ℕ → Tok
token source at text = record { kind = kind_in source text; text = text; start = at }

abbrev pub first_token : List Tok → ℕ → List (List ℕ) → Tok
first_token source at [] = token source at []
first_token source at (text ∷ texts) = token source at text

abbrev pub word_at : What → ℕ → List (List ℕ) → ℕ
word_at w at [] = at
word_at w at (text ∷ texts) = if word_is_second w then at + length text + 1 else at

abbrev pub mark_of : List Tok → ℕ → Part → Mark
mark_of source at q =
    record {
      row = q.what;
      token = first_token source at q.texts;
      word = word_at q.what at q.texts;
    }

-- the pieces from a byte on, over the tokens of a source
abbrev pub marks_from : List Tok → ℕ → List Part → List Mark
marks_from source at [] = []
marks_from source at (q ∷ qs) = mark_of source at q ∷ marks_from source (after at q.texts) qs

abbrev pub marks : List Tok → List Part → List Mark
marks source parts = marks_from source 0 parts

-- the tokens of the source among pieces, where they stand in the printed text
abbrev pub own_tokens : List Mark → List Tok
own_tokens [] = []
own_tokens (m ∷ ms) = if has_place m.row then token_of m 0 ∷ own_tokens ms else own_tokens ms
