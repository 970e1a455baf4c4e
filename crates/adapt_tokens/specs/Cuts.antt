-- The pieces of a text, one after the other.
use Rattle.std.specs.Prelude.{◌≡◌, ◌≤◌, ℕ, Bool, List, [], ◌∷◌, ◌++◌, length, Some}
use Rattle.mc_lex.specs.Lines.{is_first_on_line}
use Rattle.adapt_tokens.specs.declared.kind.Kind.{Kind}
use Rattle.adapt_tokens.specs.Kinds.{kind_of}

-- a piece: its kind, its bytes, and the place of the first of them
pub record Part : Type 0 where
  pub kind : Kind
  pub text : List ℕ
  pub start : ℕ

-- The bytes are this text and those after it. The text is a piece of this kind, and no longer text
-- at their start is a piece of any kind (C17 6.4p4, the longest sequence).
pub record Leads (first : Bool) (kind : Kind) (text after bs : List ℕ) : Type 0 where
  pub whole : bs ≡ text ++ after
  pub is_kind : kind_of first text ≡ Some kind
  pub longest : (other rest : List ℕ) (k : Kind) → bs ≡ other ++ rest
      → kind_of first other ≡ Some k → length other ≤ length text

-- after the bytes before them, these bytes are these pieces
pub data Cuts : (before bs : List ℕ) → List Part → Type 0 where
  ends : {before : List ℕ} → Cuts before [] []
  piece : (before text after bs : List ℕ) (kind : Kind) (ps : List Part)
      → Leads (is_first_on_line before) kind text after bs → Cuts (before ++ text) after ps
      → Cuts before bs (record { kind = kind; text = text; start = length before } ∷ ps)
