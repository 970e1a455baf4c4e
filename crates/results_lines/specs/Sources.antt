-- What the lines show of a source.
use Rattle.std.specs.Prelude.{ℕ, List, [], slice_get, Option, Some, None}
use Rattle.mc_span.specs.declared.span.Span.{Span}
use Rattle.mc_places.specs.Places.{place_text}
use Rattle.mc_probe.specs.Maps.{Map}
use Rattle.source_excerpt.specs.Excerpts.{bytes_at}

-- its bytes, and where its functions, exits and counted statements are
pub record Source : Type 0 where
  pub text : List ℕ
  pub map : Map

-- what stands at a place
abbrev pub text_at : Source → Option Span → List ℕ
text_at s None = []
text_at s (Some span) = bytes_at s.text span

-- a function's entry is at its name
abbrev pub name_of : Source → ℕ → List ℕ
name_of s function = text_at s (slice_get s.map.entries function)

-- the place of the first byte
abbrev pub place_at : Source → Option Span → List ℕ
place_at s None = []
place_at s (Some span) = place_text s.text span.start
