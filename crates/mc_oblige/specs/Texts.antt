-- The texts of obligations.
use Rattle.std.specs.Prelude.{ℕ, List, take, drop}
use Rattle.mc_span.specs.declared.span.Span.{Span}

-- what stands in the source at a span; a span that passes the source's end is cut there
abbrev pub text_at : Span → List ℕ → List ℕ
text_at span source = drop span.start (take span.end source)
