-- The places in the text `int f(int a){return a+1;}`.
use Rattle.std.specs.Prelude.{List, [], ◌∷◌}
use Rattle.mc_span.specs.declared.span.Span.{Span}
use Rattle.mc_grammar.specs.Samples.{span}

-- `a+1`, `a` and `1`
abbrev pub dense_spans : List Span
dense_spans = span 20 23 ∷ span 20 21 ∷ span 22 23 ∷ []

-- `return a+1;`
abbrev pub dense_statement_spans : List Span
dense_statement_spans = span 13 24 ∷ []
