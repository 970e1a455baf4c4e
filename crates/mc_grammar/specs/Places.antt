-- Where a tree stands: from the first byte of its first token to after the last byte of its last.
use Rattle.std.specs.Prelude.{◌+◌, length}
use Rattle.mc_span.specs.declared.span.Span.{Span}
use Rattle.mc_tree.specs.Tree.{Name, Expressions, Specifiers, span_of, span_of_specifier}
use Rattle.mc_tree.specs.Tree as tree
use Rattle.mc_grammar.specs.Words.{Lexeme}

-- the place of a token
abbrev pub at : Lexeme → Span
at x = record { start = x.token.start; end = x.token.start + length x.token.text }

-- a name of a token
abbrev pub name_at : Lexeme → Name
name_at x = record { text = x.token.text; span = at x }

-- from the start of one to the end of another
abbrev pub to : Span → Span → Span
to first last = record { start = first.start; end = last.end }

-- the place of the last of these, or this place where there is none
abbrev pub end_of_expressions : Span → Expressions → Span
end_of_expressions before tree.no_expressions = before
end_of_expressions before (tree.expressions a rest) = end_of_expressions (span_of a) rest

abbrev pub end_of_specifiers : Span → Specifiers → Span
end_of_specifiers before tree.no_specifiers = before
end_of_specifiers before (tree.specifiers s rest) = end_of_specifiers (span_of_specifier s) rest
