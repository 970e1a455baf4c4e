-- What is still written of a text, by what stands before its next byte.
use Rattle.std.specs.Prelude.{ℕ, List}
use Rattle.source_excerpt.specs.Blanks.{after_word, at_front, in_word}
use Rattle.source_excerpt.specs.Comments.{after_slash, after_star, in_code, in_comment, in_line}
use Rattle.source_excerpt.specs.declared.blanks.Before as before
use Rattle.source_excerpt.specs.declared.comments.Mode.{Mode}
use Rattle.source_excerpt.specs.declared.comments.Mode.TheVariants.{Code, Slash, Comment, Star, Line}

abbrev pub code_rest : Mode → List ℕ → List ℕ
code_rest Code bytes = in_code bytes
code_rest Slash bytes = after_slash bytes
code_rest Comment bytes = in_comment bytes
code_rest Star bytes = after_star bytes
code_rest Line bytes = in_line bytes

abbrev pub text_rest : before.Before → List ℕ → List ℕ
text_rest before.TheVariants.Nothing bytes = at_front bytes
text_rest before.TheVariants.Word bytes = in_word bytes
text_rest before.TheVariants.Blank bytes = after_word bytes
