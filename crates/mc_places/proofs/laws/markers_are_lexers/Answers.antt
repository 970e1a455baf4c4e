use Rattle.mc_places.proofs.Lexing.{lexer_has}
use Rattle.mc_places.proofs.laws.markers_are_lexers.Goals as goal

pub returns : goal.returns
returns c = λ line. lexer_has line
