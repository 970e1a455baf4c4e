-- Where each token fits, so does each of those that a part leaves.
use Rattle.std.proofs.Common.{List}
use Rattle.mc_grammar.specs.Words.{Lexeme}
use Rattle.mc_grammar.proofs.Ends.{IsEnd}
use Rattle.reread_law_texts.specs.alike.Moves.{Move, AllFit, tokens_of}
use Rattle.reread_law_texts.proofs.Alike.Left.{tokens_end, left_fits}

abbrev pub Fit : Move → List Lexeme → Type 0
Fit m ts = AllFit m (tokens_of ts)

pub end_fits : (m : Move) {ts rest : List Lexeme} → IsEnd rest ts → Fit m ts → Fit m rest
end_fits m p h = left_fits m (tokens_end p) h
