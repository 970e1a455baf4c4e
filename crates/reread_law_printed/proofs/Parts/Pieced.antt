-- The printed text of a program is read as its parts.
use Rattle.std.proofs.Common.{subst}
use Rattle.reread_pieces.specs.Pieces.{ArePieces, start}
use Rattle.reread_law_printed.specs.parts.Parts.{parts_of}
use Rattle.reread_law_printed.specs.parts.Marks.{marks}
use Rattle.reread_law_printed.specs.parts.Shaped.{tokens_at}
use Rattle.reread_law_printed.specs.parts.Placed.{IsPlaced}
use Rattle.reread_law_printed.specs.parts.Laws.{PiecesOfParts}
use Rattle.reread_law_printed.proofs.Parts.Worded.{words_are}
use Rattle.reread_law_printed.proofs.Parts.Shaping.{shaped}
use Rattle.reread_law_printed.proofs.Parts.Ended.{all_close}
use Rattle.reread_law_printed.proofs.Parts.Placing.{placed_shaped}

pub are_pieces : PiecesOfParts
are_pieces source tokens tree h balanced numerals =
    let parts = parts_of tokens tree in
    subst (λ words. IsPlaced source (start (tokens_at source 0 words)) 0 parts → ArePieces (tokens_at source 0 words) (marks source parts)) (words_are tokens tree h)
    (λ placed. shaped source numerals (placed_shaped source parts (all_close tokens tree h balanced) placed))
