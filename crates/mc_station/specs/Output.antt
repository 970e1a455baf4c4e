-- What is put on the output in one piece.
use Rattle.std.specs.Prelude.{ℕ, List, [], ◌∷◌}
use Rattle.mc_lex.specs.Tokens.{Tok}
use Rattle.mc_list.specs.Listing.{listing}
use Rattle.mc_oblige.specs.declared.obligation.Obligation.{Obligation}
use Rattle.mc_oblige.specs.declared.verdict.Verdict.{Verdict}
use Rattle.mc_print.specs.Pens.{spaced}
use Rattle.mc_print.specs.Texts.{text_of}
use Rattle.mc_probe.specs.Tree.{Tree}

-- the text of an instrumented program, as one piece: the tokens of its source with what the probes
-- insert, and a blank or the end of a line after each
abbrev pub program_pieces : List Tok → Tree → List (List ℕ)
program_pieces tokens tree = spaced (text_of tokens tree) ∷ []

-- a source, as one piece
abbrev pub source_pieces : List ℕ → List (List ℕ)
source_pieces source = source ∷ []

-- the listing of a source with the verdicts on its obligations, as one piece
abbrev pub listing_pieces : List ℕ → List Obligation → List Verdict → List (List ℕ)
listing_pieces source os vs = listing source os vs ∷ []
