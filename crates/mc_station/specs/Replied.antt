-- What clauses see of replies.
use Rattle.std.specs.Prelude.{ℕ, List, Result, Ok, Err}
use Rattle.std.specs.declared.alloc.AllocError.{AllocError}
use Rattle.mc_lex.specs.Tokens.{toks_of}
use Rattle.mc_port.specs.Lines.{bytes_of}
use Rattle.mc_probe.specs.Trees.{tree_of}
use Rattle.mc_record.specs.Lines.{record_lines}
use Rattle.mc_record.specs.Seen.{kept_of}
use Rattle.station_replies.specs.Reply.{Reply as CalledFor, out_of_memory}
use Rattle.mc_station.specs.Output.{listing_pieces, program_pieces, source_pieces}
use Rattle.mc_station.specs.declared.output.Output.{Output}
use Rattle.mc_station.specs.declared.output.Output.TheVariants as output
use Rattle.mc_station.specs.declared.reply.Reply.{Reply}

-- the pieces that are put on the output
abbrev pub pieces_of : Output → List (List ℕ)
pieces_of (output.Lines lines) = bytes_of lines.items
pieces_of (output.Record writable) = record_lines (kept_of writable.kept)
pieces_of (output.Program p) = program_pieces (toks_of p.tokens.items) (tree_of p.tree)
pieces_of (output.Source source) = source_pieces source.now
pieces_of (output.Listing l) = listing_pieces l.source.now l.obligations.items l.verdicts.items

-- a reply of the program; where there is none, memory did not suffice
abbrev pub seen_reply : Reply → CalledFor
seen_reply r = record { status = r.status; diag = r.diag.items; out = pieces_of r.out }

abbrev pub outcome_of : Result Reply AllocError → CalledFor
outcome_of (Ok reply) = seen_reply reply
outcome_of (Err e) = out_of_memory
