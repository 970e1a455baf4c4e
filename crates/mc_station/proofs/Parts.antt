-- What was put of a piece is a first part of it.
use Rattle.std.proofs.Common.{ℕ, List, [], length, Option, sym, subst, arith, Result, Ok, Err, Some, None}
use Rattle.std.proofs.lemmas.List.{append-nil, take_all}
use Rattle.std.specs.Io.KnownBytes.{Appends}
use Rattle.mc_port.specs.Sink.{AppendsPart, Puts}
use Rattle.mc_port.specs.declared.sink.PutFault.{PutFault}

pub whole_part : (a b : Option (List ℕ)) (whole : List ℕ) → Appends a b whole → AppendsPart a b whole
whole_part a b whole put = (length whole, subst (Appends a b) (sym (take_all (length whole) whole (omega arith))) put)

-- a put appends a first part of its piece, whether it fails or not
pub puts_part : (old new : Option (List ℕ)) (before now : ℕ) (piece : List ℕ) (r : Result Unit PutFault) → Puts old new before now piece r → AppendsPart old new piece
puts_part old new before now piece (Ok u) put = whole_part old new piece put
puts_part old new before now piece (Err e) put = put.1

-- nothing was appended
pub nothing_put : (o : Option (List ℕ)) → Appends o o []
nothing_put None = tt
nothing_put (Some xs) = sym (append-nil xs)
