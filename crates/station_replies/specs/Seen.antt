-- What clauses see of files and refusals.
use Rattle.std.specs.Prelude.{◌≡◌, Result, Ok, Err, ⊤}
use Rattle.subset_forms.specs.Names.{name_of}
use Rattle.station_replies.specs.Files.{File as AskedFile}
use Rattle.station_replies.specs.Reply.{Reply as CalledFor, longer, refusal}
use Rattle.station_replies.specs.Texts.{bits_line, bytes_line, entry_line, form_line, justifications_line, kept_line, many_line, many_tests_line, matrix_line, mutants_line, nothing_line, place_line, quote_line, same_test_line, tests_line}
use Rattle.station_replies.specs.declared.file.File.{File}
use Rattle.station_replies.specs.declared.refusal.Refusal.{Refusal}
use Rattle.station_replies.specs.declared.refusal.Refusal.TheVariants as why
use Rattle.station_replies.specs.declared.stop.Stop.{Stop}
use Rattle.station_replies.specs.declared.stop.Stop.TheVariants as stop
use Rattle.station_replies.specs.declared.status.Status.TheVariants.{SourceRefused, TestsRefused, JustificationsRefused, TooLarge, TooManyMutants}

abbrev pub seen_file : File → AskedFile
seen_file f = record { kind = f.kind; name = f.name.now }

-- the reply to a refusal
abbrev pub reply_to : Refusal → CalledFor
reply_to (why.TooLong file) = longer (seen_file file)
reply_to (why.Fault place word) =
    refusal SourceRefused (place_line place.line place.column word.now)
reply_to (why.Outside place form) =
    refusal SourceRefused (form_line place.line place.column (name_of form))
reply_to (why.TooMany place what count) =
    refusal SourceRefused (many_line place.line place.column what.now count)
reply_to (why.NothingOf name) = refusal SourceRefused (nothing_line name.now)
reply_to (why.TooManyBits count) = refusal SourceRefused (bits_line count)
reply_to (why.NotAdapted lines) = refusal SourceRefused lines.items
reply_to (why.TooManyBytes count) = refusal SourceRefused (bytes_line count)
reply_to (why.Tests fault) = refusal TestsRefused (tests_line fault)
reply_to (why.Record name line word) =
    refusal TestsRefused (kept_line name.now line word.now)
reply_to (why.SameTest left right) = refusal TestsRefused (same_test_line left right)
reply_to (why.TooManyTests count) = refusal TestsRefused (many_tests_line count)
reply_to (why.Justifications word) =
    refusal JustificationsRefused (justifications_line word.now)
reply_to (why.Entry entry word) = refusal JustificationsRefused (entry_line entry word.now)
reply_to (why.Quote entry kept given) =
    refusal JustificationsRefused (quote_line entry kept.now given.items)
reply_to (why.TooLarge words) = refusal TooLarge (matrix_line words)
reply_to (why.TooManyMutants count) = refusal TooManyMutants (mutants_line count)

-- the reply where a phase gives nothing; there is none to memory that does not suffice
abbrev pub IsReplyTo : Stop → CalledFor → Type 0
IsReplyTo (stop.Refused refusal) reply = reply ≡ reply_to refusal
IsReplyTo stop.OutOfMemory reply = ⊥

-- a phase holds of what a function gives, of the reply where it refuses; out of memory says nothing
abbrev pub Gives : {A B : Type 0} → (A → B) → (Result B CalledFor → Type 0) → Result A Stop → Type 0
Gives seen Phase (Ok a) = Phase (Ok (seen a))
Gives seen Phase (Err (stop.Refused refusal)) = Phase (Err (reply_to refusal))
Gives seen Phase (Err stop.OutOfMemory) = ⊤
