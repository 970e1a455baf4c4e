-- The numbers of statuses, and which of them are answers.
use Rattle.std.proofs.Common.{◌≡◌, ◌≢◌, refl, arith}
use Rattle.station_replies.specs.Files.{status_of}
use Rattle.station_replies.specs.Status.{IsAfterSource, IsAnswer, number_of}
use Rattle.station_replies.specs.declared.file.FileKind.{FileKind}
use Rattle.station_replies.specs.declared.file.FileKind.TheVariants.{Source, Tests, Record, Justifications}
use Rattle.station_replies.specs.declared.status.Status.{Status}
use Rattle.station_replies.specs.declared.status.Status.TheVariants as status

pub kind_answers : (kind : FileKind) → IsAnswer (status_of kind)
kind_answers Source = tt
kind_answers Tests = tt
kind_answers Record = tt
kind_answers Justifications = tt

pub after_source_answers : (s : Status) → IsAfterSource s → IsAnswer s
after_source_answers status.Done is = tt
after_source_answers status.Incomplete is = tt
after_source_answers status.NoCommand is = tt
after_source_answers status.SourceRefused is = tt
after_source_answers status.TestsRefused is = tt
after_source_answers status.JustificationsRefused is = tt
after_source_answers status.CannotRead is = is
after_source_answers status.CannotWrite is = is
after_source_answers status.OutOfMemory is = is
after_source_answers status.TooLarge is = tt
after_source_answers status.TooManyMutants is = tt

pub seven : (s : Status) → number_of s ≡ 7 → s ≡ status.CannotWrite
seven status.Done is = absurd (omega arith)
seven status.Incomplete is = absurd (omega arith)
seven status.NoCommand is = absurd (omega arith)
seven status.SourceRefused is = absurd (omega arith)
seven status.TestsRefused is = absurd (omega arith)
seven status.JustificationsRefused is = absurd (omega arith)
seven status.CannotRead is = absurd (omega arith)
seven status.CannotWrite is = refl
seven status.OutOfMemory is = absurd (omega arith)
seven status.TooLarge is = absurd (omega arith)
seven status.TooManyMutants is = absurd (omega arith)

pub is_answer : (s : Status) → s ≢ status.CannotRead → s ≢ status.CannotWrite → s ≢ status.OutOfMemory → IsAnswer s
is_answer status.Done r w m = tt
is_answer status.Incomplete r w m = tt
is_answer status.NoCommand r w m = tt
is_answer status.SourceRefused r w m = tt
is_answer status.TestsRefused r w m = tt
is_answer status.JustificationsRefused r w m = tt
is_answer status.CannotRead r w m = r refl
is_answer status.CannotWrite r w m = w refl
is_answer status.OutOfMemory r w m = m refl
is_answer status.TooLarge r w m = tt
is_answer status.TooManyMutants r w m = tt
