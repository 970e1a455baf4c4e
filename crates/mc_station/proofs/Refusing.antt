-- How the stages refuse their files.
use Rattle.std.proofs.Common.{◌≡◌, ℕ, Bool, true, false, List, Option, Some, None, Err, refl, sym, subst, inl, inr}
use Rattle.mc_command.specs.Command as command
use Rattle.mc_record.specs.Kept.{Kept}
use Rattle.station_replies.specs.Phases.{IsRefusal}
use Rattle.station_replies.specs.Reply.{Reply, refusal}
use Rattle.station_replies.specs.Texts.{matrix_line, mutants_line, nothing_line, tests_line}
use Rattle.station_replies.specs.declared.status.Status.{Status}
use Rattle.station_replies.specs.declared.status.Status.TheVariants as status
use Rattle.mc_station.specs.Justified.{reasons_line}
use Rattle.mc_station.specs.Records.{JudgesRecord, record_fault_line}
use Rattle.mc_station.specs.Laws.{IsLater}
use Rattle.mc_station.specs.Named.{HasFile, JudgesSourceOf, JudgesTaken, TakesIf, file_of_action, makes_source}
use Rattle.mc_station.specs.Source.{Accepted, JudgesSource}
use Rattle.mc_station.specs.Stages as stages
use Rattle.mc_station.specs.Stages.{Judges}
use Rattle.mc_station.specs.Tests.{words_needed}
use Rattle.mc_mutate.specs.Mutants.{count}
use Rattle.mc_station.proofs.Allowing.{asked}
use Rattle.mc_station.proofs.Joining.{join_refuses}

abbrev pub IsRefused : Reply → Type 0
IsRefused = IsRefusal status.SourceRefused

-- each phase of a source refuses it
pub refuses_source : (bytes : List ℕ) (r : Reply) → JudgesSource bytes (Err r) → IsRefused r
refuses_source bytes r (inl (tokens, e, scans, is)) = (_, is)
refuses_source bytes r (inr (tokens, lexes, inl (none, (at, few, is)))) = (_, is)
refuses_source bytes r (inr (tokens, lexes, inr (unit, parses, inl (outside, first, is)))) = (_, is)
refuses_source bytes r (inr (tokens, lexes, inr (unit, parses, inr (u, admits, inl (fault, first, is))))) = (_, is)
refuses_source bytes r (inr (tokens, lexes, inr (unit, parses, inr (u, admits, inr (program, types, inl (ds, are, at, count, large, is)))))) = (_, is)
refuses_source bytes r (inr (tokens, lexes, inr (unit, parses, inr (u, admits, inr (program, types, inr (ds, decides, inl (d, many, is))))))) = (_, is)
refuses_source bytes r (inr (tokens, lexes, inr (unit, parses, inr (u, admits, inr (program, types, inr (ds, decides, inr (v, numbers, inl (many, is)))))))) = (_, is)
refuses_source bytes r (inr (tokens, lexes, inr (unit, parses, inr (u, admits, inr (program, types, inr (ds, decides, inr (v, numbers, inr (m, maps, accepts)))))))) = absurd (cc accepts)

refuses_file : (file : Option (List ℕ)) (accepted : Accepted) (r : Reply) → HasFile file accepted (Err r) → IsRefused r
refuses_file None accepted r refuses = absurd refuses
refuses_file (Some name) accepted r (not, is) = (nothing_line name, is)

refuses_taken : (made : Bool) (bytes : List ℕ) (r : Reply) → TakesIf made bytes (Err r) → IsRefused r
refuses_taken true bytes r (inl (outside, adapts, is)) = (_, is)
refuses_taken true bytes r (inr (text, makes, inl (long, is))) = (_, is)
refuses_taken true bytes r (inr (text, makes, inr (u, short, is))) = absurd (cc is)
refuses_taken false bytes r is = absurd (cc is)

refuses_judged : (action : command.Action) (source : List ℕ) (r : Reply) → JudgesTaken action source (Err r) → IsRefused r
refuses_judged action source r (inl refuses) = refuses_source source r refuses
refuses_judged action source r (inr (accepted, judges, inl refuses)) = refuses_file (file_of_action action) accepted r refuses
refuses_judged action source r (inr (accepted, judges, inr (u, named, is))) = absurd (cc is)

pub refuses_source_of : (action : command.Action) (bytes : List ℕ) (r : Reply) → JudgesSourceOf action bytes (Err r) → IsRefused r
refuses_source_of action bytes r (inl takes) = refuses_taken (makes_source action) bytes r takes
refuses_source_of action bytes r (inr (source, takes, refuses)) = refuses_judged action source r refuses

pub refuses_first : (name : List ℕ) (action : command.Action) (bytes : List ℕ) (r : Reply) → Judges (stages.source name action) bytes (Err r) → IsRefused r
refuses_first name action bytes r (inl judges) = refuses_source_of action bytes r judges
refuses_first name action bytes r (inr (accepted, judges, next)) = absurd (cc next)

-- a refusal after the source
pub later : (s : Status) (line : List ℕ) → IsLater (refusal s line) → (r : Reply) → r ≡ refusal s line → IsLater r
later s line is r same = subst IsLater (sym same) is

pub tests_later : (line : List ℕ) → IsLater (refusal status.TestsRefused line)
tests_later line = (tt, inr (inr refl))

pub reasons_later : (line : List ℕ) → IsLater (refusal status.JustificationsRefused line)
reasons_later line = (tt, inr (inr refl))

pub large_later : (line : List ℕ) → IsLater (refusal status.TooLarge line)
large_later line = (tt, inr (inr refl))

pub many_later : (line : List ℕ) → IsLater (refusal status.TooManyMutants line)
many_later line = (tt, inr (inr refl))

pub refuses_tests : (run : command.Run) (accepted : Accepted) (bytes : List ℕ) (r : Reply) → Judges (stages.tests run accepted) bytes (Err r) → IsLater r
refuses_tests run accepted bytes r (inl (fault, given, is)) = later status.TestsRefused (tests_line fault) (tests_later (tests_line fault)) r is
refuses_tests run accepted bytes r (inr (plans, judges, inl refused)) = elim (asked accepted plans run.task (Err r) refused) [
  | inl matrix ↦ later status.TooLarge (matrix_line (words_needed accepted plans)) (large_later (matrix_line (words_needed accepted plans))) r matrix.1.1
  | inr mutants ↦ later status.TooManyMutants (mutants_line (count accepted.program)) (many_later (mutants_line (count accepted.program))) r mutants.1.1
]
refuses_tests run accepted bytes r (inr (plans, judges, inr (u, fits, next))) = absurd (cc next)

pub kept_later : (accepted : Accepted) (name bytes : List ℕ) (r : Reply) → JudgesRecord accepted name bytes (Err r) → IsLater r
kept_later accepted name bytes r (old, holds, (fault, given, is)) = later status.TestsRefused (record_fault_line name fault) (tests_later (record_fault_line name fault)) r is

pub refuses_left : (name other : List ℕ) (accepted : Accepted) (bytes : List ℕ) (r : Reply) → Judges (stages.left name other accepted) bytes (Err r) → IsLater r
refuses_left name other accepted bytes r (inl judges) = kept_later accepted name bytes r judges
refuses_left name other accepted bytes r (inr (first, judges, next)) = absurd (cc next)

pub refuses_right : (name : List ℕ) (accepted : Accepted) (first : Kept) (bytes : List ℕ) (r : Reply) → Judges (stages.right name accepted first) bytes (Err r) → IsLater r
refuses_right name accepted first bytes r (inl judges) = kept_later accepted name bytes r judges
refuses_right name accepted first bytes r (inr (second, judges, inl joins)) = join_refuses first second r joins
refuses_right name accepted first bytes r (inr (second, judges, inr (both, joins, next))) = absurd (cc next)

pub refuses_kept : (name : List ℕ) (judging : command.Judging) (accepted : Accepted) (bytes : List ℕ) (r : Reply) → Judges (stages.kept name judging accepted) bytes (Err r) → IsLater r
refuses_kept name report accepted bytes r (inl judges) = kept_later accepted name bytes r judges
refuses_kept name report accepted bytes r (inr (found, judges, next)) = absurd (cc next)

pub refuses_reasons : (name : List ℕ) (accepted : Accepted) (basis : stages.Basis) (bytes : List ℕ) (r : Reply) → Judges (stages.reasons name accepted basis) bytes (Err r) → IsLater r
refuses_reasons name accepted basis bytes r (inl (fault, given, is)) = later status.JustificationsRefused (reasons_line fault) (reasons_later (reasons_line fault)) r is
refuses_reasons name accepted basis bytes r (inr (js, judges, next)) = absurd (cc next)
