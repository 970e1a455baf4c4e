-- What a command asks of its source: one verdict, which is that of the source or of the file's name.
use Rattle.std.proofs.Common.{◌≡◌, ◌∙◌, ℕ, Bool, true, false, List, Option, Some, None, Ok, Err, refl, sym, ap, subst, inl, arith}
use Rattle.adapt_lines.specs.Lines.{refusal_lines}
use Rattle.mc_adapt.specs.Outside.{Refusal}
use Rattle.mc_adapt.proofs.Once.{one_adapted}
use Rattle.mc_command.specs.Command.{Action}
use Rattle.station_replies.specs.Phases.{IsOne}
use Rattle.station_replies.specs.Reply.{refusal}
use Rattle.station_replies.specs.declared.status.Status.TheVariants.{SourceRefused}
use Rattle.station_replies.proofs.Phases.{one_ok, one_then}
use Rattle.mc_station.specs.Named.{HasFile, JudgesSourceOf, JudgesTaken, TakesIf, file_of_action, makes_source}
use Rattle.mc_station.specs.Source.{Accepted, JudgesSource}
use Rattle.mc_station.specs.commands.Adapt.{IsShort, Makes}
use Rattle.mc_station.proofs.Phases.{one_source}

one_file : (file : Option (List ℕ)) (accepted : Accepted) → IsOne (HasFile file accepted)
one_file None accepted (Ok u) (Ok v) p q = refl
one_file None accepted (Ok u) (Err s) p q = absurd q
one_file None accepted (Err r) v p q = absurd p
one_file (Some name) accepted (Ok u) (Ok v) p q = refl
one_file (Some name) accepted (Ok u) (Err s) p (not, is) = absurd (cc (p, not))
one_file (Some name) accepted (Err r) (Ok v) (not, is) q = absurd (cc (q, not))
one_file (Some name) accepted (Err r) (Err s) (not, is) (also, other) = inl (is ∙ sym other)

one_made : (bytes : List ℕ) → IsOne (Makes bytes)
one_made bytes (Ok text) (Ok other) p q = let same : Ok text ≡ Ok other = one_adapted bytes (Ok text) (Ok other) p q in cc same
one_made bytes (Ok text) (Err s) p (outside, q, is) = absurd (cc (one_adapted bytes (Ok text) (Err outside) p q))
one_made bytes (Err r) (Ok text) (outside, p, is) q = absurd (cc (one_adapted bytes (Err outside) (Ok text) p q))
one_made bytes (Err r) (Err s) (outside, p, is) (others, q, also) =
    let same : outside ≡ others = cc (one_adapted bytes (Err outside) (Err others) p q) in
    inl (is ∙ ap (λ (rs : List Refusal). refusal SourceRefused (refusal_lines bytes rs)) same ∙ sym also)

one_short : (text : List ℕ) → IsOne (IsShort text)
one_short text (Ok u) (Ok v) short also = refl
one_short text (Ok u) (Err s) short (long, is) = absurd (omega (arith, long, short))
one_short text (Err r) (Ok v) (long, is) short = absurd (omega (arith, long, short))
one_short text (Err r) (Err s) (long, is) (also, other) = inl (is ∙ sym other)

one_taken : (made : Bool) (bytes : List ℕ) → IsOne (TakesIf made bytes)
one_taken true bytes =
    one_then _ _ (one_made bytes) (λ text is.
    one_then _ _ (one_short text) (λ u short. one_ok text))
one_taken false bytes = one_ok bytes

one_judged : (action : Action) (source : List ℕ) → IsOne (JudgesTaken action source)
one_judged action source =
    one_then _ _ (one_source source) (λ accepted is.
    one_then _ _ (one_file (file_of_action action) accepted) (λ u named. one_ok accepted))

pub one_source_of : (action : Action) (bytes : List ℕ) → IsOne (JudgesSourceOf action bytes)
one_source_of action bytes =
    one_then _ _ (one_taken (makes_source action) bytes) (λ source takes. one_judged action source)

-- what is taken as the source is accepted
pub source_of : (action : Action) (bytes : List ℕ) (accepted : Accepted) → JudgesSourceOf action bytes (Ok accepted) → (source : List ℕ) × JudgesSource source (Ok accepted)
source_of action bytes accepted (source, takes, (found, judges, (u, named, is))) =
    let same : accepted ≡ found = cc is in
    (source, subst (λ (a : Accepted). JudgesSource source (Ok a)) (sym same) judges)

as_the_file : (made : Bool) (bytes source : List ℕ) → made ≡ false → TakesIf made bytes (Ok source) → source ≡ bytes
as_the_file true bytes source is takes = absurd (cc is)
as_the_file false bytes source is takes = cc takes

-- the source of a command that makes none is the bytes of its file
pub plain_source_of : (action : Action) (bytes : List ℕ) (accepted : Accepted) → makes_source action ≡ false → JudgesSourceOf action bytes (Ok accepted) → JudgesSource bytes (Ok accepted)
plain_source_of action bytes accepted plain (source, takes, (found, judges, (u, named, is))) =
    let same : accepted ≡ found = cc is in
    let also : source ≡ bytes = as_the_file (makes_source action) bytes source plain takes in
    subst (λ (b : List ℕ). JudgesSource b (Ok accepted)) also (subst (λ (a : Accepted). JudgesSource source (Ok a)) (sym same) judges)
