-- The command `selfload` has one reply, which is an answer.
use Rattle.std.proofs.Common.{◌⊎◌, ◌≡◌, ℕ, List, Result, Ok, Err, subst, sym, inl, inr}
use Rattle.std.specs.Prelude.{IfOk}
use Rattle.std.specs.declared.alloc.AllocError.{AllocError}
use Rattle.mc_limits.specs.Limits.{usual_fuel}
use Rattle.mc_gen.specs.Source.{source_text}
use Rattle.mc_gen.specs.Tests.{tests_text}
use Rattle.station_replies.specs.Phases.{AreOne, IsOne, Reaches}
use Rattle.station_replies.specs.Reply.{Reply}
use Rattle.station_replies.specs.Seen.{Gives, IsReplyTo, reply_to}
use Rattle.mc_station.specs.Replied.{seen_reply}
use Rattle.mc_station.specs.declared.reply.Reply.{Reply as Given}
use Rattle.station_replies.specs.declared.stop.Stop.{Stop}
use Rattle.station_replies.specs.declared.stop.Stop.TheVariants as stop
use Rattle.station_replies.specs.Texts.{matrix_line, tests_line}
use Rattle.station_replies.specs.declared.status.Status.TheVariants as status
use Rattle.mc_station.specs.Laws.{IsLater}
use Rattle.mc_station.specs.Seen.{seen_accepted}
use Rattle.mc_station.specs.Source.{Accepted, JudgesSource}
use Rattle.mc_station.specs.Tests.{MatrixFits, JudgesTests, stands, tested_of, words_needed}
use Rattle.mc_station.specs.commands.Selfload.{LoadsItself, Sums}
use Rattle.mc_typed.specs.Plans.{Plan}
use Rattle.mc_station.proofs.Phases.{one_fit, one_source, one_tests}
use Rattle.mc_station.proofs.Refusing.{IsRefused, large_later, later, refuses_source, tests_later}
use Rattle.mc_station.proofs.Summing.{one_sum, sum_keeps}

one_reach : {A : Type 0} (Phase : Result A Reply → Type 0) (End : A → Reply → Type 0) → IsOne Phase → ((a : A) (r q : Reply) → End a r → End a q → AreOne r q)
    → (r q : Reply) → Reaches Phase End r → Reaches Phase End q → AreOne r q
one_reach Phase End one_phase end r q (inl p) (inl o) = one_phase (Err r) (Err q) p o
one_reach Phase End one_phase end r q (inl p) (inr (b, o, f)) = absurd (one_phase (Err r) (Ok b) p o)
one_reach Phase End one_phase end r q (inr (a, p, e)) (inl o) = absurd (one_phase (Ok a) (Err q) p o)
one_reach {A} Phase End one_phase end r q (inr (a, p, e)) (inr (b, o, f)) =
    let same : a ≡ b = one_phase (Ok a) (Ok b) p o in end b r q (subst (λ (x : A). End x r) same e) f

module _ (skipped : List ℕ) (count : ℕ) where
  pub one_load : (r q : Reply) → LoadsItself skipped count r → LoadsItself skipped count q → AreOne r q
  one_load =
      one_reach _ _ (one_source (source_text count)) (λ accepted.
      one_reach _ _ (one_tests accepted.program usual_fuel (tests_text count)) (λ plans.
      one_reach _ _ (one_fit accepted plans) (λ u r q p o. inl (one_sum (stands skipped accepted plans) count accepted (tested_of accepted.program plans) r q p o))))

  pub load_keeps : (r : Reply) → LoadsItself skipped count r → IsRefused r ⊎ IsLater r
  load_keeps r (inl judges) = inl (refuses_source (source_text count) r judges)
  load_keeps r (inr (accepted, judges, inl (fault, given, is))) = inr (later status.TestsRefused (tests_line fault) (tests_later (tests_line fault)) r is)
  load_keeps r (inr (accepted, judges, inr (plans, read, inl (large, is)))) =
      inr (later status.TooLarge (matrix_line (words_needed accepted plans)) (large_later (matrix_line (words_needed accepted plans))) r is)
  load_keeps r (inr (accepted, judges, inr (plans, read, inr (u, fits, sums)))) = inr (sum_keeps (stands skipped accepted plans) count accepted (tested_of accepted.program plans) r sums)

  -- the made source is accepted
  pub loads_on : (source tests : List ℕ) (accepted : Accepted) (given : Result Given AllocError) → source ≡ source_text count → tests ≡ tests_text count → JudgesSource source (Ok accepted)
      → IfOk given (λ reply. Reaches (JudgesTests accepted.program usual_fuel tests) (λ plans. Reaches (MatrixFits accepted plans) (λ u. Sums skipped count accepted plans)) (seen_reply reply))
      → IfOk given (λ reply. LoadsItself skipped count (seen_reply reply))
  loads_on source tests accepted (Ok reply) made_source made_tests judges reaches =
      let End : List Plan → Reply → Type 0 = λ plans. Reaches (MatrixFits accepted plans) (λ u. Sums skipped count accepted plans) in
      inr (
        accepted,
        subst (λ (text : List ℕ). JudgesSource text (Ok accepted)) made_source judges,
        subst (λ (text : List ℕ). Reaches (JudgesTests accepted.program usual_fuel text) End (seen_reply reply)) made_tests reaches,
      )
  loads_on source tests accepted (Err e) made_source made_tests judges reaches = tt

  -- or refused
  pub loads_not : (source : List ℕ) (why : Stop) (given : Result Given AllocError) → source ≡ source_text count → Gives seen_accepted (JudgesSource source) (Err why)
      → IfOk given (λ reply. IsReplyTo why (seen_reply reply)) → IfOk given (λ reply. LoadsItself skipped count (seen_reply reply))
  loads_not source (stop.Refused refusal) (Ok reply) made judges is =
      inl (subst (λ (r : Reply). JudgesSource (source_text count) (Err r)) (sym is) (subst (λ (text : List ℕ). JudgesSource text (Err (reply_to refusal))) made judges))
  loads_not source stop.OutOfMemory (Ok reply) made judges is = absurd is
  loads_not source why (Err e) made judges is = tt
