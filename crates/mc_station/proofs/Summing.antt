-- The summary of `selfload`.
use Rattle.std.proofs.Common.{◌≡◌, ◌↔◌, ◌∙◌, ℕ, [], sym, ap, subst}
use Rattle.report_options.specs.declared.mode.Mode.TheVariants.{Masking}
use Rattle.mc_steps.specs.Events.{Event}
use Rattle.mc_report.specs.Report as text
use Rattle.mc_report.specs.Summary.{summary_lines}
use Rattle.station_replies.specs.Reply.{Reply, written}
use Rattle.mc_station.specs.Laws.{IsLater}
use Rattle.mc_station.specs.Source.{Accepted}
use Rattle.mc_station.specs.Tests.{Tested}
use Rattle.mc_station.specs.commands.Selfload.{SumsOn}
use Rattle.mc_station.proofs.Reporting.{also_made, one_made}
use Rattle.mc_station.proofs.Written.{written_later}

module _ (shown : Event → ℕ → Type 0) (count : ℕ) (accepted : Accepted) (tests : Tested) where
  pub one_sum : (r q : Reply) → SumsOn shown count accepted tests r → SumsOn shown count accepted tests q → r ≡ q
  one_sum r q (made, on, is) (other, also, same) =
      is ∙ ap (λ (t : text.Report). written 0 (summary_lines count t)) (one_made shown Masking accepted tests [] made other on also) ∙ sym same

  pub sum_keeps : (r : Reply) → SumsOn shown count accepted tests r → IsLater r
  sum_keeps r (made, on, is) = subst IsLater (sym is) (written_later 0 (summary_lines count made))

-- the events of another relation are the same
pub also_sums : (shown stand : Event → ℕ → Type 0) (count : ℕ) (accepted : Accepted) (tests : Tested) (r : Reply) → ((e : Event) (t : ℕ) → shown e t ↔ stand e t)
    → SumsOn shown count accepted tests r → SumsOn stand count accepted tests r
also_sums shown stand count accepted tests r same (made, on, is) = (made, also_made shown stand Masking accepted tests [] made same on, is)
