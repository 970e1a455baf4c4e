-- The marks of places by their ranks.
use Rattle.std.specs.Prelude.{◌≡◌, ℕ, ◌+◌, ◌<◌, max, List, [], ◌∷◌, length, slice_index_or}
use Rattle.mc_oblige.specs.declared.obligation.Obligation.{Obligation}
use Rattle.mc_oblige.specs.declared.verdict.Verdict.{Verdict}
use Rattle.mc_list.specs.declared.mark.Mark.{Mark}
use Rattle.mc_list.specs.declared.mark.Mark.TheVariants.{Clear}
use Rattle.mc_list.specs.Marks.{rank_of, mark_within}

-- the rank of the worst one
abbrev pub worst_rank : List Mark → ℕ
worst_rank [] = 0
worst_rank (mark ∷ marks) = max (rank_of mark) (worst_rank marks)

-- these are the worst marks of the places from `from` on
pub record AreMarks (from : ℕ) (os : List Obligation) (vs : List Verdict) (marks : List Mark)
    : Type 0 where
  pub whole : length marks ≡ 4096
  pub each : (k : ℕ) → k < 4096 →
      rank_of (slice_index_or marks k Clear) ≡ rank_of (mark_within (from + k) (from + k + 1) os vs)
