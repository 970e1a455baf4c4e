-- The marks of lines.
use Rattle.std.specs.Prelude.{ℕ, ◌+◌, nat_le, nat_lt, ◌&&◌, if◌then◌else◌, List, ◌∷◌, length}
use Rattle.mc_oblige.specs.declared.obligation.Obligation.{Obligation}
use Rattle.mc_oblige.specs.declared.verdict.Verdict.{Verdict}
use Rattle.mc_oblige.specs.declared.verdict.VerdictState.{VerdictState}
use Rattle.mc_oblige.specs.declared.verdict.VerdictState.TheVariants as verdict
use Rattle.mc_list.specs.Lines.{Placed}
use Rattle.mc_list.specs.declared.mark.Mark.{Mark}
use Rattle.mc_list.specs.declared.mark.Mark.TheVariants.{Clear, Met, Justified, Stale, Missing}

-- the worst is missing, then come stale, justified and met
abbrev pub rank_of : Mark → ℕ
rank_of Clear = 0
rank_of Met = 1
rank_of Justified = 2
rank_of Stale = 3
rank_of Missing = 4

abbrev pub worse_of : Mark → Mark → Mark
worse_of a b = if nat_lt (rank_of a) (rank_of b) then b else a

-- a space, `+`, `j`, `~` or `!`
abbrev pub byte_of : Mark → ℕ
byte_of Clear = 32
byte_of Met = 43
byte_of Justified = 106
byte_of Stale = 126
byte_of Missing = 33

abbrev pub mark_of : VerdictState → Mark
mark_of verdict.Met = Met
mark_of verdict.Justified = Justified
mark_of verdict.Stale = Stale
mark_of verdict.Missing = Missing

-- the mark, where the place is one of those from `from` up to `to`
abbrev pub own_mark : (from to at : ℕ) → Mark → Mark
own_mark from to at mark = if nat_le from at && nat_lt at to then mark else Clear

-- the worst verdict on the obligations whose span starts from `from` up to `to`
abbrev pub mark_within : ℕ → ℕ → List Obligation → List Verdict → Mark
mark_within from to (o ∷ os) (v ∷ vs) =
    worse_of (own_mark from to o.span.start (mark_of v.state)) (mark_within from to os vs)
mark_within from to _ _ = Clear

-- the worst verdict on the obligations whose span starts on the line
abbrev pub mark_on : List Obligation → List Verdict → Placed → Mark
mark_on os vs line = mark_within line.start (line.start + length line.bytes) os vs
