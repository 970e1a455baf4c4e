-- The program of an accepted source is sound.
use Rattle.std.proofs.Common.{◌≡◌, ◌≤◌, ◌<◌, ◌^◌, ℕ, List, length, Ok, sym, subst, arith}
use Rattle.mc_limits.specs.Limits.{most_source_bytes}
use Rattle.mc_grammar.specs.Laws.{TreeIsNoLonger}
use Rattle.mc_lex.specs.declared.token.Dialect.TheVariants.{Plain}
use Rattle.mc_lex.proofs.Calls as lexed
use Rattle.mc_probe.specs.Maps.{IsMapOf}
use Rattle.mc_tree.specs.Length.{token_count}
use Rattle.mc_typed.specs.Sound.{IsSound}
use Rattle.laws_soundness.proofs.Counts.{units_are_few}
use Rattle.laws_soundness.proofs.Units.{units_sound}
use Rattle.mc_station.specs.Source.{Accepted, JudgesSource}

-- an accepted source has a sound program, and its map
pub record IsReady (accepted : Accepted) : Type 0 where
  pub sound : IsSound accepted.program
  pub map_is : IsMapOf accepted.program accepted.map

below : (tokens bytes count : ℕ) → tokens ≤ bytes → bytes ≤ most_source_bytes → count ≤ tokens → count < 2 ^ 31
below tokens bytes count few limit less = omega (arith, few, limit, less)

pub ready : TreeIsNoLonger → (source : List ℕ) (accepted : Accepted) → length source ≤ most_source_bytes → JudgesSource source (Ok accepted) → IsReady accepted
ready no_longer source accepted limit (tokens, lexes, (unit, parses, (u, admits, (program, types, (ds, decides, (v, numbers, (m, maps, accepts))))))) =
    let whole : accepted ≡ record { source = source; program = program; map = m } = cc accepts in
    let few = below (length tokens) (length source) (token_count unit) (lexed.few lexes) limit (no_longer Plain tokens unit parses.0) in
    let sound : IsSound program = units_sound unit program admits types (units_are_few unit program types few) in
    let made : IsReady (record { source = source; program = program; map = m }) = record { sound = sound; map_is = maps } in
    subst IsReady (sym whole) made
