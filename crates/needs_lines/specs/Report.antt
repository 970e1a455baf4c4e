-- What the lines are made from, and when they can be made.
use Rattle.std.specs.Prelude.{ℕ, ◌<◌, Bool, Option, Some, None, List, [], ◌∷◌, All, length, slice_get}
use Rattle.mc_lex.specs.declared.token.Dialect.TheVariants.{Plain}
use Rattle.mc_lex.specs.Scans.{Scans}
use Rattle.mc_lex.specs.Tokens.{Tok}
use Rattle.mc_probe.specs.Maps.{Mapped}
use Rattle.mc_oblige.specs.declared.obligation.ObligationId.{ObligationId}
use Rattle.mc_oblige.specs.declared.obligation.ObligationId.TheVariants.{Outcome, Condition}
use Rattle.mc_oblige.specs.declared.obligation.Obligation.{Obligation}
use Rattle.needed_paths.specs.declared.need.Need.{Need}
use Rattle.needed_paths.specs.declared.need.Need.TheVariants.{Vector, Beside, Both}
use Rattle.needed_paths.specs.Needs.{Needs}
use Rattle.evidence_texts.specs.Paths.{HasPath}

-- the source and its tokens, the tests by name, the decisions, the obligations with those that are
-- asked about, and what these need
pub record NeedsReport : Type 0 where
  pub source : List ℕ
  pub tokens : List Tok
  pub names : List (List ℕ)
  pub decisions : List Mapped
  pub obligations : List Obligation
  pub asked : List Bool
  pub needs : Needs

-- the decision of an outcome or of a condition
abbrev pub decision_of : List Mapped → ObligationId → Option Mapped
decision_of decisions (Outcome d outcome) = slice_get decisions d
decision_of decisions (Condition d k) = slice_get decisions d
decision_of decisions id = None

-- the paths that it names are of the decision, and its test is one of so many
abbrev pub IsOf : ℕ → Option Mapped → Option Need → Type 0
IsOf tests decision None = Unit {0}
IsOf tests decision (Some (Vector path)) = HasPath decision path
IsOf tests decision (Some (Beside path partner test)) =
    HasPath decision path × HasPath decision partner × (test < tests)
IsOf tests decision (Some (Both first second)) = HasPath decision first × HasPath decision second

-- for each obligation whether it is asked about and what it needs, in order
abbrev pub AreOf : ℕ → List Mapped → List Obligation → List Bool → List (Option Need) → Type 0
AreOf tests decisions [] [] [] = Unit {0}
AreOf tests decisions (o ∷ os) (is ∷ asked) (need ∷ needs) =
    IsOf tests (decision_of decisions o.id) need × AreOf tests decisions os asked needs
AreOf tests decisions _ _ _ = ⊥

pub record IsReport (r : NeedsReport) : Type 0 where
  pub tokens : Scans Plain [] r.source r.tokens None
  pub each : AreOf (length r.names) r.decisions r.obligations r.asked r.needs.each
  pub wanted : All (λ w. HasPath (slice_get r.decisions w.decision) w.path) r.needs.wanted
