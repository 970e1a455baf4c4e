-- What the phases of a source come to, in a row.
use Rattle.std.proofs.Common.{◌≡◌, ℕ, List, Result, Ok, Err, subst, sym}
use Rattle.std.specs.Result.{IsErr, IsErrAnd}
use Rattle.mc_lex.specs.Tokens.{Tok}
use Rattle.mc_tree.specs.Tree.{Item}
use Rattle.mc_typed.specs.Tree.{Program}
use Rattle.mc_typed.specs.Views.{program_of}
use Rattle.decide_rules.specs.Decisions.{Decision}
use Rattle.decide_rules.specs.Seen.{decision_of}
use Rattle.std.specs.Prelude.{map, Vec}
use Rattle.std.specs.declared.alloc.Global.{Global}
use Rattle.decide_rules.specs.declared.decision.Decision as code
use Rattle.station_replies.specs.Phases.{Then}
use Rattle.station_replies.specs.Reply.{Reply}
use Rattle.station_replies.specs.Seen.{Gives}
use Rattle.station_replies.specs.declared.stop.Stop.{Stop}
use Rattle.station_replies.proofs.Phases.{goes_on, stops}
use Rattle.mc_station.specs.Seen.{seen_accepted}
use Rattle.mc_station.specs.Source as spec
use Rattle.mc_station.specs.Source.{Accepts, Admits, Decides, JudgesSource, Lexes, Maps, PathsAreFew, Parses, Types}
use Rattle.mc_station.specs.declared.accepted.Accepted.{Accepted}

-- an exit hands its reason on
pub handed_on : (Phase : Result spec.Accepted Reply → Type 0) (why : Stop) (given : Result Accepted Stop) → IsErr given → IsErrAnd given (λ (e : Stop). e ≡ why)
    → Gives seen_accepted Phase (Err why) → Gives seen_accepted Phase given
handed_on Phase why (Ok a) is same stopped = absurd (cc is)
handed_on Phase why (Err e) is same stopped = subst (λ (w : Stop). Gives seen_accepted Phase (Err w)) (sym same) stopped

module _ (source : List ℕ) where
  abbrev AfterDecisions : Program → List Decision → Result spec.Accepted Reply → Type 0
  AfterDecisions program ds = Then (PathsAreFew source ds) (λ v. Then (Maps program ds) (Accepts source program))

  abbrev AfterTypes : Program → Result spec.Accepted Reply → Type 0
  AfterTypes program = Then (Decides source program) (AfterDecisions program)

  abbrev AfterForms : List Item → Result spec.Accepted Reply → Type 0
  AfterForms unit = Then (Types source unit) AfterTypes

  abbrev AfterTree : List Item → Result spec.Accepted Reply → Type 0
  AfterTree unit = Then (Admits source unit) (λ u. AfterForms unit)

  abbrev AfterTokens : List Tok → Result spec.Accepted Reply → Type 0
  AfterTokens tokens = Then (Parses source tokens) AfterTree

  after_forms : (tokens : List Tok) (unit : List Item) (r : Result Accepted Stop) → Lexes source (Ok tokens) → Parses source tokens (Ok unit) → Admits source unit (Ok tt)
      → Gives seen_accepted (AfterForms unit) r → Gives seen_accepted (JudgesSource source) r
  after_forms tokens unit r lexes parses admits given =
      goes_on seen_accepted (Lexes source) AfterTokens tokens r lexes
      (goes_on seen_accepted (Parses source tokens) AfterTree unit r parses
      (goes_on seen_accepted (Admits source unit) (λ u. AfterForms unit) tt r admits given))

  pub at_types : (tokens : List Tok) (unit : List Item) (why : Stop) → Lexes source (Ok tokens) → Parses source tokens (Ok unit) → Admits source unit (Ok tt)
      → Gives program_of (Types source unit) (Err why) → Gives seen_accepted (JudgesSource source) (Err why)
  at_types tokens unit why lexes parses admits given =
      after_forms tokens unit (Err why) lexes parses admits (stops seen_accepted program_of (Types source unit) AfterTypes why given)

  pub at_decisions : (tokens : List Tok) (unit : List Item) (program : Program) (why : Stop) → Lexes source (Ok tokens) → Parses source tokens (Ok unit) → Admits source unit (Ok tt)
      → Types source unit (Ok program) → Gives (λ (ds : Vec code.Decision Global). map decision_of ds.items) (Decides source program) (Err why) → Gives seen_accepted (JudgesSource source) (Err why)
  at_decisions tokens unit program why lexes parses admits types given =
      after_forms tokens unit (Err why) lexes parses admits
      (goes_on seen_accepted (Types source unit) AfterTypes program (Err why) types
      (stops seen_accepted (λ (ds : Vec code.Decision Global). map decision_of ds.items) (Decides source program) (AfterDecisions program) why given))

  pub goes_through : (tokens : List Tok) (unit : List Item) (program : Program) (ds : List Decision) (r : Result Accepted Stop) → Lexes source (Ok tokens) → Parses source tokens (Ok unit)
      → Admits source unit (Ok tt) → Types source unit (Ok program) → Decides source program (Ok ds) → Gives seen_accepted (AfterDecisions program ds) r → Gives seen_accepted (JudgesSource source) r
  goes_through tokens unit program ds r lexes parses admits types decides given =
      after_forms tokens unit r lexes parses admits
      (goes_on seen_accepted (Types source unit) AfterTypes program r types (goes_on seen_accepted (Decides source program) (AfterDecisions program) ds r decides given))
