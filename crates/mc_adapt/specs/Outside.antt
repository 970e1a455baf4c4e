-- All that stays outside the language.
use Rattle.std.specs.Prelude.{ℕ, List, [], ◌∷◌, ◌++◌, map}
use Rattle.adapt_tokens.specs.Cuts.{Part}
use Rattle.mc_adapt.specs.declared.state.Around.{Around}
use Rattle.mc_adapt.specs.declared.state.Around.TheVariants as around
use Rattle.mc_adapt.specs.declared.state.State.{State}
use Rattle.mc_adapt.specs.declared.mark.Mark.{Mark}
use Rattle.mc_adapt.specs.declared.mark.Mark.TheVariants.{Stays, Goes, Outside}
use Rattle.mc_adapt.specs.declared.mark.Reason.{Reason}
use Rattle.mc_adapt.specs.declared.mark.Reason.TheVariants as reason
use Rattle.mc_adapt.specs.declared.fault.Fault.{Fault}
use Rattle.mc_adapt.specs.Marks.{Marking}
use Rattle.mc_adapt.specs.States.{start, state_after}

-- its place, by the number of bytes before it; why; and its text
pub record Refusal : Type 0 where
  pub at : ℕ
  pub why : Reason
  pub text : List ℕ

abbrev pub refusal_of : Fault → Refusal
refusal_of f = record { at = f.at; why = f.reason; text = f.text.now }

abbrev pub refusals_of : List Fault → List Refusal
refusals_of fs = map refusal_of fs

abbrev pub refused_as : Mark → Part → List Refusal
refused_as Stays p = []
refused_as Goes p = []
refused_as (Outside why) p = record { at = p.start; why = why; text = p.text } ∷ []

abbrev pub refused : Marking → List Refusal
refused m = refused_as m.mark m.part

abbrev pub refusals : List Marking → List Refusal
refusals [] = []
refusals (m ∷ ms) = refused m ++ refusals ms

abbrev pub state_at_end : State → List Marking → State
state_at_end s [] = s
state_at_end s (m ∷ ms) = state_at_end (state_after s m.sort) ms

-- an attribute or an assertion that the end of the text leaves open
abbrev pub open_at_end : Around → (size : ℕ) → List Refusal
open_at_end around.Plain size = []
open_at_end _ size = record { at = size; why = reason.Bracket; text = [] } ∷ []

abbrev pub all_refusals : (size : ℕ) → List Marking → List Refusal
all_refusals size ms = refusals ms ++ open_at_end (state_at_end start ms).around size
