-- What a value of places keeps, and that there is one proof of it.
use Rattle.std.specs.Prelude.{◌≡◌, ℕ, List, Option}
use Rattle.std.proofs.Common.{ap}
use Rattle.std.proofs.Math.Nat.{ℕ_set}
use Rattle.std.specs.Coded.{le_prop}
use Rattle.std.proofs.Props.{props}
use mathlib.Core.List.{is_set}
use Rattle.mc_places.specs.declared.origin.Origin as code_origin
use Rattle.mc_places.specs.Origins.{Origin, origins}
use Rattle.mc_places.specs.Seen.{origins_of}
use Rattle.mc_places.specs.steps.Starts.{AreStarts}

-- these are the files and lines of the lines of the text
abbrev pub AreOrigins : List ℕ → List (Option code_origin.Origin) → Type 0
AreOrigins text found = origins_of found ≡ origins text

Origin-set : IsSet Origin
Origin-set a b p q = λ i j. record {
  file = is_set ℕ_set a.file b.file (ap (λ (o : Origin). o.file) p) (ap (λ (o : Origin). o.file) q) i j;
  line = ℕ_set a.line b.line (ap (λ (o : Origin). o.line) p) (ap (λ (o : Origin). o.line) q) i j;
}

options_set : IsSet (Option Origin)
options_set = hlevel (props, Origin-set)

pub AreOrigins-prop : (text : List ℕ) (found : List (Option code_origin.Origin))
    → IsProp (AreOrigins text found)
AreOrigins-prop text found = is_set options_set (origins_of found) (origins text)

pub AreStarts-prop : (text : List ℕ) (n : ℕ) (starts : List ℕ) → IsProp (AreStarts text n starts)
AreStarts-prop text n starts = hlevel (le_prop, ℕ_set)
