-- What a probe keeps of a run, and which hits lead it from one value to another.
use Rattle.std.specs.Prelude.{◌≡◌, ℕ, ◌⊎◌, Bool, true, false, List, [], ◌∷◌, reverse, Option, Some, None, option_map}
use Rattle.interp_trail.specs.declared.activation.Activation.{Activation}
use Rattle.interp_trail.specs.declared.layout.Layout.{Layout}
use Rattle.interp_trail.specs.Layouts.{after_bits}
use Rattle.interp_trail.specs.Trails.{Trail, none_open}

-- the layout of the bits, and the trail, where it is not lost for want of memory
pub record Kept : Type 0 where
  pub layout : Layout
  pub trail : Option Trail

-- the inner activation, and then those around it, of which the outermost is kept first
abbrev pub open_in : Option Activation → List Activation → List Activation
open_in None around = []
open_in (Some a) around = a ∷ reverse around

abbrev pub trail_in : Bool → List Activation → Option ℕ → Option Trail
trail_in true activations exit = None
trail_in false activations exit = Some (record { activations = activations; exit = exit })

-- before a run
abbrev pub fresh : Layout → Kept
fresh layout = record { layout = layout; trail = Some none_open }

-- the trail becomes this one, or is lost
abbrev pub Comes : Option Trail → Option Trail → Type 0
Comes expected trail = (trail ≡ None) ⊎ (trail ≡ expected)

-- the hits lead to the trail after them, or the trail is lost
pub record Leads (hits : List ℕ) (p q : Kept) : Type 0 where
  pub layout : q.layout ≡ p.layout
  pub trail : Comes (option_map (after_bits p.layout hits) p.trail) q.trail
