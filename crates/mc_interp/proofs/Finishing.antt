-- The end of a call: what is handed on, and what is given back.
use Rattle.std.proofs.Common.{ℕ, List, length, refl, arith, Option, Some, None}
use Rattle.mc_value.specs.declared.int_type.IntType.{IntType}
use Rattle.mc_typed.specs.Tree.{ResultType}
use Rattle.mc_typed.specs.Tree as t
use Rattle.mc_typed.specs.Sound.{Scope}
use Rattle.mc_probe.specs.Flat.{Activation}
use Rattle.mc_interp.specs.declared.frame.Frame.{Frame}
use Rattle.mc_interp.specs.declared.store.Store.{Store}
use Rattle.mc_interp.specs.declared.values.Given.{Given}
use Rattle.mc_interp.specs.declared.values.Given.TheVariants as given
use Rattle.mc_interp.specs.Bodies.{IsGivenFor}
use Rattle.mc_interp.specs.Calls.{IsInto, IsResultOf}
use Rattle.mc_interp.specs.Entries.{handed_on, CanHandOn, IntoRoom, IsHandedOn}
use Rattle.mc_interp.specs.Frames.{activation_of, scope_in, IsReady}
use Rattle.mc_interp.specs.Typed.{AreTyped}

-- what a `return` gave can be copied to the temporary object of the call
pub can_hand_on : (f : Frame) (m : Store) (room : ℕ) (v : Given) (into : Option ℕ) (r : ResultType) → IsReady f m room →
    IsGivenFor (scope_in f) (activation_of f) r v → IntoRoom (length m.cells.cells) into r → CanHandOn v into (length m.cells.cells)
can_hand_on f m room given.Nothing into r ready h k = tt
can_hand_on f m room (given.Number of word) into r ready h k = tt
can_hand_on f m room (given.Structure at n) None r ready h k = tt
can_hand_on f m room (given.Structure at n) (Some to) (t.StructureResult u) ready h k =
    let s = h.1 ready.types ready.typed in
    (omega (arith, s.within, ready.has.room, h.0), omega (arith, k, h.0))
can_hand_on f m room (given.Structure at n) (Some to) t.NoResult ready h k = absurd h
can_hand_on f m room (given.Structure at n) (Some to) (t.NumberResult a) ready h k = absurd h

pub is_handed_on : (c : Scope) (w : Activation) (types : List IntType) (v : Given) (into : Option ℕ) (r : ResultType) → AreTyped c w types →
    IsGivenFor c w r v → IsInto types into r → IsHandedOn types v into
is_handed_on c w types given.Nothing into r ok h k = tt
is_handed_on c w types (given.Number of word) into r ok h k = tt
is_handed_on c w types (given.Structure at n) None r ok h k = tt
is_handed_on c w types (given.Structure at n) (Some to) (t.StructureResult u) ok h k = (u, h.0, h.1 types ok, k)
is_handed_on c w types (given.Structure at n) (Some to) t.NoResult ok h k = absurd h
is_handed_on c w types (given.Structure at n) (Some to) (t.NumberResult a) ok h k = absurd h

pub result_of_call : (c : Scope) (w : Activation) (v : Given) (into : Option ℕ) (r : ResultType) → IsGivenFor c w r v → IsResultOf into r (handed_on v into)
result_of_call c w given.Nothing into r h = tt
result_of_call c w (given.Number of word) into (t.NumberResult a) h = h
result_of_call c w (given.Number of word) into t.NoResult h = absurd h
result_of_call c w (given.Number of word) into (t.StructureResult u) h = absurd h
result_of_call c w (given.Structure at n) None r h = tt
result_of_call c w (given.Structure at n) (Some to) (t.StructureResult u) h = (refl, h.0)
result_of_call c w (given.Structure at n) (Some to) t.NoResult h = absurd h
result_of_call c w (given.Structure at n) (Some to) (t.NumberResult a) h = absurd h
