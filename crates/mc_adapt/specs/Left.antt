-- The tokens that are left of a text.
use Rattle.std.specs.Prelude.{◌≡◌, Bool, false, if◌then◌else◌, List, [], ◌∷◌, ◌++◌, codes}
use Rattle.adapt_tokens.specs.declared.kind.Kind.TheVariants as kind
use Rattle.adapt_tokens.specs.Cuts.{Part}
use Rattle.mc_adapt.specs.States.{start}
use Rattle.mc_adapt.specs.Marks.{Marking, markings}
use Rattle.mc_adapt.specs.Texts.{is_token, takes_void, named_after}
use Rattle.mc_adapt.specs.Outside.{refusals}
use Rattle.mc_adapt.specs.Laws.{Untouched}

-- the `void` that is written after a `(`; it stands nowhere in the source
abbrev pub void_part : Part
void_part = record { kind = kind.Word; text = codes "void"; start = 0 }

abbrev pub part_if : Bool → Part → List Part
part_if wanted p = if wanted then p ∷ [] else []

-- those that stay, each with the place that it has in the source, and each `void`
abbrev pub tokens_left : (named : Bool) → List Marking → List Part
tokens_left named [] = []
tokens_left named (m ∷ ms) =
    part_if (is_token m.mark m.sort) m.part
    ++ (part_if (takes_void named m ms) void_part ++ tokens_left (named_after named m) ms)

-- where nothing is outside the language, no rule applies to them again: each stays, and no
-- `void` stands after it
abbrev pub NothingIsLeftToDo : Type 0
NothingIsLeftToDo =
    (ps : List Part) → refusals (markings start ps) ≡ []
    → Untouched false (markings start (tokens_left false (markings start ps)))
