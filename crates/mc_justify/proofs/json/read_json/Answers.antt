use Rattle.std.proofs.Common.{refl, sym, inl, inr, rules}
use Rattle.std.specs.Str.{is_utf8}
use Rattle.std.proofs.lemmas.Bool.{cases_Bool}
use Rattle.std.proofs.lemmas.Str.{IsUtf8-from_is_utf8, is_utf8-from_IsUtf8}
use Rattle.serde_json.specs.Errors.{IsMemory}
use Rattle.mc_justify.proofs.json.read_json.Goals as goal

pub returns-in-Ok : goal.returns-in-Ok
returns-in-Ok c =
    let ok = c.in-Ok.ensures.ok in
    rw (is_utf8-from_IsUtf8 c.args.bytes.now ok.0) (sym ok.1)

pub returns-else-is_memory : goal.returns-else-is_memory
returns-else-is_memory c =
    let other : IsMemory c.in-Err.error → ⊥ = search rules in
    elim (cases_Bool (is_utf8 c.args.bytes.now)) [
      | inl text ↦ rw text (sym (c.in-Err.ensures.err other (IsUtf8-from_is_utf8 c.args.bytes.now text)))
      | inr bad ↦ rw bad refl
    ]
