use Rattle.std.proofs.Common.{◌≡◌, ◌∙◌, ap, true, inl, inr}
use Rattle.clap.specs.Words.{app_of, is_simple_and_free}
use Rattle.mc_command.proofs.Lines.{has_matches, has_none, is_free}
use Rattle.mc_command.proofs.line.matches_in.Goals as goal

pub returns-in-Ok : goal.returns-in-Ok
returns-in-Ok c =
    let e = c.in_ok-command.ensures in
    let free : is_simple_and_free (app_of c.in_ok-command.command) ≡ true = ap is_simple_and_free e ∙ is_free in
    has_matches _ _ c.in-Ok.matches e c.in-Ok.ensures.matches (c.in-Ok.ensures.kinds free)

pub returns : goal.returns
returns c =
    let e = c.in_ok-command.ensures in
    let free : is_simple_and_free (app_of c.in_ok-command.command) ≡ true = ap is_simple_and_free e ∙ is_free in
    elim (c.in-Err.ensures.kinds free) [
      | inl memory ↦ absurd (c.in_default.not-OutOfMemory (c.kind.ensures ∙ memory))
      | inr among ↦ has_none _ _ _ e among
    ]
