-- The bytes of lines that stand one after the other.
use Rattle.std.proofs.Common.{◌≡◌, ◌∙◌, ◌<◌, ℕ, Bool, Option, List, [], ◌∷◌, ◌++◌, length, append_assoc, refl, sym, ap, arith}
use Rattle.std.proofs.lemmas.List.{append-nil}
use Rattle.std.specs.Prelude.{if◌then◌else◌}
use Rattle.std.specs.List.{concat}
use Rattle.std.proofs.lemmas.List.Folds.{concat-append}
use Rattle.mc_oblige.specs.declared.obligation.Obligation.{Obligation}
use Rattle.needed_paths.specs.declared.need.Need.{Need}
use Rattle.needs_lines.specs.Report.{NeedsReport}
use Rattle.needs_lines.specs.Text.{asked_lines, obligation_lines}

pub joined : (lines more : List (List ℕ)) → concat (lines ++ more) ≡ concat lines ++ concat more
joined lines more = concat-append lines more

pub both : (z0 z1 z2 : List ℕ) (a b : List (List ℕ)) → z1 ≡ z0 ++ concat a → z2 ≡ z1 ++ concat b → z2 ≡ z0 ++ concat (a ++ b)
both z0 z1 z2 a b h k = k ∙ ap (λ (z : List ℕ). z ++ concat b) h ∙ append_assoc z0 (concat a) (concat b) ∙ ap (λ (z : List ℕ). z0 ++ z) (sym (concat-append a b))

-- of one obligation
abbrev pub own_lines : NeedsReport → Obligation → Bool → Option Need → List (List ℕ)
own_lines r o is need = if is then obligation_lines r o need else []

-- of each obligation that is asked about
abbrev pub asked_bytes : NeedsReport → List Obligation → List Bool → List (Option Need) → List ℕ
asked_bytes r (o ∷ os) (is ∷ asked) (need ∷ needs) = concat (own_lines r o is need) ++ asked_bytes r os asked needs
asked_bytes r _ _ _ = []

pub asked_joined : (r : NeedsReport) (os : List Obligation) (asked : List Bool) (needs : List (Option Need)) → asked_bytes r os asked needs ≡ concat (asked_lines r os asked needs)
asked_joined r [] asked needs = refl
asked_joined r (o ∷ os) [] needs = refl
asked_joined r (o ∷ os) (is ∷ asked) [] = refl
asked_joined r (o ∷ os) (is ∷ asked) (need ∷ needs) =
    ap (λ (z : List ℕ). concat (own_lines r o is need) ++ z) (asked_joined r os asked needs)
    ∙ sym (concat-append (own_lines r o is need) (asked_lines r os asked needs))

-- where none is left
pub asked_done : (r : NeedsReport) (os all : List Obligation) (asked are : List Bool) (needs each : List (Option Need)) (before begun : List ℕ) → length os < 1
    → before ++ asked_bytes r os asked needs ≡ begun ++ asked_bytes r all are each → before ≡ begun ++ concat (asked_lines r all are each)
asked_done r [] all asked are needs each before begun none same = sym (append-nil before) ∙ same ∙ ap (λ (z : List ℕ). begun ++ z) (asked_joined r all are each)
asked_done r (o ∷ os) all asked are needs each before begun none same = absurd (omega (arith, none))
