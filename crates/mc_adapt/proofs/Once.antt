-- A source gives something, and only one thing.
use Rattle.std.proofs.Common.{◌≡◌, ℕ, ◌≤◌, List, [], ◌∷◌, length, Result, Ok, Err, refl, ap, sym, ◌∙◌, arith}
use Rattle.adapt_tokens.specs.Cuts.{Part, Cuts}
use Rattle.adapt_tokens.proofs.Cutting.{one_cut, some_cut}
use Rattle.mc_adapt.specs.States.{start}
use Rattle.mc_adapt.specs.Marks.{markings}
use Rattle.mc_adapt.specs.Texts.{text_of}
use Rattle.mc_adapt.specs.Outside.{Refusal, all_refusals}
use Rattle.mc_adapt.specs.Adapted.{Adapts}

pub some_thing : (source : List ℕ) → (given : Result (List ℕ) (List Refusal)) × Adapts source given
some_thing source =
    let refl_le : length source ≤ length source = omega arith in
    by_pieces (some_cut (length source) [] source refl_le)
  where
    by_refusals : (ps : List Part) → Cuts [] source ps → (rs : List Refusal) → rs ≡ all_refusals (length source) (markings start ps) → (given : Result (List ℕ) (List Refusal)) × Adapts source given
    by_refusals ps cuts [] e = (Ok (text_of (markings start ps)), (ps, cuts, sym e, refl))
    by_refusals ps cuts (r ∷ rs) e = (Err (r ∷ rs), (ps, cuts, (λ none. cc), e))

    by_pieces : (ps : List Part) × Cuts [] source ps → (given : Result (List ℕ) (List Refusal)) × Adapts source given
    by_pieces (ps, cuts) = by_refusals ps cuts (all_refusals (length source) (markings start ps)) refl

pub one_adapted : (source : List ℕ) (u v : Result (List ℕ) (List Refusal)) → Adapts source u → Adapts source v → u ≡ v
one_adapted source (Ok a) (Ok b) (ps, p, n, e) (qs, q, m, f) =
    ap (λ t. Ok t) (e ∙ ap (λ l. text_of (markings start l)) (one_cut [] source ps qs p q) ∙ sym f)
one_adapted source (Ok a) (Err b) (ps, p, n, e) (qs, q, m, f) =
    absurd (m (f ∙ ap (λ l. all_refusals (length source) (markings start l)) (sym (one_cut [] source ps qs p q)) ∙ n))
one_adapted source (Err a) (Ok b) (ps, p, n, e) (qs, q, m, f) =
    absurd (n (e ∙ ap (λ l. all_refusals (length source) (markings start l)) (one_cut [] source ps qs p q) ∙ m))
one_adapted source (Err a) (Err b) (ps, p, n, e) (qs, q, m, f) =
    ap (λ t. Err t) (e ∙ ap (λ l. all_refusals (length source) (markings start l)) (one_cut [] source ps qs p q) ∙ sym f)
