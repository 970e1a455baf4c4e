-- Places of tokens, and of the source's end.
use Rattle.std.proofs.Common.{◌≡◌, ◌≤◌, ◌<◌, ◌+◌, ◌^◌, ℕ, zero, suc, List, [], ◌∷◌, length, drop, get_or, refl, subst, arith}
use Rattle.std.specs.Prelude.{All}
use Rattle.std.proofs.Math.ListN.{get_or-map}
use Rattle.std.proofs.lemmas.List.{length-map}
use Rattle.mc_lex.specs.Returned.{IsSlice}
use Rattle.mc_lex.specs.Tokens.{tok_of, toks_of}
use Rattle.mc_lex.specs.declared.token.Token.{Token}
use Rattle.station_replies.specs.Texts.{start_of}

-- tokens that are slices of a short source end where a short source may
pub slices_short : (source : List ℕ) (tokens : List Token) → length source < 2 ^ 31 → All (IsSlice source) (toks_of tokens) → All (λ (token : Token). token.start + length token.text.now < 2 ^ 31) tokens
slices_short source tokens small all = λ k d inside.
    let there : k < length (toks_of tokens) = rw length-map inside in
    let slice = subst (IsSlice source) (get_or-map tok_of tokens k d) (all k (tok_of d) there) in
    omega (arith, small, slice.1)

-- where the token starts that this number of tokens come before
pub start_some : (source : List ℕ) (tokens : List Token) (n : ℕ) (t : Token) → n < length tokens → t ≡ get_or tokens n t → start_of source (drop n (toks_of tokens)) ≡ t.start
start_some source [] n t inside is = absurd (omega (arith, inside))
start_some source (u ∷ us) zero t inside is = rw is refl
start_some source (u ∷ us) (suc n) t inside is = start_some source us n t (omega (arith, inside)) is

pub start_none : (source : List ℕ) (tokens : List Token) (n : ℕ) → length tokens ≤ n → start_of source (drop n (toks_of tokens)) ≡ length source
start_none source [] zero past = refl
start_none source [] (suc n) past = refl
start_none source (u ∷ us) zero past = absurd (omega (arith, past))
start_none source (u ∷ us) (suc n) past = start_none source us n (omega (arith, past))
