-- Tokens whose places can be counted.
use Rattle.std.proofs.Common.{◌≡◌, ◌<◌, ◌+◌, ◌^◌, ℕ, List, length, sym, subst, arith}
use Rattle.std.specs.Prelude.{All}
use Rattle.std.proofs.Math.ListN.{get_or-map}
use Rattle.std.proofs.lemmas.List.{length-map}
use Rattle.mc_lex.specs.Returned.{IsSlice}
use Rattle.mc_lex.specs.Tokens.{tok_of, toks_of}
use Rattle.mc_lex.specs.declared.token.Token.{Token}

-- tokens that are slices of a short source are short
pub all_short : (source : List ℕ) (tokens : List Token) → length source < 2 ^ 31
    → All (IsSlice source) (toks_of tokens)
    → All (λ (token : Token). token.start + length token.text.now < 2 ^ 31) tokens
all_short source tokens small all = λ k d inside.
    let there : k < length (toks_of tokens) = rw length-map inside in
    let slice = subst (IsSlice source) (get_or-map tok_of tokens k d) (all k (tok_of d) there) in
    omega (arith, small, slice.1)

-- so are those that a slice of them holds
pub read_short : (source : List ℕ) (tokens read : List Token) → length source < 2 ^ 31 → tokens ≡ read
    → All (IsSlice source) (toks_of read)
    → All (λ (token : Token). token.start + length token.text.now < 2 ^ 31) tokens
read_short source tokens read small same all =
    subst (λ (l : List Token). All (λ (token : Token). token.start + length token.text.now < 2 ^ 31) l) (sym same)
    (all_short source read small all)
