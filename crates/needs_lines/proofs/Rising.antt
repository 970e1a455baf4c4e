-- The tokens of a source stand in it one after the other.
use Rattle.std.proofs.Common.{◌≡◌, ◌<◌, ◌≤◌, ℕ, zero, suc, List, [], ◌∷◌, ◌++◌, length, get_or, Option, refl, ap, arith, length-append}
use Rattle.std.specs.List.Sorted.{IsNonDecreasingBy}
use Rattle.mc_lex.specs.declared.token.Token.{Token}
use Rattle.mc_lex.specs.declared.token.Dialect.{Dialect}
use Rattle.mc_lex.specs.declared.fault.LexFault.{LexFault}
use Rattle.mc_lex.specs.Scans.{Scans}
use Rattle.mc_lex.specs.Scans as r
use Rattle.mc_lex.specs.Tokens.{Tok, tok_of, toks_of}

longer : (before text : List ℕ) (n : ℕ) → length (before ++ text) ≤ n → length before ≤ n
longer before text n le = omega (arith, length-append before text, le)

-- none begins before what stands before them
after : {d : Dialect} {before bs : List ℕ} {ts : List Tok} {stop : Option LexFault} → Scans d before bs ts stop → (k : ℕ) (e : Tok) → k < length ts → length before ≤ (get_or ts k e).start
after (r.ends before) k e lt = absurd (omega (arith, lt))
after (r.gap before text rest bs ts stop w g s) k e lt = longer before text (get_or ts k e).start (after s k e lt)
after (r.token before text rest bs kind ts stop nc l s) zero e lt = omega arith
after (r.token before text rest bs kind ts stop nc l s) (suc k) e lt = longer before text (get_or ts k e).start (after s k e (omega (arith, lt)))
after (r.stops before bs why s) k e lt = absurd (omega (arith, lt))

pub rising : {d : Dialect} {before bs : List ℕ} {ts : List Tok} {stop : Option LexFault} → Scans d before bs ts stop → IsNonDecreasingBy (λ (t : Tok). t.start) ts
rising (r.ends before) i j e le lt = absurd (omega (arith, lt))
rising (r.gap before text rest bs ts stop w g s) i j e le lt = rising s i j e le lt
rising (r.token before text rest bs kind ts stop nc l s) zero zero e le lt = omega arith
rising (r.token before text rest bs kind ts stop nc l s) zero (suc j) e le lt = longer before text (get_or ts j e).start (after s j e (omega (arith, lt)))
rising (r.token before text rest bs kind ts stop nc l s) (suc i) zero e le lt = absurd (omega (arith, le))
rising (r.token before text rest bs kind ts stop nc l s) (suc i) (suc j) e le lt = rising s i j e (omega (arith, le)) (omega (arith, lt))
rising (r.stops before bs why s) i j e le lt = absurd (omega (arith, lt))

same_length : (ts : List Token) → length (toks_of ts) ≡ length ts
same_length [] = refl
same_length (t ∷ ts) = ap suc (same_length ts)

same_at : (ts : List Token) (k : ℕ) (e : Token) → (get_or (toks_of ts) k (tok_of e)).start ≡ (get_or ts k e).start
same_at [] k e = refl
same_at (t ∷ ts) zero e = refl
same_at (t ∷ ts) (suc k) e = same_at ts k e

-- and so the program's tokens
pub tokens_rise : {d : Dialect} {bs : List ℕ} (ts : List Token) {stop : Option LexFault} → Scans d [] bs (toks_of ts) stop → IsNonDecreasingBy (λ (t : Token). t.start) ts
tokens_rise ts s i j e le lt =
    let own = rising s i j (tok_of e) le (omega (arith, lt, same_length ts)) in
    omega (arith, own, same_at ts i e, same_at ts j e)
