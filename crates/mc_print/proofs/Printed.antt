-- The beginning and the end of a text.
use Rattle.std.proofs.Common.{◌≡◌, ◌∙◌, refl, sym, ap, subst, ℕ, ◌≤◌, List, [], ◌∷◌, Option, length, suc, arith}
use Rattle.std.specs.Prelude.{Result, Some, None, Ok, Err}
use Rattle.std.specs.Io.KnownBytes.{Appends}
use Rattle.std.proofs.lemmas.List.{append-nil}
use Rattle.mc_lex.specs.declared.token.Token.{Token}
use Rattle.mc_lex.specs.Tokens.{toks_of}
use Rattle.mc_port.specs.Sink.{Puts}
use Rattle.mc_port.specs.declared.sink.PutFault.{PutFault}
use Rattle.mc_port.proofs.Puts.{puts_then, puts_stops}
use Rattle.mc_print.specs.declared.gap.Gap.TheVariants as gap
use Rattle.mc_print.specs.declared.pen.Pen.{Pen as CodePen}
use Rattle.mc_print.specs.Pens.{begun, spaced}
use Rattle.mc_print.specs.steps.Holds.{Holds, ending, gap_bytes, outcome, pending, unfinished}
use Rattle.mc_print.proofs.Held.{spaced_is}

nothing_more : (o : Option (List ℕ)) → Appends o o []
nothing_more None = tt
nothing_more (Some xs) = sym (append-nil xs)

pub begins : (o : Option (List ℕ)) (f : ℕ) (tokens : List Token) (s : CodePen) → s.left.now ≡ tokens → s.specifiers.now ≡ [] → s.gap ≡ gap.Nothing → s.fault ≡ None → Holds o f (begun (toks_of tokens)) o f s
begins o f tokens s left specifiers gap fault = record {
  left = sym (ap toks_of left);
  specifiers = sym (ap toks_of specifiers);
  gap = ap gap_bytes gap;
  later = omega arith;
  bytes = subst (λ (x : Option PutFault). Puts o o f f [] (outcome x)) (sym fault) (nothing_more o);
}

pub ends_some : (start b : Option (List ℕ)) (first f : ℕ) (w : List (List ℕ)) (fault : Option PutFault) (e : PutFault) → fault ≡ Some e → Puts start b first f (unfinished w) (outcome fault) → Puts start b first f (spaced w) (Err e)
ends_some start b first f w fault e some h =
    let put : Puts start b first f (unfinished w) (Err e) = subst (λ (x : Option PutFault). Puts start b first f (unfinished w) (outcome x)) some h in
    subst (λ (l : List ℕ). Puts start b first f l (Err e)) (spaced_is w)
    (puts_stops start b first f (unfinished w) (ending (pending w)) e put)

pub ends_none : (start b b' : Option (List ℕ)) (first f f' : ℕ) (w : List (List ℕ)) (gap piece : List ℕ) (fault : Option PutFault) (r : Result (Unit {0}) PutFault) → fault ≡ None → piece ≡ ending gap → gap ≡ pending w → first ≤ f → f ≤ f' → Puts start b first f (unfinished w) (outcome fault) → Puts b b' f f' piece r → Puts start b' first f' (spaced w) r
ends_none start b b' first f f' w gap piece fault r none is pends le le' h more =
    let put : Puts start b first f (unfinished w) (Ok tt) = subst (λ (x : Option PutFault). Puts start b first f (unfinished w) (outcome x)) none h in
    let last : Puts b b' f f' (ending (pending w)) r = subst (λ (l : List ℕ). Puts b b' f f' l r) (is ∙ ap ending pends) more in
    subst (λ (l : List ℕ). Puts start b' first f' l r) (spaced_is w)
    (puts_then start b b' first f f' (unfinished w) (ending (pending w)) tt r put last le le')

pub length_toks : (ts : List Token) → length (toks_of ts) ≡ length ts
length_toks [] = refl
length_toks (t ∷ ts) = ap suc (length_toks ts)
