-- What is held after a token, and after several.
use Rattle.std.proofs.Common.{◌≡◌, ◌∙◌, refl, sym, ap, subst, ℕ, zero, suc, ◌≤◌, Bool, true, false, List, [], ◌∷◌, ◌++◌, Option, if◌then◌else◌, append_assoc, take, drop, arith}
use Rattle.std.specs.Prelude.{Result, Some, None, Ok, Err}
use Rattle.std.specs.Result.{result_err}
use Rattle.mc_span.specs.declared.span.Span.{Span}
use Rattle.mc_typed.specs.declared.expressions.Expression.{Expression}
use Rattle.mc_typed.specs.Tree.{span_of}
use Rattle.mc_typed.specs.Views as plain
use Rattle.mc_probe.specs.Views as probed
use Rattle.mc_probe.proofs.Erased.{expression_erases}
use Rattle.mc_lex.specs.declared.token.Token.{Token}
use Rattle.mc_lex.specs.Tokens.{Tok, tok_of, toks_of}
use Rattle.mc_port.specs.Sink.{Puts}
use Rattle.mc_port.specs.declared.sink.PutFault.{PutFault}
use Rattle.mc_port.proofs.Puts.{puts_then, puts_stops}
use Rattle.mc_print.specs.declared.pen.Pen.{Pen as CodePen}
use Rattle.mc_print.specs.Pens.{Pen, put, copy, before, last_item, note, texts_of, gap_after, spaced}
use Rattle.mc_print.specs.Texts.{extent}
use Rattle.mc_print.specs.steps.Holds.{Holds, unfinished, pending, ending, gap_bytes, outcome, PutsMore}

-- ---- bytes

pub unfinished_more : (ts : List (List ℕ)) (x : List ℕ) → unfinished (ts ++ x ∷ []) ≡ unfinished ts ++ (pending ts ++ x)
unfinished_more [] x = refl
unfinished_more (t ∷ []) x = refl
unfinished_more (t ∷ u ∷ ts) x =
    ap (λ (l : List ℕ). t ++ (gap_after t ++ l)) (unfinished_more (u ∷ ts) x)
    ∙ (ap (λ (l : List ℕ). t ++ l) (sym (append_assoc (gap_after t) (unfinished (u ∷ ts)) (pending (u ∷ ts) ++ x)))
    ∙ sym (append_assoc t (gap_after t ++ unfinished (u ∷ ts)) (pending (u ∷ ts) ++ x)))

pub pending_more : (ts : List (List ℕ)) (x : List ℕ) → pending (ts ++ x ∷ []) ≡ gap_after x
pending_more [] x = refl
pending_more (t ∷ []) x = refl
pending_more (t ∷ u ∷ ts) x = pending_more (u ∷ ts) x

ends_line : (b : Bool) → ending (if b then 10 ∷ [] else 32 ∷ []) ≡ 10 ∷ []
ends_line true = refl
ends_line false = refl

-- the last gap gives way to the line feed
pub spaced_is : (ts : List (List ℕ)) → unfinished ts ++ ending (pending ts) ≡ spaced ts
spaced_is [] = refl
spaced_is (t ∷ []) = ap (λ (l : List ℕ). t ++ l) (ends_line _)
spaced_is (t ∷ u ∷ ts) =
    append_assoc t (gap_after t ++ unfinished (u ∷ ts)) (ending (pending (u ∷ ts)))
    ∙ (ap (λ (l : List ℕ). t ++ l) (append_assoc (gap_after t) (unfinished (u ∷ ts)) (ending (pending (u ∷ ts))))
    ∙ ap (λ (l : List ℕ). t ++ (gap_after t ++ l)) (spaced_is (u ∷ ts)))

-- ---- a piece more

pub more_bytes : (start b b' : Option (List ℕ)) (first f f' : ℕ) (w piece : List ℕ) (old now : Option PutFault) → Puts start b first f w (outcome old) → PutsMore old b b' f f' piece now → first ≤ f → f ≤ f' → Puts start b' first f' (w ++ piece) (outcome now)
more_bytes start b b' first f f' w piece None now h more le le' = puts_then start b b' first f f' w piece tt (outcome now) h more le le'
more_bytes start b b' first f f' w piece (Some e) now h more le le' =
    let stopped : Puts start b first f (w ++ piece) (Err e) = puts_stops start b first f w piece e h in
    subst (λ (r : Option PutFault). Puts start b' first f' (w ++ piece) (outcome r)) (sym more.2)
    (subst (λ (g : ℕ). Puts start b' first g (w ++ piece) (Err e)) (sym more.1)
    (subst (λ (o : Option (List ℕ)). Puts start o first f (w ++ piece) (Err e)) (sym more.0) stopped))

pub outcome_err : (r : Result (Unit {0}) PutFault) → outcome (result_err r) ≡ r
outcome_err (Ok tt) = refl
outcome_err (Err e) = refl

pub more_none : (a b : Option (List ℕ)) (f g : ℕ) (piece : List ℕ) (r : Result (Unit {0}) PutFault) (fault given : Option PutFault) → fault ≡ None → given ≡ result_err r → Puts a b f g piece r → PutsMore fault a b f g piece given
more_none a b f g piece r fault given none is put =
    subst (λ (x : Option PutFault). PutsMore x a b f g piece given) (sym none)
    (subst (λ (x : Result (Unit {0}) PutFault). Puts a b f g piece x) (sym (outcome_err r) ∙ sym (ap outcome is)) put)

pub more_some : (a : Option (List ℕ)) (f : ℕ) (piece : List ℕ) (fault : Option PutFault) (e : PutFault) → fault ≡ Some e → PutsMore fault a a f f piece (Some e)
more_some a f piece fault e some =
    subst (λ (x : Option PutFault). PutsMore x a a f f piece (Some e)) (sym some) (refl, refl, refl)

-- ---- a token

pub holds_word : (start : Option (List ℕ)) (first : ℕ) (p : Pen) (b b' : Option (List ℕ)) (f f' : ℕ) (s s' : CodePen) (x gap : List ℕ) → Holds start first p b f s → gap ≡ gap_bytes s.gap → PutsMore s.fault b b' f f' (gap ++ x) s'.fault → f ≤ f' → toks_of s'.left.now ≡ toks_of s.left.now → toks_of s'.specifiers.now ≡ toks_of s.specifiers.now → gap_bytes s'.gap ≡ gap_after x → Holds start first (put (x ∷ []) p) b' f' s'
holds_word start first p b b' f f' s s' x gap h is more le left specifiers after = record {
  left = h.left ∙ sym left;
  specifiers = h.specifiers ∙ sym specifiers;
  gap = after ∙ sym (pending_more p.written x);
  later = omega (arith, h.later, le);
  bytes =
      subst (λ (l : List ℕ). Puts start b' first f' l (outcome s'.fault))
      (ap (λ (l : List ℕ). unfinished p.written ++ (l ++ x)) (is ∙ h.gap) ∙ sym (unfinished_more p.written x))
      (more_bytes start b b' first f f' (unfinished p.written) (gap ++ x) s.fault s'.fault h.bytes more h.later le);
}

-- ---- copying

pub take_toks : (n : ℕ) (ts : List Token) → toks_of (take n ts) ≡ take n (toks_of ts)
take_toks zero [] = refl
take_toks zero (t ∷ ts) = refl
take_toks (suc n) [] = refl
take_toks (suc n) (t ∷ ts) = ap (λ (l : List Tok). tok_of t ∷ l) (take_toks n ts)

pub drop_toks : (n : ℕ) (ts : List Token) → toks_of (drop n ts) ≡ drop n (toks_of ts)
drop_toks zero [] = refl
drop_toks zero (t ∷ ts) = refl
drop_toks (suc n) [] = refl
drop_toks (suc n) (t ∷ ts) = drop_toks n ts

-- this number of tokens are left out
pub holds_moved : (start : Option (List ℕ)) (first : ℕ) (p : Pen) (b : Option (List ℕ)) (f : ℕ) (s s' : CodePen) (n : ℕ) → Holds start first p b f s → toks_of s'.left.now ≡ drop n (toks_of s.left.now) → s'.specifiers.now ≡ s.specifiers.now → s'.gap ≡ s.gap → s'.fault ≡ s.fault → Holds start first (record p { left = drop n p.left }) b f s'
holds_moved start first p b f s s' n h left specifiers gap fault = record {
  left = ap (drop n) h.left ∙ sym left;
  specifiers = h.specifiers ∙ sym (ap toks_of specifiers);
  gap = ap gap_bytes gap ∙ h.gap;
  later = h.later;
  bytes = subst (λ (x : Option PutFault). Puts start b first f (unfinished p.written) (outcome x)) (sym fault) h.bytes;
}

-- the specifiers are noted
pub holds_noted : (start : Option (List ℕ)) (first : ℕ) (p : Pen) (b : Option (List ℕ)) (f : ℕ) (s s' : CodePen) (at : ℕ) → Holds start first p b f s → s'.left.now ≡ s.left.now → toks_of s'.specifiers.now ≡ last_item (take (before at (toks_of s.left.now)) (toks_of s.left.now)) → s'.gap ≡ s.gap → s'.fault ≡ s.fault → Holds start first (note at p) b f s'
holds_noted start first p b f s s' at h left specifiers gap fault = record {
  left = h.left ∙ sym (ap toks_of left);
  specifiers = ap (λ (ts : List Tok). last_item (take (before at ts) ts)) h.left ∙ sym specifiers;
  gap = ap gap_bytes gap ∙ h.gap;
  later = h.later;
  bytes = subst (λ (x : Option PutFault). Puts start b first f (unfinished p.written) (outcome x)) (sym fault) h.bytes;
}

pub copied : (n : ℕ) (p : Pen) (front ts : List Tok) → p.left ≡ ts → front ≡ take n ts → put (texts_of front) (record p { left = drop n p.left }) ≡ copy n p
copied n p front ts is cut = ap (λ (l : List Tok). record p { written = p.written ++ texts_of l; left = drop n p.left }) (cut ∙ sym (ap (take n) is))

-- ---- where an operand stands

pub extent_is : (e : Expression) (s : Span) → s ≡ span_of (plain.expression_of e) → s ≡ extent (probed.expression_of e)
extent_is e s is = is ∙ sym (ap span_of (expression_erases e))

-- ---- several

pub by : (a b : Pen → Pen) → a ≡ b → (start : Option (List ℕ)) (first : ℕ) (p : Pen) (o : Option (List ℕ)) (f : ℕ) (s : CodePen) → Holds start first (b p) o f s → Holds start first (a p) o f s
by a b e start first p o f s h = subst (λ (act : Pen → Pen). Holds start first (act p) o f s) (sym e) h

pub at_pen : (start : Option (List ℕ)) (first : ℕ) (p q : Pen) (o : Option (List ℕ)) (f : ℕ) (s : CodePen) → p ≡ q → Holds start first p o f s → Holds start first q o f s
at_pen start first p q o f s e h = subst (λ (r : Pen). Holds start first r o f s) e h

pub put_put : (xs ys : List (List ℕ)) (p : Pen) → put ys (put xs p) ≡ put (xs ++ ys) p
put_put xs ys p = ap (λ (l : List (List ℕ)). record p { written = l }) (append_assoc p.written xs ys)
