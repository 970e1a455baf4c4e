-- What the rows of a body open is closed, between balanced brackets of the source.
use Rattle.std.proofs.Common.{◌≡◌, ◌≤◌, ◌<◌, ◌+◌, ◌-◌, ◌⊎◌, inl, inr, ℕ, nat_lt, Bool, true, false, cond, ◌&&◌, ◌||◌, List, [], ◌∷◌, ◌++◌, Option, Some, None, codes, refl, sym, ap, subst, ◌∙◌, arith, append_assoc, append-nil}
use Rattle.std.specs.List.{AllByRecursion as Each, list_any}
use Rattle.std.specs.Str.{bytes_eq}
use Rattle.mc_span.specs.declared.span.Span.{Span}
use Rattle.mc_lex.specs.Tokens.{Tok}
use Rattle.mc_lex.proofs.Texts.{same_text, both}
use Rattle.reread_pieces.specs.declared.bracket.Bracket.{Bracket}
use Rattle.reread_pieces.specs.declared.bracket.Bracket.TheVariants as bracket
use Rattle.reread_pieces.specs.declared.piece.What.{What}
use Rattle.reread_pieces.specs.declared.piece.What.TheVariants as what
use Rattle.reread_pieces.specs.Words.{is}
use Rattle.reread_pieces.specs.Rows.{is_value, is_body}
use Rattle.mc_print.specs.Pens.{Pen}
use Rattle.reread_law_texts.specs.alike.Moves.{FollowFrom, end_of}
use Rattle.reread_law_rows.specs.inserted.Rows.{Row, Rows, row}
use Rattle.reread_law_rows.specs.inserted.Fits.{IsBalanced, nothing, other, pair, is_bracket, is_pair, EndsAt, StandsAmong, IsReturnAmong, ReturnsAmong, StartsAt}
use Rattle.reread_law_printed.specs.parts.Parts.{Parts, what_of, own, copied, upto, place_by, place_of, without_first, put, inserted}
use Rattle.reread_law_printed.specs.parts.Stands.{past_by, past, AreInOrder}
use Rattle.reread_law_printed.specs.parts.Closed.{top, below, open_after, closes_with, MayClose, AllClose}
use Rattle.reread_law_printed.proofs.Parts.Tied.{IsAlone, IsRound, Tied, none, alone, round, FitsAll, FitAll, added}
use Rattle.reread_law_printed.proofs.Parts.Tied as tied
use Rattle.reread_law_printed.proofs.Parts.Cut.{past_place, up_to, Left, left_upto, before_is, first_place, follow_after, found, not_past}
use Rattle.reread_law_printed.proofs.Parts.Runs.{token_left, of_semicolon, one_byte, last_ends, met}
use Rattle.reread_law_printed.proofs.Parts.Trace.{last_of}
use Rattle.reread_law_texts.proofs.Tokens.{is_before, not_before}

-- ---- brackets of the source alone

-- what is open after a token, where it closes nothing of others
abbrev pub own_after : What → List ℕ → List Bracket → Option (List Bracket)
own_after (what.Opening b) text u = Some (b ∷ u)
own_after what.Closing text u = cond (closes_with text (top u)) (Some (below u)) None
own_after w text u = Some u

abbrev pub and_then : Option (List Bracket) → (List Bracket → Option (List Bracket)) → Option (List Bracket)
and_then None k = None
and_then (Some u) k = k u

abbrev pub own_run : List Tok → List Bracket → Option (List Bracket)
own_run [] u = Some u
own_run (t ∷ ts) u = and_then (own_after (what_of t) t.text u) (own_run ts)

-- Such tokens leave open what was open before them.
abbrev pub Neutral : List Tok → Type 0
Neutral xs = (ts : List Tok) (u : List Bracket) → own_run (xs ++ ts) u ≡ own_run ts u

pub what_by : (t : Tok) (text : List ℕ) → t.text ≡ text → what_of t ≡ what_of (record { kind = t.kind; text = text; start = t.start })
what_by t text e = ap (λ x. what_of (record { kind = t.kind; text = x; start = t.start })) e

pub neutral_token : (t : Tok) → what_of t ≡ what.Source → Neutral (t ∷ [])
neutral_token t e ts u = ap (λ w. and_then (own_after w t.text u) (own_run ts)) e

pub neutral_both : (xs ys : List Tok) → Neutral xs → Neutral ys → Neutral (xs ++ ys)
neutral_both xs ys h k ts u = ap (λ l. own_run l u) (append_assoc xs ys ts) ∙ (h (ys ++ ts) u ∙ k ts u)

pub no_bracket : (t : Tok) → is_bracket t ≡ false → what_of t ≡ what.Source
no_bracket t = by_tests (is (codes "(") t) (is (codes ")") t) (is (codes "[") t) (is (codes "]") t) (is (codes "{") t) (is (codes "}") t)
  where
    by_tests : (a b c d e f : Bool) → (a || b || c || d || e || f) ≡ false
        → cond a (what.Opening bracket.Parenthesis) (cond c (what.Opening bracket.Square) (cond e (what.Opening bracket.Brace) (cond (b || d || f) what.Closing what.Source))) ≡ what.Source
    by_tests true b c d e f h = absurd (cc)
    by_tests false true c d e f h = absurd (cc)
    by_tests false false true d e f h = absurd (cc)
    by_tests false false false true e f h = absurd (cc)
    by_tests false false false false true f h = absurd (cc)
    by_tests false false false false false true h = absurd (cc)
    by_tests false false false false false false h = refl

pub record IsPair (a b : Tok) : Type 0 where
  pub bracket : Bracket
  pub opens : what_of a ≡ what.Opening bracket
  pub closes : what_of b ≡ what.Closing
  pub ends : closes_with b.text (Some bracket) ≡ true
  pub inner : is_body (Some bracket) ≡ false

pub of_texts : (a b : Tok) (x : Bracket) (s t : List ℕ) → is s a ≡ true → is t b ≡ true
    → what_of (record { kind = a.kind; text = s; start = a.start }) ≡ what.Opening x
    → what_of (record { kind = b.kind; text = t; start = b.start }) ≡ what.Closing
    → closes_with t (Some x) ≡ true → is_body (Some x) ≡ false → IsPair a b
of_texts a b x s t e f o c k inner = record {
  bracket = x;
  opens = what_by a s (same_text a.text s e) ∙ o;
  closes = what_by b t (same_text b.text t f) ∙ c;
  ends = ap (λ l. closes_with l (Some x)) (same_text b.text t f) ∙ k;
  inner = inner;
}

pub is_pair_of : (a b : Tok) → is_pair a b ≡ true → IsPair a b
is_pair_of a b = by_tests (is (codes "(") a) (is (codes ")") b) (is (codes "[") a) (is (codes "]") b) (is (codes "{") a) (is (codes "}") b) refl refl refl refl refl refl
  where
    by_tests : (c d e f g h : Bool) → is (codes "(") a ≡ c → is (codes ")") b ≡ d → is (codes "[") a ≡ e → is (codes "]") b ≡ f → is (codes "{") a ≡ g → is (codes "}") b ≡ h
        → (c && d || e && f || g && h) ≡ true → IsPair a b
    by_tests true true e f g h p q r s t u all = of_texts a b bracket.Parenthesis (codes "(") (codes ")") p q refl refl refl refl
    by_tests false d true true g h p q r s t u all = of_texts a b bracket.Square (codes "[") (codes "]") r s refl refl refl refl
    by_tests true false true true g h p q r s t u all = of_texts a b bracket.Square (codes "[") (codes "]") r s refl refl refl refl
    by_tests false d false f true true p q r s t u all = of_texts a b bracket.Brace (codes "{") (codes "}") t u refl refl refl refl
    by_tests false d true false true true p q r s t u all = of_texts a b bracket.Brace (codes "{") (codes "}") t u refl refl refl refl
    by_tests true false false f true true p q r s t u all = of_texts a b bracket.Brace (codes "{") (codes "}") t u refl refl refl refl
    by_tests true false true false true true p q r s t u all = of_texts a b bracket.Brace (codes "{") (codes "}") t u refl refl refl refl
    by_tests c d e f g h p q r s t u all = absurd (cc)

pub balanced : {xs : List Tok} → IsBalanced xs → Neutral xs
balanced nothing ts u = refl
balanced (other {t = t} {ts = xs} e h) ts u = neutral_token t (no_bracket t e) (xs ++ ts) u ∙ balanced h ts u
balanced (pair a b inside xs e h k) ts u =
    let p = is_pair_of a b e in
    ap (λ l. own_run l u) (append_assoc (a ∷ inside) (b ∷ xs) ts)
    ∙ (ap (λ w. and_then (own_after w a.text u) (own_run (inside ++ (b ∷ (xs ++ ts))))) p.opens
    ∙ (balanced h (b ∷ (xs ++ ts)) (p.bracket ∷ u)
    ∙ (ap (λ w. and_then (own_after w b.text (p.bracket ∷ u)) (own_run (xs ++ ts))) p.closes
    ∙ (ap (λ c. and_then (cond c (Some u) None) (own_run (xs ++ ts))) p.ends
    ∙ balanced k ts u))))

-- ---- tokens up to a place

pub up_further : (a b : ℕ) (ts : List Tok) → a ≤ b → up_to b ts ≡ up_to a ts ++ up_to b (past_place a ts)
up_further a b [] le = refl
up_further a b (t ∷ ts) le = by_test (nat_lt t.start a) refl (up_further a b ts le)
  where
    sooner : (n : ℕ) → n < a → n < b
    sooner n lt = omega (arith, lt, le)

    by_test : (c : Bool) → nat_lt t.start a ≡ c → up_to b ts ≡ up_to a ts ++ up_to b (past_place a ts)
        → up_to b (t ∷ ts) ≡ cond c (t ∷ up_to a ts) [] ++ up_to b (cond c (past_place a ts) (t ∷ ts))
    by_test true e more = ap (λ c. cond c (t ∷ up_to b ts) []) (is_before t.start b (sooner t.start (before_is t.start a e))) ∙ ap (λ l. t ∷ l) more
    by_test false e more = refl

pub up_none : (a : ℕ) (ts : List Tok) → up_to a (past_place a ts) ≡ []
up_none a [] = refl
up_none a (t ∷ ts) = by_test (nat_lt t.start a) refl (up_none a ts)
  where
    by_test : (c : Bool) → nat_lt t.start a ≡ c → up_to a (past_place a ts) ≡ [] → up_to a (cond c (past_place a ts) (t ∷ ts)) ≡ []
    by_test true e more = more
    by_test false e more = ap (λ c. cond c (t ∷ up_to a ts) []) e

up_after : (place : ℕ) (ts : List Tok) → FollowFrom place ts → up_to place ts ≡ []
up_after place [] h = refl
up_after place (t ∷ ts) h = ap (λ c. cond c (t ∷ up_to place ts) []) (not_before t.start place h.0)

pub up_start : (place : ℕ) (xs : List Tok) (t : Tok) (ts : List Tok) → FollowFrom place (xs ++ t ∷ ts) → up_to t.start (xs ++ t ∷ ts) ≡ xs
up_start place [] t ts h = ap (λ c. cond c (t ∷ up_to t.start ts) []) (not_before t.start t.start (omega arith))
up_start place (x ∷ xs) t ts h =
    let later = first_place (end_of x) xs t ts h.2 in
    let text = h.1 in
    ap (λ c. cond c (x ∷ up_to t.start (xs ++ t ∷ ts)) []) (is_before x.start t.start (omega (arith, later, text))) ∙ ap (λ l. x ∷ l) (up_start (end_of x) xs t ts h.2)

pub up_end : (place : ℕ) (xs : List Tok) (t : Tok) (ts : List Tok) → FollowFrom place (xs ++ t ∷ ts) → up_to (end_of t) (xs ++ t ∷ ts) ≡ xs ++ t ∷ []
up_end place [] t ts h =
    let text = h.1 in
    ap (λ c. cond c (t ∷ up_to (end_of t) ts) []) (is_before t.start (end_of t) (omega (arith, text))) ∙ ap (λ l. t ∷ l) (up_after (end_of t) ts h.2)
up_end place (x ∷ xs) t ts h =
    let later = first_place (end_of x) xs t ts h.2 in
    let text = h.1 in
    ap (λ c. cond c (x ∷ up_to (end_of t) (xs ++ t ∷ ts)) []) (is_before x.start (end_of t) (omega (arith, later, text))) ∙ ap (λ l. x ∷ l) (up_end (end_of x) xs t ts h.2)

-- ---- one token

abbrev pub IsOwnBracket : Bracket → Type 0
IsOwnBracket b = is_value (Some b) ≡ false

-- the brackets of the source that are open in the tokens up to a place, above those of others
pub record Frame (place : ℕ) (base u : List Bracket) (ts : List Tok) : Type 0 where
  pub run : own_run (up_to place ts) u ≡ Some []
  pub free : (is_value (top base) ≡ false) ⊎ Each (λ (t : Tok). is (codes ";") t ≡ false) (up_to place ts)
  pub own : Each IsOwnBracket u

pub record Step (base u v : List Bracket) (w : What) (text : List ℕ) : Type 0 where
  pub may : MayClose (u ++ base) w (text ∷ [])
  pub after : open_after (u ++ base) w ≡ v ++ base
  pub own : Each IsOwnBracket v

and_right : (a b : Bool) → b ≡ false → (a && b) ≡ false
and_right true b e = e
and_right false b e = refl

not_value : (base u : List Bracket) (text : List ℕ) → Each IsOwnBracket u → (is_value (top base) ≡ false) ⊎ (bytes_eq text (codes ";") ≡ false)
    → (bytes_eq text (codes ";") && is_value (top (u ++ base))) ≡ false
not_value base (b ∷ u) text own free = and_right (bytes_eq text (codes ";")) (is_value (Some b)) own.0
not_value base [] text own (inl e) = and_right (bytes_eq text (codes ";")) (is_value (top base)) e
not_value base [] text own (inr e) = ap (λ c. c && is_value (top base)) e

pub some_is : (u v : List Bracket) → Some u ≡ Some v → u ≡ v
some_is u v e = cc

pub none_not : (v : List Bracket) → None ≡ Some v → ⊥
none_not v e = cc

closing_step : (base u v : List Bracket) (text : List ℕ) → Each IsOwnBracket u → own_after what.Closing text u ≡ Some v → Step base u v what.Closing text
closing_step base [] v text own e = absurd (none_not v e)
closing_step base (b ∷ u) v text own e = by_test (closes_with text (Some b)) refl e
  where
    by_test : (c : Bool) → closes_with text (Some b) ≡ c → cond c (Some u) None ≡ Some v → Step base (b ∷ u) v what.Closing text
    by_test true f e = record { may = f; after = ap (λ l. l ++ base) (some_is u v e); own = subst (Each IsOwnBracket) (some_is u v e) own.1 }
    by_test false f e = absurd (none_not v e)

source_step : (base u v : List Bracket) (text : List ℕ) → Each IsOwnBracket u → (is_value (top base) ≡ false) ⊎ (bytes_eq text (codes ";") ≡ false) → Some u ≡ Some v
    → Step base u v what.Source text
source_step base u v text own free e =
    record { may = not_value base u text own free; after = ap (λ l. l ++ base) (some_is u v e); own = subst (Each IsOwnBracket) (some_is u v e) own }

opening_step : (base u v : List Bracket) (text : List ℕ) (b : Bracket) → IsOwnBracket b → ((bs : List Bracket) → MayClose bs (what.Opening b) (text ∷ []))
    → Each IsOwnBracket u → Some (b ∷ u) ≡ Some v → Step base u v (what.Opening b) text
opening_step base u v text b o may own e =
    let same = some_is (b ∷ u) v e in
    record { may = may (u ++ base); after = ap (λ l. l ++ base) same; own = subst (Each IsOwnBracket) same (o, own) }

pub token_step : (base u v : List Bracket) (t : Tok) → Each IsOwnBracket u → (is_value (top base) ≡ false) ⊎ (is (codes ";") t ≡ false) → own_after (what_of t) t.text u ≡ Some v
    → Step base u v (what_of t) t.text
token_step base u v t own free = by_tests (is (codes "(") t) (is (codes "[") t) (is (codes "{") t) (is (codes ")") t || is (codes "]") t || is (codes "}") t)
  where
    by_tests : (a b c d : Bool)
        → own_after (cond a (what.Opening bracket.Parenthesis) (cond b (what.Opening bracket.Square) (cond c (what.Opening bracket.Brace) (cond d what.Closing what.Source)))) t.text u ≡ Some v
        → Step base u v (cond a (what.Opening bracket.Parenthesis) (cond b (what.Opening bracket.Square) (cond c (what.Opening bracket.Brace) (cond d what.Closing what.Source)))) t.text
    by_tests true b c d e = opening_step base u v t.text bracket.Parenthesis refl (λ bs. tt) own e
    by_tests false true c d e = opening_step base u v t.text bracket.Square refl (λ bs. tt) own e
    by_tests false false true d e = opening_step base u v t.text bracket.Brace refl (λ bs. tt) own e
    by_tests false false false true e = closing_step base u v t.text own e
    by_tests false false false false e = source_step base u v t.text own free e

-- the tokens of the source up to a place
pub close_upto : (place to : ℕ) (base u : List Bracket) (next : Parts) (ts : List Tok) → place ≤ to → Frame to base u ts
    → ((v : List Bracket) → Frame to base v (past_place place ts) → AllClose (v ++ base) (next (past_place place ts)))
    → AllClose (u ++ base) (upto place next ts)
close_upto place to base u next [] le f k = k u f
close_upto place to base u next (t ∷ ts) le f k = by_test (nat_lt t.start place) refl k (λ v f k. close_upto place to base v next ts le f k)
  where
    inside : t.start < place → up_to to (t ∷ ts) ≡ t ∷ up_to to ts
    inside lt = ap (λ c. cond c (t ∷ up_to to ts) []) (is_before t.start to (omega (arith, lt, le)))

    free_first : (is_value (top base) ≡ false) ⊎ Each (λ (t : Tok). is (codes ";") t ≡ false) (t ∷ up_to to ts) → (is_value (top base) ≡ false) ⊎ (is (codes ";") t ≡ false)
    free_first (inl e) = inl e
    free_first (inr h) = inr h.0

    free_later : (is_value (top base) ≡ false) ⊎ Each (λ (t : Tok). is (codes ";") t ≡ false) (t ∷ up_to to ts) → (is_value (top base) ≡ false) ⊎ Each (λ (t : Tok). is (codes ";") t ≡ false) (up_to to ts)
    free_later (inl e) = inl e
    free_later (inr h) = inr h.1

    by_after : (o : Option (List Bracket)) → own_after (what_of t) t.text u ≡ o → and_then o (own_run (up_to to ts)) ≡ Some []
        → (is_value (top base) ≡ false) ⊎ Each (λ (t : Tok). is (codes ";") t ≡ false) (t ∷ up_to to ts)
        → ((v : List Bracket) → Frame to base v ts → AllClose (v ++ base) (upto place next ts))
        → AllClose (u ++ base) (copied t ∷ upto place next ts)
    by_after None e run free more = absurd (none_not [] run)
    by_after (Some v) e run free more =
        let s = token_step base u v t f.own (free_first free) e in
        (s.may, subst (λ bs. AllClose bs (upto place next ts)) (sym s.after) (more v (record { run = run; free = free_later free; own = s.own })))

    by_test : (c : Bool) → nat_lt t.start place ≡ c
        → ((v : List Bracket) → Frame to base v (cond c (past_place place ts) (t ∷ ts)) → AllClose (v ++ base) (next (cond c (past_place place ts) (t ∷ ts))))
        → ((v : List Bracket) → Frame to base v ts → ((v : List Bracket) → Frame to base v (past_place place ts) → AllClose (v ++ base) (next (past_place place ts))) → AllClose (v ++ base) (upto place next ts))
        → AllClose (u ++ base) (cond c (copied t ∷ upto place next ts) (next (t ∷ ts)))
    by_test true e k more =
        let here = inside (before_is t.start place e) in
        by_after (own_after (what_of t) t.text u) refl (subst (λ l. own_run l u ≡ Some []) here f.run)
        (subst (λ l. (is_value (top base) ≡ false) ⊎ Each (λ (t : Tok). is (codes ";") t ≡ false) l) here f.free) (λ v g. more v g k)
    by_test false e k more = k u f

-- ---- the order of rows

abbrev pub end_from : ℕ → List Row → ℕ
end_from from [] = from
end_from from (r ∷ rows) = end_from (past r) rows

past_place_le : (w : What) (span : Span) → place_by w span ≤ past_by w span
past_place_le what.Value span = omega arith
past_place_le (what.ValueEnd b) span = omega arith
past_place_le w span = omega arith

order_low : (from to : ℕ) (rows : List Row) → AreInOrder from rows to → from ≤ to
order_low from to [] h = h
order_low from to (r ∷ rows) h =
    let first = h.0 in
    let here = past_place_le r.what r.span in
    let later = order_low (past r) to rows h.1 in
    omega (arith, first, here, later)

pub order_end : (from to : ℕ) (rows : List Row) → AreInOrder from rows to → end_from from rows ≤ to
order_end from to [] h = h
order_end from to (r ∷ rows) h = order_end (past r) to rows h.1

order_left : (from to : ℕ) (xs ys : List Row) → AreInOrder from (xs ++ ys) to → AreInOrder from xs to
order_left from to [] ys h = order_low from to ys h
order_left from to (x ∷ xs) ys h = (h.0, order_left (past x) to xs ys h.1)

order_right : (from to : ℕ) (xs ys : List Row) → AreInOrder from (xs ++ ys) to → AreInOrder (end_from from xs) ys to
order_right from to [] ys h = h
order_right from to (x ∷ xs) ys h = order_right (past x) to xs ys h.1

order_next : (from to : ℕ) (xs : List Row) (r : Row) (ys : List Row) → AreInOrder from (xs ++ r ∷ ys) to → AreInOrder from xs (place_of r)
order_next from to [] r ys h = h.0
order_next from to (x ∷ xs) r ys h = (h.0, order_next (past x) to xs r ys h.1)

end_both : (from : ℕ) (xs ys : List Row) → end_from from (xs ++ ys) ≡ end_from (end_from from xs) ys
end_both from [] ys = refl
end_both from (x ∷ xs) ys = end_both (past x) xs ys

module _ (P : Row → Type 0) where
  rows_left : (xs ys : List Row) → Each P (xs ++ ys) → Each P xs
  rows_left [] ys h = tt
  rows_left (x ∷ xs) ys h = (h.0, rows_left xs ys h.1)

  rows_right : (xs ys : List Row) → Each P (xs ++ ys) → Each P ys
  rows_right [] ys h = h
  rows_right (x ∷ xs) ys h = rows_right xs ys h.1

tokens_right : (P : Tok → Type 0) (xs ys : List Tok) → Each P (xs ++ ys) → Each P ys
tokens_right P [] ys h = h
tokens_right P (x ∷ xs) ys h = tokens_right P xs ys h.1

-- ---- the rows of a body

module _ (tokens : List Tok) (follow : FollowFrom 0 tokens) where
  -- neutral tokens in front are passed
  skipped : (to : ℕ) (base u : List Bracket) (xs ts us : List Tok) → Neutral xs → up_to to ts ≡ xs ++ up_to to us → Frame to base u ts → Frame to base u us
  skipped to base u xs ts us n e f = record {
    run = sym (n (up_to to us) u) ∙ (ap (λ l. own_run l u) (sym e) ∙ f.run);
    free = free f.free;
    own = f.own;
  }
    where
      free : (is_value (top base) ≡ false) ⊎ Each (λ (t : Tok). is (codes ";") t ≡ false) (up_to to ts) → (is_value (top base) ≡ false) ⊎ Each (λ (t : Tok). is (codes ";") t ≡ false) (up_to to us)
      free (inl a) = inl a
      free (inr h) = inr (tokens_right (λ (t : Tok). is (codes ";") t ≡ false) xs (up_to to us) (subst (Each (λ (t : Tok). is (codes ";") t ≡ false)) e h))

  -- an empty frame for neutral tokens
  pub begun : (to : ℕ) (base : List Bracket) (ts : List Tok) → Neutral (up_to to ts)
      → (is_value (top base) ≡ false) ⊎ Each (λ (t : Tok). is (codes ";") t ≡ false) (up_to to ts) → Frame to base [] ts
  begun to base ts n free = record {
    run = ap (λ l. own_run l []) (sym (append-nil (up_to to ts))) ∙ n [] [];
    free = free;
    own = tt;
  }

  -- at its end nothing is open
  pub finished : (to : ℕ) (base v : List Bracket) (ts : List Tok) → up_to to ts ≡ [] → Frame to base v ts → v ≡ []
  finished to base v ts e f = some_is v [] (sym (ap (λ l. own_run l v) e) ∙ f.run)

  abbrev pub Goal : (List Row → List Row) → Type 0
  Goal f =
      (type : List (List ℕ)) (next : Parts) (later : List Row) (to : ℕ) (base u : List Bracket) (from : ℕ) (ts : List Tok)
      → Each (FitAll tokens) (f []) → AreInOrder from (f []) to → Left tokens from ts → Frame to base u ts
      → ((v : List Bracket) (l : List Tok) → Left tokens (end_from from (f [])) l → Frame to base v l → AllClose (v ++ base) (inserted type later next l))
      → AllClose (u ++ base) (inserted type (f later) next ts)

  close_none : Goal (λ later. later)
  close_none type next later to base u from ts fit order left frame k = k u ts left frame

  close_both : (f g : Rows) (act also : Pen → Pen) → Tied f act → Tied g also → Goal f → Goal g → Goal (λ later. f (g later))
  close_both f g act also t s hf hg type next later to base u from ts fit order left frame k =
      let e : f (g []) ≡ f [] ++ g [] = added t (g []) in
      let fits : Each (FitAll tokens) (f [] ++ g []) = subst (Each (FitAll tokens)) e fit in
      let ordered : AreInOrder from (f [] ++ g []) to = subst (λ l. AreInOrder from l to) e order in
      let end : end_from from (f (g [])) ≡ end_from (end_from from (f [])) (g []) = ap (end_from from) e ∙ end_both from (f []) (g []) in
      hf type next (g later) to base u from ts (rows_left (FitAll tokens) (f []) (g []) fits) (order_left from to (f []) (g []) ordered) left frame
      (λ v l h fr.
      hg type next later to base v (end_from from (f [])) l (rows_right (FitAll tokens) (f []) (g []) fits) (order_right from to (f []) (g []) ordered) h fr
      (λ w m h fr. k w m (subst (λ n. Left tokens n m) (sym end) h) fr))

  -- a row that opens nothing
  close_row : (w : What) (span : Span) → place_by w span ≡ past_by w span → ((bs : List Bracket) (type : List (List ℕ)) (next : Parts) (l : List Tok) → AllClose bs (next l) → AllClose bs (put type w next l)) → Goal (row w span)
  close_row w span same single type next later to base u from ts fit order left frame k =
      let place = order.0 in
      let end = order.1 in
      close_upto (place_by w span) to base u (put type w (inserted type later next)) ts (omega (arith, same, end)) frame
      (λ v f. single (v ++ base) type (inserted type later next) (past_place (place_by w span) ts)
      (k v (past_place (place_by w span) ts) (subst (λ n. Left tokens n (past_place (place_by w span) ts)) same (left_upto tokens ts from (place_by w span) left place)) f))

  close_alone : (w : What) (span : Span) → IsAlone w → Goal (row w span)
  close_alone _ span (tied.declaration {b = b}) = close_row (what.Declaration b) span refl (λ bs type next l h. (tt, h))
  close_alone _ span (tied.label {r = r} {b = b}) = close_row (what.Label r b) span refl (λ bs type next l h. (tt, h))
  close_alone _ span (tied.absent {r = r} {b = b}) = close_row (what.Default r b) span refl (λ bs type next l h. (tt, h))

  -- what stands between two places, from the first token there on
  record Place (start end : ℕ) (ts : List Tok) : Type 0 where
    pub inside : List Tok
    pub until : up_to end (past_place start ts) ≡ inside
    pub balanced : Neutral inside

  here_is : (ahead inside after : List Tok) (n : ℕ) → tokens ≡ (ahead ++ inside) ++ after → StartsAt n inside → past_place n tokens ≡ inside ++ after
  here_is ahead [] after n e s = absurd s
  here_is ahead (t ∷ ts) after n e s =
      let whole : tokens ≡ ahead ++ t ∷ (ts ++ after) = e ∙ append_assoc ahead (t ∷ ts) after in
      ap (past_place n) whole
      ∙ (ap (λ k. past_place k (ahead ++ t ∷ (ts ++ after))) (sym s) ∙ found 0 ahead t (ts ++ after) (subst (FollowFrom 0) whole follow))

  record Follows (ts : List Tok) : Type 0 where
    pub place : ℕ
    pub follows : FollowFrom place ts

  suffix : (place : ℕ) (xs ys : List Tok) → FollowFrom place (xs ++ ys) → Follows ys
  suffix place [] ys h = record { place = place; follows = h }
  suffix place (x ∷ xs) ys h = suffix (end_of x) xs ys h.2

  until_is : (place n : ℕ) (inside after : List Tok) → FollowFrom place (inside ++ after) → EndsAt n inside → up_to n (inside ++ after) ≡ inside
  until_is place n inside after h ends =
      let l = last_of n inside ends in
      let whole : inside ++ after ≡ l.front ++ l.token ∷ after = ap (λ i. i ++ after) l.all ∙ append_assoc l.front (l.token ∷ []) after in
      ap (up_to n) whole
      ∙ (ap (λ k. up_to k (l.front ++ l.token ∷ after)) (sym l.end)
      ∙ (up_end place l.front l.token after (subst (FollowFrom place) whole h) ∙ sym l.all))

  after_ahead : (q : List Tok) (inside after : List Tok) → tokens ≡ (q ++ inside) ++ after → Follows (inside ++ after)
  after_ahead q inside after e = suffix 0 q (inside ++ after) (subst (FollowFrom 0) (e ∙ append_assoc q inside after) follow)

  standing : (span : Span) (q : StandsAmong tokens span) → Neutral q.inside → (from : ℕ) (ts : List Tok) → Left tokens from ts → from ≤ span.start → Place span.start span.end ts
  standing span q n from ts left le =
      let here : past_place span.start ts ≡ q.inside ++ q.after = sym (left span.start le) ∙ here_is q.before q.inside q.after span.start q.all q.start in
      let follows = after_ahead q.before q.inside q.after q.all in
      record {
        inside = q.inside;
        until = ap (up_to span.end) here ∙ until_is follows.place span.end q.inside q.after follows.follows q.end;
        balanced = n;
      }

  -- something that is opened and closed
  module _ (w v : What) (x : Bracket) (span : Span)
      (same : past_by w span ≡ place_by w span) (end : past_by v span ≡ place_by v span)
      (opens : (bs : List Bracket) (type : List (List ℕ)) (next : Parts) (l : List Tok) → AllClose (x ∷ bs) (next l) → AllClose bs (put type w next l))
      (closes : (bs : List Bracket) (type : List (List ℕ)) (next : Parts) (l : List Tok) → AllClose bs (next l) → AllClose (x ∷ bs) (put type v next l))
      (free : is_value (Some x) ≡ false)
      (place : FitsAll tokens w span → (from : ℕ) (ts : List Tok) → Left tokens from ts → from ≤ place_by w span → Place (place_by w span) (place_by v span) ts) where
    abbrev last_row : Row
    last_row = record { what = v; span = span; end = span.end }

    close_round : (f : Rows) (act : Pen → Pen) → Tied f act → Goal f → Goal (λ later. row w span (f (row v span later)))
    close_round f act t hf type next later to base u from ts fit order left frame k =
        let s : ℕ = place_by w span in
        let e : ℕ = place_by v span in
        let split : f (last_row ∷ []) ≡ f [] ++ last_row ∷ [] = added t (last_row ∷ []) in
        let fits : Each (FitAll tokens) (f [] ++ last_row ∷ []) = subst (Each (FitAll tokens)) split fit.1 in
        let ordered : AreInOrder (past_by w span) (f [] ++ last_row ∷ []) to = subst (λ l. AreInOrder (past_by w span) l to) split order.1 in
        let within : AreInOrder (past_by w span) (f []) e = order_next (past_by w span) to (f []) last_row [] ordered in
        let right = order_right (past_by w span) to (f []) (last_row ∷ []) ordered in
        let from_place = order.0 in
        let inner_le = order_low (past_by w span) e (f []) within in
        let end_le : past_by v span ≤ to = right.1 in
        let mid_le = right.0 in
        let s_to : s ≤ to = omega (arith, same, end, inner_le, end_le) in
        let s_e : s ≤ e = omega (arith, same, inner_le) in
        let e_to : e ≤ to = omega (arith, end, end_le) in
        let front : List Tok = past_place s ts in
        let pl = place fit.0 from ts left from_place in
        let left_front : Left tokens s front = left_upto tokens ts from s left from_place in
        close_upto s to base u (put type w (inserted type (f (last_row ∷ later)) next)) ts s_to frame
        (λ z fr. opens (z ++ base) type (inserted type (f (last_row ∷ later)) next) front
        (hf type next (last_row ∷ later) e (x ∷ (z ++ base)) [] (past_by w span) front (rows_left (FitAll tokens) (f []) (last_row ∷ []) fits) within
        (subst (λ n. Left tokens n front) (sym same) left_front)
        (begun e (x ∷ (z ++ base)) front (subst Neutral (sym pl.until) pl.balanced) (inl free))
        (λ y l h fr2.
        close_upto e e (x ∷ (z ++ base)) y (put type v (inserted type later next)) l (omega arith) fr2
        (λ a fr3.
        subst (λ b. AllClose (b ++ (x ∷ (z ++ base))) (put type v (inserted type later next) (past_place e l))) (sym (finished e (x ∷ (z ++ base)) a (past_place e l) (up_none e l) fr3))
        (closes (z ++ base) type (inserted type later next) (past_place e l)
        (k z (past_place e l)
        (subst (λ n. Left tokens n (past_place e l)) (sym (ap (end_from (past_by w span)) split ∙ (end_both (past_by w span) (f []) (last_row ∷ []) ∙ end)))
        (left_upto tokens l (end_from (past_by w span) (f [])) e h mid_le))
        (skipped to base z pl.inside front (past_place e l) pl.balanced
        (up_further e to front e_to ∙ (ap (λ i. i ++ up_to to (past_place e front)) pl.until ∙ ap (λ i. pl.inside ++ up_to to i) (sym (left_front e s_e) ∙ h e mid_le)))
        fr)))))))

  -- a `return` is neutral
  source_of : (t : Tok) (text : List ℕ) → is text t ≡ true → what_of (record { kind = t.kind; text = text; start = t.start }) ≡ what.Source → what_of t ≡ what.Source
  source_of t text e f = what_by t text (same_text t.text text e) ∙ f

  return_neutral : (span : Span) (value : List Tok) (r : IsReturnAmong tokens span value) → Neutral value → Neutral r.place.inside
  return_neutral span value r n =
      subst Neutral (sym r.tokens_are)
      (neutral_both (r.word ∷ []) (value ++ r.semicolon ∷ []) (neutral_token r.word (source_of r.word (codes "return") r.word_is refl))
      (neutral_both value (r.semicolon ∷ []) n (neutral_token r.semicolon (source_of r.semicolon (codes ";") r.semicolon_is refl))))

  none_of : (xs : List Tok) → list_any (is (codes ";")) xs ≡ false → Each (λ (t : Tok). is (codes ";") t ≡ false) xs
  none_of [] h = tt
  none_of (t ∷ xs) h = let two = neither (is (codes ";") t) (list_any (is (codes ";")) xs) h in (two.0, none_of xs two.1)
    where
      neither : (a b : Bool) → (a || b) ≡ false → (a ≡ false) × (b ≡ false)
      neither true b e = absurd (cc)
      neither false b e = (refl, e)

  -- the value of a `return`
  record Value (span : Span) (ts : List Tok) : Type 0 where
    pub inside : List Tok
    pub value : List Tok
    pub until : up_to span.end (past_place span.start ts) ≡ inside
    pub until_value : up_to (span.end - 1) (without_first true (past_place span.start ts)) ≡ value
    pub neutral : Neutral inside
    pub balanced : Neutral value
    pub free : Each (λ (t : Tok). is (codes ";") t ≡ false) value

  value_at : (span : Span) (q : ReturnsAmong tokens span) (from : ℕ) (ts : List Tok) → Left tokens from ts → from ≤ span.start → Value span ts
  value_at span q from ts left le =
      let r = q.stands in
      let n : Neutral q.value = balanced q.balanced in
      let pl = standing span r.place (return_neutral span q.value r n) from ts left le in
      let start : StartsAt span.start r.place.inside = r.place.start in
      let here : past_place span.start ts ≡ r.word ∷ (q.value ++ r.semicolon ∷ r.place.after) =
      sym (left span.start le)
      ∙ (here_is r.place.before r.place.inside r.place.after span.start r.place.all start
      ∙ (ap (λ i. i ++ r.place.after) r.tokens_are ∙ ap (λ l. r.word ∷ l) (append_assoc q.value (r.semicolon ∷ []) r.place.after))) in
      let later : List Tok = q.value ++ r.semicolon ∷ r.place.after in
      let end : end_of r.semicolon ≡ span.end = last_ends span.end (r.word ∷ q.value) r.semicolon (subst (EndsAt span.end) r.tokens_are r.place.end) in
      let text = one_byte r.semicolon r.semicolon_is in
      let place : r.semicolon.start ≡ span.end - 1 = omega (arith, end, text) in
      let whole : tokens ≡ (r.place.before ++ r.word ∷ []) ++ later =
      r.place.all
      ∙ (ap (λ i. (r.place.before ++ i) ++ r.place.after) r.tokens_are
      ∙ (append_assoc r.place.before (r.word ∷ (q.value ++ r.semicolon ∷ [])) r.place.after
      ∙ (ap (λ l. r.place.before ++ r.word ∷ l) (append_assoc q.value (r.semicolon ∷ []) r.place.after)
      ∙ sym (append_assoc r.place.before (r.word ∷ []) later)))) in
      let follows = suffix 0 (r.place.before ++ r.word ∷ []) later (subst (FollowFrom 0) whole follow) in
      record {
        inside = pl.inside;
        value = q.value;
        until = pl.until;
        until_value = ap (λ l. up_to (span.end - 1) (without_first true l)) here ∙ (ap (λ k. up_to k later) (sym place) ∙ up_start follows.place q.value r.semicolon r.place.after follows.follows);
        neutral = pl.balanced;
        balanced = n;
        free = none_of q.value q.one;
      }

  -- after its `;`
  after_end : (span : Span) (q : ReturnsAmong tokens span) (from : ℕ) (l : List Tok) → Left tokens from l → from ≤ span.end - 1
      → past_place span.end (without_first true (past_place (span.end - 1) l)) ≡ without_first true (past_place (span.end - 1) l)
  after_end span q from l left le =
      let s = of_semicolon tokens follow span q.value q.stands in
      let e = token_left tokens follow l from (span.end - 1) left le s.0 in
      let follows : FollowFrom (end_of s.0.token) s.0.rest = follow_after 0 s.0.ahead s.0.token s.0.rest (subst (FollowFrom 0) s.0.all follow) in
      let rest : past_place span.end s.0.rest ≡ s.0.rest = not_past span.end s.0.rest (subst (λ n. FollowFrom n s.0.rest) s.2 follows) in
      subst (λ l. past_place span.end (without_first true l) ≡ without_first true l) (sym e) rest

  close_value : (b : ℕ) (span : Span) (f : Rows) (act : Pen → Pen) → Tied f act → Goal f → Goal (λ later. row what.Value span (f (row (what.ValueEnd b) span later)))
  close_value b span f act t hf type next later to base u from ts fit order left frame k =
      let last_row : Row = record { what = what.ValueEnd b; span = span; end = span.end } in
      let e : ℕ = span.end - 1 in
      let split : f (last_row ∷ []) ≡ f [] ++ last_row ∷ [] = added t (last_row ∷ []) in
      let fits : Each (FitAll tokens) (f [] ++ last_row ∷ []) = subst (Each (FitAll tokens)) split fit.1 in
      let ordered : AreInOrder (span.start + 6) (f [] ++ last_row ∷ []) to = subst (λ l. AreInOrder (span.start + 6) l to) split order.1 in
      let within : AreInOrder (span.start + 6) (f []) e = order_next (span.start + 6) to (f []) last_row [] ordered in
      let right = order_right (span.start + 6) to (f []) (last_row ∷ []) ordered in
      let from_place = order.0 in
      let inner_le = order_low (span.start + 6) e (f []) within in
      let end_le : span.end ≤ to = right.1 in
      let mid_le = right.0 in
      let s_to : span.start ≤ to = omega (arith, inner_le, end_le) in
      let s_e : span.start ≤ span.end = omega (arith, inner_le) in
      let front : List Tok = past_place span.start ts in
      let pl = value_at span fit.0 from ts left from_place in
      let left_front : Left tokens span.start front = left_upto tokens ts from span.start left from_place in
      let left_value = (met tokens follow what.Value span ts from fit.0 left from_place).1 in
      close_upto span.start to base u (put type what.Value (inserted type (f (last_row ∷ later)) next)) ts s_to frame
      (λ z fr.
      let base2 : List Bracket = bracket.Value ∷ (z ++ base) in (
        tt,
        hf type next (last_row ∷ later) e base2 [] (span.start + 6) (without_first true front) (rows_left (FitAll tokens) (f []) (last_row ∷ []) fits) within left_value
            (begun e base2 (without_first true front) (subst Neutral (sym pl.until_value) pl.balanced) (inr (subst (Each (λ (t : Tok). is (codes ";") t ≡ false)) (sym pl.until_value) pl.free)))
            (λ y l h fr2.
            close_upto e e base2 y (put type (what.ValueEnd b) (inserted type later next)) l (omega arith) fr2
            (λ a fr3.
            let done : List Tok = without_first true (past_place e l) in
            let left_done = (met tokens follow (what.ValueEnd b) span l (end_from (span.start + 6) (f [])) fit.0 h mid_le).1 in
            let same : past_place span.end front ≡ done =
            sym (left_front span.end s_e) ∙ (left_done span.end (omega arith) ∙ after_end span fit.0 (end_from (span.start + 6) (f [])) l h mid_le) in
            subst (λ b2. AllClose (b2 ++ base2) (put type (what.ValueEnd b) (inserted type later next) (past_place e l))) (sym (finished e base2 a (past_place e l) (up_none e l) fr3)) (
              refl,
              k z done
                  (subst (λ n. Left tokens n done) (sym (ap (end_from (span.start + 6)) split ∙ end_both (span.start + 6) (f []) (last_row ∷ []))) left_done)
                  (skipped to base z pl.inside front done pl.neutral
                  (up_further span.end to front end_le ∙ (ap (λ i. i ++ up_to to (past_place span.end front)) pl.until ∙ ap (λ i. pl.inside ++ up_to to i) same)) fr),
            ))),
      ))

  close_pair : (w v : What) (span : Span) (f : Rows) (act : Pen → Pen) → IsRound w v → Tied f act → Goal f → Goal (λ later. row w span (f (row v span later)))
  close_pair _ _ span f act (tied.statement {b = b}) t h =
      close_round (what.Statement b) what.StatementEnd bracket.Statement span refl refl (λ bs type next l k. (tt, k)) (λ bs type next l k. (refl, k)) refl
      (λ q from ts left le. standing span q.place (balanced q.balanced) from ts left le) f act t h
  close_pair _ _ span f act (tied.value {b = b}) t h = close_value b span f act t h
  close_pair _ _ span f act (tied.bare {b = b}) t h =
      close_round (what.Return b) what.ReturnEnd bracket.Exit span refl refl (λ bs type next l k. (tt, k)) (λ bs type next l k. (refl, k)) refl
      (λ q from ts left le. standing span q.place (return_neutral span [] q (λ ts u. refl)) from ts left le) f act t h
  close_pair _ _ span f act (tied.decision {r = r} {base = base}) t h =
      close_round (what.Decision r base) what.OperandEnd bracket.Operand span refl refl (λ bs type next l k. (tt, k)) (λ bs type next l k. (refl, k)) refl
      (λ q from ts left le. standing span q.place (balanced q.balanced) from ts left le) f act t h
  close_pair _ _ span f act (tied.condition {r = r} {t = on_true} {f = on_false}) t h =
      close_round (what.Condition r on_true on_false) what.OperandEnd bracket.Operand span refl refl (λ bs type next l k. (tt, k)) (λ bs type next l k. (refl, k)) refl
      (λ q from ts left le. standing span q.place (balanced q.balanced) from ts left le) f act t h
  close_pair _ _ span f act (tied.switch {r = r}) t h =
      close_round (what.Switch r) what.OperandEnd bracket.Operand span refl refl (λ bs type next l k. (tt, k)) (λ bs type next l k. (refl, k)) refl
      (λ q from ts left le. standing span q.place (balanced q.balanced) from ts left le) f act t h

  pub close_rows : {f : Rows} {act : Pen → Pen} → Tied f act → Goal f
  close_rows none = close_none
  close_rows (tied.both f g act also t u) = close_both f g act also t u (close_rows t) (close_rows u)
  close_rows (alone w span i) = close_alone w span i
  close_rows (round w v span f act i t) = close_pair w v span f act i t (close_rows t)
