-- Tokens before a place and after it, in a list of tokens that follow each other.
use Rattle.std.proofs.Common.{◌≡◌, ◌≤◌, ◌<◌, ℕ, Bool, List, [], ◌∷◌, ◌++◌, refl, sym, ap, subst, ◌∙◌, arith, append_assoc}
use Rattle.std.proofs.lemmas.List.{append_cancel_right}
use Rattle.mc_span.specs.declared.span.Span.{Span}
use Rattle.mc_lex.specs.Tokens.{Tok}
use Rattle.reread_law_texts.specs.alike.Moves.{FollowFrom, end_of}
use Rattle.reread_law_rows.specs.inserted.Fits.{StartsAt, EndsAt, StandsAmong, last_is, first_is}
use Rattle.reread_law_printed.proofs.Parts.Cut.{past_place, found, beyond, not_past, follow_after}
use Rattle.reread_law_printed.proofs.Parts.Trace.{FirstAt, last_end, last_of}

-- ---- the last of some tokens

pub last_snoc : (test : Tok → Bool) (xs : List Tok) (t : Tok) → last_is test (xs ++ t ∷ []) ≡ test t
last_snoc test [] t = refl
last_snoc test (x ∷ []) t = refl
last_snoc test (x ∷ y ∷ xs) t = last_snoc test (y ∷ xs) t

pub end_snoc : (xs : List Tok) (t : Tok) → last_end (xs ++ t ∷ []) ≡ end_of t
end_snoc [] t = refl
end_snoc (x ∷ []) t = refl
end_snoc (x ∷ y ∷ xs) t = end_snoc (y ∷ xs) t

no_end : (n : ℕ) → 0 < n → n ≡ 0 → ⊥
no_end n lt e = omega (arith, lt, e)

ends_last : (xs : List Tok) → 0 < last_end xs → EndsAt (last_end xs) xs
ends_last [] lt = no_end 0 lt refl
ends_last (x ∷ []) lt = refl
ends_last (x ∷ y ∷ xs) lt = ends_last (y ∷ xs) lt

pub passed_before : (place : ℕ) (xs : List Tok) (t : Tok) (ts : List Tok) → FollowFrom place (xs ++ t ∷ ts) → last_end xs ≤ t.start
passed_before place [] t ts h = omega arith
passed_before place (x ∷ []) t ts h = let later = h.2 in later.0
passed_before place (x ∷ y ∷ xs) t ts h = passed_before (end_of x) (y ∷ xs) t ts h.2

-- ---- the first of some tokens

pub first_front : (n : ℕ) (text : List ℕ) (xs ys : List Tok) → StartsAt n xs → first_is text (xs ++ ys) ≡ first_is text xs
first_front n text [] ys h = absurd h
first_front n text (x ∷ xs) ys h = refl

first_joined : (n : ℕ) (xs ys : List Tok) → StartsAt n xs → FirstAt n (xs ++ ys)
first_joined n [] ys h = absurd h
first_joined n (x ∷ xs) ys h = h

pub same_start : (a b : ℕ) (ts : List Tok) → FirstAt a ts → FirstAt b ts → a ≡ b
same_start a b [] h k = absurd h
same_start a b (t ∷ ts) h k = sym h ∙ k

record Suffix (ts : List Tok) : Type 0 where
  pub from : ℕ
  pub follow : FollowFrom from ts

suffix : (place : ℕ) (xs ys : List Tok) → FollowFrom place (xs ++ ys) → Suffix ys
suffix place [] ys h = record { from = place; follow = h }
suffix place (x ∷ xs) ys h = suffix (end_of x) xs ys h.2

starts_sooner : (place start end : ℕ) (xs ys : List Tok) → FollowFrom place (xs ++ ys) → StartsAt start xs → EndsAt end xs → start < end
starts_sooner place start end [] ys h s e = absurd s
starts_sooner place start end (x ∷ []) ys h s e = let text = h.1 in omega (arith, text, s, e)
starts_sooner place start end (x ∷ y ∷ xs) ys h s e =
    let text = h.1 in
    let later = h.2 in
    let next : end_of x ≤ y.start = later.0 in
    let more = starts_sooner (end_of x) y.start end (y ∷ xs) ys later refl e in
    omega (arith, text, s, next, more)

-- ---- one place, and one list

same_place : (n : ℕ) (xs ts ys us : List Tok) → FollowFrom 0 (xs ++ ts) → xs ++ ts ≡ ys ++ us → FirstAt n ts → FirstAt n us → (xs ≡ ys) × (ts ≡ us)
same_place n xs [] ys us h e f g = absurd f
same_place n xs (t ∷ ts) ys [] h e f g = absurd g
same_place n xs (t ∷ ts) ys (u ∷ us) h e f g =
    let one : past_place n (xs ++ t ∷ ts) ≡ t ∷ ts = subst (λ n. past_place n (xs ++ t ∷ ts) ≡ t ∷ ts) f (found 0 xs t ts h) in
    let two : past_place n (ys ++ u ∷ us) ≡ u ∷ us = subst (λ n. past_place n (ys ++ u ∷ us) ≡ u ∷ us) g (found 0 ys u us (subst (FollowFrom 0) e h)) in
    let same : t ∷ ts ≡ u ∷ us = sym one ∙ (ap (past_place n) e ∙ two) in
    (append_cancel_right xs ys (u ∷ us) (ap (λ l. xs ++ l) (sym same) ∙ e), same)

past_end : (xs : List Tok) (t : Tok) (ts : List Tok) → FollowFrom 0 (xs ++ t ∷ ts) → past_place (end_of t) (xs ++ t ∷ ts) ≡ ts
past_end xs t ts h = beyond 0 (end_of t) xs t ts h (omega arith) ∙ not_past (end_of t) ts (follow_after 0 xs t ts h)

same_end : (xs : List Tok) (t : Tok) (ts ys : List Tok) (u : Tok) (us : List Tok) → FollowFrom 0 (xs ++ t ∷ ts) → xs ++ t ∷ ts ≡ ys ++ u ∷ us → end_of t ≡ end_of u
    → xs ++ t ∷ [] ≡ ys ++ u ∷ []
same_end xs t ts ys u us h e ends =
    let one : past_place (end_of u) (xs ++ t ∷ ts) ≡ ts = subst (λ n. past_place n (xs ++ t ∷ ts) ≡ ts) ends (past_end xs t ts h) in
    let two : past_place (end_of u) (ys ++ u ∷ us) ≡ us = past_end ys u us (subst (FollowFrom 0) e h) in
    let same : ts ≡ us = sym one ∙ (ap (past_place (end_of u)) e ∙ two) in
    let whole : (xs ++ t ∷ []) ++ us ≡ (ys ++ u ∷ []) ++ us =
    ap (λ l. (xs ++ t ∷ []) ++ l) (sym same) ∙ (append_assoc xs (t ∷ []) ts ∙ (e ∙ sym (append_assoc ys (u ∷ []) us))) in
    append_cancel_right (xs ++ t ∷ []) (ys ++ u ∷ []) us whole

-- ---- tokens at a place

module _ (tokens : List Tok) (follow : FollowFrom 0 tokens) where
  module _ (passed ts : List Tok) (all : tokens ≡ passed ++ ts) where
    pub last_before : (n : ℕ) → FirstAt n ts → last_end passed ≤ n
    last_before n at = by_first ts (subst (FollowFrom 0) all follow) at
      where
        by_first : (ts : List Tok) → FollowFrom 0 (passed ++ ts) → FirstAt n ts → last_end passed ≤ n
        by_first [] h at = absurd at
        by_first (t ∷ ts) h at = subst (λ n. last_end passed ≤ n) at (passed_before 0 passed t ts h)

    -- what stands at a place that starts here
    pub at_start : (span : Span) (q : StandsAmong tokens span) → FirstAt span.start ts → (passed ≡ q.before) × (ts ≡ q.inside ++ q.after)
    at_start span q at =
        same_place span.start passed ts q.before (q.inside ++ q.after) (subst (FollowFrom 0) all follow)
        (sym all ∙ (q.all ∙ append_assoc q.before q.inside q.after)) at (first_joined span.start q.inside q.after q.start)

    -- what stands at a place that ends here
    pub at_end : (span : Span) (q : StandsAmong tokens span) (test : Tok → Bool) → 0 < last_end passed → last_end passed ≡ span.end → last_is test passed ≡ last_is test q.inside
    at_end span q test some ends =
        let l = last_of (last_end passed) passed (ends_last passed some) in
        let m = last_of span.end q.inside q.end in
        let one : tokens ≡ l.front ++ l.token ∷ ts = all ∙ (ap (λ p. p ++ ts) l.all ∙ append_assoc l.front (l.token ∷ []) ts) in
        let two : tokens ≡ (q.before ++ m.front) ++ m.token ∷ q.after =
        q.all
        ∙ (ap (λ l. (q.before ++ l) ++ q.after) m.all
        ∙ (ap (λ l. l ++ q.after) (sym (append_assoc q.before m.front (m.token ∷ [])))
        ∙ append_assoc (q.before ++ m.front) (m.token ∷ []) q.after)) in
        let same : l.front ++ l.token ∷ [] ≡ (q.before ++ m.front) ++ m.token ∷ [] =
        same_end l.front l.token ts (q.before ++ m.front) m.token q.after (subst (FollowFrom 0) one follow) (sym one ∙ two) (l.end ∙ (ends ∙ sym m.end)) in
        ap (last_is test) l.all
        ∙ (ap (last_is test) same
        ∙ (last_snoc test (q.before ++ m.front) m.token
        ∙ (sym (last_snoc test m.front m.token) ∙ ap (last_is test) (sym m.all))))

  -- A place is not empty.
  pub not_empty : (span : Span) → StandsAmong tokens span → span.start < span.end
  not_empty span q =
      let s = suffix 0 q.before (q.inside ++ q.after) (subst (FollowFrom 0) (q.all ∙ append_assoc q.before q.inside q.after) follow) in
      starts_sooner s.from span.start span.end q.inside q.after s.follow q.start q.end
