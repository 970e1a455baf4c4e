-- The tokens of the source among the pieces of a printed text follow each other, and end in the text.
use Rattle.std.proofs.Common.{◌≡◌, ◌≤◌, ◌<◌, ◌+◌, ℕ, suc, Bool, true, false, cond, List, [], ◌∷◌, ◌++◌, length, length-append, codes, refl, sym, ap, subst, ◌∙◌, arith}
use Rattle.std.proofs.lemmas.List.Elements.{All-from_recursion}
use Rattle.std.specs.List.{AllByRecursion as Each}
use Rattle.mc_span.specs.declared.span.Span.{Span}
use Rattle.mc_lex.specs.Tokens.{Tok}
use Rattle.mc_lex.specs.Words.{one_of}
use Rattle.reread_pieces.specs.declared.piece.What.{What}
use Rattle.reread_pieces.specs.declared.piece.What.TheVariants as what
use Rattle.reread_pieces.specs.Pieces.{Mark}
use Rattle.reread_law_texts.specs.alike.Moves.{FollowFrom, end_of}
use Rattle.mc_print.specs.Insertions.{value_exit}
use Rattle.mc_print.specs.Pens.{spaced, gap_after}
use Rattle.mc_print.specs.Texts.{text_of}
use Rattle.reread_law_rows.specs.inserted.Rows.{Row}
use Rattle.reread_law_printed.specs.parts.Parts.{Part, own, row_part, row_texts, words_of, parts_of}
use Rattle.reread_law_printed.specs.parts.Marks.{after, mark_of, marks_from, marks, own_tokens}
use Rattle.reread_law_printed.specs.parts.Laws.{WordsOfParts}
use Rattle.reread_law_printed.proofs.Parts.Trace.{IsOwn, source, opens, closes, At, Trace, ends, copy, row, word, semicolon, traced}
use Rattle.laws_reread.specs.Laws.{OwnTokensFollow, OwnTokensEnd}

-- ---- where texts end

after_low : (at : ℕ) (texts : List (List ℕ)) → at ≤ after at texts
after_low at [] = omega arith
after_low at (text ∷ texts) = let more = after_low (at + length text + 1) texts in omega (arith, more)

after_both : (at : ℕ) (texts others : List (List ℕ)) → after at (texts ++ others) ≡ after (after at texts) others
after_both at [] others = refl
after_both at (text ∷ texts) others = after_both (at + length text + 1) texts others

one_gap : (text : List ℕ) → length (gap_after text) ≡ 1
one_gap text = by_test (one_of (codes ";" ∷ codes "{" ∷ codes "}" ∷ []) text)
  where
    by_test : (b : Bool) → length {A = ℕ} (cond b (10 ∷ []) (32 ∷ [])) ≡ 1
    by_test true = refl
    by_test false = refl

end_none : (at : ℕ) → at ≡ at + 0
end_none at = omega arith

end_one : (at n total : ℕ) → total ≡ n + 1 → at + n + 1 ≡ at + total
end_one at n total all = omega (arith, all)

end_more : (at n total gap later both end : ℕ) → total ≡ n + both → both ≡ gap + later → gap ≡ 1 → end ≡ at + n + 1 + later → end ≡ at + total
end_more at n total gap later both end all two one more = omega (arith, all, two, one, more)

-- after each text stands one byte
spaced_end : (at : ℕ) (words : List (List ℕ)) → after at words ≡ at + length (spaced words)
spaced_end at [] = end_none at
spaced_end at (t ∷ []) = end_one at (length t) (length (t ++ 10 ∷ [])) (length-append t (10 ∷ []))
spaced_end at (t ∷ u ∷ ts) =
    let later : List ℕ = spaced (u ∷ ts) in
    end_more at (length t) (length (t ++ (gap_after t ++ later))) (length (gap_after t)) (length later) (length (gap_after t ++ later)) (after (at + length t + 1) (u ∷ ts))
    (length-append t (gap_after t ++ later)) (length-append (gap_after t) later) (one_gap t) (spaced_end (at + length t + 1) (u ∷ ts))

-- ---- tokens that follow each other

no_less : (n : ℕ) → n ≤ n
no_less n = omega arith

as_low : (n m : ℕ) → n ≡ 0 + m → n ≤ m
as_low n m e = omega (arith, e)

some : (n : ℕ) → 0 < n + 1
some n = omega arith

one_less : (a n : ℕ) → a + n ≤ a + n + 1
one_less a n = omega arith

within_too : (a b c : ℕ) → a ≤ b → b ≤ c → a ≤ c
within_too a b c le within = omega (arith, le, within)

follow_earlier : (a b : ℕ) (ts : List Tok) → a ≤ b → FollowFrom b ts → FollowFrom a ts
follow_earlier a b [] le h = tt
follow_earlier a b (t ∷ ts) le h = let first = h.0 in (omega (arith, le, first), h.1, h.2)

none_more : (limit from : ℕ) → from ≤ limit → from + 0 ≤ limit
none_more limit from le = omega (arith, le)

one_more : (limit from start n count : ℕ) → from ≤ start → 0 < n → start + n + count ≤ limit → from + suc count ≤ limit
one_more limit from start n count first text more = omega (arith, first, text, more)

-- there are no more than bytes
pub no_more_than_bytes : (limit from : ℕ) (ts : List Tok) → from ≤ limit → FollowFrom from ts → Each (λ (t : Tok). end_of t ≤ limit) ts → from + length ts ≤ limit
no_more_than_bytes limit from [] le h short = none_more limit from le
no_more_than_bytes limit from (t ∷ ts) le h short =
    one_more limit from t.start (length t.text) (length ts) h.0 h.1 (no_more_than_bytes limit (end_of t) ts short.0 h.2 short.1)

-- ---- the tokens of the source among pieces

module _ (tokens : List Tok) where
  abbrev Own : ℕ → List Part → List Tok
  Own at qs = own_tokens (marks_from tokens at qs)

  -- a row leaves none
  row_none : (type : List (List ℕ)) (w : What) (span : Span) (end floor last at : ℕ) (ms : List Mark) (ts : List Tok) → At floor last w span end ts
      → own_tokens (mark_of tokens at (row_part type w) ∷ ms) ≡ own_tokens ms
  row_none type what.Source span end floor last at ms ts h = absurd h
  row_none type (what.Opening b) span end floor last at ms ts h = absurd h
  row_none type what.Closing span end floor last at ms ts h = absurd h
  row_none type what.Value span end floor last at ms ts h = absurd h
  row_none type (what.ValueEnd b) span end floor last at ms ts h = absurd h
  row_none type w span end floor last at ms ts h = refl

  own_follows : (at : ℕ) (w : What) (t : Tok) (ms : List Mark) → IsOwn w → 0 < length t.text → FollowFrom (at + length t.text + 1) (own_tokens ms)
      → FollowFrom at (own_tokens (mark_of tokens at (own w t) ∷ ms))
  own_follows at _ t ms source text h = (no_less at, text, follow_earlier (at + length t.text) (at + length t.text + 1) (own_tokens ms) (one_less at (length t.text)) h)
  own_follows at _ t ms opens text h = (no_less at, text, follow_earlier (at + length t.text) (at + length t.text + 1) (own_tokens ms) (one_less at (length t.text)) h)
  own_follows at _ t ms closes text h = (no_less at, text, follow_earlier (at + length t.text) (at + length t.text + 1) (own_tokens ms) (one_less at (length t.text)) h)

  value_end : (at : ℕ) (type : List (List ℕ)) → at + 6 ≤ after at (row_texts type what.Value)
  value_end at type =
      let more = after_low (at + 1 + 1) type in
      let e : after at (row_texts type what.Value) ≡ after (at + 1 + 1) type + 6 + 1 + 1 + 1 = after_both (at + 1 + 1) type (codes "mcdc_v" ∷ codes "=" ∷ []) in
      omega (arith, more, e)

  semicolon_end : (at b : ℕ) (type : List (List ℕ)) → at + 1 ≤ after at (row_texts type (what.ValueEnd b))
  semicolon_end at b type = let more = after_low (at + 1 + 1) (value_exit b) in omega (arith, more)

  own_follow : {floor last : ℕ} {qs : List Part} {rows : List Row} {ts : List Tok} → Trace floor last qs rows ts → (at : ℕ) → FollowFrom last ts → FollowFrom at (Own at qs)
  own_follow ends at f = tt
  own_follow (copy {w = w} {t = t} {qs = qs} i tr) at f =
      let next : ℕ = after at (t.text ∷ []) in
      own_follows at w t (marks_from tokens next qs) i f.1 (own_follow tr next f.2)
  own_follow (row {floor = floor} {last = last} type {w = w} {span = span} {end = end} {qs = qs} {ts = ts} h tr) at f =
      let next : ℕ = after at (row_texts type w) in
      let ms : List Mark = marks_from tokens next qs in
      subst (FollowFrom at) (sym (row_none type w span end floor last at ms ts h)) (follow_earlier at next (own_tokens ms) (after_low at (row_texts type w)) (own_follow tr next f))
  own_follow (word type {qs = qs} text start tr) at f =
      let next : ℕ = after at (row_texts type what.Value) in
      (no_less at, some 5, follow_earlier (at + 6) next (Own next qs) (value_end at type) (own_follow tr next f.2))
  own_follow (semicolon type {b = b} {qs = qs} text tr) at f =
      let next : ℕ = after at (row_texts type (what.ValueEnd b)) in
      (no_less at, some 0, follow_earlier (at + 1) next (Own next qs) (semicolon_end at b type) (own_follow tr next f.2))

  -- ---- where they end

  module _ (limit : ℕ) where
    abbrev Within : Tok → Type 0
    Within t = end_of t ≤ limit

    own_ends : (at : ℕ) (w : What) (t : Tok) (ms : List Mark) → IsOwn w → at + length t.text ≤ limit → Each Within (own_tokens ms)
        → Each Within (own_tokens (mark_of tokens at (own w t) ∷ ms))
    own_ends at _ t ms source le h = (le, h)
    own_ends at _ t ms opens le h = (le, h)
    own_ends at _ t ms closes le h = (le, h)

    -- the texts of a part, and those of the parts after it
    rest_within : (at : ℕ) (texts : List (List ℕ)) (qs : List Part) → after at (texts ++ words_of qs) ≤ limit → after (after at texts) (words_of qs) ≤ limit
    rest_within at texts qs le = subst (λ n. n ≤ limit) (after_both at texts (words_of qs)) le

    part_within : (at : ℕ) (texts : List (List ℕ)) (qs : List Part) → after at (texts ++ words_of qs) ≤ limit → after at texts ≤ limit
    part_within at texts qs le =
        let rest = rest_within at texts qs le in
        let low = after_low (after at texts) (words_of qs) in
        omega (arith, rest, low)

    all_end : {floor last : ℕ} {qs : List Part} {rows : List Row} {ts : List Tok} → Trace floor last qs rows ts → (at : ℕ) → after at (words_of qs) ≤ limit → Each Within (Own at qs)
    all_end ends at le = tt
    all_end (copy {w = w} {t = t} {qs = qs} i tr) at le =
        let next : ℕ = after at (t.text ∷ []) in
        let within = part_within at (t.text ∷ []) qs le in
        own_ends at w t (marks_from tokens next qs) i (within_too (at + length t.text) next limit (one_less at (length t.text)) within) (all_end tr next (rest_within at (t.text ∷ []) qs le))
    all_end (row {floor = floor} {last = last} type {w = w} {span = span} {end = end} {qs = qs} {ts = ts} h tr) at le =
        let next : ℕ = after at (row_texts type w) in
        subst (Each Within) (sym (row_none type w span end floor last at (marks_from tokens next qs) ts h)) (all_end tr next (rest_within at (row_texts type w) qs le))
    all_end (word type {qs = qs} text start tr) at le =
        let texts : List (List ℕ) = row_texts type what.Value in
        let within = part_within at texts qs le in
        let end = value_end at type in
        (within_too (at + 6) (after at texts) limit end within, all_end tr (after at texts) (rest_within at texts qs le))
    all_end (semicolon type {b = b} {qs = qs} text tr) at le =
        let texts : List (List ℕ) = row_texts type (what.ValueEnd b) in
        let within = part_within at texts qs le in
        let end = semicolon_end at b type in
        (within_too (at + 1) (after at texts) limit end within, all_end tr (after at texts) (rest_within at texts qs le))

-- ---- whole texts

pub tokens_follow : OwnTokensFollow
tokens_follow kinds tokens tree h = own_follow kinds (traced tokens tree h) 0 h.follow

pub tokens_end : WordsOfParts → OwnTokensEnd
tokens_end words kinds tokens tree h =
    let size : ℕ = length (spaced (text_of tokens tree)) in
    let end : after 0 (words_of (parts_of tokens tree)) ≡ 0 + size = ap (after 0) (words tokens tree h) ∙ spaced_end 0 (text_of tokens tree) in
    All-from_recursion (λ (t : Tok). end_of t ≤ size) (own_tokens (marks kinds (parts_of tokens tree))) (all_end kinds size (traced tokens tree h) 0 (as_low (after 0 (words_of (parts_of tokens tree))) size end))
