-- What follows the rows of a body.
use Rattle.std.proofs.Common.{◌≡◌, ◌≤◌, ◌<◌, inl, ℕ, nat_lt, Bool, true, false, cond, ◌&&◌, List, [], ◌∷◌, ◌++◌, length, codes, refl, sym, ap, subst, ◌∙◌, arith, append_assoc, true≢false}
use Rattle.std.specs.List.{AllByRecursion as Each}
use Rattle.mc_span.specs.declared.span.Span.{Span}
use Rattle.mc_lex.specs.declared.token.Dialect.TheVariants.{Plain}
use Rattle.mc_lex.specs.Tokens.{Tok}
use Rattle.reread_pieces.specs.declared.bracket.Bracket.TheVariants as bracket
use Rattle.reread_pieces.specs.declared.piece.What.{What}
use Rattle.reread_pieces.specs.declared.piece.What.TheVariants as what
use Rattle.reread_pieces.specs.Words.{is, begins_declaration}
use Rattle.reread_pieces.specs.Shapes.{begins}
use Rattle.reread_pieces.specs.Rows.{is_hit}
use Rattle.reread_law_printed.specs.spelled.Words.{IsToken}
use Rattle.reread_law_texts.specs.alike.Moves.{FollowFrom, end_of}
use Rattle.mc_print.specs.Pens.{Pen}
use Rattle.reread_law_rows.specs.inserted.Rows.{Row, Rows, row}
use Rattle.reread_law_rows.specs.inserted.Fits.{StartsAt, EndsAt, StandsAmong, IsStatementAmong, IsDeclarationAmong, IsReturnAmong}
use Rattle.reread_law_printed.specs.parts.Parts.{Part, Parts, copied, upto, row_part, row_texts, place_by, place_of, takes_token, without_first, put, inserted, words_of}
use Rattle.reread_law_printed.specs.parts.Shaped.{tokens_at}
use Rattle.reread_law_printed.specs.parts.Stands.{past_by, AreInOrder}
use Rattle.reread_law_printed.proofs.Parts.Cut.{past_place, Left, left_later, follow_after, has_text, before_not}
use Rattle.reread_law_printed.proofs.Parts.Runs.{TokenAt, token_left, met}
use Rattle.reread_law_printed.proofs.Parts.Tied.{IsAlone, declaration, label, absent, IsRound, statement, value, bare, decision, condition, switch, Tied, none, both, alone, round, Inner, FitsAll, FitAll}
use Rattle.reread_law_printed.specs.placed.Separate.{ComesAfter, ComesBefore, Ends, HasTwoBefore, AreSeparateAfter}
use Rattle.reread_law_printed.proofs.Placed.FollowedWords.{first_false, IsKept, Keeps, mild_end, Declares, declares, declares_two, Comes, comes_declaration, no_declaration, no_hit, opens_declaration, own_text}
use Rattle.reread_law_printed.proofs.Placed.FollowedParts.{AllKept, kept_past, kept_without, Good, good_upto, row_spells, is_declaration, row_no_hit}
use Rattle.reread_law_texts.proofs.Tokens.{is_before, not_before}

-- ---- rows that do not stand last

-- a row after which another one stands
abbrev pub GoesOn : List Row → What → Type 0
GoesOn (x ∷ xs) w = Unit {0}
GoesOn [] (what.Statement b) = ⊥
GoesOn [] (what.Return b) = ⊥
GoesOn [] w = Unit {0}

abbrev pub AllGoOn : List Row → Type 0
AllGoOn [] = Unit {0}
AllGoOn (r ∷ rows) = GoesOn rows r.what × AllGoOn rows

abbrev HasRows : List Row → Type 0
HasRows [] = ⊥
HasRows (r ∷ rows) = Unit {0}

has_rows : {f : Rows} {act : Pen → Pen} → Tied f act → (later : List Row) → HasRows later → HasRows (f later)
has_rows none later h = h
has_rows (both f g act also t u) later h = has_rows t (g later) (has_rows u later h)
has_rows (alone w span i) later h = tt
has_rows (round w v span f act i t) later h = tt

go_on : (rows : List Row) (w : What) → HasRows rows → GoesOn rows w
go_on [] w h = absurd h
go_on (r ∷ rows) w h = tt

alone_last : (rows : List Row) (w : What) → IsAlone w → GoesOn rows w
alone_last (r ∷ rows) w i = tt
alone_last [] _ declaration = tt
alone_last [] _ label = tt
alone_last [] _ absent = tt

end_last : (rows : List Row) (w v : What) → IsRound w v → GoesOn rows v
end_last (r ∷ rows) w v i = tt
end_last [] _ _ statement = tt
end_last [] _ _ value = tt
end_last [] _ _ bare = tt
end_last [] _ _ decision = tt
end_last [] _ _ condition = tt
end_last [] _ _ switch = tt

pub all_go_on : {f : Rows} {act : Pen → Pen} → Tied f act → (later : List Row) → AllGoOn later → AllGoOn (f later)
all_go_on none later h = h
all_go_on (both f g act also t u) later h = all_go_on t (g later) (all_go_on u later h)
all_go_on (alone w span i) later h = (alone_last later w i, h)
all_go_on (round w v span f act i t) later h =
    (go_on (f (row v span later)) w (has_rows t (row v span later) tt), all_go_on t (row v span later) (end_last later w v i, h))

-- ---- rows and the ones after them

abbrev pub Separate : List Tok → List Row → Type 0
Separate tokens [] = Unit {0}
Separate tokens (r ∷ rows) = AreSeparateAfter tokens r.what r.span rows

pub separate_from : (tokens : List Tok) (w : What) (span : Span) (rows : List Row) → AreSeparateAfter tokens w span rows → Separate tokens rows
separate_from tokens w span [] h = tt
separate_from tokens w span (r ∷ rows) h = h.2

pub separate_right : (tokens : List Tok) (xs ys : List Row) → Separate tokens (xs ++ ys) → Separate tokens ys
separate_right tokens [] ys h = h
separate_right tokens (x ∷ xs) ys h = separate_right tokens xs ys (separate_from tokens x.what x.span (xs ++ ys) h)

two_before : (tokens : List Tok) (b : ℕ) (span : Span) (w : What) (other : Span) → Inner w → ComesBefore tokens (what.Declaration b) span w other
    → HasTwoBefore tokens span (place_by w other)
two_before tokens b span (what.Exit c) other i h = absurd (cc)
two_before tokens b span w other i h = h

not_declared : (b : ℕ) (span : Span) (w : What) (other : Span) → ComesAfter (what.Statement b) span w other → place_by w other ≤ span.start → is_declaration w ≡ false
not_declared b span (what.Declaration c) other h le = absurd (omega (arith, h, le))
not_declared b span w other h le = refl

-- a row that asks for nothing after it
abbrev is_plain : What → Bool
is_plain (what.Declaration b) = false
is_plain (what.Statement b) = false
is_plain (what.Return b) = false
is_plain w = true

plain_is : (w : What) → is_plain w ≡ true → is_declaration w ≡ false
plain_is (what.Declaration b) e = absurd (true≢false (sym e))
plain_is w e = refl

-- ---- tokens before a place

upto_one : (place : ℕ) (next : Parts) (t : Tok) (ts : List Tok) → t.start < place → upto place next (t ∷ ts) ≡ copied t ∷ upto place next ts
upto_one place next t ts lt = ap (λ b. cond b (copied t ∷ upto place next ts) (next (t ∷ ts))) (is_before t.start place lt)

upto_none : (place : ℕ) (next : Parts) (ts : List Tok) → FollowFrom place ts → upto place next ts ≡ next ts
upto_none place next [] h = refl
upto_none place next (t ∷ ts) h = ap (λ b. cond b (copied t ∷ upto place next ts) (next (t ∷ ts))) (not_before t.start place h.0)

module _ (source : List Tok) (means : Each (IsToken Plain) source) (tokens : List Tok) (follow : FollowFrom 0 tokens) where
  stands_at : (span : Span) → StandsAmong tokens span → TokenAt tokens span.start
  stands_at span q = by_inside q.inside refl
    where
      by_inside : (l : List Tok) → q.inside ≡ l → TokenAt tokens span.start
      by_inside [] e = absurd (subst (StartsAt span.start) e q.start)
      by_inside (t ∷ us) e = record {
        ahead = q.before;
        token = t;
        rest = us ++ q.after;
        all = q.all ∙ (ap (λ i. (q.before ++ i) ++ q.after) e ∙ append_assoc q.before (t ∷ us) q.after);
        start = subst (StartsAt span.start) e q.start;
      }

  stands_left : (span : Span) (q : StandsAmong tokens span) (from : ℕ) (ts : List Tok) → Left tokens from ts → from ≤ span.start → past_place span.start ts ≡ q.inside ++ q.after
  stands_left span q from ts left le = by_inside q.inside refl
    where
      by_inside : (l : List Tok) → q.inside ≡ l → past_place span.start ts ≡ q.inside ++ q.after
      by_inside [] e = absurd (subst (StartsAt span.start) e q.start)
      by_inside (t ∷ us) e =
          token_left tokens follow ts from span.start left le (record {
            ahead = q.before;
            token = t;
            rest = us ++ q.after;
            all = q.all ∙ (ap (λ i. (q.before ++ i) ++ q.after) e ∙ append_assoc q.before (t ∷ us) q.after);
            start = subst (StartsAt span.start) e q.start;
          })
          ∙ ap (λ i. i ++ q.after) (sym e)

  -- ---- the first two tokens of a declaration

  two_follow : (span : Span) (from : ℕ) (ts : List Tok) (place : ℕ) (next : Parts) → Left tokens from ts → from ≤ span.start → AllKept source (past_place span.start ts)
      → begins_declaration (past_place span.start ts) ≡ true → HasTwoBefore tokens span place → Declares source (words_of (upto place next (past_place span.start ts)))
  two_follow span from ts place next left le k begins q =
      let l : List Tok = q.first ∷ (q.second ∷ q.after) in
      let at : TokenAt tokens span.start = record { ahead = q.before; token = q.first; rest = q.second ∷ q.after; all = q.all; start = q.start } in
      let e : past_place span.start ts ≡ l = token_left tokens follow ts from span.start left le at in
      let follows : FollowFrom 0 (q.before ++ l) = subst (FollowFrom 0) q.all follow in
      let text : 0 < length q.first.text = has_text 0 q.before q.first (q.second ∷ q.after) follows in
      let later : FollowFrom (end_of q.first) (q.second ∷ q.after) = follow_after 0 q.before q.first (q.second ∷ q.after) follows in
      let second = later.0 in
      let second_text = later.1 in
      let end = q.end in
      let kept : AllKept source l = subst (AllKept source) e k in
      let two : upto place next l ≡ copied q.first ∷ (copied q.second ∷ upto place next q.after) =
      upto_one place next q.first (q.second ∷ q.after) (omega (arith, text, second, second_text, end))
      ∙ ap (λ qs. copied q.first ∷ qs) (upto_one place next q.second q.after (omega (arith, second_text, end))) in
      subst (λ l. Declares source (words_of (upto place next l))) (sym e)
      (subst (λ qs. Declares source (words_of qs)) (sym two)
      (declares_two source q.first q.second q.after (words_of (upto place next q.after)) (mild_end source means) kept.0 kept.1.0 (subst (λ l. begins_declaration l ≡ true) e begins)))

  -- ---- `return ; }`

  fits_all : (a b c : Bool) → a ≡ true → b ≡ true → c ≡ true → (a && (b && (c && true))) ≡ true
  fits_all true true true e f g = refl
  fits_all false b c e f g = absurd (cc)
  fits_all true false c e f g = absurd (cc)
  fits_all true true false e f g = absurd (cc)

  return_follows : (b : ℕ) (type : List (List ℕ)) (next : Parts) (span : Span) (from : ℕ) (ts : List Tok) → Left tokens from ts → from ≤ span.start
      → IsReturnAmong tokens span [] → Comes source (what.Return b) (words_of (upto span.end (put type what.ReturnEnd next) (past_place span.start ts)))
  return_follows b type next span from ts left le q =
      let l : List Tok = q.word ∷ (q.semicolon ∷ q.place.after) in
      let e : past_place span.start ts ≡ l = stands_left span q.place from ts left le ∙ ap (λ i. i ++ q.place.after) q.tokens_are in
      let all : tokens ≡ q.place.before ++ l =
      q.place.all ∙ (append_assoc q.place.before q.place.inside q.place.after ∙ ap (λ i. q.place.before ++ (i ++ q.place.after)) q.tokens_are) in
      let follows : FollowFrom 0 (q.place.before ++ l) = subst (FollowFrom 0) all follow in
      let text : 0 < length q.word.text = has_text 0 q.place.before q.word (q.semicolon ∷ q.place.after) follows in
      let later : FollowFrom (end_of q.word) (q.semicolon ∷ q.place.after) = follow_after 0 q.place.before q.word (q.semicolon ∷ q.place.after) follows in
      let second = later.0 in
      let second_text = later.1 in
      let end : end_of q.semicolon ≡ span.end = subst (EndsAt span.end) q.tokens_are q.place.end in
      let after : FollowFrom span.end q.place.after = subst (λ n. FollowFrom n q.place.after) end later.2 in
      let closing : Parts = put type what.ReturnEnd next in
      let parts : upto span.end closing l ≡ copied q.word ∷ (copied q.semicolon ∷ closing q.place.after) =
      upto_one span.end closing q.word (q.semicolon ∷ q.place.after) (omega (arith, text, second, second_text, end))
      ∙ ap (λ qs. copied q.word ∷ qs)
      (upto_one span.end closing q.semicolon q.place.after (omega (arith, second_text, end))
      ∙ ap (λ qs. copied q.semicolon ∷ qs) (upto_none span.end closing q.place.after after)) in
      subst (λ l. Comes source (what.Return b) (words_of (upto span.end closing l))) (sym e)
      (subst (λ qs. Comes source (what.Return b) (words_of qs)) (sym parts)
      (λ at. fits_all (is (codes "return") q.word) (is (codes ";") q.semicolon) true q.word_is q.semicolon_is refl))

  -- ---- what follows a counted statement is no counted declaration

  module _ (type : List (List ℕ)) (next : Parts) where
    no_hit_put : (b : ℕ) (span : Span) (r : Row) (t : Tok) (ts : List Tok) → Inner r.what → ComesAfter (what.Statement b) span r.what r.span → t.start ≡ span.start → IsKept source t
        → (at : ℕ) → is_hit (tokens_at source at (words_of (upto (place_of r) (put type r.what next) (t ∷ ts)))) ≡ false
    no_hit_put b span r t ts i h start k at = by_test (nat_lt t.start (place_of r)) refl
      where
        put_at : (n m : ℕ) → n ≤ m → m ≡ span.start → n ≤ span.start
        put_at n m le e = omega (arith, le, e)

        by_test : (c : Bool) → nat_lt t.start (place_of r) ≡ c
            → is_hit (tokens_at source at (words_of (cond c (copied t ∷ upto (place_of r) (put type r.what next) ts) (put type r.what next (t ∷ ts))))) ≡ false
        by_test true e = no_hit source t.text (words_of (upto (place_of r) (put type r.what next) ts)) (own_text source t k) at
        by_test false e =
            row_no_hit source means type r.what (words_of (next (without_first (takes_token r.what) (t ∷ ts)))) i
            (not_declared b span r.what r.span h (put_at (place_of r) t.start (before_not t.start (place_of r) e) start)) at

    no_hit_after : (b : ℕ) (span : Span) (r : Row) (from : ℕ) (ts : List Tok) → Inner r.what → ComesAfter (what.Statement b) span r.what r.span → StandsAmong tokens span
        → Left tokens from ts → from ≤ span.start → AllKept source (past_place span.start ts)
        → (at : ℕ) → is_hit (tokens_at source at (words_of (upto (place_of r) (put type r.what next) (past_place span.start ts)))) ≡ false
    no_hit_after b span r from ts i h stands left le k at =
        let q : TokenAt tokens span.start = stands_at span stands in
        let e : past_place span.start ts ≡ q.token ∷ q.rest = token_left tokens follow ts from span.start left le q in
        let kept : AllKept source (q.token ∷ q.rest) = subst (AllKept source) e k in
        subst (λ l. is_hit (tokens_at source at (words_of (upto (place_of r) (put type r.what next) l))) ≡ false) (sym e) (no_hit_put b span r q.token q.rest i h q.start kept.0 at)

  -- ---- the rows of a body

  pub record Done (l : List Tok) (qs : List Part) : Type 0 where
    pub good : Good source l qs
    pub keeps : Keeps source l (words_of qs)

  module _ (type : List (List ℕ)) (next : Parts) (later : List Row) (to : ℕ) (k : (l : List Tok) → Left tokens to l → AllKept source l → Done l (next l)) where
    -- what follows the rows of this list
    abbrev Goes : List Row → Type 0
    Goes rows =
        (from : ℕ) (ts : List Tok) → Each (FitAll tokens) rows → Each (λ (r : Row). Inner r.what) rows → AllGoOn rows → AreInOrder from rows to
        → Separate tokens (rows ++ later) → Left tokens from ts → AllKept source ts → Good source ts (inserted type rows next ts)

    row_good : (w : What) (l : List Tok) (here : List Tok) (qs : List Part) → Inner w → Comes source w (words_of qs)
        → Comes source (what.Opening bracket.Brace) (row_texts type w ++ words_of qs) → Good source l qs → Good source here (row_part type w ∷ qs)
    row_good w l here qs i comes ready g =
        record { ahead = (inl comes, g.ahead); ready = inl ready; spells = row_spells source means type w here (words_of qs) i }

    opens_row : (w : What) (ws : List (List ℕ)) → Inner w → is_declaration w ≡ false → Comes source (what.Opening bracket.Brace) (row_texts type w ++ ws)
    opens_row w ws i d at = first_false (is_hit (tokens_at source at (row_texts type w ++ ws))) _ (row_no_hit source means type w ws i d at)

    declaration_follows : (b : ℕ) (span : Span) (rows : List Row) (from : ℕ) (ts : List Tok) → Left tokens from ts → from ≤ span.start → IsDeclarationAmong tokens span
        → Each (λ (r : Row). Inner r.what) rows → AreInOrder span.start rows to → AreSeparateAfter tokens (what.Declaration b) span (rows ++ later)
        → Left tokens span.start (past_place span.start ts) → AllKept source (past_place span.start ts)
        → Declares source (words_of (inserted type rows next (past_place span.start ts)))
    declaration_follows b span rows from ts left le fit inner order sep now kept = by_rows rows inner order sep
      where
        begins : begins_declaration (past_place span.start ts) ≡ true
        begins = ap begins_declaration (stands_left span fit.place from ts left le) ∙ fit.begins

        by_rows : (rows : List Row) → Each (λ (r : Row). Inner r.what) rows → AreInOrder span.start rows to → AreSeparateAfter tokens (what.Declaration b) span (rows ++ later)
            → Declares source (words_of (inserted type rows next (past_place span.start ts)))
        by_rows [] inner order sep =
            let done = k (past_place span.start ts) (left_later tokens (past_place span.start ts) span.start to now order) kept in
            declares source (mild_end source means) done.keeps begins
        by_rows (r ∷ rows) inner order sep =
            two_follow span from ts (place_of r) (put type r.what (inserted type rows next)) left le kept begins (two_before tokens b span r.what r.span inner.0 sep.1)

    statement_follows : (b : ℕ) (span : Span) (rows : List Row) (from : ℕ) (ts : List Tok) → Left tokens from ts → from ≤ span.start → IsStatementAmong tokens span
        → GoesOn rows (what.Statement b) → Each (λ (r : Row). Inner r.what) rows → AreSeparateAfter tokens (what.Statement b) span (rows ++ later)
        → AllKept source (past_place span.start ts) → Good source (past_place span.start ts) (inserted type rows next (past_place span.start ts))
        → Comes source (what.Statement b) (words_of (inserted type rows next (past_place span.start ts)))
    statement_follows b span [] from ts left le fit on inner sep kept g at = absurd on
    statement_follows b span (r ∷ rows) from ts left le fit on inner sep kept g at =
        let begins : begins_declaration (past_place span.start ts) ≡ false = ap begins_declaration (stands_left span fit.place from ts left le) ∙ fit.declaration in (
          no_declaration source g.spells begins at,
          no_hit_after type (inserted type rows next) b span r from ts inner.0 sep.0 fit.place left le kept at,
        )

    return_row : (b : ℕ) (span : Span) (rows : List Row) (from : ℕ) (ts : List Tok) → Left tokens from ts → from ≤ span.start → IsReturnAmong tokens span []
        → GoesOn rows (what.Return b) → AreSeparateAfter tokens (what.Return b) span (rows ++ later)
        → Comes source (what.Return b) (words_of (inserted type rows next (past_place span.start ts)))
    return_row b span [] from ts left le fit on sep = absurd on
    return_row b span (r ∷ rows) from ts left le fit on sep =
        let ends : Ends what.ReturnEnd r.what span r.span = sep.1 in
        subst (λ w. Comes source (what.Return b) (words_of (upto (place_by w r.span) (put type w (inserted type rows next)) (past_place span.start ts)))) (sym ends.0)
        (subst (λ (s : Span). Comes source (what.Return b) (words_of (upto s.end (put type what.ReturnEnd (inserted type rows next)) (past_place span.start ts)))) ends.1
        (return_follows b type (inserted type rows next) span from ts left le fit))

    -- ---- one row

    plain_comes : (w : What) (ws : List (List ℕ)) → Inner w → is_plain w ≡ true → Comes source w ws
    plain_comes (what.Opening b) ws i e at = absurd (true≢false (sym i))
    plain_comes (what.Exit b) ws i e at = absurd (true≢false (sym i))
    plain_comes (what.Declaration b) ws i e at = absurd (true≢false (sym e))
    plain_comes (what.Statement b) ws i e at = absurd (true≢false (sym e))
    plain_comes (what.Return b) ws i e at = absurd (true≢false (sym e))
    plain_comes w ws i e at = tt

    row_after : (w : What) (span : Span) (end : ℕ) (rows : List Row) (from : ℕ) (ts : List Tok) → Goes rows → FitsAll tokens w span
        → Each (FitAll tokens) rows → Each (λ (r : Row). Inner r.what) rows → AllGoOn rows → from ≤ place_by w span → AreInOrder (past_by w span) rows to
        → AreSeparateAfter tokens w span (rows ++ later) → Left tokens from ts → AllKept source (past_place (place_by w span) ts)
        → Good source (without_first (takes_token w) (past_place (place_by w span) ts)) (inserted type rows next (without_first (takes_token w) (past_place (place_by w span) ts)))
    row_after w span end rows from ts goes f fit inner on le order sep left kept =
        let l : List Tok = past_place (place_by w span) ts in
        let now = met tokens follow w span ts from f left le in
        goes (past_by w span) (without_first (takes_token w) l) fit inner on order (separate_from tokens w span (rows ++ later) sep) now.1 (kept_without source (takes_token w) l kept)

    plain_row : (w : What) (span : Span) (end : ℕ) (rows : List Row) (from : ℕ) (ts : List Tok) → Goes rows → Inner w → is_plain w ≡ true → FitsAll tokens w span
        → Each (FitAll tokens) rows → Each (λ (r : Row). Inner r.what) rows → AllGoOn rows → from ≤ place_by w span → AreInOrder (past_by w span) rows to
        → AreSeparateAfter tokens w span (rows ++ later) → Left tokens from ts → AllKept source (past_place (place_by w span) ts)
        → Good source (past_place (place_by w span) ts) (put type w (inserted type rows next) (past_place (place_by w span) ts))
    plain_row w span end rows from ts goes i e f fit inner on le order sep left kept =
        let l : List Tok = past_place (place_by w span) ts in
        let qs : List Part = inserted type rows next (without_first (takes_token w) l) in
        row_good w (without_first (takes_token w) l) l qs i (plain_comes w (words_of qs) i e) (opens_row w (words_of qs) i (plain_is w e))
        (row_after w span end rows from ts goes f fit inner on le order sep left kept)

    one_row : (w : What) (span : Span) (end : ℕ) (rows : List Row) (from : ℕ) (ts : List Tok) → Goes rows → Inner w → FitsAll tokens w span
        → Each (FitAll tokens) rows → Each (λ (r : Row). Inner r.what) rows → GoesOn rows w → AllGoOn rows → from ≤ place_by w span → AreInOrder (past_by w span) rows to
        → AreSeparateAfter tokens w span (rows ++ later) → Left tokens from ts → AllKept source (past_place (place_by w span) ts)
        → Good source (past_place (place_by w span) ts) (put type w (inserted type rows next) (past_place (place_by w span) ts))
    one_row (what.Declaration b) span end rows from ts goes i f fit inner one on le order sep left kept =
        let l : List Tok = past_place span.start ts in
        let qs : List Part = inserted type rows next l in
        let now = met tokens follow (what.Declaration b) span ts from f left le in
        let d : Declares source (words_of qs) = declaration_follows b span rows from ts left le f inner order sep now.1 kept in
        row_good (what.Declaration b) l l qs i (comes_declaration source b (words_of qs) d) (opens_declaration source type b (words_of qs) d)
        (row_after (what.Declaration b) span end rows from ts goes f fit inner on le order sep left kept)
    one_row (what.Statement b) span end rows from ts goes i f fit inner one on le order sep left kept =
        let l : List Tok = past_place span.start ts in
        let qs : List Part = inserted type rows next l in
        let g : Good source l qs = row_after (what.Statement b) span end rows from ts goes f fit inner on le order sep left kept in
        row_good (what.Statement b) l l qs i (statement_follows b span rows from ts left le f one inner sep kept g) (opens_row (what.Statement b) (words_of qs) i refl) g
    one_row (what.Return b) span end rows from ts goes i f fit inner one on le order sep left kept =
        let l : List Tok = past_place span.start ts in
        let qs : List Part = inserted type rows next l in
        row_good (what.Return b) l l qs i (return_row b span rows from ts left le f one sep) (opens_row (what.Return b) (words_of qs) i refl)
        (row_after (what.Return b) span end rows from ts goes f fit inner on le order sep left kept)
    one_row w span end rows from ts goes i f fit inner one on le order sep left kept =
        plain_row w span end rows from ts goes i refl f fit inner on le order sep left kept

    pub good_rows : (rows : List Row) → Goes rows
    good_rows [] from ts fit inner on order sep left kept =
        let done = k ts (left_later tokens ts from to left order) kept in
        done.good
    good_rows (r ∷ rows) from ts fit inner on order sep left kept =
        good_upto source (place_of r) (put type r.what (inserted type rows next)) ts kept
        (one_row r.what r.span r.end rows from ts (good_rows rows) inner.0 fit.0 fit.1 inner.1 on.0 on.1 order.0 order.1 sep left (kept_past source (place_of r) ts kept))
