-- The tokens without probes end where a place may, and they are no more than those of the text.
use Rattle.std.proofs.Common.{◌≡◌, ℕ, zero, suc, ◌+◌, ◌-◌, ◌≤◌, ◌<◌, ◌^◌, nat_le, Bool, true, false, not, ◌&&◌, List, [], ◌∷◌, ◌++◌, length, Option, Some, None, Ok, refl, sym, ap, subst, inl, inr, arith, codes, if◌then◌else◌, length-append, get_or}
use Rattle.std.specs.Prelude.{◌⊎◌, ◌==◌, All}
use Rattle.std.proofs.Math.ListN.{get_or-map}
use Rattle.std.proofs.lemmas.List.{length-map}
use Rattle.std.proofs.lemmas.Bool.Decides.{nat_tests}
use Rattle.std.proofs.lemmas.Slice.Eq.{bytes_eq-Decides}
use Rattle.mc_lex.specs.declared.token.Dialect.{Dialect}
use Rattle.mc_lex.specs.declared.token.Dialect.TheVariants.{Instrumented}
use Rattle.mc_lex.specs.declared.token.TokenKind.{TokenKind}
use Rattle.mc_lex.specs.declared.token.TokenKind.TheVariants.{Punctuator}
use Rattle.mc_lex.specs.declared.fault.LexFault.{LexFault}
use Rattle.mc_lex.specs.Scans.{Scans}
use Rattle.mc_lex.specs.Scans as r
use Rattle.mc_lex.specs.declared.token.Token.{Token}
use Rattle.mc_lex.specs.Tokens.{Tok, tok_of, toks_of}
use Rattle.mc_lex.proofs.Candidates.{stands_full, stood}
use Rattle.mc_lex.proofs.Texts.{both}
use Rattle.reread_pieces.specs.declared.bracket.Bracket.{Bracket}
use Rattle.reread_pieces.specs.declared.bracket.Bracket.TheVariants as bracket
use Rattle.reread_pieces.specs.declared.site.Before.{Before}
use Rattle.reread_pieces.specs.declared.site.Site.{Site}
use Rattle.reread_pieces.specs.declared.word.Word.{Word}
use Rattle.reread_pieces.specs.declared.word.Word.TheVariants as word
use Rattle.reread_pieces.specs.declared.piece.Piece.{Piece}
use Rattle.reread_pieces.specs.declared.piece.What.{What}
use Rattle.reread_pieces.specs.declared.piece.What.TheVariants as what
use Rattle.reread_pieces.specs.Words.{before_of, is, is_name, may_begin_declaration, word_of}
use Rattle.reread_pieces.specs.Shapes.{begins, fits, number_at}
use Rattle.reread_pieces.specs.Rows as rows
use Rattle.reread_pieces.specs.Rows.{after_tokens, is_after_statement, row_at, row_of}
use Rattle.reread_pieces.specs.Pieces.{Here, Mark, Shaped, ArePieces, after, later, marked, next, passed, site_of, size, start, type_words, value_shape}
use Rattle.reread_pieces.specs.Pieces as p
use Rattle.reread_pieces.specs.Plain.{first_start, laid, place_after, placed, plain_of, text_for, text_of, token_of}
use Rattle.reread_pieces.specs.steps.Views.{marks_of}
use Rattle.reread_program.specs.steps.Short.{AreShort, IsShort}

-- ---- tokens in their order

-- From a byte on each token has a text, starts where the one before ends or later, and the last one
-- ends at another byte or before.
abbrev Lie : ℕ → ℕ → List Tok → Type 0
Lie at n [] = at ≤ n
Lie at n (t ∷ ts) = (at ≤ t.start) × ((0 < length t.text) × Lie (t.start + length t.text) n ts)

widen : (a b n m : ℕ) (ts : List Tok) → b ≤ a → n ≤ m → Lie a n ts → Lie b m ts
widen a b n m [] low high h = omega (arith, low, high, h)
widen a b n m (t ∷ ts) low high h =
    let e = t.start + length t.text in
    (omega (arith, low, h.0), (h.1.0, widen e e n m ts (omega arith) high h.1.1))

within : (at n : ℕ) (ts : List Tok) → Lie at n ts → at ≤ n
within at n [] h = h
within at n (t ∷ ts) h = omega (arith, h.0, within (t.start + length t.text) n ts h.1.1)

lies : {dialect : Dialect} {before bs : List ℕ} {ts : List Tok} {stop : Option LexFault}
    → Scans dialect before bs ts stop → Lie (length before) (length before + length bs) ts
lies (r.ends before) = omega arith
lies (r.gap before text rest bs ts stop w g s) =
    widen (length (before ++ text)) (length before) (length (before ++ text) + length rest) (length before + length bs) ts
    (omega (arith, length-append before text)) (omega (arith, length-append before text, ap length w, length-append text rest)) (lies s)
lies {dialect = dialect} (r.token before text rest bs kind ts stop nc l s) =
    let c = stood dialect text (Ok kind) l.means in (
      omega arith,
      (
        stands_full c.class text c.stands,
        widen (length (before ++ text)) (length before + length text) (length (before ++ text) + length rest) (length before + length bs) ts
            (omega (arith, length-append before text)) (omega (arith, length-append before text, ap length l.whole, length-append text rest)) (lies s),
      ),
    )
lies (r.stops before bs why s) = omega arith

dropped : (k at n : ℕ) (ts : List Tok) → Lie at n ts → Lie at n (after_tokens k ts)
dropped k at n [] h = h
dropped zero at n (t ∷ ts) h = h
dropped (suc k) at n (t ∷ ts) h =
    let e = t.start + length t.text in
    dropped k at n ts (widen e at n n ts (omega (arith, h.0)) (omega arith) h.1.1)

-- ---- the words before a value

abbrev IsNamed : List (List ℕ) → Type 0
IsNamed [] = ⊥
IsNamed (w ∷ ws) = (w ≡ codes "mcdc_v") ⊎ IsNamed ws

named_after : (ws vs : List (List ℕ)) → IsNamed vs → IsNamed (ws ++ vs)
named_after [] vs h = h
named_after (w ∷ ws) vs h = inr (named_after ws vs h)

named_before : (ws vs : List (List ℕ)) → IsNamed ws → IsNamed (ws ++ vs)
named_before [] vs h = absurd h
named_before (w ∷ ws) vs (inl e) = inl e
named_before (w ∷ ws) vs (inr h) = inr (named_before ws vs h)

shape_named : (item : List Tok) → IsNamed (value_shape item)
shape_named item =
    named_before (type_words item ++ codes "mcdc_v" ∷ []) (codes "=" ∷ []) (named_after (type_words item) (codes "mcdc_v" ∷ []) (inl refl))

name_fits : (t : Tok) → fits (codes "mcdc_v") t ≡ true → length t.text ≡ 6
name_fits t e = ap length ((bytes_eq-Decides t.text (codes "mcdc_v")).0 e)

-- the name has the length of `return`
long : (ws : List (List ℕ)) (at n : ℕ) (ts : List Tok) → IsNamed ws → Lie at n ts → begins ws ts ≡ true → at + 6 ≤ n
long [] at n ts named h b = absurd named
long (w ∷ ws) at n [] named h b = absurd (cc b)
long (w ∷ ws) at n (t ∷ ts) (inl e) h b =
    let six = name_fits t (subst (λ x. fits x t ≡ true) e (both (fits w t) (begins ws ts) b).0) in
    omega (arith, h.0, six, within (t.start + length t.text) n ts h.1.1)
long (w ∷ ws) at n (t ∷ ts) (inr named) h b =
    omega (arith, h.0, long ws (t.start + length t.text) n ts named h.1.1 (both (fits w t) (begins ws ts) b).1)

-- ---- what a row says of its place

module _ (s : Site) (value : List (List ℕ)) (ts : List Tok) where
  abbrev Told : What → Type 0
  Told (what.Statement bit) = s.inside ≡ true
  Told what.Value = (is_after_statement s.before ≡ true) × (begins value (after_tokens 1 ts) ≡ true)
  Told _ = Unit {0}

  abbrev Tells : Option What → Type 0
  Tells None = Unit {0}
  Tells (Some w) = Told w

  by_test : (c : Bool) (x y : Option What) → (c ≡ true → Tells x) → Tells y → Tells (if c then x else y)
  by_test true x y a b = a refl
  by_test false x y a b = b

  only_if : (c : Bool) (w : What) → (c ≡ true → Told w) → Tells (if c then Some w else None)
  only_if c w a = by_test c (Some w) None a tt

  abbrev declaration : Option What
  declaration =
      if s.inside && may_begin_declaration (after_tokens 5 ts)
      then Some (what.Declaration (number_at 2 ts)) else None

  abbrev exit : Option What
  exit =
      if rows.is_body s.innermost && rows.sees_brace (after_tokens 5 ts)
      then Some (what.Exit (number_at 2 ts)) else declaration

  abbrev entry : Option What
  entry = if rows.is_front s.before then Some (what.Entry (number_at 2 ts)) else exit

  hit : Tells (rows.hit_row s ts)
  hit =
      by_test (not (rows.is_hit ts)) None entry (λ e. tt)
      (by_test (rows.is_front s.before) (Some (what.Entry (number_at 2 ts))) exit (λ e. tt)
      (by_test (rows.is_body s.innermost && rows.sees_brace (after_tokens 5 ts)) (Some (what.Exit (number_at 2 ts))) declaration (λ e. tt)
      (by_test (s.inside && may_begin_declaration (after_tokens 5 ts)) (Some (what.Declaration (number_at 2 ts))) None (λ e. tt) tt)))

  abbrev absent : Option What
  absent =
      if rows.is_statement s.innermost then Some (what.Default (number_at 2 ts) (number_at 4 ts)) else None

  abbrev present : Option What
  present =
      if s.inside && rows.is_colon s.before then Some (what.Label (number_at 2 ts) (number_at 4 ts)) else absent

  label : Tells (rows.label_row s ts)
  label =
      by_test (not (rows.is_label ts)) None present (λ e. tt)
      (by_test (s.inside && rows.is_colon s.before) (Some (what.Label (number_at 2 ts) (number_at 4 ts))) absent (λ e. tt)
      (by_test (rows.is_statement s.innermost) (Some (what.Default (number_at 2 ts) (number_at 4 ts))) None (λ e. tt) tt))

  is_inside : (i c : Bool) → (i && c) ≡ true → i ≡ true
  is_inside true c e = refl
  is_inside false c e = absurd (cc e)

  abbrev value_row : Option What
  value_row = if begins value (after_tokens 1 ts) then Some what.Value else None

  abbrev counted : Bool
  counted = s.inside && rows.is_counted ts && rows.is_no_declaration (after_tokens 6 ts)

  in_statement : is_after_statement s.before ≡ true → Tells (rows.exit_row value ts)
  in_statement e =
      by_test (rows.is_return ts) (Some (what.Return (number_at 3 ts))) value_row (λ f. tt)
      (by_test (begins value (after_tokens 1 ts)) (Some what.Value) None (λ b. (e, b)) tt)

  elsewhere : Tells
      (if counted then Some (what.Statement (number_at 3 ts)) else Some (what.Opening (rows.brace s)))
  elsewhere =
      by_test counted (Some (what.Statement (number_at 3 ts))) (Some (what.Opening (rows.brace s)))
      (λ e. is_inside s.inside (rows.is_counted ts) (is_inside (s.inside && rows.is_counted ts) (rows.is_no_declaration (after_tokens 6 ts)) e)) tt

  brace : Tells (rows.brace_row s value ts)
  brace =
      by_test (is_after_statement s.before) (rows.exit_row value ts)
      (if counted then Some (what.Statement (number_at 3 ts)) else Some (what.Opening (rows.brace s)))
      in_statement elsewhere

  parenthesis_end : (o : Option Bracket) → Tells (rows.parenthesis_end o)
  parenthesis_end None = tt
  parenthesis_end (Some bracket.Parenthesis) = tt
  parenthesis_end (Some bracket.Square) = tt
  parenthesis_end (Some bracket.Brace) = tt
  parenthesis_end (Some bracket.Body) = tt
  parenthesis_end (Some bracket.Statement) = tt
  parenthesis_end (Some bracket.Value) = tt
  parenthesis_end (Some bracket.Exit) = tt
  parenthesis_end (Some bracket.Operand) = tt

  square_end : (o : Option Bracket) → Tells (rows.square_end o)
  square_end None = tt
  square_end (Some bracket.Parenthesis) = tt
  square_end (Some bracket.Square) = tt
  square_end (Some bracket.Brace) = tt
  square_end (Some bracket.Body) = tt
  square_end (Some bracket.Statement) = tt
  square_end (Some bracket.Value) = tt
  square_end (Some bracket.Exit) = tt
  square_end (Some bracket.Operand) = tt

  brace_end : (o : Option Bracket) (b : Before) → Tells (rows.brace_end_in o b)
  brace_end None b = tt
  brace_end (Some bracket.Parenthesis) b = tt
  brace_end (Some bracket.Square) b = tt
  brace_end (Some bracket.Brace) b = tt
  brace_end (Some bracket.Body) b = tt
  brace_end (Some bracket.Statement) b = by_test (is_after_statement b) _ _ (λ e. tt) tt
  brace_end (Some bracket.Value) b = tt
  brace_end (Some bracket.Exit) b = tt
  brace_end (Some bracket.Operand) b = tt

  row : (w : Word) → Tells (row_of w s value ts)
  row word.Hit = hit
  row word.Label = label
  row word.Decision = only_if (rows.is_decision ts && not (rows.is_name s.before)) (what.Decision (number_at 2 ts) (number_at 4 ts)) (λ e. tt)
  row word.Condition =
      only_if (rows.is_condition ts && not (rows.is_name s.before))
      (what.Condition (number_at 2 ts) (number_at 4 ts) (number_at 6 ts)) (λ e. tt)
  row word.Switch = only_if (rows.is_switch ts && not (rows.is_name s.before)) (what.Switch (number_at 2 ts)) (λ e. tt)
  row word.Inner = tt
  row word.OpenParenthesis = tt
  row word.CloseParenthesis = parenthesis_end s.innermost
  row word.OpenSquare = tt
  row word.CloseSquare = square_end s.innermost
  row word.OpenBrace = brace
  row word.CloseBrace = brace_end s.innermost s.before
  row word.Semicolon =
      by_test (not (rows.is_value s.innermost)) (Some what.Source)
      (if rows.is_value_end ts then Some (what.ValueEnd (number_at 3 ts)) else None) (λ e. tt)
      (only_if (rows.is_value_end ts) (what.ValueEnd (number_at 3 ts)) (λ e. tt))
  row word.Other =
      by_test (rows.is_at_front s.before && rows.is_registers ts && not (number_at 3 ts == 0))
      (Some (what.Registers (number_at 3 ts))) (Some what.Source) (λ e. tt) tt

-- the piece with which tokens begin: the first of them, and a row that says so
told : (h : Here) (t : Tok) (ts : List Tok) (m : Mark) → next h (t ∷ ts) ≡ Some m
    → Told (site_of h) h.value (t ∷ ts) m.row × (m.token ≡ t)
told h t ts m e = by_row (row_at (site_of h) h.value (t ∷ ts)) (row (site_of h) h.value (t ∷ ts) (word_of t)) e
  where
    by_row : (o : Option What) → Tells (site_of h) h.value (t ∷ ts) o → marked t ts o ≡ Some m
        → Told (site_of h) h.value (t ∷ ts) m.row × (m.token ≡ t)
    by_row None tells is = absurd (cc is)
    by_row (Some w) tells is =
        let one : Mark = record { row = w; token = t; word = p.word_start w t ts } in
        let same : one ≡ m = cc is in
        subst (λ (x : Mark). Told (site_of h) h.value (t ∷ ts) x.row × (x.token ≡ t)) same (tells, refl)

-- ---- what holds of each place

-- In a function's body it is known what stands before a value.
abbrev Good : Here → Type 0
Good h = (h.inside ≡ true → IsNamed h.value) × (is_after_statement h.before ≡ true → IsNamed h.value)

same_value : (h : Here) (c : Bool) → Good h → ((h.inside && c) ≡ true → IsNamed h.value) × (false ≡ true → IsNamed h.value)
same_value h c g = (λ e. g.0 (by_inside h.inside e), λ e. absurd (cc e))
  where
    by_inside : (i : Bool) → (i && c) ≡ true → i ≡ true
    by_inside true e = refl
    by_inside false e = absurd (cc e)

-- what stands before after a token of the source is no probe
no_statement : (t : Tok) → is_after_statement (before_of t) ≡ false
no_statement t =
    either (is (codes ":") t) _ _ refl (either (is (codes ")") t) _ _ refl (either (is_name t) _ _ refl refl))
  where
    either : (c : Bool) (x y : Before) → is_after_statement x ≡ false → is_after_statement y ≡ false → is_after_statement (if c then x else y) ≡ false
    either true x y a b = a
    either false x y a b = b

after_source : (h : Here) (c : Bool) (t : Tok) → Good h → ((h.inside && c) ≡ true → IsNamed h.value) × (is_after_statement (before_of t) ≡ true → IsNamed h.value)
after_source h c t g = ((same_value h c g).0, λ e. absurd (cc (no_statement t, e)))

kept : (h : Here) (w : What) (t : Tok) (rest ts : List Tok) → Told (site_of h) h.value ts w → Good h → Good (after h w t rest)
kept h what.Source t rest ts says g = after_source h _ t g
kept h (what.Opening bracket.Parenthesis) t rest ts says g = same_value h _ g
kept h (what.Opening bracket.Square) t rest ts says g = same_value h _ g
kept h (what.Opening bracket.Brace) t rest ts says g = same_value h _ g
kept h (what.Opening bracket.Body) t rest ts says g = (λ e. shape_named h.item, λ e. shape_named h.item)
kept h (what.Opening bracket.Statement) t rest ts says g = same_value h _ g
kept h (what.Opening bracket.Value) t rest ts says g = same_value h _ g
kept h (what.Opening bracket.Exit) t rest ts says g = same_value h _ g
kept h (what.Opening bracket.Operand) t rest ts says g = same_value h _ g
kept h what.Closing t rest ts says g = after_source h _ t g
kept h (what.Registers count) t rest ts says g = same_value h _ g
kept h (what.Entry bit) t rest ts says g = same_value h _ g
kept h (what.Exit bit) t rest ts says g = same_value h _ g
kept h (what.Declaration bit) t rest ts says g = same_value h _ g
kept h (what.Label register bit) t rest ts says g = same_value h _ g
kept h (what.Default register bit) t rest ts says g = same_value h _ g
kept h (what.Statement bit) t rest ts says g = ((same_value h _ g).0, λ e. g.0 says)
kept h what.StatementEnd t rest ts says g = same_value h _ g
kept h what.Value t rest ts says g = same_value h _ g
kept h (what.ValueEnd bit) t rest ts says g = same_value h _ g
kept h (what.Return bit) t rest ts says g = same_value h _ g
kept h what.ReturnEnd t rest ts says g = same_value h _ g
kept h (what.Decision register base) t rest ts says g = same_value h _ g
kept h (what.Condition register on_true on_false) t rest ts says g = same_value h _ g
kept h (what.Switch register) t rest ts says g = same_value h _ g
kept h what.OperandEnd t rest ts says g = same_value h _ g

-- ---- pieces

-- a piece, and the text that it leaves
abbrev Fit : ℕ → List (List ℕ) → What → Tok → Type 0
Fit n value w t =
    (t.start + length (text_for w t.text) ≤ n) × ((0 < length (text_for w t.text)) × (0 < size value w))

no_tokens : (ts : List Tok) → after_tokens zero ts ≡ ts
no_tokens [] = refl
no_tokens (t ∷ ts) = refl

value_long : (h : Here) (t : Tok) (ts : List Tok) (at n : ℕ) → Lie at n (t ∷ ts) → Good h → Told (site_of h) h.value (t ∷ ts) what.Value → t.start + 6 ≤ n
value_long h t ts at n l g (says, starts) =
    let from = subst (λ (us : List Tok). begins h.value us ≡ true) (no_tokens ts) starts in
    omega (arith, long h.value (t.start + length t.text) n ts (g.1 says) l.1.1 from)

fit : (h : Here) (w : What) (t : Tok) (ts : List Tok) (at n : ℕ) → Lie at n (t ∷ ts) → Good h → Told (site_of h) h.value (t ∷ ts) w → Fit n h.value w t
fit h what.Source t ts at n l g says = (within (t.start + length t.text) n ts l.1.1, (l.1.0, omega arith))
fit h (what.Opening b) t ts at n l g says = (within (t.start + length t.text) n ts l.1.1, (l.1.0, omega arith))
fit h what.Closing t ts at n l g says = (within (t.start + length t.text) n ts l.1.1, (l.1.0, omega arith))
fit h (what.Registers count) t ts at n l g says = (within (t.start + length t.text) n ts l.1.1, (l.1.0, omega arith))
fit h (what.Entry bit) t ts at n l g says = (within (t.start + length t.text) n ts l.1.1, (l.1.0, omega arith))
fit h (what.Exit bit) t ts at n l g says = (within (t.start + length t.text) n ts l.1.1, (l.1.0, omega arith))
fit h (what.Declaration bit) t ts at n l g says = (within (t.start + length t.text) n ts l.1.1, (l.1.0, omega arith))
fit h (what.Label register bit) t ts at n l g says = (within (t.start + length t.text) n ts l.1.1, (l.1.0, omega arith))
fit h (what.Default register bit) t ts at n l g says = (within (t.start + length t.text) n ts l.1.1, (l.1.0, omega arith))
fit h (what.Statement bit) t ts at n l g says = (omega (arith, l.1.0, within (t.start + length t.text) n ts l.1.1), (omega arith, omega arith))
fit h what.StatementEnd t ts at n l g says = (omega (arith, l.1.0, within (t.start + length t.text) n ts l.1.1), (omega arith, omega arith))
fit h what.Value t ts at n l g says = (omega (arith, value_long h t ts at n l g says), (omega arith, omega arith))
fit h (what.ValueEnd bit) t ts at n l g says = (within (t.start + length t.text) n ts l.1.1, (l.1.0, omega arith))
fit h (what.Return bit) t ts at n l g says = (within (t.start + length t.text) n ts l.1.1, (l.1.0, omega arith))
fit h what.ReturnEnd t ts at n l g says = (within (t.start + length t.text) n ts l.1.1, (l.1.0, omega arith))
fit h (what.Decision register base) t ts at n l g says = (omega (arith, l.1.0, within (t.start + length t.text) n ts l.1.1), (omega arith, omega arith))
fit h (what.Condition register on_true on_false) t ts at n l g says = (omega (arith, l.1.0, within (t.start + length t.text) n ts l.1.1), (omega arith, omega arith))
fit h (what.Switch register) t ts at n l g says = (omega (arith, l.1.0, within (t.start + length t.text) n ts l.1.1), (omega arith, omega arith))
fit h what.OperandEnd t ts at n l g says = (omega (arith, l.1.0, within (t.start + length t.text) n ts l.1.1), (omega arith, omega arith))

abbrev AllFit : ℕ → List Mark → Type 0
AllFit n [] = Unit {0}
AllFit n (m ∷ ms) =
    ((m.token.start + length (text_of m) ≤ n) × (0 < length (text_of m))) × AllFit n ms

shorter : (k : ℕ) (ts : List Tok) → length (after_tokens k ts) ≤ length ts
shorter k [] = omega arith
shorter zero (t ∷ ts) = omega arith
shorter (suc k) (t ∷ ts) = omega (arith, shorter k ts)

shorter_by_one : (k : ℕ) (t : Tok) (ts : List Tok) → 0 < k → length (after_tokens k (t ∷ ts)) < length (t ∷ ts)
shorter_by_one zero t ts some = absurd (omega (arith, some))
shorter_by_one (suc k) t ts some = omega (arith, shorter k ts)

pieces_fit : {h : Here} {ts : List Tok} {ms : List Mark} → Shaped h ts ms → (at n : ℕ) → Lie at n ts → Good h
    → AllFit n ms × (length ms ≤ length ts)
pieces_fit (p.ends e) at n l g = (tt, omega arith)
pieces_fit (p.piece {h = h} {m = m} {ts = []} {ps = ms} e s) at n l g = absurd (cc e)
pieces_fit (p.piece {h = h} {m = m} {ts = t ∷ ts} {ps = ms} e s) at n l g =
    let (says, first) = told h t ts m e in
    let one = fit h m.row t ts at n l g says in
    let later = pieces_fit s at n (dropped (size h.value m.row) at n (t ∷ ts) l) (kept h m.row m.token (later h m.row (t ∷ ts)) (t ∷ ts) says g) in
    let own : (m.token.start + length (text_of m) ≤ n) × (0 < length (text_of m)) =
    subst (λ (u : Tok). (u.start + length (text_for m.row u.text) ≤ n) × (0 < length (text_for m.row u.text))) (sym first) (one.0, one.1.0) in
    ((own, later.0), omega (arith, later.1, shorter_by_one (size h.value m.row) t ts one.1.1))

-- ---- the tokens that they leave

after_small : (at k n : ℕ) → at + k ≤ n → n < 2 ^ 31 → place_after at k ≤ n
after_small at k n inside small =
    let fits : nat_le (at + k) 4294967295 ≡ true = grind (arith, nat_tests) in
    rw fits inside

-- They are short, the first starts where one more byte may, and they are no more than the pieces.
abbrev Fine : ℕ → List Mark → Type 0
Fine end ms =
    AreShort (placed (laid end ms))
    × ((first_start (placed (laid end ms)) + 1 < 2 ^ 31) × (length (placed (laid end ms)) ≤ length ms))

module _ (n : ℕ) (ms : List Mark) (small : n < 2 ^ 31) (more : (end : ℕ) → end ≤ n → Fine end ms) where
  Leaves : Tok → ℕ → Type 0
  Leaves t end =
      AreShort (t ∷ placed (laid end ms))
      × ((t.start + 1 < 2 ^ 31) × (suc (length (placed (laid end ms))) ≤ suc (length ms)))

  own : (t : Tok) → t.start + length t.text ≤ n → 0 < length t.text → Leaves t (place_after t.start (length t.text))
  unfolding Leaves
  own t inside some =
      let later = more (place_after t.start (length t.text)) (after_small t.start (length t.text) n inside small) in
      ((omega (arith, inside, small), later.0), (omega (arith, inside, some, small), omega (arith, later.1.1)))

  opens : (kind : TokenKind) (text : List ℕ) (end : ℕ) → length text ≡ 1 → end ≤ n
      → Leaves (record { kind = kind; text = text; start = first_start (placed (laid end ms)) }) end
  unfolding Leaves
  opens kind text end one le =
      let later = more end le in
      ((omega (arith, one, later.1.0), later.0), (later.1.0, omega (arith, later.1.1)))

  closes : (kind : TokenKind) (text : List ℕ) (end : ℕ) → length text ≡ 1 → end ≤ n
      → Leaves (record { kind = kind; text = text; start = end - 1 }) end
  unfolding Leaves
  closes kind text end one le =
      let later = more end le in
      ((omega (arith, one, le, small), later.0), (omega (arith, le, small), omega (arith, later.1.1)))

  none : (end : ℕ) → end ≤ n
      → AreShort (placed (laid end ms)) × ((first_start (placed (laid end ms)) + 1 < 2 ^ 31) × (length (placed (laid end ms)) ≤ suc (length ms)))
  none end le = let later = more end le in (later.0, (later.1.0, omega (arith, later.1.1)))

  front : (w : What) (t : Tok) (k end : ℕ) → end ≤ n → t.start + length (text_for w t.text) ≤ n → 0 < length (text_for w t.text)
      → Fine end (record { row = w; token = t; word = k } ∷ ms)
  unfolding Leaves
  front what.Source t k end le inside some =
      own (token_of (record { row = what.Source; token = t; word = k }) end) inside some
  front (what.Opening b) t k end le inside some =
      own (token_of (record { row = what.Opening b; token = t; word = k }) end) inside some
  front what.Closing t k end le inside some =
      own (token_of (record { row = what.Closing; token = t; word = k }) end) inside some
  front (what.Registers count) t k end le inside some = none end le
  front (what.Entry bit) t k end le inside some = none end le
  front (what.Exit bit) t k end le inside some = none end le
  front (what.Declaration bit) t k end le inside some = none end le
  front (what.Label register bit) t k end le inside some = none end le
  front (what.Default register bit) t k end le inside some = none end le
  front (what.Statement bit) t k end le inside some = opens Punctuator (codes "{") end refl le
  front what.StatementEnd t k end le inside some = closes Punctuator (codes "}") end refl le
  front what.Value t k end le inside some =
      own (token_of (record { row = what.Value; token = t; word = k }) end) inside some
  front (what.ValueEnd bit) t k end le inside some =
      own (token_of (record { row = what.ValueEnd bit; token = t; word = k }) end) inside some
  front (what.Return bit) t k end le inside some = none end le
  front what.ReturnEnd t k end le inside some = none end le
  front (what.Decision register base) t k end le inside some = opens Punctuator (codes "(") end refl le
  front (what.Condition register on_true on_false) t k end le inside some = opens Punctuator (codes "(") end refl le
  front (what.Switch register) t k end le inside some = opens Punctuator (codes "(") end refl le
  front what.OperandEnd t k end le inside some = closes Punctuator (codes ")") end refl le

fine : (n : ℕ) (ms : List Mark) (end : ℕ) → n < 2 ^ 31 → end ≤ n → AllFit n ms → Fine end ms
fine n [] end small le all = (tt, (omega arith, omega arith))
fine n (m ∷ ms) end small le all =
    front n ms small (λ e l. fine n ms e small l all.1) m.row m.token m.word end le all.0.0 all.0.1

-- ---- a whole text

plain_short : (dialect : Dialect) (text : List ℕ) (ts : List Tok) (stop : Option LexFault) (ms : List Mark) → length text < 2 ^ 31
    → Scans dialect [] text ts stop → ArePieces ts ms → length ts ≤ length text
    → AreShort (plain_of ms) × (length (plain_of ms) < 2 ^ 31)
plain_short dialect text ts stop ms small scans are few =
    let known : Good (start ts) = (λ e. absurd (cc e), λ e. absurd (cc e)) in
    let inside : Lie 0 (length text) ts =
    widen 0 0 (0 + length text) (length text) ts (omega arith) (omega arith) (lies scans) in
    let fit = pieces_fit are 0 (length text) inside known in
    let all = fine (length text) ms 0 small (omega arith) fit.0 in
    (all.0, omega (arith, all.1.1, fit.1, few, small))

-- what the program hands on: `tokens` and `pieces` are what it found, `lent` and `given` what it lends of these
pieces_plain : (text : List ℕ) (tokens lent : List Token) (pieces given : List Piece) → length text < 2 ^ 31
    → Scans Instrumented [] text (toks_of tokens) None → lent ≡ tokens → ArePieces (toks_of lent) (marks_of pieces) → given ≡ pieces
    → length tokens ≤ length text → AreShort (plain_of (marks_of given)) × (length (plain_of (marks_of given)) < 2 ^ 31)
pieces_plain text tokens lent pieces given small scans same are also few =
    let there : ArePieces (toks_of tokens) (marks_of pieces) =
    subst (λ (ts : List Token). ArePieces (toks_of ts) (marks_of pieces)) same are in
    let count : length (toks_of tokens) ≤ length text = rw length-map few in
    let found = plain_short Instrumented text (toks_of tokens) None (marks_of pieces) small scans there count in
    subst (λ (ps : List Piece). AreShort (plain_of (marks_of ps)) × (length (plain_of (marks_of ps)) < 2 ^ 31)) (sym also) found

pub pieces_short : (text : List ℕ) (tokens lent : List Token) (pieces given : List Piece) → length text < 2 ^ 31
    → Scans Instrumented [] text (toks_of tokens) None → lent ≡ tokens → ArePieces (toks_of lent) (marks_of pieces) → given ≡ pieces
    → length tokens ≤ length text → AreShort (plain_of (marks_of given))
pieces_short text tokens lent pieces given small scans same are also few =
    (pieces_plain text tokens lent pieces given small scans same are also few).0

pub pieces_few : (text : List ℕ) (tokens lent : List Token) (pieces given : List Piece) → length text < 2 ^ 31
    → Scans Instrumented [] text (toks_of tokens) None → lent ≡ tokens → ArePieces (toks_of lent) (marks_of pieces) → given ≡ pieces
    → length tokens ≤ length text → length (plain_of (marks_of given)) < 2 ^ 31
pieces_few text tokens lent pieces given small scans same are also few =
    (pieces_plain text tokens lent pieces given small scans same are also few).1

short_at : (ts : List Tok) (k : ℕ) (d : Tok) → AreShort ts → k < length ts → IsShort (get_or ts k d)
short_at [] k d all inside = absurd (omega (arith, inside))
short_at (t ∷ ts) zero d all inside = all.0
short_at (t ∷ ts) (suc k) d all inside = short_at ts k d all.1 (omega (arith, inside))

-- what the parser asks of the tokens of the program
pub tokens_short : (tokens : List Token) (all : List Tok) → toks_of tokens ≡ all → AreShort all
    → All (λ (token : Token). token.start + length token.text.now < 2 ^ 31) tokens
tokens_short tokens all same short = λ k d inside.
    let there : k < length (toks_of tokens) = rw length-map inside in
    subst IsShort (get_or-map tok_of tokens k d) (short_at (toks_of tokens) k (tok_of d) (subst AreShort (sym same) short) there)

pub tokens_few : (tokens : List Token) (all : List Tok) → toks_of tokens ≡ all → length all < 2 ^ 31 → length tokens < 2 ^ 31
tokens_few tokens all same few = omega (arith, few, ap length same, length-map tokens tok_of)
