-- Parts that may stand where they do are read as what they are.
use Rattle.std.proofs.Common.{◌≡◌, ◌≤◌, ◌+◌, inl, inr, ℕ, zero, suc, nat_le, nat_eq, Bool, true, false, not, ◌&&◌, ◌||◌, cond, List, [], ◌∷◌, ◌++◌, length, Option, Some, None, codes, decimal, refl, sym, ap, subst, ◌∙◌, arith, append_assoc}
use Rattle.std.proofs.lemmas.Bool.Decides.{nat_tests}
use Rattle.std.proofs.lemmas.Fmt.{decimal_digit}
use Rattle.std.specs.List.{list_any}
use Rattle.std.specs.Str.{bytes_eq}
use Rattle.mc_lex.specs.declared.token.TokenKind.TheVariants.{Constant}
use Rattle.mc_lex.specs.Tokens.{Tok}
use Rattle.mc_lex.proofs.Texts.{text_itself}
use Rattle.reread_pieces.specs.declared.bracket.Bracket.{Bracket}
use Rattle.reread_pieces.specs.declared.bracket.Bracket.TheVariants as bracket
use Rattle.reread_pieces.specs.declared.word.Word.{Word}
use Rattle.reread_pieces.specs.declared.word.Word.TheVariants as word
use Rattle.reread_pieces.specs.declared.piece.What.{What}
use Rattle.reread_pieces.specs.declared.piece.What.TheVariants as what
use Rattle.reread_pieces.specs.Words.{word_of, begins_declaration, may_begin_declaration}
use Rattle.reread_pieces.specs.Shapes.{hit, registers, label, statement, value_end, bare_return, decision, condition, switch, is_number, is_number_kind, value_of, begins, number_at}
use Rattle.reread_pieces.specs.Rows.{after_tokens, is_front, is_at_front, is_after_statement, is_colon, is_name, is_body, is_statement, is_value, begins_body, sees_brace, is_hit, is_label, is_decision, is_condition, is_switch, is_return, is_counted, is_no_declaration, is_value_end, is_registers, brace, brace_end_in, parenthesis_end, square_end, exit_row, row_of, row_at}
use Rattle.reread_pieces.specs.Pieces.{Here, Shaped, innermost, site_of, size, later, next, marked, word_start, word_is_second}
use Rattle.reread_pieces.specs.Pieces as pieces
use Rattle.reread_law_printed.specs.spelled.Words.{kind_in, number}
use Rattle.reread_law_printed.specs.parts.Parts.{Part, own, row_part, row_texts, words_of}
use Rattle.reread_law_printed.specs.parts.Marks.{mark_of, marks_from, first_token}
use Rattle.reread_law_printed.specs.parts.Marks as marks
use Rattle.reread_law_printed.specs.parts.Shaped.{tokens_at, Closes, OpensBrace, MayBe, AreWords, MayStand, IsShaped, ends, kept, put}

-- ---- tests

module _ {X : Type 0} where
  pick_true : (b : Bool) (x y : X) → b ≡ true → cond b x y ≡ x
  pick_true b x y e = ap (λ c. cond c x y) e

  pick_false : (b : Bool) (x y : X) → b ≡ false → cond b x y ≡ y
  pick_false b x y e = ap (λ c. cond c x y) e

all_true : (a b : Bool) → a ≡ true → b ≡ true → (a && b) ≡ true
all_true a b e f = ap (λ c. c && b) e ∙ f

pub and_false : (a b : Bool) → b ≡ false → (a && b) ≡ false
and_false true b e = e
and_false false b e = refl

either : (a b : Bool) → (a || b) ≡ false → (a ≡ false) × (b ≡ false)
either true b e = absurd (cc)
either false b e = (refl, e)

after_zero : (ts : List Tok) → after_tokens 0 ts ≡ ts
after_zero [] = refl
after_zero (t ∷ ts) = refl

module _ (source : List Tok) (numerals : (n : ℕ) → n ≤ 4294967295 → kind_in source (decimal n) ≡ number n) where
  abbrev T : ℕ → List (List ℕ) → List Tok
  T at words = tokens_at source at words

  abbrev Short : ℕ → Type 0
  Short n = n ≤ 4294967295

  -- ---- numbers

  number_kind : (n : ℕ) → Short n → is_number_kind (number n) (decimal n) ≡ true
  number_kind zero h = ap (λ t. is_number_kind (number 0) t) (decimal_digit 0 (omega arith))
  number_kind (suc m) h =
      let some : nat_eq (suc m) 0 ≡ false = grind (arith, nat_tests) in
      let e : nat_le (suc m) 4294967295 ≡ true = grind (arith, nat_tests) in
      ap (λ b. is_number_kind (Constant (suc m) (not b) false 0) (decimal (suc m))) some ∙ e

  number_ok : (n at : ℕ) → Short n → is_number (marks.token source at (decimal n)) ≡ true
  number_ok n at h = ap (λ k. is_number_kind k (decimal n)) (numerals n h) ∙ number_kind n h

  value_ok : (n : ℕ) → Short n → value_of (kind_in source (decimal n)) ≡ n
  value_ok n h = ap value_of (numerals n h) ∙ pick_true (nat_le n 4294967295) n 0 (grind (arith, nat_tests))

  one_number : (n at : ℕ) → Short n → (is_number (marks.token source at (decimal n)) && true) ≡ true
  one_number n at h = ap (λ c. c && true) (number_ok n at h)

  -- ---- shapes

  hit_ok : (b at : ℕ) (words : List (List ℕ)) → Short b → is_hit (T at (row_texts [] (what.Entry b) ++ words)) ≡ true
  unfolding hit
  hit_ok b at words h = one_number b 0 h

  label_ok : (r b at : ℕ) (words : List (List ℕ)) → Short r → Short b → is_label (T at (row_texts [] (what.Label r b) ++ words)) ≡ true
  unfolding label
  label_ok r b at words h k = all_true (is_number (marks.token source 0 (decimal r))) _ (number_ok r 0 h) (one_number b 0 k)

  decision_ok : (r base at : ℕ) (words : List (List ℕ)) → Short r → Short base → is_decision (T at (row_texts [] (what.Decision r base) ++ words)) ≡ true
  unfolding decision
  decision_ok r base at words h k = all_true (is_number (marks.token source 0 (decimal r))) _ (number_ok r 0 h) (one_number base 0 k)

  condition_ok : (r t f at : ℕ) (words : List (List ℕ)) → Short r → Short t → Short f → is_condition (T at (row_texts [] (what.Condition r t f) ++ words)) ≡ true
  unfolding condition
  condition_ok r t f at words h k l =
      all_true (is_number (marks.token source 0 (decimal r))) _ (number_ok r 0 h)
      (all_true (is_number (marks.token source 0 (decimal t))) _ (number_ok t 0 k) (one_number f 0 l))

  switch_ok : (r at : ℕ) (words : List (List ℕ)) → Short r → is_switch (T at (row_texts [] (what.Switch r) ++ words)) ≡ true
  unfolding switch
  switch_ok r at words h = one_number r 0 h

  registers_ok : (n at : ℕ) (words : List (List ℕ)) → Short n → is_registers (T at (row_texts [] (what.Registers n) ++ words)) ≡ true
  unfolding registers
  registers_ok n at words h = one_number n 0 h

  counted_ok : (b at : ℕ) (words : List (List ℕ)) → Short b → is_counted (T at (row_texts [] (what.Statement b) ++ words)) ≡ true
  unfolding statement
  counted_ok b at words h = one_number b 0 h

  value_end_ok : (b at : ℕ) (words : List (List ℕ)) → Short b → is_value_end (T at (row_texts [] (what.ValueEnd b) ++ words)) ≡ true
  unfolding value_end
  value_end_ok b at words h = one_number b 0 h

  return_ok : (b at : ℕ) (words : List (List ℕ)) → Short b → begins (codes "return" ∷ codes ";" ∷ codes "}" ∷ []) (T (marks.after at (row_texts [] (what.Return b))) words) ≡ true
      → is_return (T at (row_texts [] (what.Return b) ++ words)) ≡ true
  unfolding bare_return
  return_ok b at words h e = all_true (is_number (marks.token source 0 (decimal b))) _ (number_ok b 0 h) e

  -- ---- the words of a type

  abbrev ending : List (List ℕ)
  ending = codes "mcdc_v" ∷ codes "=" ∷ []

  fits_itself : (x : List ℕ) (t : Tok) → bytes_eq x (codes "#") ≡ false → cond (bytes_eq x (codes "#")) (is_number t) (bytes_eq x x) ≡ true
  fits_itself x t e = pick_false (bytes_eq x (codes "#")) (is_number t) (bytes_eq x x) e ∙ text_itself x x refl

  begins_ok : (type : List (List ℕ)) (at : ℕ) (words : List (List ℕ)) → list_any (λ x. bytes_eq x (codes "#")) type ≡ false
      → begins (type ++ ending) (T at ((type ++ ending) ++ words)) ≡ true
  begins_ok [] at words h = refl
  begins_ok (x ∷ type) at words h =
      let two = either (bytes_eq x (codes "#")) (list_any (λ x. bytes_eq x (codes "#")) type) h in
      all_true _ _ (fits_itself x (marks.token source at x) two.0) (begins_ok type (at + length x + 1) words two.1)

  not_return : (type : List (List ℕ)) (at : ℕ) (words : List (List ℕ)) → list_any (λ x. bytes_eq x (codes "MCDC_H")) type ≡ false
      → is_return (T at (codes "{" ∷ ((type ++ ending) ++ words))) ≡ false
  unfolding bare_return
  not_return [] at words h = refl
  not_return (x ∷ type) at words h =
      let two = either (bytes_eq x (codes "MCDC_H")) (list_any (λ x. bytes_eq x (codes "MCDC_H")) type) h in
      ap (λ c. c && begins (codes "(" ∷ codes "#" ∷ codes ")" ∷ codes ";" ∷ codes "return" ∷ codes ";" ∷ codes "}" ∷ []) (T (at + 1 + 1 + length x + 1) ((type ++ ending) ++ words))) two.0

  -- ---- one part

  dropped : (texts : List (List ℕ)) (at : ℕ) (words : List (List ℕ)) → after_tokens (length texts) (T at (texts ++ words)) ≡ T (marks.after at texts) words
  dropped [] at words = after_zero (T at words)
  dropped (text ∷ texts) at words = dropped texts (at + length text + 1) words

  abbrev RowIs : Here → ℕ → List (List ℕ) → What → Type 0
  RowIs h at words w = row_at (site_of h) h.value (T at words) ≡ Some w

  next_of : (h : Here) (at : ℕ) (text : List ℕ) (words : List (List ℕ)) (w : What) → RowIs h at (text ∷ words) w
      → next h (T at (text ∷ words)) ≡ Some (record { row = w; token = marks.token source at text; word = word_start w (marks.token source at text) (T (at + length text + 1) words) })
  next_of h at text words w e = ap (marked (marks.token source at text) (T (at + length text + 1) words)) e

  first_word : (w : What) (t : Tok) (ts : List Tok) → word_is_second w ≡ false → word_start w t ts ≡ t.start
  first_word w t [] e = refl
  first_word w t (u ∷ ts) e = pick_false (word_is_second w) u.start t.start e

  -- a piece whose first token is its word
  next_one : (h : Here) (at : ℕ) (text : List ℕ) (words : List (List ℕ)) (w : What) → word_is_second w ≡ false → RowIs h at (text ∷ words) w
      → next h (T at (text ∷ words)) ≡ Some (record { row = w; token = marks.token source at text; word = at })
  next_one h at text words w one e =
      next_of h at text words w e
      ∙ ap (λ n. Some (record { row = w; token = marks.token source at text; word = n })) (first_word w (marks.token source at text) (T (at + length text + 1) words) one)

  abbrev first_of : List (List ℕ) → List ℕ
  first_of [] = []
  first_of (x ∷ l) = x

  abbrev more_of : List (List ℕ) → List (List ℕ)
  more_of [] = []
  more_of (x ∷ l) = l

  next_row : (h : Here) (at : ℕ) (w : What) (words : List (List ℕ)) → RowIs h at (first_of (row_texts [] w) ∷ (more_of (row_texts [] w) ++ words)) w
      → next h (T at (first_of (row_texts [] w) ∷ (more_of (row_texts [] w) ++ words)))
      ≡ Some (record { row = w; token = marks.token source at (first_of (row_texts [] w)); word = word_start w (marks.token source at (first_of (row_texts [] w))) (T (at + length (first_of (row_texts [] w)) + 1) (more_of (row_texts [] w) ++ words)) })
  next_row h at w words e = next_of h at (first_of (row_texts [] w)) (more_of (row_texts [] w) ++ words) w e

  next_single : (h : Here) (at : ℕ) (w : What) (words : List (List ℕ)) → word_is_second w ≡ false → RowIs h at (first_of (row_texts [] w) ∷ (more_of (row_texts [] w) ++ words)) w
      → next h (T at (first_of (row_texts [] w) ∷ (more_of (row_texts [] w) ++ words)))
      ≡ Some (record { row = w; token = marks.token source at (first_of (row_texts [] w)); word = at })
  next_single h at w words one e = next_one h at (first_of (row_texts [] w)) (more_of (row_texts [] w) ++ words) w one e

  -- what a piece is, and what follows it
  record Reads (h : Here) (at : ℕ) (q : Part) (words : List (List ℕ)) : Type 0 where
    pub now : next h (T at (q.texts ++ words)) ≡ Some (mark_of source at q)
    pub left : later h q.what (T at (q.texts ++ words)) ≡ T (marks.after at q.texts) words

  -- ---- tokens of the source

  read_token : (h : Here) (at : ℕ) (w : What) (t : Tok) (words : List (List ℕ)) → size h.value w ≡ 1 → RowIs h at (t.text ∷ words) w
      → next h (T at (t.text ∷ words)) ≡ Some (mark_of source at (own w t)) → Reads h at (own w t) words
  read_token h at w t words one e now = record {
    now = now;
    left = ap (λ n. after_tokens n (T at (t.text ∷ words))) one ∙ after_zero (T (at + length t.text + 1) words);
  }

  as_word : (h : Here) (at : ℕ) (t : Tok) (words : List (List ℕ)) (x : Word) (w : What) → word_of (marks.token source at t.text) ≡ x
      → row_of x (site_of h) h.value (T at (t.text ∷ words)) ≡ Some w → RowIs h at (t.text ∷ words) w
  as_word h at t words x w e f = ap (λ x. row_of x (site_of h) h.value (T at (t.text ∷ words))) e ∙ f

  source_row : (h : Here) (at : ℕ) (t : Tok) (words : List (List ℕ)) → MayBe h what.Source (marks.token source at t.text) (T (at + length t.text + 1) words)
      → RowIs h at (t.text ∷ words) what.Source
  source_row h at t words (inl m) =
      let ts : List Tok = T at (t.text ∷ words) in
      as_word h at t words word.Other what.Source m.0
      (ap (λ c. cond (c && is_registers ts && not (nat_eq (number_at 3 ts) 0)) (Some (what.Registers (number_at 3 ts))) (Some what.Source)) m.1)
  source_row h at t words (inr m) =
      let ts : List Tok = T at (t.text ∷ words) in
      as_word h at t words word.Semicolon what.Source m.0
      (ap (λ c. cond (not c) (Some what.Source) (cond (is_value_end ts) (Some (what.ValueEnd (number_at 3 ts))) None)) m.1)

  brace_row_is : (h : Here) (at : ℕ) (t : Tok) (words : List (List ℕ)) → OpensBrace h (marks.token source at t.text) (T (at + length t.text + 1) words)
      → RowIs h at (t.text ∷ words) (what.Opening (brace (site_of h)))
  brace_row_is h at t words m =
      let ts : List Tok = T at (t.text ∷ words) in
      let test : Bool = h.inside && is_counted ts && is_no_declaration (after_tokens 6 ts) in
      let opening : Option What = Some (what.Opening (brace (site_of h))) in
      as_word h at t words word.OpenBrace (what.Opening (brace (site_of h))) m.0
      (pick_false (is_after_statement h.before) (exit_row h.value ts) (cond test (Some (what.Statement (number_at 3 ts))) opening) m.1
      ∙ pick_false test (Some (what.Statement (number_at 3 ts))) opening m.2)

  opening_is : (h : Here) (at : ℕ) (words : List (List ℕ)) (text : List ℕ) (b : Bool) (x : Bracket) → begins_body (site_of h) ≡ b → cond b bracket.Body bracket.Brace ≡ x
      → RowIs h at (text ∷ words) (what.Opening (brace (site_of h))) → RowIs h at (text ∷ words) (what.Opening x)
  opening_is h at words text b x e f r = r ∙ ap (λ y. Some (what.Opening y)) (ap (λ c. cond c bracket.Body bracket.Brace) e ∙ f)

  closing_row : (h : Here) (at : ℕ) (t : Tok) (words : List (List ℕ)) → Closes h (marks.token source at t.text) → RowIs h at (t.text ∷ words) what.Closing
  closing_row h at t words (inl m) = as_word h at t words word.CloseParenthesis what.Closing m.0 (ap parenthesis_end m.1)
  closing_row h at t words (inr (inl m)) = as_word h at t words word.CloseSquare what.Closing m.0 (ap square_end m.1)
  closing_row h at t words (inr (inr (inl m))) = as_word h at t words word.CloseBrace what.Closing m.0 (ap (λ i. brace_end_in i h.before) m.1)
  closing_row h at t words (inr (inr (inr m))) = as_word h at t words word.CloseBrace what.Closing m.0 (ap (λ i. brace_end_in i h.before) m.1)

  token_read : (h : Here) (at : ℕ) (w : What) (t : Tok) (words : List (List ℕ)) → MayBe h w (marks.token source at t.text) (T (at + length t.text + 1) words)
      → Reads h at (own w t) words
  token_read h at what.Source t words m =
      let e = source_row h at t words m in
      read_token h at what.Source t words refl e (next_one h at t.text words what.Source refl e)
  token_read h at (what.Opening bracket.Parenthesis) t words m =
      let e = as_word h at t words word.OpenParenthesis (what.Opening bracket.Parenthesis) m refl in
      read_token h at (what.Opening bracket.Parenthesis) t words refl e (next_one h at t.text words (what.Opening bracket.Parenthesis) refl e)
  token_read h at (what.Opening bracket.Square) t words m =
      let e = as_word h at t words word.OpenSquare (what.Opening bracket.Square) m refl in
      read_token h at (what.Opening bracket.Square) t words refl e (next_one h at t.text words (what.Opening bracket.Square) refl e)
  token_read h at (what.Opening bracket.Brace) t words m =
      let e = opening_is h at words t.text false bracket.Brace m.1 refl (brace_row_is h at t words m.0) in
      read_token h at (what.Opening bracket.Brace) t words refl e (next_one h at t.text words (what.Opening bracket.Brace) refl e)
  token_read h at (what.Opening bracket.Body) t words m =
      let e = opening_is h at words t.text true bracket.Body m.1 refl (brace_row_is h at t words m.0) in
      read_token h at (what.Opening bracket.Body) t words refl e (next_one h at t.text words (what.Opening bracket.Body) refl e)
  token_read h at what.Closing t words m =
      let e = closing_row h at t words m in
      read_token h at what.Closing t words refl e (next_one h at t.text words what.Closing refl e)
  token_read h at w t words m = absurd m

  -- ---- rows

  same_what : (w v : What) → w ≡ v → Some w ≡ Some v
  same_what w v e = ap (λ x. Some x) e

  -- `MCDC_H ( b ) ;`
  abbrev hit_choice : Bool → Bool → Bool → ℕ → Option What
  hit_choice front exit declaration n =
      cond front (Some (what.Entry n)) (cond exit (Some (what.Exit n)) (cond declaration (Some (what.Declaration n)) None))

  hit_is : (h : Here) (b at : ℕ) (words : List (List ℕ)) → Short b
      → row_at (site_of h) h.value (T at (row_texts [] (what.Entry b) ++ words))
      ≡ hit_choice (is_front h.before) (is_body (innermost h.brackets) && sees_brace (T (marks.after at (row_texts [] (what.Entry b))) words))
      (h.inside && may_begin_declaration (T (marks.after at (row_texts [] (what.Entry b))) words)) b
  hit_is h b at words s =
      let ts : List Tok = T at (row_texts [] (what.Entry b) ++ words) in
      let body : Bool = is_body (innermost h.brackets) in
      ap (λ c. cond (not c) None (hit_choice (is_front h.before) (body && sees_brace (after_tokens 5 ts)) (h.inside && may_begin_declaration (after_tokens 5 ts)) (number_at 2 ts))) (hit_ok b at words s)
      ∙ (ap (λ l. hit_choice (is_front h.before) (body && sees_brace l) (h.inside && may_begin_declaration l) (number_at 2 ts)) (dropped (row_texts [] (what.Entry b)) at words)
      ∙ ap (hit_choice (is_front h.before) (body && sees_brace (T (marks.after at (row_texts [] (what.Entry b))) words)) (h.inside && may_begin_declaration (T (marks.after at (row_texts [] (what.Entry b))) words))) (value_ok b s))

  entry_is : (h : Here) (b at : ℕ) (words : List (List ℕ)) → is_front h.before ≡ true → Short b → RowIs h at (row_texts [] (what.Entry b) ++ words) (what.Entry b)
  entry_is h b at words e s = hit_is h b at words s ∙ pick_true (is_front h.before) _ _ e

  exit_is : (h : Here) (b at : ℕ) (words : List (List ℕ)) → is_front h.before ≡ false → is_body (innermost h.brackets) ≡ true
      → sees_brace (T (marks.after at (row_texts [] (what.Exit b))) words) ≡ true → Short b → RowIs h at (row_texts [] (what.Exit b) ++ words) (what.Exit b)
  exit_is h b at words e f g s = hit_is h b at words s ∙ (pick_false (is_front h.before) _ _ e ∙ pick_true _ _ _ (all_true _ _ f g))

  declaration_is : (h : Here) (b at : ℕ) (words : List (List ℕ)) → is_front h.before ≡ false → sees_brace (T (marks.after at (row_texts [] (what.Declaration b))) words) ≡ false
      → h.inside ≡ true → may_begin_declaration (T (marks.after at (row_texts [] (what.Declaration b))) words) ≡ true → Short b
      → RowIs h at (row_texts [] (what.Declaration b) ++ words) (what.Declaration b)
  declaration_is h b at words e f i g s =
      hit_is h b at words s
      ∙ (pick_false (is_front h.before) _ _ e
      ∙ (pick_false _ _ _ (and_false (is_body (innermost h.brackets)) _ f) ∙ pick_true _ _ _ (all_true _ _ i g)))

  -- `MCDC_L ( r , b ) ;`
  abbrev label_choice : Bool → Bool → ℕ → ℕ → Option What
  label_choice colon absent r b = cond colon (Some (what.Label r b)) (cond absent (Some (what.Default r b)) None)

  label_is : (h : Here) (r b at : ℕ) (words : List (List ℕ)) → Short r → Short b
      → row_at (site_of h) h.value (T at (row_texts [] (what.Label r b) ++ words)) ≡ label_choice (h.inside && is_colon h.before) (is_statement (innermost h.brackets)) r b
  label_is h r b at words s u =
      let ts : List Tok = T at (row_texts [] (what.Label r b) ++ words) in
      let colon : Bool = h.inside && is_colon h.before in
      let absent : Bool = is_statement (innermost h.brackets) in
      ap (λ c. cond (not c) None (label_choice colon absent (number_at 2 ts) (number_at 4 ts))) (label_ok r b at words s u)
      ∙ (ap (λ n. label_choice colon absent n (number_at 4 ts)) (value_ok r s) ∙ ap (label_choice colon absent r) (value_ok b u))

  -- what stands round an operand
  decision_is : (h : Here) (r base at : ℕ) (words : List (List ℕ)) → is_name h.before ≡ false → Short r → Short base
      → RowIs h at (row_texts [] (what.Decision r base) ++ words) (what.Decision r base)
  decision_is h r base at words e s u =
      let ts : List Tok = T at (row_texts [] (what.Decision r base) ++ words) in
      pick_true (is_decision ts && not (is_name h.before)) (Some (what.Decision (number_at 2 ts) (number_at 4 ts))) None (all_true _ _ (decision_ok r base at words s u) (ap not e))
      ∙ (ap (λ n. Some (what.Decision n (number_at 4 ts))) (value_ok r s) ∙ ap (λ n. Some (what.Decision r n)) (value_ok base u))

  condition_is : (h : Here) (r t f at : ℕ) (words : List (List ℕ)) → is_name h.before ≡ false → Short r → Short t → Short f
      → RowIs h at (row_texts [] (what.Condition r t f) ++ words) (what.Condition r t f)
  condition_is h r t f at words e s u v =
      let ts : List Tok = T at (row_texts [] (what.Condition r t f) ++ words) in
      pick_true (is_condition ts && not (is_name h.before)) (Some (what.Condition (number_at 2 ts) (number_at 4 ts) (number_at 6 ts))) None
      (all_true _ _ (condition_ok r t f at words s u v) (ap not e))
      ∙ (ap (λ n. Some (what.Condition n (number_at 4 ts) (number_at 6 ts))) (value_ok r s)
      ∙ (ap (λ n. Some (what.Condition r n (number_at 6 ts))) (value_ok t u) ∙ ap (λ n. Some (what.Condition r t n)) (value_ok f v)))

  switch_is : (h : Here) (r at : ℕ) (words : List (List ℕ)) → is_name h.before ≡ false → Short r → RowIs h at (row_texts [] (what.Switch r) ++ words) (what.Switch r)
  switch_is h r at words e s =
      let ts : List Tok = T at (row_texts [] (what.Switch r) ++ words) in
      pick_true (is_switch ts && not (is_name h.before)) (Some (what.Switch (number_at 2 ts))) None (all_true _ _ (switch_ok r at words s) (ap not e))
      ∙ ap (λ n. Some (what.Switch n)) (value_ok r s)

  registers_is : (h : Here) (n at : ℕ) (words : List (List ℕ)) → is_at_front h.before ≡ true → nat_eq n 0 ≡ false → Short n
      → RowIs h at (row_texts [] (what.Registers n) ++ words) (what.Registers n)
  registers_is h n at words e f s =
      let ts : List Tok = T at (row_texts [] (what.Registers n) ++ words) in
      ap (λ c. cond (c && is_registers ts && not (nat_eq (number_at 3 ts) 0)) (Some (what.Registers (number_at 3 ts))) (Some what.Source)) e
      ∙ (ap (λ c. cond (true && c && not (nat_eq (number_at 3 ts) 0)) (Some (what.Registers (number_at 3 ts))) (Some what.Source)) (registers_ok n at words s)
      ∙ (ap (λ k. cond (true && true && not (nat_eq k 0)) (Some (what.Registers k)) (Some what.Source)) (value_ok n s)
      ∙ ap (λ c. cond (true && true && not c) (Some (what.Registers n)) (Some what.Source)) f))

  -- `{` with what follows it
  statement_is : (h : Here) (b at : ℕ) (words : List (List ℕ)) → is_after_statement h.before ≡ false → h.inside ≡ true
      → begins_declaration (T (marks.after at (row_texts [] (what.Statement b))) words) ≡ false → is_hit (T (marks.after at (row_texts [] (what.Statement b))) words) ≡ false → Short b
      → RowIs h at (row_texts [] (what.Statement b) ++ words) (what.Statement b)
  statement_is h b at words e i f g s =
      let ts : List Tok = T at (row_texts [] (what.Statement b) ++ words) in
      let after : List Tok = T (marks.after at (row_texts [] (what.Statement b))) words in
      let opening : Option What = Some (what.Opening (brace (site_of h))) in
      let no : is_no_declaration (after_tokens 6 ts) ≡ true =
      ap is_no_declaration (dropped (row_texts [] (what.Statement b)) at words) ∙ all_true (not (begins_declaration after)) (not (is_hit after)) (ap not f) (ap not g) in
      pick_false (is_after_statement h.before) (exit_row h.value ts) (cond (h.inside && is_counted ts && is_no_declaration (after_tokens 6 ts)) (Some (what.Statement (number_at 3 ts))) opening) e
      ∙ (ap (λ c. cond (c && is_counted ts && is_no_declaration (after_tokens 6 ts)) (Some (what.Statement (number_at 3 ts))) opening) i
      ∙ (ap (λ c. cond (true && c && is_no_declaration (after_tokens 6 ts)) (Some (what.Statement (number_at 3 ts))) opening) (counted_ok b at words s)
      ∙ (ap (λ c. cond (true && true && c) (Some (what.Statement (number_at 3 ts))) opening) no
      ∙ ap (λ n. Some (what.Statement n)) (value_ok b s))))

  return_is : (h : Here) (b at : ℕ) (words : List (List ℕ)) → is_after_statement h.before ≡ true
      → begins (codes "return" ∷ codes ";" ∷ codes "}" ∷ []) (T (marks.after at (row_texts [] (what.Return b))) words) ≡ true → Short b
      → RowIs h at (row_texts [] (what.Return b) ++ words) (what.Return b)
  return_is h b at words e f s =
      let ts : List Tok = T at (row_texts [] (what.Return b) ++ words) in
      pick_true (is_after_statement h.before) (exit_row h.value ts) _ e
      ∙ (pick_true (is_return ts) (Some (what.Return (number_at 3 ts))) _ (return_ok b at words s f) ∙ ap (λ n. Some (what.Return n)) (value_ok b s))

  value_is : (h : Here) (type : List (List ℕ)) (at : ℕ) (words : List (List ℕ)) → is_after_statement h.before ≡ true → h.value ≡ type ++ ending → AreWords type
      → RowIs h at (row_texts type what.Value ++ words) what.Value
  value_is h type at words e f g =
      let ts : List Tok = T at (row_texts type what.Value ++ words) in
      let begun : begins h.value (after_tokens 1 ts) ≡ true =
      ap (λ v. begins v (after_tokens 1 ts)) f
      ∙ (ap (begins (type ++ ending)) (after_zero (T (at + 1 + 1) ((type ++ ending) ++ words))) ∙ begins_ok type (at + 1 + 1) words g.0) in
      pick_true (is_after_statement h.before) (exit_row h.value ts) _ e
      ∙ (pick_false (is_return ts) _ (cond (begins h.value (after_tokens 1 ts)) (Some what.Value) None) (not_return type at words g.1)
      ∙ pick_true (begins h.value (after_tokens 1 ts)) (Some what.Value) None begun)

  value_end_is : (h : Here) (b at : ℕ) (words : List (List ℕ)) → innermost h.brackets ≡ Some bracket.Value → Short b
      → RowIs h at (row_texts [] (what.ValueEnd b) ++ words) (what.ValueEnd b)
  value_end_is h b at words e s =
      let ts : List Tok = T at (row_texts [] (what.ValueEnd b) ++ words) in
      ap (λ i. cond (not (is_value i)) (Some what.Source) (cond (is_value_end ts) (Some (what.ValueEnd (number_at 3 ts))) None)) e
      ∙ (pick_true (is_value_end ts) (Some (what.ValueEnd (number_at 3 ts))) None (value_end_ok b at words s) ∙ ap (λ n. Some (what.ValueEnd n)) (value_ok b s))

  statement_end_is : (h : Here) (at : ℕ) (words : List (List ℕ)) → innermost h.brackets ≡ Some bracket.Statement → is_after_statement h.before ≡ false
      → RowIs h at (row_texts [] what.StatementEnd ++ words) what.StatementEnd
  statement_end_is h at words e f = ap (λ i. brace_end_in i h.before) e ∙ pick_false (is_after_statement h.before) None (Some what.StatementEnd) f

  row_read : (h : Here) (at : ℕ) (type : List (List ℕ)) (w : What) (words : List (List ℕ)) → MayStand h type w (T (marks.after at (row_texts type w)) words)
      → Reads h at (row_part type w) words
  row_read h at type (what.Registers n) words m = record { now = next_row h at (what.Registers n) words (registers_is h n at words m.0 m.1 m.2); left = dropped (row_texts [] (what.Registers n)) at words }
  row_read h at type (what.Entry b) words m = record { now = next_row h at (what.Entry b) words (entry_is h b at words m.0 m.1); left = dropped (row_texts [] (what.Entry b)) at words }
  row_read h at type (what.Exit b) words m = record { now = next_row h at (what.Exit b) words (exit_is h b at words m.0 m.1 m.2 m.3); left = dropped (row_texts [] (what.Exit b)) at words }
  row_read h at type (what.Declaration b) words m =
      record { now = next_row h at (what.Declaration b) words (declaration_is h b at words m.0 m.1 m.2 m.3 m.4); left = dropped (row_texts [] (what.Declaration b)) at words }
  row_read h at type (what.Label r b) words m =
      record {
        now = next_row h at (what.Label r b) words (label_is h r b at words m.2 m.3 ∙ pick_true _ _ _ (all_true _ _ m.0 m.1));
        left = dropped (row_texts [] (what.Label r b)) at words;
      }
  row_read h at type (what.Default r b) words m =
      record {
        now = next_row h at (what.Default r b) words (label_is h r b at words m.2 m.3 ∙ (pick_false _ _ _ (and_false h.inside _ m.0) ∙ pick_true _ _ _ m.1));
        left = dropped (row_texts [] (what.Default r b)) at words;
      }
  row_read h at type (what.Statement b) words m =
      record { now = next_row h at (what.Statement b) words (statement_is h b at words m.0 m.1 m.2 m.3 m.4); left = dropped (row_texts [] (what.Statement b)) at words }
  row_read h at type what.StatementEnd words m = record { now = next_single h at what.StatementEnd words refl (statement_end_is h at words m.0 m.1); left = dropped (row_texts [] what.StatementEnd) at words }
  row_read h at type what.Value words m =
      let value : h.value ≡ type ++ ending = m.1 ∙ append_assoc type (codes "mcdc_v" ∷ []) (codes "=" ∷ []) in
      let long : length h.value + 1 ≡ suc (length (type ++ ending)) = ap (λ v. length v + 1) value ∙ omega arith in
      record {
        now = next_one h at (codes "{") ((type ++ ending) ++ words) what.Value refl (value_is h type at words m.0 value m.2);
        left = ap (λ n. after_tokens n (T at (row_texts type what.Value ++ words))) long ∙ dropped (row_texts type what.Value) at words;
      }
  row_read h at type (what.ValueEnd b) words m = record { now = next_row h at (what.ValueEnd b) words (value_end_is h b at words m.0 m.1); left = dropped (row_texts [] (what.ValueEnd b)) at words }
  row_read h at type (what.Return b) words m = record { now = next_row h at (what.Return b) words (return_is h b at words m.0 m.1 m.2); left = dropped (row_texts [] (what.Return b)) at words }
  row_read h at type what.ReturnEnd words m = record { now = next_single h at what.ReturnEnd words refl (ap (λ i. brace_end_in i h.before) m); left = dropped (row_texts [] what.ReturnEnd) at words }
  row_read h at type (what.Decision r base) words m =
      record { now = next_row h at (what.Decision r base) words (decision_is h r base at words m.0 m.1 m.2); left = dropped (row_texts [] (what.Decision r base)) at words }
  row_read h at type (what.Condition r t f) words m =
      record { now = next_row h at (what.Condition r t f) words (condition_is h r t f at words m.0 m.1 m.2 m.3); left = dropped (row_texts [] (what.Condition r t f)) at words }
  row_read h at type (what.Switch r) words m = record { now = next_row h at (what.Switch r) words (switch_is h r at words m.0 m.1); left = dropped (row_texts [] (what.Switch r)) at words }
  row_read h at type what.OperandEnd words m = record { now = next_single h at what.OperandEnd words refl (ap parenthesis_end m); left = dropped (row_texts [] what.OperandEnd) at words }
  row_read h at type w words m = absurd m

  -- ---- all parts

  pub shaped : {h : Here} {at : ℕ} {qs : List Part} → IsShaped source h at qs → Shaped h (T at (words_of qs)) (marks_from source at qs)
  shaped (ends e) = pieces.ends e
  shaped {h = h} {at = at} (kept w t {qs = qs} m more) =
      let r = token_read h at w t (words_of qs) m in
      pieces.piece r.now
      (subst (λ l. Shaped (pieces.after h w (marks.token source at t.text) l) l (marks_from source (marks.after at (t.text ∷ [])) qs)) (sym r.left) (shaped more))
  shaped {h = h} {at = at} (put type w {qs = qs} m more) =
      let r = row_read h at type w (words_of qs) m in
      pieces.piece r.now
      (subst (λ l. Shaped (pieces.after h w (first_token source at (row_texts type w)) l) l (marks_from source (marks.after at (row_texts type w)) qs)) (sym r.left) (shaped more))
