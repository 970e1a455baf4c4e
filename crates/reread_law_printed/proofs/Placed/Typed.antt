-- The type of each value.
use Rattle.std.proofs.Common.{◌≡◌, ◌⊎◌, inl, inr, ℕ, nat_lt, nat_eq, Bool, true, false, cond, List, [], ◌∷◌, ◌++◌, map, Option, Some, None, codes, refl, sym, ap, subst, ◌∙◌, append_assoc, append-nil}
use Rattle.std.proofs.lemmas.List.{map-append}
use Rattle.std.proofs.lemmas.List.Elements.{recursion_from_All}
use Rattle.std.specs.List.{AllByRecursion as Each}
use Rattle.mc_lex.specs.Tokens.{Tok}
use Rattle.reread_pieces.specs.declared.bracket.Bracket.TheVariants as bracket
use Rattle.reread_pieces.specs.declared.piece.What.{What}
use Rattle.reread_pieces.specs.declared.piece.What.TheVariants as what
use Rattle.reread_pieces.specs.Words.{is}
use Rattle.reread_pieces.specs.Pieces.{Here, brackets_after, value_shape}
use Rattle.mc_probe.specs.Tree as p
use Rattle.mc_print.specs.Pens.{texts_of, type_words}
use Rattle.mc_print.specs.Texts.{text_of}
use Rattle.reread_law_texts.specs.alike.Moves.{FollowFrom, end_of}
use Rattle.reread_law_rows.specs.inserted.Rows.{Row, entry_row, rows_in_functions, rows_of}
use Rattle.reread_law_rows.specs.inserted.Fits.{is_bracket, last_is}
use Rattle.reread_law_printed.specs.parts.Parts.{Part, Parts, what_of, own, copied, upto, row_texts, takes_token, without_first, put, inserted, front_rows, body_rows, place_of, words_of}
use Rattle.reread_law_printed.specs.parts.Marks as marks
use Rattle.reread_law_printed.specs.parts.Stands.{IsFunctionAmong, AreAmong}
use Rattle.reread_law_printed.specs.parts.Closed.{open_after, AreBalanced}
use Rattle.reread_law_printed.specs.parts.Shaped.{after_part}
use Rattle.reread_law_printed.proofs.Parts.Tied.{Inner, inner_rows, Fit, all_fit}
use Rattle.reread_law_printed.proofs.Parts.Walked.{tied_body}
use Rattle.reread_law_printed.proofs.Parts.Runs.{of_function, State}
use Rattle.reread_law_printed.proofs.Parts.Closing.{balanced, of_texts}
use Rattle.reread_law_printed.proofs.Parts.Told.{copied_is}
use Rattle.reread_law_printed.proofs.Parts.Worded as worded
use Rattle.reread_law_printed.specs.placed.Needs.{Typed, Along}
use Rattle.reread_law_printed.specs.placed.Heads.{IsHead, HaveHeads}
use Rattle.reread_law_printed.specs.placed.Laws.{begun, ValuesAreTyped}
use Rattle.reread_law_printed.proofs.Placed.InsideForm.{stop, middle, exit_parts, front_parts, body_parts, head_of, form, plain_all, after_state}
use Rattle.reread_law_printed.proofs.Placed.InsideBody.{copied_plain, plain_row, head_run, body_run, closing_what, run_neutral}
use Rattle.reread_law_printed.proofs.Placed.Inside.{at_start, parts_are}
use Rattle.reread_law_printed.proofs.Placed.TypedWords.{item_words, words_are, texts_at, words_both, copied_words, type_is}
use Rattle.reread_law_printed.proofs.Placed.TypedItem.{item_run, item_both, TypeFits, Fine, advance, paired, within, plain_item, plain_items, last_semicolon, ended_item}
use Rattle.reread_law_printed.proofs.Parts.Placing.{turned}

-- ---- the parts are of a type

fine_copied : (v : List (List ℕ)) (t : Tok) → Fine v (copied t)
fine_copied v t = (copied_plain t, copied_is (λ w. TypeFits v w (t.text ∷ [])) (λ b. tt) tt tt t)

fine_tokens : (v : List (List ℕ)) (ts : List Tok) → Each (Fine v) (map copied ts)
fine_tokens v [] = tt
fine_tokens v (t ∷ ts) = (fine_copied v t, fine_tokens v ts)

fine_both : (v : List (List ℕ)) (xs ys : List Part) → Each (Fine v) xs → Each (Fine v) ys → Each (Fine v) (xs ++ ys)
fine_both v [] ys h k = k
fine_both v (x ∷ xs) ys h k = (h.0, fine_both v xs ys h.1 k)

-- what a value of a type has between its `{` and itself
abbrev shape : List (List ℕ) → List (List ℕ)
shape type = (type ++ codes "mcdc_v" ∷ []) ++ codes "=" ∷ []

fits_row : (type : List (List ℕ)) (w : What) → TypeFits (shape type) w (row_texts type w)
fits_row type what.Value = append_assoc type (codes "mcdc_v" ∷ []) (codes "=" ∷ [])
fits_row type w = tt

module _ (type : List (List ℕ)) where
  abbrev AllFine : Parts → Type 0
  AllFine next = (ts : List Tok) → Each (Fine (shape type)) (next ts)

  fine_upto : (at : ℕ) (next : Parts) → AllFine next → AllFine (upto at next)
  fine_upto at next k [] = k []
  fine_upto at next k (t ∷ ts) = by_test (nat_lt t.start at) (fine_upto at next k ts)
    where
      by_test : (b : Bool) → Each (Fine (shape type)) (upto at next ts) → Each (Fine (shape type)) (cond b (copied t ∷ upto at next ts) (next (t ∷ ts)))
      by_test true more = (fine_copied (shape type) t, more)
      by_test false more = k (t ∷ ts)

  fine_inserted : (rows : List Row) (next : Parts) → Each (λ (r : Row). Inner r.what) rows → AllFine next → AllFine (inserted type rows next)
  fine_inserted [] next i k = k
  fine_inserted (r ∷ rows) next i k =
      fine_upto (place_of r) (put type r.what (inserted type rows next))
      (λ ts. ((plain_row r.what i.0, fits_row type r.what), fine_inserted rows next i.1 k (without_first (takes_token r.what) ts)))

  fine_front : (f : p.Function) (b : Bool) (e : Option ℕ)
      → Each (Fine (shape type)) (front_parts (cond b (entry_row f e []) (record { what = what.Registers f.registers; span = f.name_span; end = f.closing.end } ∷ entry_row f e [])))
  fine_front f true None = tt
  fine_front f true (Some b) = ((refl, tt), tt)
  fine_front f false None = ((refl, tt), tt)
  fine_front f false (Some b) = ((refl, tt), ((refl, tt), tt))

  fine_exit : (e : Option ℕ) → Each (Fine (shape type)) (exit_parts e)
  fine_exit None = tt
  fine_exit (Some b) = ((refl, tt), tt)

  fine_body : (f : p.Function) (ts : List Tok) → Each (Fine (shape type)) (body_parts type f ts)
  fine_body f ts =
      fine_both (shape type) (front_parts (front_rows f)) (middle type f ts ++ exit_parts f.exit) (fine_front f (nat_eq f.registers 0) f.entry)
      (fine_both (shape type) (middle type f ts) (exit_parts f.exit)
      (fine_inserted (body_rows f) (upto f.closing.start stop) (inner_rows (tied_body f.body)) (fine_upto f.closing.start stop (λ ts. tt)) ts) (fine_exit f.exit))

-- ---- what stands before a body

module _ {f : p.Function} {suffix : List Tok} (q : IsFunctionAmong suffix f) (h : IsHead q.before q.name q.parameters) (name : is_bracket q.name ≡ false) where
  abbrev own_words : List Tok
  own_words = h.specifiers ++ q.name ∷ q.parameters

  -- the declarations before are left
  declared : (later : List (List ℕ)) → item_run [] (words_of (map copied h.declarations) ++ later) (map copied h.declarations) later ≡ later
  declared later = by_end h.ended
    where
      by_end : (h.declarations ≡ []) ⊎ (last_is (is (codes ";")) h.declarations ≡ true)
          → item_run [] (words_of (map copied h.declarations) ++ later) (map copied h.declarations) later ≡ later
      by_end (inl e) = ap (λ l. item_run [] (words_of (map copied l) ++ later) (map copied l) later) e
      by_end (inr e) = ended_item h.declarations (words_of (map copied h.declarations) ++ later) later (last_semicolon h.declarations e) (balanced h.balanced)

  parameters_stay : (words later : List (List ℕ)) → item_run [] words (map copied q.parameters) later ≡ words
  parameters_stay words later =
      ap (λ l. item_run [] words (map copied l) later) h.pair
      ∙ paired h.first h.last h.between [] [] words later (of_texts h.first h.last bracket.Parenthesis (codes "(") (codes ")") h.opens h.closes refl refl refl refl) (balanced h.within) (within h.within)

  words_stay : (words later : List (List ℕ)) → item_run [] words (map copied own_words) later ≡ words
  words_stay words later =
      ap (λ l. item_run [] words l later) (map-append copied h.specifiers (q.name ∷ q.parameters))
      ∙ (plain_items h.specifiers (copied q.name ∷ map copied q.parameters) [] words later (plain_all h.specifiers h.plain)
      ∙ (plain_item q.name (map copied q.parameters) [] words later name h.named
      ∙ parameters_stay words later))

  head_is : head_of q ≡ h.declarations ++ own_words
  head_is = ap (λ l. l ++ q.name ∷ q.parameters) h.all ∙ append_assoc h.declarations h.specifiers (q.name ∷ q.parameters)

  head_item : (later : List (List ℕ)) → item_run [] (words_of (map copied (head_of q)) ++ later) (map copied (head_of q)) later ≡ texts_of own_words ++ later
  head_item later =
      let d : List Part = map copied h.declarations in
      let o : List Part = map copied own_words in
      let all : map copied (head_of q) ≡ d ++ o = ap (map copied) head_is ∙ map-append copied h.declarations own_words in
      let more : List (List ℕ) = words_of o ++ later in
      let words : words_of (d ++ o) ++ later ≡ words_of d ++ more = ap (λ l. l ++ later) (words_both d o) ∙ append_assoc (words_of d) (words_of o) later in
      ap (λ l. item_run [] (words_of l ++ later) l later) all
      ∙ (ap (λ l. item_run [] l (d ++ o) later) words
      ∙ (item_both [] (words_of d ++ more) d o later
      ∙ (ap (λ l. item_run l (item_run [] (words_of d ++ more) d more) o later) (run_neutral h.declarations [] (balanced h.balanced))
      ∙ (ap (λ l. item_run [] l o later) (declared more)
      ∙ (words_stay more later ∙ ap (λ l. l ++ later) (copied_words own_words))))))

  head_type : (later : List (List ℕ)) → item_words (texts_of own_words ++ later) ≡ type_words h.specifiers
  head_type later =
      let end : List Tok = h.between ++ h.last ∷ [] in
      let more : List (List ℕ) = texts_of end ++ later in
      ap (λ l. item_words (texts_of (h.specifiers ++ q.name ∷ l) ++ later)) h.pair
      ∙ (ap (λ l. item_words (l ++ later)) (map-append (λ (t : Tok). t.text) h.specifiers (q.name ∷ (h.first ∷ end)))
      ∙ (ap item_words (append_assoc (texts_of h.specifiers) (q.name.text ∷ (h.first.text ∷ texts_of end)) later)
      ∙ type_is q.name h.first more name h.opens h.specifiers (plain_all h.specifiers h.plain)))

-- ---- functions

module _ (source tokens : List Tok) (follow : FollowFrom 0 tokens) where
  form_typed : (fs : List p.Function) (from : ℕ) (suffix : List Tok) → State tokens follow from suffix suffix → (q : AreAmong fs suffix) (h : HaveHeads fs suffix q)
      → AreBalanced fs suffix q → Each (Fit tokens) (rows_in_functions fs []) → (g : Here) (at : ℕ) → g.brackets ≡ [] → texts_of g.item ≡ words_of (form fs suffix q h)
      → Along source Typed g at (form fs suffix q h)
  form_typed [] from suffix s q h b fit g at e i =
      subst (Along source Typed g at) (append-nil (map copied suffix))
      (advance source (map copied suffix) [] g at [] (texts_of g.item) g.value (record { brackets = e; item = refl; value = refl }) (fine_tokens g.value suffix) (λ g at a. tt))
  form_typed (f ∷ others) from suffix s q h b fit g at e i =
      let two = of_function (Fit tokens) f (rows_in_functions others []) fit in
      let fits = all_fit tokens (tied_body f.body) [] two.0 in
      let head : List Part = map copied (head_of q.0) in
      let ts : List Tok = q.0.inside ++ q.0.closing ∷ q.0.after in
      let type : List (List ℕ) = type_words h.0.specifiers in
      let inner : List Part = body_parts type f ts in
      let later : List Part = form others q.0.after q.1 h.1 in
      let end : List Part = copied q.0.closing ∷ later in
      let brace : Part = own (what.Opening bracket.Body) q.0.opening in
      let tail : List Part = brace ∷ (inner ++ end) in
      let words : texts_of g.item ≡ words_of head ++ words_of tail = i ∙ words_both head tail in
      advance source head tail g at [] (words_of head ++ words_of tail) g.value (record { brackets = e; item = words; value = refl }) (fine_tokens g.value (head_of q.0))
      (λ g2 at2 a2.
      let in_body : Here = after_part source g2 at2 brace (words_of (inner ++ end)) in
      let outside : g2.brackets ≡ [] = a2.brackets ∙ ap turned (head_run q.0 h.0 b.1 b.0 b.2) in
      let item : texts_of g2.item ≡ texts_of (own_words q.0 h.0 b.1) ++ words_of tail = a2.item ∙ head_item q.0 h.0 b.1 (words_of tail) in
      let types : value_shape g2.item ≡ shape type =
      ap shape (words_are g2.item ∙ (ap item_words item ∙ head_type q.0 h.0 b.1 (words_of tail))) in (
        tt,
        advance source inner end in_body (marks.after at2 (q.0.opening.text ∷ [])) (bracket.Body ∷ []) (texts_of in_body.item) (shape type)
            (record { brackets = ap (λ l. brackets_after l (what.Opening bracket.Body)) outside; item = refl; value = types })
            (fine_body type f ts)
            (λ g3 at3 a3.
            advance source (copied q.0.closing ∷ []) later g3 at3 (bracket.Body ∷ []) (texts_of g3.item) g3.value
            (record { brackets = a3.brackets ∙ ap turned (body_run tokens follow f from suffix s q.0 b.3 (fits.1 tt) type); item = refl; value = refl })
            (fine_copied g3.value q.0.closing, tt)
            (λ g4 at4 a4.
            let closing : what_of q.0.closing ≡ what.Closing = closing_what q.0.closing q.0.closing_is in
            form_typed others (end_of q.0.closing) q.0.after (after_state tokens follow f from suffix s q.0) q.1 h.1 b.4 two.1 g4 at4
            (a4.brackets ∙ ap (λ w. turned (open_after (bracket.Body ∷ []) w)) closing)
            (a4.item ∙ ap (λ w. item_run (bracket.Body ∷ []) (texts_of g3.item) (own w q.0.closing ∷ []) (words_of later)) closing))),
      ))

pub typed : ValuesAreTyped
typed source tokens tree h b k =
    subst (Along source Typed (begun source tokens tree) 0) (sym (parts_are tokens tree h k))
    (form_typed source tokens h.follow tree.program.functions 0 tokens (at_start tokens tree h) h.functions k b (recursion_from_All (Fit tokens) (rows_of tree) h.fit)
    (begun source tokens tree) 0 refl
    (texts_at source 0 (text_of tokens tree) ∙ (sym (worded.words_are tokens tree h) ∙ ap words_of (parts_are tokens tree h k))))
