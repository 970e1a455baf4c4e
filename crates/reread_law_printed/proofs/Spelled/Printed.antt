-- The printed text of a tree is read as the words that were printed.
use Rattle.std.proofs.Common.{◌≡◌, ℕ, zero, suc, ◌<◌, Bool, true, false, cond, List, [], ◌∷◌, length, slice_index_or, None, Ok, All, refl, ap, subst, sym, arith}
use Rattle.std.specs.List.{AllByRecursion as Each}
use Rattle.std.specs.Str.{bytes_eq}
use Rattle.std.proofs.lemmas.List.Elements.{All-from_recursion, recursion_from_All, All-map, All-contains_itself}
use Rattle.mc_lex.specs.declared.token.Dialect.TheVariants.{Plain, Instrumented}
use Rattle.mc_lex.specs.declared.token.TokenKind.{TokenKind}
use Rattle.mc_lex.specs.declared.token.TokenKind.TheVariants.{Keyword, Punctuator}
use Rattle.mc_lex.specs.Tokens.{Tok}
use Rattle.mc_lex.specs.Scans.{Means, Scans}
use Rattle.mc_lex.proofs.Texts.{not_both, same_text, text_itself}
use Rattle.mc_probe.specs.Tree as p
use Rattle.mc_print.specs.Pens.{spaced, texts_of}
use Rattle.mc_print.specs.Texts.{text_of}
use Rattle.reread_law_printed.specs.spelled.Words.{IsToken, IsInserted, word, punctuator, numeral, inserted_kind, kind_in, laid, number, token_in, tokens_in}
use Rattle.reread_law_printed.specs.spelled.Numbers.{HasShortNumbers}
use Rattle.reread_law_printed.specs.spelled.Laws.{KindsAreKept}
use Rattle.reread_law_printed.proofs.Spelled.Meanings.{tokens_mean, kept}
use Rattle.reread_law_printed.proofs.Spelled.Spacing.{spaced_scan}
use Rattle.reread_law_printed.proofs.Spelled.Inserted.{insertion_means, inserted_is, same_kind}
use Rattle.reread_law_printed.proofs.Spelled.Written.{Inserts, all_said}

-- ---- the kind of a printed word is what the word means

abbrev Is : Tok → Type 0
Is t = IsToken Instrumented t

one_more : (t u : Tok) (ts : List Tok) → Is t → Is u → (bytes_eq t.text u.text ≡ false → kind_in ts u.text ≡ u.kind) → kind_in (t ∷ ts) u.text ≡ u.kind
one_more t u ts m n later = by_test (bytes_eq t.text u.text) refl
  where
    by_test : (b : Bool) → bytes_eq t.text u.text ≡ b → cond b t.kind (kind_in ts u.text) ≡ u.kind
    by_test true e = same_kind u.text t.kind u.kind (subst (λ l. Means Instrumented l (Ok t.kind)) (same_text t.text u.text e) m) n
    by_test false e = later e

of_insertion : (ts : List Tok) (u : Tok) → Each Is ts → Is u → inserted_kind u.text ≡ u.kind → kind_in ts u.text ≡ u.kind
of_insertion [] u h m e = e
of_insertion (t ∷ ts) u h m e = one_more t u ts h.0 m (λ f. of_insertion ts u h.1 m e)

of_token : (ts : List Tok) (u : Tok) (k : ℕ) → Each Is ts → Is u → k < length ts → slice_index_or ts k u ≡ u → kind_in ts u.text ≡ u.kind
of_token [] u k h m lt e = absurd (omega (arith, lt))
of_token (t ∷ ts) u zero h m lt e = one_more t u ts h.0 m (λ f. absurd (not_both _ (text_itself t.text u.text (ap (λ x. x.text) e)) f))
of_token (t ∷ ts) u (suc k) h m lt e = one_more t u ts h.0 m (λ f. of_token ts u k h.1 m (omega (arith, lt)) e)

module _ (source : List ℕ) (ts : List Tok) (scan : Scans Plain [] source ts None) where
  all_mean : All Is ts
  all_mean k d lt = let t = slice_index_or ts k d in (kept t.text t.kind (tokens_mean scan k d lt)).0

  each_means : Each Is ts
  each_means = recursion_from_All Is ts all_mean

  source_kinds : All (λ (t : Tok). kind_in ts t.text ≡ t.kind) ts
  source_kinds k d lt = let c = All-contains_itself ts k d lt in of_token ts (slice_index_or ts k d) c.0 each_means (all_mean k d lt) c.1 c.2

  inserted_kinds : (text : List ℕ) (kind : TokenKind) → IsInserted text kind → kind_in ts text ≡ kind
  inserted_kinds text kind i =
      let u : Tok = record { kind = kind; text = text; start = 0 } in
      of_insertion ts u each_means (insertion_means text kind i) (inserted_is text kind i)

  -- ---- the text

  abbrev Said : List ℕ → Type 0
  Said text = Means Instrumented text (Ok (kind_in ts text))

  of_kind : (text : List ℕ) (kind : TokenKind) → kind_in ts text ≡ kind → Means Instrumented text (Ok kind) → Said text
  of_kind text kind e m = subst (λ k. Means Instrumented text (Ok k)) (sym e) m

  inserted : (text : List ℕ) (kind : TokenKind) → IsInserted text kind → Said text
  inserted text kind i = of_kind text kind (inserted_kinds text kind i) (insertion_means text kind i)

  inserts : Inserts Said
  inserts = record {
    word = λ text o. inserted text Keyword (word text o);
    punctuator = λ text o. inserted text Punctuator (punctuator text o);
    numeral = λ n short. inserted _ (number n) (numeral n short);
  }

  copies : All (λ (t : Tok). Said t.text) ts
  copies k d lt = let t = slice_index_or ts k d in of_kind t.text t.kind (source_kinds k d lt) (all_mean k d lt)

  their_texts : (texts : List (List ℕ)) → texts_of (tokens_in ts texts) ≡ texts
  their_texts [] = refl
  their_texts (text ∷ texts) = ap (λ l. text ∷ l) (their_texts texts)

  pub printed_scan : (tree : p.Tree) → HasShortNumbers tree → Scans Instrumented [] (spaced (text_of ts tree)) (laid 0 (tokens_in ts (text_of ts tree))) None
  printed_scan tree short =
      let texts = text_of ts tree in
      let said : Each Said texts = all_said Said inserts ts tree (recursion_from_All (λ (t : Tok). Said t.text) ts copies) short in
      let all : All Is (tokens_in ts texts) = All-map Is (token_in ts) texts (All-from_recursion Said texts said) in
      subst (λ l. Scans Instrumented [] (spaced l) (laid 0 (tokens_in ts texts)) None) (their_texts texts) (spaced_scan Instrumented (tokens_in ts texts) all)

pub kinds_kept : KindsAreKept
kinds_kept source ts scan = (source_kinds source ts scan, inserted_kinds source ts scan)
