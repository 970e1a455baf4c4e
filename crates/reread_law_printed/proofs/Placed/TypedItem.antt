-- The text of the external declaration at each part, and the type of values.
use Rattle.std.proofs.Common.{◌≡◌, ℕ, Bool, true, false, cond, ◌&&◌, List, [], ◌∷◌, ◌++◌, map, drop, Some, codes, refl, sym, ap, subst, ◌∙◌, append_assoc}
use Rattle.std.proofs.lemmas.List.{map-append}
use Rattle.std.specs.List.{AllByRecursion as Each}
use Rattle.std.specs.Str.{bytes_eq}
use Rattle.mc_lex.specs.Tokens.{Tok}
use Rattle.mc_lex.proofs.Texts.{same_text}
use Rattle.reread_pieces.specs.declared.bracket.Bracket.{Bracket}
use Rattle.reread_pieces.specs.declared.piece.What.{What}
use Rattle.reread_pieces.specs.declared.piece.What.TheVariants as what
use Rattle.reread_pieces.specs.Words.{is}
use Rattle.reread_pieces.specs.Rows.{is_nothing, is_body}
use Rattle.reread_pieces.specs.Pieces.{Here, innermost, site_of, brackets_after, ends_item, value_shape, is_front}
use Rattle.mc_print.specs.Pens.{texts_of}
use Rattle.reread_law_rows.specs.inserted.Fits.{IsBalanced, nothing, other, pair, is_bracket, last_is}
use Rattle.reread_law_printed.specs.parts.Parts.{Part, what_of, own, copied, words_of}
use Rattle.reread_law_printed.specs.parts.Marks.{first_token}
use Rattle.reread_law_printed.specs.parts.Marks as marks
use Rattle.reread_law_printed.specs.parts.Closed.{top, open_after, first_text}
use Rattle.reread_law_printed.specs.parts.Shaped.{tokens_at, after_part}
use Rattle.reread_law_printed.proofs.Parts.Closing.{Neutral, no_bracket, balanced, what_by, IsPair, is_pair_of}
use Rattle.reread_law_printed.specs.placed.Needs.{TypeBy, Typed, Along}
use Rattle.reread_law_printed.proofs.Placed.InsideState.{brackets_are, run, run_both}
use Rattle.reread_law_printed.proofs.Placed.InsideBody.{NoBody, run_neutral}
use Rattle.reread_law_printed.proofs.Placed.InsideForm.{IsPlain}
use Rattle.reread_law_printed.proofs.Placed.TypedWords.{texts_at, words_both}
use Rattle.reread_law_printed.proofs.Parts.Placing.{turned, innermost_is}

-- ---- where an external declaration ends

abbrev pub ends_by : List Bracket → What → List (List ℕ) → Bool
ends_by bs what.Closing texts = is_body (top bs)
ends_by bs what.Source texts = is_nothing (top bs) && bytes_eq (first_text texts) (codes ";")
ends_by bs w texts = false

-- its text after these parts, before such words
abbrev pub item_run : List Bracket → List (List ℕ) → List Part → List (List ℕ) → List (List ℕ)
item_run bs words [] later = words
item_run bs words (q ∷ qs) later =
    item_run (open_after bs q.what) (cond (ends_by bs q.what q.texts) (words_of qs ++ later) words) qs later

pub item_both : (bs : List Bracket) (words : List (List ℕ)) (xs ys : List Part) (later : List (List ℕ))
    → item_run bs words (xs ++ ys) later ≡ item_run (run bs xs) (item_run bs words xs (words_of ys ++ later)) ys later
item_both bs words [] ys later = refl
item_both bs words (x ∷ xs) ys later =
    ap (λ l. item_run (open_after bs x.what) (cond (ends_by bs x.what x.texts) l words) (xs ++ ys) later)
    (ap (λ l. l ++ later) (words_both xs ys) ∙ append_assoc (words_of xs) (words_of ys) later)
    ∙ item_both (open_after bs x.what) (cond (ends_by bs x.what x.texts) (words_of xs ++ (words_of ys ++ later)) words) xs ys later

-- ---- what the parts need

abbrev pub TypeFits : List (List ℕ) → What → List (List ℕ) → Type 0
TypeFits v what.Value texts = v ≡ drop 1 texts
TypeFits v w texts = Unit {0}

abbrev pub Fine : List (List ℕ) → Part → Type 0
Fine v q = NoBody q × TypeFits v q.what q.texts

type_by : (h : Here) (v : List (List ℕ)) (w : What) (texts : List (List ℕ)) → h.value ≡ v → TypeFits v w texts → TypeBy h w texts
type_by h v what.Value texts e f = e ∙ f
type_by h v w texts e f = tt

module _ (source : List Tok) where
  semicolon_is : (at : ℕ) (texts : List (List ℕ)) → is (codes ";") (first_token source at texts) ≡ bytes_eq (first_text texts) (codes ";")
  semicolon_is at [] = refl
  semicolon_is at (text ∷ texts) = refl

  ends_is : (h : Here) (at : ℕ) (bs : List Bracket) (w : What) (texts : List (List ℕ)) → innermost h.brackets ≡ top bs
      → ends_item (site_of h) w (first_token source at texts) ≡ ends_by bs w texts
  ends_is h at bs what.Closing texts e = ap is_body e
  ends_is h at bs what.Source texts e =
      ap (λ o. is_nothing o && is (codes ";") (first_token source at texts)) e ∙ ap (λ b. is_nothing (top bs) && b) (semicolon_is at texts)
  ends_is h at bs w texts e = refl

  pub record After (g : Here) (bs : List Bracket) (words v : List (List ℕ)) : Type 0 where
    pub brackets : g.brackets ≡ turned bs
    pub item : texts_of g.item ≡ words
    pub value : g.value ≡ v

  pub after_is : (h : Here) (at : ℕ) (q : Part) (bs : List Bracket) (words v later : List (List ℕ)) → After h bs words v → is_front q.what ≡ false
      → After (after_part source h at q later) (open_after bs q.what) (cond (ends_by bs q.what q.texts) later words) v
  after_is h at q bs words v later a front =
      let rest : List Tok = tokens_at source (marks.after at q.texts) later in
      record {
        brackets = ap (λ l. brackets_after l q.what) a.brackets ∙ brackets_are bs q.what;
        item = ap (λ b. texts_of (cond b rest h.item)) (ends_is h at bs q.what q.texts (ap innermost a.brackets ∙ innermost_is bs))
            ∙ by_test (ends_by bs q.what q.texts);
        value = ap (λ b. cond b (value_shape h.item) h.value) front ∙ a.value;
      }
    where
      by_test : (b : Bool) → texts_of (cond b (tokens_at source (marks.after at q.texts) later) h.item) ≡ cond b later words
      by_test true = texts_at source (marks.after at q.texts) later
      by_test false = a.item

  -- parts, and those after them
  pub advance : (qs later : List Part) (h : Here) (at : ℕ) (bs : List Bracket) (words v : List (List ℕ)) → After h bs words v → Each (Fine v) qs
      → ((g : Here) (at : ℕ) → After g (run bs qs) (item_run bs words qs (words_of later)) v → Along source Typed g at later)
      → Along source Typed h at (qs ++ later)
  advance [] later h at bs words v a f k = k h at a
  advance (q ∷ qs) later h at bs words v a f k =
      let w : List (List ℕ) = words_of (qs ++ later) in
      let next : Here = after_part source h at q w in
      let one : After next (open_after bs q.what) (cond (ends_by bs q.what q.texts) w words) v = after_is h at q bs words v w a f.0.0 in (
        type_by h v q.what q.texts a.value f.0.1,
        advance qs later next (marks.after at q.texts) (open_after bs q.what) (cond (ends_by bs q.what q.texts) (words_of qs ++ words_of later) words) v
            (subst (λ l. After next (open_after bs q.what) (cond (ends_by bs q.what q.texts) l words) v) (words_both qs later) one) f.1 k,
      )

-- ---- no end inside of brackets

-- what stands in brackets ends nothing
abbrev Within : List Tok → Type 0
Within ts =
    (b : Bracket) (bs : List Bracket) (words later : List (List ℕ)) → is_body (Some b) ≡ false → item_run (b ∷ bs) words (map copied ts) later ≡ words

pub paired : (a c : Tok) (inside ts : List Tok) (bs : List Bracket) (words later : List (List ℕ)) → IsPair a c → Neutral inside → Within inside
    → item_run bs words (map copied (a ∷ inside ++ c ∷ ts)) later ≡ item_run bs words (map copied ts) later
paired a c inside ts bs words later p n w =
    let end : List Part = copied c ∷ map copied ts in
    let mid : List Part = map copied inside in
    let in_pair : List Bracket = p.bracket ∷ bs in
    ap (λ l. item_run bs words (copied a ∷ l) later) (map-append copied inside (c ∷ ts))
    ∙ (ap (λ x. item_run bs words (own x a ∷ (mid ++ end)) later) p.opens
    ∙ (item_both in_pair words mid end later
    ∙ (ap (λ l. item_run l (item_run in_pair words mid (words_of end ++ later)) end later) (run_neutral inside in_pair n)
    ∙ (ap (λ l. item_run in_pair l end later) (w p.bracket bs words (words_of end ++ later) p.inner)
    ∙ (ap (λ x. item_run in_pair words (own x c ∷ map copied ts) later) p.closes
    ∙ ap (λ b. item_run bs (cond b (words_of (map copied ts) ++ later) words) (map copied ts) later) p.inner)))))

pub within : {ts : List Tok} → IsBalanced ts → Within ts
within nothing b bs words later e = refl
within (other {t = t} {ts = ts} h more) b bs words later e =
    ap (λ w. item_run (b ∷ bs) words (own w t ∷ map copied ts) later) (no_bracket t h) ∙ within more b bs words later e
within (pair a c inside ts h inner more) b bs words later e =
    paired a c inside ts (b ∷ bs) words later (is_pair_of a c h) (balanced inner) (within inner) ∙ within more b bs words later e

-- no `;`, and no bracket
pub plain_item : (t : Tok) (qs : List Part) (bs : List Bracket) (words later : List (List ℕ)) → is_bracket t ≡ false → is (codes ";") t ≡ false
    → item_run bs words (copied t ∷ qs) later ≡ item_run bs words qs later
plain_item t qs bs words later h e =
    ap (λ w. item_run bs words (own w t ∷ qs) later) (no_bracket t h)
    ∙ ap (λ b. item_run bs (cond b (words_of qs ++ later) words) qs later) (ap (λ b. is_nothing (top bs) && b) e ∙ and_false (is_nothing (top bs)))
  where
    and_false : (a : Bool) → (a && false) ≡ false
    and_false true = refl
    and_false false = refl

pub plain_items : (ts : List Tok) (qs : List Part) (bs : List Bracket) (words later : List (List ℕ)) → Each IsPlain ts
    → item_run bs words (map copied ts ++ qs) later ≡ item_run bs words qs later
plain_items [] qs bs words later h = refl
plain_items (t ∷ ts) qs bs words later h =
    plain_item t (map copied ts ++ qs) bs words later h.0.bracket h.0.semicolon ∙ plain_items ts qs bs words later h.1

-- ---- after a `;` outside of all brackets

pub record LastIs (ts : List Tok) : Type 0 where
  pub front : List Tok
  pub token : Tok
  pub all : ts ≡ front ++ token ∷ []
  pub text : is (codes ";") token ≡ true

pub last_semicolon : (ts : List Tok) → last_is (is (codes ";")) ts ≡ true → LastIs ts
last_semicolon [] e = absurd (cc)
last_semicolon (t ∷ []) e = record { front = []; token = t; all = refl; text = e }
last_semicolon (t ∷ u ∷ ts) e =
    let more = last_semicolon (u ∷ ts) e in
    record { front = t ∷ more.front; token = more.token; all = ap (λ l. t ∷ l) more.all; text = more.text }

pub ended_item : (ts : List Tok) (words later : List (List ℕ)) → LastIs ts → Neutral ts → item_run [] words (map copied ts) later ≡ later
ended_item ts words later l n =
    let front : List Part = map copied l.front in
    let token : Tok = l.token in
    let bs : List Bracket = run [] front in
    let all : map copied ts ≡ front ++ copied token ∷ [] = ap (map copied) l.all ∙ map-append copied l.front (token ∷ []) in
    let text : token.text ≡ codes ";" = same_text token.text (codes ";") l.text in
    let w : what_of token ≡ what.Source = what_by token (codes ";") text in
    let none : bs ≡ [] =
    sym (ap (open_after bs) w) ∙ (sym (run_both [] front (copied token ∷ [])) ∙ (ap (run []) (sym all) ∙ run_neutral ts [] n)) in
    let before : List (List ℕ) = item_run [] words front (words_of (copied token ∷ []) ++ later) in
    ap (λ x. item_run [] words x later) all
    ∙ (item_both [] words front (copied token ∷ []) later
    ∙ (ap (λ x. item_run x before (copied token ∷ []) later) none
    ∙ (ap (λ x. item_run [] before (own x token ∷ []) later) w
    ∙ ap (λ b. cond b later before) l.text)))
