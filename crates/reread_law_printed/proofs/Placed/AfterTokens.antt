-- The parts that are tokens of the source are what their texts are, and the `{` of bodies.
use Rattle.std.proofs.Common.{◌≡◌, ◌⊎◌, inl, inr, ℕ, nat_lt, nat_eq, Bool, true, false, cond, ◌||◌, List, [], ◌∷◌, map, Option, Some, None, codes, refl, sym, ap, subst, ◌∙◌, true≢false}
use Rattle.std.specs.List.{AllByRecursion as Each}
use Rattle.std.specs.Str.{bytes_eq}
use Rattle.mc_lex.specs.declared.token.TokenKind.TheVariants.{Punctuator}
use Rattle.mc_lex.specs.Tokens.{Tok}
use Rattle.mc_lex.proofs.Texts.{same_text}
use Rattle.reread_pieces.specs.declared.bracket.Bracket.TheVariants as bracket
use Rattle.reread_pieces.specs.declared.site.Before.{Before}
use Rattle.reread_pieces.specs.declared.site.Before.TheVariants as before
use Rattle.reread_pieces.specs.declared.piece.What.{What}
use Rattle.reread_pieces.specs.declared.piece.What.TheVariants as what
use Rattle.reread_pieces.specs.Words.{is, is_name, is_identifier_kind, before_of}
use Rattle.reread_pieces.specs.Rows as site
use Rattle.reread_pieces.specs.Pieces.{before_after}
use Rattle.mc_probe.specs.Tree as p
use Rattle.reread_law_rows.specs.inserted.Rows.{Row, entry_row}
use Rattle.reread_law_printed.specs.spelled.Words.{kind_in}
use Rattle.reread_law_printed.specs.parts.Parts.{Part, Parts, what_of, own, copied, upto, into_body, row_part, place_of, takes_token, without_first, put, inserted, all_put, body_rows, exit_put, body, type_at, parts_in_function, parts_in_functions, parts_of, is_row}
use Rattle.reread_law_printed.specs.parts.Closed.{first_text}
use Rattle.reread_law_printed.specs.parts.Marks as marks
use Rattle.reread_law_printed.proofs.Parts.Tied.{IsRow, rows_are}
use Rattle.reread_law_printed.proofs.Parts.Walked.{tied_body}

-- ---- the parts of a text

-- a token with this text
abbrev pub bare : List ℕ → Tok
bare text = record { kind = Punctuator; text = text; start = 0 }

-- What a token of the source with this text may be.
abbrev pub IsBy : What → Tok → Type 0
IsBy w t = (w ≡ what_of t) ⊎ ((w ≡ what.Opening bracket.Body) × (is (codes "{") t ≡ true))

abbrev pub IsKept : Part → Type 0
IsKept q = is_row q.what ≡ false → IsBy q.what (bare (first_text q.texts))

abbrev Kept : Parts → Type 0
Kept next = (ts : List Tok) → Each IsKept (next ts)

kept_upto : (at : ℕ) (next : Parts) → Kept next → Kept (upto at next)
kept_upto at next k [] = k []
kept_upto at next k (t ∷ ts) = by_test (nat_lt t.start at) (kept_upto at next k ts)
  where
    by_test : (b : Bool) → Each IsKept (upto at next ts) → Each IsKept (cond b (copied t ∷ upto at next ts) (next (t ∷ ts)))
    by_test true more = (λ e. inl refl, more)
    by_test false more = k (t ∷ ts)

kept_into : (next : Parts) → Kept next → Kept (into_body next)
kept_into next k [] = k []
kept_into next k (t ∷ ts) = by_test (is (codes "{") t) refl (kept_into next k ts)
  where
    by_test : (b : Bool) → is (codes "{") t ≡ b → Each IsKept (into_body next ts)
        → Each IsKept (cond b (own (what.Opening bracket.Body) t ∷ next ts) (copied t ∷ into_body next ts))
    by_test true e more = (λ f. inr (refl, e), k ts)
    by_test false e more = (λ f. inl refl, more)

kept_rest : Kept (map copied)
kept_rest [] = tt
kept_rest (t ∷ ts) = (λ e. inl refl, kept_rest ts)

row_kept : (type : List (List ℕ)) (w : What) → is_row w ≡ true → IsKept (row_part type w)
row_kept type w r e = absurd (true≢false (sym r ∙ e))

kept_put : (type : List (List ℕ)) (w : What) (next : Parts) → is_row w ≡ true → Kept next → Kept (put type w next)
kept_put type w next r k ts = (row_kept type w r, k (without_first (takes_token w) ts))

kept_inserted : (type : List (List ℕ)) (rows : List Row) (next : Parts) → Each IsRow rows → Kept next → Kept (inserted type rows next)
kept_inserted type [] next r k = k
kept_inserted type (x ∷ rows) next r k =
    kept_upto (place_of x) (put type x.what (inserted type rows next))
    (kept_put type x.what (inserted type rows next) r.0 (kept_inserted type rows next r.1 k))

kept_front : (f : p.Function) (b : Bool) (e : Option ℕ) (next : Parts) → Kept next
    → Kept (all_put (cond b (entry_row f e []) (record { what = what.Registers f.registers; span = f.name_span; end = f.closing.end } ∷ entry_row f e [])) next)
kept_front f true None next k = k
kept_front f true (Some b) next k = kept_put [] (what.Entry b) next refl k
kept_front f false None next k = kept_put [] (what.Registers f.registers) next refl k
kept_front f false (Some b) next k = kept_put [] (what.Registers f.registers) (put [] (what.Entry b) next) refl (kept_put [] (what.Entry b) next refl k)

kept_exit : (f : p.Function) (e : Option ℕ) (next : Parts) → Kept next → Kept (exit_put e f.closing next)
kept_exit f None next k = k
kept_exit f (Some b) next k = kept_upto f.closing.start (put [] (what.Exit b) next) (kept_put [] (what.Exit b) next refl k)

kept_functions : (fs : List p.Function) → Kept (parts_in_functions fs)
kept_functions [] = kept_rest
kept_functions (f ∷ rest) = in_function (kept_functions rest)
  where
    in_function : Kept (parts_in_functions rest) → Kept (parts_in_function f (parts_in_functions rest))
    in_function k ts =
        let type : List (List ℕ) = type_at f.name_span.start ts in
        let next : Parts = exit_put f.exit f.closing (parts_in_functions rest) in
        kept_upto f.name_span.end (into_body (body type f (parts_in_functions rest)))
        (kept_into (body type f (parts_in_functions rest))
        (kept_front f (nat_eq f.registers 0) f.entry (inserted type (body_rows f) next)
        (kept_inserted type (body_rows f) next (rows_are (tied_body f.body)) (kept_exit f f.exit (parts_in_functions rest) k)))) ts

pub parts_kept : (tokens : List Tok) (tree : p.Tree) → Each IsKept (parts_of tokens tree)
parts_kept tokens tree = kept_functions tree.program.functions tokens

-- ---- what stands before a place after a token

-- after a token that is a `:`, or a name
pub record Next (b : Before) (colon name : Bool) : Type 0 where
  pub statement : site.is_after_statement b ≡ false
  pub colon_is : site.is_colon b ≡ colon
  pub no_name : name ≡ false → site.is_name b ≡ false

next_other : (c n : Bool) → c ≡ false → Next before.Other c n
next_other c n e = record { statement = refl; colon_is = sym e; no_name = λ f. refl }

-- a token with another text
pub not_colon : (t : Tok) (text : List ℕ) → bytes_eq text (codes ":") ≡ false → is text t ≡ true → is (codes ":") t ≡ false
not_colon t text e h = ap (λ x. bytes_eq x (codes ":")) (same_text t.text text h) ∙ e

module _ (source : List Tok) (at : ℕ) (t : Tok) (kind : kind_in source t.text ≡ t.kind) where
  -- the token where it is printed
  abbrev printed : Tok
  printed = marks.token source at t.text

  same_name : is_name t ≡ is_name printed
  same_name = ap (λ k. is_identifier_kind k || is (codes "if") t || is (codes "switch") t || is (codes "while") t || is (codes "for") t) (sym kind)

  next_source : Next (before_of printed) (is (codes ":") t) (is_name t)
  next_source = subst (Next (before_of printed) (is (codes ":") t)) (sym same_name) (by_tests (is (codes ":") printed) (is (codes ")") printed) (is_name printed))
    where
      by_tests : (a b c : Bool) → Next (cond a before.Colon (cond b before.Parenthesis (cond c before.Name before.Other))) a c
      by_tests true b c = record { statement = refl; colon_is = refl; no_name = λ e. refl }
      by_tests false true c = record { statement = refl; colon_is = refl; no_name = λ e. refl }
      by_tests false false true = record { statement = refl; colon_is = refl; no_name = λ e. e }
      by_tests false false false = record { statement = refl; colon_is = refl; no_name = λ e. refl }

  next_copied : Next (before_after (what_of t) printed) (is (codes ":") t) (is_name t)
  next_copied =
      by_tests (is (codes "(") t) refl (is (codes "[") t) refl (is (codes "{") t) refl (is (codes ")") t || is (codes "]") t || is (codes "}") t)
    where
      by_tests : (a : Bool) → is (codes "(") t ≡ a → (b : Bool) → is (codes "[") t ≡ b → (c : Bool) → is (codes "{") t ≡ c → (d : Bool)
          → Next (before_after (cond a (what.Opening bracket.Parenthesis) (cond b (what.Opening bracket.Square) (cond c (what.Opening bracket.Brace) (cond d what.Closing what.Source)))) printed)
          (is (codes ":") t) (is_name t)
      by_tests true e b f c g d = next_other (is (codes ":") t) (is_name t) (not_colon t (codes "(") refl e)
      by_tests false e true f c g d = next_other (is (codes ":") t) (is_name t) (not_colon t (codes "[") refl f)
      by_tests false e false f true g d = next_other (is (codes ":") t) (is_name t) (not_colon t (codes "{") refl g)
      by_tests false e false f false g true = next_source
      by_tests false e false f false g false = next_source

  next_body : is (codes "{") t ≡ true → Next before.Front (is (codes ":") t) (is_name t)
  next_body e = record { statement = refl; colon_is = sym (not_colon t (codes "{") refl e); no_name = λ f. refl }

  pub next_token : (w : What) → IsBy w t → Next (before_after w printed) (is (codes ":") t) (is_name t)
  next_token w (inl e) = subst (λ w. Next (before_after w printed) (is (codes ":") t) (is_name t)) (sym e) next_copied
  next_token w (inr both) = subst (λ w. Next (before_after w printed) (is (codes ":") t) (is_name t)) (sym both.0) (next_body both.1)

-- ---- a `{` of the source

brace_is : (t : Tok) → what_of t ≡ what.Opening bracket.Brace → is (codes "{") t ≡ true
brace_is t = by_tests (is (codes "(") t) (is (codes "[") t) (is (codes "{") t) (is (codes ")") t || is (codes "]") t || is (codes "}") t)
  where
    by_tests : (a b c d : Bool) → cond a (what.Opening bracket.Parenthesis) (cond b (what.Opening bracket.Square) (cond c (what.Opening bracket.Brace) (cond d what.Closing what.Source))) ≡ what.Opening bracket.Brace
        → c ≡ true
    by_tests true b c d e = absurd (cc)
    by_tests false true c d e = absurd (cc)
    by_tests false false true d e = refl
    by_tests false false false true e = absurd (cc)
    by_tests false false false false e = absurd (cc)

pub brace_by : (t : Tok) → IsBy (what.Opening bracket.Brace) t → is (codes "{") t ≡ true
brace_by t (inl e) = brace_is t (sym e)
brace_by t (inr both) = both.1
