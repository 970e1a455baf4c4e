-- One turn of the loop that cuts a text; a text has one cut.
use Rattle.std.proofs.Common.{◌≡◌, ℕ, zero, suc, ◌+◌, ◌<◌, ◌≤◌, Bool, List, [], ◌∷◌, ◌++◌, length, take, drop, Some, refl, ap, subst, sym, ◌∙◌, arith, append_assoc, append-nil, length-take, length-drop}
use Rattle.mc_lex.specs.Lines.{is_first_on_line}
use Rattle.mc_lex.specs.steps.Scanner.{still_first}
use Rattle.mc_lex.proofs.Texts.{cut, same_first_part}
use Rattle.mc_lex.proofs.Lexing.{take_more, drop_more, first_more}
use Rattle.adapt_tokens.specs.declared.kind.Kind.{Kind}
use Rattle.adapt_tokens.specs.declared.next.Next.{Next}
use Rattle.adapt_tokens.specs.Cuts.{Part, Leads, Cuts}
use Rattle.adapt_tokens.specs.Cuts as c
use Rattle.adapt_tokens.specs.Kinds.{kind_of}
use Rattle.adapt_tokens.specs.steps.Next.{next_at}
use Rattle.adapt_tokens.proofs.Leading.{led, leads}

-- how far the loop has come
pub record Turned (source : List ℕ) (ts : List Part) (at : ℕ) (bs : List ℕ) (first : Bool) : Type 0 where
  pub whole : (ps : List Part) → Cuts (take at source) bs ps → Cuts [] source (ts ++ ps)
  pub within : at + length bs ≡ length source
  pub rest : bs ≡ drop at source
  pub is_first : first ≡ is_first_on_line (take at source)

pub begun : (source : List ℕ) (ps : List Part) → Cuts [] source ps → Cuts [] source ([] ++ ps)
begun source ps h = h

pub next_within : (first : Bool) (bs : List ℕ) → 0 < length bs → (next_at first bs).length ≤ length bs
next_within first bs h = (led first bs h).within

pub next_some : (first : Bool) (bs : List ℕ) → 0 < length bs → 0 < (next_at first bs).length
next_some first bs h = (led first bs h).some

pub turned : (source : List ℕ) (ts : List Part) (at : ℕ) (bs : List ℕ) (first : Bool) → Turned source ts at bs first → 0 < length bs
    → Turned source (ts ++ (record { kind = (next_at first bs).kind; text = take (next_at first bs).length bs; start = at } ∷ [])) (at + (next_at first bs).length) (drop (next_at first bs).length bs) (still_first first (take (next_at first bs).length bs))
turned source ts at bs first t some =
    let n = (next_at first bs).length in
    let inside : n ≤ length bs = next_within first bs some in
    let joined : take at source ++ take n bs ≡ take (at + n) source = ap (λ l. take at source ++ take n l) t.rest ∙ sym (take_more at n source) in
    let size : length (take at source) ≡ at = omega (arith, length-take at source, t.within) in
    let leading = subst (λ f. Leads f (next_at first bs).kind (take n bs) (drop n bs) bs) t.is_first (leads first bs some) in
    record {
      whole = λ ps h.
          subst (λ l. Cuts [] source l) (sym (append_assoc ts (record { kind = (next_at first bs).kind; text = take n bs; start = at } ∷ []) ps))
          (t.whole (record { kind = (next_at first bs).kind; text = take n bs; start = at } ∷ ps)
          (subst (λ s. Cuts (take at source) bs (record { kind = (next_at first bs).kind; text = take n bs; start = s } ∷ ps)) size
          (c.piece (take at source) (take n bs) (drop n bs) bs (next_at first bs).kind ps leading
          (subst (λ b. Cuts b (drop n bs) ps) (sym joined) h))));
      within = omega (arith, t.within, length-drop n bs);
      rest = ap (drop n) t.rest ∙ sym (drop_more at n source);
      is_first = ap (λ f. still_first f (take n bs)) t.is_first ∙ sym (first_more (take at source) (take n bs)) ∙ ap is_first_on_line joined;
    }

nothing : (bs : List ℕ) → length bs ≡ 0 → bs ≡ []
nothing [] h = refl
nothing (b ∷ bs) h = absurd (omega arith)

pub done : (source : List ℕ) (ts : List Part) (at : ℕ) (bs : List ℕ) → ((ps : List Part) → Cuts (take at source) bs ps → Cuts [] source (ts ++ ps)) → length bs ≡ 0 → Cuts [] source ts
done source ts at bs whole h = subst (λ l. Cuts [] source l) (append-nil ts) (whole [] (subst (λ b. Cuts (take at source) b []) (sym (nothing bs h)) c.ends))

pub turned_by : (source : List ℕ) (ts : List Part) (at : ℕ) (bs : List ℕ) (first : Bool) → Turned source ts at bs first → 0 < length bs
    → (n : Next) → n ≡ next_at first bs → (text after : List ℕ) → text ≡ take n.length bs → after ≡ drop n.length bs → (first' : Bool) → first' ≡ still_first first text
    → (ts' : List Part) → ts' ≡ ts ++ (record { kind = n.kind; text = text; start = at } ∷ []) → Turned source ts' (at + n.length) after first'
turned_by source ts at bs first t some n en text after et ea first' ef ts' es =
    subst (λ l. Turned source l (at + n.length) after first') (sym es)
    (subst (λ f. Turned source (ts ++ (record { kind = n.kind; text = text; start = at } ∷ [])) (at + n.length) after f) (sym ef)
    (subst (λ a. Turned source (ts ++ (record { kind = n.kind; text = text; start = at } ∷ [])) (at + n.length) a (still_first first text)) (sym ea)
    (subst (λ x. Turned source (ts ++ (record { kind = n.kind; text = x; start = at } ∷ [])) (at + n.length) (drop n.length bs) (still_first first x)) (sym et)
    (subst (λ (m : Next). Turned source (ts ++ (record { kind = m.kind; text = take m.length bs; start = at } ∷ [])) (at + m.length) (drop m.length bs) (still_first first (take m.length bs))) (sym en)
    (turned source ts at bs first t some)))))

pub within_by : (first : Bool) (bs : List ℕ) (n : Next) → n ≡ next_at first bs → 0 < length bs → n.length ≤ length bs
within_by first bs n e h = subst (λ (m : Next). m.length ≤ length bs) (sym e) (next_within first bs h)

pub some_by : (first : Bool) (bs : List ℕ) (n : Next) → n ≡ next_at first bs → 0 < length bs → 0 < n.length
some_by first bs n e h = subst (λ (m : Next). 0 < m.length) (sym e) (next_some first bs h)

-- ---- one cut, and one for each text

same_leads : (first : Bool) (k j : Kind) (text after other rest bs : List ℕ) → Leads first k text after bs → Leads first j other rest bs → (text ≡ other) × (after ≡ rest) × (k ≡ j)
same_leads first k j text after other rest bs l m =
    let size : length text ≡ length other = omega (arith, l.longest other rest j m.whole m.is_kind, m.longest text after k l.whole l.is_kind) in
    let same = same_first_part text after other rest bs l.whole m.whole size in
    let left : after ≡ rest = sym (cut text after bs l.whole).1 ∙ ap (λ n. drop n bs) size ∙ (cut other rest bs m.whole).1 in
    let kinds : Some k ≡ Some j = sym l.is_kind ∙ ap (kind_of first) same ∙ m.is_kind in
    (same, left, cc)

no_piece : (first : Bool) (k : Kind) (text after : List ℕ) → Leads first k text after [] → ⊥
no_piece first k [] after l = absurd (cc (l.is_kind))
no_piece first k (b ∷ text) after l = absurd (cc (l.whole))

pub one_cut : (before bs : List ℕ) (ps qs : List Part) → Cuts before bs ps → Cuts before bs qs → ps ≡ qs
one_cut before bs ps qs c.ends c.ends = refl
one_cut before bs ps qs c.ends (c.piece _ text after _ k rest l h) = absurd (no_piece (is_first_on_line before) k text after l)
one_cut before bs ps qs (c.piece _ text after _ k rest l h) c.ends = absurd (no_piece (is_first_on_line before) k text after l)
one_cut before bs ps qs (c.piece _ text after _ k rest l h) (c.piece _ text' after' _ j rest' m g) =
    let same = same_leads (is_first_on_line before) k j text after text' after' bs l m in
    let moved : Cuts (before ++ text) after rest' = subst (λ x. Cuts (before ++ x) after rest') (sym same.0) (subst (λ x. Cuts (before ++ text') x rest') (sym same.1) g) in
    let later = one_cut (before ++ text) after rest rest' h moved in
    cc

pub some_cut : (n : ℕ) (before bs : List ℕ) → length bs ≤ n → (ps : List Part) × Cuts before bs ps
some_cut n before [] h = ([], c.ends)
some_cut zero before (b ∷ bs) h = absurd (omega arith)
some_cut (suc n) before (b ∷ bs) h =
    let first = is_first_on_line before in
    let m = (next_at first (b ∷ bs)).length in
    let some : 0 < m = next_some first (b ∷ bs) (omega arith) in
    let less : length (drop m (b ∷ bs)) ≤ n = omega (arith, length-drop m (b ∷ bs)) in
    let later = some_cut n (before ++ take m (b ∷ bs)) (drop m (b ∷ bs)) less in (
      record { kind = (next_at first (b ∷ bs)).kind; text = take m (b ∷ bs); start = length before } ∷ later.0,
      c.piece before (take m (b ∷ bs)) (drop m (b ∷ bs)) (b ∷ bs) (next_at first (b ∷ bs)).kind later.0 (leads first (b ∷ bs) (omega arith)) later.1,
    )
