-- One turn of the scan, beside a loop that counts up.
use Rattle.std.proofs.Common.{◌≡◌, ℕ, zero, suc, ◌+◌, ◌-◌, ◌<◌, ◌≤◌, Bool, true, false, not, ◌&&◌, ◌||◌, cond, nat_eq, List, [], ◌∷◌, ◌++◌, length, take, drop, map, reverse, Option, Some, None, refl, ap, subst, sym, ◌∙◌, arith, append_assoc, append-nil, length-drop, length-take}
use Rattle.std.proofs.lemmas.List.{map_push, reverse-append}
use Rattle.std.proofs.lemmas.List.Sums.{take_while-cons}
use Rattle.std.specs.Prelude.{take_while}
use Rattle.std.specs.List.{list_all}
use Rattle.mc_lex.specs.declared.token.Dialect.{Dialect}
use Rattle.mc_lex.specs.declared.token.TokenKind.{TokenKind}
use Rattle.mc_lex.specs.declared.fault_kind.FaultKind.{FaultKind}
use Rattle.mc_lex.specs.declared.fault_kind.FaultKind.TheVariants as fault_kind
use Rattle.mc_lex.specs.declared.fault.LexFault.{LexFault}
use Rattle.mc_lex.specs.declared.next.Next.{Next}
use Rattle.mc_lex.specs.declared.next.Next.TheVariants as next
use Rattle.mc_lex.specs.Bytes.{is_line_end, goes_on, is_white_space}
use Rattle.mc_lex.specs.Lines.{is_first_on_line}
use Rattle.mc_lex.specs.Scans.{fault_at}
use Rattle.mc_lex.specs.Tokens.{Tok}
use Rattle.mc_lex.specs.Returned.{GivesFault}
use Rattle.mc_lex.specs.steps.Scanner.{next_at, go_on, scan, still_first}

abbrev pub with_tokens : List Tok → List Tok × Option LexFault → List Tok × Option LexFault
with_tokens ts found = (ts ++ found.0, found.1)

-- ---- the place

pub take_more : (a m : ℕ) (s : List ℕ) → take (a + m) s ≡ take a s ++ take m (drop a s)
take_more zero m s = let e : 0 + m ≡ m = omega arith in ap (λ k. take k s) e
take_more (suc a) zero [] = let e : suc a + 0 ≡ suc a = omega arith in ap (λ k. take k []) e
take_more (suc a) (suc m) [] = let e : suc a + suc m ≡ suc (a + suc m) = omega arith in ap (λ k. take k []) e
take_more (suc a) m (x ∷ xs) = let e : suc a + m ≡ suc (a + m) = omega arith in ap (λ k. take k (x ∷ xs)) e ∙ ap (λ l. x ∷ l) (take_more a m xs)

pub drop_more : (a m : ℕ) (s : List ℕ) → drop (a + m) s ≡ drop m (drop a s)
drop_more zero m s = let e : 0 + m ≡ m = omega arith in ap (λ k. drop k s) e
drop_more (suc a) zero [] = let e : suc a + 0 ≡ suc a = omega arith in ap (λ k. drop k []) e
drop_more (suc a) (suc m) [] = let e : suc a + suc m ≡ suc (a + suc m) = omega arith in ap (λ k. drop k []) e
drop_more (suc a) m (x ∷ xs) = let e : suc a + m ≡ suc (a + m) = omega arith in ap (λ k. drop k (x ∷ xs)) e ∙ drop_more a m xs

-- ---- the first bytes of a line

one_more : (before : List ℕ) (b : ℕ) → is_first_on_line (before ++ (b ∷ [])) ≡ (is_line_end b || (is_white_space b && is_first_on_line before))
one_more before b =
    ap (λ l. list_all is_white_space (take_while goes_on l)) (reverse-append before (b ∷ []))
    ∙ ap (list_all is_white_space) (take_while-cons goes_on b (reverse before))
    ∙ by_end (is_line_end b)
  where
    by_end : (t : Bool) → list_all is_white_space (cond (not t) (b ∷ take_while goes_on (reverse before)) []) ≡ (t || (is_white_space b && is_first_on_line before))
    by_end true = refl
    by_end false = refl

pub first_more : (before text : List ℕ) → is_first_on_line (before ++ text) ≡ still_first (is_first_on_line before) text
first_more before [] = ap is_first_on_line (append-nil before)
first_more before (b ∷ bs) =
    ap is_first_on_line (sym (append_assoc before (b ∷ []) bs)) ∙ first_more (before ++ (b ∷ [])) bs ∙ ap (λ t. still_first t bs) (one_more before b)

-- ---- turns

empty : (l : List ℕ) → length l ≡ 0 → l ≡ []
empty [] h = refl
empty (x ∷ xs) h = absurd (omega arith)

pub nothing_left : (dialect : Dialect) (fuel : ℕ) (before bs : List ℕ) → length bs ≡ 0 → scan dialect fuel before bs ≡ ([], None)
unfolding scan
nothing_left dialect zero before bs h = refl
nothing_left dialect (suc fuel) before bs h = rw (empty bs h) refl

turn : (dialect : Dialect) (fuel : ℕ) (before bs : List ℕ) → 0 < length bs → scan dialect (suc fuel) before bs ≡ go_on (next_at dialect (is_first_on_line before) bs) before bs (scan dialect fuel)
unfolding scan
turn dialect fuel before [] h = absurd (omega arith)
turn dialect fuel before (b ∷ bs) h = refl

pub scan_turn : (dialect : Dialect) (n k : ℕ) (before bs : List ℕ) → k < n → 0 < length bs → scan dialect (n - k) before bs ≡ go_on (next_at dialect (is_first_on_line before) bs) before bs (scan dialect (n - (k + 1)))
scan_turn dialect n k before bs h some = let e : n - k ≡ suc (n - (k + 1)) = omega arith in rw e (turn dialect (n - (k + 1)) before bs some)

pub scan_none : (dialect : Dialect) (n k : ℕ) (before bs : List ℕ) → n ≤ k → scan dialect (n - k) before bs ≡ ([], None)
unfolding scan
scan_none dialect n k before bs h = let e : n - k ≡ 0 = omega arith in rw e refl

pub tokens_end : (ts : List Tok) → with_tokens ts ([], None) ≡ (ts, None)
tokens_end ts = ap (λ (l : List Tok). (l, None)) (append-nil ts)

-- how far the loop has come
pub record Turned (dialect : Dialect) (whole : List Tok × Option LexFault) (ts : List Tok) (source bs : List ℕ) (n k at : ℕ) (first : Bool) : Type 0 where
  pub same : whole ≡ with_tokens ts (scan dialect (n - k) (take at source) bs)
  pub within : at + length bs ≡ length source
  pub rest : bs ≡ drop at source
  pub is_first : first ≡ is_first_on_line (take at source)

-- a turn of the loop at a place of the source
module _ (dialect : Dialect) (whole : List Tok × Option LexFault) (ts : List Tok) (source bs : List ℕ) (n k at : ℕ) (first : Bool)
    (so_far : whole ≡ with_tokens ts (scan dialect (n - k) (take at source) bs)) (rest : bs ≡ drop at source) (is_first : first ≡ is_first_on_line (take at source)) (h : k < n) (some : 0 < length bs) where
  turned : (fr : Next) → next_at dialect first bs ≡ fr → whole ≡ with_tokens ts (go_on fr (take at source) bs (scan dialect (n - (k + 1))))
  turned fr e = so_far ∙ ap (with_tokens ts) (scan_turn dialect n k (take at source) bs h some ∙ ap (λ x. go_on x (take at source) bs (scan dialect (n - (k + 1)))) (ap (λ t. next_at dialect t bs) (sym is_first) ∙ e))

  before_more : (m : ℕ) → take at source ++ take m bs ≡ take (at + m) source
  before_more m = ap (λ l. take at source ++ take m l) rest ∙ sym (take_more at m source)

  pub rest_after : (m : ℕ) → drop m bs ≡ drop (at + m) source
  rest_after m = ap (drop m) rest ∙ sym (drop_more at m source)

  pub first_after : (m : ℕ) → still_first first (take m bs) ≡ is_first_on_line (take (at + m) source)
  first_after m = ap (λ t. still_first t (take m bs)) is_first ∙ sym (first_more (take at source) (take m bs)) ∙ ap is_first_on_line (before_more m)

  pub is_stuck : (why : FaultKind) → at ≤ length source → next_at dialect first bs ≡ next.Refused why → whole.1 ≡ Some (fault_at why at)
  is_stuck why le e =
      let size : length (take at source) ≡ at = omega (arith, length-take at source) in
      ap (λ (w : List Tok × Option LexFault). w.1) (turned (next.Refused why) e) ∙ ap (λ k. Some (fault_at why k)) size

  pub after_gap : (m : ℕ) → next_at dialect first bs ≡ next.Gap m → whole ≡ with_tokens ts (scan dialect (n - (k + 1)) (take (at + m) source) (drop m bs))
  after_gap m e = turned (next.Gap m) e ∙ ap (λ b. with_tokens ts (scan dialect (n - (k + 1)) b (drop m bs))) (before_more m)

  pub after_token : (kind : TokenKind) (m : ℕ) → at ≤ length source → next_at dialect first bs ≡ next.Token kind m
      → whole ≡ with_tokens (ts ++ (record { kind = kind; text = take m bs; start = at } ∷ [])) (scan dialect (n - (k + 1)) (take (at + m) source) (drop m bs))
  after_token kind m le e =
      let size : length (take at source) ≡ at = omega (arith, length-take at source) in
      let later = scan dialect (n - (k + 1)) in
      turned (next.Token kind m) e
      ∙ ap (λ b. let found = later b (drop m bs) in (ts ++ (record { kind = kind; text = take m bs; start = length (take at source) } ∷ found.0), found.1)) (before_more m)
      ∙ ap (λ s. let found = later (take (at + m) source) (drop m bs) in (ts ++ (record { kind = kind; text = take m bs; start = s } ∷ found.0), found.1)) size
      ∙ ap (λ (l : List Tok). (l, (later (take (at + m) source) (drop m bs)).1)) (sym (append_assoc ts (record { kind = kind; text = take m bs; start = at } ∷ []) (later (take (at + m) source) (drop m bs)).0))

module _ (dialect : Dialect) (whole : List Tok × Option LexFault) (ts : List Tok) (source bs : List ℕ) (n k at : ℕ) (first : Bool) (t : Turned dialect whole ts source bs n k at first) (h : k < n) (some : 0 < length bs) where
  pub stuck_here : (why : FaultKind) (place : ℕ) → place ≡ at → next_at dialect first bs ≡ next.Refused why → whole.1 ≡ Some (fault_at why place)
  stuck_here why place same e = is_stuck dialect whole ts source bs n k at first t.same t.rest t.is_first h some why (omega (arith, t.within)) e ∙ ap (λ p. Some (fault_at why p)) (sym same)

  pub gap_turned : (m : ℕ) → m ≤ length bs → next_at dialect first bs ≡ next.Gap m → (ts' : List Tok) (bs' : List ℕ) (at' : ℕ) (first' : Bool) → ts' ≡ ts → bs' ≡ drop m bs → at' ≡ at + m → first' ≡ still_first first (take m bs)
      → Turned dialect whole ts' source bs' n (k + 1) at' first'
  gap_turned m le e ts' bs' at' first' et eb ea ef =
      let base : Turned dialect whole ts source (drop m bs) n (k + 1) (at + m) (still_first first (take m bs)) = record {
        same = after_gap dialect whole ts source bs n k at first t.same t.rest t.is_first h some m e;
        within = omega (arith, t.within, length-drop m bs);
        rest = rest_after dialect whole ts source bs n k at first t.same t.rest t.is_first h some m;
        is_first = first_after dialect whole ts source bs n k at first t.same t.rest t.is_first h some m;
      } in
      subst (λ x. Turned dialect whole x source bs' n (k + 1) at' first') (sym et)
      (subst (λ x. Turned dialect whole ts source x n (k + 1) at' first') (sym eb)
      (subst (λ x. Turned dialect whole ts source (drop m bs) n (k + 1) x first') (sym ea)
      (subst (λ x. Turned dialect whole ts source (drop m bs) n (k + 1) (at + m) x) (sym ef) base)))

  pub token_turned : (kind : TokenKind) (m : ℕ) → m ≤ length bs → next_at dialect first bs ≡ next.Token kind m → (ts' : List Tok) (bs' : List ℕ) (at' : ℕ) (first' : Bool)
      → ts' ≡ ts ++ (record { kind = kind; text = take m bs; start = at } ∷ []) → bs' ≡ drop m bs → at' ≡ at + m → first' ≡ still_first first (take m bs) → Turned dialect whole ts' source bs' n (k + 1) at' first'
  token_turned kind m le e ts' bs' at' first' et eb ea ef =
      let base : Turned dialect whole (ts ++ (record { kind = kind; text = take m bs; start = at } ∷ [])) source (drop m bs) n (k + 1) (at + m) (still_first first (take m bs)) = record {
        same = after_token dialect whole ts source bs n k at first t.same t.rest t.is_first h some kind m (omega (arith, t.within)) e;
        within = omega (arith, t.within, length-drop m bs);
        rest = rest_after dialect whole ts source bs n k at first t.same t.rest t.is_first h some m;
        is_first = first_after dialect whole ts source bs n k at first t.same t.rest t.is_first h some m;
      } in
      subst (λ x. Turned dialect whole x source bs' n (k + 1) at' first') (sym et)
      (subst (λ x. Turned dialect whole (ts ++ (record { kind = kind; text = take m bs; start = at } ∷ [])) source x n (k + 1) at' first') (sym eb)
      (subst (λ x. Turned dialect whole (ts ++ (record { kind = kind; text = take m bs; start = at } ∷ [])) source (drop m bs) n (k + 1) x first') (sym ea)
      (subst (λ x. Turned dialect whole (ts ++ (record { kind = kind; text = take m bs; start = at } ∷ [])) source (drop m bs) n (k + 1) (at + m) x) (sym ef) base)))

pub gives_stuck : (whole : List Tok × Option LexFault) (why : FaultKind) (at : ℕ) (e : LexFault) → e ≡ fault_at why at → whole.1 ≡ Some (fault_at why at) → GivesFault whole e
gives_stuck whole why at e is told = subst (λ x. GivesFault whole x) (sym is) (by_why why told)
  where
    by_why : (why : FaultKind) → whole.1 ≡ Some (fault_at why at) → GivesFault whole (fault_at why at)
    by_why fault_kind.Byte h = h
    by_why fault_kind.Token h = h
    by_why fault_kind.Directive h = h
    by_why fault_kind.OutsideWord h = h
    by_why fault_kind.Limit h = h

pub ruleset scan_steps = (nothing_left, scan_turn, scan_none, tokens_end, map_push, append_assoc)
