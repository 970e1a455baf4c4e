-- What stands next, and that it is a gap, a token or a stop.
use Rattle.std.proofs.Common.{◌≡◌, ℕ, zero, suc, ◌+◌, ◌<◌, ◌≤◌, Bool, true, false, not, ◌&&◌, ◌||◌, cond, nat_eq, List, [], ◌∷◌, ◌++◌, length, take, drop, Option, Some, None, Result, Ok, Err, refl, ap, subst, sym, ◌∙◌, arith, append_assoc, take-append-drop, length-append}
use Rattle.std.proofs.lemmas.List.Folds.{length-prefix_len}
use Rattle.std.specs.List.{list_all}
use Rattle.mc_lex.specs.declared.token.Dialect.{Dialect}
use Rattle.mc_lex.specs.declared.token.TokenKind.{TokenKind}
use Rattle.mc_lex.specs.declared.fault_kind.FaultKind.{FaultKind}
use Rattle.mc_lex.specs.declared.fault_kind.FaultKind.TheVariants as fault_kind
use Rattle.mc_lex.specs.declared.next.Next.{Next}
use Rattle.mc_lex.specs.declared.next.Next.TheVariants as next
use Rattle.mc_lex.specs.Bytes.{is_white_space, goes_on}
use Rattle.mc_lex.specs.Lines.{is_first_on_line}
use Rattle.mc_lex.specs.Gaps.{ends_line, ClosesComment, begins_comment, IsMarker, IsGap}
use Rattle.mc_lex.specs.Gaps as gap
use Rattle.mc_lex.specs.Scans.{Means, IsLongest, MeansNothing, Stops}
use Rattle.mc_lex.specs.Scans as r
use Rattle.mc_lex.specs.steps.Scanner.{Within, candidate_at, is_marker, close_len, line_len, after_first, comment_next, hash_next, starts_with_byte, kind_next, nothing_next, length_next, candidate_next, begins_block_comment, begins_line_comment, next_at}
use Rattle.mc_lex.proofs.Texts.{both, is_false, not_both, same_byte, cut, run_all, run_exact, run_ends, run_within, ends_run}
use Rattle.mc_lex.proofs.Comments.{closing, closed_len, open_len, len_open}
use Rattle.mc_lex.proofs.Markers.{marker_found, marker_is, marker_goes_on, marker_hash}
use Rattle.mc_lex.proofs.Candidates.{size_within, Stood, stood, stands_full, stands_apart, is_apart, largest, candidate_longest, candidate_none, token_next, none_next}

pub candidate_within : (bs : List ℕ) → (candidate_at bs).length ≤ length bs
candidate_within bs = omega (arith, (largest bs).right, size_within (candidate_at bs).class bs)

-- ---- lines

ends_same : (bs : List ℕ) → ends_run goes_on bs ≡ ends_line bs
ends_same [] = refl
ends_same (b ∷ bs) = refl

-- ---- the tests of what stands next

block_facts : (b : ℕ) (tail : List ℕ) → begins_block_comment (b ∷ tail) ≡ true → (b ≡ 47) × (tail ≡ 42 ∷ after_first tail)
block_facts b [] h = absurd (cc)
block_facts b (c ∷ body) h = let two = both (nat_eq b 47) (nat_eq c 42) h in (same_byte b 47 two.0, ap (λ x. x ∷ body) (same_byte c 42 two.1))

line_facts : (b : ℕ) (tail : List ℕ) → begins_line_comment (b ∷ tail) ≡ true → (b ≡ 47) × (tail ≡ 47 ∷ after_first tail)
line_facts b [] h = absurd (cc)
line_facts b (c ∷ body) h = let two = both (nat_eq b 47) (nat_eq c 47) h in (same_byte b 47 two.0, ap (λ x. x ∷ body) (same_byte c 47 two.1))

no_comment : (bs : List ℕ) → begins_block_comment bs ≡ false → begins_line_comment bs ≡ false → begins_comment bs ≡ false
no_comment [] h g = refl
no_comment (b ∷ []) h g = refl
no_comment (b ∷ c ∷ bs) h g = join (nat_eq b 47) (nat_eq c 42) (nat_eq c 47) h g
  where
    join : (s t u : Bool) → (s && t) ≡ false → (s && u) ≡ false → (s && (t || u)) ≡ false
    join false t u e f = refl
    join true false u e f = f
    join true true u e f = e

comment_none : (bs : List ℕ) → begins_comment bs ≡ false → (begins_block_comment bs ≡ false) × (begins_line_comment bs ≡ false)
comment_none [] h = (refl, refl)
comment_none (b ∷ []) h = (refl, refl)
comment_none (b ∷ c ∷ bs) h = part (nat_eq b 47) (nat_eq c 42) (nat_eq c 47) h
  where
    part : (s t u : Bool) → (s && (t || u)) ≡ false → ((s && t) ≡ false) × ((s && u) ≡ false)
    part false t u e = (refl, refl)
    part true false u e = (refl, e)
    part true true u e = (e, absurd (cc))

-- ---- what is found is so

pub record GapHere (before bs : List ℕ) (n : ℕ) : Type 0 where
  pub text : List ℕ
  pub after : List ℕ
  pub whole : bs ≡ text ++ after
  pub size : length text ≡ n
  pub is_gap : IsGap before text after
  pub some : 0 < n

pub record TokenHere (dialect : Dialect) (bs : List ℕ) (kind : TokenKind) (n : ℕ) : Type 0 where
  pub no_comment : begins_comment bs ≡ false
  pub longest : IsLongest dialect (take n bs) (drop n bs) bs (Ok kind)
  pub some : 0 < n
  pub within : n ≤ length bs

abbrev pub IsNext : Dialect → List ℕ → List ℕ → Next → Type 0
IsNext dialect before bs (next.Gap n) = GapHere before bs n
IsNext dialect before bs (next.Token kind n) = TokenHere dialect bs kind n
IsNext dialect before bs (next.Refused why) = Stops dialect before bs why

choose : (P : Next → Type 0) (b : Bool) (x y : Next) → (b ≡ true → P x) → (b ≡ false → P y) → P (cond b x y)
choose P true x y g h = g refl
choose P false x y g h = h refl

-- ---- a gap that begins with `#` is a marker

pub heads : (b c : ℕ) (tail rest : List ℕ) → (b ∷ tail) ≡ (c ∷ rest) → (b ≡ c) × (tail ≡ rest)
heads b c tail rest e = (cc, cc)

no_slash : (tail rest : List ℕ) → (35 ∷ tail) ≡ (47 ∷ rest) → ⊥
no_slash tail rest e = omega (arith, (heads 35 47 tail rest e).0)

no_white_space : (b : ℕ) (tail rest : List ℕ) → (35 ∷ tail) ≡ (b ∷ rest) → is_white_space b ≡ true → ⊥
no_white_space b tail rest e h = not_both (is_white_space 35) (ap is_white_space (heads 35 b tail rest e).0 ∙ h) refl

pub record HashGap (before bs text : List ℕ) : Type 0 where
  pub first : is_first_on_line before ≡ true
  pub line : take (line_len bs) bs ≡ text
  pub marker : IsMarker text

marker_line : (before text after bs : List ℕ) → bs ≡ text ++ after → is_first_on_line before ≡ true → IsMarker text → ends_line after ≡ true → HashGap before bs text
marker_line before text after bs w first m e =
    let n : line_len bs ≡ length text = ap line_len w ∙ run_exact goes_on text after (marker_goes_on text m) (ends_same after ∙ e) in
    record { first = first; line = ap (λ k. take k bs) n ∙ (cut text after bs w).0; marker = m }

hash_gap : (before tail text after : List ℕ) → IsGap before text after → (35 ∷ tail) ≡ text ++ after → HashGap before (35 ∷ tail) text
hash_gap before tail text after (gap.white_space b after' h) w = absurd (no_white_space b tail after' w h)
hash_gap before tail text after (gap.block_comment inside after' bs c) w = absurd (no_slash tail _ w)
hash_gap before tail text after (gap.line_comment line after' h e) w = absurd (no_slash tail _ w)
hash_gap before tail text after (gap.marker text' after' first m e) w = marker_line before text' after' (35 ∷ tail) w first m e

module _ (dialect : Dialect) (before : List ℕ) where
  block_is : (body : List ℕ) → IsNext dialect before (47 ∷ 42 ∷ body) (comment_next (close_len body))
  block_is body = by_len (close_len body) refl
    where
      by_len : (o : Option ℕ) → close_len body ≡ o → IsNext dialect before (47 ∷ 42 ∷ body) (comment_next o)
      by_len None e = r.open_comment body (len_open body e)
      by_len (Some m) e =
          let c = closing 0 body m e in
          record {
            text = (47 ∷ 42 ∷ c.inside) ++ (42 ∷ 47 ∷ []);
            after = c.after;
            whole = ap (λ l. 47 ∷ 42 ∷ l) (c.closes.whole ∙ sym (append_assoc c.inside (42 ∷ 47 ∷ []) c.after));
            size = omega (arith, c.count, length-append c.inside (42 ∷ 47 ∷ []));
            is_gap = gap.block_comment c.inside c.after body c.closes;
            some = omega arith;
          }

  line_is : (body : List ℕ) → IsNext dialect before (47 ∷ 47 ∷ body) (next.Gap (line_len (47 ∷ 47 ∷ body)))
  line_is body = record {
    text = 47 ∷ 47 ∷ take (line_len body) body;
    after = drop (line_len body) body;
    whole = ap (λ l. 47 ∷ 47 ∷ l) (sym (take-append-drop (line_len body) body));
    size = omega (arith, length-prefix_len goes_on body);
    is_gap = gap.line_comment (take (line_len body) body) (drop (line_len body) body) (run_all goes_on body) (sym (ends_same (drop (line_len body) body)) ∙ run_ends goes_on body);
    some = omega arith;
  }

  hash_is : (tail : List ℕ) → IsNext dialect before (35 ∷ tail) (hash_next (is_first_on_line before) (35 ∷ tail))
  hash_is tail = choose (IsNext dialect before (35 ∷ tail)) (is_first_on_line before && is_marker line) (next.Gap n) (next.Refused fault_kind.Directive) found refused
    where
      n : ℕ
      n = line_len (35 ∷ tail)

      line : List ℕ
      line = take n (35 ∷ tail)

      found : (is_first_on_line before && is_marker line) ≡ true → GapHere before (35 ∷ tail) n
      found e =
          let two = both (is_first_on_line before) (is_marker line) e in
          record {
            text = line;
            after = drop n (35 ∷ tail);
            whole = sym (take-append-drop n (35 ∷ tail));
            size = length-prefix_len goes_on (35 ∷ tail);
            is_gap = gap.marker line (drop n (35 ∷ tail)) two.0 (marker_is line two.1) (sym (ends_same (drop n (35 ∷ tail))) ∙ run_ends goes_on (35 ∷ tail));
            some = omega arith;
          }

      refused : (is_first_on_line before && is_marker line) ≡ false → Stops dialect before (35 ∷ tail) fault_kind.Directive
      refused e = r.directive tail (λ text after w g.
          let h = hash_gap before tail text after g w in
          let yes' : (is_first_on_line before && is_marker line) ≡ true = rw (h.first, h.line) (marker_found text h.marker) in
          not_both _ yes' e)

  candidate_is : (b : ℕ) (tail : List ℕ) → is_white_space b ≡ false → nat_eq b 35 ≡ false → begins_comment (b ∷ tail) ≡ false → IsNext dialect before (b ∷ tail) (candidate_next dialect (b ∷ tail))
  unfolding candidate_next
  candidate_is b tail nb nh nc = by_len (candidate_at bs).length refl
    where
      bs : List ℕ
      bs = b ∷ tail

      by_kind : (n : ℕ) (what : Result TokenKind FaultKind) → suc n ≤ length bs → IsLongest dialect (take (suc n) bs) (drop (suc n) bs) bs what → IsNext dialect before bs (kind_next what (suc n))
      by_kind n (Ok kind) within l = record { no_comment = nc; longest = l; some = omega arith; within = within }
      by_kind n (Err why) within l = r.not_a_token (take (suc n) bs) (drop (suc n) bs) bs why nc l

      none_is : MeansNothing dialect bs → IsNext dialect before bs (nothing_next bs)
      none_is none = choose (IsNext dialect before bs) (nat_eq b 39) (next.Refused fault_kind.Token) (next.Refused fault_kind.Byte)
          (λ q. subst (λ x. MeansNothing dialect (x ∷ tail) → Stops dialect before (x ∷ tail) fault_kind.Token) (sym (same_byte b 39 q)) (r.open_quote tail) none)
          (λ q. r.begins_nothing b tail nb nh q nc none)

      by_len : (len : ℕ) → (candidate_at bs).length ≡ len → IsNext dialect before bs (length_next dialect bs (candidate_at bs).class len)
      by_len zero e = none_is (candidate_none dialect bs e)
      by_len (suc n) e = by_kind n _ (omega (arith, e, candidate_within bs)) (candidate_longest dialect bs n e)

  pub next_is : (b : ℕ) (tail : List ℕ) → IsNext dialect before (b ∷ tail) (next_at dialect (is_first_on_line before) (b ∷ tail))
  unfolding next_at
  next_is b tail =
      let P : Next → Type 0 = IsNext dialect before (b ∷ tail) in
      choose P (is_white_space b) _ _ (λ h. record { text = b ∷ []; after = tail; whole = refl; size = refl; is_gap = gap.white_space b tail h; some = omega arith }) (λ nb.
      choose P (begins_block_comment (b ∷ tail)) _ _ (λ h. let x = block_facts b tail h in
      subst (λ y. IsNext dialect before (y ∷ tail) (comment_next (close_len (after_first tail)))) (sym x.0)
      (subst (λ l. IsNext dialect before (47 ∷ l) (comment_next (close_len (after_first tail)))) (sym x.1) (block_is (after_first tail)))) (λ nk.
      choose P (begins_line_comment (b ∷ tail)) _ _ (λ h. let x = line_facts b tail h in
      subst (λ y. IsNext dialect before (y ∷ tail) (next.Gap (line_len (y ∷ tail)))) (sym x.0)
      (subst (λ l. IsNext dialect before (47 ∷ l) (next.Gap (line_len (47 ∷ l)))) (sym x.1) (line_is (after_first tail)))) (λ nl.
      choose P (nat_eq b 35) _ _ (λ h. subst (λ y. IsNext dialect before (y ∷ tail) (hash_next (is_first_on_line before) (y ∷ tail))) (sym (same_byte b 35 h)) (hash_is tail)) (λ nh.
      candidate_is b tail nb nh (no_comment (b ∷ tail) nk nl)))))

  -- ---- and nothing else is

  block_found : (first : Bool) (inside after bs : List ℕ) → ClosesComment inside after bs → next_at dialect first (47 ∷ 42 ∷ bs) ≡ next.Gap (length inside + 2 + 2)
  unfolding next_at
  block_found first inside after bs c = ap comment_next (closed_len inside after bs c)

  line_found : (first : Bool) (line after : List ℕ) → list_all goes_on line ≡ true → ends_line after ≡ true → next_at dialect first (47 ∷ 47 ∷ (line ++ after)) ≡ next.Gap (length (47 ∷ 47 ∷ line))
  unfolding next_at
  line_found first line after h e = ap next.Gap (run_exact goes_on (47 ∷ 47 ∷ line) after h (ends_same after ∙ e))

  at_hash : (first : Bool) (tail : List ℕ) → next_at dialect first (35 ∷ tail) ≡ hash_next first (35 ∷ tail)
  unfolding next_at
  at_hash first [] = refl
  at_hash first (b ∷ bs) = refl

  hash_found : (rest after : List ℕ) → is_first_on_line before ≡ true → IsMarker (35 ∷ rest) → ends_line after ≡ true → next_at dialect (is_first_on_line before) (35 ∷ (rest ++ after)) ≡ next.Gap (length (35 ∷ rest))
  hash_found rest after first m e =
      let n : line_len (35 ∷ (rest ++ after)) ≡ length (35 ∷ rest) = run_exact goes_on (35 ∷ rest) after (marker_goes_on (35 ∷ rest) m) (ends_same after ∙ e) in
      let h = marker_line before (35 ∷ rest) after (35 ∷ (rest ++ after)) refl first m e in
      let test : (is_first_on_line before && is_marker (take (line_len (35 ∷ (rest ++ after))) (35 ∷ (rest ++ after)))) ≡ true = rw (first, h.line) (marker_found (35 ∷ rest) m) in
      at_hash (is_first_on_line before) (rest ++ after) ∙ chosen _ _ _ test ∙ ap next.Gap n
    where
      chosen : (t : Bool) (x y : Next) → t ≡ true → cond t x y ≡ x
      chosen true x y e = refl
      chosen false x y e = absurd (cc)

  white_space_found : (first : Bool) (b : ℕ) (tail : List ℕ) → is_white_space b ≡ true → next_at dialect first (b ∷ tail) ≡ next.Gap 1
  unfolding next_at
  white_space_found first b tail h = rw h refl

  closed_text : (inside after bs : List ℕ) → ClosesComment inside after bs → ((47 ∷ 42 ∷ inside) ++ (42 ∷ 47 ∷ [])) ++ after ≡ 47 ∷ 42 ∷ bs
  closed_text inside after bs c = ap (λ l. 47 ∷ 42 ∷ l) (append_assoc inside (42 ∷ 47 ∷ []) after ∙ sym c.whole)

  closed_size : (inside : List ℕ) → length inside + 2 + 2 ≡ length ((47 ∷ 42 ∷ inside) ++ (42 ∷ 47 ∷ []))
  closed_size inside = omega (arith, length-append inside (42 ∷ 47 ∷ []))

  pub gap_next : (text after bs : List ℕ) → IsGap before text after → bs ≡ text ++ after → next_at dialect (is_first_on_line before) bs ≡ next.Gap (length text)
  gap_next text after bs (gap.white_space c after' h) w = ap (next_at dialect (is_first_on_line before)) w ∙ white_space_found (is_first_on_line before) c after' h
  gap_next text after bs (gap.block_comment inside after' body c) w =
      ap (next_at dialect (is_first_on_line before)) (w ∙ closed_text inside after' body c) ∙ block_found (is_first_on_line before) inside after' body c ∙ ap next.Gap (closed_size inside)
  gap_next text after bs (gap.line_comment line after' h e) w = ap (next_at dialect (is_first_on_line before)) w ∙ line_found (is_first_on_line before) line after' h e
  gap_next text after bs (gap.marker text' after' first m e) w =
      let hash = marker_hash text' m in
      let whole : bs ≡ 35 ∷ (hash.0 ++ after') = w ∙ ap (λ l. l ++ after') hash.1 in
      ap (next_at dialect (is_first_on_line before)) whole ∙ hash_found hash.0 after' first (subst IsMarker hash.1 m) e ∙ ap (λ l. next.Gap (length l)) (sym hash.1)

  -- what is not a gap goes to the longest text
  plain_next : (first : Bool) (b : ℕ) (tail : List ℕ) → is_white_space b ≡ false → nat_eq b 35 ≡ false → begins_comment (b ∷ tail) ≡ false → next_at dialect first (b ∷ tail) ≡ candidate_next dialect (b ∷ tail)
  unfolding next_at
  plain_next first b tail nb nh nc = let c = comment_none (b ∷ tail) nc in rw (nb, c.0, c.1, nh) refl

  apart : (b : ℕ) (tail text after : List ℕ) → (b ∷ tail) ≡ text ++ after → 0 < length text → is_apart text ≡ true → (is_white_space b ≡ false) × (nat_eq b 35 ≡ false)
  apart b tail [] after w some e = absurd (omega arith)
  apart b tail (x ∷ xs) after w some e =
      let same = (heads b x tail (xs ++ after) w).0 in
      let two = both (not (is_white_space x)) (not (nat_eq x 35)) e in
      (ap is_white_space same ∙ is_false _ two.0, ap (λ y. nat_eq y 35) same ∙ is_false _ two.1)

  pub longest_next : (first : Bool) (text after bs : List ℕ) (what : Result TokenKind FaultKind) → begins_comment bs ≡ false → IsLongest dialect text after bs what → next_at dialect first bs ≡ kind_next what (length text)
  longest_next first text after bs what nc l = by_bytes bs l.whole nc (token_next dialect text after bs what l)
    where
      s : Stood dialect text what
      s = stood dialect text what l.means

      by_bytes : (bs : List ℕ) → bs ≡ text ++ after → begins_comment bs ≡ false → candidate_next dialect bs ≡ kind_next what (length text) → next_at dialect first bs ≡ kind_next what (length text)
      by_bytes [] w nc e = absurd (omega (arith, ap length w, length-append text after, stands_full s.class text s.stands))
      by_bytes (b ∷ tail) w nc e =
          let a = apart b tail text after w (stands_full s.class text s.stands) (stands_apart s.class text s.stands) in
          plain_next first b tail a.0 a.1 nc ∙ e

  hash_stops : (tail : List ℕ) → ((text after : List ℕ) → (35 ∷ tail) ≡ text ++ after → IsGap before text after → ⊥) → next_at dialect (is_first_on_line before) (35 ∷ tail) ≡ next.Refused fault_kind.Directive
  hash_stops tail never = at_hash (is_first_on_line before) tail ∙ by_hash (is_first_on_line before && is_marker line) refl (hash_is tail)
    where
      line : List ℕ
      line = take (line_len (35 ∷ tail)) (35 ∷ tail)

      by_hash : (t : Bool) → (is_first_on_line before && is_marker line) ≡ t → IsNext dialect before (35 ∷ tail) (cond t (next.Gap (line_len (35 ∷ tail))) (next.Refused fault_kind.Directive))
          → cond t (next.Gap (line_len (35 ∷ tail))) (next.Refused fault_kind.Directive) ≡ next.Refused fault_kind.Directive
      by_hash true e h = absurd (never h.text h.after h.whole h.is_gap)
      by_hash false e h = refl

  open_stops : (first : Bool) (bs : List ℕ) → ((inside after : List ℕ) → bs ≡ inside ++ (42 ∷ 47 ∷ after) → ⊥) → next_at dialect first (47 ∷ 42 ∷ bs) ≡ next.Refused fault_kind.Token
  unfolding next_at
  open_stops first bs never = ap comment_next (open_len bs never)

  quote_stops : (first : Bool) (bs : List ℕ) → MeansNothing dialect (39 ∷ bs) → next_at dialect first (39 ∷ bs) ≡ next.Refused fault_kind.Token
  quote_stops first bs none = plain_next first 39 bs refl refl (no_slash_quote bs) ∙ none_next dialect (39 ∷ bs) none
    where
      no_slash_quote : (bs : List ℕ) → begins_comment (39 ∷ bs) ≡ false
      no_slash_quote [] = refl
      no_slash_quote (b ∷ bs) = refl

  byte_stops : (first : Bool) (b : ℕ) (bs : List ℕ) → is_white_space b ≡ false → nat_eq b 35 ≡ false → nat_eq b 39 ≡ false → begins_comment (b ∷ bs) ≡ false → MeansNothing dialect (b ∷ bs) → next_at dialect first (b ∷ bs) ≡ next.Refused fault_kind.Byte
  byte_stops first b bs nb nh nq nc none = plain_next first b bs nb nh nc ∙ none_next dialect (b ∷ bs) none ∙ ap (λ t. cond t (next.Refused fault_kind.Token) (next.Refused fault_kind.Byte)) nq

  pub stop_next : (bs : List ℕ) (why : FaultKind) → Stops dialect before bs why → next_at dialect (is_first_on_line before) bs ≡ next.Refused why
  stop_next bs why (r.not_a_token text after bs' why' nc l) = longest_next (is_first_on_line before) text after bs' (Err why') nc l
  stop_next bs why (r.open_comment bs' never) = open_stops (is_first_on_line before) bs' never
  stop_next bs why (r.directive bs' never) = hash_stops bs' never
  stop_next bs why (r.open_quote bs' none) = quote_stops (is_first_on_line before) bs' none
  stop_next bs why (r.begins_nothing b bs' nb nh nq nc none) = byte_stops (is_first_on_line before) b bs' nb nh nq nc none

-- ---- what stands next is within the bytes

any_next : (P : Next → Type 0) (b : Bool) (x y : Next) → P x → P y → P (cond b x y)
any_next P true x y p q = p
any_next P false x y p q = q

module _ (dialect : Dialect) where
  comment_within : (bs : List ℕ) → Within (comment_next (close_len bs)) (length bs + 2)
  comment_within bs = by_len (close_len bs) refl
    where
      by_len : (o : Option ℕ) → close_len bs ≡ o → Within (comment_next o) (length bs + 2)
      by_len None e = tt
      by_len (Some m) e = let c = closing 0 bs m e in omega (arith, c.count, ap length c.closes.whole, length-append c.inside (42 ∷ 47 ∷ c.after))

  after_within : (b : ℕ) (tail : List ℕ) → begins_block_comment (b ∷ tail) ≡ true → Within (comment_next (close_len (after_first tail))) (length (b ∷ tail))
  after_within b [] h = absurd (cc)
  after_within b (c ∷ body) h = let e : length body + 2 ≡ suc (suc (length body)) = omega arith in subst (Within (comment_next (close_len body))) e (comment_within body)

  candidate_next_within : (bs : List ℕ) → Within (candidate_next dialect bs) (length bs)
  unfolding candidate_next
  candidate_next_within bs = by_len (candidate_at bs).length refl
    where
      by_kind : (what : Result TokenKind FaultKind) (n : ℕ) → n ≤ length bs → Within (kind_next what n) (length bs)
      by_kind (Ok kind) n le = le
      by_kind (Err why) n le = tt

      by_len : (len : ℕ) → (candidate_at bs).length ≡ len → Within (length_next dialect bs (candidate_at bs).class len) (length bs)
      by_len zero e = any_next (λ x. Within x (length bs)) (starts_with_byte 39 bs) (next.Refused fault_kind.Token) (next.Refused fault_kind.Byte) tt tt
      by_len (suc n) e = by_kind _ (suc n) (omega (arith, e, candidate_within bs))

  next_within : (first : Bool) (b : ℕ) (tail : List ℕ) → Within (next_at dialect first (b ∷ tail)) (length (b ∷ tail))
  unfolding next_at
  next_within first b tail =
      let P : Next → Type 0 = λ x. Within x (length (b ∷ tail)) in
      choose P (is_white_space b) _ _ (λ h. omega arith) (λ nb.
      choose P (begins_block_comment (b ∷ tail)) _ _ (λ h. after_within b tail h) (λ nk.
      choose P (begins_line_comment (b ∷ tail)) _ _ (λ h. run_within goes_on (b ∷ tail)) (λ nl.
      choose P (nat_eq b 35) _ _ (λ h. any_next P (first && is_marker (take (line_len (b ∷ tail)) (b ∷ tail))) (next.Gap (line_len (b ∷ tail))) (next.Refused fault_kind.Directive) (run_within goes_on (b ∷ tail)) tt) (λ nh.
      candidate_next_within (b ∷ tail)))))

  within_of : (first : Bool) (bs : List ℕ) → 0 < length bs → Within (next_at dialect first bs) (length bs)
  within_of first [] some = absurd (omega arith)
  within_of first (b ∷ tail) some = next_within first b tail

  pub gap_within : (first : Bool) (bs : List ℕ) (n : ℕ) → 0 < length bs → next_at dialect first bs ≡ next.Gap n → n ≤ length bs
  gap_within first bs n some e = subst (λ x. Within x (length bs)) e (within_of first bs some)

  pub token_within : (first : Bool) (bs : List ℕ) (kind : TokenKind) (n : ℕ) → 0 < length bs → next_at dialect first bs ≡ next.Token kind n → n ≤ length bs
  token_within first bs kind n some e = subst (λ x. Within x (length bs)) e (within_of first bs some)
