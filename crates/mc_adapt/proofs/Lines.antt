-- Line ends of the text that is written.
use Rattle.std.proofs.Common.{◌≡◌, ℕ, ◌+◌, Bool, true, false, cond, nat_eq, List, [], ◌∷◌, ◌++◌, take, drop, refl, ap, subst, sym, ◌∙◌, arith, append_assoc, take-append-drop}
use Rattle.std.specs.List.{prefix_len}
use Rattle.std.proofs.lemmas.List.Sums.{sum_by-append, sum_by-cons}
use Rattle.mc_lex.specs.Bytes.{is_line_end, is_white_space}
use Rattle.mc_lex.proofs.Texts.{same_byte}
use Rattle.adapt_tokens.specs.declared.kind.Kind.{Kind}
use Rattle.adapt_tokens.specs.declared.kind.Kind.TheVariants as kind
use Rattle.adapt_tokens.specs.Cuts.{Part, Cuts}
use Rattle.adapt_tokens.specs.Cuts as c
use Rattle.mc_adapt.specs.declared.mark.Mark.{Mark}
use Rattle.mc_adapt.specs.declared.mark.Mark.TheVariants.{Stays, Goes, Outside}
use Rattle.mc_adapt.specs.declared.state.State.{State}
use Rattle.mc_adapt.specs.Sorts.{sort_of}
use Rattle.mc_adapt.specs.States.{start, state_after}
use Rattle.mc_adapt.specs.Marks.{Marking, mark_of, marked, markings}
use Rattle.mc_adapt.specs.Texts.{blank, blanks, no_digit, as_marker, kept, written_as, written, takes_void, void_if, named_after, text_from, text_of}
use Rattle.mc_adapt.specs.Laws.{line_ends, bytes_of, StaysOnLine, Untouched}
use Rattle.mc_adapt.specs.Laws as laws

ends_append : (xs ys : List ℕ) → line_ends (xs ++ ys) ≡ line_ends xs + line_ends ys
ends_append xs ys = sum_by-append (λ x. cond (is_line_end x) 1 0) xs ys

ends_cons : (x : ℕ) (xs : List ℕ) → line_ends (x ∷ xs) ≡ cond (is_line_end x) 1 0 + line_ends xs
ends_cons x xs = sum_by-cons (λ x. cond (is_line_end x) 1 0) x xs

no_end : (b : ℕ) → is_white_space b ≡ false → is_line_end b ≡ false
no_end b h = by_test (nat_eq b 10) refl
  where
    by_test : (t : Bool) → nat_eq b 10 ≡ t → t ≡ false
    by_test true e =
        let white : is_white_space b ≡ true = rw (same_byte b 10 e) refl in
        cc
    by_test false e = refl

blank_ends : (b : ℕ) → is_line_end (blank b) ≡ is_line_end b
blank_ends b = by_test (is_white_space b) refl
  where
    by_test : (t : Bool) → is_white_space b ≡ t → is_line_end (cond t b 32) ≡ is_line_end b
    by_test true h = refl
    by_test false h = sym (no_end b h)

blanks_ends : (bs : List ℕ) → line_ends (blanks bs) ≡ line_ends bs
blanks_ends [] = refl
blanks_ends (b ∷ bs) =
    ends_cons (blank b) (blanks bs)
    ∙ ap (λ t. cond t 1 0 + line_ends (blanks bs)) (blank_ends b)
    ∙ ap (λ n. cond (is_line_end b) 1 0 + n) (blanks_ends bs)
    ∙ sym (ends_cons b bs)

marker_ends : (bs : List ℕ) → line_ends (as_marker bs) ≡ line_ends bs
marker_ends [] = refl
marker_ends (b ∷ bs) =
    let n = prefix_len no_digit bs in
    let inner : line_ends (blanks (take n bs) ++ drop n bs) ≡ line_ends bs =
    ends_append (blanks (take n bs)) (drop n bs) ∙ ap (λ k. k + line_ends (drop n bs)) (blanks_ends (take n bs))
    ∙ sym (ends_append (take n bs) (drop n bs)) ∙ ap line_ends (take-append-drop n bs) in
    ends_cons b (blanks (take n bs) ++ drop n bs) ∙ ap (λ k. cond (is_line_end b) 1 0 + k) inner ∙ sym (ends_cons b bs)

kept_ends : (k : Kind) (text : List ℕ) → line_ends (kept k text) ≡ line_ends text
kept_ends kind.Pragma text = blanks_ends text
kept_ends kind.Line text = marker_ends text
kept_ends _ text = refl

written_ends : (m : Mark) (k : Kind) (text : List ℕ) → line_ends (written_as m k text) ≡ line_ends text
written_ends Stays k text = kept_ends k text
written_ends Goes k text = blanks_ends text
written_ends (Outside why) k text = refl

void_ends : (t : Bool) → line_ends (void_if t) ≡ 0
void_ends true = refl
void_ends false = refl

one_ends : (m : Marking) (t : Bool) (rest : List ℕ) → line_ends (written m ++ (void_if t ++ rest)) ≡ line_ends m.part.text + line_ends rest
one_ends m t rest =
    let whole = ends_append (written m) (void_if t ++ rest) in
    let later = ends_append (void_if t) rest in
    let first = written_ends m.mark m.part.kind m.part.text in
    let none = void_ends t in
    whole ∙ ap (λ n. line_ends (written m) + n) (later ∙ ap (λ n. n + line_ends rest) none ∙ zero_plus (line_ends rest)) ∙ ap (λ n. n + line_ends rest) first
  where
    zero_plus : (n : ℕ) → 0 + n ≡ n
    zero_plus n = omega arith

text_ends : (named : Bool) (ms : List Marking) → line_ends (text_from named ms) ≡ line_ends (bytes_of ms)
text_ends named [] = refl
text_ends named (m ∷ ms) =
    one_ends m (takes_void named m ms) (text_from (named_after named m) ms)
    ∙ ap (λ n. line_ends m.part.text + n) (text_ends (named_after named m) ms)
    ∙ sym (ends_append m.part.text (bytes_of ms))

pub record Stood (named : Bool) (before : List Marking) (m : Marking) (after : List Marking) : Type 0 where
  pub front : List ℕ
  pub back : List ℕ
  pub whole : text_from named (before ++ (m ∷ after)) ≡ front ++ (written m ++ back)
  pub line : line_ends front ≡ line_ends (bytes_of before)

stood : (named : Bool) (before after : List Marking) (m : Marking) → Stood named before m after
stood named [] after m = record {
  front = [];
  back = void_if (takes_void named m after) ++ text_from (named_after named m) after;
  whole = refl;
  line = refl;
}
stood named (x ∷ before) after m =
    let later = stood (named_after named x) before after m in
    let wanted = takes_void named x (before ++ (m ∷ after)) in
    let back = written m ++ later.back in
    record {
      front = written x ++ (void_if wanted ++ later.front);
      back = later.back;
      whole = ap (λ l. written x ++ (void_if wanted ++ l)) later.whole
          ∙ ap (λ l. written x ++ l) (sym (append_assoc (void_if wanted) later.front back))
          ∙ sym (append_assoc (written x) (void_if wanted ++ later.front) back);
      line = one_ends x wanted later.front ∙ ap (λ n. line_ends x.part.text + n) later.line
          ∙ sym (ends_append x.part.text (bytes_of before));
    }

pub stays_on_line : (before after : List Marking) (m : Marking) → StaysOnLine before m (text_of (before ++ (m ∷ after)))
stays_on_line before after m =
    let s = stood false before after m in
    record { front = s.front; back = s.back; whole = s.whole; line = s.line }

pub bytes_are : (s : State) (before bs : List ℕ) (ps : List Part) → Cuts before bs ps → bytes_of (markings s ps) ≡ bs
bytes_are s before bs ps c.ends = refl
bytes_are s before bs ps (c.piece _ text after _ k rest l h) =
    ap (λ r. text ++ r) (bytes_are (state_after s (sort_of k text)) (before ++ text) after rest h) ∙ sym l.whole

pub as_many : (source : List ℕ) (ps : List Part) → Cuts [] source ps → line_ends (text_of (markings start ps)) ≡ line_ends source
as_many source ps h = text_ends false (markings start ps) ∙ ap line_ends (bytes_are start [] source ps h)

untouched : (named : Bool) (ms : List Marking) → Untouched named ms → text_from named ms ≡ bytes_of ms
untouched named ms (laws.nothing _) = refl
untouched named ms (laws.piece _ m rest same none h) =
    ap (λ (t : Bool). written m ++ (void_if t ++ text_from (named_after named m) rest)) none
    ∙ ap (λ l. l ++ text_from (named_after named m) rest) same
    ∙ ap (λ l. m.part.text ++ l) (untouched (named_after named m) rest h)

pub untouched_source : (source : List ℕ) (ps : List Part) → Cuts [] source ps → Untouched false (markings start ps) → text_of (markings start ps) ≡ source
untouched_source source ps h u = untouched false (markings start ps) u ∙ bytes_are start [] source ps h

pub markers_stay : (s : State) (p : Part) → p.kind ≡ kind.Marker → written (marked s p) ≡ p.text
markers_stay s p e = subst (λ (k : Kind). written_as (mark_of s (sort_of k p.text) p.text) k p.text ≡ p.text) (sym e) refl
