-- No rule on words applies to the tokens that are left.
use Rattle.std.proofs.Common.{◌≡◌, ℕ, ◌-◌, nat_le, Bool, true, false, not, ◌&&◌, ◌||◌, ◌==◌, if◌then◌else◌, List, [], ◌∷◌, ◌++◌, codes, refl, ap, subst, sym, ◌∙◌}
use Rattle.std.proofs.lemmas.Bool.{false≢true}
use Rattle.mc_lex.specs.Words.{keywords}
use Rattle.adapt_tokens.specs.declared.kind.Kind.{Kind}
use Rattle.adapt_tokens.specs.declared.kind.Kind.TheVariants as kind
use Rattle.adapt_tokens.specs.Cuts.{Part}
use Rattle.mc_adapt.specs.declared.sort.Sort.{Sort}
use Rattle.mc_adapt.specs.declared.sort.Sort.TheVariants as sort
use Rattle.mc_adapt.specs.declared.state.Around.{Around}
use Rattle.mc_adapt.specs.declared.state.Around.TheVariants as around
use Rattle.mc_adapt.specs.declared.state.Last.{Last}
use Rattle.mc_adapt.specs.declared.state.Last.TheVariants as last
use Rattle.mc_adapt.specs.declared.state.State.{State}
use Rattle.mc_adapt.specs.declared.mark.Mark.{Mark}
use Rattle.mc_adapt.specs.declared.mark.Mark.TheVariants.{Stays, Goes, Outside}
use Rattle.mc_adapt.specs.declared.mark.Reason.{Reason}
use Rattle.mc_adapt.specs.declared.mark.Reason.TheVariants as reason
use Rattle.mc_adapt.specs.Words.{is_harmless, outside_words, attribute_words, assertion_words, inline_words, storage_words, silent_words}
use Rattle.mc_adapt.specs.Sorts.{sort_of, word_sort}
use Rattle.mc_adapt.specs.States.{start, static_after, name_after, last_after, state_after, token_after, plain_after, group_after, deep, closed_around, closed_after, inside_after}
use Rattle.mc_adapt.specs.Marks.{Marking, is_word, opens, is_semicolon, lacks_type, takes_operand, goes_if, stays_if, sort_mark, plain_mark, group_mark, attribute_mark, around_mark, mark_of, marked, markings}
use Rattle.mc_adapt.specs.Texts.{kept, written, is_gap, is_token, is_name, is_opening, is_closing, is_body, body_follows, empty_list_follows, takes_void, named_after}
use Rattle.mc_adapt.specs.Outside.{Refusal, refused_as, refused, refusals}
use Rattle.mc_adapt.specs.Laws.{Untouched}
use Rattle.mc_adapt.specs.Laws as laws
use Rattle.mc_adapt.specs.Left.{void_part, part_if, tokens_left}

goes_not : Goes ≡ Stays → ⊥
goes_not e = cc

stays_not : Stays ≡ Goes → ⊥
stays_not e = cc

outside_not : (r : Reason) → Outside r ≡ Stays → ⊥
outside_not r e = cc

outside_goes_not : (r : Reason) → Outside r ≡ Goes → ⊥
outside_goes_not r e = cc

cons_not : (x : Refusal) (l : List Refusal) → (x ∷ l) ≡ [] → ⊥
cons_not x l e = cc

goes_if_not : (b : Bool) (r : Reason) → goes_if b r ≡ Stays → ⊥
goes_if_not true r e = goes_not e
goes_if_not false r e = outside_not r e

stays_if_not : (b : Bool) (r : Reason) → stays_if b r ≡ Goes → ⊥
stays_if_not true r e = stays_not e
stays_if_not false r e = outside_goes_not r e

-- ---- what is last: of the source, and of the tokens that are left

abbrev is_plain : Last → Bool
is_plain last.Storage = false
is_plain last.StoredName = false
is_plain _ = true

data Agree : Last → Last → Type 0 where
  equal : (l : Last) → is_plain l ≡ true → Agree l l
  stored : (l : Last) → is_plain l ≡ true → Agree last.Storage l
  after_stored : Agree last.StoredName last.Name
  after_void : Agree last.Other last.Keyword

plain_there : (a b : Last) → Agree a b → is_plain b ≡ true
plain_there a b (equal l h) = h
plain_there a b (stored l h) = h
plain_there a b after_stored = refl
plain_there a b after_void = refl

no_lack : (l : Last) (x : Sort) → is_plain l ≡ true → lacks_type l x ≡ false
no_lack last.Storage x h = absurd (false≢true h)
no_lack last.StoredName x h = absurd (false≢true h)
no_lack _ x h = refl

name_plain : (l : Last) → is_plain l ≡ true → name_after l ≡ last.Name
name_plain last.Storage h = absurd (false≢true h)
name_plain last.StoredName h = absurd (false≢true h)
name_plain _ h = refl

names_agree : (a b : Last) → Agree a b → Agree (name_after a) (name_after b)
names_agree a b (equal l h) = subst (λ n. Agree n n) (sym (name_plain l h)) (equal last.Name refl)
names_agree a b (stored l h) = subst (λ n. Agree last.StoredName n) (sym (name_plain l h)) after_stored
names_agree a b after_stored = equal last.Name refl
names_agree a b after_void = equal last.Name refl

-- an operator after an operand
operand_there : (a b : Last) → Agree a b → lacks_type a sort.Operator ≡ false → takes_operand a ≡ false → takes_operand b ≡ false
operand_there a b (equal l h) none e = e
operand_there a b (stored l h) none e = absurd (false≢true (sym none))
operand_there a b after_stored none e = refl
operand_there a b after_void none e = absurd (false≢true (sym e))

stays_then : (b : Bool) (r : Reason) → stays_if (not b) r ≡ Stays → b ≡ false
stays_then true r e = absurd (outside_not r e)
stays_then false r e = refl

-- ---- a token outside attributes and assertions

abbrev plain_at : Bool → Last → State
plain_at b l = record { around = around.Plain; depth = 0; has_static = b; last = l }

stays_there : (s : State) (b : Bool) (l : Last) (x : Sort) → Agree s.last l → lacks_type s.last x ≡ false → sort_mark s x ≡ Stays → sort_mark (plain_at b l) x ≡ Stays
stays_there s b l sort.Operator g none e =
    ap (λ (t : Bool). stays_if (not t) reason.Pointer) (operand_there s.last l g none (stays_then (takes_operand s.last) reason.Pointer e))
stays_there s b l sort.Inline g none e = absurd (goes_if_not s.has_static reason.Word e)
stays_there s b l _ g none e = e

agree_then : (s : State) (l : Last) (x : Sort) → Agree s.last l → sort_mark s x ≡ Stays → Agree (last_after s.last x) (last_after l x)
agree_then s l sort.Name g e = names_agree s.last l g
agree_then s l sort.Keyword g e = equal last.Keyword refl
agree_then s l sort.Static g e = equal last.Keyword refl
agree_then s l sort.Storage g e = absurd (goes_not e)
agree_then s l sort.Inline g e = g
agree_then s l sort.Silent g e = g
agree_then s l sort.Attribute g e = g
agree_then s l sort.Assertion g e = g
agree_then s l sort.Operand g e = equal last.Operand refl
agree_then s l sort.Closes g e = equal last.Operand refl
agree_then s l sort.Step g e = equal last.Operand refl
agree_then s l sort.Text g e = equal last.Operand refl
agree_then s l sort.Floating g e = equal last.Operand refl
agree_then s l _ g e = equal last.Other refl

gone_agree : (s : State) (l : Last) (x : Sort) → Agree s.last l → sort_mark s x ≡ Goes → Agree (last_after s.last x) l
gone_agree s l sort.Storage g e = stored l (plain_there s.last l g)
gone_agree s l sort.Inline g e = g
gone_agree s l sort.Silent g e = g
gone_agree s l sort.Attribute g e = g
gone_agree s l sort.Assertion g e = g
gone_agree s l sort.Operator g e = absurd (stays_if_not (not (takes_operand s.last)) reason.Pointer e)
gone_agree s l sort.OutsideWord g e = absurd (outside_goes_not reason.Word e)
gone_agree s l sort.Text g e = absurd (outside_goes_not reason.Text e)
gone_agree s l sort.Floating g e = absurd (outside_goes_not reason.Floating e)
gone_agree s l _ g e = absurd (stays_not e)

-- the state after it
after_there : (s : State) (b : Bool) (l : Last) (x : Sort) → is_gap x ≡ false → sort_mark s x ≡ Stays → state_after (plain_at b l) x ≡ plain_at (static_after b x) (last_after l x)
after_there s b l sort.Gap none e = absurd (false≢true (sym none))
after_there s b l sort.Attribute none e = absurd (goes_not e)
after_there s b l sort.Assertion none e = absurd (goes_not e)
after_there s b l _ none e = refl

-- ---- one piece

abbrev here : Part → Sort → Mark → Marking
here p x mark = record { part = p; sort = x; mark = mark }

no_refusal : (r : Reason) (p : Part) → refused_as (Outside r) p ≡ [] → ⊥
no_refusal r p e = cons_not (record { at = p.start; why = r; text = p.text }) [] e

is_token_there : (x : Sort) → is_gap x ≡ false → is_token Stays x ≡ true
is_token_there x e = ap not e

kept_there : (k : Kind) (text : List ℕ) → is_gap (sort_of k text) ≡ false → kept k text ≡ text
kept_there kind.Pragma text e = absurd (false≢true (sym e))
kept_there kind.Line text e = absurd (false≢true (sym e))
kept_there _ text e = refl

attribute_not : (s : State) (x : Sort) (text : List ℕ) → attribute_mark s x text ≡ Stays → ⊥
attribute_not s x text e = by_test (s.depth == 2 && is_word x) e
  where
    by_test : (t : Bool) → (if t then goes_if (is_harmless text) reason.Attribute else group_mark s x) ≡ Stays → ⊥
    by_test true h = goes_if_not (is_harmless text) reason.Attribute h
    by_test false h = goes_if_not (not (s.depth == 0) || opens x) reason.Bracket h

closed_last : (s : State) → (closed_after s).last ≡ s.last
closed_last s = by_tests (nat_le 2 s.depth) (s.depth == 0)
  where
    by_tests : (t u : Bool) → (if t then deep s s.around (s.depth - 1) else (if u then deep s around.Plain 0 else deep s (closed_around s.around) 0)).last ≡ s.last
    by_tests true u = refl
    by_tests false true = refl
    by_tests false false = refl

inside_last : (s : State) → (inside_after s).last ≡ s.last
inside_last s = by_test (s.depth == 0)
  where
    by_test : (t : Bool) → (if t then deep s around.Plain 0 else s).last ≡ s.last
    by_test true = refl
    by_test false = refl

group_last : (s : State) (x : Sort) → (group_after s x).last ≡ s.last
group_last s sort.Opens = refl
group_last s sort.Closes = closed_last s
group_last s _ = inside_last s

-- what stands before and after a piece, in the source and among the tokens that are left
data Stepped (s : State) (b : Bool) (l : Last) (m : Marking) : Type 0 where
  gone : is_token m.mark m.sort ≡ false → Agree (state_after s m.sort).last l → Stepped s b l m
  left : is_token m.mark m.sort ≡ true → marked (plain_at b l) m.part ≡ m
      → state_after (plain_at b l) m.sort ≡ plain_at (static_after b m.sort) (last_after l m.sort)
      → (state_after s m.sort).last ≡ last_after s.last m.sort
      → Agree (last_after s.last m.sort) (last_after l m.sort) → written m ≡ m.part.text → Stepped s b l m

module _ (s : State) (b : Bool) (l : Last) (p : Part) (g : Agree s.last l) where
  marked_there : (x : Sort) → sort_of p.kind p.text ≡ x → mark_of (plain_at b l) x p.text ≡ plain_mark (plain_at b l) x → sort_mark (plain_at b l) x ≡ Stays → marked (plain_at b l) p ≡ here p x Stays
  marked_there x e there h =
      ap (λ y. here p y (mark_of (plain_at b l) y p.text)) e
      ∙ ap (λ k. here p x k) (there ∙ ap (λ (t : Bool). if t then Outside reason.NoType else sort_mark (plain_at b l) x) (no_lack l x (plain_there s.last l g)) ∙ h)

  plainly : (x : Sort) (mark : Mark) → is_gap x ≡ false → sort_of p.kind p.text ≡ x → mark_of (plain_at b l) x p.text ≡ plain_mark (plain_at b l) x → state_after s x ≡ plain_after s x
      → lacks_type s.last x ≡ false → sort_mark s x ≡ mark → refused_as mark p ≡ [] → Stepped s b l (here p x mark)
  plainly x Stays none e there after lack h r =
      left (is_token_there x none) (marked_there x e there (stays_there s b l x g lack h)) (after_there s b l x none h) (ap (λ (t : State). t.last) after)
      (agree_then s l x g h) (kept_there p.kind p.text (ap is_gap e ∙ none))
  plainly x Goes none e there after lack h r = gone refl (subst (λ (t : State). Agree t.last l) (sym after) (gone_agree s l x g h))
  plainly x (Outside w) none e there after lack h r = absurd (no_refusal w p r)

  by_lack : (t : Bool) (x : Sort) (mark : Mark) → is_gap x ≡ false → sort_of p.kind p.text ≡ x → mark_of (plain_at b l) x p.text ≡ plain_mark (plain_at b l) x → state_after s x ≡ plain_after s x
      → lacks_type s.last x ≡ t → (if t then Outside reason.NoType else sort_mark s x) ≡ mark → refused_as mark p ≡ [] → Stepped s b l (here p x mark)
  by_lack true x mark none e there after lack h r = absurd (no_refusal reason.NoType p (subst (λ m. refused_as m p ≡ []) (sym h) r))
  by_lack false x mark none e there after lack h r = plainly x mark none e there after lack h r

  grouped : (x : Sort) (mark : Mark) → (mark ≡ Stays → ⊥) → (state_after s x).last ≡ s.last → refused_as mark p ≡ [] → Stepped s b l (here p x mark)
  grouped x Stays not_so e r = absurd (not_so refl)
  grouped x Goes not_so e r = gone refl (subst (λ t. Agree t l) (sym e) g)
  grouped x (Outside w) not_so e r = absurd (no_refusal w p r)

  by_around : (a : Around) (x : Sort) (mark : Mark) → is_gap x ≡ false → sort_of p.kind p.text ≡ x → mark_of (plain_at b l) x p.text ≡ plain_mark (plain_at b l) x → state_after s x ≡ token_after s a x
      → around_mark s a x p.text ≡ mark → refused_as mark p ≡ [] → Stepped s b l (here p x mark)
  by_around around.Plain x mark none e there after h r = by_lack (lacks_type s.last x) x mark none e there after refl h r
  by_around around.Attribute x mark none e there after h r =
      grouped x mark (λ w. attribute_not s x p.text (h ∙ w)) (ap (λ (t : State). t.last) after ∙ group_last s x) r
  by_around around.Assertion x mark none e there after h r =
      grouped x mark (λ w. goes_if_not (not (s.depth == 0) || opens x) reason.Bracket (h ∙ w)) (ap (λ (t : State). t.last) after ∙ group_last s x) r
  by_around around.Ending x mark none e there after h r =
      grouped x mark (λ w. goes_if_not (is_semicolon x) reason.Bracket (h ∙ w)) (ap (λ (t : State). t.last) after) r

  by_sort : (x : Sort) → sort_of p.kind p.text ≡ x → refused_as (mark_of s x p.text) p ≡ [] → Stepped s b l (here p x (mark_of s x p.text))
  by_sort sort.Gap e r = gone refl g
  by_sort sort.OpenComment e r = absurd (no_refusal reason.OpenComment p r)
  by_sort sort.OpenText e r = absurd (no_refusal reason.OpenText p r)
  by_sort sort.Directive e r = absurd (no_refusal reason.Directive p r)
  by_sort sort.Byte e r = absurd (no_refusal reason.Byte p r)
  by_sort x e r = by_around s.around x (mark_of s x p.text) refl e refl refl refl r

  stepped : refused (marked s p) ≡ [] → Stepped s b l (marked s p)
  stepped r = by_sort (sort_of p.kind p.text) refl r

-- ---- all pieces

abbrev void_marking : Marking
void_marking = record { part = void_part; sort = sort.Keyword; mark = Stays }

abbrev marking_if : Bool → Marking → List Marking
marking_if wanted m = if wanted then m ∷ [] else []

-- those of the tokens that are left
abbrev marks_left : (named : Bool) → List Marking → List Marking
marks_left named [] = []
marks_left named (m ∷ ms) = marking_if (is_token m.mark m.sort) m ++ (marking_if (takes_void named m ms) void_marking ++ marks_left (named_after named m) ms)

front_empty : (a c : List Refusal) → a ++ c ≡ [] → a ≡ []
front_empty [] c e = refl
front_empty (x ∷ a) c e = absurd (cons_not x (a ++ c) e)

back_empty : (a c : List Refusal) → a ++ c ≡ [] → c ≡ []
back_empty [] c e = e
back_empty (x ∷ a) c e = absurd (cons_not x (a ++ c) e)

no_void : (named : Bool) (m : Marking) (ms : List Marking) → is_token m.mark m.sort ≡ false → takes_void named m ms ≡ false
no_void true m ms e = ap (λ (t : Bool). t && is_opening m.sort && empty_list_follows ms) e
no_void false m ms e = refl

opening_then : (a b c d : Bool) → (a && b && c && d) ≡ true → c ≡ true
opening_then true true true d e = refl
opening_then true true false d e = absurd (false≢true e)
opening_then true false c d e = absurd (false≢true e)
opening_then false b c d e = absurd (false≢true e)

after_opening : (l : Last) (x : Sort) → is_opening x ≡ true → last_after l x ≡ last.Other
after_opening l sort.Opens e = refl
after_opening l _ e = absurd (false≢true e)

no_name : (x : Sort) → is_opening x ≡ true → is_name x ≡ false
no_name sort.Opens e = refl
no_name _ e = absurd (false≢true e)

no_closing : (x : Sort) → is_opening x ≡ true → is_closing x ≡ false
no_closing sort.Opens e = refl
no_closing _ e = absurd (false≢true e)

void_sort : word_sort (codes "void") ≡ sort.Keyword
unfolding outside_words attribute_words assertion_words inline_words storage_words silent_words keywords
void_sort = refl

void_there : (b : Bool) (l : Last) → is_plain l ≡ true → marked (plain_at b l) void_part ≡ void_marking
void_there b l h =
    ap (λ x. here void_part x (mark_of (plain_at b l) x (codes "void"))) void_sort
    ∙ ap (λ (t : Bool). here void_part sort.Keyword (if t then Outside reason.NoType else Stays)) (no_lack l sort.Keyword h)

-- of the pieces after one
abbrev LaterAgain : (s : State) (named : Bool) → List Marking → Type 0
LaterAgain s named ms = (c : Bool) (k : Last) → Agree s.last k → markings (plain_at c k) (tokens_left named ms) ≡ marks_left named ms

abbrev Again : (b : Bool) (l : Last) (named : Bool) (m : Marking) (ms : List Marking) (i t : Bool) → Type 0
Again b l named m ms i t =
    markings (plain_at b l) (part_if i m.part ++ (part_if t void_part ++ tokens_left (named_after named m) ms))
    ≡ marking_if i m ++ (marking_if t void_marking ++ marks_left (named_after named m) ms)

past : (b c : Bool) (l k : Last) (m : Marking) (rest : List Part) → marked (plain_at b l) m.part ≡ m → state_after (plain_at b l) m.sort ≡ plain_at c k
    → markings (plain_at b l) (m.part ∷ rest) ≡ m ∷ markings (plain_at c k) rest
past b c l k m rest e after =
    ap (λ (y : Marking). y ∷ markings (state_after (plain_at b l) y.sort) rest) e ∙ ap (λ (t : State). m ∷ markings t rest) after

module _ (s : State) (b : Bool) (l : Last) (named : Bool) (m : Marking) (ms : List Marking) (later : LaterAgain (state_after s m.sort) (named_after named m) ms) where
  again_void : (t : Bool) → takes_void named m ms ≡ t → marked (plain_at b l) m.part ≡ m → state_after (plain_at b l) m.sort ≡ plain_at (static_after b m.sort) (last_after l m.sort)
      → (state_after s m.sort).last ≡ last_after s.last m.sort → Agree (last_after s.last m.sort) (last_after l m.sort) → Again b l named m ms true t
  again_void false w e after at_last h =
      past b (static_after b m.sort) l (last_after l m.sort) m (tokens_left (named_after named m) ms) e after
      ∙ ap (λ (r : List Marking). m ∷ r) (later (static_after b m.sort) (last_after l m.sort) (subst (λ k. Agree k (last_after l m.sort)) (sym at_last) h))
  again_void true w e after at_last h =
      let opened : is_opening m.sort ≡ true = opening_then named (is_token m.mark m.sort) (is_opening m.sort) (empty_list_follows ms) w in
      let rest = tokens_left (named_after named m) ms in
      let c = static_after b m.sort in
      let k = last_after l m.sort in
      past b c l k m (void_part ∷ rest) e after
      ∙ ap (λ (v : Marking). m ∷ (v ∷ markings (state_after (plain_at c k) v.sort) rest)) (void_there c k (plain_there (last_after s.last m.sort) k h))
      ∙ ap (λ (r : List Marking). m ∷ (void_marking ∷ r)) (later c last.Keyword (subst (λ k. Agree k last.Keyword) (sym (at_last ∙ after_opening s.last m.sort opened)) after_void))

  again_step : Stepped s b l m → Again b l named m ms (is_token m.mark m.sort) (takes_void named m ms)
  again_step (gone none h) =
      subst (λ (i : Bool). Again b l named m ms i (takes_void named m ms)) (sym none)
      (subst (λ (t : Bool). Again b l named m ms false t) (sym (no_void named m ms none)) (later b l h))
  again_step (left is e after at_last h w) =
      subst (λ (i : Bool). Again b l named m ms i (takes_void named m ms)) (sym is) (again_void (takes_void named m ms) refl e after at_last h)

again : (s : State) (b : Bool) (l : Last) (named : Bool) (ps : List Part) → Agree s.last l → refusals (markings s ps) ≡ []
    → markings (plain_at b l) (tokens_left named (markings s ps)) ≡ marks_left named (markings s ps)
again s b l named [] g r = refl
again s b l named (p ∷ ps) g r =
    let m = marked s p in
    let ms = markings (state_after s m.sort) ps in
    again_step s b l named m ms
    (λ c k h. again (state_after s m.sort) c k (named_after named m) ps h (back_empty (refused m) (refusals ms) r))
    (stepped s b l p g (front_empty (refused m) (refusals ms) r))

-- ---- no `void` is written again

abbrev BodySame : (named : Bool) (m : Marking) (ms : List Marking) (i t : Bool) → Type 0
BodySame named m ms i t =
    body_follows (marking_if i m ++ (marking_if t void_marking ++ marks_left (named_after named m) ms)) ≡ (if i then is_body m.sort else body_follows ms)

body_token : (named : Bool) (m : Marking) (ms : List Marking) → body_follows (marks_left (named_after named m) ms) ≡ body_follows ms
    → (i : Bool) → is_token m.mark m.sort ≡ i → BodySame named m ms i (takes_void named m ms)
body_token named m ms h true e =
    ap (λ (i : Bool). if i then is_body m.sort else body_follows (marking_if (takes_void named m ms) void_marking ++ marks_left (named_after named m) ms)) e
body_token named m ms h false e = subst (λ (t : Bool). BodySame named m ms false t) (sym (no_void named m ms e)) h

body_same : (named : Bool) (ms : List Marking) → body_follows (marks_left named ms) ≡ body_follows ms
body_same named [] = refl
body_same named (m ∷ ms) = body_token named m ms (body_same (named_after named m) ms) (is_token m.mark m.sort) refl

abbrev EmptySame : (named : Bool) (m : Marking) (ms : List Marking) (i t : Bool) → Type 0
EmptySame named m ms i t =
    empty_list_follows (marking_if i m ++ (marking_if t void_marking ++ marks_left (named_after named m) ms))
    ≡ (if i then is_closing m.sort && body_follows ms else empty_list_follows ms)

empty_void : (named : Bool) (m : Marking) (ms : List Marking) (t : Bool) → takes_void named m ms ≡ t
    → (is_closing m.sort && body_follows (marking_if t void_marking ++ marks_left (named_after named m) ms)) ≡ (is_closing m.sort && body_follows ms)
empty_void named m ms true w =
    let opened : is_opening m.sort ≡ true = opening_then named (is_token m.mark m.sort) (is_opening m.sort) (empty_list_follows ms) w in
    let none : is_closing m.sort ≡ false = no_closing m.sort opened in
    ap (λ (c : Bool). c && body_follows (void_marking ∷ marks_left (named_after named m) ms)) none ∙ sym (ap (λ (c : Bool). c && body_follows ms) none)
empty_void named m ms false w = ap (λ (c : Bool). is_closing m.sort && c) (body_same (named_after named m) ms)

empty_token : (named : Bool) (m : Marking) (ms : List Marking) → empty_list_follows (marks_left (named_after named m) ms) ≡ empty_list_follows ms
    → (i : Bool) → is_token m.mark m.sort ≡ i → EmptySame named m ms i (takes_void named m ms)
empty_token named m ms h true e =
    let rest = marking_if (takes_void named m ms) void_marking ++ marks_left (named_after named m) ms in
    ap (λ (i : Bool). if i then is_closing m.sort && body_follows rest else empty_list_follows rest) e ∙ empty_void named m ms (takes_void named m ms) refl
empty_token named m ms h false e = subst (λ (t : Bool). EmptySame named m ms false t) (sym (no_void named m ms e)) h

empty_same : (named : Bool) (ms : List Marking) → empty_list_follows (marks_left named ms) ≡ empty_list_follows ms
empty_same named [] = refl
empty_same named (m ∷ ms) = empty_token named m ms (empty_same (named_after named m) ms) (is_token m.mark m.sort) refl

never : (a b c : Bool) → (a && b && c && false) ≡ false
never true true true = refl
never true true false = refl
never true false c = refl
never false b c = refl

not_opening : (a b d : Bool) → (a && b && false && d) ≡ false
not_opening true true d = refl
not_opening true false d = refl
not_opening false b d = refl

abbrev Clean : (named : Bool) (m : Marking) (ms : List Marking) (i t : Bool) → Type 0
Clean named m ms i t = Untouched named (marking_if i m ++ (marking_if t void_marking ++ marks_left (named_after named m) ms))

module _ (named : Bool) (m : Marking) (ms : List Marking) (h : Untouched (named_after named m) (marks_left (named_after named m) ms)) where
  clean_void : (t : Bool) → takes_void named m ms ≡ t → is_token m.mark m.sort ≡ true → written m ≡ m.part.text → Clean named m ms true t
  clean_void true v is w =
      let rest = marks_left (named_after named m) ms in
      let opened : is_opening m.sort ≡ true = opening_then named (is_token m.mark m.sort) (is_opening m.sort) (empty_list_follows ms) v in
      let unnamed : named_after named m ≡ false = ap (λ (i : Bool). if i then is_name m.sort else named) is ∙ no_name m.sort opened in
      laws.piece named m (void_marking ∷ rest) w (never named (is_token m.mark m.sort) (is_opening m.sort))
      (laws.piece (named_after named m) void_marking rest refl (not_opening (named_after named m) true (empty_list_follows rest)) (subst (λ (n : Bool). Untouched n rest) unnamed h))
  clean_void false v is w =
      laws.piece named m (marks_left (named_after named m) ms) w
      (ap (λ (e : Bool). named && is_token m.mark m.sort && is_opening m.sort && e) (empty_same (named_after named m) ms) ∙ v) h

  clean_step : (s : State) (b : Bool) (l : Last) → Stepped s b l m → Clean named m ms (is_token m.mark m.sort) (takes_void named m ms)
  clean_step s b l (gone none g) =
      let same_named : named_after named m ≡ named = ap (λ (i : Bool). if i then is_name m.sort else named) none in
      subst (λ (i : Bool). Clean named m ms i (takes_void named m ms)) (sym none)
      (subst (λ (t : Bool). Clean named m ms false t) (sym (no_void named m ms none))
      (subst (λ (n : Bool). Untouched n (marks_left (named_after named m) ms)) same_named h))
  clean_step s b l (left is e after at_last g w) =
      subst (λ (i : Bool). Clean named m ms i (takes_void named m ms)) (sym is) (clean_void (takes_void named m ms) refl is w)

-- the state after a piece agrees with what is left
next_last : (s : State) (b : Bool) (l : Last) (m : Marking) → Stepped s b l m → (k : Last) × Agree (state_after s m.sort).last k
next_last s b l m (gone none g) = (l, g)
next_last s b l m (left is e after at_last g w) = (last_after l m.sort, subst (λ k. Agree k (last_after l m.sort)) (sym at_last) g)

clean : (s : State) (l : Last) (named : Bool) (ps : List Part) → Agree s.last l → refusals (markings s ps) ≡ [] → Untouched named (marks_left named (markings s ps))
clean s l named [] g r = laws.nothing named
clean s l named (p ∷ ps) g r =
    let m = marked s p in
    let ms = markings (state_after s m.sort) ps in
    let step : Stepped s false l m = stepped s false l p g (front_empty (refused m) (refusals ms) r) in
    let next = next_last s false l m step in
    clean_step named m ms (clean (state_after s m.sort) next.0 (named_after named m) ps next.1 (back_empty (refused m) (refusals ms) r)) s false l step

pub nothing_left : (ps : List Part) → refusals (markings start ps) ≡ [] → Untouched false (markings start (tokens_left false (markings start ps)))
nothing_left ps r =
    let g : Agree last.Start last.Start = equal last.Start refl in
    subst (λ ms. Untouched false ms) (sym (again start false last.Start false ps g r)) (clean start last.Start false ps g r)
