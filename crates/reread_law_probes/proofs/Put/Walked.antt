-- Walks that put the rows of a part at the front back into it, and leave those that follow.
use Rattle.std.proofs.Common.{◌≡◌, ◌∙◌, refl, sym, ap, subst, ℕ, ◌≤◌, max, Bool, true, false, if◌then◌else◌, List, [], ◌∷◌, map, Option, Some, None, option_and_then, arith}
use Rattle.mc_limits.specs.Limits.{most_bits}
use Rattle.mc_span.specs.declared.span.Span.{Span}
use Rattle.reread_pieces.specs.declared.piece.What.{What}
use Rattle.reread_pieces.specs.declared.piece.What.TheVariants as what
use Rattle.reread_pieces.specs.declared.placed.Placed.{Placed}
use Rattle.reread_law_rows.specs.inserted.Rows.{Row, row}
use Rattle.reread_law_rows.specs.inserted.Seats.{Seat, ArePlaced, is_placed, placed_rows, seat_of, seat_of_row}
use Rattle.reread_put_back.specs.Pens.{Pen, Walk, gives, is_below, is_same, next_at, noted, put, put_found, ◌>>=◌}
use Rattle.reread_put_back.specs.Rows.{end_of, register_of}

-- ---- a walk over a part

module _ (limit : ℕ) where
  -- It gives the part x, leaves the rows that follow, and finds no fault. `Has n` is known of each n
  -- that is not below the pen's bits after it.
  pub record Walked {A : Type 0} (Has : ℕ → Type 0) (x : A) (rest : List Row) (s : Pen) (out : A × Pen) : Type 0 where
    pub value : out.0 ≡ x
    pub left : ArePlaced rest out.1.left
    pub fault : out.1.fault ≡ s.fault
    pub grows : s.bits ≤ out.1.bits
    pub within : s.bits ≤ limit → out.1.bits ≤ limit
    pub has : (n : ℕ) → out.1.bits ≤ n → Has n

  pub given : {A : Type 0} (x : A) (rest : List Row) (s : Pen) → ArePlaced rest s.left → Walked (λ n. Unit {0}) x rest s (gives x s)
  given x rest s h = record { value = refl; left = h; fault = refl; grows = omega arith; within = λ le. le; has = λ n le. tt }

  joined : {A B : Type 0} (H K : ℕ → Type 0) (x : A) (y : B) (mid rest : List Row) (s : Pen) (one : A × Pen) (two : B × Pen) → Walked H x mid s one → Walked K y rest one.1 two → Walked (λ n. H n × K n) y rest s two
  joined H K x y mid rest s one two w v =
      let a = w.grows in
      let b = v.grows in
      record {
        value = v.value;
        left = v.left;
        fault = v.fault ∙ w.fault;
        grows = omega (arith, a, b);
        within = λ le. v.within (w.within le);
        has = λ n le. (w.has n (omega (arith, b, le)), v.has n le);
      }

  pub in_turn : {A B : Type 0} (H K : ℕ → Type 0) (x : A) (y : B) (mid rest : List Row) (walk : Walk A) (next : A → Walk B) (s : Pen) → Walked H x mid s (walk s) → ((t : Pen) → ArePlaced mid t.left → Walked K y rest t (next x t)) → Walked (λ n. H n × K n) y rest s ((walk >>= next) s)
  in_turn H K x y mid rest walk next s w k =
      joined H K x y mid rest s (walk s) ((walk >>= next) s) w
      (subst (λ (z : _). Walked K y rest (walk s).1 (next z (walk s).1)) (sym w.value) (k (walk s).1 w.left))

  pub has_as : {A : Type 0} (H K : ℕ → Type 0) (x : A) (rest : List Row) (s : Pen) (out : A × Pen) → ((n : ℕ) → H n → K n) → Walked H x rest s out → Walked K x rest s out
  has_as H K x rest s out f w = record {
    value = w.value;
    left = w.left;
    fault = w.fault;
    grows = w.grows;
    within = w.within;
    has = λ n le. f n (w.has n le);
  }

module _ (limit : ℕ) where
  -- the end of what a row encloses is no probe
  pub ended : {A : Type 0} {H : ℕ → Type 0} {x : A} {rest : List Row} {s : Pen} {out : A × Pen} (span : Span) → Walked limit H x (row what.StatementEnd span rest) s out → Walked limit H x rest s out
  ended span w = record { value = w.value; left = w.left; fault = w.fault; grows = w.grows; within = w.within; has = w.has }

  pub return_ended : {A : Type 0} {H : ℕ → Type 0} {x : A} {rest : List Row} {s : Pen} {out : A × Pen} (span : Span) → Walked limit H x (row what.ReturnEnd span rest) s out → Walked limit H x rest s out
  return_ended span w = record { value = w.value; left = w.left; fault = w.fault; grows = w.grows; within = w.within; has = w.has }

-- ---- the row at the front

-- a probe at the front is that of this row, and those of the rows that follow stand behind it
pub record IsFront (w : What) (place : Span) (ahead : List Row) (left : List Placed) : Type 0 where
  pub first : Placed
  pub rest : List Placed
  pub whole : left ≡ first ∷ rest
  pub what : first.what ≡ w
  pub span : first.span ≡ place
  pub behind : ArePlaced ahead rest

abbrev pub is_nonempty : List Seat → Bool
is_nonempty [] = false
is_nonempty (x ∷ xs) = true

abbrev pub what_of : What → List Seat → What
what_of w [] = w
what_of w (x ∷ xs) = x.what

abbrev pub span_at : Span → List Seat → Span
span_at s [] = s
span_at s (x ∷ xs) = x.span

abbrev pub tail : List Seat → List Seat
tail [] = []
tail (x ∷ xs) = xs

pub false_true : {X : Type 0} → false ≡ true → X
false_true e = cc

front_of_seats : (w : What) (span : Span) (later : List Row) (left : List Placed) → map seat_of left ≡ record { what = w; span = span } ∷ map seat_of_row (placed_rows later) → IsFront w span later left
front_of_seats w span later [] h = false_true (ap is_nonempty h)
front_of_seats w span later (q ∷ rest) h = record {
  first = q;
  rest = rest;
  whole = refl;
  what = ap (what_of w) h;
  span = ap (span_at span) h;
  behind = ap tail h;
}

pub front : (w : What) (span : Span) (end : ℕ) (later : List Row) (left : List Placed) → is_placed w ≡ true → ArePlaced (record { what = w; span = span; end = end } ∷ later) left → IsFront w span later left
front w span end later left e h =
    let r : Row = record { what = w; span = span; end = end } in
    front_of_seats w span later left
    (subst (λ (b : Bool). map seat_of left ≡ map seat_of_row (if b then r ∷ placed_rows later else placed_rows later)) e h)

-- ---- places that are the same

same_self : (s : Span) → is_same s s ≡ true
same_self s = grind arith

pub same_place : (a b : Span) → a ≡ b → is_same a b ≡ true
same_place a b e = subst (λ (c : Span). is_same a c ≡ true) e (same_self a)

-- ---- what is noted

pub noted_is : (r : ℕ) (q : Placed) (end : ℕ) (s : Pen) → is_below r (register_of q.what) ≡ true → end ≤ most_bits → noted r q end s ≡ record s { bits = max s.bits end }
noted_is r q end s e le = grind arith

module _ (limit : ℕ) (few : limit ≤ most_bits) where
  -- a probe that is put
  pub put_one : (r : ℕ) (q : Placed) (end : ℕ) (rest : List Row) {A : Type 0} (x : A) (s : Pen) (t : Pen) → ArePlaced rest t.left → t.fault ≡ s.fault → t.bits ≡ s.bits → is_below r (register_of q.what) ≡ true → end ≤ limit → Walked limit (λ n. end ≤ n) x rest s (x, noted r q end t)
  put_one r q end rest x s t h f b below le =
      let le_most : end ≤ most_bits = omega (arith, le, few) in
      subst (λ (u : Pen). Walked limit (λ n. end ≤ n) x rest s (x, u)) (sym (noted_is r q end t below le_most))
      (record {
        value = refl;
        left = h;
        fault = f;
        grows = omega (arith, b);
        within = λ w. omega (arith, b, w, le);
        has = λ n w. omega (arith, w);
      })

  put_first : (r : ℕ) (w : What) (span : Span) (later : List Row) {A : Type 0} (wanted : What → Option A) (a : A) (s : Pen) → wanted w ≡ Some a → is_below r (register_of w) ≡ true → end_of w ≤ limit → (f : IsFront w span later s.left) → Walked limit (λ n. end_of w ≤ n) (Some a) later s (put r wanted span s)
  put_first r w span later wanted a s e below le f =
      let q : Placed = f.first in
      let found : option_and_then wanted (next_at span (q ∷ f.rest)) ≡ Some a =
      ap (λ (b : Bool). option_and_then wanted (if b then Some q.what else None)) (same_place q.span span f.span)
      ∙ (ap wanted f.what ∙ e) in
      let all : put r wanted span s ≡ (Some a, noted r q (end_of q.what) (record s { left = f.rest })) =
      ap (λ (left : List Placed). put_found r (option_and_then wanted (next_at span left)) (record s { left = left })) f.whole
      ∙ ap (λ (o : Option _). put_found r o (record s { left = q ∷ f.rest })) found in
      let here : end_of q.what ≡ end_of w = ap end_of f.what in
      subst (λ (out : _). Walked limit (λ n. end_of w ≤ n) (Some a) later s out) (sym all)
      (has_as limit (λ n. end_of q.what ≤ n) (λ n. end_of w ≤ n) (Some a) later s (Some a, noted r q (end_of q.what) (record s { left = f.rest })) (λ n k. omega (arith, k, here))
      (put_one r q (end_of q.what) later (Some a) s (record s { left = f.rest }) f.behind refl refl (ap (λ (x : What). is_below r (register_of x)) f.what ∙ below) (omega (arith, here, le))))

  pub put_row : (r : ℕ) (w : What) (span : Span) (end : ℕ) (later : List Row) {A : Type 0} (wanted : What → Option A) (a : A) → is_placed w ≡ true → wanted w ≡ Some a → is_below r (register_of w) ≡ true → end_of w ≤ limit → (s : Pen) → ArePlaced (record { what = w; span = span; end = end } ∷ later) s.left → Walked limit (λ n. end_of w ≤ n) (Some a) later s (put r wanted span s)
  put_row r w span end later wanted a p e below le s h =
      put_first r w span later wanted a s e below le (front w span end later s.left p h)
