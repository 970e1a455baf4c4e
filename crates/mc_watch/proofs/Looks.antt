-- The counts of looks do not fall, and stay within what is recorded.
use Rattle.std.proofs.Common.{◌≡◌, ℕ, zero, suc, ◌+◌, ◌*◌, ◌%◌, ◌^◌, ◌<◌, ◌≤◌, List, [], ◌∷◌, ◌++◌, length, get_or, map, flat_map, count_ones, sym, refl, ap, ◌∙◌, subst, arith, suc-mul, mul_comm, mul-le-mul, le_refl, zero-mul}
use Rattle.std.specs.Prelude.{All, Contains, sum_by}
use Rattle.std.specs.Int.{bit_at}
use Rattle.std.specs.List.Sorted.{IsNonDecreasing}
use Rattle.std.proofs.lemmas.Nat.{mul-add-lt}
use Rattle.std.proofs.lemmas.List.{append-nil, append_assoc, flat_map_more, get_or-append-add, get_or-map, get_or_append_left, get_or_push, length-append, length-map, length_push, map_push}
use Rattle.std.proofs.lemmas.List.Elements.{All-nil, All-push}
use Rattle.std.proofs.lemmas.List.Sums.{sum_by-cons}
use native.Mathlib.Decide.{dec_lt}
use mathlib.Core.Logic.{dite}
use Rattle.mc_core.specs.declared.shape.Shape.{Shape}
use Rattle.mc_core.specs.Shape.{rows, word_count, place}
use Rattle.mc_cover.specs.declared.view.View.{View}
use Rattle.mc_cover.specs.Tells.{SeenIsHit}
use Rattle.mc_cover.specs.Views.{after_look}
use Rattle.mc_cover.proofs.Bits.{place_within}
use Rattle.mc_watch.specs.Looks.{IsLook, AreLooks, AreGrowing, LooksOnce, recorded}
use Rattle.mc_watch.specs.Watched.{AreSoMany}
use Rattle.mc_watch.proofs.Ones.{ones_grow}
use Rattle.mc_watch.proofs.SoMany.{at_most}
use Rattle.mc_watch.proofs.Sets.{IsSet, so_many_set}

-- ---- sums

sum_le : {X : Type 0} (f : X → ℕ) (xs ys : List X) → length xs ≡ length ys → ((p : ℕ) (d : X) → p < length xs → f (get_or xs p d) ≤ f (get_or ys p d)) → sum_by f xs ≤ sum_by f ys
sum_le f [] [] long each = omega arith
sum_le f [] (y ∷ ys) long each = absurd (omega arith)
sum_le f (x ∷ xs) [] long each = absurd (omega arith)
sum_le f (x ∷ xs) (y ∷ ys) long each =
    let a = sum_by-cons f x xs in let b = sum_by-cons f y ys in
    let first = each 0 x (omega arith) in
    let rest = sum_le f xs ys (omega arith) (λ p d less. each (suc p) d (omega arith)) in omega arith

sum_map : {X : Type 0} (f : X → ℕ) (g : ℕ → ℕ) (xs : List X) → sum_by g (map f xs) ≡ sum_by (λ x. g (f x)) xs
sum_map f g [] = refl
sum_map f g (x ∷ xs) = sum_by-cons g (f x) (map f xs) ∙ ap (λ n. g (f x) + n) (sum_map f g xs) ∙ sym (sum_by-cons (λ y. g (f y)) x xs)

-- ---- one load more

-- where each load of a word has what the earlier ones had
pub growing_push : (seen : List (ℕ × ℕ)) (index value : ℕ) → AreGrowing seen → All (λ x. x.0 ≡ index → (n : ℕ) → bit_at x.1 n ≤ bit_at value n) seen → AreGrowing (seen ++ (index, value) ∷ [])
growing_push seen index value grow more i j d le less same n =
    let all : List (ℕ × ℕ) = seen ++ (index, value) ∷ [] in
    let long : length all ≡ length seen + 1 = length_push seen (index, value) in
    dite (dec_lt j (length seen))
    (λ old.
    let a : get_or all j d ≡ get_or seen j d = get_or_append_left seen ((index, value) ∷ []) d j old in
    let b : get_or all i d ≡ get_or seen i d = get_or_append_left seen ((index, value) ∷ []) d i (omega arith) in
    subst (λ (p : (ℕ × ℕ) × (ℕ × ℕ)). bit_at p.0.1 n ≤ bit_at p.1.1 n) (λ m. (sym b m, sym a m))
    (grow i j d le old (sym (ap (λ (x : ℕ × ℕ). x.0) b) ∙ same ∙ ap (λ (x : ℕ × ℕ). x.0) a) n))
    (λ last.
    let a : get_or all j d ≡ (index, value) = get_or_push seen (index, value) d j (omega arith) in
    dite (dec_lt i (length seen))
    (λ old.
    let b : get_or all i d ≡ get_or seen i d = get_or_append_left seen ((index, value) ∷ []) d i old in
    subst (λ (p : (ℕ × ℕ) × (ℕ × ℕ)). bit_at p.0.1 n ≤ bit_at p.1.1 n) (λ m. (sym b m, sym a m))
    (more i d old (sym (ap (λ (x : ℕ × ℕ). x.0) b) ∙ same ∙ ap (λ (x : ℕ × ℕ). x.0) a) n))
    (λ no.
    let one : i ≡ j = omega arith in
    subst (λ (m : ℕ). bit_at (get_or all i d).1 n ≤ bit_at (get_or all m d).1 n) one (omega arith)))

pub nothing_growing : (seen : List (ℕ × ℕ)) → seen ≡ [] → AreGrowing seen
nothing_growing seen none i j d le less = absurd (let e = ap (λ (l : List (ℕ × ℕ)). length l) none in omega arith)

-- ---- one look

pub no_load : (old : View) → LooksOnce 0 old old 0
no_load old = record {
  loads = [];
  look = record { whole = refl; in_order = λ i d less. absurd (omega arith); values = All-nil (λ (x : ℕ × ℕ). x.1 < 2 ^ 64) };
  view = λ i. record old { seen = sym (append-nil old.seen) i };
  counted = refl;
  growing = λ g. g;
}

pub one_load : (n : ℕ) (old v w : View) (count value after : ℕ) → LooksOnce n old v count → w ≡ after_look v n value → value < 2 ^ 64 → after ≡ count + count_ones value
    → All (λ x. x.0 ≡ n → (i : ℕ) → bit_at x.1 i ≤ bit_at value i) v.seen → LooksOnce (n + 1) old w after
one_load n old v w count value after is e fits sum more =
    let loads : List (ℕ × ℕ) = is.loads ++ (n, value) ∷ [] in
    let whole = is.look.whole in
    let view : w ≡ record old { seen = old.seen ++ loads } = e ∙ (λ i. record (is.view i) { seen = (is.view i).seen ++ (n, value) ∷ [] })
    ∙ (λ i. record old { seen = append_assoc old.seen is.loads ((n, value) ∷ []) i }) in
    record {
      loads = loads;
      look = record {
        whole = length_push is.loads (n, value) ∙ ap (λ k. k + 1) whole;
        in_order = λ i d less. dite (dec_lt i n)
            (λ before. ap (λ (x : ℕ × ℕ). x.0) (get_or_append_left is.loads ((n, value) ∷ []) d i (omega arith)) ∙ is.look.in_order i d before)
            (λ no.
            let here : i ≡ n = omega arith in
            ap (λ (x : ℕ × ℕ). x.0) (get_or_push is.loads (n, value) d i (omega arith)) ∙ sym here);
        values = All-push (λ (x : ℕ × ℕ). x.1 < 2 ^ 64) is.loads (n, value) is.look.values fits;
      };
      view = view;
      counted = sum ∙ ap (λ k. k + count_ones value) is.counted ∙ sym (Rattle.std.proofs.lemmas.List.Sums.sum_by_push (λ (x : ℕ × ℕ). count_ones x.1) is.loads (n, value));
      growing = λ g. subst AreGrowing (sym (ap (λ (x : View). x.seen) e)) (growing_push v.seen n value (is.growing g) more);
    }

-- ---- the looks one after the other

pub no_look : (words : ℕ) (seen : List (ℕ × ℕ)) (counts : List ℕ) → seen ≡ [] → counts ≡ [] → AreLooks words seen counts
no_look words seen counts none empty = record {
  looks = [];
  each = All-nil (IsLook words);
  seen_is = none;
  counts_are = empty;
}

pub one_look : (words : ℕ) (v w : View) (count : ℕ) (counts after : List ℕ) → AreLooks words v.seen counts → LooksOnce words v w count → after ≡ counts ++ count ∷ [] → AreLooks words w.seen after
one_look words v w count counts after are is e = record {
  looks = are.looks ++ is.loads ∷ [];
  each = All-push (IsLook words) are.looks is.loads are.each is.look;
  seen_is = ap (λ (x : View). x.seen) is.view ∙ ap (λ l. l ++ is.loads) are.seen_is ∙ flat_map_more (λ (l : List (ℕ × ℕ)). l) [] are.looks is.loads;
  counts_are = e ∙ (λ i. are.counts_are i ++ is.counted i ∷ []) ∙ sym (map_push recorded are.looks is.loads);
}

-- where a load of a look stands
module _ (words : ℕ) where
  all_long : (looks : List (List (ℕ × ℕ))) → All (IsLook words) looks → length (flat_map (λ l. l) looks) ≡ length looks * words
  all_long [] each = sym (zero-mul words)
  all_long (x ∷ xs) each =
      let whole = (each 0 x (omega arith)).whole in
      let rest = all_long xs (λ k d less. each (suc k) d (omega arith)) in
      length-append x (flat_map (λ l. l) xs) ∙ (let m = suc-mul (length xs) words in omega arith)

  place_in : (looks : List (List (ℕ × ℕ))) → All (IsLook words) looks → (j p : ℕ) (d : ℕ × ℕ) (e : List (ℕ × ℕ)) → j < length looks → p < words
      → get_or (flat_map (λ l. l) looks) (j * words + p) d ≡ get_or (get_or looks j e) p d
  place_in [] each j p d e less inside = absurd (omega arith)
  place_in (x ∷ xs) each zero p d e less inside =
      let whole = (each 0 x (omega arith)).whole in
      let at : 0 * words + p ≡ p = omega arith in
      ap (λ (n : ℕ). get_or (x ++ flat_map (λ l. l) xs) n d) at ∙ get_or_append_left x (flat_map (λ l. l) xs) d p (omega arith)
  place_in (x ∷ xs) each (suc j) p d e less inside =
      let whole = (each 0 x (omega arith)).whole in
      let m = suc-mul j words in
      let at : suc j * words + p ≡ length x + (j * words + p) = omega arith in
      ap (λ (n : ℕ). get_or (x ++ flat_map (λ l. l) xs) n d) at ∙ get_or-append-add x (flat_map (λ l. l) xs) (j * words + p) d
      ∙ place_in xs (λ k d less'. each (suc k) d (omega arith)) j p d e (omega arith) inside

module _ (words : ℕ) (seen : List (ℕ × ℕ)) (counts : List ℕ) (are : AreLooks words seen counts) where
  abbrev look : ℕ → List (ℕ × ℕ)
  look j = get_or are.looks j []

  as_many : length counts ≡ length are.looks
  as_many = ap (λ (l : List ℕ). length l) are.counts_are ∙ length-map are.looks recorded

  count_is : (j d : ℕ) → j < length are.looks → get_or counts j d ≡ recorded (look j)
  count_is j d less = ap (λ (l : List ℕ). get_or l j d) are.counts_are ∙ get_or-map recorded are.looks j [] d less

  seen_at : (j p : ℕ) (d : ℕ × ℕ) → j < length are.looks → p < words → get_or seen (j * words + p) d ≡ get_or (look j) p d
  seen_at j p d less inside = ap (λ (l : List (ℕ × ℕ)). get_or l (j * words + p) d) are.seen_is ∙ place_in words are.looks are.each j p d [] less inside

  within_seen : (j p : ℕ) → j < length are.looks → p < words → j * words + p < length seen
  within_seen j p less inside =
      let h = mul-add-lt j words p (length are.looks) less inside in
      let c = mul_comm words (length are.looks) in
      let long = ap (λ (l : List (ℕ × ℕ)). length l) are.seen_is ∙ all_long words are.looks are.each in omega arith

  pub rising : AreGrowing seen → IsNonDecreasing counts
  rising grow i j d le less =
      let many = as_many in
      let one : i < length are.looks = omega arith in
      let two : j < length are.looks = omega arith in
      let first = are.each i [] one in
      let last = are.each j [] two in
      let each = λ (p : ℕ) (x : ℕ × ℕ) (inside : p < length (look i)).
      let in_words : p < words = (let w = first.whole in omega arith) in
      let a = seen_at i p x one in_words in
      let b = seen_at j p x two in_words in
      let index : (get_or seen (i * words + p) x).0 ≡ (get_or seen (j * words + p) x).0 =
      ap (λ (y : ℕ × ℕ). y.0) a ∙ first.in_order p x in_words ∙ sym (ap (λ (y : ℕ × ℕ). y.0) b ∙ last.in_order p x in_words) in
      let before : i * words + p ≤ j * words + p = (let m = mul-le-mul le (le_refl words) in omega arith) in
      let bits : (n : ℕ) → bit_at (get_or (look i) p x).1 n ≤ bit_at (get_or (look j) p x).1 n =
      λ n. subst (λ (y : (ℕ × ℕ) × (ℕ × ℕ)). bit_at y.0.1 n ≤ bit_at y.1.1 n) (λ m. (a m, b m)) (grow (i * words + p) (j * words + p) x before (within_seen j p two in_words) index n) in
      ones_grow (get_or (look i) p x).1 (get_or (look i) p x).1 (get_or (look j) p x).1 (omega arith) bits in
      let sum = sum_le (λ (y : ℕ × ℕ). count_ones y.1) (look i) (look j) (first.whole ∙ sym last.whole) each in
      let a = count_is i d one in
      let b = count_is j d two in omega arith

module _ (k : Shape) (v : View) (counts : List ℕ) (are : AreLooks (word_count k) v.seen counts) (shape : v.shape ≡ k) (hit : SeenIsHit v) where
  abbrev values : ℕ → List ℕ
  values j = map (λ (x : ℕ × ℕ). x.1) (get_or are.looks j [])

  -- what a look found set was hit
  set_is_hit : (j : ℕ) → j < length are.looks → (b t : ℕ) → IsSet k (values j) b t → Contains v.hits (b, t)
  set_is_hit j less b t set =
      let loads : List (ℕ × ℕ) = get_or are.looks j [] in
      let p : ℕ = place k b t in
      let inside = place_within k b t set.0 set.1 in
      let is = are.each j [] less in
      let whole = is.whole in
      let at : get_or v.seen (j * word_count k + p) (0, 0) ≡ get_or loads p (0, 0) = seen_at (word_count k) v.seen counts are j p (0, 0) less inside in
      let value : get_or (values j) p 0 ≡ (get_or loads p (0, 0)).1 = get_or-map (λ (x : ℕ × ℕ). x.1) loads p (0, 0) 0 (omega arith) in
      let bit : bit_at (get_or v.seen (j * word_count k + p) (0, 0)).1 (t % 64) ≡ 1 =
      ap (λ (x : ℕ × ℕ). bit_at x.1 (t % 64)) at ∙ ap (λ (x : ℕ). bit_at x (t % 64)) (sym value) ∙ set.2 in
      let index : place v.shape b t ≡ (get_or v.seen (j * word_count k + p) (0, 0)).0 =
      ap (λ (z : Shape). place z b t) shape ∙ sym (ap (λ (x : ℕ × ℕ). x.0) at ∙ is.in_order p (0, 0) inside) in
      hit (j * word_count k + p) (0, 0) (within_seen (word_count k) v.seen counts are j p less inside) b t
      (subst (λ (z : Shape). b < z.bits) (sym shape) set.0) (subst (λ (z : Shape). t < 64 * rows z) (sym shape) set.1) index bit

  pub within : (n : ℕ) → AreSoMany (λ b t. Contains v.hits (b, t)) n → All (λ c. c ≤ n) counts
  within n hits j d less =
      let many = as_many (word_count k) v.seen counts are in
      let one : j < length are.looks = omega arith in
      let loads : List (ℕ × ℕ) = get_or are.looks j [] in
      let is = are.each j [] one in
      let long : length (values j) ≡ word_count k = length-map loads (λ (x : ℕ × ℕ). x.1) ∙ is.whole in
      let fits : All (λ w. w < 2 ^ 64) (values j) = Rattle.std.proofs.lemmas.List.Elements.All-map (λ (w : ℕ). w < 2 ^ 64) (λ (x : ℕ × ℕ). x.1) loads is.values in
      let set = so_many_set k (values j) long fits in
      let most = at_most (IsSet k (values j)) (λ b t. Contains v.hits (b, t)) (sum_by count_ones (values j)) n set hits (set_is_hit j one) in
      let sum = sum_map (λ (x : ℕ × ℕ). x.1) count_ones loads in
      let count = count_is (word_count k) v.seen counts are j d one in omega arith
