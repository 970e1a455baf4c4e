-- The paths of the short-circuit graph.
use Rattle.std.proofs.Common.{◌≡◌, ℕ, zero, suc, ◌+◌, ◌<◌, Bool, true, false, not, Some, List, [], ◌∷◌, ◌++◌, length, length-append, refl, sym, ap, ◌∙◌, subst, arith}
use Rattle.std.specs.Prelude.{if◌then◌else◌, slice_get}
use Rattle.mc_cond.specs.Tree.{Tree, Leaf, Not, And, Or, FullAnd, FullOr, FullXor, size, IsShort, IsNumberedFrom}
use Rattle.mc_cond.specs.Order.{Answer}
use Rattle.mc_cond.specs.Vectors.{Row, Evaluation, skipped, followed_where, evaluated}
use Rattle.mc_cond.proofs.Rows.{length_answers}
use Rattle.mc_paths.specs.Graph.{Place, Condition, Outcome, Successors, first_of, successors, Lead, at_condition, GoAlong, ended, passed}
use Rattle.mc_paths.specs.Paths.{room, false_edges}
use Rattle.mc_paths.proofs.Counting.{length_edges}

get_left : {A : Type 0} (xs ys : List A) (k : ℕ) → k < length xs → slice_get (xs ++ ys) k ≡ slice_get xs k
get_left [] ys k lt = absurd (omega (arith, lt))
get_left (x ∷ xs) ys zero lt = refl
get_left (x ∷ xs) ys (suc k) lt = get_left xs ys k (omega (arith, lt))

get_right : {A : Type 0} (xs ys : List A) (k : ℕ) → slice_get (xs ++ ys) (length xs + k) ≡ slice_get ys k
get_right [] ys k =
    let e : 0 + k ≡ k = omega arith in
    ap (slice_get ys) e
get_right (x ∷ xs) ys k =
    let e : suc (length xs) + k ≡ suc (length xs + k) = omega arith in
    ap (slice_get (x ∷ xs ++ ys)) e ∙ get_right xs ys k

-- a part stands in the list from `first` on
abbrev pub Stands : {A : Type 0} → List A → ℕ → List A → Type 0
Stands all first part = (k : ℕ) → k < length part → slice_get all (first + k) ≡ slice_get part k

pub stands_whole : {A : Type 0} (all : List A) → Stands all 0 all
stands_whole all k lt = ap (slice_get all) (omega arith)

stands_left : {A : Type 0} (all : List A) (first : ℕ) (xs ys : List A) → Stands all first (xs ++ ys) → Stands all first xs
stands_left all first xs ys h k lt = h k (omega (arith, lt, length-append xs ys)) ∙ get_left xs ys k lt

stands_right : {A : Type 0} (all : List A) (first n : ℕ) (xs ys : List A) → length xs ≡ n → Stands all first (xs ++ ys) → Stands all (first + n) ys
stands_right all first n xs ys e h k lt =
    let at : first + n + k ≡ first + (length xs + k) = omega (arith, e) in
    ap (slice_get all) at ∙ h (length xs + k) (omega (arith, lt, length-append xs ys)) ∙ get_right xs ys k

length_successors : (t : Tree) (x y : Place) → IsShort t → length (successors t x y) ≡ size t
length_successors (Leaf k) x y short = refl
length_successors (Not a) x y short = length_successors a y x short
length_successors (And a b) x y short =
    length-append (successors a (Condition (first_of b)) y) (successors b x y) ∙ omega (arith, length_successors a (Condition (first_of b)) y short.0, length_successors b x y short.1)
length_successors (Or a b) x y short =
    length-append (successors a x (Condition (first_of b))) (successors b x y) ∙ omega (arith, length_successors a x (Condition (first_of b)) short.0, length_successors b x y short.1)
length_successors (FullAnd a b) x y short = absurd short
length_successors (FullOr a b) x y short = absurd short
length_successors (FullXor a b) x y short = absurd short

pub first_is : (t : Tree) (first : ℕ) → IsNumberedFrom first t → first_of t ≡ first
first_is (Leaf k) first n = n
first_is (Not a) first n = first_is a first n
first_is (And a b) first n = first_is a first n.0
first_is (Or a b) first n = first_is a first n.0
first_is (FullAnd a b) first n = first_is a first n.0
first_is (FullOr a b) first n = first_is a first n.0
first_is (FullXor a b) first n = first_is a first n.0

-- ---- how many paths

module _ (g : List Successors) where
  at_first : (k first : ℕ) (x y : Place) → k ≡ first → Stands g first (record { where_true = x; where_false = y } ∷ []) → slice_get g k ≡ Some (record { where_true = x; where_false = y })
  at_first k first x y e h = ap (slice_get g) (omega (arith, e)) ∙ h 0 (omega arith)

  -- from the first condition of a tree as many paths as `room` says
  pub lead_from : (t : Tree) (first : ℕ) (x y : Place) (m n : ℕ) → IsShort t → IsNumberedFrom first t → Stands g first (successors t x y) → Lead g x m → Lead g y n → Lead g (Condition (first_of t)) (room t m n)
  lead_from (Leaf k) first x y m n short is h lx ly = at_condition (at_first k first x y is h) lx ly
  lead_from (Not a) first x y m n short is h lx ly = lead_from a first y x n m short is h ly lx
  lead_from (And a b) first x y m n short is h lx ly =
      let inner = Condition (first_of b) in
      let second = lead_from b (first + size a) x y m n short.1 is.1 (stands_right g first (size a) (successors a inner y) (successors b x y) (length_successors a inner y short.0) h) lx ly in
      lead_from a first inner y (room b m n) n short.0 is.0 (stands_left g first (successors a inner y) (successors b x y) h) second ly
  lead_from (Or a b) first x y m n short is h lx ly =
      let inner = Condition (first_of b) in
      let second = lead_from b (first + size a) x y m n short.1 is.1 (stands_right g first (size a) (successors a x inner) (successors b x y) (length_successors a x inner short.0) h) lx ly in
      lead_from a first x inner m (room b m n) short.0 is.0 (stands_left g first (successors a x inner) (successors b x y) h) lx second
  lead_from (FullAnd a b) first x y m n short is h lx ly = absurd short
  lead_from (FullOr a b) first x y m n short is h lx ly = absurd short
  lead_from (FullXor a b) first x y m n short is h lx ly = absurd short

  -- condition k leads where it is true by m paths
  abbrev pub Adds : ℕ → ℕ → Type 0
  Adds k m = (s : Successors) × (slice_get g k ≡ Some s) × Lead g s.where_true m

  at_left : (xs ys : List ℕ) (first : ℕ)
      → ((k m : ℕ) → slice_get xs k ≡ Some m → Adds (first + k) m)
      → ((k m : ℕ) → slice_get ys k ≡ Some m → Adds (first + length xs + k) m)
      → (k m : ℕ) → slice_get (xs ++ ys) k ≡ Some m → Adds (first + k) m
  at_left [] ys first left right k m e =
      let P : ℕ → Type 0 = λ i. Adds i m in
      subst P (omega arith) (right k m e)
  at_left (x ∷ xs) ys first left right zero m e = left zero m e
  at_left (x ∷ xs) ys first left right (suc k) m e =
      let P : ℕ → Type 0 = λ i. Adds i m in
      let more : (j n : ℕ) → slice_get xs j ≡ Some n → Adds (first + 1 + j) n = λ j n f.
      let Q : ℕ → Type 0 = λ i. Adds i n in
      subst Q (omega arith) (left (suc j) n f) in
      let later : (j n : ℕ) → slice_get ys j ≡ Some n → Adds (first + 1 + length xs + j) n = λ j n f.
      let Q : ℕ → Type 0 = λ i. Adds i n in
      subst Q (omega arith) (right j n f) in
      subst P (omega arith) (at_left xs ys (first + 1) more later k m e)

  pub edges_add : (t : Tree) (first : ℕ) (x y : Place) (m n : ℕ) → IsShort t → IsNumberedFrom first t → Stands g first (successors t x y) → Lead g x m → Lead g y n
      → (k e : ℕ) → slice_get (false_edges t m n) k ≡ Some e → Adds (first + k) e
  edges_add (Leaf j) first x y m n short is h lx ly zero e f =
      let P : ℕ → Type 0 = λ i. Lead g x i in
      let same : m ≡ e = cc in
      (record { where_true = x; where_false = y }, h 0 (omega arith), subst P same lx)
  edges_add (Leaf j) first x y m n short is h lx ly (suc k) e f = cc
  edges_add (Not a) first x y m n short is h lx ly k e f = edges_add a first y x n m short is h ly lx k e f
  edges_add (And a b) first x y m n short is h lx ly k e f =
      let inner = Condition (first_of b) in
      let beyond = stands_right g first (size a) (successors a inner y) (successors b x y) (length_successors a inner y short.0) h in
      let second = lead_from b (first + size a) x y m n short.1 is.1 beyond lx ly in
      let left = edges_add a first inner y (room b m n) n short.0 is.0 (stands_left g first (successors a inner y) (successors b x y) h) second ly in
      let right = edges_add b (first + size a) x y m n short.1 is.1 beyond lx ly in
      let placed : (i j : ℕ) → slice_get (false_edges b m n) i ≡ Some j → Adds (first + length (false_edges a (room b m n) n) + i) j = λ i j q.
      let P : ℕ → Type 0 = λ at. Adds at j in
      subst P (omega (arith, length_edges a (room b m n) n)) (right i j q) in
      at_left (false_edges a (room b m n) n) (false_edges b m n) first left placed k e f
  edges_add (Or a b) first x y m n short is h lx ly k e f =
      let inner = Condition (first_of b) in
      let beyond = stands_right g first (size a) (successors a x inner) (successors b x y) (length_successors a x inner short.0) h in
      let second = lead_from b (first + size a) x y m n short.1 is.1 beyond lx ly in
      let left = edges_add a first x inner m (room b m n) short.0 is.0 (stands_left g first (successors a x inner) (successors b x y) h) lx second in
      let right = edges_add b (first + size a) x y m n short.1 is.1 beyond lx ly in
      let placed : (i j : ℕ) → slice_get (false_edges b m n) i ≡ Some j → Adds (first + length (false_edges a m (room b m n)) + i) j = λ i j q.
      let P : ℕ → Type 0 = λ at. Adds at j in
      subst P (omega (arith, length_edges a m (room b m n))) (right i j q) in
      at_left (false_edges a m (room b m n)) (false_edges b m n) first left placed k e f
  edges_add (FullAnd a b) first x y m n short is h lx ly k e f = absurd short
  edges_add (FullOr a b) first x y m n short is h lx ly k e f = absurd short
  edges_add (FullXor a b) first x y m n short is h lx ly k e f = absurd short

-- ---- an evaluation is a path

module _ (g : List Successors) (answers : List Answer) (o : Bool) where
  at_answer : (k first : ℕ) (x : Bool) → k ≡ first → Stands answers first (Some x ∷ []) → slice_get answers k ≡ Some (Some x)
  at_answer k first x e h = ap (slice_get answers) (omega (arith, e)) ∙ h 0 (omega arith)

  turned : (b : Bool) (x y : Place) → GoAlong g answers o (if not b then x else y) → GoAlong g answers o (if b then y else x)
  turned true x y h = h
  turned false x y h = h

  -- what comes after a first operand of outcome f: the second operand, where it is needed
  abbrev LeadsOn : Bool → Bool → Place → Place → Place → Place → Place → Type 0
  LeadsOn true f u w inner x y = (if f then u else w) ≡ inner
  LeadsOn false f u w inner x y = (if f then u else w) ≡ (if f then x else y)

  on_and : (inner x y : Place) (f : Bool) → LeadsOn f f inner y inner x y
  on_and inner x y true = refl
  on_and inner x y false = refl

  on_or : (inner x y : Place) (f : Bool) → LeadsOn (not f) f x inner inner x y
  on_or inner x y true = refl
  on_or inner x y false = refl

  along_both : (n : Bool) (v w : Evaluation) (b : Tree) (first size_a : ℕ) (u z inner x y start : Place) → LeadsOn n v.outcome u z inner x y → length v.answers ≡ size_a
      → (Stands answers first v.answers → GoAlong g answers o (if v.outcome then u else z) → GoAlong g answers o start)
      → (Stands answers (first + size_a) w.answers → GoAlong g answers o (if w.outcome then x else y) → GoAlong g answers o inner)
      → Stands answers first (followed_where n v b w).answers
      → GoAlong g answers o (if (followed_where n v b w).outcome then x else y) → GoAlong g answers o start
  along_both true v w b first size_a u z inner x y start leads e firstly second stands rest =
      let P : Place → Type 0 = λ place. GoAlong g answers o place in
      firstly (stands_left answers first v.answers w.answers stands) (subst P (sym leads) (second (stands_right answers first size_a v.answers w.answers e stands) rest))
  along_both false v w b first size_a u z inner x y start leads e firstly second stands rest =
      let P : Place → Type 0 = λ place. GoAlong g answers o place in
      firstly (stands_left answers first v.answers (skipped b) stands) (subst P (sym leads) rest)

  pub along : (t : Tree) (first : ℕ) (x y : Place) (row : Row) → IsShort t → IsNumberedFrom first t → Stands g first (successors t x y) → Stands answers first (evaluated t row).answers
      → GoAlong g answers o (if (evaluated t row).outcome then x else y) → GoAlong g answers o (Condition (first_of t))
  along (Leaf k) first x y row short is h stands rest = passed (at_first g k first x y is h) (at_answer k first (row k) is stands) rest
  along (Not a) first x y row short is h stands rest = along a first y x row short is h stands (turned (evaluated a row).outcome x y rest)
  along (And a b) first x y row short is h stands rest =
      let inner = Condition (first_of b) in
      let left = stands_left g first (successors a inner y) (successors b x y) h in
      let right = stands_right g first (size a) (successors a inner y) (successors b x y) (length_successors a inner y short.0) h in
      let f = (evaluated a row).outcome in
      along_both f (evaluated a row) (evaluated b row) b first (size a) inner y inner x y (Condition (first_of a)) (on_and inner x y f) (length_answers a row)
      (along a first inner y row short.0 is.0 left) (along b (first + size a) x y row short.1 is.1 right) stands rest
  along (Or a b) first x y row short is h stands rest =
      let inner = Condition (first_of b) in
      let left = stands_left g first (successors a x inner) (successors b x y) h in
      let right = stands_right g first (size a) (successors a x inner) (successors b x y) (length_successors a x inner short.0) h in
      let f = (evaluated a row).outcome in
      along_both (not f) (evaluated a row) (evaluated b row) b first (size a) x inner inner x y (Condition (first_of a)) (on_or inner x y f) (length_answers a row)
      (along a first x inner row short.0 is.0 left) (along b (first + size a) x y row short.1 is.1 right) stands rest
  along (FullAnd a b) first x y row short is h stands rest = absurd short
  along (FullOr a b) first x y row short is h stands rest = absurd short
  along (FullXor a b) first x y row short is h stands rest = absurd short

pub at_end : (g : List Successors) (answers : List Answer) (o : Bool) → GoAlong g answers o (if o then Outcome true else Outcome false)
at_end g answers true = ended
at_end g answers false = ended
