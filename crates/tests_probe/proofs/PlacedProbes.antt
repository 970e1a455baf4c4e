-- The probes that the table puts, and the places that a map lists.
use Rattle.std.proofs.Common.{◌≡◌, ◌∙◌, ℕ, suc, ◌+◌, Bool, true, false, if◌then◌else◌, List, [], ◌∷◌, ◌++◌, length, flat_map, Option, Some, None, refl, sym, ap, arith}
use Rattle.std.proofs.lemmas.List.{length-append}
use Rattle.mc_span.specs.declared.span.Span.{Span}
use Rattle.mc_typed.specs.Tree as t
use Rattle.decide_rules.specs.declared.role.Role.TheVariants.{Controlling, Plain}
use Rattle.decide_rules.specs.Nodes as n
use Rattle.decide_rules.specs.Counts.{roots, roots_in}
use Rattle.mc_steps.specs.Points.{Points, no_points, ◌⊕◌, where_counted, unless_default, points_of, points_of_all, points_of_function, all_complete, has_default, initializes}
use Rattle.mc_probe.specs.Obligations as places
use Rattle.mc_probe.specs.Maps.{Map, exit_bit, statement_bit, label_bit}
use Rattle.mc_probe.specs.Table.{At, decided, past, within, in_switch, mark_unless_default, put_statement, put_statements, put_function, put_functions, decisions_in}
use Rattle.mc_probe.proofs.Counted.{function_counted}
use Rattle.tests_probe.specs.Places.{Placed, placed, at_bit, at_mark, starts, starts_all, leaves, leaves_all, choices, choices_all, enters, exits, numbered, ProbesHavePlaces}

-- ---- lists of places

more : (k : ℕ) (xs ys : List Span) → numbered k (xs ++ ys) ≡ numbered k xs ++ numbered (k + length xs) ys
more k [] ys = ap (λ (j : ℕ). numbered j ys) (omega arith)
more k (x ∷ xs) ys =
    let e : k + 1 + length xs ≡ k + suc (length xs) = omega arith in
    ap (λ (zs : List Placed). placed x k ∷ zs) (more (k + 1) xs ys
    ∙ ap (λ (j : ℕ). numbered (k + 1) xs ++ numbered j ys) e)

-- what is put for two parts, the second after as many places as the first has
joined : (k j : ℕ) (xs ys : List Span) (us vs : List Placed) → us ≡ numbered k xs → vs ≡ numbered j ys → k + length xs ≡ j → us ++ vs ≡ numbered k (xs ++ ys)
joined k j xs ys us vs a b e =
    (λ i. a i ++ b i) ∙ (ap (λ (l : ℕ). numbered k xs ++ numbered l ys) (sym e) ∙ sym (more k xs ys))

-- ---- as many as are counted

no_statement : (b : Bool) → (unless_default b).statements ≡ 0
no_statement true = refl
no_statement false = refl

declared_length : (span : Span) (b : Bool) → length (if b then span ∷ [] else []) ≡ (where_counted b).statements
declared_length span true = refl
declared_length span false = refl

mutual
  statement_length : (s : t.Statement) → length (places.counted_spans s) ≡ (points_of s).statements
  statement_length (t.Compound items span) = items_length items
  statement_length (t.Label v span) = refl
  statement_length (t.Declaration declarators span) = declared_length span (initializes declarators)
  statement_length (t.Null span) = refl
  statement_length (t.EffectStatement effect span) = refl
  statement_length (t.If e s keyword span) = omega (arith, statement_length s)
  statement_length (t.IfElse e s u keyword span) =
      omega (arith, length-append (places.counted_spans s) (places.counted_spans u), statement_length s, statement_length u)
  statement_length (t.Switch e items keyword span) =
      omega (arith, items_length items, no_statement (has_default items))
  statement_length (t.For start test step s keyword span) = omega (arith, statement_length s)
  statement_length (t.DoWhile s e keyword span) = omega (arith, statement_length s)
  statement_length (t.Break span) = refl
  statement_length (t.Continue span) = refl
  statement_length (t.Return value span) = refl

  items_length : (items : t.Statements) → length (places.counted_spans_all items) ≡ (points_of_all items).statements
  items_length t.no_statements = refl
  items_length (t.statements s rest) =
      length-append (places.counted_spans s) (places.counted_spans_all rest) ∙ (λ i. statement_length s i + items_length rest i)

no_exit : (b : Bool) → (unless_default b).exits ≡ 0
no_exit true = refl
no_exit false = refl

no_exit_declared : (b : Bool) → (where_counted b).exits ≡ 0
no_exit_declared true = refl
no_exit_declared false = refl

no_label_declared : (b : Bool) → (where_counted b).labels ≡ 0
no_label_declared true = refl
no_label_declared false = refl

absent_length : (span : Span) (b : Bool) → length (if b then [] else span ∷ []) ≡ (unless_default b).labels
absent_length span true = refl
absent_length span false = refl

mutual
  exit_length : (s : t.Statement) → length (places.returns s) ≡ (points_of s).exits
  exit_length (t.Compound items span) = exits_length items
  exit_length (t.Label v span) = refl
  exit_length (t.Declaration declarators span) = sym (no_exit_declared (initializes declarators))
  exit_length (t.Null span) = refl
  exit_length (t.EffectStatement effect span) = refl
  exit_length (t.If e s keyword span) = omega (arith, exit_length s)
  exit_length (t.IfElse e s u keyword span) =
      omega (arith, length-append (places.returns s) (places.returns u), exit_length s, exit_length u)
  exit_length (t.Switch e items keyword span) =
      omega (arith, exits_length items, no_exit (has_default items))
  exit_length (t.For start test step s keyword span) = omega (arith, exit_length s)
  exit_length (t.DoWhile s e keyword span) = omega (arith, exit_length s)
  exit_length (t.Break span) = refl
  exit_length (t.Continue span) = refl
  exit_length (t.Return value span) = refl

  exits_length : (items : t.Statements) → length (places.returns_all items) ≡ (points_of_all items).exits
  exits_length t.no_statements = refl
  exits_length (t.statements s rest) =
      length-append (places.returns s) (places.returns_all rest) ∙ (λ i. exit_length s i + exits_length rest i)

mutual
  label_length : (s : t.Statement) → length (places.labels s) ≡ (points_of s).labels
  label_length (t.Compound items span) = labels_length items
  label_length (t.Label v span) = refl
  label_length (t.Declaration declarators span) = sym (no_label_declared (initializes declarators))
  label_length (t.Null span) = refl
  label_length (t.EffectStatement effect span) = refl
  label_length (t.If e s keyword span) = omega (arith, label_length s)
  label_length (t.IfElse e s u keyword span) =
      omega (arith, length-append (places.labels s) (places.labels u), label_length s, label_length u)
  label_length (t.Switch e items keyword span) =
      omega (arith, length-append (if has_default items then [] else keyword ∷ []) (places.labels_all items), labels_length items, absent_length keyword (has_default items))
  label_length (t.For start test step s keyword span) = omega (arith, label_length s)
  label_length (t.DoWhile s e keyword span) = omega (arith, label_length s)
  label_length (t.Break span) = refl
  label_length (t.Continue span) = refl
  label_length (t.Return value span) = refl

  labels_length : (items : t.Statements) → length (places.labels_all items) ≡ (points_of_all items).labels
  labels_length t.no_statements = refl
  labels_length (t.statements s rest) =
      length-append (places.labels s) (places.labels_all rest) ∙ (λ i. label_length s i + labels_length rest i)

-- ---- the probes of statements

module _ (m : Map) (first : ℕ) where
  abbrev in_if : t.Expression → At m first → At m first
  in_if e at = decided m first (roots Controlling (n.expression e)) (within m first at)

  abbrev in_items : t.Expression → t.Statements → At m first → At m first
  in_items e items at = decided m first (roots Plain (n.expression e)) (in_switch m first (has_default items) at)

  abbrev in_for : t.ForStart → Option t.Expression → List t.Effect → At m first → At m first
  in_for start test step at =
      decided m first (roots Plain (n.start start) + roots Plain (n.optional_test test) + roots_in (n.effects step)) (within m first at)

  declared_starts : (span : Span) (k : ℕ) (b : Bool) → at_bit span (if b then Some k else None) ≡ numbered k (if b then span ∷ [] else [])
  declared_starts span k true = refl
  declared_starts span k false = refl

  mutual
    put_starts : (r : ℕ) (at : At m first) (s : t.Statement) → starts (put_statement m first r at s) ≡ numbered at.statement (places.counted_spans s)
    put_starts r at (t.Compound items span) = put_starts_all r at items
    put_starts r at (t.Label v span) = refl
    put_starts r at (t.Declaration declarators span) = declared_starts span at.statement (initializes declarators)
    put_starts r at (t.Null span) = refl
    put_starts r at (t.EffectStatement effect span) = refl
    put_starts r at (t.If e s keyword span) =
        ap (λ (zs : List Placed). placed keyword at.statement ∷ zs) (put_starts r (in_if e at) s)
    put_starts r at (t.IfElse e s u keyword span) =
        ap (λ (zs : List Placed). placed keyword at.statement ∷ zs)
        (joined (at.statement + 1) (at.statement + 1 + (points_of s).statements) (places.counted_spans s) (places.counted_spans u) _ _
        (put_starts r (in_if e at) s) (put_starts r (past m first s (in_if e at)) u) (ap (λ (j : ℕ). at.statement + 1 + j) (statement_length s)))
    put_starts r at (t.Switch e items keyword span) =
        ap (λ (zs : List Placed). placed keyword at.statement ∷ zs) (put_starts_all at.switch (in_items e items at) items)
    put_starts r at (t.For start test step s keyword span) =
        ap (λ (zs : List Placed). placed keyword at.statement ∷ zs) (put_starts r (in_for start test step at) s)
    put_starts r at (t.DoWhile s e keyword span) =
        ap (λ (zs : List Placed). placed keyword at.statement ∷ zs) (put_starts r (within m first at) s)
    put_starts r at (t.Break span) = refl
    put_starts r at (t.Continue span) = refl
    put_starts r at (t.Return value span) = refl

    put_starts_all : (r : ℕ) (at : At m first) (items : t.Statements) → starts_all (put_statements m first r at items) ≡ numbered at.statement (places.counted_spans_all items)
    put_starts_all r at t.no_statements = refl
    put_starts_all r at (t.statements s rest) =
        joined at.statement (at.statement + (points_of s).statements) (places.counted_spans s) (places.counted_spans_all rest) _ _
        (put_starts r at s) (put_starts_all r (past m first s at) rest) (ap (λ (j : ℕ). at.statement + j) (statement_length s))

  mutual
    put_leaves : (r : ℕ) (at : At m first) (s : t.Statement) → leaves (put_statement m first r at s) ≡ numbered at.exit (places.returns s)
    put_leaves r at (t.Compound items span) = put_leaves_all r at items
    put_leaves r at (t.Label v span) = refl
    put_leaves r at (t.Declaration declarators span) = refl
    put_leaves r at (t.Null span) = refl
    put_leaves r at (t.EffectStatement effect span) = refl
    put_leaves r at (t.If e s keyword span) = put_leaves r (in_if e at) s
    put_leaves r at (t.IfElse e s u keyword span) =
        joined at.exit (at.exit + (points_of s).exits) (places.returns s) (places.returns u) _ _
        (put_leaves r (in_if e at) s) (put_leaves r (past m first s (in_if e at)) u) (ap (λ (j : ℕ). at.exit + j) (exit_length s))
    put_leaves r at (t.Switch e items keyword span) = put_leaves_all at.switch (in_items e items at) items
    put_leaves r at (t.For start test step s keyword span) = put_leaves r (in_for start test step at) s
    put_leaves r at (t.DoWhile s e keyword span) = put_leaves r (within m first at) s
    put_leaves r at (t.Break span) = refl
    put_leaves r at (t.Continue span) = refl
    put_leaves r at (t.Return value span) = refl

    put_leaves_all : (r : ℕ) (at : At m first) (items : t.Statements) → leaves_all (put_statements m first r at items) ≡ numbered at.exit (places.returns_all items)
    put_leaves_all r at t.no_statements = refl
    put_leaves_all r at (t.statements s rest) =
        joined at.exit (at.exit + (points_of s).exits) (places.returns s) (places.returns_all rest) _ _
        (put_leaves r at s) (put_leaves_all r (past m first s at) rest) (ap (λ (j : ℕ). at.exit + j) (exit_length s))

  -- a `switch`, from what is put in its items
  absent_first : (at : At m first) (keyword : Span) (b : Bool) (xs : List Placed) (ls : List Span) → xs ≡ numbered (in_switch m first b at).label ls → at_mark keyword (mark_unless_default m first b at) ++ xs ≡ numbered at.label ((if b then [] else keyword ∷ []) ++ ls)
  absent_first at keyword true xs ls h = h
  absent_first at keyword false xs ls h = ap (λ (zs : List Placed). placed keyword at.label ∷ zs) h

  mutual
    put_choices : (r : ℕ) (at : At m first) (s : t.Statement) → choices (put_statement m first r at s) ≡ numbered at.label (places.labels s)
    put_choices r at (t.Compound items span) = put_choices_all r at items
    put_choices r at (t.Label v span) = refl
    put_choices r at (t.Declaration declarators span) = refl
    put_choices r at (t.Null span) = refl
    put_choices r at (t.EffectStatement effect span) = refl
    put_choices r at (t.If e s keyword span) = put_choices r (in_if e at) s
    put_choices r at (t.IfElse e s u keyword span) =
        joined at.label (at.label + (points_of s).labels) (places.labels s) (places.labels u) _ _
        (put_choices r (in_if e at) s) (put_choices r (past m first s (in_if e at)) u) (ap (λ (j : ℕ). at.label + j) (label_length s))
    put_choices r at (t.Switch e items keyword span) =
        absent_first at keyword (has_default items) _ (places.labels_all items) (put_choices_all at.switch (in_items e items at) items)
    put_choices r at (t.For start test step s keyword span) = put_choices r (in_for start test step at) s
    put_choices r at (t.DoWhile s e keyword span) = put_choices r (within m first at) s
    put_choices r at (t.Break span) = refl
    put_choices r at (t.Continue span) = refl
    put_choices r at (t.Return value span) = refl

    put_choices_all : (r : ℕ) (at : At m first) (items : t.Statements) → choices_all (put_statements m first r at items) ≡ numbered at.label (places.labels_all items)
    put_choices_all r at t.no_statements = refl
    put_choices_all r at (t.statements s rest) =
        joined at.label (at.label + (points_of s).labels) (places.labels s) (places.labels_all rest) _ _
        (put_choices r at s) (put_choices_all r (past m first s at) rest) (ap (λ (j : ℕ). at.label + j) (label_length s))

-- ---- functions

module _ (m : Map) where
  abbrev at_start : Points → t.Function → (decisions : ℕ) → At m decisions
  at_start points f decisions = record {
    exit = exit_bit m points.exits;
    statement = statement_bit m points.statements;
    label = label_bit m points.labels;
    decision = 0;
    switch = decisions_in f;
  }

  put_enters : (number decisions : ℕ) (points : Points) (fs : List t.Function) → flat_map enters (put_functions m number decisions points fs) ≡ numbered number (places.entry_spans (record { functions = fs; statics = []; structures = [] }))
  put_enters number decisions points [] = refl
  put_enters number decisions points (f ∷ fs) =
      ap (λ (zs : List Placed). placed f.name_span number ∷ zs)
      (put_enters (number + 1) (decisions + decisions_in f) (points ⊕ points_of_function f) fs)

  starts_in : (number decisions : ℕ) (points : Points) (fs : List t.Function) → flat_map (λ f. starts_all f.body) (put_functions m number decisions points fs) ≡ numbered (statement_bit m points.statements) (flat_map (λ f. places.counted_spans_all f.body) fs)
  starts_in number decisions points [] = refl
  starts_in number decisions points (f ∷ fs) =
      joined (statement_bit m points.statements) (statement_bit m (points.statements + (points_of_function f).statements)) (places.counted_spans_all f.body) (flat_map (λ f. places.counted_spans_all f.body) fs) _ _
      (put_starts_all m decisions 0 (at_start points f decisions) f.body)
      (starts_in (number + 1) (decisions + decisions_in f) (points ⊕ points_of_function f) fs)
      (let e = (function_counted f).statements in omega (arith, e))

  choices_in : (number decisions : ℕ) (points : Points) (fs : List t.Function) → flat_map (λ f. choices_all f.body) (put_functions m number decisions points fs) ≡ numbered (label_bit m points.labels) (flat_map (λ f. places.labels_all f.body) fs)
  choices_in number decisions points [] = refl
  choices_in number decisions points (f ∷ fs) =
      joined (label_bit m points.labels) (label_bit m (points.labels + (points_of_function f).labels)) (places.labels_all f.body) (flat_map (λ f. places.labels_all f.body) fs) _ _
      (put_choices_all m decisions 0 (at_start points f decisions) f.body)
      (choices_in (number + 1) (decisions + decisions_in f) (points ⊕ points_of_function f) fs)
      (let e = (function_counted f).labels in omega (arith, e))

  closes : (span : Span) (b : Bool) (k : ℕ) → at_bit span (if b then Some k else None) ≡ numbered k (if b then span ∷ [] else [])
  closes span true k = refl
  closes span false k = refl

  exits_put : (number decisions : ℕ) (points : Points) (f : t.Function) → exits (put_function m number decisions points f) ≡ numbered (exit_bit m points.exits) (places.exits f)
  exits_put number decisions points f =
      joined (exit_bit m points.exits) (exit_bit m (points.exits + (points_of_all f.body).exits)) (places.returns_all f.body) (if all_complete f.body then f.closing ∷ [] else []) _ _
      (put_leaves_all m decisions 0 (at_start points f decisions) f.body)
      (closes f.closing (all_complete f.body) (exit_bit m (points.exits + (points_of_all f.body).exits)))
      (let e = exits_length f.body in omega (arith, e))

  exits_in : (number decisions : ℕ) (points : Points) (fs : List t.Function) → flat_map exits (put_functions m number decisions points fs) ≡ numbered (exit_bit m points.exits) (flat_map places.exits fs)
  exits_in number decisions points [] = refl
  exits_in number decisions points (f ∷ fs) =
      joined (exit_bit m points.exits) (exit_bit m (points.exits + (points_of_function f).exits)) (places.exits f) (flat_map places.exits fs) _ _
      (exits_put number decisions points f)
      (exits_in (number + 1) (decisions + decisions_in f) (points ⊕ points_of_function f) fs)
      (let e = (function_counted f).exits in omega (arith, e))

pub probes_placed : ProbesHavePlaces
probes_placed q m tree h =
    let of = h.is_map in
    let fs = q.functions in
    rw h.is_tree (record {
      entries = put_enters m 0 0 no_points fs ∙ ap (numbered 0) (sym of.entries);
      exits = exits_in m 0 0 no_points fs ∙ ap (numbered (exit_bit m 0)) (sym of.exits);
      statements = starts_in m 0 0 no_points fs ∙ ap (numbered (statement_bit m 0)) (sym of.statements);
      labels = choices_in m 0 0 no_points fs ∙ ap (numbered (label_bit m 0)) (sym of.labels);
    })
