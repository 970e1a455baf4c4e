-- Copies of the items of a list, one after the other, with one pen.
use Rattle.std.proofs.Common.{◌≡◌, ◌∙◌, refl, sym, ap, ℕ, ◌+◌, ◌<◌, ◌≤◌, List, [], ◌∷◌, ◌++◌, map, length, get_or, drop, append_assoc}
use Rattle.std.proofs.lemmas.List.{drop_more, map_push, append-nil, drop_all}
use Rattle.mc_typed.specs.declared.expressions.Argument.{Argument}
use Rattle.mc_typed.specs.declared.initializers.Initializer.{Initializer}
use Rattle.mc_typed.specs.declared.statements.Statement.{Statement}
use Rattle.mc_typed.specs.Tree as t
use Rattle.mc_typed.specs.Views as plain
use Rattle.mc_probe.specs.Tree as tree
use Rattle.mc_probe.specs.Views as probed
use Rattle.reread_put_back.specs.Pens.{Pen, Walk, each, gives, go_on}
use Rattle.reread_put_back.specs.Back.{back_argument, back_arguments, back_initializer, back_initializers, back_statement, back_statements}

module _ {T Q C : Type 0} (walk : T → Walk Q) (plain_of : C → T) (probed_of : C → Q) where
  abbrev joined : List Q → List Q × Pen → List Q × Pen
  joined done rest = (done ++ rest.0, rest.1)

  -- these copies and those of the items that are left are the copies of all
  abbrev pub Left : List C → Pen → List C → ℕ → Pen → Type 0
  Left copies p trees i start = each walk (map plain_of trees) start ≡ joined (map probed_of copies) (each walk (map plain_of (drop i trees)) p)

  split : (xs : List C) (i : ℕ) (x : C) → i < length xs → x ≡ get_or xs i x → drop i xs ≡ x ∷ drop (i + 1) xs
  split xs i x lt is = drop_more xs i x lt ∙ ap (λ (y : C). y ∷ drop (i + 1) xs) (sym is)

  pub begin : (copies trees : List C) (start : Pen) → copies ≡ [] → Left copies start trees 0 start
  begin copies trees start none =
      ap (λ (zs : List C). joined (map probed_of zs) (each walk (map plain_of trees) start)) (sym none)

  one_more : (x : T) (xs : List T) (p e : Pen) (y : Q) (done : List Q) → walk x p ≡ (y, e) → joined done (each walk (x ∷ xs) p) ≡ joined (done ++ y ∷ []) (each walk xs e)
  one_more x xs p e y done one =
      ap (λ (w : Q × Pen). joined done (go_on w (λ y p. go_on (each walk xs p) (λ ys p. gives (y ∷ ys) p)))) one
      ∙ ap (λ (zs : List Q). (zs, (each walk xs e).1)) (sym (append_assoc done (y ∷ []) (each walk xs e).0))

  pub next : (copies new trees : List C) (x y : C) (i : ℕ) (p e start : Pen) → i < length trees → x ≡ get_or trees i x → new ≡ copies ++ y ∷ [] → probed_of y ≡ (walk (plain_of x) p).0 → e ≡ (walk (plain_of x) p).1 → Left copies p trees i start → Left new e trees (i + 1) start
  next copies new trees x y i p e start lt is pushed part pen left =
      let one : walk (plain_of x) p ≡ (probed_of y, e) = λ i. (sym part i, sym pen i) in
      left
      ∙ (ap (λ (zs : List C). joined (map probed_of copies) (each walk (map plain_of zs) p)) (split trees i x lt is)
      ∙ (one_more (plain_of x) (map plain_of (drop (i + 1) trees)) p e (probed_of y) (map probed_of copies) one
      ∙ (ap (λ (zs : List Q). joined zs (each walk (map plain_of (drop (i + 1) trees)) e)) (sym (map_push probed_of copies y))
      ∙ ap (λ (zs : List C). joined (map probed_of zs) (each walk (map plain_of (drop (i + 1) trees)) e)) (sym pushed))))

  all : (copies trees : List C) (i : ℕ) (p start : Pen) → length trees ≤ i → Left copies p trees i start → each walk (map plain_of trees) start ≡ (map probed_of copies, p)
  all copies trees i p start end left =
      left
      ∙ (ap (λ (zs : List C). joined (map probed_of copies) (each walk (map plain_of zs) p)) (drop_all i trees end)
      ∙ ap (λ (zs : List Q). (zs, p)) (append-nil (map probed_of copies)))

  pub parts : (copies trees : List C) (i : ℕ) (p start : Pen) → length trees ≤ i → Left copies p trees i start → map probed_of copies ≡ (each walk (map plain_of trees) start).0
  parts copies trees i p start end left = ap (λ (w : List Q × Pen). w.0) (sym (all copies trees i p start end left))

  pub pens : (copies trees : List C) (i : ℕ) (p start : Pen) → length trees ≤ i → Left copies p trees i start → p ≡ (each walk (map plain_of trees) start).1
  pens copies trees i p start end left = ap (λ (w : List Q × Pen). w.1) (sym (all copies trees i p start end left))

-- ---- the lists of a tree

module _ (r : ℕ) where
  arguments_are : (xs : List t.Argument) (s : Pen) → back_arguments r (plain.arguments_from xs) s ≡ (probed.arguments_from (each (back_argument r) xs s).0, (each (back_argument r) xs s).1)
  arguments_are [] s = refl
  arguments_are (x ∷ xs) s =
      ap (λ (w : tree.Arguments × Pen). (tree.arguments (back_argument r x s).0 w.0, w.1)) (arguments_are xs (back_argument r x s).1)

  initializers_are : (xs : List t.Initializer) (s : Pen) → back_initializers r (plain.initializers_from xs) s ≡ (probed.initializers_from (each (back_initializer r) xs s).0, (each (back_initializer r) xs s).1)
  initializers_are [] s = refl
  initializers_are (x ∷ xs) s =
      ap (λ (w : tree.Initializers × Pen). (tree.initializers (back_initializer r x s).0 w.0, w.1)) (initializers_are xs (back_initializer r x s).1)

  statements_are : (xs : List t.Statement) (s : Pen) → back_statements r (plain.statements_from xs) s ≡ (probed.statements_from (each (back_statement r) xs s).0, (each (back_statement r) xs s).1)
  statements_are [] s = refl
  statements_are (x ∷ xs) s =
      ap (λ (w : tree.Statements × Pen). (tree.statements (back_statement r x s).0 w.0, w.1)) (statements_are xs (back_statement r x s).1)

  pub arguments_parts : (copies trees : List Argument) (i : ℕ) (s start : Pen) → length trees ≤ i → Left (back_argument r) plain.argument_of probed.argument_of copies s trees i start → probed.arguments_from (map probed.argument_of copies) ≡ (back_arguments r (plain.arguments_from (map plain.argument_of trees)) start).0
  arguments_parts copies trees i s start end left =
      ap probed.arguments_from (parts (back_argument r) plain.argument_of probed.argument_of copies trees i s start end left)
      ∙ ap (λ (w : tree.Arguments × Pen). w.0) (sym (arguments_are (map plain.argument_of trees) start))

  pub arguments_pens : (copies trees : List Argument) (i : ℕ) (s start : Pen) → length trees ≤ i → Left (back_argument r) plain.argument_of probed.argument_of copies s trees i start → s ≡ (back_arguments r (plain.arguments_from (map plain.argument_of trees)) start).1
  arguments_pens copies trees i s start end left =
      pens (back_argument r) plain.argument_of probed.argument_of copies trees i s start end left
      ∙ ap (λ (w : tree.Arguments × Pen). w.1) (sym (arguments_are (map plain.argument_of trees) start))

  pub initializers_parts : (copies trees : List Initializer) (i : ℕ) (s start : Pen) → length trees ≤ i → Left (back_initializer r) plain.initializer_of probed.initializer_of copies s trees i start → probed.initializers_from (map probed.initializer_of copies) ≡ (back_initializers r (plain.initializers_from (map plain.initializer_of trees)) start).0
  initializers_parts copies trees i s start end left =
      ap probed.initializers_from (parts (back_initializer r) plain.initializer_of probed.initializer_of copies trees i s start end left)
      ∙ ap (λ (w : tree.Initializers × Pen). w.0) (sym (initializers_are (map plain.initializer_of trees) start))

  pub initializers_pens : (copies trees : List Initializer) (i : ℕ) (s start : Pen) → length trees ≤ i → Left (back_initializer r) plain.initializer_of probed.initializer_of copies s trees i start → s ≡ (back_initializers r (plain.initializers_from (map plain.initializer_of trees)) start).1
  initializers_pens copies trees i s start end left =
      pens (back_initializer r) plain.initializer_of probed.initializer_of copies trees i s start end left
      ∙ ap (λ (w : tree.Initializers × Pen). w.1) (sym (initializers_are (map plain.initializer_of trees) start))

  pub statements_parts : (copies trees : List Statement) (i : ℕ) (s start : Pen) → length trees ≤ i → Left (back_statement r) plain.statement_of probed.statement_of copies s trees i start → probed.statements_from (map probed.statement_of copies) ≡ (back_statements r (plain.statements_from (map plain.statement_of trees)) start).0
  statements_parts copies trees i s start end left =
      ap probed.statements_from (parts (back_statement r) plain.statement_of probed.statement_of copies trees i s start end left)
      ∙ ap (λ (w : tree.Statements × Pen). w.0) (sym (statements_are (map plain.statement_of trees) start))

  pub statements_pens : (copies trees : List Statement) (i : ℕ) (s start : Pen) → length trees ≤ i → Left (back_statement r) plain.statement_of probed.statement_of copies s trees i start → s ≡ (back_statements r (plain.statements_from (map plain.statement_of trees)) start).1
  statements_pens copies trees i s start end left =
      pens (back_statement r) plain.statement_of probed.statement_of copies trees i s start end left
      ∙ ap (λ (w : tree.Statements × Pen). w.1) (sym (statements_are (map plain.statement_of trees) start))
