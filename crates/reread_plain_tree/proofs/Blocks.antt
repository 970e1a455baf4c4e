-- Lists of brackets and of items of blocks, each of which stands alone in what is said of its copy.
use Rattle.std.proofs.Common.{◌≡◌, false, List, [], ◌∷◌, length, map, refl, ap, ◌∙◌, sym}
use Rattle.mc_span.specs.declared.span.Span.{Span}
use Rattle.mc_tree.specs.declared.declarations.array_length.ArrayLength.{ArrayLength}
use Rattle.mc_tree.specs.declared.declarations.array_length.ArrayLength.TheOpen.{ArrayLength-F}
use Rattle.mc_tree.specs.declared.declarations.array_length.ArrayLength.TheFolds.{fold_out-ArrayLength}
use Rattle.mc_tree.specs.declared.statements.block_item.BlockItem.{BlockItem}
use Rattle.mc_tree.specs.declared.statements.block_item.BlockItem.TheOpen.{BlockItem-F}
use Rattle.mc_tree.specs.declared.statements.block_item.BlockItem.TheFolds.{fold_out-BlockItem}
use Rattle.mc_tree.specs.Tree.{ArrayLengths, BlockItems, Statement}
use Rattle.mc_tree.specs.Tree as t
use Rattle.mc_tree.specs.Views.{array_length_of, lengths_from, node_declarator, node_enumerator, node_expression, node_length, node_member, node_parameter, node_specifier}
use Rattle.mc_tree.specs.Units.{block_item_of, block_from, node_block_item, node_statement}
use Rattle.reread_plain_tree.specs.Unprobed.{is_probes, unprobed, unprobed_lengths, unprobed_declaration, unprobed_statement, unprobed_block}

-- ---- brackets

abbrev before_lengths : ArrayLengths → ArrayLengths → ArrayLengths
before_lengths t.no_lengths rest = rest
before_lengths (t.absent_length more) rest = t.absent_length (before_lengths more rest)
before_lengths (t.given_length a more) rest = t.given_length a (before_lengths more rest)

abbrev all_lengths : List ArrayLengths → ArrayLengths
all_lengths [] = t.no_lengths
all_lengths (x ∷ xs) = before_lengths x (all_lengths xs)

abbrev Length : Type 0
Length = ArrayLength-F (ArrayLengths → ArrayLengths) t.Declarator t.Enumerator t.Specifier t.Expression t.StructMember t.Parameter

node_length_alone : (x : Length) (rest : ArrayLengths) → node_length x rest ≡ before_lengths (node_length x t.no_lengths) rest
node_length_alone ArrayLength-F.Absent rest = refl
node_length_alone (ArrayLength-F.Given value) rest = refl

by_length : (f : ArrayLengths → ArrayLengths) (x : Length) (rest : ArrayLengths) → f ≡ node_length x → f rest ≡ before_lengths (f t.no_lengths) rest
by_length f x rest e =
    ap (λ (g : ArrayLengths → ArrayLengths). g rest) e
    ∙ node_length_alone x rest
    ∙ ap (λ (g : ArrayLengths → ArrayLengths). before_lengths (g t.no_lengths) rest) (sym e)

alone_length : (x : ArrayLength) (rest : ArrayLengths)
    → array_length_of x rest ≡ before_lengths (array_length_of x t.no_lengths) rest
alone_length x rest =
    by_length (array_length_of x) _ rest (fold_out-ArrayLength (ArrayLengths → ArrayLengths) t.Declarator t.Enumerator t.Specifier t.Expression t.StructMember t.Parameter node_length node_declarator node_enumerator node_specifier node_expression node_member node_parameter x)

alone_lengths : (xs : List ArrayLength)
    → lengths_from (map array_length_of xs) ≡ all_lengths (map (λ x. array_length_of x t.no_lengths) xs)
alone_lengths [] = refl
alone_lengths (x ∷ xs) = ap (array_length_of x) (alone_lengths xs) ∙ alone_length x _

unprobed_before_lengths : (a b : ArrayLengths)
    → unprobed_lengths (before_lengths a b) ≡ before_lengths (unprobed_lengths a) (unprobed_lengths b)
unprobed_before_lengths t.no_lengths b = refl
unprobed_before_lengths (t.absent_length more) b = ap t.absent_length (unprobed_before_lengths more b)
unprobed_before_lengths (t.given_length a more) b = ap (t.given_length (unprobed a)) (unprobed_before_lengths more b)

each_of_lengths : (xs : List ArrayLength)
    → all_lengths (map (λ x. unprobed_lengths (array_length_of x t.no_lengths)) xs)
    ≡ unprobed_lengths (all_lengths (map (λ x. array_length_of x t.no_lengths) xs))
each_of_lengths [] = refl
each_of_lengths (x ∷ xs) =
    ap (before_lengths (unprobed_lengths (array_length_of x t.no_lengths))) (each_of_lengths xs)
    ∙ sym (unprobed_before_lengths (array_length_of x t.no_lengths) _)

pub lengths_copied : (xs ys : List ArrayLength)
    → map (λ y. array_length_of y t.no_lengths) ys ≡ map (λ x. unprobed_lengths (array_length_of x t.no_lengths)) xs
    → lengths_from (map array_length_of ys) ≡ unprobed_lengths (lengths_from (map array_length_of xs))
lengths_copied xs ys e =
    alone_lengths ys ∙ (ap all_lengths e ∙ (each_of_lengths xs ∙ ap unprobed_lengths (sym (alone_lengths xs))))

-- ---- items of blocks

abbrev before_block : BlockItems → BlockItems → BlockItems
before_block t.no_block_items rest = rest
before_block (t.local d more) rest = t.local d (before_block more rest)
before_block (t.statement s more) rest = t.statement s (before_block more rest)

abbrev all_blocks : List BlockItems → BlockItems
all_blocks [] = t.no_block_items
all_blocks (x ∷ xs) = before_block x (all_blocks xs)

abbrev Part : Type 0
Part = BlockItem-F (BlockItems → BlockItems) Statement

node_item_alone : (x : Part) (rest : BlockItems) → node_block_item x rest ≡ before_block (node_block_item x t.no_block_items) rest
node_item_alone (BlockItem-F.Local declaration) rest = refl
node_item_alone (BlockItem-F.Statement one) rest = refl

by_item : (f : BlockItems → BlockItems) (x : Part) (rest : BlockItems) → f ≡ node_block_item x → f rest ≡ before_block (f t.no_block_items) rest
by_item f x rest e =
    ap (λ (g : BlockItems → BlockItems). g rest) e
    ∙ node_item_alone x rest
    ∙ ap (λ (g : BlockItems → BlockItems). before_block (g t.no_block_items) rest) (sym e)

alone_item : (x : BlockItem) (rest : BlockItems)
    → block_item_of x rest ≡ before_block (block_item_of x t.no_block_items) rest
alone_item x rest =
    by_item (block_item_of x) _ rest (fold_out-BlockItem (BlockItems → BlockItems) Statement node_block_item node_statement x)

alone_items : (xs : List BlockItem)
    → block_from (map block_item_of xs) ≡ all_blocks (map (λ x. block_item_of x t.no_block_items) xs)
alone_items [] = refl
alone_items (x ∷ xs) = ap (block_item_of x) (alone_items xs) ∙ alone_item x _

unprobed_before_block : (a b : BlockItems)
    → unprobed_block (before_block a b) ≡ before_block (unprobed_block a) (unprobed_block b)
unprobed_before_block t.no_block_items b = refl
unprobed_before_block (t.local d more) b = ap (t.local (unprobed_declaration d)) (unprobed_before_block more b)
unprobed_before_block (t.statement s more) b = ap (t.statement (unprobed_statement s)) (unprobed_before_block more b)

each_of_items : (xs : List BlockItem)
    → all_blocks (map (λ x. unprobed_block (block_item_of x t.no_block_items)) xs)
    ≡ unprobed_block (all_blocks (map (λ x. block_item_of x t.no_block_items) xs))
each_of_items [] = refl
each_of_items (x ∷ xs) =
    ap (before_block (unprobed_block (block_item_of x t.no_block_items))) (each_of_items xs)
    ∙ sym (unprobed_before_block (block_item_of x t.no_block_items) _)

pub block_copied : (xs ys : List BlockItem)
    → map (λ y. block_item_of y t.no_block_items) ys ≡ map (λ x. unprobed_block (block_item_of x t.no_block_items)) xs
    → block_from (map block_item_of ys) ≡ unprobed_block (block_from (map block_item_of xs))
block_copied xs ys e =
    alone_items ys ∙ (ap all_blocks e ∙ (each_of_items xs ∙ ap unprobed_block (sym (alone_items xs))))

-- ---- no braces of a probe where there is no item, or more than one

node_several : (x y : Part) (rest : BlockItems) (span : Span) → is_probes (node_block_item x (node_block_item y rest)) span ≡ false
node_several (BlockItem-F.Local d) y rest span = refl
node_several (BlockItem-F.Statement s) (BlockItem-F.Local d) rest span = refl
node_several (BlockItem-F.Statement s) (BlockItem-F.Statement u) rest span = refl

by_items : (f g : BlockItems → BlockItems) (x y : Part) (rest : BlockItems) (span : Span) → f ≡ node_block_item x → g ≡ node_block_item y
    → is_probes (f (g rest)) span ≡ false
by_items f g x y rest span e h =
    ap (λ (k : BlockItems → BlockItems). is_probes (k (g rest)) span) e
    ∙ ap (λ (k : BlockItems → BlockItems). is_probes (node_block_item x (k rest)) span) h
    ∙ node_several x y rest span

pub several : (xs : List BlockItem) (span : Span) → (length xs ≡ 1 → ⊥) → is_probes (block_from (map block_item_of xs)) span ≡ false
several [] span h = refl
several (x ∷ []) span h = absurd (h refl)
several (x ∷ y ∷ rest) span h =
    by_items (block_item_of x) (block_item_of y) _ _ (block_from (map block_item_of rest)) span
    (fold_out-BlockItem (BlockItems → BlockItems) Statement node_block_item node_statement x)
    (fold_out-BlockItem (BlockItems → BlockItems) Statement node_block_item node_statement y)
