-- What is asked of specifiers, declarators and statements: the same of what is moved.
use Rattle.std.proofs.Common.{◌≡◌, ℕ, ◌+◌, Bool, ◌||◌, nat_lt, List, [], ◌∷◌, Option, Some, None, is_some, option_map, refl, ap, ◌∙◌}
use Rattle.mc_tree.specs.declared.declarations.specifier_word.SpecifierWord.{SpecifierWord}
use Rattle.mc_tree.specs.declared.declarations.specifier_word.SpecifierWord.TheVariants as word
use Rattle.mc_tree.specs.Tree.{Expression, Specifier, Specifiers, Declarator, ArrayLengths, Initializer, Initializers, InitDeclarator, Statement, Item, span_of, name_of}
use Rattle.mc_tree.specs.Tree as tree
use Rattle.types_rules.specs.Types.{CType, count, has, is_word, any_is_no_word, has_type, base_of_words, type_of_specifiers}
use Rattle.types_rules.specs.Declarators.{is_first_absent, has_absent, is_later_absent, declared_type}
use Rattle.types_rules.specs.Initializers.{item_count, only_expression}
use Rattle.types_rules.specs.Declarations.{storage_of, count_listed, is_tag_alone, declares, any_declares}
use Rattle.types_rules.specs.Statements.{is_compound}
use Rattle.types_rules.specs.Typing.{bodies_of}
use Rattle.reread_law_texts.specs.alike.Moves.{Move}
use Rattle.reread_law_texts.specs.alike.Trees.{moved, moved_specifier, moved_specifiers, moved_lengths, moved_declarator, moved_initializer, moved_initializers, moved_init_declarators, moved_statement, moved_unit}

pub start_kept : (m : Move) (a : Expression) → (span_of (moved m a)).start ≡ m.start (span_of a).start
start_kept m (tree.Named name) = refl
start_kept m a = refl

-- ---- specifiers

word_kept : (m : Move) (w : SpecifierWord) (s : Specifier) → is_word w (moved_specifier m s) ≡ is_word w s
word_kept m w (tree.Word v span) = refl
word_kept m w s = refl

count_kept : (m : Move) (w : SpecifierWord) (all : Specifiers) → count w (moved_specifiers m all) ≡ count w all
count_kept m w tree.no_specifiers = refl
count_kept m w (tree.specifiers s rest) = rw (word_kept m w s, count_kept m w rest)

pub has_kept : (m : Move) (w : SpecifierWord) (all : Specifiers) → has w (moved_specifiers m all) ≡ has w all
has_kept m w all = ap (nat_lt 0) (count_kept m w all)

base_kept : (m : Move) (all : Specifiers) → base_of_words (moved_specifiers m all) ≡ base_of_words all
base_kept m all = simp (count_kept m)

no_word_kept : (m : Move) (all : Specifiers) → any_is_no_word (moved_specifiers m all) ≡ any_is_no_word all
no_word_kept m tree.no_specifiers = refl
no_word_kept m (tree.specifiers (tree.Word w span) rest) = no_word_kept m rest
no_word_kept m (tree.specifiers s rest) = refl

pub has_type_kept : (m : Move) (all : Specifiers) → has_type (moved_specifiers m all) ≡ has_type all
has_type_kept m all = ap (λ b. is_some b || any_is_no_word (moved_specifiers m all)) (base_kept m all) ∙ ap (λ c. is_some (base_of_words all) || c) (no_word_kept m all)

pub type_of_kept : (m : Move) (all : Specifiers) (other : Option CType) → type_of_specifiers (moved_specifiers m all) other ≡ type_of_specifiers all other
type_of_kept m all other = rw (has_kept m word.Const all, base_kept m all)

-- ---- lengths of arrays

first_absent_kept : (m : Move) (all : ArrayLengths) → is_first_absent (moved_lengths m all) ≡ is_first_absent all
first_absent_kept m (tree.absent_length rest) = refl
first_absent_kept m all = refl

absent_kept : (m : Move) (all : ArrayLengths) → has_absent (moved_lengths m all) ≡ has_absent all
absent_kept m tree.no_lengths = refl
absent_kept m (tree.absent_length rest) = refl
absent_kept m (tree.given_length e rest) = absent_kept m rest

pub later_absent_kept : (m : Move) (all : ArrayLengths) → is_later_absent (moved_lengths m all) ≡ is_later_absent all
later_absent_kept m tree.no_lengths = refl
later_absent_kept m (tree.absent_length rest) = absent_kept m rest
later_absent_kept m (tree.given_length e rest) = absent_kept m rest

pub absences_kept : (m : Move) (all : ArrayLengths) (f : Bool → Bool → Bool) → f (is_later_absent (moved_lengths m all)) (is_first_absent (moved_lengths m all)) ≡ f (is_later_absent all) (is_first_absent all)
absences_kept m all f = ap (λ a. f a (is_first_absent (moved_lengths m all))) (later_absent_kept m all) ∙ ap (f (is_later_absent all)) (first_absent_kept m all)

pub declared_kept : (m : Move) (all : ArrayLengths) (given : Option (List ℕ)) (n : Option ℕ) (base : Option CType) → declared_type (moved_lengths m all) given n base ≡ declared_type all given n base
declared_kept m all given n base = rw (later_absent_kept m all, first_absent_kept m all)

-- ---- initializers and declarators

pub items_kept : (m : Move) (all : Initializers) → item_count (moved_initializers m all) ≡ item_count all
items_kept m tree.no_initializers = refl
items_kept m (tree.initializers i rest) = ap (λ n. n + 1) (items_kept m rest)

pub only_kept : (m : Move) (all : Initializers) → only_expression (moved_initializers m all) ≡ option_map (moved m) (only_expression all)
only_kept m tree.no_initializers = refl
only_kept m (tree.initializers (tree.Single e) tree.no_initializers) = refl
only_kept m (tree.initializers (tree.Single e) (tree.initializers i rest)) = refl
only_kept m (tree.initializers (tree.Braced all span) rest) = refl

pub listed_kept : (m : Move) (i : Option Initializer) → count_listed (option_map (moved_initializer m) i) ≡ count_listed i
listed_kept m None = refl
listed_kept m (Some (tree.Single e)) = refl
listed_kept m (Some (tree.Braced all span)) = rw (items_kept m all)

pub storage_kept : (m : Move) (all : Specifiers) (file : Bool) → storage_of (moved_specifiers m all) file ≡ storage_of all file
storage_kept m all file = rw (count_kept m word.Typedef all, count_kept m word.Static all)

pub alone_kept : (m : Move) (all : Specifiers) (ds : List InitDeclarator) → is_tag_alone (moved_specifiers m all) (moved_init_declarators m ds) ≡ is_tag_alone all ds
alone_kept m tree.no_specifiers ds = refl
alone_kept m (tree.specifiers (tree.StructureTag tag span) tree.no_specifiers) [] = refl
alone_kept m (tree.specifiers (tree.StructureTag tag span) tree.no_specifiers) (d ∷ ds) = refl
alone_kept m (tree.specifiers (tree.StructureTag tag span) (tree.specifiers s rest)) ds = refl
alone_kept m (tree.specifiers s rest) ds = refl

declares_kept : (m : Move) (s : Specifier) → declares (moved_specifier m s) ≡ declares s
declares_kept m (tree.Structure (Some tag) all span) = refl
declares_kept m (tree.Structure None all span) = refl
declares_kept m s = refl

pub any_declares_kept : (m : Move) (all : Specifiers) → any_declares (moved_specifiers m all) ≡ any_declares all
any_declares_kept m tree.no_specifiers = refl
any_declares_kept m (tree.specifiers s rest) = rw (declares_kept m s, any_declares_kept m rest)

pub compound_kept : (m : Move) (s : Statement) → is_compound (moved_statement m s) ≡ is_compound s
compound_kept m (tree.Compound b span) = refl
compound_kept m s = refl

-- ---- units

name_kept : (m : Move) (d : Declarator) → (name_of (moved_declarator m d)).text ≡ (name_of d).text
name_kept m (tree.object stars name all span) = refl
name_kept m (tree.function stars name all span) = refl

pub bodies_kept : (m : Move) (unit : List Item) → bodies_of (moved_unit m unit) ≡ bodies_of unit
bodies_kept m [] = refl
bodies_kept m (tree.Declared d ∷ rest) = bodies_kept m rest
bodies_kept m (tree.Defined all d body span ∷ rest) = rw (name_kept m d, bodies_kept m rest)
