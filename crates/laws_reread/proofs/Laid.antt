-- Where the parts of statements begin: a counted statement before the one in it, a label where its
-- statement begins, and the first initializer of a declaration after two tokens.
use Rattle.std.proofs.Common.{◌≡◌, ◌≤◌, ◌<◌, ℕ, true, ◌||◌, List, [], ◌∷◌, Option, is_some, subst, true≢false, sym}
use Rattle.mc_span.specs.declared.span.Span.{Span}
use Rattle.mc_lex.specs.Tokens.{Tok}
use Rattle.mc_tree.specs.Tree.{Initializer, Initializers, InitDeclarator, Declaration, Statement, BlockItems, span_of, span_of_statement}
use Rattle.mc_tree.specs.Tree as tree
use Rattle.mc_typed.specs.Tree.{Declarator}
use Rattle.mc_typed.specs.Tree as typed
use Rattle.mc_steps.specs.Points.{initializes}
use Rattle.laws_types.specs.SourceUnits.{AreObjectsOf}
use Rattle.laws_types.specs.SourceUnits as of
use Rattle.reread_law_printed.specs.ordered.Nested.{InInitializer, InInitializers, InObjects}
use Rattle.reread_law_printed.specs.placed.Separate.{HasTwoBefore}

-- ---- initializers

-- The first expression of an initializer begins at this byte or later.
abbrev mutual
  pub FirstFrom : ℕ → Initializer → Type 0
  FirstFrom low (tree.Single a) = low ≤ (span_of a).start
  FirstFrom low (tree.Braced all span) = FirstOf low all

  pub FirstOf : ℕ → Initializers → Type 0
  FirstOf low tree.no_initializers = ⊥
  FirstOf low (tree.initializers one rest) = FirstFrom low one

-- after two tokens at this place
pub record IsFar (tokens : List Tok) (span : Span) (value : Initializer) : Type 0 where
  pub middle : ℕ
  pub two : HasTwoBefore tokens span middle
  pub past : span.start ≤ middle
  pub first : FirstFrom middle value

-- So does the first of these initializers.
abbrev pub AreFar : List Tok → Span → List InitDeclarator → Type 0
AreFar tokens span [] = Unit {0}
AreFar tokens span (tree.bare d ∷ rest) = AreFar tokens span rest
AreFar tokens span (tree.initialized d value ∷ rest) = IsFar tokens span value

abbrev pub IsFarIn : List Tok → Declaration → Type 0
IsFarIn tokens (tree.declaration words ds span) = AreFar tokens span ds

-- ---- statements

abbrev mutual
  pub IsLaid : List Tok → Statement → Type 0
  IsLaid tokens (tree.Compound b span) = AreLaid tokens b
  IsLaid tokens (tree.Null span) = span.start < span.end
  IsLaid tokens (tree.ExpressionStatement a span) = span.start < span.end
  IsLaid tokens (tree.If a s span) = (span.start < (span_of_statement s).start) × IsLaid tokens s
  IsLaid tokens (tree.IfElse a s u span) =
      (span.start < (span_of_statement s).start) × IsLaid tokens s × IsLaid tokens u
  IsLaid tokens (tree.Switch a s span) = (span.start < (span_of_statement s).start) × IsLaid tokens s
  IsLaid tokens (tree.While a s span) = (span.start < (span_of_statement s).start) × IsLaid tokens s
  IsLaid tokens (tree.DoWhile s a span) = (span.start < (span_of_statement s).start) × IsLaid tokens s
  IsLaid tokens (tree.For start a b s span) = (span.start < (span_of_statement s).start) × IsLaid tokens s
  IsLaid tokens (tree.Case a label s span) = (span.start ≤ label.start) × IsLaid tokens s
  IsLaid tokens (tree.Default label s span) = (span.start ≤ label.start) × IsLaid tokens s
  IsLaid tokens (tree.Label name s span) = IsLaid tokens s
  IsLaid tokens (tree.Goto name span) = Unit {0}
  IsLaid tokens (tree.Break span) = span.start < span.end
  IsLaid tokens (tree.Continue span) = span.start < span.end
  IsLaid tokens (tree.Return a span) = Unit {0}

  pub AreLaid : List Tok → BlockItems → Type 0
  AreLaid tokens tree.no_block_items = Unit {0}
  AreLaid tokens (tree.local d rest) = IsFarIn tokens d × AreLaid tokens rest
  AreLaid tokens (tree.statement s rest) = IsLaid tokens s × AreLaid tokens rest

-- ---- initializers after the first two tokens of their declaration

mutual
  raised : (from low to : ℕ) (i : Initializer) → InInitializer from i to → FirstFrom low i → InInitializer low i to
  raised from low to (tree.Single a) h l = (l, h.1, h.2)
  raised from low to (tree.Braced all span) h l = all_raised from low to all h l

  all_raised : (from low to : ℕ) (all : Initializers) → InInitializers from all to → FirstOf low all → InInitializers low all to
  all_raised from low to tree.no_initializers h l = absurd l
  all_raised from low to (tree.initializers one rest) h l = (h.0, raised from low h.0 one h.1 l, h.2)

pub record Far (tokens : List Tok) (span : Span) (ds : List InitDeclarator) (to : ℕ) : Type 0 where
  pub middle : ℕ
  pub two : HasTwoBefore tokens span middle
  pub past : span.start ≤ middle
  pub objects : InObjects middle ds to

after_bare : (tokens : List Tok) (span : Span) (d : tree.Declarator) (rest : List InitDeclarator) {to : ℕ} → Far tokens span rest to → Far tokens span (tree.bare d ∷ rest) to
after_bare tokens span d rest f = record { middle = f.middle; two = f.two; past = f.past; objects = f.objects }

first_far : (tokens : List Tok) (span : Span) (d : tree.Declarator) (value : Initializer) (rest : List InitDeclarator) (from to : ℕ) → InObjects from (tree.initialized d value ∷ rest) to → IsFar tokens span value
    → Far tokens span (tree.initialized d value ∷ rest) to
first_far tokens span d value rest from to k f = record { middle = f.middle; two = f.two; past = f.past; objects = (k.0, raised from f.middle k.0 value k.1 f.first, k.2) }

-- where one of the objects is initialized
pub objects_far : (tokens : List Tok) (span : Span) (from to : ℕ) {ds : List InitDeclarator} {all : List Declarator} → AreObjectsOf ds all → initializes all ≡ true → InObjects from ds to → AreFar tokens span ds
    → Far tokens span ds to
objects_far tokens span from to of.no_objects e k f = absurd (true≢false (sym e))
objects_far tokens span from to {ds = tree.bare y ∷ rest} (of.object_bare {d = x} {all = all} none h) e k f =
    after_bare tokens span y rest (objects_far tokens span from to h (subst (λ (v : Option typed.Initializer). (is_some v || initializes all) ≡ true) none e) k f)
objects_far tokens span from to {ds = tree.initialized y value ∷ rest} (of.object_initialized h s l) e k f = first_far tokens span y value rest from to k f
objects_far tokens span from to {ds = tree.bare y ∷ rest} (of.function_bare h) e k f = after_bare tokens span y rest (objects_far tokens span from to h e k f)
objects_far tokens span from to {ds = tree.initialized y value ∷ rest} (of.function_initialized h) e k f = first_far tokens span y value rest from to k f
