-- Which words may stand together among specifiers, by how often each does: their order is free
-- (C17 6.7.2).
use Rattle.std.specs.Prelude.{ℕ, ◌+◌, Bool, ◌&&◌, ◌||◌, nat_eq, nat_le}
use Rattle.mc_tree.specs.declared.declarations.specifier_word.SpecifierWord.{SpecifierWord}
use Rattle.mc_tree.specs.declared.declarations.specifier_word.SpecifierWord.TheVariants as word
use Rattle.mc_tree.specs.Tree.{Specifier, Specifiers}
use Rattle.mc_tree.specs.Tree as tree

-- how often each word stands, and how many typedef names, structures and enumerations there are
pub record Counts : Type 0 where
  pub typedef : ℕ
  pub static : ℕ
  pub extern : ℕ
  pub void : ℕ
  pub bool : ℕ
  pub char : ℕ
  pub short : ℕ
  pub int : ℕ
  pub long : ℕ
  -- `signed` and `unsigned`
  pub signs : ℕ
  pub others : ℕ

abbrev pub nothing : Counts
nothing = record {
  typedef = 0;
  static = 0;
  extern = 0;
  void = 0;
  bool = 0;
  char = 0;
  short = 0;
  int = 0;
  long = 0;
  signs = 0;
  others = 0;
}

abbrev pub with_word : SpecifierWord → Counts → Counts
with_word word.Typedef c = record c { typedef = c.typedef + 1 }
with_word word.Static c = record c { static = c.static + 1 }
with_word word.Extern c = record c { extern = c.extern + 1 }
with_word word.Const c = c
with_word word.Void c = record c { void = c.void + 1 }
with_word word.Bool c = record c { bool = c.bool + 1 }
with_word word.Char c = record c { char = c.char + 1 }
with_word word.Short c = record c { short = c.short + 1 }
with_word word.Int c = record c { int = c.int + 1 }
with_word word.Long c = record c { long = c.long + 1 }
with_word word.Signed c = record c { signs = c.signs + 1 }
with_word word.Unsigned c = record c { signs = c.signs + 1 }

abbrev pub with_specifier : Specifier → Counts → Counts
with_specifier (tree.Word w span) c = with_word w c
with_specifier _ c = record c { others = c.others + 1 }

abbrev pub counts : Specifiers → Counts
counts tree.no_specifiers = nothing
counts (tree.specifiers s rest) = with_specifier s (counts rest)

-- at most one storage word
abbrev pub storages : Specifiers → ℕ
storages s = let c = counts s in c.typedef + c.static + c.extern

-- the sets of words of C17 6.7.2 without `void`: `_Bool`; `char` with at most one of `signed` and
-- `unsigned`; and else at most one `int` and one of these two, with one `short` or up to two
-- `long`, and at least one of them
abbrev pub is_integer_set : Counts → Bool
is_integer_set c =
    (nat_eq c.bool 1 && nat_eq (c.char + c.short + c.int + c.long + c.signs) 0)
    || (nat_eq c.bool 0 && nat_eq c.char 1 && nat_eq (c.short + c.int + c.long) 0
    && nat_le c.signs 1)
    || (nat_eq (c.bool + c.char) 0 && nat_le c.int 1 && nat_le c.signs 1
    && nat_le 1 (c.short + c.int + c.long + c.signs)
    && ((nat_le c.short 1 && nat_eq c.long 0) || (nat_eq c.short 0 && nat_le c.long 2)))

-- exactly one type
abbrev pub has_one_type : Counts → Bool
has_one_type c =
    (nat_eq (c.others + c.void) 1
    && nat_eq (c.bool + c.char + c.short + c.int + c.long + c.signs) 0)
    || (nat_eq (c.others + c.void) 0 && is_integer_set c)

abbrev pub is_typedef : Specifiers → Bool
is_typedef s = nat_eq (counts s).typedef 1

-- the words of an item that is not a function definition
abbrev pub for_item : Specifiers → Bool
for_item s = has_one_type (counts s) && nat_le (storages s) 1

-- of a function definition
abbrev pub for_function : Specifiers → Bool
for_function s = has_one_type (counts s) && nat_le (storages s) 1 && nat_eq (counts s).typedef 0

-- of a local
abbrev pub for_local : Specifiers → Bool
for_local s = has_one_type (counts s) && nat_le (storages s) 1
    && nat_eq ((counts s).typedef + (counts s).extern) 0

-- of a parameter, a member, a type name and the first part of a `for`: no storage word
abbrev pub for_type : Specifiers → Bool
for_type s = has_one_type (counts s) && nat_eq (storages s) 0
