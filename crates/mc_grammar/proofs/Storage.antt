-- Storage words among specifiers, by how often they are counted.
use Rattle.std.proofs.Common.{◌≡◌, ◌⊎◌, inl, inr, ℕ, List, zero, suc, ◌+◌, ◌≤◌, Bool, true, false, not, ◌&&◌, ◌||◌, nat_eq, nat_le, if◌then◌else◌, refl, arith}
use Rattle.std.proofs.lemmas.Bool.{eqb-true, leb-true}
use Rattle.std.specs.List.{list_all}
use Rattle.mc_lex.specs.declared.token.Dialect.{Dialect}
use Rattle.mc_span.specs.declared.span.Span.{Span}
use Rattle.mc_tree.specs.declared.declarations.specifier_word.SpecifierWord.{SpecifierWord}
use Rattle.mc_tree.specs.declared.declarations.specifier_word.SpecifierWord.TheVariants as word
use Rattle.mc_tree.specs.Tree.{TypeName, Specifiers, StructMember, Parameter, Declaration, ForStart, BlockItems, Item}
use Rattle.mc_tree.specs.Tree as t
use Rattle.mc_grammar.specs.Counts.{Counts, with_word, counts, storages, is_integer_set, has_one_type, is_typedef, for_item, for_function, for_local, for_type}
use Rattle.mc_grammar.specs.Words.{Lexeme}
use Rattle.mc_grammar.specs.Expressions.{ReadsTypeName, ReadsMember, ReadsParameter}
use Rattle.mc_grammar.specs.Expressions as r
use Rattle.mc_grammar.specs.Statements.{ReadsForStart, ReadsBlockItems}
use Rattle.mc_grammar.specs.Statements as s
use Rattle.mc_grammar.specs.Items.{ReadsItem, is_item_of}
use Rattle.mc_grammar.specs.Items as i
use Rattle.mc_grammar.specs.WordSets.{some_word, how_many, is_typedef_word, is_extern_word, is_storage_word, type_lists, specifiers_of, IsOneType, words_of_type_name, words_of_member, words_of_parameter, words_of_declaration, words_of_start, words_of_first, words_of_item, words_of_function}

none_of : (b rest : Bool) (n : ℕ) → n + (if b then 1 else 0) ≡ 0 → (n ≡ 0 → rest ≡ false) → (b || rest) ≡ false
none_of true rest n e h = absurd (omega (arith, e))
none_of false rest n e h = h (omega (arith, e))

pub no_word : (test : SpecifierWord → Bool) (all : Specifiers) → how_many test all ≡ 0 → some_word test all ≡ false
no_word test t.no_specifiers e = refl
no_word test (t.specifiers (t.Word w span) rest) e = none_of (test w) (some_word test rest) (how_many test rest) e (no_word test rest)
no_word test (t.specifiers (t.TypedefName name) rest) e = no_word test rest e
no_word test (t.specifiers (t.StructureTag name span) rest) e = no_word test rest e
no_word test (t.specifiers (t.Structure name all span) rest) e = no_word test rest e
no_word test (t.specifiers (t.EnumerationTag name span) rest) e = no_word test rest e
no_word test (t.specifiers (t.Enumeration name all span) rest) e = no_word test rest e

some_of : (b rest : Bool) (n : ℕ) → 1 ≤ n + (if b then 1 else 0) → (1 ≤ n → rest ≡ true) → (b || rest) ≡ true
some_of true rest n e h = refl
some_of false rest n e h = h (omega (arith, e))

pub a_word : (test : SpecifierWord → Bool) (all : Specifiers) → 1 ≤ how_many test all → some_word test all ≡ true
a_word test t.no_specifiers e = absurd (omega (arith, e))
a_word test (t.specifiers (t.Word w span) rest) e = some_of (test w) (some_word test rest) (how_many test rest) e (a_word test rest)
a_word test (t.specifiers (t.TypedefName name) rest) e = a_word test rest e
a_word test (t.specifiers (t.StructureTag name span) rest) e = a_word test rest e
a_word test (t.specifiers (t.Structure name all span) rest) e = a_word test rest e
a_word test (t.specifiers (t.EnumerationTag name span) rest) e = a_word test rest e
a_word test (t.specifiers (t.Enumeration name all span) rest) e = a_word test rest e

one_typedef : (w : SpecifierWord) (c : Counts) → (with_word w c).typedef ≡ c.typedef + (if is_typedef_word w then 1 else 0)
one_typedef word.Typedef c = refl
one_typedef word.Static c = omega arith
one_typedef word.Extern c = omega arith
one_typedef word.Const c = omega arith
one_typedef word.Void c = omega arith
one_typedef word.Bool c = omega arith
one_typedef word.Char c = omega arith
one_typedef word.Short c = omega arith
one_typedef word.Int c = omega arith
one_typedef word.Long c = omega arith
one_typedef word.Signed c = omega arith
one_typedef word.Unsigned c = omega arith

pub typedefs : (all : Specifiers) → (counts all).typedef ≡ how_many is_typedef_word all
typedefs t.no_specifiers = refl
typedefs (t.specifiers (t.Word w span) rest) = omega (arith, one_typedef w (counts rest), typedefs rest)
typedefs (t.specifiers (t.TypedefName name) rest) = typedefs rest
typedefs (t.specifiers (t.StructureTag name span) rest) = typedefs rest
typedefs (t.specifiers (t.Structure name all span) rest) = typedefs rest
typedefs (t.specifiers (t.EnumerationTag name span) rest) = typedefs rest
typedefs (t.specifiers (t.Enumeration name all span) rest) = typedefs rest

pub both : (a b : Bool) → (a && b) ≡ true → (a ≡ true) × (b ≡ true)
both true true e = (refl, refl)
both true false e = cc
both false b e = cc

not_true : (b : Bool) → not b ≡ true → b ≡ false
not_true true e = cc
not_true false e = refl

not_one : (n : ℕ) → nat_eq n 1 ≡ false → n ≤ 1 → n ≡ 0
not_one zero e f = refl
not_one (suc zero) e f = cc
not_one (suc (suc n)) e f = absurd (omega (arith, f))

none_left : (all : Specifiers) (n : ℕ) → storages all ≤ n → (counts all).typedef ≤ n
none_left all n e = omega (arith, e)

storage_word : (w : SpecifierWord) (c : Counts) → (with_word w c).typedef + (with_word w c).static + (with_word w c).extern ≡ c.typedef + c.static + c.extern + (if is_storage_word w then 1 else 0)
storage_word word.Typedef c = omega arith
storage_word word.Static c = omega arith
storage_word word.Extern c = omega arith
storage_word word.Const c = omega arith
storage_word word.Void c = omega arith
storage_word word.Bool c = omega arith
storage_word word.Char c = omega arith
storage_word word.Short c = omega arith
storage_word word.Int c = omega arith
storage_word word.Long c = omega arith
storage_word word.Signed c = omega arith
storage_word word.Unsigned c = omega arith

pub storages_counted : (all : Specifiers) → storages all ≡ how_many is_storage_word all
storages_counted t.no_specifiers = refl
storages_counted (t.specifiers (t.Word w span) rest) = omega (arith, storage_word w (counts rest), storages_counted rest)
storages_counted (t.specifiers (t.TypedefName name) rest) = storages_counted rest
storages_counted (t.specifiers (t.StructureTag name span) rest) = storages_counted rest
storages_counted (t.specifiers (t.Structure name all span) rest) = storages_counted rest
storages_counted (t.specifiers (t.EnumerationTag name span) rest) = storages_counted rest
storages_counted (t.specifiers (t.Enumeration name all span) rest) = storages_counted rest

one_extern : (w : SpecifierWord) (c : Counts) → (with_word w c).extern ≡ c.extern + (if is_extern_word w then 1 else 0)
one_extern word.Typedef c = omega arith
one_extern word.Static c = omega arith
one_extern word.Extern c = refl
one_extern word.Const c = omega arith
one_extern word.Void c = omega arith
one_extern word.Bool c = omega arith
one_extern word.Char c = omega arith
one_extern word.Short c = omega arith
one_extern word.Int c = omega arith
one_extern word.Long c = omega arith
one_extern word.Signed c = omega arith
one_extern word.Unsigned c = omega arith

externs : (all : Specifiers) → (counts all).extern ≡ how_many is_extern_word all
externs t.no_specifiers = refl
externs (t.specifiers (t.Word w span) rest) = omega (arith, one_extern w (counts rest), externs rest)
externs (t.specifiers (t.TypedefName name) rest) = externs rest
externs (t.specifiers (t.StructureTag name span) rest) = externs rest
externs (t.specifiers (t.Structure name all span) rest) = externs rest
externs (t.specifiers (t.EnumerationTag name span) rest) = externs rest
externs (t.specifiers (t.Enumeration name all span) rest) = externs rest

-- an item is a typedef exactly where it has that word
pub item_typedef : (typedef : Bool) (all : Specifiers) → is_item_of typedef all ≡ true → some_word is_typedef_word all ≡ typedef
item_typedef true all e =
    let h = both (for_item all) (is_typedef all) e in
    let n : (counts all).typedef ≡ 1 = eqb-true (counts all).typedef 1 h.1 in
    a_word is_typedef_word all (omega (arith, n, typedefs all))
item_typedef false all e =
    let h = both (for_item all) (not (is_typedef all)) e in
    let g = both (has_one_type (counts all)) (nat_le (storages all) 1) h.0 in
    let m : (counts all).typedef ≤ 1 = none_left all 1 (leb-true (storages all) 1 g.1) in
    let n : (counts all).typedef ≡ 0 = not_one (counts all).typedef (not_true (is_typedef all) h.1) m in
    no_word is_typedef_word all (omega (arith, n, typedefs all))

-- a local has no `typedef`, and what has no storage word has none
pub local_typedef : (all : Specifiers) → for_local all ≡ true → some_word is_typedef_word all ≡ false
local_typedef all e =
    let h = both (has_one_type (counts all) && nat_le (storages all) 1) (nat_eq ((counts all).typedef + (counts all).extern) 0) e in
    let n : (counts all).typedef + (counts all).extern ≡ 0 = eqb-true ((counts all).typedef + (counts all).extern) 0 h.1 in
    no_word is_typedef_word all (omega (arith, n, typedefs all))

pub type_typedef : (all : Specifiers) → for_type all ≡ true → some_word is_typedef_word all ≡ false
type_typedef all e =
    let h = both (has_one_type (counts all)) (nat_eq (storages all) 0) e in
    let n : storages all ≡ 0 = eqb-true (storages all) 0 h.1 in
    no_word is_typedef_word all (omega (arith, n, none_left all 0 (omega (arith, n)), typedefs all))

-- what the four tests say of storage words
type_storage : (all : Specifiers) → for_type all ≡ true → some_word is_storage_word all ≡ false
type_storage all e =
    let h = both (has_one_type (counts all)) (nat_eq (storages all) 0) e in
    let n : storages all ≡ 0 = eqb-true (storages all) 0 h.1 in
    no_word is_storage_word all (omega (arith, n, storages_counted all))

local_extern : (all : Specifiers) → for_local all ≡ true → some_word is_extern_word all ≡ false
local_extern all e =
    let h = both (has_one_type (counts all) && nat_le (storages all) 1) (nat_eq ((counts all).typedef + (counts all).extern) 0) e in
    let n : (counts all).typedef + (counts all).extern ≡ 0 = eqb-true ((counts all).typedef + (counts all).extern) 0 h.1 in
    no_word is_extern_word all (omega (arith, n, externs all))

one_storage : (all : Specifiers) → for_item all ≡ true → how_many is_storage_word all ≤ 1
one_storage all e =
    let h = both (has_one_type (counts all)) (nat_le (storages all) 1) e in
    let n : storages all ≤ 1 = leb-true (storages all) 1 h.1 in
    omega (arith, n, storages_counted all)

function_item : (all : Specifiers) → for_function all ≡ true → (for_item all ≡ true) × (some_word is_typedef_word all ≡ false)
function_item all e =
    let h = both (has_one_type (counts all) && nat_le (storages all) 1) (nat_eq (counts all).typedef 0) e in
    let n : (counts all).typedef ≡ 0 = eqb-true (counts all).typedef 0 h.1 in
    (h.0, no_word is_typedef_word all (omega (arith, n, typedefs all)))

local_item : (all : Specifiers) → for_local all ≡ true → for_item all ≡ true
local_item all e = (both (has_one_type (counts all) && nat_le (storages all) 1) (nat_eq ((counts all).typedef + (counts all).extern) 0) e).0

item_of : (typedef : Bool) (all : Specifiers) → is_item_of typedef all ≡ true → for_item all ≡ true
item_of true all e = (both (for_item all) (is_typedef all) e).0
item_of false all e = (both (for_item all) (not (is_typedef all)) e).0

pub type_name_storage : {d : Dialect} {ts rest : List Lexeme} {one : TypeName} → ReadsTypeName d ts one rest → some_word is_storage_word (words_of_type_name one) ≡ false
type_name_storage (r.type_name {s = all} p e q) = type_storage all e

pub member_storage : {d : Dialect} {ts rest : List Lexeme} {one : StructMember} → ReadsMember d ts one rest → some_word is_storage_word (words_of_member one) ≡ false
member_storage (r.struct_member {s = all} p e q f) = type_storage all e

pub parameter_storage : {d : Dialect} {ts rest : List Lexeme} {one : Parameter} → ReadsParameter d ts one rest → some_word is_storage_word (words_of_parameter one) ≡ false
parameter_storage (r.parameter {s = all} p e q f v) = type_storage all e
parameter_storage (r.unnamed_parameter {s = all} p e q f v) = type_storage all e

pub start_storage : {d : Dialect} {ts rest : List Lexeme} {one : ForStart} → ReadsForStart d ts one rest → some_word is_storage_word (words_of_start one) ≡ false
start_storage (s.starts_local (s.declaration {s = all} e p f q g)) = type_storage all f
start_storage (s.starts_expression e p f) = refl

pub local_no_typedef : {d : Dialect} {ts rest : List Lexeme} {one : BlockItems} → ReadsBlockItems d ts one rest → some_word is_typedef_word (words_of_first one) ≡ false
local_no_typedef (s.block_end e) = refl
local_no_typedef (s.local e (s.declaration {s = all} k p f q g) v) = local_typedef all f
local_no_typedef (s.statement e f p q) = refl

pub local_no_extern : {d : Dialect} {ts rest : List Lexeme} {one : BlockItems} → ReadsBlockItems d ts one rest → some_word is_extern_word (words_of_first one) ≡ false
local_no_extern (s.block_end e) = refl
local_no_extern (s.local e (s.declaration {s = all} k p f q g) v) = local_extern all f
local_no_extern (s.statement e f p q) = refl

pub local_storage : {d : Dialect} {ts rest : List Lexeme} {one : BlockItems} → ReadsBlockItems d ts one rest → how_many is_storage_word (words_of_first one) ≤ 1
local_storage (s.block_end e) = omega arith
local_storage (s.local e (s.declaration {s = all} k p f q g) v) = one_storage all (local_item all f)
local_storage (s.statement e f p q) = omega arith

pub function_no_typedef : {d : Dialect} {ts rest : List Lexeme} {one : Item} → ReadsItem d ts one rest → some_word is_typedef_word (words_of_function one) ≡ false
function_no_typedef (i.declared p) = refl
function_no_typedef (i.defined {s = all} p e q f v w) = (function_item all e).1

pub item_storage : {d : Dialect} {ts rest : List Lexeme} {one : Item} → ReadsItem d ts one rest → how_many is_storage_word (words_of_item one) ≤ 1
item_storage (i.declared {typedef = typedef} (s.declaration {s = all} k p f q g)) = one_storage all (item_of typedef all f)
item_storage (i.defined {s = all} p e q f v w) = one_storage all (function_item all e).0

-- ---- the words of a type

either : (a b : Bool) → (a || b) ≡ true → (a ≡ true) ⊎ (b ≡ true)
either true b e = inl refl
either false b e = inr e

-- an integer type by `short`, `int`, `long` or a sign alone
plain_integer : (c : Counts) → (nat_le c.short 1 && nat_eq c.long 0 || nat_eq c.short 0 && nat_le c.long 2) ≡ true → (c.short ≤ 1) × (c.long ≤ 2) × ((c.short ≡ 0) ⊎ (c.long ≡ 0))
plain_integer c e =
    elim (either (nat_le c.short 1 && nat_eq c.long 0) (nat_eq c.short 0 && nat_le c.long 2) e) [
      | inl h ↦ let g = both (nat_le c.short 1) (nat_eq c.long 0) h in
          let a : c.short ≤ 1 = leb-true c.short 1 g.0 in
          let b : c.long ≡ 0 = eqb-true c.long 0 g.1 in
          (a, omega (arith, b), inr b)
      | inr h ↦ let g = both (nat_eq c.short 0) (nat_le c.long 2) h in
          let a : c.short ≡ 0 = eqb-true c.short 0 g.0 in
          let b : c.long ≤ 2 = leb-true c.long 2 g.1 in
          (omega (arith, a), b, inl a)
    ]

bool_or_char : (c : Counts) → c.others + c.void ≡ 0
    → (nat_eq c.bool 1 && nat_eq (c.char + c.short + c.int + c.long + c.signs) 0 || nat_eq c.bool 0 && nat_eq c.char 1 && nat_eq (c.short + c.int + c.long) 0 && nat_le c.signs 1) ≡ true → IsOneType c
bool_or_char c n e =
    elim (either (nat_eq c.bool 1 && nat_eq (c.char + c.short + c.int + c.long + c.signs) 0) (nat_eq c.bool 0 && nat_eq c.char 1 && nat_eq (c.short + c.int + c.long) 0 && nat_le c.signs 1) e) [
      | inl h ↦ let g = both (nat_eq c.bool 1) (nat_eq (c.char + c.short + c.int + c.long + c.signs) 0) h in
          let a : c.bool ≡ 1 = eqb-true c.bool 1 g.0 in
          inl (omega (arith, n, a), eqb-true (c.char + c.short + c.int + c.long + c.signs) 0 g.1)
      | inr h ↦ let g = both (nat_eq c.bool 0 && nat_eq c.char 1 && nat_eq (c.short + c.int + c.long) 0) (nat_le c.signs 1) h in
          let k = both (nat_eq c.bool 0 && nat_eq c.char 1) (nat_eq (c.short + c.int + c.long) 0) g.0 in
          let l = both (nat_eq c.bool 0) (nat_eq c.char 1) k.0 in
          let a : c.bool ≡ 0 = eqb-true c.bool 0 l.0 in
          let b : c.char ≡ 1 = eqb-true c.char 1 l.1 in
          let d : c.short + c.int + c.long ≡ 0 = eqb-true (c.short + c.int + c.long) 0 k.1 in
          let f : c.signs ≤ 1 = leb-true c.signs 1 g.1 in
          inr (omega (arith, n, a), omega (arith, b), f, omega (arith, d), inl (b, d))
    ]

integer_type : (c : Counts) → c.others + c.void ≡ 0 → is_integer_set c ≡ true → IsOneType c
integer_type c n e =
    elim (either (nat_eq c.bool 1 && nat_eq (c.char + c.short + c.int + c.long + c.signs) 0 || nat_eq c.bool 0 && nat_eq c.char 1 && nat_eq (c.short + c.int + c.long) 0 && nat_le c.signs 1)
    (nat_eq (c.bool + c.char) 0 && nat_le c.int 1 && nat_le c.signs 1 && nat_le 1 (c.short + c.int + c.long + c.signs) && (nat_le c.short 1 && nat_eq c.long 0 || nat_eq c.short 0 && nat_le c.long 2)) e) [
      | inl h ↦ bool_or_char c n h
      | inr h ↦ let g = both (nat_eq (c.bool + c.char) 0 && nat_le c.int 1 && nat_le c.signs 1 && nat_le 1 (c.short + c.int + c.long + c.signs)) (nat_le c.short 1 && nat_eq c.long 0 || nat_eq c.short 0 && nat_le c.long 2) h in
          let k = both (nat_eq (c.bool + c.char) 0 && nat_le c.int 1 && nat_le c.signs 1) (nat_le 1 (c.short + c.int + c.long + c.signs)) g.0 in
          let l = both (nat_eq (c.bool + c.char) 0 && nat_le c.int 1) (nat_le c.signs 1) k.0 in
          let m = both (nat_eq (c.bool + c.char) 0) (nat_le c.int 1) l.0 in
          let v = plain_integer c g.1 in
          let a : c.bool + c.char ≡ 0 = eqb-true (c.bool + c.char) 0 m.0 in
          let b : c.int ≤ 1 = leb-true c.int 1 m.1 in
          let d : c.signs ≤ 1 = leb-true c.signs 1 l.1 in
          let f : 1 ≤ c.short + c.int + c.long + c.signs = leb-true 1 (c.short + c.int + c.long + c.signs) k.1 in
          inr (omega (arith, n, a), omega (arith, f), d, v.1, inr (omega (arith, a), b, v.0, v.2))
    ]

pub one_type : (c : Counts) → has_one_type c ≡ true → IsOneType c
one_type c e =
    elim (either (nat_eq (c.others + c.void) 1 && nat_eq (c.bool + c.char + c.short + c.int + c.long + c.signs) 0) (nat_eq (c.others + c.void) 0 && is_integer_set c) e) [
      | inl h ↦ let g = both (nat_eq (c.others + c.void) 1) (nat_eq (c.bool + c.char + c.short + c.int + c.long + c.signs) 0) h in
          let a : c.others + c.void ≡ 1 = eqb-true (c.others + c.void) 1 g.0 in
          let b : c.bool + c.char + c.short + c.int + c.long + c.signs ≡ 0 = eqb-true (c.bool + c.char + c.short + c.int + c.long + c.signs) 0 g.1 in
          inl (omega (arith, a, b), omega (arith, b))
      | inr h ↦ let g = both (nat_eq (c.others + c.void) 0) (is_integer_set c) h in
          integer_type c (eqb-true (c.others + c.void) 0 g.0) g.1
    ]

of_type : (all : Specifiers) → for_type all ≡ true → IsOneType (counts all)
of_type all e = one_type (counts all) (both (has_one_type (counts all)) (nat_eq (storages all) 0) e).0

of_item : (all : Specifiers) → for_item all ≡ true → IsOneType (counts all)
of_item all e = one_type (counts all) (both (has_one_type (counts all)) (nat_le (storages all) 1) e).0

pub type_name_type : {d : Dialect} {ts rest : List Lexeme} {one : TypeName} → ReadsTypeName d ts one rest → IsOneType (counts (words_of_type_name one))
type_name_type (r.type_name {s = all} p e q) = of_type all e

pub member_type : {d : Dialect} {ts rest : List Lexeme} {one : StructMember} → ReadsMember d ts one rest → IsOneType (counts (words_of_member one))
member_type (r.struct_member {s = all} p e q f) = of_type all e

pub parameter_type : {d : Dialect} {ts rest : List Lexeme} {one : Parameter} → ReadsParameter d ts one rest → IsOneType (counts (words_of_parameter one))
parameter_type (r.parameter {s = all} p e q f v) = of_type all e
parameter_type (r.unnamed_parameter {s = all} p e q f v) = of_type all e

pub start_type : {d : Dialect} {ts rest : List Lexeme} {one : Declaration} → ReadsForStart d ts (t.StartsLocal one) rest → IsOneType (counts (words_of_declaration one))
start_type (s.starts_local (s.declaration {s = all} e p f q g)) = of_type all f

pub local_type : {d : Dialect} {ts rest : List Lexeme} {one : Declaration} {others : BlockItems} → ReadsBlockItems d ts (t.local one others) rest → IsOneType (counts (words_of_declaration one))
local_type (s.local e (s.declaration {s = all} k p f q g) v) = of_item all (local_item all f)

pub item_type : {d : Dialect} {ts rest : List Lexeme} {one : Item} → ReadsItem d ts one rest → IsOneType (counts (words_of_item one))
item_type (i.declared {typedef = typedef} (s.declaration {s = all} k p f q g)) = of_item all (item_of typedef all f)
item_type (i.defined {s = all} p e q f v w) = of_item all (function_item all e).0

-- each list of C17's is one type
pub lists_accepted : (span : Span) → list_all (λ ws. has_one_type (counts (specifiers_of ws span))) type_lists ≡ true
lists_accepted span = refl
