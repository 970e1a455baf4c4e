-- The words that `adapt` knows.
use Rattle.std.specs.Prelude.{ℕ, ◌-◌, Bool, ◌&&◌, ◌==◌, nat_le, if◌then◌else◌, List, [], ◌∷◌, length, take, drop, codes}
use Rattle.std.specs.Str.{bytes_eq}
use Rattle.mc_lex.specs.Words.{one_of}

-- the words that begin an attribute (GCC manual, Attribute Syntax)
unfoldable pub attribute_words : List (List ℕ)
attribute_words =
    codes "__attribute__" ∷ codes "__attribute" ∷ []

-- the word that begins an assertion (C17 6.7.10)
unfoldable pub assertion_words : List (List ℕ)
assertion_words =
    codes "_Static_assert" ∷ []

-- `inline` and its spellings (C17 6.7.4; GCC manual, Alternate Keywords)
unfoldable pub inline_words : List (List ℕ)
inline_words =
    codes "inline" ∷ codes "__inline" ∷ codes "__inline__" ∷ []

-- the storage of an object of a block or a parameter (C17 6.7.1)
unfoldable pub storage_words : List (List ℕ)
storage_words =
    codes "register" ∷ codes "auto" ∷ []

-- words that say nothing of a value: `restrict` (C17 6.7.3.1), `_Noreturn` (C17 6.7.4p8), and
-- `__extension__`, which silences a warning (GCC manual, Alternate Keywords)
unfoldable pub silent_words : List (List ℕ)
silent_words =
    codes "restrict" ∷ codes "__restrict" ∷ codes "__restrict__" ∷ codes "_Noreturn" ∷
    codes "__extension__" ∷ []

-- words of C and of compilers that mean something which is outside the language
unfoldable pub outside_words : List (List ℕ)
outside_words =
    codes "double" ∷ codes "float" ∷ codes "sizeof" ∷ codes "union" ∷ codes "goto" ∷
    codes "volatile" ∷ codes "__volatile" ∷ codes "__volatile__" ∷ codes "asm" ∷
    codes "__asm" ∷ codes "__asm__" ∷ codes "typeof" ∷ codes "__typeof" ∷ codes "__typeof__" ∷
    codes "_Alignas" ∷ codes "_Alignof" ∷ codes "__alignof" ∷ codes "__alignof__" ∷
    codes "_Atomic" ∷ codes "_Complex" ∷ codes "__complex" ∷ codes "__complex__" ∷
    codes "_Generic" ∷ codes "_Imaginary" ∷ codes "_Thread_local" ∷ codes "__thread" ∷
    codes "__auto_type" ∷ codes "__int128" ∷ codes "_Float16" ∷ codes "_Float32" ∷
    codes "_Float64" ∷ codes "_Float128" ∷ codes "__float128" ∷ codes "__label__" ∷
    codes "__real__" ∷ codes "__imag__" ∷ codes "__builtin_va_list" ∷
    codes "__builtin_va_arg" ∷ codes "__builtin_offsetof" ∷ codes "MCDC_H" ∷ codes "MCDC_L" ∷
    codes "MCDC_W" ∷ codes "MCDC_D" ∷ codes "MCDC_C" ∷ codes "mcdc_r" ∷ codes "mcdc_v" ∷ []

-- attributes that change no value (GCC manual, Common Function and Variable Attributes)
unfoldable pub harmless_attributes : List (List ℕ)
harmless_attributes =
    codes "access" ∷ codes "alloc_align" ∷ codes "alloc_size" ∷ codes "always_inline" ∷
    codes "artificial" ∷ codes "assume_aligned" ∷ codes "cold" ∷ codes "const" ∷
    codes "deprecated" ∷ codes "fallthrough" ∷ codes "flatten" ∷ codes "format" ∷
    codes "format_arg" ∷ codes "hot" ∷ codes "leaf" ∷ codes "malloc" ∷ codes "noclone" ∷
    codes "noinline" ∷ codes "nonnull" ∷ codes "nonstring" ∷ codes "noreturn" ∷
    codes "nothrow" ∷ codes "pure" ∷ codes "returns_nonnull" ∷ codes "sentinel" ∷
    codes "unused" ∷ codes "used" ∷ codes "visibility" ∷ codes "warn_unused_result" ∷ []

-- a name without `__` before it and after it (GCC manual, Attribute Syntax)
abbrev pub after_underlines : List ℕ → List ℕ
after_underlines (a ∷ b ∷ bs) = if a == 95 && b == 95 then bs else (a ∷ b ∷ bs)
after_underlines bs = bs

abbrev pub before_underlines : List ℕ → List ℕ
before_underlines bs =
    if nat_le 2 (length bs) && bytes_eq (drop (length bs - 2) bs) (codes "__")
    then take (length bs - 2) bs else bs

abbrev pub bare : List ℕ → List ℕ
bare bs = before_underlines (after_underlines bs)

-- an attribute of this name changes no value
abbrev pub is_harmless : List ℕ → Bool
is_harmless text = one_of harmless_attributes (bare text)
