-- What `adapt` has to know of a piece by itself.
use Rattle.std.specs.Prelude.{ℕ, ◌&&◌, ◌||◌, ◌==◌, if◌then◌else◌, List, [], ◌∷◌, codes}
use Rattle.std.specs.Str.{bytes_eq}
use Rattle.mc_lex.specs.Words.{one_of, keywords}
use Rattle.mc_lex.specs.Numbers.{looks_floating}
use Rattle.adapt_tokens.specs.declared.kind.Kind.{Kind}
use Rattle.adapt_tokens.specs.declared.kind.Kind.TheVariants as kind
use Rattle.adapt_tokens.specs.Kinds.{is_other_pair}
use Rattle.mc_adapt.specs.declared.sort.Sort.{Sort}
use Rattle.mc_adapt.specs.declared.sort.Sort.TheVariants as sort
use Rattle.mc_adapt.specs.Words.{attribute_words, assertion_words, inline_words, storage_words, silent_words, outside_words}

-- a word; one that is in no list is a name
abbrev pub kept_sort : List ℕ → Sort
kept_sort text =
    if bytes_eq text (codes "static") then sort.Static
    else (if one_of keywords text then sort.Keyword else sort.Name)

abbrev pub word_sort : List ℕ → Sort
word_sort text =
    if one_of outside_words text then sort.OutsideWord
    else (if one_of attribute_words text then sort.Attribute
    else (if one_of assertion_words text then sort.Assertion
    else (if one_of inline_words text then sort.Inline
    else (if one_of storage_words text then sort.Storage
    else (if one_of silent_words text then sort.Silent
    else kept_sort text)))))

-- ( ) { } ; ] * &
abbrev pub lone_sort : ℕ → Sort
lone_sort b =
    if b == 40 then sort.Opens else (if b == 41 then sort.Closes
    else (if b == 123 then sort.Begins else (if b == 125 then sort.Ends
    else (if b == 59 then sort.Semicolon else (if b == 93 then sort.Operand
    else (if b == 42 || b == 38 then sort.Operator else sort.Other))))))

-- ++ and --; -> and the digraphs
abbrev pub pair_sort : (a b : ℕ) → Sort
pair_sort a b =
    if (a == 43 || a == 45) && b == a then sort.Step
    else (if is_other_pair a b then sort.OutsideWord else sort.Other)

-- `...` is outside, `<<=` and `>>=` are not
abbrev pub punctuator_sort : List ℕ → Sort
punctuator_sort [] = sort.Other
punctuator_sort (a ∷ []) = lone_sort a
punctuator_sort (a ∷ b ∷ []) = pair_sort a b
punctuator_sort (a ∷ b ∷ c ∷ bs) = if a == 46 then sort.OutsideWord else sort.Other

abbrev pub number_sort : List ℕ → Sort
number_sort text = if looks_floating text then sort.Floating else sort.Operand

abbrev pub sort_of : Kind → List ℕ → Sort
sort_of kind.White text = sort.Gap
sort_of kind.Comment text = sort.Gap
sort_of kind.Marker text = sort.Gap
sort_of kind.Pragma text = sort.Gap
sort_of kind.Line text = sort.Gap
sort_of kind.Word text = word_sort text
sort_of kind.Number text = number_sort text
sort_of kind.Character text = sort.Operand
sort_of kind.Text text = sort.Text
sort_of kind.Punctuator text = punctuator_sort text
sort_of kind.OpenComment text = sort.OpenComment
sort_of kind.OpenText text = sort.OpenText
sort_of kind.Directive text = sort.Directive
sort_of kind.Byte text = sort.Byte
