-- The worked text.
use Rattle.std.proofs.Common.{◌≡◌, [], ◌∷◌, None, Ok, All, codes, refl, subst, arith}
use Rattle.std.proofs.lemmas.Fmt.{decimal_digit}
use Rattle.std.proofs.lemmas.List.Elements.{All-from_recursion}
use Rattle.mc_lex.specs.declared.token.Dialect.TheVariants.{Instrumented}
use Rattle.mc_lex.specs.declared.token.TokenKind.TheVariants.{Identifier, Character}
use Rattle.mc_lex.specs.Words.{keywords, outside_keywords, probe_names}
use Rattle.mc_lex.specs.Characters.{plain, signed_char}
use Rattle.mc_lex.specs.Scans.{Means, Scans}
use Rattle.mc_lex.specs.Scans as r
use Rattle.mc_print.specs.Pens.{spaced, texts_of}
use Rattle.reread_law_printed.specs.spelled.Words.{IsToken, inserted_words, inserted_punctuators, laid, number, tokens_in}
use Rattle.reread_law_printed.specs.spelled.Worked.{source, words, text, tokens}
use Rattle.reread_law_printed.proofs.Spelled.Spacing.{spaced_scan}
use Rattle.reread_law_printed.proofs.Spelled.Inserted.{word_means, punctuator_means, number_means}

the_name : Means Instrumented (codes "b") (Ok Identifier)
unfolding keywords outside_keywords probe_names
the_name = r.word (codes "b") refl

the_number : Means Instrumented (codes "2") (Ok (number 2))
the_number = subst (λ t. Means Instrumented t (Ok (number 2))) (decimal_digit 2 (omega arith)) (number_means Instrumented 2 (omega arith))

the_blank : Means Instrumented (codes "' '") (Ok (Character (signed_char 32)))
the_blank = r.character (codes "' '") 32 (record { inside = 32 ∷ []; whole = refl; stands = plain 32 refl })

pub words_mean : All (IsToken Instrumented) words
unfolding inserted_words inserted_punctuators probe_names
words_mean =
    All-from_recursion (IsToken Instrumented) words
    (punctuator_means _ refl, (word_means _ refl, (punctuator_means _ refl, (the_number, (punctuator_means _ refl, (punctuator_means _ refl, (the_name, (punctuator_means _ refl, (the_blank, (punctuator_means _ refl, (punctuator_means _ refl, tt)))))))))))

pub the_kinds : tokens_in source (texts_of words) ≡ words
unfolding inserted_words inserted_punctuators probe_names
the_kinds = refl

pub the_text : spaced (texts_of words) ≡ text
the_text = refl

pub the_tokens : laid 0 words ≡ tokens
the_tokens = refl

pub the_scan : Scans Instrumented [] text tokens None
the_scan =
    subst (λ ts. Scans Instrumented [] text ts None) the_tokens
    (subst (λ bytes. Scans Instrumented [] bytes (laid 0 words) None) the_text (spaced_scan Instrumented words words_mean))
