-- What each reason is called, and whether the bytes of the piece stand after it.
use Rattle.std.specs.Prelude.{ℕ, Bool, true, false, List, codes}
use Rattle.mc_adapt.specs.declared.mark.Reason.{Reason}
use Rattle.mc_adapt.specs.declared.mark.Reason.TheVariants as reason

abbrev pub reason_words : Reason → List ℕ
reason_words reason.Word = codes "outside word"
reason_words reason.Attribute = codes "attribute"
reason_words reason.Pointer = codes "pointer"
reason_words reason.Text = codes "string"
reason_words reason.Floating = codes "floating constant"
reason_words reason.OpenComment = codes "open comment"
reason_words reason.OpenText = codes "open string"
reason_words reason.Directive = codes "directive"
reason_words reason.Byte = codes "byte"
reason_words reason.NoType = codes "no type"
reason_words reason.Bracket = codes "bracket"

abbrev pub shows_text : Reason → Bool
shows_text reason.Word = true
shows_text reason.Attribute = true
shows_text _ = false
