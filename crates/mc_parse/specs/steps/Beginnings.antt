-- What the next tokens begin where they begin no block.
use Rattle.std.specs.Prelude.{if◌then◌else◌, List, codes}
use Rattle.mc_grammar.specs.Words.{Lexeme, sees, sees_keyword, sees_label}
use Rattle.mc_parse.specs.declared.statements.beginnings.Beginning.{Beginning}
use Rattle.mc_parse.specs.declared.statements.beginnings.Beginning.TheVariants.{Do, If, Part, Whole}
use Rattle.mc_parse.specs.declared.statements.beginnings.Opener.TheVariants as opener
use Rattle.mc_parse.specs.declared.statements.beginnings.Whole as code
use Rattle.mc_parse.specs.declared.statements.beginnings.Whole.TheVariants as whole

-- where it is none of the keywords before `goto`
abbrev pub jump_begins : List Lexeme → code.Whole
jump_begins ts = if sees_keyword (codes "goto") ts then whole.Goto
    else (if sees_keyword (codes "continue") ts then whole.Continue
    else (if sees_keyword (codes "break") ts then whole.Break
    else (if sees_keyword (codes "return") ts then whole.Return else whole.Expression)))

-- where it is none of the keywords before `case`
abbrev pub mark_begins : List Lexeme → Beginning
mark_begins ts = if sees_keyword (codes "case") ts then Part opener.Case
    else (if sees_keyword (codes "default") ts then Part opener.Default
    else Whole (jump_begins ts))

abbrev pub keyword_begins : List Lexeme → Beginning
keyword_begins ts = if sees_keyword (codes "if") ts then If
    else (if sees_keyword (codes "switch") ts then Part opener.Switch
    else (if sees_keyword (codes "while") ts then Part opener.While
    else (if sees_keyword (codes "do") ts then Do
    else (if sees_keyword (codes "for") ts then Part opener.For else mark_begins ts))))

unfoldable pub begins : List Lexeme → Beginning
begins ts = if sees (codes ";") ts then Whole whole.Null
    else (if sees_label ts then Part opener.Label else keyword_begins ts)
