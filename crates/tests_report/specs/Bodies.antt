-- Bodies of one function, written out by hand, with the lines of what they ask for.
use Rattle.std.specs.Prelude.{◌≡◌, ℕ, ◌+◌, true, List, [], ◌∷◌, map, codes, pos, Option, Some, None}
use Rattle.mc_value.specs.declared.int_type.IntType.TheVariants.{Int}
use Rattle.mc_typed.specs.Tree.{Expression, Declarator, Statement, Statements, Function}
use Rattle.mc_typed.specs.Tree as t
use Rattle.report_options.specs.declared.mode.Mode.TheVariants.{Unique}
use Rattle.mc_oblige.specs.declared.obligation.Obligation.{Obligation}
use Rattle.mc_report.specs.Report.{Report}
use Rattle.mc_report.specs.Lines.{verdict_lines}
use Rattle.tests_report.specs.Words.{lines, missing, span}

-- a function `int f(int n){..}`: its whole text, its body, its closing brace, and the lines of what
-- it asks for where no test is run
pub record Body : Type 0 where
  pub text : List ℕ
  pub items : List Statement
  pub closing : ℕ
  pub left : List (List ℕ)

abbrev pub block : List Statement → Statements
block [] = t.no_statements
block (s ∷ rest) = t.statements s (block rest)

abbrev pub function : Body → Function
function b = record {
  name = codes "f";
  name_span = span 4 5;
  parameters = t.NumberParameter Int ∷ [];
  result = t.NumberResult Int;
  objects = [];
  body = block b.items;
  closing = span b.closing (b.closing + 1);
}

-- the report on these obligations where no test is run
abbrev pub unrun : List ℕ → List Obligation → Report
unrun text obligations = record {
  source = text;
  digest = [];
  mode = Unique;
  names = [];
  states = [];
  results = None;
  decisions = [];
  obligations = obligations;
  verdicts = map (λ o. missing) obligations;
}

abbrev pub unmet_lines : List ℕ → List Obligation → List (List ℕ)
unmet_lines text obligations =
    verdict_lines (unrun text obligations) obligations (map (λ o. missing) obligations)

-- of all that a function asks for, that of one kind
abbrev pub AreRight : (Function → List Obligation) → List Body → Type 0
AreRight asked [] = Unit {0}
AreRight asked (b ∷ bs) =
    (unmet_lines b.text (asked (function b)) ≡ lines b.left) × AreRight asked bs

-- ---- statements; only the places that a row names play a part

abbrev pub number : ℕ → Expression
number value = t.Constant (pos value) Int (span 0 0)

-- the parameter
abbrev pub value : Expression
value = t.Read (t.Local (record { object = 0; start = 0 }) (span 0 0)) Int

-- `return n;` or `return 1;` at this byte
abbrev pub return_at : ℕ → Statement
return_at from = t.Return (t.ReturnNumber value) (span from (from + 9))

-- `;` at this byte
abbrev pub null_at : ℕ → Statement
null_at from = t.Null (span from (from + 1))

-- `n;` at this byte
abbrev pub effect_at : ℕ → Statement
effect_at from = t.EffectStatement (t.NumberEffect value true) (span from (from + 2))

-- `if` at this byte
abbrev pub if_at : ℕ → Statement → Statement
if_at from s = t.If value s (span from (from + 2)) (span 0 0)

abbrev pub if_else_at : ℕ → Statement → Statement → Statement
if_else_at from s other = t.IfElse value s other (span from (from + 2)) (span 0 0)

-- `for` or `while`, whose keyword begins at this byte
abbrev pub for_at : ℕ → Option Expression → Statement → Statement
for_at from test s =
    t.For (t.StartEffects []) test [] s (span from (from + 3)) (span 0 0)

abbrev pub for_of : Option Expression → Statement → Statement
for_of test s = for_at 0 test s

abbrev pub do_at : ℕ → Statement → Expression → Statement
do_at from s test = t.DoWhile s test (span from (from + 2)) (span 0 0)

-- `switch` at this byte
abbrev pub switch_at : ℕ → List Statement → Statement
switch_at from items = t.Switch value (block items) (span from (from + 6)) (span 0 0)

abbrev pub switch_of : List Statement → Statement
switch_of items = switch_at 0 items

abbrev pub compound : List Statement → Statement
compound items = t.Compound (block items) (span 0 0)

-- `case 1:` at this byte
abbrev pub label_at : ℕ → Statement
label_at from = t.Label (Some (pos 1)) (span from (from + 7))

abbrev pub labelled : Statement
labelled = label_at 0

abbrev pub default_at : ℕ → Statement
default_at from = t.Label None (span from (from + 8))

abbrev pub default_label : Statement
default_label = default_at 0

-- `break;` at this byte
abbrev pub break_at : ℕ → Statement
break_at from = t.Break (span from (from + 6))

abbrev pub break_of : Statement
break_of = break_at 0

abbrev pub continue_at : ℕ → Statement
continue_at from = t.Continue (span from (from + 9))

-- a declarator without a value, and one with a value
abbrev pub plain_declarator : Declarator
plain_declarator = record { slot = record { object = 1; start = 1 }; cells = 1; value = None }

abbrev pub valued_declarator : Declarator
valued_declarator = record plain_declarator { value = Some (t.NumberInitializer value) }

abbrev pub declaration_at : ℕ → ℕ → List Declarator → Statement
declaration_at from to declarators = t.Declaration declarators (span from to)
