-- What stands before a piece, as far as a rule asks for it.
use Rattle.std.specs.Prelude.{ℕ, ◌+◌, ◌-◌, Bool, true, false, ◌==◌, nat_le, nat_lt, if◌then◌else◌}
use Rattle.mc_adapt.specs.declared.sort.Sort.{Sort}
use Rattle.mc_adapt.specs.declared.sort.Sort.TheVariants as sort
use Rattle.mc_adapt.specs.declared.state.Around.{Around}
use Rattle.mc_adapt.specs.declared.state.Around.TheVariants as around
use Rattle.mc_adapt.specs.declared.state.Last.{Last}
use Rattle.mc_adapt.specs.declared.state.Last.TheVariants as last
use Rattle.mc_adapt.specs.declared.state.State.{State}

abbrev pub start : State
start = record { around = around.Plain; depth = 0; has_static = false; last = last.Start }

-- `static` was among the words since the last `;`, `{` or `}`
abbrev pub static_after : Bool → Sort → Bool
static_after before sort.Static = true
static_after before sort.Semicolon = false
static_after before sort.Begins = false
static_after before sort.Ends = false
static_after before _ = before

abbrev pub name_after : Last → Last
name_after last.Storage = last.StoredName
name_after _ = last.Name

-- the last token that stays, or `register` and `auto`, which go
abbrev pub last_after : Last → Sort → Last
last_after before sort.Name = name_after before
last_after before sort.Keyword = last.Keyword
last_after before sort.Static = last.Keyword
last_after before sort.Storage = last.Storage
last_after before sort.Inline = before
last_after before sort.Silent = before
last_after before sort.Attribute = before
last_after before sort.Assertion = before
last_after before sort.Operand = last.Operand
last_after before sort.Closes = last.Operand
last_after before sort.Step = last.Operand
last_after before sort.Text = last.Operand
last_after before sort.Floating = last.Operand
last_after before _ = last.Other

-- an attribute and an assertion begin with their word
abbrev pub around_after : Sort → Around
around_after sort.Attribute = around.Attribute
around_after sort.Assertion = around.Assertion
around_after _ = around.Plain

abbrev pub plain_after : State → Sort → State
plain_after s x = record {
  around = around_after x;
  depth = 0;
  has_static = static_after s.has_static x;
  last = last_after s.last x;
}

-- brackets are counted to the end of 32 bits
abbrev pub one_deeper : ℕ → ℕ
one_deeper depth = if nat_lt depth 4294967295 then depth + 1 else depth

abbrev pub deep : State → Around → ℕ → State
deep s place depth =
    record { around = place; depth = depth; has_static = s.has_static; last = s.last }

-- after the brackets of an assertion stands its `;`
abbrev pub closed_around : Around → Around
closed_around around.Assertion = around.Ending
closed_around _ = around.Plain

-- a `)` where no bracket is open ends it, too
abbrev pub closed_after : State → State
closed_after s =
    if nat_le 2 s.depth then deep s s.around (s.depth - 1)
    else (if s.depth == 0 then deep s around.Plain 0 else deep s (closed_around s.around) 0)

-- what does not open the brackets ends the attribute or the assertion
abbrev pub inside_after : State → State
inside_after s = if s.depth == 0 then deep s around.Plain 0 else s

-- in an attribute or an assertion
abbrev pub group_after : State → Sort → State
group_after s sort.Opens = deep s s.around (one_deeper s.depth)
group_after s sort.Closes = closed_after s
group_after s _ = inside_after s

abbrev pub token_after : State → Around → Sort → State
token_after s around.Plain x = plain_after s x
token_after s around.Attribute x = group_after s x
token_after s around.Assertion x = group_after s x
token_after s around.Ending x = deep s around.Plain 0

-- what stands between tokens changes nothing
abbrev pub state_after : State → Sort → State
state_after s sort.Gap = s
state_after s x = token_after s s.around x
