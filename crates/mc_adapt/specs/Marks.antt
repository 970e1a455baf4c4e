-- What becomes of each piece: it stays, it goes, or it is outside the language, and why.
use Rattle.std.specs.Prelude.{ℕ, Bool, true, false, not, ◌&&◌, ◌||◌, ◌==◌, if◌then◌else◌, List, [], ◌∷◌}
use Rattle.adapt_tokens.specs.Cuts.{Part}
use Rattle.mc_adapt.specs.declared.sort.Sort.{Sort}
use Rattle.mc_adapt.specs.declared.sort.Sort.TheVariants as sort
use Rattle.mc_adapt.specs.declared.state.Around.{Around}
use Rattle.mc_adapt.specs.declared.state.Around.TheVariants as around
use Rattle.mc_adapt.specs.declared.state.Last.{Last}
use Rattle.mc_adapt.specs.declared.state.Last.TheVariants as last
use Rattle.mc_adapt.specs.declared.state.State.{State}
use Rattle.mc_adapt.specs.declared.mark.Mark.{Mark}
use Rattle.mc_adapt.specs.declared.mark.Mark.TheVariants.{Stays, Goes, Outside}
use Rattle.mc_adapt.specs.declared.mark.Reason.{Reason}
use Rattle.mc_adapt.specs.declared.mark.Reason.TheVariants as reason
use Rattle.mc_adapt.specs.Words.{is_harmless}
use Rattle.mc_adapt.specs.Sorts.{sort_of}
use Rattle.mc_adapt.specs.States.{state_after}

abbrev pub is_word : Sort → Bool
is_word sort.Name = true
is_word sort.Keyword = true
is_word sort.Static = true
is_word sort.Inline = true
is_word sort.Storage = true
is_word sort.Silent = true
is_word sort.Attribute = true
is_word sort.Assertion = true
is_word sort.OutsideWord = true
is_word _ = false

abbrev pub is_operator : Sort → Bool
is_operator sort.Operator = true
is_operator _ = false

-- after `register` or `auto` stands no type: what remained could be an assignment (C17 6.7.2p2)
abbrev pub lacks_type : Last → Sort → Bool
lacks_type last.Storage x = not (is_word x)
lacks_type last.StoredName x = not (is_word x) && not (is_operator x)
lacks_type _ x = false

-- no operand stands before: `*` and `&` are of a pointer (C17 6.5.3.2, 6.7.6.1)
abbrev pub takes_operand : Last → Bool
takes_operand last.Start = true
takes_operand last.Keyword = true
takes_operand last.Other = true
takes_operand _ = false

abbrev pub goes_if : Bool → Reason → Mark
goes_if holds why = if holds then Goes else Outside why

abbrev pub stays_if : Bool → Reason → Mark
stays_if holds why = if holds then Stays else Outside why

-- outside attributes and assertions
abbrev pub sort_mark : State → Sort → Mark
sort_mark s sort.Attribute = Goes
sort_mark s sort.Assertion = Goes
sort_mark s sort.Storage = Goes
sort_mark s sort.Silent = Goes
sort_mark s sort.Inline = goes_if s.has_static reason.Word
sort_mark s sort.OutsideWord = Outside reason.Word
sort_mark s sort.Text = Outside reason.Text
sort_mark s sort.Floating = Outside reason.Floating
sort_mark s sort.Operator = stays_if (not (takes_operand s.last)) reason.Pointer
sort_mark s _ = Stays

abbrev pub plain_mark : State → Sort → Mark
plain_mark s x = if lacks_type s.last x then Outside reason.NoType else sort_mark s x

abbrev pub opens : Sort → Bool
opens sort.Opens = true
opens _ = false

abbrev pub is_semicolon : Sort → Bool
is_semicolon sort.Semicolon = true
is_semicolon _ = false

-- its brackets open, or are open
abbrev pub group_mark : State → Sort → Mark
group_mark s x = goes_if (not (s.depth == 0) || opens x) reason.Bracket

-- the names of an attribute stand in two brackets
abbrev pub attribute_mark : State → Sort → List ℕ → Mark
attribute_mark s x text =
    if s.depth == 2 && is_word x then goes_if (is_harmless text) reason.Attribute
    else group_mark s x

abbrev pub around_mark : State → Around → Sort → List ℕ → Mark
around_mark s around.Plain x text = plain_mark s x
around_mark s around.Attribute x text = attribute_mark s x text
around_mark s around.Assertion x text = group_mark s x
around_mark s around.Ending x text = goes_if (is_semicolon x) reason.Bracket

-- what stands between tokens stays; what is no token is outside wherever it stands
abbrev pub mark_of : State → Sort → List ℕ → Mark
mark_of s sort.Gap text = Stays
mark_of s sort.OpenComment text = Outside reason.OpenComment
mark_of s sort.OpenText text = Outside reason.OpenText
mark_of s sort.Directive text = Outside reason.Directive
mark_of s sort.Byte text = Outside reason.Byte
mark_of s x text = around_mark s s.around x text

-- a piece, what it is, and what becomes of it
pub record Marking : Type 0 where
  pub part : Part
  pub sort : Sort
  pub mark : Mark

abbrev pub marked : State → Part → Marking
marked s p = record {
  part = p;
  sort = sort_of p.kind p.text;
  mark = mark_of s (sort_of p.kind p.text) p.text;
}

abbrev pub markings : State → List Part → List Marking
markings s [] = []
markings s (p ∷ ps) = marked s p ∷ markings (state_after s (sort_of p.kind p.text)) ps
