-- The clauses of the call, from what its phases give.
use Rattle.std.proofs.Common.{◌≡◌, ℕ, List, length, Option, Some, Result, Ok, Err, refl, sym, ap, subst, inl, inr}
use Rattle.std.specs.Prelude.{IfErr, MatchResult}
use Rattle.mc_lex.specs.declared.token.Dialect.{Dialect}
use Rattle.mc_lex.specs.declared.fault.LexFault.{LexFault}
use Rattle.mc_lex.specs.declared.fault.LexFault.TheVariants as lex
use Rattle.mc_lex.specs.declared.fault_kind.FaultKind.{FaultKind}
use Rattle.mc_lex.specs.declared.fault_kind.FaultKind.TheVariants as lexical
use Rattle.mc_lex.specs.Scans.{Scans, fault_at}
use Rattle.mc_lex.specs.Scans as r
use Rattle.mc_lex.specs.Tokens.{Tok}
use Rattle.reread_pieces.specs.Plain.{plain_of}
use Rattle.types_faults.specs.declared.fault.Fault.{Fault}
use Rattle.mc_types.specs.declared.fault.TypeFault.{TypeFault}
use Rattle.mc_types.specs.declared.fault.TypeFault.TheVariants as types
use Rattle.mc_types.specs.Faults.{fault_of}
use Rattle.mc_probe.specs.declared.tree.Instrumented.{Instrumented}
use Rattle.mc_probe.specs.Tree.{Tree}
use Rattle.mc_probe.specs.Trees.{tree_of}
use Rattle.reread_program.specs.declared.fault.RereadFault.{RereadFault}
use Rattle.reread_program.specs.declared.fault.RereadFault.TheVariants as fault
use Rattle.reread_program.specs.Reading.{IsOnSyntax, Reads}
use Rattle.reread_program.specs.Returned.{Gives, HoldsNoWant}
use Rattle.reread_program.proofs.Once.{reads_as_one}

-- ---- a text that is read

pub only_of : (text : List ℕ) (tree : Tree) (given : Result Instrumented RereadFault) → Gives tree_of (Reads text) given → Reads text (Ok tree)
    → MatchResult given (λ i. tree_of i ≡ tree) (λ f. f ≡ fault.OutOfMemory)
only_of text tree (Ok i) g p = reads_as_one text (Ok (tree_of i)) (Ok tree) g p
only_of text tree (Err (fault.Lex e)) g p = absurd (reads_as_one text (Err (fault.Lex e)) (Ok tree) g p)
only_of text tree (Err (fault.Parse e)) g p = absurd (reads_as_one text (Err (fault.Parse e)) (Ok tree) g p)
only_of text tree (Err (fault.Outside e)) g p = absurd (reads_as_one text (Err (fault.Outside e)) (Ok tree) g p)
only_of text tree (Err (fault.Typing e)) g p = absurd (reads_as_one text (Err (fault.Typing e)) (Ok tree) g p)
only_of text tree (Err (fault.Probe at)) g p = absurd (reads_as_one text (Err (fault.Probe at)) (Ok tree) g p)
only_of text tree (Err fault.OutOfMemory) g p = refl

-- ---- no fault of a phase holds a want of memory

kind_holds_none : (why : FaultKind) (at : ℕ) → fault_at why at ≡ lex.OutOfMemory → ⊥
kind_holds_none lexical.Byte at e = cc e
kind_holds_none lexical.Token at e = cc e
kind_holds_none lexical.Directive at e = cc e
kind_holds_none lexical.OutsideWord at e = cc e
kind_holds_none lexical.Limit at e = cc e

scan_holds_none : {dialect : Dialect} {before bs : List ℕ} {ts : List Tok} {stop : Option LexFault}
    → Scans dialect before bs ts stop → stop ≡ Some lex.OutOfMemory → ⊥
scan_holds_none (r.ends before) e = cc e
scan_holds_none (r.gap before text after bs ts stop w g s) e = scan_holds_none s e
scan_holds_none (r.token before text after bs kind ts stop nc l s) e = scan_holds_none s e
scan_holds_none (r.stops before bs why s) e = kind_holds_none why (length before) (cc e)

on_syntax : (count : ℕ) (f : RereadFault) → IsOnSyntax count f → HoldsNoWant f
on_syntax count f (at, few, is) = subst HoldsNoWant (sym is) (λ e. cc e)

types_hold_none : (e : TypeFault) (first : Fault) → fault_of e ≡ Some first → e ≡ types.OutOfMemory → ⊥
types_hold_none e first named is = cc (ap fault_of is, named)

holds_none : (text : List ℕ) (f : RereadFault) → Reads text (Err f) → HoldsNoWant f
holds_none text f (inl (tokens, e, scans, is)) = subst HoldsNoWant (sym is) (λ same. scan_holds_none scans (ap Some same))
holds_none text f (inr (tokens, lexes, inl (none, syntax))) = on_syntax (length tokens) f syntax
holds_none text f (inr (tokens, lexes, inr (pieces, splits, inl (none, syntax)))) = on_syntax (length (plain_of pieces)) f syntax
holds_none text f (inr (tokens, lexes, inr (pieces, splits, inr (unit, parses, inl (none, syntax))))) =
    on_syntax (length (plain_of pieces)) f syntax
holds_none text f (inr (tokens, lexes, inr (pieces, splits, inr (unit, parses, inr (placed, places, inl (outside, first, is)))))) =
    subst HoldsNoWant (sym is) tt
holds_none text f (inr (tokens, lexes, inr (pieces, splits, inr (unit, parses, inr (placed, places, inr (u, admits, inl (e, first, named, one, is))))))) =
    subst HoldsNoWant (sym is) (types_hold_none e first named)
holds_none text f (inr (tokens, lexes, inr (pieces, splits, inr (unit, parses, inr (placed, places, inr (u, admits, inr (program, types, (at, put, is)))))))) =
    subst HoldsNoWant (sym is) tt

pub memory_of : (text : List ℕ) (given : Result Instrumented RereadFault) → Gives tree_of (Reads text) given → IfErr given HoldsNoWant
memory_of text (Ok i) g = tt
memory_of text (Err (fault.Lex e)) g = holds_none text (fault.Lex e) g
memory_of text (Err (fault.Parse e)) g = holds_none text (fault.Parse e) g
memory_of text (Err (fault.Outside e)) g = holds_none text (fault.Outside e) g
memory_of text (Err (fault.Typing e)) g = holds_none text (fault.Typing e) g
memory_of text (Err (fault.Probe at)) g = holds_none text (fault.Probe at) g
memory_of text (Err fault.OutOfMemory) g = tt
