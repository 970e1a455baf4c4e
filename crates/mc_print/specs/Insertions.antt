-- What the table inserts: a line for each of its rows, and the pen that puts it at its place.
use Rattle.std.specs.Prelude.{ℕ, List, [], ◌∷◌, ◌++◌, Option, Some, None, codes, decimal, if◌then◌else◌, ◌==◌}
use Rattle.mc_span.specs.declared.span.Span.{Span}
use Rattle.mc_typed.specs.declared.probes.Mark.{Mark}
use Rattle.mc_typed.specs.declared.probes.Probe.{Probe}
use Rattle.mc_typed.specs.declared.probes.Probe.TheVariants as probe
use Rattle.mc_print.specs.Pens.{Pen, ◌▸◌, nothing, put, put_type, skip, upto}

-- ---- the rows

-- `MCDC_H ( b ) ;`: an entry, an exit, a counted statement, a counted declaration
abbrev pub hit : ℕ → List (List ℕ)
hit b = codes "MCDC_H" ∷ codes "(" ∷ decimal b ∷ codes ")" ∷ codes ";" ∷ []

-- `unsigned mcdc_r [ n ] ;`: the registers of a function
abbrev pub registers : ℕ → List (List ℕ)
registers n =
    codes "unsigned" ∷ codes "mcdc_r" ∷ codes "[" ∷ decimal n ∷ codes "]" ∷ codes ";" ∷ []

-- `MCDC_L ( r , b ) ;`: a label, an absent `default`
abbrev pub label : Mark → List (List ℕ)
label m =
    codes "MCDC_L" ∷ codes "(" ∷ decimal m.register ∷ codes "," ∷ decimal m.bit ∷ codes ")"
    ∷ codes ";" ∷ []

-- what stands before the operand of a probe, which `)` closes
abbrev pub opening : Probe → List (List ℕ)
-- `MCDC_D ( r , base ,`: a root
opening (probe.Decision r base) =
    codes "MCDC_D" ∷ codes "(" ∷ decimal r ∷ codes "," ∷ decimal base ∷ codes "," ∷ []
-- `MCDC_C ( r , t , f ,`: a condition
opening (probe.Condition r on_true on_false) =
    codes "MCDC_C" ∷ codes "(" ∷ decimal r ∷ codes "," ∷ decimal on_true ∷ codes ","
    ∷ decimal on_false ∷ codes "," ∷ []
-- `MCDC_W ( r ,`: the expression of a `switch`
opening (probe.Switch r) = codes "MCDC_W" ∷ codes "(" ∷ decimal r ∷ codes "," ∷ []

-- `MCDC_H ( b ) ; return mcdc_v ; }`: after the value of a `return`
abbrev pub value_exit : ℕ → List (List ℕ)
value_exit b = hit b ++ codes "return" ∷ codes "mcdc_v" ∷ codes ";" ∷ codes "}" ∷ []

-- ---- their places

-- before a byte
abbrev pub at : ℕ → List (List ℕ) → Pen → Pen
at place texts = upto place ▸ put texts

abbrev pub before_counted : Option ℕ → Span → Pen → Pen
before_counted None span = nothing
before_counted (Some b) span = at span.start (codes "{" ∷ hit b)

abbrev pub after_counted : Option ℕ → Span → Pen → Pen
after_counted None span = nothing
after_counted (Some b) span = at span.end (codes "}" ∷ [])

-- an exit, or a counted declaration
abbrev pub hit_at : Option ℕ → ℕ → Pen → Pen
hit_at None place = nothing
hit_at (Some b) place = at place (hit b)

-- after what stands there
abbrev pub label_after : Option Mark → Span → Pen → Pen
label_after None span = nothing
label_after (Some m) span = at span.end (label m)

-- at the front of a body
abbrev pub put_registers : ℕ → Pen → Pen
put_registers n = if n == 0 then nothing else put (registers n)

abbrev pub put_entry : Option ℕ → Pen → Pen
put_entry None = nothing
put_entry (Some b) = put (hit b)

-- in place of the word `return`, before a value, and after the statement
abbrev pub open_value : Span → Pen → Pen
open_value span =
    upto span.start ▸ skip ▸ put (codes "{" ∷ []) ▸ put_type
    ▸ put (codes "mcdc_v" ∷ codes "=" ∷ [])

abbrev pub close_value : ℕ → Span → Pen → Pen
close_value b span = at span.end (value_exit b)
