use Rattle.std.proofs.Common.{◌≡◌, ◌∙◌, List, Option, true, ap, map, option_map}
use Rattle.mc_tree.specs.Views.{name_of}
use Rattle.types_faults.specs.declared.fault.Fault.{Fault}
use Rattle.types_rules.specs.Declarations as w
use Rattle.types_rules.specs.Scopes as s
use Rattle.types_rules.specs.Types as t
use Rattle.types_scopes.specs.Blocks.{Around, around_of}
use Rattle.types_scopes.specs.Prototypes.{body_in}
use Rattle.types_scopes.specs.Types.{type_of}
use Rattle.types_scopes.specs.Views.{scope_of}
use Rattle.types_scopes.specs.declared.types.ParameterKind.{ParameterKind}
use Rattle.types_declarations.specs.Declarations.{kind_found, listed_parameters}
use Rattle.types_declarations.specs.Bodies.{BodyBegun}
use Rattle.types_faults.specs.Kept.{listed}
use Rattle.types_declarations.proofs.Begun.{body_placed}
use Rattle.types_declarations.proofs.definitions.begin_definition.Goals as goal

abbrev body_by : List Fault → Option t.Signature → s.Scope → BodyBegun
body_by fs f s = record { faults = fs; signature = f; scope = s }

body_same : (fs gs : List Fault) (f g : Option t.Signature) (s t : s.Scope) → fs ≡ gs → f ≡ g → s ≡ t
    → body_by fs f s ≡ body_by gs g t
body_same fs gs f g s t a b c = cc

pub returns-in-Ok-enter_definition-clause-body : goal.returns-in-Ok-enter_definition-clause-body
returns-in-Ok-enter_definition-clause-body c = λ o ps hd un around before.
    let name = name_of c.args.name.now in
    let gives = option_map type_of c.args.typed.now.value in
    let inner = scope_of c.args.scope.now in
    let f = w.signature_listed gives (listed_parameters c.args.parameters.now inner) in
    let sg = c.in-Ok.ensures
    ∙ ap (λ (ks : List (Option ParameterKind)). w.signature_of (w.result_of gives) (w.all_of (map kind_found ks))) c.deref.ensures.value in
    let placed = c.in-Ok-enter_definition.ensures.body
    ∙ ap (λ (g : Option t.Signature). body_in (around_of c.args.block).names name (s.Function g true) inner)
    sg
    ∙ body_placed name f o inner (around_of c.args.block).names (ap (λ (a : Around). a.names) around) before in
    body_same _ _ _ _ _ _ (ap listed (c.head_fault-fault.ensures o inner ps hd un sg)) sg placed
