-- The printed names of the forms.
use Rattle.std.specs.Prelude.{ℕ, List, codes}
use Rattle.subset_forms.specs.declared.form.Form.{Form}
use Rattle.subset_forms.specs.declared.form.Form.TheVariants as form

abbrev pub name_of : Form → List ℕ
name_of form.Pointer = codes "pointer"
name_of form.NestedAssignment = codes "nested assignment"
name_of form.Comma = codes "comma"
name_of form.Goto = codes "goto"
name_of form.EmptyParameters = codes "empty parameters"
name_of form.SwitchShape = codes "switch shape"
name_of form.LocalTag = codes "local tag"
name_of form.LocalFunction = codes "local function"
name_of form.ExternalObject = codes "external object"
name_of form.ConstMember = codes "const member"
