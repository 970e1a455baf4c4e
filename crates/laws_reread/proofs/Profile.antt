-- What the profile leaves out of the head of a function: lists, and pointers.
use Rattle.std.proofs.Common.{◌≡◌, ℕ, suc, nat_lt, Bool, None}
use Rattle.mc_span.specs.declared.span.Span.{Span}
use Rattle.mc_tree.specs.Tree.{Name, Parameters}
use Rattle.mc_tree.specs.Tree as tree
use Rattle.subset_forms.specs.declared.context.Region.TheVariants as region
use Rattle.subset_forms.specs.declared.form.Form.TheVariants as form
use Rattle.mc_subset.specs.Nodes.{a_declarator}
use Rattle.mc_subset.specs.Forms.{form_of}
use Rattle.reread_law_rows.proofs.Fitting.Profile.{pointed, some_stars}

-- ---- pointers

pub no_stars : (stars : ℕ) (name : Name) (all : Parameters) (span : Span) (local external : Bool) → form_of (a_declarator (tree.function (suc stars) name all span) local external) ≡ None → ⊥
unfolding form_of
no_stars n name all span local external h = pointed (nat_lt 0 (suc n)) _ (some_stars n) h
