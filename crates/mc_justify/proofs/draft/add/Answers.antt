use Rattle.std.proofs.Common.{◌≡◌, ◌∙◌, ◌<◌, ◌++◌, ◌∷◌, [], ℕ, Bool, true, false, length, set, get_or, sym, subst, rules}
use Rattle.std.specs.Str.{IsUtf8}
use Rattle.std.proofs.lemmas.List.{length-set}
use Rattle.mc_justify.specs.Justifications.{is_named}
use Rattle.mc_justify.specs.Returned.{AreFit}
use Rattle.mc_justify.specs.Seen.{added}
use Rattle.mc_justify.proofs.Adding.{fit_more, marks_more}
use Rattle.mc_justify.proofs.draft.add.Goals as goal

pub returns-clause-draft : goal.returns-clause-draft
returns-clause-draft c =
    let marks = c.args.draft.now.named.items in
    let named = c.args.draft.now.justifications.items in
    let k = c.args.position in
    let reason = c.args.reason.now in
    let at : get_or marks k false ≡ false = search rules in
    let free = sym (c.requires.draft.marks k false c.requires.inside) ∙ at in
    let pushed : c.push.new.self.items ≡ named ++ added k reason ∷ [] = search rules in
    let text = subst IsUtf8 c.as_bytes.ensures.value c.as_bytes.ensures.utf8 in
    record {
      marks = subst (λ js. (i : ℕ) (b : Bool) → i < length (set marks k true) → get_or (set marks k true) i b ≡ is_named i js) (sym pushed)
          (marks_more marks named k reason c.requires.inside c.requires.draft.marks);
      fit = subst (λ n. AreFit n c.push.new.self.items) (sym (length-set marks k true)) (subst (AreFit (length marks)) (sym pushed)
          (fit_more (length marks) k reason named c.requires.draft.fit c.requires.inside free text c.requires.some));
    }
