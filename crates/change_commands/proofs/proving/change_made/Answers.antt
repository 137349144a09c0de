use Rattle.std.proofs.Common.{◌≡◌, ℕ, List, Option, Ok, Err, subst}
use Rattle.std.specs.Prelude.{Result, IfErr, IfSome}
use Rattle.record_forms.specs.declared.form.Form.{Form}
use Rattle.repository_commands.specs.declared.fault.TextFault.{TextFault}
use Rattle.console.proofs.Known.{for_known}
use Rattle.change_commands.specs.Stories.{Story, story_in}
use Rattle.change_commands.specs.Texts.{IsRefusedStory, IsUnproved}
use Rattle.change_commands.specs.Views.{story_of}
use Rattle.change_commands.proofs.proving.change_made.Goals as goal

-- where an input is known, its story is the one that was read
of-input : {X D A : Type 0} (digest : List ℕ → List ℕ) (form : Form) (input : Option (List ℕ)) (story : Story) (r : Result X (TextFault D A)) → IfSome input (λ xs. story ≡ story_in form xs)
    → IfErr r (IsRefusedStory digest story) → IfErr r (λ e. IfSome input (λ xs. IsUnproved digest form xs e))
of-input digest form input story (Ok x) read refused = tt
of-input digest form input story (Err e) read refused =
    for_known (λ xs. story ≡ story_in form xs) (λ xs. IsUnproved digest form xs e) input (λ xs same. subst (λ s. IsRefusedStory digest s e) same refused) read

pub returns-clause-refused : goal.returns-clause-refused
returns-clause-refused g c =
    of-input g.D.Digest.digest_of c.args.form (g.R.Read.remaining c.args.input.now) (story_of c.in_ok-story.story) c.change_of_story.result c.in_ok-story.ensures
    c.change_of_story.ensures.refused
