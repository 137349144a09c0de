use Rattle.run_command.proofs.Pushing.{joined-first, on_ok}
use Rattle.run_command.proofs.script.words.push_joined.Goals as goal

pub returns-in_ok-extend_from_slice-in-len1-up : goal.returns-in_ok-extend_from_slice-in-len1-up
returns-in_ok-extend_from_slice-in-len1-up c =
    on_ok c.push_others.result
    (joined-first (λ w. w.now) c.args.words.now _ c.args.text.now.items c.extend_from_slice.new.self.items c.push_others.new.text.items c.in-len1-up.len_at_least c.in_ok-extend_from_slice-in-len1-up.ensures.items)
    c.push_others.ensures
