use Rattle.std.proofs.Common.{◌∙◌, ◌≡◌, Bool, false, refl, true, codes}
use Rattle.std.specs.Prelude.{Some}
use Rattle.clap.specs.Walk.{one_of}
use Rattle.clap.specs.Words.{found_of, rows_of}
use Rattle.clap.proofs.WalkLemmas.{one_text-rows}
use Rattle.record_forms.specs.declared.form.Form.{Form}
use Rattle.record_forms.specs.declared.form.Form.TheVariants as forms
use Rattle.export_commands.proofs.words.values_of.Goals as goal

both : (b : Bool) → b ≡ true → b ≡ false → ⊥
both b p q = absurd (cc (p, q))

hex-or-json : (form : Form) → form ≡ forms.Json → form ≡ forms.Hex → ⊥
hex-or-json form p q = absurd (cc (p, q))

pub returns-then-get_flag : goal.returns-then-get_flag
returns-then-get_flag c =
    let no : one_of (codes "cids") (rows_of (found_of c.args.words.now)) ≡ Some (codes "false") → ⊥ =
    λ is. both c.get_flag.result c.if-get_flag.true (c.get_flag.ensures.other (one_text-rows (found_of c.args.words.now) (codes "cids") ∙ is)) in
    record {
      cids = λ is. refl;
      json = λ is given. absurd (no is);
      bytes = λ is none. absurd (no is);
    }

pub returns-in-Json : goal.returns-in-Json
returns-in-Json c = record {
  cids = λ is. absurd (both c.get_flag.result (c.get_flag.ensures.value (one_text-rows (found_of c.args.words.now) (codes "cids") ∙ is)) c.if-get_flag.false);
  json = λ is given. refl;
  bytes = λ is none. absurd (hex-or-json c.form_of.result c.in-Json.is (c.form_of.ensures.hex none));
}

pub returns-in-Hex : goal.returns-in-Hex
returns-in-Hex c = record {
  cids = λ is. absurd (both c.get_flag.result (c.get_flag.ensures.value (one_text-rows (found_of c.args.words.now) (codes "cids") ∙ is)) c.if-get_flag.false);
  json = λ is given. absurd (hex-or-json c.form_of.result (c.form_of.ensures.json given) c.in-Hex.is);
  bytes = λ is none. refl;
}
