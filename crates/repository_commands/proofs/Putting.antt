-- Reading puts line by line: what was read, and what is left to read.
use Rattle.std.proofs.Common.{◌≡◌, ℕ, Bool, List, [], ◌∷◌, ◌++◌, true, false, refl, sym, ap, ◌∙◌, append_assoc}
use Rattle.std.specs.Prelude.{Option, Some, None, Result, Ok, Err, is_ok}
use Rattle.std.proofs.lemmas.List.{append-nil}
use Rattle.spec.specs.Writes.{Write}
use Rattle.block.specs.declared.write.Write.{Write as GivenWrite}
use Rattle.record_forms.specs.Records.{WordFault}
use Rattle.record_forms.specs.declared.fault.WordFault.{WordFault as GivenFault}
use Rattle.record_forms.specs.declared.form.Form.{Form}
use Rattle.repository_commands.specs.Puts.{Given, added, put_of_line, taken, with_put, given_from}
use Rattle.repository_commands.specs.Views.{write_read}

-- these puts, and then those of further lines
abbrev pub onto : Given → Given → Given
onto g h = record { numbers = g.numbers ++ h.numbers; writes = g.writes ++ h.writes; stop = h.stop }

-- these puts, where the lines end so
abbrev pub stopped : Given → Option (ℕ × WordFault) → Given
stopped g stop = record { numbers = g.numbers; writes = g.writes; stop = stop }

onto_stopped : (g : Given) (stop : Option (ℕ × WordFault)) → onto g (record { numbers = []; writes = []; stop = stop }) ≡ stopped g stop
onto_stopped g stop = λ i. record { numbers = append-nil g.numbers i; writes = append-nil g.writes i; stop = stop }

onto_onto : (g : Given) (n : ℕ) (w : Write) (h : Given) → onto g (with_put n (Ok w) h) ≡ onto (added g n w) h
onto_onto g n w h = λ i. record {
  numbers = sym (append_assoc g.numbers (n ∷ []) h.numbers) i;
  writes = sym (append_assoc g.writes (w ∷ []) h.writes) i;
  stop = h.stop;
}

module _ (form : Form) (n : ℕ) (l : List ℕ) (g : Given) (ls : List (ℕ × List ℕ)) where
  on : (o : Result Write WordFault) → is_ok o ≡ true → onto g (with_put n o (given_from form ls)) ≡ onto (taken g n o) (given_from form ls)
  on (Err f) some = absurd cc
  on (Ok w) some = onto_onto g n w (given_from form ls)

  none : (o : Result Write WordFault) → is_ok o ≡ false → onto g (with_put n o (given_from form ls)) ≡ taken g n o
  none (Err f) some = onto_stopped g (Some (n, f))
  none (Ok w) some = absurd cc

  -- a line that is a put, and one that is none
  pub onto_put : (o : Result Write WordFault) (h : Given) (more : Bool) → h ≡ taken g n o → o ≡ put_of_line form l → more ≡ is_ok o → more ≡ true
      → onto g (given_from form ((n, l) ∷ ls)) ≡ onto h (given_from form ls)
  unfolding given_from
  onto_put o h more put is some held =
      ap (λ o. onto g (with_put n o (given_from form ls))) (sym is) ∙ on o (sym some ∙ held) ∙ ap (λ h. onto h (given_from form ls)) (sym put)

  pub onto_stop : (o : Result Write WordFault) (h : Given) (more : Bool) → h ≡ taken g n o → o ≡ put_of_line form l → more ≡ is_ok o → more ≡ false
      → onto g (given_from form ((n, l) ∷ ls)) ≡ h
  unfolding given_from
  onto_stop o h more put is some failed =
      ap (λ o. onto g (with_put n o (given_from form ls))) (sym is) ∙ none o (sym some ∙ failed) ∙ sym put

pub ok_read : {A B : Type 0} (o : Result (GivenWrite A) (GivenFault B)) → is_ok o ≡ is_ok (write_read o)
ok_read (Err f) = refl
ok_read (Ok w) = refl

pub going_on : (g h : Given) (n : ℕ) (o : Result Write WordFault) (more : Bool) → h ≡ taken g n o → more ≡ is_ok o → more ≡ true → g.stop ≡ None → h.stop ≡ None
going_on g h n (Err f) more put some held e = absurd (cc)
going_on g h n (Ok w) more put some held e = ap (λ (h : Given). h.stop) put ∙ e

pub onto_done : (form : Form) (g : Given) → g.stop ≡ None → onto g (given_from form []) ≡ g
unfolding given_from
onto_done form g going_on = onto_stopped g None ∙ (λ i. record { numbers = g.numbers; writes = g.writes; stop = sym going_on i })
