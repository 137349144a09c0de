-- What is done where a message is followed.
use Rattle.std.proofs.Common.{◌≡◌, ◌==◌, ℕ, Bool, true, false, List, [], ◌∷◌, length, eqb-true, arith, map, refl, sym, ap, subst, ◌∙◌, Some, None, Result, Ok, IfOk, IfErr}
use Rattle.std.specs.Str.{bytes_eq}
use Rattle.std.proofs.lemmas.Slice.Eq.{bytes_eq-Decides}
use Rattle.spec.specs.Cid.{IsDigest}
use Rattle.spec.specs.Blocks.{pairs, root as root_of}
use Rattle.spec.specs.CarReading.{blocks_of}
use Rattle.spec.specs.Stamps.{Stamp}
use Rattle.spec.specs.States.{State, IsLawful, records, state_root}
use Rattle.key_changes.specs.Keyed.{are_changes}
use Rattle.key_changes.proofs.Ascending.{are-keyed}
use Rattle.batch_laws.specs.Batch.{changed}
use Rattle.batch_laws.proofs.Changing.{changed-none}
use Rattle.change_laws.specs.Told.{KeyChange, undone}
use Rattle.step_laws.specs.Turned.{done}
use Rattle.repo.specs.declared.applied.Applied.{Applied}
use Rattle.car_reader.specs.Views.{sections_of}
use Rattle.car_reader.specs.declared.section.Section.{Section}
use Rattle.event_laws.specs.Verdict.{Checked, Placed, ordered, ordered_ops, placed_from}
use Rattle.difference_taking.specs.Refusals.{IsRefused}
use Rattle.difference_taking.specs.Taking.{DifferOnlyBy, IsTaken}
use Rattle.difference_taking.proofs.Leading.{pairs-after}
use Rattle.difference_taking.specs.declared.fault.TakingFault.{TakingFault}
use Rattle.commit_events.specs.Reading.{told_message}
use Rattle.event_following.specs.Following.{IsFollowed, led_to, stamp_in}

-- ---- what is lent

-- the operations in the order of their keys, by way of what is lent of them
pub lent-ops : (ops : List KeyChange) (sorted lent : List Placed) (made us : List KeyChange) → sorted ≡ ordered [] (placed_from 0 ops)
    → lent ≡ sorted → made ≡ map (λ p. p.1) lent → us ≡ made → us ≡ ordered_ops ops
lent-ops ops sorted lent made us s l m u = u ∙ m ∙ ap (λ (ds : List Placed). map (λ p. p.1) ds) (l ∙ s)

pub lent-keyed : (ops us : List KeyChange) → us ≡ ordered_ops ops → are_changes (undone (ordered_ops ops)) ≡ true
    → are_changes (undone us) ≡ true
lent-keyed ops us same keyed = ap (λ (cs : List KeyChange). are_changes (undone cs)) same ∙ keyed

section-blocks : (ss : List Section) → map (λ s. s.block.now) ss ≡ blocks_of (sections_of ss)
section-blocks [] = refl
section-blocks (s ∷ ss) = ap (λ (bs : List (List ℕ)). s.block.now ∷ bs) (section-blocks ss)

lent-blocks : (lent ss : List Section) → lent ≡ ss → map (λ s. s.block.now) lent ≡ blocks_of (sections_of ss)
lent-blocks lent ss same = section-blocks lent ∙ ap (λ (xs : List Section). blocks_of (sections_of xs)) same

-- the batch is that of the message's stamp and blocks
pub taken-of : {F : Type 0} (digest : List ℕ → List ℕ) (bits : ℕ) (old new : State) (made told : Stamp) → made ≡ told
    → (lent ss : List Section) → lent ≡ ss → (cs : List KeyChange) (r : Result Applied F)
    → IfOk r (IsTaken digest bits old new made (map (λ s. s.block.now) lent) cs)
    → IfOk r (IsTaken digest bits old new told (blocks_of (sections_of ss)) cs)
taken-of digest bits old new made told e lent ss same cs r h =
    subst (λ (st : Stamp). IfOk r (IsTaken digest bits old new st (blocks_of (sections_of ss)) cs)) e
    (subst (λ (bs : List (List ℕ)). IfOk r (IsTaken digest bits old new made bs cs)) (lent-blocks lent ss same) h)

pub refused-of : {T D A : Type 0} (digest : List ℕ → List ℕ) (bits : ℕ) (old : State) (made told : Stamp) → made ≡ told
    → (lent ss : List Section) → lent ≡ ss → (cs : List KeyChange) (full fuller : ℕ) (r : Result T (TakingFault D A))
    → IfErr r (IsRefused digest bits old made (map (λ s. s.block.now) lent) cs full fuller)
    → IfErr r (IsRefused digest bits old told (blocks_of (sections_of ss)) cs full fuller)
refused-of digest bits old made told e lent ss same cs full fuller r h =
    subst (λ (st : Stamp). IfErr r (IsRefused digest bits old st (blocks_of (sections_of ss)) cs full fuller)) e
    (subst (λ (bs : List (List ℕ)). IfErr r (IsRefused digest bits old made bs cs full fuller)) (lent-blocks lent ss same) h)

-- ---- whether there are operations

by-length : (ops : List KeyChange) → (length ops == 0) ≡ true → ops ≡ []
by-length [] h = refl
by-length (c ∷ cs) h = let e : length (c ∷ cs) ≡ 0 = eqb-true (length (c ∷ cs)) 0 h in absurd (omega arith)

pub none-told : (ops lent : List KeyChange) (t : Bool) → t ≡ (length lent == 0) → lent ≡ ops → t ≡ true → ops ≡ []
none-told ops lent t e same h =
    by-length ops (ap (λ (us : List KeyChange). length us == 0) (sym same) ∙ sym e ∙ h)

pub some-told : (ops lent : List KeyChange) (t : Bool) → t ≡ (length lent == 0) → lent ≡ ops → t ≡ false → ¬ (ops ≡ [])
some-told ops lent t e same h none =
    let empty : (length lent == 0) ≡ true = ap (λ (us : List KeyChange). length us == 0) (same ∙ none) in
    let both : true ≡ false = sym empty ∙ sym e ∙ h in
    absurd cc

-- ---- where the operations lead

-- a test of two roots that came out true
pub same-root : (led named : List ℕ) (t : Bool) → t ≡ bytes_eq led named → t ≡ true → led ≡ named
same-root led named t e h = (bytes_eq-Decides led named).0 (sym e ∙ h)

-- the root after is the one to which the operations lead
pub root-led : (digest : List ℕ → List ℕ) (bits : ℕ) → IsDigest digest → (old new : State) → IsLawful old → (stamp : Stamp)
    (given : List (List ℕ)) (cs : List KeyChange) → are_changes (undone cs) ≡ true → (a : Applied)
    → IsTaken digest bits old new stamp given cs a
    → state_root digest bits new ≡ root_of digest bits (changed (done cs) (pairs digest (records old)))
root-led digest bits fits old new lawful stamp given cs keyed a taken =
    ap (state_root digest bits) taken.after
    ∙ ap (root_of digest bits)
    (pairs-after digest given cs (are-keyed (undone cs) keyed).ascending fits old lawful stamp taken.batch taken.batch_is)

module _ (digest : List ℕ → List ℕ) (bits : ℕ) (old : State) (message : List ℕ) (x : Checked) where
  -- the message is read, of the root that the repository has
  pub read-of : (previous : List ℕ) → previous ≡ state_root digest bits old → told_message digest previous message ≡ Ok x
      → told_message digest (state_root digest bits old) message ≡ Ok x
  read-of previous is h = ap (λ (r : List ℕ). told_message digest r message) (sym is) ∙ h

  -- the operations lead to the root that the commit names, as was tested
  pub leads-so : (cs : List KeyChange) → cs ≡ ordered_ops x.event.ops → (named : List ℕ) → named ≡ x.commit.root → (t : Bool)
      → t ≡ bytes_eq (root_of digest bits (changed (done cs) (pairs digest (records old)))) named → t ≡ true
      → led_to digest bits old x.event ≡ x.commit.root
  leads-so cs same named is t e h =
      ap (λ (us : List KeyChange). root_of digest bits (changed (done us) (pairs digest (records old)))) (sym same)
      ∙ same-root (root_of digest bits (changed (done cs) (pairs digest (records old)))) named t e h ∙ is

  pub followed-is : IsDigest digest → IsLawful old → (new : State)
      → told_message digest (state_root digest bits old) message ≡ Ok x → led_to digest bits old x.event ≡ x.commit.root
      → (cs : List KeyChange) → cs ≡ ordered_ops x.event.ops → are_changes (undone cs) ≡ true → (a : Applied)
      → IsTaken digest bits old new (stamp_in x.event) (blocks_of x.sections) cs a → DifferOnlyBy digest old new cs
      → IsFollowed digest bits old new message x (Some a)
  followed-is fits lawful new read leads cs same keyed a taken differ = record {
    read = read;
    root_is = root-led digest bits fits old new lawful (stamp_in x.event) (blocks_of x.sections) cs keyed a taken
        ∙ ap (λ (us : List KeyChange). root_of digest bits (changed (done us) (pairs digest (records old)))) same ∙ leads;
    differ = subst (λ (us : List KeyChange). DifferOnlyBy digest old new us) same differ;
    taken = subst (λ (us : List KeyChange). IsTaken digest bits old new (stamp_in x.event) (blocks_of x.sections) us a) same taken;
  }

  -- without operations nothing is done
  pub followed-empty : told_message digest (state_root digest bits old) message ≡ Ok x → led_to digest bits old x.event ≡ x.commit.root
      → x.event.ops ≡ [] → IsFollowed digest bits old old message x None
  followed-empty read leads none =
      let es = pairs digest (records old) in
      let led : led_to digest bits old x.event ≡ root_of digest bits (changed [] es) =
      ap (λ (ops : List KeyChange). root_of digest bits (changed (done (ordered_ops ops)) es)) none in
      record {
        read = read;
        root_is = sym (ap (root_of digest bits) (changed-none es)) ∙ sym led ∙ leads;
        differ = subst (λ (ops : List KeyChange). DifferOnlyBy digest old old (ordered_ops ops)) (sym none)
            (record { before = tt; after = tt; others = λ key gone. refl });
        taken = (none, refl);
      }
