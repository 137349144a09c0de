-- The verdict in parts is the verdict, and what it means.
use Rattle.std.proofs.Common.{◌≡◌, ℕ, true, List, [], refl, sym, subst, ◌∙◌, Option, Result, Ok, Err}
use Rattle.std.specs.Prelude.{IfOk}
use Rattle.std.specs.declared.option.Option.TheVariants.{None}
use Rattle.std.specs.Str.{bytes_eq}
use Rattle.spec.specs.Reading.{◌>>=◌, ensure, Gives}
use Rattle.spec.specs.Cid.{IsDigest}
use Rattle.spec.specs.CarReading.{Section, blocks_of}
use Rattle.spec.specs.SignedCommits.{Commit}
use Rattle.key_changes.specs.Keyed.{are_changes}
use Rattle.key_changes.proofs.Ascending.{keyed-changes}
use Rattle.change_laws.specs.Told.{undone}
use Rattle.event_laws.specs.Events.{Event}
use Rattle.event_laws.specs.Reading.{FormFault, read_event}
use Rattle.event_laws.specs.Verdict.{Checked, EventFault, OtherPrevious, commit_in, commit_verdict, doubled_after, of_form, ordered_ops, records_test, sections_of, single_keys}
use Rattle.event_laws.proofs.Keyed.{keyed-ordered}
use Rattle.event_laws.proofs.KeysRead.{keys-read}
use Rattle.event_laws.proofs.Taken.{taken-is_true}
use Rattle.commit_events.specs.Steps.{IsTrue, event_verdict, shown_by, shown_commit, single_event, told_commit}

-- ---- steps

bind-same : {E A B : Type 0} (r : Result A E) (f g : A → Result B E) → ((x : A) → f x ≡ g x) → (r >>= f) ≡ (r >>= g)
bind-same (Ok x) f g h = h x
bind-same (Err e) f g h = refl

-- two steps as one
bind-two : {E A B C : Type 0} (r : Result A E) (s : A → Result B E) (k : A → Result C E)
    → ((r >>= (λ x. s x >>= (λ y. Ok x))) >>= k) ≡ (r >>= (λ x. s x >>= (λ y. k x)))
bind-two {E} {A} {B} {C} (Ok x) s k = one (s x)
  where
    one : (t : Result B E) → ((t >>= (λ y. Ok x)) >>= k) ≡ (t >>= (λ y. k x))
    one (Ok y) = refl
    one (Err e) = refl
bind-two (Err e) s k = refl

-- ---- the verdict

-- what a message says with these sections and this commit
abbrev with_commit : (List ℕ → List ℕ) → ℕ → List ℕ → Event → List Section → Commit → Result Checked EventFault
with_commit digest bits previous e ss c =
    shown_by digest bits previous c.root (blocks_of ss) e.ops
    >>= (λ shown. Ok (record { event = e; commit = c; sections = ss }))

-- and with these sections
abbrev with_sections : (List ℕ → List ℕ) → ℕ → List ℕ → Event → List Section → Result Checked EventFault
with_sections digest bits previous e ss =
    commit_in ss e >>= (λ c. records_test ss 0 e.ops >>= (λ records. with_commit digest bits previous e ss c))

-- and with these operations
abbrev with_event : (List ℕ → List ℕ) → ℕ → List ℕ → Event → Result Checked EventFault
with_event digest bits previous e =
    ensure (bytes_eq e.before previous) OtherPrevious
    >>= (λ same. sections_of digest e.commit e.blocks >>= (λ ss. with_sections digest bits previous e ss))

whole-is : (digest : List ℕ → List ℕ) (bits : ℕ) (previous message : List ℕ)
    → (of_form (read_event message) >>= (λ e. single_keys e.ops >>= (λ single. with_event digest bits previous e)))
    ≡ commit_verdict digest bits previous message
unfolding commit_verdict shown_by
whole-is digest bits previous message = refl

sections-is : (digest : List ℕ → List ℕ) (bits : ℕ) (previous : List ℕ) (e : Event) (ss : List Section)
    → (shown_commit digest bits previous ss e >>= (λ c. Ok (record { event = e; commit = c; sections = ss })))
    ≡ with_sections digest bits previous e ss
unfolding shown_commit told_commit
sections-is digest bits previous e ss =
    bind-two (commit_in ss e >>= (λ c. records_test ss 0 e.ops >>= (λ records. Ok c)))
    (λ c. shown_by digest bits previous c.root (blocks_of ss) e.ops)
    (λ c. Ok (record { event = e; commit = c; sections = ss }))
    ∙ bind-two (commit_in ss e) (λ c. records_test ss 0 e.ops) (with_commit digest bits previous e ss)

-- all from the operations on
abbrev of_event : (List ℕ → List ℕ) → ℕ → List ℕ → Event → Result Checked EventFault
of_event digest bits previous e =
    ensure (bytes_eq e.before previous) OtherPrevious
    >>= (λ same. sections_of digest e.commit e.blocks
    >>= (λ ss. shown_commit digest bits previous ss e >>= (λ c. Ok (record { event = e; commit = c; sections = ss }))))

event-is : (digest : List ℕ → List ℕ) (bits : ℕ) (previous : List ℕ) (e : Event)
    → of_event digest bits previous e ≡ with_event digest bits previous e
event-is digest bits previous e =
    bind-same (ensure (bytes_eq e.before previous) OtherPrevious)
    (λ same. sections_of digest e.commit e.blocks
    >>= (λ ss. shown_commit digest bits previous ss e >>= (λ c. Ok (record { event = e; commit = c; sections = ss }))))
    (λ same. sections_of digest e.commit e.blocks >>= (λ ss. with_sections digest bits previous e ss))
    (λ same. bind-same (sections_of digest e.commit e.blocks)
    (λ ss. shown_commit digest bits previous ss e >>= (λ c. Ok (record { event = e; commit = c; sections = ss })))
    (λ ss. with_sections digest bits previous e ss)
    (λ ss. sections-is digest bits previous e ss))

steps-are : (digest : List ℕ → List ℕ) (bits : ℕ) (previous message : List ℕ)
    → event_verdict digest bits previous message ≡ commit_verdict digest bits previous message
unfolding event_verdict single_event
steps-are digest bits previous message =
    bind-two (of_form (read_event message)) (λ e. single_keys e.ops) (of_event digest bits previous)
    ∙ bind-same (of_form (read_event message)) (λ e. single_keys e.ops >>= (λ single. of_event digest bits previous e))
    (λ e. single_keys e.ops >>= (λ single. with_event digest bits previous e))
    (λ e. bind-same (single_keys e.ops) (λ single. of_event digest bits previous e)
    (λ single. with_event digest bits previous e) (λ single. event-is digest bits previous e))
    ∙ whole-is digest bits previous message

pub verdict-is : {X E : Type 0} (view : X → Checked) (fault : E → Option EventFault) (digest : List ℕ → List ℕ) (bits : ℕ)
    (previous message : List ℕ) (r : Result X E) → Gives view fault r (event_verdict digest bits previous message)
    → Gives view fault r (commit_verdict digest bits previous message)
verdict-is view fault digest bits previous message r h = subst (Gives view fault r) (steps-are digest bits previous message) h

-- ---- what it means

pub verdict-true : {X E : Type 0} (view : X → Checked) (fault : E → Option EventFault) (digest : List ℕ → List ℕ) (bits : ℕ)
    → IsDigest digest → (previous message : List ℕ) (r : Result X E)
    → Gives view fault r (event_verdict digest bits previous message) → IfOk r (λ x. IsTrue digest bits previous (view x))
verdict-true view fault digest bits fits previous message (Ok x) h =
    taken-is_true digest bits fits previous message (view x) (sym (steps-are digest bits previous message) ∙ h)
verdict-true view fault digest bits fits previous message (Err e) h = tt

-- ---- keys

was-form : {A : Type 0} (r : Result A FormFault) (x : A) → of_form r ≡ Ok x → r ≡ Ok x
was-form (Ok y) x e = cc
was-form (Err f) x e = absurd cc

pub keyed-read : (message : List ℕ) (e : Event) → of_form (read_event message) ≡ Ok e → doubled_after [] 0 e.ops ≡ None
    → are_changes (undone (ordered_ops e.ops)) ≡ true
keyed-read message e is single =
    keyed-changes (undone (ordered_ops e.ops))
    (keyed-ordered e.ops single (keys-read message e (was-form (read_event message) e is)))
