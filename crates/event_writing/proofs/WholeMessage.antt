-- The message in its steps is the message, and what is written is taken.
use Rattle.std.proofs.Common.{◌≡◌, ℕ, List, Option, Result, Ok, Err, refl, sym, ap, subst, ◌∙◌}
use Rattle.std.specs.Prelude.{IfOk}
use Rattle.std.specs.declared.option.Option.TheVariants.{Some, None}
use Rattle.spec.specs.Reading.{◌>>=◌, Fails, Gives}
use Rattle.spec.specs.Cid.{IsDigest, cid}
use Rattle.spec.specs.Blocks.{root}
use Rattle.spec.specs.Stamps.{Stamp, Stamped, last, stamp_of}
use Rattle.spec.specs.States.{State, IsLawful, last_stamp, records}
use Rattle.batch_laws.specs.Batch.{AreKeyed}
use Rattle.change_laws.specs.Told.{KeyChange, undone}
use Rattle.event_laws.specs.Events.{Event, event_bytes}
use Rattle.event_laws.specs.Verdict.{commit_verdict}
use Rattle.event_writing_laws.specs.Telling.{Told, UntoldFault as Untold, NoBatch, or_no_batch, told_ops, told_test}
use Rattle.event_writing_laws.specs.Messages.{batch_event, batch_message, commit_over, event_of, file_of, left_test, short_file, stamped_event}
use Rattle.event_writing_laws.proofs.Taken.{written-is_taken}
use Rattle.event_writing.specs.Steps.{IsTaken, left_file, message_with, stamped_message}

-- ---- steps in a row

module _ {A B C : Type 0} where
  pub rebound : (r : Result A Untold) (f : A → Result B Untold) (g : B → Result C Untold) (h : A → Result C Untold)
      → ((x : A) → (f x >>= g) ≡ h x) → ((r >>= f) >>= g) ≡ (r >>= h)
  rebound (Ok x) f g h e = e x
  rebound (Err d) f g h e = refl

module _ (digest : List ℕ → List ℕ) (bits : ℕ) (m : List (List ℕ × List ℕ)) (before : List ℕ) (cs : List KeyChange) (told : Told) where
  abbrev spelled : Event → Result (List ℕ) Untold
  spelled e = Ok (event_bytes e)

  module _ (stamp : Stamp) where
    abbrev block : List ℕ
    block = commit_over digest bits stamp told.sig m

    -- the event and the message of a file
    abbrev with_file : List KeyChange → List ℕ → Event
    with_file ops file = event_of told stamp (cid digest block) file ops before

    of-file : (ops : List KeyChange)
        → ((left_test digest m ops >>= (λ x. short_file (file_of digest bits block m ops) >>= (λ file. Ok (with_file ops file)))) >>= spelled)
        ≡ message_with digest bits m stamp block before ops told
    unfolding left_file message_with
    of-file ops =
        rebound (left_test digest m ops) (λ x. short_file (file_of digest bits block m ops) >>= (λ file. Ok (with_file ops file))) spelled
        (λ x. short_file (file_of digest bits block m ops) >>= (λ file. Ok (event_bytes (with_file ops file))))
        (λ x. rebound (short_file (file_of digest bits block m ops)) (λ file. Ok (with_file ops file)) spelled (λ file. Ok (event_bytes (with_file ops file))) (λ file. refl))
        ∙ sym (rebound (left_test digest m ops) (λ x. short_file (file_of digest bits block m ops)) (λ file. Ok (event_bytes (with_file ops file)))
        (λ x. short_file (file_of digest bits block m ops) >>= (λ file. Ok (event_bytes (with_file ops file)))) (λ x. refl))

    of-stamp : (stamped_event digest bits m stamp before cs told >>= spelled) ≡ stamped_message digest bits m stamp before cs told
    unfolding stamped_event stamped_message
    of-stamp =
        rebound (told_test told stamp.rev) _ spelled _ (λ x. rebound (told_ops cs) _ spelled _ of-file)

pub message-is : (digest : List ℕ → List ℕ) (bits : ℕ) (s : State) (before : List ℕ) (cs : List KeyChange) (told : Told)
    → batch_message digest bits s before cs told
    ≡ (or_no_batch (last_stamp s) >>= (λ stamp. stamped_message digest bits (records s) stamp before cs told))
unfolding batch_message batch_event
message-is digest bits s before cs told =
    rebound (or_no_batch (last_stamp s)) (λ stamp. stamped_event digest bits (records s) stamp before cs told)
    (λ (e : Event). Ok (event_bytes e)) (λ stamp. stamped_message digest bits (records s) stamp before cs told)
    (of-stamp digest bits (records s) before cs told)

-- the message of a file that was made
pub with-made : (digest : List ℕ → List ℕ) (bits : ℕ) (m : List (List ℕ × List ℕ)) (stamp : Stamp) (commit before : List ℕ)
    (ops : List KeyChange) (told : Told) (file file2 named bytes : List ℕ) → left_file digest bits m commit ops ≡ Ok file
    → named ≡ cid digest commit → file2 ≡ file → bytes ≡ event_bytes (event_of told stamp named file2 ops before)
    → message_with digest bits m stamp commit before ops told ≡ Ok bytes
unfolding message_with
with-made digest bits m stamp commit before ops told file file2 named bytes is n f b =
    ap (λ (r : Result (List ℕ) Untold). r >>= (λ (x : List ℕ). Ok (event_bytes (event_of told stamp (cid digest commit) x ops before)))) is
    ∙ ap (λ (x : List ℕ). Ok x) (sym (b ∙ ap (λ (x : List ℕ). event_bytes (event_of told stamp x file2 ops before)) n
    ∙ ap (λ (x : List ℕ). event_bytes (event_of told stamp (cid digest commit) x ops before)) f))

-- or where there is no file
pub file-fails : (digest : List ℕ → List ℕ) (bits : ℕ) (m : List (List ℕ × List ℕ)) (stamp : Stamp) (commit before : List ℕ)
    (ops : List KeyChange) (told : Told) (o : Option Untold) → Fails o (left_file digest bits m commit ops)
    → Fails o (message_with digest bits m stamp commit before ops told)
unfolding message_with
file-fails digest bits m stamp commit before ops told None h = tt
file-fails digest bits m stamp commit before ops told (Some f) h =
    ap (λ (r : Result (List ℕ) Untold). r >>= (λ (x : List ℕ). Ok (event_bytes (event_of told stamp (cid digest commit) x ops before)))) h

-- what is said of a message, once what stands beside it and its operations were tested
pub tested-gives : {T E : Type 0} (digest : List ℕ → List ℕ) (bits : ℕ) (m : List (List ℕ × List ℕ)) (stamp : Stamp) (before : List ℕ)
    (cs ops ops2 : List KeyChange) (told : Told) (rev : List ℕ) (x : Unit {0}) → rev ≡ stamp.rev → told_test told rev ≡ Ok x
    → told_ops cs ≡ Ok ops → ops2 ≡ ops → (view : T → List ℕ) (fault : E → Option Untold) (r : Result T E)
    → Gives view fault r (message_with digest bits m stamp (commit_over digest bits stamp told.sig m) before ops2 told)
    → Gives view fault r (stamped_message digest bits m stamp before cs told)
unfolding stamped_message
tested-gives digest bits m stamp before cs ops ops2 told rev x same tested made are view fault r h =
    let commit = commit_over digest bits stamp told.sig m in
    let is : stamped_message digest bits m stamp before cs told ≡ message_with digest bits m stamp commit before ops2 told =
    ap (λ (t : Result (Unit {0}) Untold). t >>= (λ y. told_ops cs >>= (λ os. message_with digest bits m stamp commit before os told)))
    (ap (told_test told) (sym same) ∙ tested)
    ∙ ap (λ (t : Result (List KeyChange) Untold). t >>= (λ os. message_with digest bits m stamp commit before os told)) made
    ∙ ap (λ (os : List KeyChange). message_with digest bits m stamp commit before os told) (sym are) in
    subst (λ (t : Result (List ℕ) Untold). Gives view fault r t) (sym is) h

-- or where what stands beside it can't be told
pub told-fails : (digest : List ℕ → List ℕ) (bits : ℕ) (m : List (List ℕ × List ℕ)) (stamp : Stamp) (before : List ℕ)
    (cs : List KeyChange) (told : Told) (rev : List ℕ) (o : Option Untold) → rev ≡ stamp.rev → Fails o (told_test told rev)
    → Fails o (stamped_message digest bits m stamp before cs told)
unfolding stamped_message
told-fails digest bits m stamp before cs told rev None same h = tt
told-fails digest bits m stamp before cs told rev (Some f) same h =
    let commit = commit_over digest bits stamp told.sig m in
    ap (λ (t : Result (Unit {0}) Untold). t >>= (λ y. told_ops cs >>= (λ os. message_with digest bits m stamp commit before os told)))
    (ap (told_test told) (sym same) ∙ h)

-- or where its operations can't be told
pub ops-fail : (digest : List ℕ → List ℕ) (bits : ℕ) (m : List (List ℕ × List ℕ)) (stamp : Stamp) (before : List ℕ)
    (cs : List KeyChange) (told : Told) (rev : List ℕ) (x : Unit {0}) (o : Option Untold) → rev ≡ stamp.rev
    → told_test told rev ≡ Ok x → Fails o (told_ops cs) → Fails o (stamped_message digest bits m stamp before cs told)
unfolding stamped_message
ops-fail digest bits m stamp before cs told rev x None same tested h = tt
ops-fail digest bits m stamp before cs told rev x (Some f) same tested h =
    let commit = commit_over digest bits stamp told.sig m in
    ap (λ (t : Result (Unit {0}) Untold). t >>= (λ y. told_ops cs >>= (λ os. message_with digest bits m stamp commit before os told)))
    (ap (told_test told) (sym same) ∙ tested)
    ∙ ap (λ (t : Result (List KeyChange) Untold). t >>= (λ os. message_with digest bits m stamp commit before os told)) h

-- of a batch with this stamp, and before the first one
pub message-stamped : (digest : List ℕ → List ℕ) (bits : ℕ) (s : State) (before : List ℕ) (cs : List KeyChange) (told : Told)
    (ss : List Stamped) (stamp : Stamp) → ss ≡ s.stamps → ◌≡◌ {A = Option Stamp} (Some stamp) (stamp_of (last ss))
    → batch_message digest bits s before cs told ≡ stamped_message digest bits (records s) stamp before cs told
message-stamped digest bits s before cs told ss stamp same is =
    message-is digest bits s before cs told
    ∙ ap (λ (o : Option Stamp). or_no_batch o >>= (λ x. stamped_message digest bits (records s) x before cs told))
    (ap (λ (xs : List Stamped). stamp_of (last xs)) (sym same) ∙ sym is)

pub message-none : (digest : List ℕ → List ℕ) (bits : ℕ) (s : State) (before : List ℕ) (cs : List KeyChange) (told : Told)
    (ss : List Stamped) → ss ≡ s.stamps → ◌≡◌ {A = Option Stamp} None (stamp_of (last ss))
    → batch_message digest bits s before cs told ≡ Err NoBatch
message-none digest bits s before cs told ss same is =
    message-is digest bits s before cs told
    ∙ ap (λ (o : Option Stamp). or_no_batch o >>= (λ x. stamped_message digest bits (records s) x before cs told))
    (ap (λ (xs : List Stamped). stamp_of (last xs)) (sym same) ∙ sym is)

pub gives-stamped : {T E : Type 0} (digest : List ℕ → List ℕ) (bits : ℕ) (s : State) (before : List ℕ) (cs : List KeyChange)
    (told : Told) (ss : List Stamped) (stamp : Stamp) → ss ≡ s.stamps → ◌≡◌ {A = Option Stamp} (Some stamp) (stamp_of (last ss))
    → (view : T → List ℕ) (fault : E → Option Untold) (r : Result T E)
    → Gives view fault r (stamped_message digest bits (records s) stamp before cs told)
    → Gives view fault r (batch_message digest bits s before cs told)
gives-stamped digest bits s before cs told ss stamp same is view fault r h =
    subst (λ (m : Result (List ℕ) Untold). Gives view fault r m) (sym (message-stamped digest bits s before cs told ss stamp same is)) h

-- ---- what is written is taken

same-ok : {A : Type 0} (x y : A) → ◌≡◌ {A = Result A Untold} (Ok x) (Ok y) → x ≡ y
same-ok x y e = cc

bytes-are : (digest : List ℕ → List ℕ) (bits : ℕ) (s : State) (before : List ℕ) (cs : List KeyChange) (told : Told) (e : Event)
    (message : List ℕ) → batch_event digest bits s before cs told ≡ Ok e → batch_message digest bits s before cs told ≡ Ok message
    → event_bytes e ≡ message
unfolding batch_message
bytes-are digest bits s before cs told e message made is =
    same-ok (event_bytes e) message (sym (ap (λ (r : Result Event Untold). r >>= (λ (x : Event). Ok (event_bytes x))) made) ∙ is)

pub is-taken : (digest : List ℕ → List ℕ) (bits : ℕ) → IsDigest digest → (s : State) → IsLawful s → (before : List ℕ)
    (cs : List KeyChange) → AreKeyed (undone cs) → (told : Told) (message : List ℕ)
    → batch_message digest bits s before cs told ≡ Ok message → IsTaken digest bits s before cs told message
is-taken digest bits fits s lawful before cs keyed told message is stamp old root_is from e made =
    let at_root : batch_event digest bits s (root digest bits old) cs told ≡ Ok e =
    ap (λ (b : List ℕ). batch_event digest bits s b cs told) (sym root_is) ∙ made in
    ap (λ (b : List ℕ). commit_verdict digest bits b message) root_is
    ∙ ap (commit_verdict digest bits (root digest bits old)) (sym (bytes-are digest bits s before cs told e message made is))
    ∙ written-is_taken digest bits fits s lawful stamp cs keyed told old from e at_root

pub gives-taken : {T E : Type 0} (digest : List ℕ → List ℕ) (bits : ℕ) → IsDigest digest → (s : State) → IsLawful s → (before : List ℕ)
    (cs : List KeyChange) → AreKeyed (undone cs) → (told : Told) (view : T → List ℕ) (fault : E → Option Untold) (r : Result T E)
    → Gives view fault r (batch_message digest bits s before cs told)
    → IfOk r (λ x. IsTaken digest bits s before cs told (view x))
gives-taken digest bits fits s lawful before cs keyed told view fault (Ok x) h =
    is-taken digest bits fits s lawful before cs keyed told (view x) h
gives-taken digest bits fits s lawful before cs keyed told view fault (Err e) h = tt
