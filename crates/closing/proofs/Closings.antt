-- What a close finds, at the values that it is given.
use Rattle.std.proofs.Common.{◌≡◌, ◌≢◌, ℕ, ◌<◌, ◌+◌, drop, get_or, arith, List, [], ◌∷◌, ◌++◌, length, map, sym, ap, ◌∙◌, subst, cond, nat_eq, Bool, true, false, Option, None, Some, Result, Ok, Err}
use Rattle.std.specs.Prelude.{filter, IfOk, IfSome, IfNone}
use Rattle.std.specs.declared.vec.Vec.{Vec}
use Rattle.std.proofs.lemmas.List.{length-map, at_drop_more}
use Rattle.std.proofs.lemmas.Bool.Decides.{nat_tests}
use Rattle.spec.specs.States.{State}
use Rattle.store.specs.Table.{Table}
use Rattle.notices.specs.declared.notice.Notice.{Notice}
use Rattle.notices.specs.declared.rule.Account.{Account}
use Rattle.notices.specs.Numbering.{of}
use Rattle.notices.specs.Rule.{account}
use Rattle.notices.specs.Views.{QueueId, FeedView, first_sent, received_one, HaveAllJoined, IsAllReceived}
use Rattle.closing.specs.Counts.{count_in}
use Rattle.ended.specs.Ending.{EndedView, account_of, joined_all, kept_by, notices_told, told_by}
use Rattle.closing.specs.Settling.{IsSettled, IsUneven, IsClosed, ClosedView, IsAllTold}
use Rattle.closing.specs.declared.mismatch.Mismatch.{Mismatch}

module _ (digest : List ℕ → List ℕ) (bits : ℕ) (tables : List Table) where
  pub settled_at : (ss ts : List State) (es fs : List EndedView) → ss ≡ ts → es ≡ fs → IsSettled digest bits ss tables es → IsSettled digest bits ts tables fs
  settled_at ss ts es fs s e h =
      subst (λ x. IsSettled digest bits ts tables x) e (subst (λ x. IsSettled digest bits x tables es) s h)

  pub uneven_at : (mismatch : Mismatch) (ss ts : List State) (es fs : List EndedView) → ss ≡ ts → es ≡ fs → IsUneven digest bits ss tables es mismatch
      → IsUneven digest bits ts tables fs mismatch
  uneven_at mismatch ss ts es fs s e h =
      subst (λ x. IsUneven digest bits ts tables x mismatch) e (subst (λ x. IsUneven digest bits x tables es mismatch) s h)

  -- the feed took in the passes of writers that are settled
  pub is_closed : (queue_id : QueueId) (cores : List State) (given new : FeedView) (ended settled : List EndedView) → given.queue_id ≡ queue_id → given.joined ≡ []
      → length ended ≡ given.made → new ≡ joined_all given ended → settled ≡ ended → IsSettled digest bits cores tables ended
      → IsClosed digest bits queue_id cores tables new settled
  is_closed queue_id cores given new ended settled id fresh all feed same h = record {
    queue = ap (λ (f : FeedView). f.queue_id) feed ∙ id;
    joined = ap (λ (f : FeedView). f.joined) feed ∙ ap (λ l. l ++ map account_of ended) fresh ∙ ap (map account_of) (sym same);
    all = ap length same ∙ all ∙ sym (ap (λ (f : FeedView). f.made) feed);
    settled = subst (λ x. IsSettled digest bits cores tables x) (sym same) h;
  }

  -- after a look at what is left
  pub closed_after : (queue_id : QueueId) (cores : List State) (old new : FeedView) (ended : List EndedView) → IsClosed digest bits queue_id cores tables old ended → (r : Option Notice)
      → IfSome r (λ n. new ≡ received_one old n) → IfNone r (new ≡ old) → IsClosed digest bits queue_id cores tables new ended
  closed_after queue_id cores old new ended h None some none = subst (λ (f : FeedView). IsClosed digest bits queue_id cores tables f ended) (sym none) h
  closed_after queue_id cores old new ended h (Some n) some none =
      subst (λ (f : FeedView). IsClosed digest bits queue_id cores tables f ended) (sym some) (record { queue = h.queue; joined = h.joined; all = h.all; settled = h.settled })

pub received_at : (r : Option Notice) (v old : ClosedView) (f : FeedView) → v ≡ old → IfSome r (λ n. f ≡ received_one v.feed n)
    → IfSome r (λ n. record v { feed = f } ≡ record old { feed = received_one old.feed n })
received_at None v old f view h = tt
received_at (Some n) v old f view h = subst (λ (o : ClosedView). record v { feed = f } ≡ record o { feed = received_one o.feed n }) view (λ i. record v { feed = h i })

pub unchanged_at : (r : Option Notice) (v old : ClosedView) (f : FeedView) → v ≡ old → IfNone r (f ≡ v.feed) → IfNone r (record v { feed = f } ≡ old)
unchanged_at None v old f view h = subst (λ (o : ClosedView). record v { feed = f } ≡ o) view (λ i. record v { feed = h i })
unchanged_at (Some n) v old f view h = tt

-- where the one account of a writer is what was received of it
told_whole : (ended : List EndedView) (writer : ℕ) (sent : List Notice) → filter (λ (a : Account). nat_eq a.writer writer) (map account_of ended) ≡ account writer sent ∷ []
    → sent ++ kept_by ended writer ≡ told_by ended writer
told_whole [] writer sent h = absurd cc
told_whole (e ∷ es) writer sent h = step (nat_eq e.pass.writer writer) (told_whole es writer sent) h
  where
    step : (b : Bool)
        → (filter (λ (a : Account). nat_eq a.writer writer) (map account_of es) ≡ account writer sent ∷ [] → sent ++ kept_by es writer ≡ told_by es writer)
        → cond b (account_of e ∷ filter (λ (a : Account). nat_eq a.writer writer) (map account_of es)) (filter (λ (a : Account). nat_eq a.writer writer) (map account_of es)) ≡ account writer sent ∷ []
        → sent ++ cond b e.kept (kept_by es writer) ≡ cond b (notices_told e.pass e.kept) (told_by es writer)
    step true rest h = ap (λ l. l ++ e.kept) (sym (ap first_sent h))
    step false rest h = rest h

pub told_at : (r : Option Notice) (new old : FeedView) (ended : List EndedView) → old.joined ≡ map account_of ended → length ended ≡ old.made
    → IfNone r (new ≡ old) → IfNone r (HaveAllJoined new → IsAllReceived new) → IfNone r (IsAllTold new ended)
told_at None new old ended joined all same received = λ writer less.
    let here : new.joined ≡ map account_of ended = ap (λ (f : FeedView). f.joined) same ∙ joined in
    let count : length new.joined ≡ new.made = ap length here ∙ length-map ended account_of ∙ all ∙ sym (ap (λ (f : FeedView). f.made) same) in
    told_whole ended writer (of writer new.received)
    (ap (filter (λ (a : Account). nat_eq a.writer writer)) (sym here) ∙ received count writer less)
told_at (Some n) new old ended joined all same received = tt

pub counts_at : {A E : Type 0} (r : Result (Vec (List ℕ × ℕ) A) E) (entries : List (List ℕ × ℕ)) (f : List ℕ → Option ℕ) → IfOk r (λ v. v.items ≡ entries)
    → ((cid : List ℕ) → count_in entries cid ≡ f cid) → IfOk r (λ v. (cid : List ℕ) → count_in v.items cid ≡ f cid)
counts_at (Ok v) entries f same h = λ cid. ap (λ es. count_in es cid) same ∙ h cid
counts_at (Err e) entries f same h = tt

-- the writer at a place, in a search by its number
module _ (ended : List EndedView) (place : ℕ) (e : EndedView) (writer : ℕ) (less : place < length ended) (is : e ≡ get_or ended place e) where
  kept_step : kept_by (drop place ended) writer ≡ cond (nat_eq e.pass.writer writer) e.kept (kept_by (drop (place + 1) ended) writer)
  kept_step =
      at_drop_more (λ (es : List EndedView). kept_by es writer) ended place e less
      ∙ ap (λ (x : EndedView). cond (nat_eq x.pass.writer writer) x.kept (kept_by (drop (place + 1) ended) writer)) (sym is)

  pub kept_found : (number : ℕ) → number ≡ e.pass.writer → number ≡ writer → e.kept ≡ kept_by (drop place ended) writer
  kept_found number mine same =
      let found : nat_eq e.pass.writer writer ≡ true = grind (arith, nat_tests) in
      sym (kept_step ∙ ap (λ b. cond b e.kept (kept_by (drop (place + 1) ended) writer)) found)

  pub kept_further : (number : ℕ) → number ≡ e.pass.writer → number ≢ writer → kept_by (drop (place + 1) ended) writer ≡ kept_by (drop place ended) writer
  kept_further number mine other =
      let missed : nat_eq e.pass.writer writer ≡ false = grind (arith, nat_tests) in
      sym (kept_step ∙ ap (λ b. cond b e.kept (kept_by (drop (place + 1) ended) writer)) missed)
