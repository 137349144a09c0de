-- The moves at a view that is known, and what they tell.
use Rattle.std.proofs.Common.{◌≡◌, ℕ, ◌+◌, ◌<◌, true, List, [], ◌∷◌, ◌++◌, append-nil, length, Option, Some, None, Result, Ok, Err, sym, refl, ap, ◌∙◌, subst, arith}
use Rattle.std.specs.Prelude.{All, MatchOption, MatchResult}
use Rattle.std.specs.List.{range_with_len}
use Rattle.std.proofs.lemmas.List.Elements.{All-map}
use Rattle.crossbeam_queue.specs.Fifo.{Pushes, Pops, Forks, Merges, Learns, Held}
use Rattle.notices.specs.declared.notice.Notice.{Notice}
use Rattle.notices.specs.declared.rule.View.{View}
use Rattle.notices.specs.Rule.{account, sender, feeder, nobody, Agree, Kept}
use Rattle.notices.specs.Steps.{add, HasPut, EndsWith, HasTaken, Balances, AreDistinct}
use Rattle.notices.specs.Views.{QueueId, PassView, first_sent, fresh, fresh_passes, pass_view, feed_view, IsSender, IsFeed, FeedView, IsPut, IsTake, WasEmpty, HaveAllJoined, HasEachOnce, IsAllReceived}
use Rattle.notices.proofs.Moves.{pushes, ends, pops, balances, forks, merges}
use Rattle.notices.proofs.Once.{each_once, own_one}

length_zero : {T : Type 0} (l : List T) → length l ≡ 0 → l ≡ []
length_zero [] e = refl
length_zero (x ∷ l) e = absurd (omega arith)

-- a feed's view by its parts
feed_is : (v : View) → v.feeds ≡ true → v ≡ feeder v.made v.received v.accounts
feed_is v f = λ i. record { feeds = f i; made = v.made; received = v.received; accounts = v.accounts }

pub pushes_as : (n pass w : ℕ) (v : View) (x : Notice) → IsSender w v → x.writer ≡ w → x.seq ≡ length (first_sent v.accounts) + 1 → Pushes Kept n pass v x (HasPut v x) × Learns Kept pass v (EndsWith v)
pushes_as n pass w v x is by seq =
    let P : View → Type 0 = λ u. Pushes Kept n pass u x (HasPut u x) in
    (subst P (sym is) (pushes n pass w (first_sent v.accounts) x by seq), ends pass v (ap (λ (u : View). u.feeds) is))

pub pops_as : (pass : ℕ) (v : View) → IsFeed v → Pops Kept pass v (HasTaken v) × Learns Kept pass v (Balances v)
pops_as pass v is =
    let P : View → Type 0 = λ u. Pops Kept pass u (HasTaken u) in
    (subst P (sym (feed_is v is.0)) (pops pass v.made v.received v.accounts), balances pass v is.0)

pub forks_as : (pass : ℕ) (v : View) → IsFeed v → Forks Kept pass v (feeder (v.made + 1) v.received v.accounts) (sender v.made [])
forks_as pass v is =
    let P : View → Type 0 = λ u. Forks Kept pass u (feeder (v.made + 1) v.received v.accounts) (sender v.made []) in
    subst P (sym (feed_is v is.0)) (forks pass v.made v.received v.accounts)

pub merges_as : (pass : ℕ) (v : View) (other w : ℕ) (u : View) → IsFeed v → IsSender w u → Merges Kept pass v other u (feeder v.made v.received (v.accounts ++ u.accounts)) nobody
merges_as pass v other w u is theirs =
    let P : View × View → Type 0 = λ p. Merges Kept pass p.0 other p.1 (feeder v.made v.received (v.accounts ++ p.1.accounts)) nobody in
    subst P (λ i. (sym (feed_is v is.0) i, sym theirs i)) (merges pass v.made v.received v.accounts other w (first_sent u.accounts))

-- what a put tells
pub put_told : {U : Type 0} (room w : ℕ) (q q' : QueueId) (v v' : View) (n : Notice) (r : Result U Notice) → IsSender w v → q' ≡ q
    → MatchResult r (λ _. HasPut v n v') (λ x. (x ≡ n) × (v' ≡ v) × Held room (EndsWith v))
    → IsPut room (pass_view q w v) n r (pass_view q' w v')
put_told {U} room w q q' v v' n (Ok u) is same h =
    let now : v' ≡ sender w (first_sent v.accounts ++ n ∷ []) = h ∙ ap (λ (x : View). record { feeds = x.feeds; made = x.made; received = x.received; accounts = add n x.accounts }) is in
    λ i. record { queue_id = same i; writer = w; sent = first_sent (now i).accounts }
put_told {U} room w q q' v v' n (Err x) is same h =
    let end = subst (λ (y : View). EndsWith y h.2.0) is h.2.2 in
    let mine = end 0 (account w []) (omega arith) in
    (h.0, (λ i. record { queue_id = same i; writer = w; sent = first_sent (h.1 i).accounts }), (h.2.0, h.2.1, mine))

-- it leaves a writer's view
pub put_keeps : {U : Type 0} (room w : ℕ) (v v' : View) (n : Notice) (r : Result U Notice) → IsSender w v
    → MatchResult r (λ _. HasPut v n v') (λ x. (x ≡ n) × (v' ≡ v) × Held room (EndsWith v)) → IsSender w v'
put_keeps {U} room w v v' n (Ok u) is h =
    let now : v' ≡ sender w (first_sent v.accounts ++ n ∷ []) = h ∙ ap (λ (x : View). record { feeds = x.feeds; made = x.made; received = x.received; accounts = add n x.accounts }) is in
    subst (IsSender w) (sym now) refl
put_keeps {U} room w v v' n (Err x) is h = subst (IsSender w) (sym h.1) is

-- where the accounts are distinct and all passes joined, each writer has one
pub each_told : (f : FeedView) → AreDistinct f.made f.joined → HaveAllJoined f → HasEachOnce f
each_told f h all = each_once f.made f.joined h all

-- and where the queue is empty too, that one is what was received
pub all_told : (f : FeedView) → WasEmpty f → AreDistinct f.made f.joined → HaveAllJoined f → IsAllReceived f
all_told f empty h all w lt = own_one w f.received f.joined empty (each_once f.made f.joined h all w lt)

-- what a take tells
pub take_told : (q q' : QueueId) (v v' : View) (r : Option Notice) → q' ≡ q
    → MatchOption r ((v' ≡ v) × Held 0 (Balances v)) (λ n. HasTaken v n v')
    → IsTake (feed_view q v) r (feed_view q' v')
take_told q q' v v' None same h =
    let items = h.1.0 in
    let none : v.received ++ items ≡ v.received = ap (λ l. v.received ++ l) (length_zero items h.1.1) ∙ append-nil v.received in
    let f : FeedView = feed_view q v in
    let empty : WasEmpty f = subst (λ l. Agree l v.accounts) none h.1.2.0 in
    let now : feed_view q' v' ≡ f = λ i. feed_view (same i) (h.0 i) in
    (now, subst WasEmpty (sym now) empty, subst (λ g. HaveAllJoined g → IsAllReceived g) (sym now) (all_told f empty h.1.2.1))
take_told q q' v v' (Some n) same h = ((λ i. feed_view (same i) (h.0 i)), subst (λ (m : ℕ). n.writer < m) (sym (ap (λ (x : View). x.made) h.0)) h.2)

-- each pass of a queue that was opened is of this queue, and has sent nothing
pub fresh_all : (q : QueueId) (writers : ℕ) → All (λ p. (p.queue_id ≡ q) × (p.sent ≡ [])) (fresh_passes q writers)
fresh_all q writers = All-map (λ (p : PassView). (p.queue_id ≡ q) × (p.sent ≡ [])) (fresh q) (range_with_len 0 writers) (λ k d lt. (refl, refl))
