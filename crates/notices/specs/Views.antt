-- What a contract sees of the queue and of its passes.
use Rattle.std.specs.Prelude.{◌≡◌, ◌<◌, true, ℕ, List, [], ◌∷◌, ◌++◌, ◌+◌, ◌%◌, ◌^◌, ◌==◌, map, filter, length, All, Option, Some, None, Result, Ok, Err}
use Rattle.std.specs.List.{range_with_len}
use Rattle.atomic_table.specs.Seated.{TableId}
use Rattle.notices.specs.declared.notice.Notice.{Notice}
use Rattle.notices.specs.declared.rule.Account.{Account}
use Rattle.notices.specs.declared.rule.View.{View}
use Rattle.notices.specs.Numbering.{of, IsNumbered}
use Rattle.notices.specs.Rule.{account, sender, count_of}

-- which queue it is
abbrev pub QueueId : Type 0
QueueId = TableId

-- a queue: which one it is, and how many notices it has room for
pub record QueueView : Type 0 where
  pub queue_id : QueueId
  pub room : ℕ

-- a writer's pass: of which queue, the writer's number, and all that it sent
pub record PassView : Type 0 where
  pub queue_id : QueueId
  pub writer : ℕ
  pub sent : List Notice

-- a writer at the queue, and how often it was refused, modulo 2 ^ 64
pub record SenderView : Type 0 where
  pub room : ℕ
  pub refused : ℕ
  pub pass : PassView

-- the feed: of which queue, how many writers' passes were made, what was received, and the accounts of those that joined
pub record FeedView : Type 0 where
  pub queue_id : QueueId
  pub made : ℕ
  pub received : List Notice
  pub joined : List Account

-- the account of a writer's pass
abbrev pub first_sent : List Account → List Notice
first_sent [] = []
first_sent (a ∷ others) = a.sent

-- what is known is a writer's
abbrev pub IsSender : ℕ → View → Type 0
IsSender writer v = v ≡ sender writer (first_sent v.accounts)

abbrev pub pass_view : QueueId → ℕ → View → PassView
pass_view queue_id writer v = record { queue_id = queue_id; writer = writer; sent = first_sent v.accounts }

-- what is known is the feed's
abbrev pub IsFeed : View → Type 0
IsFeed v = (v.feeds ≡ true) × IsNumbered v.received × All (λ n. n.writer < v.made) v.received

abbrev pub feed_view : QueueId → View → FeedView
feed_view queue_id v = record { queue_id = queue_id; made = v.made; received = v.received; joined = v.accounts }

-- a pass that has sent nothing
abbrev pub fresh : QueueId → ℕ → PassView
fresh queue_id writer = record { queue_id = queue_id; writer = writer; sent = [] }

-- the passes of the writers below a number
abbrev pub fresh_passes : QueueId → ℕ → List PassView
fresh_passes queue_id writers = map (fresh queue_id) (range_with_len 0 writers)

-- a feed that has received nothing, and nothing has joined it
abbrev pub fresh_feed : QueueId → ℕ → FeedView
fresh_feed queue_id made = record { queue_id = queue_id; made = made; received = []; joined = [] }

-- the pass after a notice was sent
abbrev pub sent_one : PassView → Notice → PassView
sent_one p n = record { queue_id = p.queue_id; writer = p.writer; sent = p.sent ++ n ∷ [] }

-- the sender after a notice was sent
abbrev pub with_sent : SenderView → Notice → SenderView
with_sent s n = record { room = s.room; refused = s.refused; pass = sent_one s.pass n }

-- the sender after a notice was given back
abbrev pub refused_once : SenderView → SenderView
refused_once s = record { room = s.room; refused = (s.refused + 1) % 2 ^ 64; pass = s.pass }

-- the feed after a notice was received
abbrev pub received_one : FeedView → Notice → FeedView
received_one f n = record { queue_id = f.queue_id; made = f.made; received = f.received ++ n ∷ []; joined = f.joined }

-- the feed after it made a pass
abbrev pub made_one : FeedView → FeedView
made_one f = record { queue_id = f.queue_id; made = f.made + 1; received = f.received; joined = f.joined }

-- the feed after a writer's pass joined it
abbrev pub joined_one : FeedView → PassView → FeedView
joined_one f p = record { queue_id = f.queue_id; made = f.made; received = f.received; joined = f.joined ++ account p.writer p.sent ∷ [] }

-- at some moment the queue held as many notices as it has room for, and what it held of this writer was the end of what it sent
abbrev pub WasFull : ℕ → PassView → Type 0
WasFull room p = (items : List Notice) × (length items ≡ room) × ((before : List Notice) × (p.sent ≡ before ++ of p.writer items))

-- at some moment the queue was empty: what the joined writers sent was received, each one's whole and in order
abbrev pub WasEmpty : FeedView → Type 0
WasEmpty f = All (λ a. a.sent ≡ of a.writer f.received) f.joined

-- as many passes joined as were made
abbrev pub HaveAllJoined : FeedView → Type 0
HaveAllJoined f = length f.joined ≡ f.made

-- each writer whose pass was made joined once
abbrev pub HasEachOnce : FeedView → Type 0
HasEachOnce f = (writer : ℕ) → writer < f.made → count_of writer f.joined ≡ 1

-- each writer whose pass was made joined once, and what it sent is what was received of it, in order
abbrev pub IsAllReceived : FeedView → Type 0
IsAllReceived f = (writer : ℕ) → writer < f.made → filter (λ a. a.writer == writer) f.joined ≡ account writer (of writer f.received) ∷ []

-- what came of a put: the notice was sent, or the queue was full and it was given back
abbrev pub IsPut : {U : Type 0} → ℕ → PassView → Notice → Result U Notice → PassView → Type 0
IsPut room old n (Ok u) new = new ≡ sent_one old n
IsPut room old n (Err back) new = (back ≡ n) × (new ≡ old) × WasFull room old

-- what came of a take: a notice was received, or the queue was empty
abbrev pub IsTake : FeedView → Option Notice → FeedView → Type 0
IsTake old None new = (new ≡ old) × WasEmpty new × (HaveAllJoined new → IsAllReceived new)
IsTake old (Some n) new = (new ≡ received_one old n) × (n.writer < new.made)
