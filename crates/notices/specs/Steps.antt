-- What each step tells the thread that makes it.
use Rattle.std.specs.Prelude.{◌≡◌, ℕ, ◌<◌, ◌≤◌, List, [], ◌∷◌, ◌++◌, All}
use Rattle.notices.specs.declared.notice.Notice.{Notice}
use Rattle.notices.specs.declared.rule.Account.{Account}
use Rattle.notices.specs.declared.rule.View.{View}
use Rattle.notices.specs.Numbering.{of, IsNumbered}
use Rattle.notices.specs.Rule.{account, feeder, count_of, one_below, Agree}

-- the first account, with one notice more
abbrev pub add : Notice → List Account → List Account
add n [] = []
add n (a ∷ others) = account a.writer (a.sent ++ n ∷ []) ∷ others

-- a put: the notice is added to the pass's account
abbrev pub HasPut : View → Notice → View → Type 0
HasPut v n w = w ≡ record { feeds = v.feeds; made = v.made; received = v.received; accounts = add n v.accounts }

-- a put on a full queue: what the queue holds of a writer is the end of its account
abbrev pub EndsWith : View → List Notice → Type 0
EndsWith v items = All (λ a. (before : List Notice) × (a.sent ≡ before ++ of a.writer items)) v.accounts

-- a take: the notice was received, and what was received is numbered, and of a writer whose pass was made
abbrev pub HasTaken : View → Notice → View → Type 0
HasTaken v n w = (w ≡ feeder v.made (v.received ++ n ∷ []) v.accounts) × IsNumbered (v.received ++ n ∷ []) × (n.writer < v.made)

-- no two of the accounts are of one writer, and each writer's number is below n
abbrev pub AreDistinct : ℕ → List Account → Type 0
AreDistinct n accounts = (writer : ℕ) → count_of writer accounts ≤ one_below n writer

-- a take on an empty queue: what the joined writers sent is what was received and what the queue holds, and they are distinct
abbrev pub Balances : View → List Notice → Type 0
Balances v items = Agree (v.received ++ items) v.accounts × AreDistinct v.made v.accounts
