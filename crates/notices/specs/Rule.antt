-- The rule of the queue: what each writer sent is what was received of it, and then what the queue holds of it.
use Rattle.std.specs.Prelude.{◌≡◌, ℕ, ◌<◌, true, false, cond, ◌==◌, nat_lt, List, [], ◌∷◌, ◌++◌, All, count_by, sum_by}
use mathlib.Core.Option.{some}
use lib.ListN.{get_elem?}
use Rattle.notices.specs.declared.notice.Notice.{Notice}
use Rattle.notices.specs.declared.rule.Account.{Account}
use Rattle.notices.specs.declared.rule.View.{View}
use Rattle.notices.specs.Numbering.{of, IsNumbered}

abbrev pub account : ℕ → List Notice → Account
account writer sent = record { writer = writer; sent = sent }

-- what a writer's pass knows
abbrev pub sender : ℕ → List Notice → View
sender writer sent = record { feeds = false; made = 0; received = []; accounts = account writer sent ∷ [] }

-- what the feed knows
abbrev pub feeder : ℕ → List Notice → List Account → View
feeder made received accounts = record { feeds = true; made = made; received = received; accounts = accounts }

-- what a pass knows that joined another
abbrev pub nobody : View
nobody = record { feeds = false; made = 0; received = []; accounts = [] }

-- how many of the accounts are this writer's
abbrev pub count_of : ℕ → List Account → ℕ
count_of writer accounts = count_by (λ a. a.writer == writer) accounts

-- the same of what a pass knows
abbrev pub accounts_of : ℕ → View → ℕ
accounts_of writer v = count_of writer v.accounts

-- 1 for each number below n
abbrev pub one_below : ℕ → ℕ → ℕ
one_below n k = cond (nat_lt k n) 1 0

-- each account is what all has of its writer
abbrev pub Agree : List Notice → List Account → Type 0
Agree all accounts = All (λ a. a.sent ≡ of a.writer all) accounts

-- what the rule says of one pass
pub record Fits (feed made : ℕ) (received all : List Notice) (pass : ℕ) (v : View) : Type 0 where
  pub is_feed : v.feeds ≡ true → (pass ≡ feed) × (v.made ≡ made) × (v.received ≡ received)
  pub agree : Agree all v.accounts

-- The rule. One pass is the feed, which received this and made so many writers' passes. The notices of each writer,
-- received or in the queue, are numbered in order, and are of a writer whose pass was made. Each such writer has one
-- account, with its own pass or with one that it joined: what was received of it, and then what the queue holds of it.
pub record Kept (items : List Notice) (views : List View) : Type 0 where
  pub feed : ℕ
  pub made : ℕ
  pub received : List Notice
  pub numbered : IsNumbered (received ++ items)
  pub known : All (λ n. n.writer < made) (received ++ items)
  pub once : (writer : ℕ) → sum_by (accounts_of writer) views ≡ one_below made writer
  pub fits : (pass : ℕ) (v : View) → get_elem? views pass ≡ some v → Fits feed made received (received ++ items) pass v
