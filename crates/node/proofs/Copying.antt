-- Entries of a node that are copied to a writer.
use Rattle.std.proofs.Common.{◌≡◌, ℕ, ◌+◌, ◌-◌, ◌^◌, ◌<◌, ◌≤◌, List, [], ◌++◌, length, take, drop, Option, Ok, IsOk, sym, ap, subst, ◌∙◌, arith}
use Rattle.std.proofs.lemmas.List.{length-drop, length-take}
use Rattle.spec.specs.NodeFormat.{Entry}
use Rattle.node.specs.Contents.{Contents, last_key, entries_in, IsWritten}
use Rattle.node.specs.Runs.{Begins, after_keys}
use Rattle.node.proofs.Passing.{Passed, begins-keys, begins-passed}
use Rattle.node.proofs.Writing.{contents, WritesMore, count-more, more_written}

pub written_after : (bytes room text more : List ℕ) → text ≡ room ++ more → room ≡ bytes → text ≡ bytes ++ more
written_after bytes room text more is same = is ∙ ap (λ (x : List ℕ). x ++ more) same

-- a writer that holds so much, and the bytes of a node from an entry on that goes on from its last key
pub record Copies (n from to : ℕ) (bytes last start : List ℕ) (left : Option (List ℕ)) (now : Contents) (es : List Entry) : Type 0 where
  pub written : IsWritten n bytes last
  pub shown : contents left (entries_in n bytes) ≡ now
  pub follows : last_key [] now.entries ≡ last_key [] (take from es)
  pub order : from ≤ to
  pub within : to ≤ length es
  pub begins : Begins start (last_key [] (take from es)) (drop from es)

begins-last : (n from to : ℕ) (bytes last start : List ℕ) (left : Option (List ℕ)) (now : Contents) (es : List Entry) → Copies n from to bytes last start left now es → Begins start last (drop from es)
begins-last n from to bytes last start left now es c =
    subst (λ (k : List ℕ). Begins start k (drop from es)) (sym (c.written.ended ∙ ap (λ (x : Contents). last_key [] x.entries) c.shown ∙ c.follows)) c.begins

left-of : (from to : ℕ) (es : List Entry) → from ≤ to → to ≤ length es → to - from ≤ length (drop from es)
left-of from to es order within = omega (arith, length-drop from es)

-- the entries can be passed over
pub copies-pass : (n from to : ℕ) (bytes last start : List ℕ) (left : Option (List ℕ)) (now : Contents) (es : List Entry) → Copies n from to bytes last start left now es → IsOk (after_keys (to - from) last start)
copies-pass n from to bytes last start left now es c =
    begins-keys (to - from) start last (drop from es) (begins-last n from to bytes last start left now es c) (left-of from to es c.order c.within)

pub copies-passed : (n from to : ℕ) (bytes last start rest key : List ℕ) (left : Option (List ℕ)) (now : Contents) (es : List Entry) → Copies n from to bytes last start left now es
    → after_keys (to - from) last start ≡ Ok (key, rest) → Passed start last rest key (take (to - from) (drop from es))
copies-passed n from to bytes last start rest key left now es c after =
    begins-passed (to - from) start last (drop from es) rest key (begins-last n from to bytes last start left now es c) (left-of from to es c.order c.within) after

-- what was passed over is written behind the writer's own
copies-more : (n from to : ℕ) (bytes last start rest key text : List ℕ) (left : Option (List ℕ)) (now : Contents) (es : List Entry) → Copies n from to bytes last start left now es
    → after_keys (to - from) last start ≡ Ok (key, rest) → text ≡ bytes ++ take (length start - length rest) start → WritesMore bytes last text key (take (to - from) (drop from es))
copies-more n from to bytes last start rest key text left now es c after is =
    let p = copies-passed n from to bytes last start rest key left now es c after in
    record {
      text_is = is ∙ ap (λ (x : List ℕ). bytes ++ x) p.spelled;
      whole_is = p.ended;
      ascending = p.ascending;
      linked = p.linked;
    }

length-run : (from to : ℕ) (es : List Entry) → from ≤ to → to ≤ length es → length (take (to - from) (drop from es)) ≡ to - from
length-run from to es order within = omega (arith, length-drop from es, length-take (to - from) (drop from es))

pub copies-count : (n from to : ℕ) (bytes last start rest key text : List ℕ) (left : Option (List ℕ)) (now : Contents) (es : List Entry) → Copies n from to bytes last start left now es
    → after_keys (to - from) last start ≡ Ok (key, rest) → text ≡ bytes ++ take (length start - length rest) start → n + (to - from) ≤ length text
copies-count n from to bytes last start rest key text left now es c after is =
    let more = count-more n bytes last text key (take (to - from) (drop from es)) c.written (copies-more n from to bytes last start rest key text left now es c after is) in
    omega (arith, more, length-run from to es c.order c.within)

pub copies-written : (n from to : ℕ) (bytes last start rest key text : List ℕ) (left : Option (List ℕ)) (now : Contents) (es : List Entry) → Copies n from to bytes last start left now es
    → after_keys (to - from) last start ≡ Ok (key, rest) → text ≡ bytes ++ take (length start - length rest) start → n + (to - from) < 2 ^ 64
    → IsWritten (n + (to - from)) text key × (contents left (entries_in (n + (to - from)) text) ≡ contents now.left (now.entries ++ take (to - from) (drop from es)))
copies-written n from to bytes last start rest key text left now es c after is fits =
    let run : List Entry = take (to - from) (drop from es) in
    let w = copies-more n from to bytes last start rest key text left now es c after is in
    let len : length run ≡ to - from = length-run from to es c.order c.within in
    more_written n (n + (to - from)) bytes last text key run left now c.written w (ap (λ (k : ℕ). n + k) (sym len)) c.shown fits
