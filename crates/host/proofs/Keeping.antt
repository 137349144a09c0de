-- What a writer keeps stays in order.
use Rattle.std.proofs.Common.{◌≡◌, suc, ◌+◌, ◌%◌, ◌^◌, List, [], ◌∷◌, ◌++◌, length, sym, ap, ◌∙◌, subst, arith, append_assoc, length-append}
use Rattle.std.proofs.lemmas.List.Elements.{All-push}
use Rattle.notices.specs.declared.notice.Notice.{Notice}
use Rattle.notices.specs.Numbering.{NumberedFrom}
use Rattle.notices.specs.Views.{PassView, SenderView, WasFull, sent_one, refused_once}
use Rattle.std.proofs.Common.{ℕ}
use Rattle.ended.specs.Ending.{notices_told}
use Rattle.host.specs.Views.{IsOrderly}

-- one more has the next number
numbered_push : (k : ℕ) (kept : List Notice) (n : Notice) → NumberedFrom k kept → n.seq ≡ k + length kept → NumberedFrom k (kept ++ n ∷ [])
numbered_push k [] n h seq = (omega arith, tt)
numbered_push k (m ∷ kept) n h seq = (h.0, numbered_push (suc k) kept n h.1 (omega arith))

pub orderly_push : (pass : PassView) (kept : List Notice) (n : Notice) → IsOrderly pass kept → n.writer ≡ pass.writer → n.seq ≡ length pass.sent + length kept + 1 → IsOrderly pass (kept ++ n ∷ [])
orderly_push pass kept n h by seq = record {
  own = All-push (λ m. m.writer ≡ pass.writer) kept n h.own by;
  numbered = numbered_push (length pass.sent + 1) kept n h.numbered (omega arith);
}

-- the first of the kept notices is the next one to be sent
pub orderly_first : (pass : PassView) (n : Notice) (rest : List Notice) → IsOrderly pass (n ∷ rest) → (n.writer ≡ pass.writer) × (n.seq ≡ length pass.sent + 1)
orderly_first pass n rest h = (h.own 0 n (omega arith), h.numbered.0)

pub orderly_rest : (pass : PassView) (n : Notice) (rest : List Notice) → IsOrderly pass (n ∷ rest) → IsOrderly (sent_one pass n) rest
orderly_rest pass n rest h = record {
  own = λ k d lt. h.own (suc k) d (omega arith);
  numbered = subst (λ k. NumberedFrom k rest) (let e = length-append pass.sent (n ∷ []) in omega arith) h.numbered.1;
}

pub told_rest : (pass : PassView) (n : Notice) (rest : List Notice) → notices_told (sent_one pass n) rest ≡ notices_told pass (n ∷ rest)
told_rest pass n rest = append_assoc pass.sent (n ∷ []) rest

-- a queue that gave a notice back was full, and has counted that once
pub given_back : (room before : ℕ) (was now : SenderView) → now ≡ refused_once was → WasFull was.room was.pass → was.room ≡ room → was.refused ≡ before → WasFull room now.pass × (now.refused ≡ (before + 1) % 2 ^ 64)
given_back room before was now once full same first = (
  subst (λ r. WasFull r now.pass) same (subst (WasFull was.room) (sym (ap (λ (s : SenderView). s.pass) once)) full),
  ap (λ (s : SenderView). s.refused) once ∙ ap (λ (n : ℕ). (n + 1) % 2 ^ 64) first,
)
