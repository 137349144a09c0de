use Rattle.std.proofs.Common.{◌≡◌, true, false, refl}
use Rattle.std.specs.Str.{is_utf8}
use Rattle.std.proofs.lemmas.Str.{is_utf8-from_IsUtf8, IsUtf8-from_is_utf8, IsUtf8-from_ascii}
use Rattle.std.proofs.lemmas.Bool.{false_from_ne_true}
use Rattle.dagcbor.proofs.text.text.Goals as goal

pub from_utf8_unchecked-requires : goal.from_utf8_unchecked-requires
from_utf8_unchecked-requires c = IsUtf8-from_ascii _ c.if-is_ascii.ensures.cases

pub returns-then-is_ascii-clause-read : goal.returns-then-is_ascii-clause-read
returns-then-is_ascii-clause-read c =
    let found = c.in_ok-content.ensures.read in
    let utf8 : is_utf8 c.in_ok-content.content.now ≡ true = is_utf8-from_IsUtf8 _ (IsUtf8-from_ascii _ c.if-is_ascii.ensures.cases) in
    rw (found, utf8, c.from_utf8_unchecked.ensures) refl

pub returns-in-Ok-clause-read : goal.returns-in-Ok-clause-read
returns-in-Ok-clause-read c =
    let found = c.in_ok-content.ensures.read in
    let same = c.in-Ok.ensures.cases.0 in
    let utf8 : is_utf8 c.in_ok-content.content.now ≡ true = is_utf8-from_IsUtf8 _ c.in-Ok.ensures.cases.1 in
    rw (found, utf8, same) refl

pub returns-in-Err-clause-read : goal.returns-in-Err-clause-read
returns-in-Err-clause-read c =
    let found = c.in_ok-content.ensures.read in
    let not_utf8 : is_utf8 c.in_ok-content.content.now ≡ false = false_from_ne_true _ (λ e. c.in-Err.ensures.cases.0 (IsUtf8-from_is_utf8 _ e)) in
    rw (found, not_utf8) refl
