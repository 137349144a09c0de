use Rattle.std.proofs.Common.{◌≡◌, ℕ, [], ◌∷◌, ◌++◌, map, sym, ap, subst, ◌∙◌, arith}
use Rattle.std.specs.List.{range_with_len}
use Rattle.std.specs.Str.{IsUtf8}
use Rattle.std.proofs.lemmas.List.FromFn.{map-range_with_len_more}
use Rattle.spec.specs.Cid.{letter, text}
use Rattle.record_json.proofs.LinkTexts.{IsUtf8-text}
use Rattle.record_json.proofs.base32.cid_text.Goals as goal

pub loop-i-preserved : goal.loop-i-preserved
loop-i-preserved g c =
    let f = letter c.args.cid.now in
    let i = c.loop-i.i in
    c.in_ok-push-2.ensures.items ∙ ap (λ xs. xs ++ c.letter.result ∷ []) c.loop-i.invariant ∙ ap (λ x. 98 ∷ (map f (range_with_len 0 i) ++ x ∷ [])) c.letter.ensures
    ∙ ap (λ xs. 98 ∷ xs) (sym (map-range_with_len_more f 0 i i (omega arith)))

pub returns-clause-utf8 : goal.returns-clause-utf8
returns-clause-utf8 g c =
    let cid = c.args.cid.now in
    let whole : c.loop-i.text.items ≡ text cid = c.loop-i.invariant ∙ ap (λ (n : ℕ). 98 ∷ map (letter cid) (range_with_len 0 n)) (omega arith) in
    subst IsUtf8 (sym whole) (IsUtf8-text cid)
