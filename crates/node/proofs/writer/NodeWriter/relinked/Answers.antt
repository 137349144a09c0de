use Rattle.std.proofs.Common.{◌≡◌, ◌-◌, ◌^◌, ◌<◌, ◌++◌, ℕ, List, Option, None, length, take, drop, option_map, refl, ap, ◌∙◌, arith}
use Rattle.std.proofs.lemmas.List.{take_rest, length-drop}
use Rattle.cid.specs.CidRef.{bytes_of}
use Rattle.node.proofs.Relinking.{field, last-relinked}
use Rattle.node.proofs.Writing.{count-fits}
use Rattle.node.proofs.writer.NodeWriter.relinked.Goals as goal

pub overflow_sub-at : goal.overflow_sub-at
overflow_sub-at g c =
    let s = c.self.inside in
    let v = s.entries in
    let small : s.count < 2 ^ 64 = omega (arith, count-fits s.count v.items s.last _ c.self.invariant, v.small, v.ok.0, v.ok.1) in
    let old = option_map bytes_of c.args.old in
    let last = last-relinked s.count v.items s.last s.left old None c.args.self c.self.invariant c.self.view_is small c.requires.some c.requires.old refl in
    let room = last.room in
    omega (arith, room, c.len-at.ensures, v.ok.0, v.ok.1)

pub copy_from_slice-requires : goal.copy_from_slice-requires
copy_from_slice-requires g c =
    let s = c.self.inside in
    let v = s.entries in
    let small : s.count < 2 ^ 64 = omega (arith, count-fits s.count v.items s.last _ c.self.invariant, v.small, v.ok.0, v.ok.1) in
    let old = option_map bytes_of c.args.old in
    let last = last-relinked s.count v.items s.last s.left old None c.args.self c.self.invariant c.self.view_is small c.requires.some c.requires.old refl in
    let room = last.room in
    let d = c.deref.result.now in
    let at = c.len-at.result - 43 in
    let whole = ap length (take_rest d at) in
    let same = ap length c.deref.ensures.value in
    omega (arith, room, c.len-at.ensures, whole, same, length-drop at d, v.ok.0, v.ok.1)

pub overflow_sub-at-2 : goal.overflow_sub-at-2
overflow_sub-at-2 g c =
    let s = c.self.inside in
    let v = s.entries in
    let small : s.count < 2 ^ 64 = omega (arith, count-fits s.count v.items s.last _ c.self.invariant, v.small, v.ok.0, v.ok.1) in
    let old = option_map bytes_of c.args.old in
    let last = last-relinked s.count v.items s.last s.left old None c.args.self c.self.invariant c.self.view_is small c.requires.some c.requires.old refl in
    let room = last.room in
    omega (arith, room, c.len-at.ensures, c.field_len.ensures, v.ok.0, v.ok.1)

pub invariant_of-result : goal.invariant_of-result
invariant_of-result g c =
    let s = c.self.inside in
    let v = s.entries in
    let small : s.count < 2 ^ 64 = omega (arith, count-fits s.count v.items s.last _ c.self.invariant, v.small, v.ok.0, v.ok.1) in
    let old = option_map bytes_of c.args.old in
    let last = last-relinked s.count v.items s.last s.left old c.args.new c.args.self c.self.invariant c.self.view_is small c.requires.some c.requires.old c.lend.ensures.own in
    let long : c.len-at.result ≡ length v.items = omega (arith, c.len-at.ensures, v.ok.0, v.ok.1) in
    let at = c.len-at.result - 43 in
    let value = c.copy_from_slice.new.self in
    let front = take (at - c.field_len.result) v.items in
    let text = c.in_ok-extend_from_slice.ensures.items
    ∙ ap (λ (x : List ℕ). x ++ value) (c.in_ok-push_link.ensures.ok ∙ ap (λ (x : List ℕ). x ++ field 0x74 (option_map bytes_of c.lend.result)) c.truncate.ensures.items)
    ∙ ap (λ (l : Option (List ℕ)). front ++ field 0x74 l ++ value) c.lend.ensures.value
    ∙ ap (λ (x : List ℕ). front ++ field 0x74 c.args.new ++ x)
    (c.copy_from_slice.ensures.after ∙ take_rest c.deref.result.now at ∙ ap (drop at) c.deref.ensures.value)
    ∙ ap (λ (m : ℕ). take (m - 43 - c.field_len.result) v.items ++ field 0x74 c.args.new ++ drop (m - 43) v.items) long
    ∙ ap (λ (k : ℕ). take (length v.items - 43 - k) v.items ++ field 0x74 c.args.new ++ drop (length v.items - 43) v.items) c.field_len.ensures in
    (last.anew _ text).0

pub returns : goal.returns
returns g c =
    let s = c.self.inside in
    let v = s.entries in
    let small : s.count < 2 ^ 64 = omega (arith, count-fits s.count v.items s.last _ c.self.invariant, v.small, v.ok.0, v.ok.1) in
    let old = option_map bytes_of c.args.old in
    let last = last-relinked s.count v.items s.last s.left old c.args.new c.args.self c.self.invariant c.self.view_is small c.requires.some c.requires.old c.lend.ensures.own in
    let long : c.len-at.result ≡ length v.items = omega (arith, c.len-at.ensures, v.ok.0, v.ok.1) in
    let at = c.len-at.result - 43 in
    let value = c.copy_from_slice.new.self in
    let front = take (at - c.field_len.result) v.items in
    let text = c.in_ok-extend_from_slice.ensures.items
    ∙ ap (λ (x : List ℕ). x ++ value) (c.in_ok-push_link.ensures.ok ∙ ap (λ (x : List ℕ). x ++ field 0x74 (option_map bytes_of c.lend.result)) c.truncate.ensures.items)
    ∙ ap (λ (l : Option (List ℕ)). front ++ field 0x74 l ++ value) c.lend.ensures.value
    ∙ ap (λ (x : List ℕ). front ++ field 0x74 c.args.new ++ x)
    (c.copy_from_slice.ensures.after ∙ take_rest c.deref.result.now at ∙ ap (drop at) c.deref.ensures.value)
    ∙ ap (λ (m : ℕ). take (m - 43 - c.field_len.result) v.items ++ field 0x74 c.args.new ++ drop (m - 43) v.items) long
    ∙ ap (λ (k : ℕ). take (length v.items - 43 - k) v.items ++ field 0x74 c.args.new ++ drop (length v.items - 43) v.items) c.field_len.ensures in
    (last.anew _ text).1
