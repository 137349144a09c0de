use Rattle.std.proofs.Common.{◌≡◌, ℕ, ◌+◌, ◌≤◌, ◌++◌, ◌∷◌, [], List, length, take, Result, Ok, arith, sym, ap, subst, ◌∙◌}
use Rattle.std.proofs.lemmas.List.{length-append, length-take-le}
use Rattle.spec.specs.NodeFormat.{NodeFault, whole_key}
use Rattle.node.specs.declared.key_before.Part.{Part}
use Rattle.node.specs.KeyParts.{key_from, place_after, AreParts}
use Rattle.node.proofs.KeyParts.{key_from-more, are_parts-more, are_parts-take, are_parts-count}
use Rattle.node.proofs.RowLaws.{whole_key-fits}
use Rattle.node.proofs.key_before.KeyBefore.next.Given as given
use Rattle.node.proofs.key_before.KeyBefore.next.Goals as goal

-- the first parts, up to a place, and one that begins there
record Goes (parts : List Part) (n : ℕ) (part : Part) : Type 0 where
  key : key_from [] (take n parts ++ part ∷ []) ≡ take part.prefix (key_from [] parts) ++ part.suffix.now
  are : AreParts 0 [] (take n parts ++ part ∷ [])

goes : (parts : List Part) (n : ℕ) (part : Part) → AreParts 0 [] parts → place_after 0 (take n parts) ≤ part.prefix → part.prefix ≤ length (key_from [] (take n parts)) → take part.prefix (key_from [] (take n parts)) ≡ take part.prefix (key_from [] parts) → Goes parts n part
goes parts n part are before within same = record {
  key = key_from-more [] (take n parts) part ∙ ap (λ (key : List ℕ). key ++ part.suffix.now) same;
  are = are_parts-more 0 [] (take n parts) part (are_parts-take n 0 [] parts are) before within;
}

pub returns-then-kept-clause-room : goal.returns-then-kept-clause-room
returns-then-kept-clause-room g c =
    let tested = c.as_slice.result.now in
    let cut = c.as_slice-2.result.now in
    let fits = whole_key-fits (key_from [] tested) c.args.prefix c.args.suffix.now (take c.args.prefix (key_from [] tested) ++ c.args.suffix.now) c.in_ok-test.ensures in
    let e = c.count_before-kept.ensures in
    let n = c.count_before-kept.result in
    let are : AreParts 0 [] cut = subst (AreParts 0 []) (sym c.as_slice-2.ensures.value) c.self.invariant.0 in
    let few = are_parts-count 0 [] (take n cut) (are_parts-take n 0 [] cut are) in
    λ room. absurd (omega (arith, few, e.before, length-take-le n cut e.fits, fits.1, c.if-kept.true, room))

-- the parts after the entry, the key that they show, and the tests that it passed
record Taken (key : List ℕ) (after : List Part) (part : Part) : Type 0 where
  whole : whole_key key part.prefix part.suffix.now ≡ Ok (key_from [] after)
  are : AreParts 0 [] after
  short : length (key_from [] after) ≤ 1024

taken : (parts tested cut after : List Part) (n : ℕ) (part : Part) → tested ≡ parts → cut ≡ parts → after ≡ take n parts ++ part ∷ [] → AreParts 0 [] parts →
    whole_key (key_from [] tested) part.prefix part.suffix.now ≡ Ok (take part.prefix (key_from [] tested) ++ part.suffix.now) →
    place_after 0 (take n cut) ≤ part.prefix → part.prefix ≤ length (key_from [] (take n cut)) → take part.prefix (key_from [] (take n cut)) ≡ take part.prefix (key_from [] cut) → Taken (key_from [] parts) after part
taken parts tested cut after n part tested_is cut_is after_is are whole before within same =
    let g : Goes parts n part = subst (λ (ps : List Part). Goes ps n part) cut_is (goes cut n part (subst (AreParts 0 []) (sym cut_is) are) before within same) in
    let key : key_from [] after ≡ take part.prefix (key_from [] parts) ++ part.suffix.now = ap (key_from []) after_is ∙ g.key in
    let made : List ℕ → Result (List ℕ) NodeFault = λ k. Ok k in
    let whole_is : whole_key (key_from [] parts) part.prefix part.suffix.now ≡ Ok (take part.prefix (key_from [] parts) ++ part.suffix.now) =
    subst (λ (ps : List Part). whole_key (key_from [] ps) part.prefix part.suffix.now ≡ Ok (take part.prefix (key_from [] ps) ++ part.suffix.now)) tested_is whole in
    let fits = whole_key-fits (key_from [] parts) part.prefix part.suffix.now (take part.prefix (key_from [] parts) ++ part.suffix.now) whole_is in
    let long : length (key_from [] after) ≡ part.prefix + length part.suffix.now =
    ap length key ∙ length-append (take part.prefix (key_from [] parts)) part.suffix.now ∙ ap (λ (m : ℕ). m + length part.suffix.now) (length-take-le part.prefix (key_from [] parts) fits.0) in
    record { whole = whole_is ∙ ap made (sym key); are = subst (AreParts 0 []) (sym after_is) g.are; short = omega (arith, long, fits.2) }

entry_taken : (g : given.Over) (c : goal.After-push g) → Taken (key_from [] c.self.inside.parts.items) c.push.new.self.items (record { prefix = c.args.prefix; suffix = c.args.suffix })
entry_taken g c =
    let part : Part = record { prefix = c.args.prefix; suffix = c.args.suffix } in
    let e = c.count_before-kept.ensures in
    taken c.self.inside.parts.items c.as_slice.result.now c.as_slice-2.result.now c.push.new.self.items c.count_before-kept.result part c.as_slice.ensures.value c.as_slice-2.ensures.value
    (c.push.ensures.items ∙ ap (λ (ps : List Part). ps ++ part ∷ []) c.truncate.ensures.items) c.self.invariant.0 c.in_ok-test.ensures e.before e.within e.same

pub invariant_of-self : goal.invariant_of-self
invariant_of-self g c = ((entry_taken g c).are, (entry_taken g c).short)

pub returns-clause-taken : goal.returns-clause-taken
returns-clause-taken g c =
    λ yes. ap (λ (key : List ℕ). whole_key key c.args.prefix c.args.suffix.now) (sym c.self.view_is) ∙ (entry_taken g c).whole
