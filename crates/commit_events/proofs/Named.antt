-- Sections that are named by their blocks.
use Rattle.std.proofs.Common.{◌≡◌, ℕ, ◌<◌, Bool, true, false, List, length, get_or, Result, Ok, refl, sym, ap, subst, ◌∙◌}
use Rattle.std.specs.Str.{bytes_eq}
use Rattle.std.proofs.lemmas.List.Folds.{list_all-map, list_all_at}
use Rattle.std.proofs.lemmas.Slice.Eq.{bytes_eq-Decides}
use Rattle.spec.specs.Cid.{cid}
use Rattle.spec.specs.CarReading.{Section, are_named, is_named, read_car}
use Rattle.spec.proofs.Taking.{bind_ok, ensure_ok}
use Rattle.car_reader.specs.Views.{section_of, sections_of}
use Rattle.car_reader.specs.declared.section.Section.{Section as Lent}
use Rattle.event_laws.specs.Verdict.{EventFault, Misnamed, NotTheRoot, of_car, sections_of as sections_in}

true-case : (b all : Bool) → (b ≡ false → all ≡ false) → all ≡ true → b ≡ true
true-case true all f h = refl
true-case false all f h = let e = f refl in absurd cc

pub named-at : (digest : List ℕ → List ℕ) (ss : List Lent) (i : ℕ) (s : Lent) → i < length ss → s ≡ get_or ss i s
    → are_named digest (sections_of ss) ≡ true → is_named digest (section_of s) ≡ true
named-at digest ss i s lt is h =
    let test = λ (x : Lent). is_named digest (section_of x) in
    true-case (test s) (are_named digest (sections_of ss))
    (λ f. list_all-map (is_named digest) section_of ss ∙ list_all_at test ss i s lt (ap test (sym is) ∙ f)) h

pub cid-known : (digest : List ℕ → List ℕ) (s : Lent) → is_named digest (section_of s) ≡ true
    → (section_of s).cid ≡ cid digest s.block.now
cid-known digest s h = sym ((bytes_eq-Decides (cid digest s.block.now) (section_of s).cid).0 h)

same-sections : (x y : List Section) → ◌≡◌ {A = Result (List Section) EventFault} (Ok x) (Ok y) → x ≡ y
same-sections x y e = cc

-- those that were read are
pub named-read : (digest : List ℕ → List ℕ) (commit file : List ℕ) (ss : List Section)
    → sections_in digest commit file ≡ Ok ss → are_named digest ss ≡ true
unfolding sections_in
named-read digest commit file ss e =
    let a = bind_ok (of_car (read_car file)) _ ss e in
    let b = ensure_ok (bytes_eq a.0.0 commit) NotTheRoot _ ss a.2 in
    let c = ensure_ok (are_named digest a.0.1) Misnamed _ ss b.1 in
    subst (λ (x : List Section). are_named digest x ≡ true) (same-sections a.0.1 ss c.1) c.0
