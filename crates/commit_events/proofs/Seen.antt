-- Keys that were seen, and the first operation that has one of them.
use Rattle.std.proofs.Common.{◌≡◌, ℕ, suc, ◌+◌, ◌<◌, ◌≤◌, Bool, true, false, cond, List, [], ◌∷◌, ◌++◌, length, take, drop, get_or, refl, sym, ap, ◌∙◌, arith}
use Rattle.std.specs.declared.option.Option.TheVariants.{Some, None}
use Rattle.std.specs.Str.{bytes_eq}
use Rattle.std.specs.Ordering.{is_eq}
use Rattle.std.proofs.lemmas.List.{at_drop_more, drop_all, map-append, take_more}
use Rattle.std.proofs.lemmas.Map.Text.{is_eq-slice_cmp}
use Rattle.std.specs.declared.cmp.Ordering.{Ordering}
use Rattle.std.specs.declared.cmp.Ordering.TheVariants.{Less, Equal, Greater}
use Rattle.edit_laws.specs.Order.{if_equal, order}
use Rattle.edit_laws.proofs.Orders.{order-is}
use Rattle.change_laws.specs.Told.{KeyChange}
use Rattle.event_laws.specs.Verdict.{doubled_after, is_seen}
use Rattle.commit_events.specs.Order.{keys_of}

-- ---- one key

same-is : (x y : List ℕ) → bytes_eq x y ≡ is_eq (order x y)
same-is x y = sym (is_eq-slice_cmp x y) ∙ ap is_eq (order-is x y)

equal-yes : (o : Ordering) (b : Bool) → is_eq o ≡ true → if_equal o true b ≡ true
equal-yes Less b h = absurd cc
equal-yes Equal b h = refl
equal-yes Greater b h = absurd cc

equal-no : (o : Ordering) (b : Bool) → is_eq o ≡ false → if_equal o true b ≡ b
equal-no Less b h = refl
equal-no Equal b h = absurd cc
equal-no Greater b h = refl

-- ---- among some

-- it is one of all just where it is one of those from a place on
abbrev pub SeenFrom : List KeyChange → List ℕ → ℕ → Type 0
SeenFrom cs key i = is_seen (keys_of (drop i cs)) key ≡ is_seen (keys_of cs) key

seen-at : (cs : List KeyChange) (key : List ℕ) (i : ℕ) (c : KeyChange) → i < length cs → c ≡ get_or cs i c
    → is_seen (keys_of (drop i cs)) key ≡ if_equal (order c.key key) true (is_seen (keys_of (drop (i + 1) cs)) key)
seen-at cs key i c lt is =
    at_drop_more (λ xs. is_seen (keys_of xs) key) cs i c lt
    ∙ ap (λ (x : KeyChange). is_seen (keys_of (x ∷ drop (i + 1) cs)) key) (sym is)

pub seen-here : (cs : List KeyChange) (key : List ℕ) (i : ℕ) (c : KeyChange) (b : Bool) → i < length cs → c ≡ get_or cs i c
    → b ≡ bytes_eq c.key key → b ≡ true → SeenFrom cs key i → true ≡ is_seen (keys_of cs) key
seen-here cs key i c b lt is e true_is h =
    sym (equal-yes (order c.key key) (is_seen (keys_of (drop (i + 1) cs)) key) (sym (same-is c.key key) ∙ sym e ∙ true_is))
    ∙ sym (seen-at cs key i c lt is) ∙ h

pub seen-next : (cs : List KeyChange) (key : List ℕ) (i : ℕ) (c : KeyChange) (b : Bool) → i < length cs → c ≡ get_or cs i c
    → b ≡ bytes_eq c.key key → b ≡ false → SeenFrom cs key i → SeenFrom cs key (i + 1)
seen-next cs key i c b lt is e false_is h =
    sym (equal-no (order c.key key) (is_seen (keys_of (drop (i + 1) cs)) key) (sym (same-is c.key key) ∙ sym e ∙ false_is))
    ∙ sym (seen-at cs key i c lt is) ∙ h

pub seen-nowhere : (cs : List KeyChange) (key : List ℕ) (i : ℕ) → length cs ≤ i → SeenFrom cs key i
    → false ≡ is_seen (keys_of cs) key
seen-nowhere cs key i all h = sym (ap (λ (xs : List KeyChange). is_seen (keys_of xs) key) (drop_all i cs all)) ∙ h

-- ---- before a place

equal-swap : (o p : Ordering) (b : Bool) → if_equal o true (if_equal p true b) ≡ if_equal p true (if_equal o true b)
equal-swap Less p b = refl
equal-swap Greater p b = refl
equal-swap Equal Less b = refl
equal-swap Equal Equal b = refl
equal-swap Equal Greater b = refl

-- a key at the end is seen as one at the front
seen-last : (ks : List (List ℕ)) (k key : List ℕ) → is_seen (ks ++ k ∷ []) key ≡ is_seen (k ∷ ks) key
seen-last [] k key = refl
seen-last (x ∷ ks) k key =
    ap (λ b. if_equal (order x key) true b) (seen-last ks k key)
    ∙ equal-swap (order x key) (order k key) (is_seen ks key)

-- the keys that were seen are those before a place, and the first double from there on is the first
pub record Singles (cs : List KeyChange) (i : ℕ) : Type 0 where
  pub keys : List (List ℕ)
  pub seen : (key : List ℕ) → is_seen keys key ≡ is_seen (keys_of (take i cs)) key
  pub from : doubled_after keys i (drop i cs) ≡ doubled_after [] 0 cs

pub singles-start : (cs : List KeyChange) → Singles cs 0
singles-start cs = record { keys = []; seen = λ key. refl; from = refl }

double-at : (keys : List (List ℕ)) (cs : List KeyChange) (i : ℕ) (c : KeyChange) → i < length cs → c ≡ get_or cs i c
    → doubled_after keys i (drop i cs)
    ≡ cond (is_seen keys c.key) (Some i) (doubled_after (c.key ∷ keys) (suc i) (drop (i + 1) cs))
double-at keys cs i c lt is =
    at_drop_more (λ xs. doubled_after keys i xs) cs i c lt
    ∙ ap (λ (x : KeyChange). doubled_after keys i (x ∷ drop (i + 1) cs)) (sym is)

taken-more : (cs : List KeyChange) (i : ℕ) (c : KeyChange) → i < length cs → c ≡ get_or cs i c
    → keys_of (take (i + 1) cs) ≡ keys_of (take i cs) ++ c.key ∷ []
taken-more cs i c lt is =
    ap keys_of (take_more cs i c lt) ∙ map-append (λ (x : KeyChange). x.key) (take i cs) (get_or cs i c ∷ [])
    ∙ ap (λ (x : KeyChange). keys_of (take i cs) ++ x.key ∷ []) (sym is)

pub singles-next : (cs : List KeyChange) (i : ℕ) (c : KeyChange) (b : Bool) → i < length cs → c ≡ get_or cs i c
    → b ≡ is_seen (keys_of (take i cs)) c.key → b ≡ false → Singles cs i → Singles cs (i + 1)
singles-next cs i c b lt is e false_is h =
    let next : i + 1 ≡ suc i = omega arith in
    let rest = drop (i + 1) cs in
    record {
      keys = c.key ∷ h.keys;
      seen = λ key.
          ap (λ x. if_equal (order c.key key) true x) (h.seen key)
          ∙ sym (seen-last (keys_of (take i cs)) c.key key)
          ∙ sym (ap (λ ks. is_seen ks key) (taken-more cs i c lt is));
      from =
          ap (λ (n : ℕ). doubled_after (c.key ∷ h.keys) n rest) next
          ∙ sym (ap (λ x. cond x (Some i) (doubled_after (c.key ∷ h.keys) (suc i) rest)) (h.seen c.key ∙ sym e ∙ false_is))
          ∙ sym (double-at h.keys cs i c lt is) ∙ h.from;
    }

pub double-here : (cs : List KeyChange) (i : ℕ) (c : KeyChange) (b : Bool) → i < length cs → c ≡ get_or cs i c
    → b ≡ is_seen (keys_of (take i cs)) c.key → b ≡ true → Singles cs i → Some i ≡ doubled_after [] 0 cs
double-here cs i c b lt is e true_is h =
    sym (ap (λ x. cond x (Some i) (doubled_after (c.key ∷ h.keys) (suc i) (drop (i + 1) cs))) (h.seen c.key ∙ sym e ∙ true_is))
    ∙ sym (double-at h.keys cs i c lt is) ∙ h.from

pub singles-all : (cs : List KeyChange) (i : ℕ) → length cs ≤ i → Singles cs i → None ≡ doubled_after [] 0 cs
singles-all cs i all h =
    sym (ap (λ (xs : List KeyChange). doubled_after h.keys i xs) (drop_all i cs all)) ∙ h.from
