-- Each step of each thread keeps the rule, and what it tells.
use Rattle.std.proofs.Common.{◌≡◌, ◌≢◌, ⊎_elim, ℕ, zero, suc, ◌+◌, ◌<◌, ◌≤◌, Bool, true, false, true≢false, cond, List, [], ◌∷◌, ◌++◌, length, set, sym, refl, ap, ◌∙◌, subst, arith, append_assoc}
use Rattle.std.specs.Prelude.{All, sum_by, ◌==◌, slice_index_or}
use Rattle.std.proofs.lemmas.Bool.Decides.{nat_tests}
use Rattle.std.proofs.lemmas.List.Sums.{sum_by-append, sum_by_push}
use Rattle.std.proofs.lemmas.List.Elements.{All-push, All-append, All-cons, All-nil, filter-append}
use mathlib.Core.Option.{some, some-injective, some-ne-none}
use mathlib.Core.Logic.{dite}
use native.Mathlib.Decide.{ℕ_discrete}
use lib.ListN.{get_elem?}
use Rattle.crossbeam_queue.specs.Fifo.{Pushes, Pops, Forks, Merges, Learns}
use Rattle.crossbeam_queue.proofs.Lists.{at_set, at_snoc}
use Rattle.notices.specs.declared.notice.Notice.{Notice}
use Rattle.notices.specs.declared.rule.Account.{Account}
use Rattle.notices.specs.declared.rule.View.{View}
use Rattle.notices.specs.Numbering.{of, NumberedFrom, IsNumbered}
use Rattle.notices.specs.Rule.{account, sender, feeder, nobody, accounts_of, one_below, Agree, Fits, Kept}
use Rattle.notices.specs.Steps.{HasPut, EndsWith, HasTaken, Balances, AreDistinct}
use Rattle.notices.proofs.Filters.{of_push_same, of_push_else, numbered_push, numbered_of_front}
use Rattle.notices.proofs.Sums.{total_set, one_at, two_at, counted, counts_own, counts_other, below_pos, below_one}

-- a fact of each pass, after a change of one
each_set : (F : ℕ → View → Type 0) (views : List View) (pass : ℕ) (w : View) → F pass w → ((j : ℕ) (u : View) → j ≢ pass → get_elem? views j ≡ some u → F j u) → (j : ℕ) (u : View) → get_elem? (set views pass w) j ≡ some u → F j u
each_set F views pass w mine others j u e =
    ⊎_elim (λ (x : (j ≡ pass) × (w ≡ u)). subst (λ (y : ℕ × View). F y.0 y.1) (λ i. (sym x.0 i, x.1 i)) mine)
    (λ (x : (j ≢ pass) × (get_elem? views j ≡ some u)). others j u x.0 x.1)
    (at_set views pass j w u e)

off : false ≡ true → ⊥
off e = true≢false (sym e)

-- an account of another pass is of another writer
apart : (views : List View) (made : ℕ) → ((w : ℕ) → sum_by (accounts_of w) views ≡ one_below made w) → (i j : ℕ) (v u : View) → i ≢ j → get_elem? views i ≡ some v → get_elem? views j ≡ some u
    → (w : ℕ) → 1 ≤ accounts_of w v → (k : ℕ) (d : Account) → k < length u.accounts → (slice_index_or u.accounts k d).writer ≢ w
apart views made once i j v u n at there w mine k d h e =
    let two = two_at (accounts_of w) views i j v u n at there in
    let theirs = counted w u.accounts k d h e in
    let most = below_one made w in
    let is = once w in
    omega arith

-- an empty queue, of which only the feed is there
pub begins : Kept [] (feeder 0 [] [] ∷ [])
begins = record {
  feed = 0;
  made = 0;
  received = [];
  numbered = λ w. tt;
  known = All-nil (λ (n : Notice). n.writer < 0);
  once = λ w. nothing_below w;
  fits = one;
}
  where
    nothing_below : (w : ℕ) → 0 ≡ one_below 0 w
    nothing_below w = grind (arith, nat_tests)

    one : (pass : ℕ) (v : View) → get_elem? (feeder 0 [] [] ∷ []) pass ≡ some v → Fits 0 0 [] [] pass v
    one zero v e = subst (Fits 0 0 [] [] 0) (some-injective _ _ e) (record { is_feed = λ _. (refl, refl, refl); agree = All-nil (λ (a : Account). a.sent ≡ of a.writer []) })
    one (suc pass) v e = absurd (some-ne-none v (sym e))

of_unknown : (m : ℕ) (all : List Notice) → All (λ n. n.writer < m) all → of m all ≡ []
of_unknown m [] h = refl
of_unknown m (n ∷ ns) h =
    let t : (n.writer == m) ≡ false = let b : n.writer < m = h 0 n (omega arith) in grind (arith, nat_tests) in
    ap (λ (b : Bool). cond b (n ∷ of m ns) (of m ns)) t ∙ of_unknown m ns (λ k d lt. h (suc k) d (omega arith))

one_more : (m p : ℕ) (sent : List Notice) → one_below m p + accounts_of p (sender m sent) ≡ one_below (m + 1) p
one_more m p sent = dite (ℕ_discrete m p)
    (λ e. let c = counts_own m sent in subst (λ (q : ℕ). one_below m q + accounts_of q (sender m sent) ≡ one_below (m + 1) q) e (let a : one_below m m ≡ 0 = grind (arith, nat_tests) in let b : one_below (m + 1) m ≡ 1 = grind (arith, nat_tests) in omega arith))
    (λ ne. let a : one_below m p ≡ one_below (m + 1) p = grind (arith, nat_tests) in let b : accounts_of p (sender m sent) ≡ 0 = counts_other p m sent ne in omega arith)

-- the feed makes a pass
pub forks : (pass made : ℕ) (received : List Notice) (accounts : List Account) → Forks Kept pass (feeder made received accounts) (feeder (made + 1) received accounts) (sender made [])
forks pass made received accounts items views h at =
    let v = feeder made received accounts in
    let left = feeder (made + 1) received accounts in
    let right = sender made [] in
    let all = h.received ++ items in
    let mine = h.fits pass v at in
    let is = mine.is_feed refl in
    let F : ℕ → View → Type 0 = Fits h.feed (h.made + 1) h.received all in
    let known : All (λ n. n.writer < made) all = subst (λ m. All (λ n. n.writer < m) all) (sym is.1) h.known in
    record {
      feed = h.feed;
      made = h.made + 1;
      received = h.received;
      numbered = h.numbered;
      known = λ k d lt. let b = h.known k d lt in omega arith;
      once = λ p. let t = total_set (accounts_of p) views pass v left at in let o = h.once p in let s = sum_by_push (accounts_of p) (set views pass left) right in let m = one_more made p [] in
          let e : one_below (made + 1) p ≡ one_below (h.made + 1) p = ap (λ q. one_below (q + 1) p) is.1 in let e' : one_below made p ≡ one_below h.made p = ap (λ q. one_below q p) is.1 in omega arith;
      fits = λ j u e.
          ⊎_elim (λ (was : get_elem? (set views pass left) j ≡ some u). each_set F views pass left
          record { is_feed = λ _. (is.0, ap (λ q. q + 1) is.1, is.2); agree = mine.agree }
          (λ i y other f. record { is_feed = λ g. absurd (other (((h.fits i y f).is_feed g).0 ∙ sym is.0)); agree = (h.fits i y f).agree }) j u was)
          (λ (new : right ≡ u). subst (F j) new record { is_feed = λ g. absurd (off g); agree = All-cons (λ a. a.sent ≡ of a.writer all) (account made []) [] (sym (of_unknown made all known)) (All-nil (λ (a : Account). a.sent ≡ of a.writer all)) })
          (at_snoc (set views pass left) right u j e);
    }

-- one more notice of another writer changes no account
agree_else : (all : List Notice) (x : Notice) (accounts : List Account) → Agree all accounts → ((k : ℕ) (d : Account) → k < length accounts → (slice_index_or accounts k d).writer ≢ x.writer) → Agree (all ++ x ∷ []) accounts
agree_else all x accounts h n k d lt = h k d lt ∙ sym (of_push_else (slice_index_or accounts k d).writer all x (λ e. n k d lt (sym e)))

numbered_more : (w : ℕ) (sent all : List Notice) (x : Notice) → IsNumbered all → sent ≡ of w all → x.writer ≡ w → x.seq ≡ length sent + 1 → IsNumbered (all ++ x ∷ [])
numbered_more w sent all x h is by seq p =
    dite (ℕ_discrete x.writer p)
    (λ e. subst (NumberedFrom 1) (sym (of_push_same p all x e)) (numbered_push 1 (of p all) x (h p) (let l : length sent ≡ length (of p all) = ap length is ∙ ap (λ q. length (of q all)) (sym by ∙ e) in omega arith)))
    (λ ne. subst (NumberedFrom 1) (sym (of_push_else p all x ne)) (h p))

-- a writer puts a notice
pub pushes : (n pass w : ℕ) (sent : List Notice) (x : Notice) → x.writer ≡ w → x.seq ≡ length sent + 1 → Pushes Kept n pass (sender w sent) x (HasPut (sender w sent) x)
pushes n pass w sent x by seq items views room h at =
    let v = sender w sent in
    let new = sender w (sent ++ x ∷ []) in
    let all = h.received ++ items in
    let more : h.received ++ (items ++ x ∷ []) ≡ all ++ x ∷ [] = sym (append_assoc h.received items (x ∷ [])) in
    let mine : sent ≡ of w all = (h.fits pass v at).agree 0 (account w sent) (omega arith) in
    let own : 1 ≤ accounts_of w v = omega (arith, counts_own w sent) in
    let below : x.writer < h.made = let b : w < h.made = below_pos h.made w (omega (arith, h.once w, one_at (accounts_of w) views pass v at)) in omega arith in (
      new,
      record {
        feed = h.feed;
        made = h.made;
        received = h.received;
        numbered = subst IsNumbered (sym more) (numbered_more w sent all x h.numbered mine by seq);
        known = subst (All (λ n. n.writer < h.made)) (sym more) (All-push (λ n. n.writer < h.made) all x h.known below);
        once = λ p. let t = total_set (accounts_of p) views pass v new at in let o = h.once p in omega arith;
        fits = subst (λ l. (j : ℕ) (u : View) → get_elem? (set views pass new) j ≡ some u → Fits h.feed h.made h.received l j u) (sym more)
            (each_set (Fits h.feed h.made h.received (all ++ x ∷ [])) views pass new
            record {
              is_feed = λ f. absurd (off f);
              agree = All-cons (λ a. a.sent ≡ of a.writer (all ++ x ∷ [])) (account w (sent ++ x ∷ [])) [] (ap (λ l. l ++ x ∷ []) mine ∙ sym (of_push_same w all x by)) (All-nil (λ (a : Account). a.sent ≡ of a.writer (all ++ x ∷ [])));
            }
            (λ j u other e. record {
              is_feed = (h.fits j u e).is_feed;
              agree = agree_else all x u.accounts (h.fits j u e).agree (λ k d lt s. apart views h.made h.once pass j v u (λ q. other (sym q)) at e w own k d lt (s ∙ by));
            }));
      },
      refl,
    )

-- on a full queue: what it holds of a writer is the end of its account
pub ends : (pass : ℕ) (v : View) → v.feeds ≡ false → Learns Kept pass v (EndsWith v)
ends pass v f items views h at k d lt =
    let a = slice_index_or v.accounts k d in
    (of a.writer h.received, (h.fits pass v at).agree k d lt ∙ filter-append (λ (m : Notice). m.writer == a.writer) h.received items)

middle : (P : Notice → Type 0) (l : List Notice) (x : Notice) (r : List Notice) → All P (l ++ x ∷ r) → P x
middle P [] x r h = h 0 x (omega arith)
middle P (y ∷ l) x r h = middle P l x r (λ k d lt. h (suc k) d (omega arith))

-- the feed takes a notice
pub pops : (pass made : ℕ) (received : List Notice) (accounts : List Account) → Pops Kept pass (feeder made received accounts) (HasTaken (feeder made received accounts))
pops pass made received accounts x items views h at =
    let v = feeder made received accounts in
    let new = feeder made (received ++ x ∷ []) accounts in
    let mine = h.fits pass v at in
    let is = mine.is_feed refl in
    let whole : (h.received ++ x ∷ []) ++ items ≡ h.received ++ (x ∷ items) = append_assoc h.received (x ∷ []) items in
    let seen : received ++ x ∷ [] ≡ h.received ++ x ∷ [] = ap (λ l. l ++ x ∷ []) is.2 in (
      new,
      record {
        feed = h.feed;
        made = h.made;
        received = h.received ++ x ∷ [];
        numbered = subst IsNumbered (sym whole) h.numbered;
        known = subst (All (λ n. n.writer < h.made)) (sym whole) h.known;
        once = λ p. let t = total_set (accounts_of p) views pass v new at in let o = h.once p in omega arith;
        fits = subst (λ l. (j : ℕ) (u : View) → get_elem? (set views pass new) j ≡ some u → Fits h.feed h.made (h.received ++ x ∷ []) l j u) (sym whole)
            (each_set (Fits h.feed h.made (h.received ++ x ∷ []) (h.received ++ (x ∷ items))) views pass new
            record { is_feed = λ f. (is.0, is.1, seen); agree = mine.agree }
            (λ j u other e. record { is_feed = λ f. absurd (other (((h.fits j u e).is_feed f).0 ∙ sym is.0)); agree = (h.fits j u e).agree }));
      },
      (
        refl,
        subst IsNumbered (sym seen) (numbered_of_front (h.received ++ x ∷ []) items (subst IsNumbered (sym whole) h.numbered)),
        subst (λ m. x.writer < m) (sym is.1) (middle (λ n. n.writer < h.made) h.received x items h.known),
      ),
    )

-- no two of the accounts that joined are of one writer
pub distinct : (pass : ℕ) (v : View) → v.feeds ≡ true → Learns Kept pass v (λ items. AreDistinct v.made v.accounts)
distinct pass v f items views h at w =
    let m : v.made ≡ h.made = ((h.fits pass v at).is_feed f).1 in
    let e : one_below v.made w ≡ one_below h.made w = ap (λ n. one_below n w) m in
    omega (arith, h.once w, one_at (accounts_of w) views pass v at)

-- on an empty queue: what the joined writers sent is what was received
pub balances : (pass : ℕ) (v : View) → v.feeds ≡ true → Learns Kept pass v (Balances v)
balances pass v f items views h at = (
  subst (λ l. Agree (l ++ items) v.accounts) (sym ((h.fits pass v at).is_feed f).2) (h.fits pass v at).agree,
  distinct pass v f items views h at,
)

-- a pass joins the feed
pub merges : (pass made : ℕ) (received : List Notice) (accounts : List Account) (other p : ℕ) (sent : List Notice)
    → Merges Kept pass (feeder made received accounts) other (sender p sent) (feeder made received (accounts ++ account p sent ∷ [])) nobody
merges pass made received accounts other p sent items views h at two there =
    let v = feeder made received accounts in
    let w = sender p sent in
    let both = feeder made received (accounts ++ account p sent ∷ []) in
    let all = h.received ++ items in
    let mine = h.fits pass v at in
    let is = mine.is_feed refl in
    let F : ℕ → View → Type 0 = Fits h.feed h.made h.received all in
    let was : get_elem? views other ≡ some w = ⊎_elim (λ (x : (other ≡ pass) × (both ≡ w)). absurd (two x.0)) (λ (x : (other ≢ pass) × (get_elem? views other ≡ some w)). x.1) (at_set views pass other both w there) in
    let theirs = (h.fits other w was).agree in
    record {
      feed = h.feed;
      made = h.made;
      received = h.received;
      numbered = h.numbered;
      known = h.known;
      once = λ q. let t = total_set (accounts_of q) views pass v both at in let s = total_set (accounts_of q) (set views pass both) other w nobody there in let o = h.once q in
          let b : accounts_of q both ≡ accounts_of q v + accounts_of q w = sum_by-append (λ (a : Account). cond (a.writer == q) 1 0) accounts (account p sent ∷ []) in omega arith;
      fits = each_set F (set views pass both) other nobody
          record { is_feed = λ g. absurd (off g); agree = All-nil (λ (a : Account). a.sent ≡ of a.writer all) }
          (λ j u _ e. each_set F views pass both
          record { is_feed = λ _. is; agree = All-append (λ a. a.sent ≡ of a.writer all) accounts (account p sent ∷ []) mine.agree theirs }
          (λ i y _ f. h.fits i y f) j u e);
    }
