-- What clap's contract says of the program's command lines.
use Rattle.std.proofs.Common.{◌∙◌, ◌≡◌, ◌≢◌, ℕ, inl, inr, ap, subst, sym, cond, false, refl, true, Bool, List, [], ◌∷◌, arith, ◌⊎◌}
use Rattle.std.specs.Prelude.{⊤, codes, Option, Some, None, Result, Ok, Err, IfErr, IsErrAnd, IfSome, IsSomeAnd, is_some, option_map, find}
use Rattle.clap.proofs.OnLiterals.{clap_on_literals}
use Rattle.clap.specs.Words.{App, HasMatchesOf, Row, Shape, Text, built, fault_of, is_simple}
use Rattle.clap.specs.Words.{is_simple_and_free, kind_of, subcommand_of, subcommand_rows_of}
use Rattle.clap.specs.Kinds.{HasKind, IsAmong, Kinds, or_else}
use Rattle.clap.specs.Faults.{check_fault, defaults_fault, entered_fault, level_fault, settle_fault, walk_fault}
use Rattle.clap.specs.Simple.{argument_words, entered, label_of, names_of, rows_at}
use Rattle.clap.specs.Walk.{Held, Names, answers_to, finished, nothing_held, settled, stop_after, walk, walk_from}
use Rattle.clap.specs.declared.error.Error.{Error}
use Rattle.clap.specs.declared.error.kind.ErrorKind.{ErrorKind}
use Rattle.clap.specs.declared.error.kind.ErrorKind.TheVariants.{DisplayHelp, OutOfMemory}
use Rattle.clap.specs.declared.parser.matches.ArgMatches.{ArgMatches}
use Rattle.commands.specs.CommandLine.{EndsWithout, IsCommandName, IsEndOf, is_shown, msthost}

-- clap's contract is exact on the program: it is simple, and no argument has a rule on another
simple : is_simple msthost ≡ true
unfolding msthost
simple = refl

free : is_simple_and_free msthost ≡ true
unfolding msthost
free = refl

module _ (app : App) (is : app ≡ msthost) (words : List Text) where
  pub found_rows : (m : ArgMatches) → HasMatchesOf app words m → subcommand_rows_of m ≡ subcommand_of msthost words
  found_rows m has = (has (ap is_simple is ∙ simple)).1 ∙ ap (λ a. subcommand_of a words) is

  -- what holds of the faults of the command holds of those of the program
  pub by_faults : (P : Kinds → Type 0) → (is_simple_and_free app ≡ true → P (fault_of app words)) → P (fault_of msthost words)
  by_faults P says = subst P (ap (λ a. fault_of a words) is) (says (ap is_simple_and_free is ∙ free))

-- ---- a command line without a fault has a command

right : (a b : Kinds) → or_else a b ≡ [] → b ≡ []
right [] b e = e
right (k ∷ ks) b e = absurd (cc)

last : (a b c d e : Kinds) → or_else a (or_else b (or_else c (or_else d e))) ≡ [] → e ≡ []
last a b c d e none = right d e (right c _ (right b _ (right a _ none)))

met : (rows : List Row) (o : Option (Text × List Row)) → check_fault (built msthost).top rows (is_some o) ≡ [] → is_some o ≡ true
unfolding msthost
met rows None none = absurd (cc)
met rows (Some x) none = refl

abbrev Each : (Shape → Type 0) → List Shape → Type 0
Each P [] = ⊤
Each P (x ∷ xs) = P x × Each P xs

found_in : (P : Shape → Type 0) (test : Shape → Bool) (xs : List Shape) → Each P xs → IfSome (find test xs) P
found_in P test [] each = tt
found_in P test (x ∷ xs) each = either (test x) each.0 (found_in P test xs each.1)
  where
    either : (b : Bool) → P x → IfSome (find test xs) P → IfSome (cond b (Some x) (find test xs)) P
    either true here later = here
    either false here later = later

HasName : Shape → Type 0
HasName s = IsCommandName s.name

named_sub : (test : Shape → Bool) → IfSome (find test (built msthost).subs) HasName
unfolding msthost HasName
named_sub test =
    let tree : IsCommandName (codes "tree") = (0, codes "tree", omega arith, refl, refl) in
    let car : IsCommandName (codes "car") = (1, codes "car", omega arith, refl, refl) in
    let prove : IsCommandName (codes "prove") = (2, codes "prove", omega arith, refl, refl) in
    let verify : IsCommandName (codes "verify") = (3, codes "verify", omega arith, refl, refl) in
    let prove_change : IsCommandName (codes "prove-change") = (4, codes "prove-change", omega arith, refl, refl) in
    let verify_change : IsCommandName (codes "verify-change") = (5, codes "verify-change", omega arith, refl, refl) in
    let commit_event : IsCommandName (codes "commit-event") = (6, codes "commit-event", omega arith, refl, refl) in
    let sync_event : IsCommandName (codes "sync-event") = (7, codes "sync-event", omega arith, refl, refl) in
    let check_event : IsCommandName (codes "check-event") = (8, codes "check-event", omega arith, refl, refl) in
    let check : IsCommandName (codes "check") = (9, codes "check", omega arith, refl, refl) in
    let records : IsCommandName (codes "records") = (10, codes "records", omega arith, refl, refl) in
    let commit : IsCommandName (codes "commit") = (11, codes "commit", omega arith, refl, refl) in
    let changes : IsCommandName (codes "changes") = (12, codes "changes", omega arith, refl, refl) in
    let run : IsCommandName (codes "run") = (13, codes "run", omega arith, refl, refl) in
    let explain : IsCommandName (codes "explain") = (14, codes "explain", omega arith, refl, refl) in
    let help : IsCommandName (codes "help") = (15, codes "help", omega arith, refl, refl) in
    found_in HasName test (built msthost).subs
    (tree, (car, (prove, (verify, (prove_change, (verify_change, (commit_event, (sync_event, (check_event, (check, (records, (commit, (changes, (run, (explain, (help, tt))))))))))))))))

entered_name : (words : List Text) (o : Option Shape) → IfSome o HasName → IfSome (option_map (λ s. rows_at s words) o) (λ c. IsCommandName c.0)
unfolding HasName
entered_name words None h = tt
entered_name words (Some s) h = h

entered_named : (stop : Option (Text × List Text)) → IfSome (entered (built msthost) stop) (λ c. IsCommandName c.0)
entered_named None = tt
entered_named (Some p) = entered_name p.1 _ (named_sub (λ s. answers_to p.0 (label_of s)))

both : (P : (Text × List Row) → Type 0) (o : Option (Text × List Row)) → is_some o ≡ true → IfSome o P → IsSomeAnd o P
both P None e h = absurd (cc)
both P (Some x) e h = h

last_of_level : (s : Shape) (names : Names) (h : Held) (words : List Text) (has : Bool) (below : Kinds) → level_fault s names h words has below ≡ []
    → check_fault s (finished s.rules (walk s.rules names h words).held) has ≡ []
last_of_level s names h words has below none = last (walk_fault s names (walk_from h) words) below
    (settle_fault s.rules s.args_override_self (walk s.rules names h words).held)
    (defaults_fault (settled s.rules (walk s.rules names h words).held).rows s.rules)
    (check_fault s (finished s.rules (walk s.rules names h words).held) has) none

pub named : (words : List Text) → fault_of msthost words ≡ [] → IsSomeAnd (subcommand_of msthost words) (λ c. IsCommandName c.0)
named words none =
    let app = built msthost in
    let rest = argument_words msthost words in
    let stop = stop_after app.top.rules (names_of app) rest in
    let rows = finished app.top.rules (walk app.top.rules (names_of app) nothing_held rest).held in
    let checked = last_of_level app.top (names_of app) nothing_held rest (is_some (entered app stop)) (entered_fault app stop) none in
    both (λ c. IsCommandName c.0) (entered app stop) (met rows (entered app stop) checked) (entered_named stop)

-- ---- an error that is handed on

pub handed_on : {T : Type 0} (P : Error → Type 0) (e : Error) (r : Result T Error) → IsErrAnd r (λ x. x ≡ e) → P e → IfErr r P
handed_on P e (Ok x) h holds = tt
handed_on P e (Err x) h holds = subst P (sym h) holds

-- ---- the end of a run without a request

by_kind : (kinds : Kinds) (k : ErrorKind) (status : ℕ) → IsAmong k kinds → (k ≡ OutOfMemory → status ≡ 3)
    → ((k ≢ OutOfMemory) → IsEndOf (is_shown k) status) → EndsWithout kinds status
by_kind kinds OutOfMemory status among memory other = inl (memory refl)
by_kind kinds k status among memory other = inr (k, among, other (λ e. cc))

pub ended : (kinds : Kinds) (e : Error) (status : ℕ) → HasKind kinds e → (kind_of e ≡ OutOfMemory → status ≡ 3)
    → ((kind_of e ≢ OutOfMemory) → IsEndOf (is_shown (kind_of e)) status) → EndsWithout kinds status
ended kinds e status has memory other = elim has [
  | inl is ↦ inl (memory is)
  | inr among ↦ by_kind kinds (kind_of e) status among memory other
]

-- ---- help

help_kind : (kinds : Kinds) (e : Error) (n : ℕ) → kinds ≡ DisplayHelp ∷ [] → HasKind kinds e → (kind_of e ≡ OutOfMemory → n ≡ 3)
    → ((kind_of e ≢ OutOfMemory) → IsEndOf (is_shown (kind_of e)) n) → (n ≡ 0) ⊎ ((n ≡ 3) ⊎ (n ≡ 4))
help_kind kinds e n is has memory other = by (ended kinds e n has memory other)
  where
    shown : (kind : ErrorKind) → IsAmong kind (DisplayHelp ∷ []) → is_shown kind ≡ true
    shown kind (inl is) = ap is_shown is
    shown kind (inr none) = absurd none

    by : EndsWithout kinds n → (n ≡ 0) ⊎ ((n ≡ 3) ⊎ (n ≡ 4))
    by (inl three) = inr (inl three)
    by (inr ends) = elim (rw (shown ends.0 (subst (IsAmong ends.0) is ends.1)) at ends.2) [ inl zero ↦ inl zero | inr four ↦ inr (inr four) ]

asks_for_help : fault_of msthost (codes "msthost" ∷ codes "--help" ∷ []) ≡ DisplayHelp ∷ []
unfolding msthost clap_on_literals
asks_for_help = refl

pub help_ended : (e : Error) (n : ℕ) → HasKind (fault_of msthost (codes "msthost" ∷ codes "--help" ∷ [])) e → (kind_of e ≡ OutOfMemory → n ≡ 3)
    → ((kind_of e ≢ OutOfMemory) → IsEndOf (is_shown (kind_of e)) n) → (n ≡ 0) ⊎ ((n ≡ 3) ⊎ (n ≡ 4))
help_ended e n has memory other = help_kind _ e n asks_for_help has memory other
