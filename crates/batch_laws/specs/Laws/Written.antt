-- The laws of what is made: it is of the node grammar, and so is what is written on the way.
use Rattle.std.specs.Prelude.{◌≡◌, ◌<◌, ◌^◌, ℕ, Bool, true, List, map, length, Option, None}
use Rattle.std.specs.List.{AllByRecursion}
use Rattle.spec.specs.Cid.{IsDigest}
use Rattle.spec.specs.Tree.{Pair, top, top_layer}
use Rattle.spec.specs.NodeFormat.{Shape, LastLink, shape}
use Rattle.spec.specs.Blocks.{ArePairs}
use Rattle.edit_laws.specs.Lawful.{AllLawful}
use Rattle.batch_laws.specs.Batch.{Change, puts, changed, AreKeyed, HaveOwnCids}
use Rattle.batch_laws.specs.Trace.{batch_made}
use Rattle.batch_laws.specs.Links.{LinkEdge, LinkClear, Log, closing, pairing, parting, subtreeing, pairs_in_turn, walking, topping}
use Rattle.edit_laws.specs.Lawful.{HasKeys}
use Rattle.batch_laws.specs.Written.{IsEarlier, OnEnd, GoesFrom}

-- keys of 1 to 1,024 bytes ascend in each node that is made: that is all that a writer of nodes asks
abbrev pub BatchHasKeys : Type 0
BatchHasKeys = (digest : List ℕ → List ℕ) (layer : List ℕ → ℕ) (n : ℕ) (cs : List Change) (es : List Pair) → ArePairs es
    → AreKeyed cs → top_layer layer es < n → top_layer layer (puts cs) < n
    → AllByRecursion HasKeys (map (shape digest) (batch_made layer n cs (top layer es)))

-- each is of the node grammar, where a machine can count the pairs
abbrev pub BatchIsLawful : Type 0
BatchIsLawful = (digest : List ℕ → List ℕ) (layer : List ℕ → ℕ) (n : ℕ) (cs : List Change) (es : List Pair)
    → IsDigest digest → ArePairs es → AreKeyed cs → HaveOwnCids cs → length (changed cs es) < 2 ^ 64
    → top_layer layer es < n → top_layer layer (puts cs) < n
    → AllLawful (map (shape digest) (batch_made layer n cs (top layer es)))

-- what a test says of each node that is made in the end it says of those made on the way, and those that are open may
-- still become such nodes, if it says it of the node without pairs and links
pub record StepsGoOn (P : Shape → Type 0) (digest : List ℕ → List ℕ) (shows : List ℕ → Option Shape) : Type 0 where
  pub closing_does : (s : LinkEdge) (log : Log) → IsEarlier P s log LinkClear (closing digest s log).1
  pub pairing_does : (d : ℕ) (e : Pair) (s : LinkEdge) (log : Log) → GoesFrom P s log (pairing digest shows d e s log)
  pub parting_does : (k : ℕ) (l : Option (List ℕ)) (s : LinkEdge) (log : Log)
      → GoesFrom P s log (parting digest shows k l s log)
  pub subtreeing_does : (k d : ℕ) (c : List ℕ) (s : LinkEdge) (log : Log)
      → GoesFrom P s log (subtreeing digest shows k d c s log)
  pub pairs_do : (depth : List ℕ → ℕ) (ps : List Pair) (s : LinkEdge) (log : Log)
      → GoesFrom P s log (pairs_in_turn digest shows depth ps s log)
  pub walking_does : (layer : List ℕ → ℕ) (n k d : ℕ) (l : Option (List ℕ)) (cs : List Change) (s : LinkEdge) (log : Log)
      → GoesFrom P s log (walking digest shows layer n k d l cs s log)
  pub topping_does : (k : ℕ) (s : LinkEdge) (log : Log)
      → OnEnd (λ top. LinkClear) (topping digest shows k s log) (IsEarlier P s log)

abbrev pub BatchGoesOn : Type 0
BatchGoesOn = (test : Shape → Bool) (digest : List ℕ → List ℕ) (shows : List ℕ → Option Shape)
    → test (LastLink None) ≡ true → StepsGoOn (λ s. test s ≡ true) digest shows
