-- The commit of a stamp without a signature.
use Rattle.std.proofs.Common.{◌≡◌, ℕ, true, eqb, List, length, None, sym, take}
use Rattle.std.specs.Str.{bytes_eq}
use Rattle.std.proofs.lemmas.Bool.{eqb-true}
use Rattle.spec.specs.Cid.{prefix, is_own_cid}
use Rattle.spec.specs.Commits.{commit_bytes}
use Rattle.spec.specs.SignedCommits.{unsigned_bytes}
use Rattle.spec.specs.Stamps.{Stamp}
use Rattle.spec.proofs.Bools.{both}
use Rattle.spec.proofs.StateLaws.{commit-map}

own-length : (root : List ℕ) → is_own_cid root ≡ true → length root ≡ 36
own-length root own = eqb-true (length root) 36 (both (eqb (length root) 36) (bytes_eq (take 4 root) prefix) own).0

pub unsigned : (stamp : Stamp) (did rev sig root : List ℕ) → did ≡ stamp.did → rev ≡ stamp.rev → is_own_cid root ≡ true
    → unsigned_bytes (record { did = did; rev = rev; sig = sig; root = root; prev = None }) ≡ commit_bytes stamp root
unfolding unsigned_bytes
unsigned stamp did rev sig root of_did of_rev own = rw (of_did, of_rev) (sym (commit-map stamp root (own-length root own)))
