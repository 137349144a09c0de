-- What is told of a section, and of the links of a node.
use Rattle.std.proofs.Common.{◌≡◌, ℕ, List, false, subst}
use Rattle.std.specs.Prelude.{Option, Some, None, nat_eq}
use Rattle.buffers.specs.Answers.{IsHanded}
use Rattle.tizulgech.specs.Parting.{IsHandedIfThere, IsSectionOf}

-- a section that there is
pub handed_there : (code : ℕ) (bytes : List ℕ) (found : Option (List ℕ)) (before room : List ℕ) (size : ℕ) → Some bytes ≡ found
    → IsHanded code bytes before room size → IsHandedIfThere code found before room size
handed_there code bytes found before room size is h = subst (λ (o : Option (List ℕ)). IsHandedIfThere code o before room size) is (λ _. h)

-- one that there isn't
pub none_there : (code : ℕ) (found : Option (List ℕ)) (before room : List ℕ) (size : ℕ) → None ≡ found → code ≡ 24
    → IsHandedIfThere code found before room size
none_there code found before room size is e = subst (λ (o : Option (List ℕ)). IsHandedIfThere code o before room size) is (λ _. e)

-- where memory was refused
pub refused_there : (code : ℕ) (found : Option (List ℕ)) (before room : List ℕ) (size : ℕ) → code ≡ 255 → IsHandedIfThere code found before room size
refused_there code None before room size e = λ p. let no : nat_eq 255 255 ≡ false = subst (λ (n : ℕ). nat_eq n 255 ≡ false) e p in absurd cc
refused_there code (Some bytes) before room size e = λ p. let no : nat_eq 255 255 ≡ false = subst (λ (n : ℕ). nat_eq n 255 ≡ false) e p in absurd cc

-- the section of a CID
pub section_of_cid : (code : ℕ) (sections : List ℕ → Option (List ℕ)) (c : List ℕ) (given : Option (List ℕ)) (before room : List ℕ) (size : ℕ)
    → Some c ≡ given → IsHandedIfThere code (sections c) before room size → IsSectionOf code sections given before room size
section_of_cid code sections c given before room size is h = subst (λ (o : Option (List ℕ)). IsSectionOf code sections o before room size) is h

-- what is no CID
pub section_of_none : (code : ℕ) (sections : List ℕ → Option (List ℕ)) (given : Option (List ℕ)) (before room : List ℕ) (size : ℕ)
    → None ≡ given → code ≡ 252 → IsSectionOf code sections given before room size
section_of_none code sections given before room size is e = subst (λ (o : Option (List ℕ)). IsSectionOf code sections o before room size) is e
