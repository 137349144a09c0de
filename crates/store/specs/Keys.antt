-- What SipHash is at once it has read a table's key.
use Rattle.std.specs.Prelude.{ℕ, refl}
use Rattle.std.specs.Coded.{Coded, code_by, coded×, coded_ℕ}
use Rattle.std.specs.List.{fold}
use Rattle.std.specs.Hash as fed
use Rattle.std.specs.declared.hash.DefaultHasher.{DefaultHasher}
use Rattle.std.specs.Hash.DefaultHasher.{initial, write}

-- what a table goes on from with a CID
abbrev pub Key : Type 0
Key = DefaultHasher

abbrev pub key_code : Coded Key
key_code = code_by (ℕ × (ℕ × (ℕ × (ℕ × (ℕ × ℕ)))))
    (coded× coded_ℕ (coded× coded_ℕ (coded× coded_ℕ (coded× coded_ℕ (coded× coded_ℕ coded_ℕ)))))
    (λ h. (h.v0, (h.v1, (h.v2, (h.v3, (h.tail, h.length))))))
    (λ p. record { v0 = p.0; v1 = p.1.0; v2 = p.1.1.0; v3 = p.1.1.1.0; tail = p.1.1.1.1.0; length = p.1.1.1.1.1 })
    (λ _. refl)

-- the two numbers one after the other, each as eight bytes
abbrev pub state_after : ℕ → ℕ → Key
state_after first second = fold write (fold write initial (fed.u64 first)) (fed.u64 second)
