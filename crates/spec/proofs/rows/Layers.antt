-- Layers of keys, under SHA-256 as a table of four digests (FIPS 180-4).
use Rattle.std.specs.Prelude.{◌≡◌, ℕ, List, [], ◌∷◌, map, codes, if◌then◌else◌}
use Rattle.std.proofs.Common.{refl}
use Rattle.std.specs.Int.Count.{count_leading_zeros}
use Rattle.std.specs.Str.{bytes_eq}
use Rattle.spec.specs.Layer.{layer}
use Rattle.spec.proofs.rows.Written.{hex}

abbrev sha256 : List ℕ → List ℕ
sha256 key =
    if bytes_eq key (codes "2653ae71") then hex "afe2be96fd88f05ff6324324e8802fefd980adc67ce5b01c36154c5a52bc014e"
    else if bytes_eq key (codes "blue") then hex "16477688c0e00699c6cfa4497a3612d7e83c532062b64b250fed8908128ed548"
    else if bytes_eq key (codes "app.bsky.feed.post/454397e440ec") then hex "006d3de3963538ead7807d2636084ffc48630bb5b818acb880fcda65e0fac504"
    else hex "00007fc83d1bf657c14a0855a9a642a0cd4e4920ebd5860e297cd6aa36bad1c4"

abbrev keys : List (List ℕ)
keys = codes "2653ae71" ∷ codes "blue" ∷ codes "app.bsky.feed.post/454397e440ec" ∷ codes "app.bsky.feed.post/9adeb165882c" ∷ []

-- with two zero bits a layer, as the AT Protocol has it
layers_of_keys : map (layer sha256 2) keys ≡ 0 ∷ 1 ∷ 4 ∷ 8 ∷ []
unfolding count_leading_zeros
layers_of_keys = refl

-- with one, four and eight
layers_at_other_bits : (map (layer sha256 1) keys ≡ 0 ∷ 3 ∷ 9 ∷ 17 ∷ []) × (map (layer sha256 4) keys ≡ 0 ∷ 0 ∷ 2 ∷ 4 ∷ []) × (map (layer sha256 8) keys ≡ 0 ∷ 0 ∷ 1 ∷ 2 ∷ [])
unfolding count_leading_zeros
layers_at_other_bits = (refl, refl, refl)
