-- Files of blocks: the header of a CAR, and what is read of one.
use Rattle.std.specs.Prelude.{◌≡◌, ◌+◌, ◌<◌, ◌^◌, ℕ, true, List, codes, length, map, pos, Ok}
use Rattle.std.specs.List.{AllByRecursion}
use Rattle.spec.specs.Reading.{IsBytes}
use Rattle.spec.specs.Cid.{cid, is_own_cid, IsDigest}
use Rattle.spec.specs.DagCbor.{Value, Integer, Items, Fields, Link, NoValue, ValueThen, NoEntry}
use Rattle.spec.specs.DagCbor.{EntryThen, spelling}
use Rattle.spec.specs.Blocks.{firsts}
use Rattle.spec.specs.Car.{sized, header, car_of}
use Rattle.spec.specs.CarReading.{Section, IsSection, read_car, car_bytes, are_named}

-- the roots, of which there is one, and the version (CARv1, header)
abbrev pub value_of_header : List ℕ → Value
value_of_header root = Fields (EntryThen (codes "roots") (Items (ValueThen (Link root) NoValue)) (EntryThen (codes "version") (Integer (pos 1)) NoEntry))

-- the header is the DAG-CBOR spelling of that map, after its length
abbrev pub HeaderIsDagCbor : Type 0
HeaderIsDagCbor = (root : List ℕ) → length root ≡ 36 → header root ≡ sized (spelling (value_of_header root))

-- what was written is read back
abbrev pub CarReadsBack : Type 0
CarReadsBack = (root : List ℕ) (ss : List Section) → is_own_cid root ≡ true
    → AllByRecursion IsSection ss → read_car (car_bytes root ss) ≡ Ok (root, ss)

-- what is read is the one spelling of what was read
abbrev pub OnlyCarsAreRead : Type 0
OnlyCarsAreRead = (file root : List ℕ) (ss : List Section) → IsBytes file
    → read_car file ≡ Ok (root, ss)
    → (file ≡ car_bytes root ss) × (is_own_cid root ≡ true) × AllByRecursion IsSection ss

-- the section of a block
abbrev pub section_of_block : (List ℕ → List ℕ) → List ℕ → Section
section_of_block digest b = record { cid = cid digest b; block = b }

-- so a file of a root and a list of blocks is read as that root and its blocks, each where its CID
-- comes first, and each section is named by its block
abbrev pub ExportReadsBack : Type 0
ExportReadsBack = (digest : List ℕ → List ℕ) (root : List ℕ) (bs : List (List ℕ))
    → IsDigest digest → is_own_cid root ≡ true → AllByRecursion (λ b. 36 + length b < 2 ^ 63) bs
    → let ss : List Section = map (section_of_block digest) (firsts (cid digest) bs)
    in (read_car (car_of digest root bs) ≡ Ok (root, ss)) × (are_named digest ss ≡ true)
