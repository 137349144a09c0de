use Rattle.std.proofs.Common.{ℕ, List, Option, option_map}
use Rattle.cid.specs.CidRef.{bytes_of}
use Rattle.node.proofs.ReadAgain.{Heads, tree-again, value-at, value-again, entry-again}
use Rattle.node.proofs.tested.tested_entry.Goals as goal

pub tested_link_or_null-requires : goal.tested_link_or_null-requires
tested_link_or_null-requires c =
    let n : ℕ × List ℕ = (c.tested_argument-length.result.0, c.tested_argument-length.result.1.now) in
    let p : ℕ × List ℕ = (c.tested_argument-prefix.result.0, c.tested_argument-prefix.result.1.now) in
    let heads : Heads c.args.bytes.now n p c.split_at.result.0.now c.split_at.result.1.now = record {
      read = c.requires;
      n_is = c.tested_argument-length.ensures;
      k_is = c.split_at.ensures.front;
      rest_is = c.split_at.ensures.back;
      p_is = c.tested_argument-prefix.ensures;
    } in
    tree-again _ _ _ _ _ heads

pub slice_bounds-tested_link-count : goal.slice_bounds-tested_link-count
slice_bounds-tested_link-count c =
    let n : ℕ × List ℕ = (c.tested_argument-length.result.0, c.tested_argument-length.result.1.now) in
    let p : ℕ × List ℕ = (c.tested_argument-prefix.result.0, c.tested_argument-prefix.result.1.now) in
    let heads : Heads c.args.bytes.now n p c.split_at.result.0.now c.split_at.result.1.now = record {
      read = c.requires;
      n_is = c.tested_argument-length.ensures;
      k_is = c.split_at.ensures.front;
      rest_is = c.split_at.ensures.back;
      p_is = c.tested_argument-prefix.ensures;
    } in
    let t : Option (List ℕ) × List ℕ = (option_map bytes_of c.tested_link_or_null.result.0, c.tested_link_or_null.result.1.now) in
    value-at _ _ _ _ _ heads t c.tested_link_or_null.ensures

pub slice_bounds-tested_link-start : goal.slice_bounds-tested_link-start
slice_bounds-tested_link-start c =
    let n : ℕ × List ℕ = (c.tested_argument-length.result.0, c.tested_argument-length.result.1.now) in
    let p : ℕ × List ℕ = (c.tested_argument-prefix.result.0, c.tested_argument-prefix.result.1.now) in
    let heads : Heads c.args.bytes.now n p c.split_at.result.0.now c.split_at.result.1.now = record {
      read = c.requires;
      n_is = c.tested_argument-length.ensures;
      k_is = c.split_at.ensures.front;
      rest_is = c.split_at.ensures.back;
      p_is = c.tested_argument-prefix.ensures;
    } in
    let t : Option (List ℕ) × List ℕ = (option_map bytes_of c.tested_link_or_null.result.0, c.tested_link_or_null.result.1.now) in
    value-at _ _ _ _ _ heads t c.tested_link_or_null.ensures

pub tested_link-requires : goal.tested_link-requires
tested_link-requires c =
    let n : ℕ × List ℕ = (c.tested_argument-length.result.0, c.tested_argument-length.result.1.now) in
    let p : ℕ × List ℕ = (c.tested_argument-prefix.result.0, c.tested_argument-prefix.result.1.now) in
    let heads : Heads c.args.bytes.now n p c.split_at.result.0.now c.split_at.result.1.now = record {
      read = c.requires;
      n_is = c.tested_argument-length.ensures;
      k_is = c.split_at.ensures.front;
      rest_is = c.split_at.ensures.back;
      p_is = c.tested_argument-prefix.ensures;
    } in
    let t : Option (List ℕ) × List ℕ = (option_map bytes_of c.tested_link_or_null.result.0, c.tested_link_or_null.result.1.now) in
    value-again _ _ _ _ _ heads t c.tested_link_or_null.ensures

pub returns : goal.returns
returns c =
    let n : ℕ × List ℕ = (c.tested_argument-length.result.0, c.tested_argument-length.result.1.now) in
    let p : ℕ × List ℕ = (c.tested_argument-prefix.result.0, c.tested_argument-prefix.result.1.now) in
    let heads : Heads c.args.bytes.now n p c.split_at.result.0.now c.split_at.result.1.now = record {
      read = c.requires;
      n_is = c.tested_argument-length.ensures;
      k_is = c.split_at.ensures.front;
      rest_is = c.split_at.ensures.back;
      p_is = c.tested_argument-prefix.ensures;
    } in
    let t : Option (List ℕ) × List ℕ = (option_map bytes_of c.tested_link_or_null.result.0, c.tested_link_or_null.result.1.now) in
    entry-again _ _ _ _ _ heads t c.tested_link_or_null.ensures (bytes_of c.tested_link.result.0, c.tested_link.result.1.now) c.tested_link.ensures
