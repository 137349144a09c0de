use Rattle.std.proofs.Common.{◌≡◌, ◌∙◌, ◌∷◌, [], List, ap, replicate, sym}
use Rattle.std.proofs.lemmas.List.{get_or-replicate}
use Rattle.store.specs.Keys.{Key}
use Rattle.store.specs.Shards.{no_table, table_at}
use Rattle.store.specs.Table.{Table, empty_table}
use Rattle.store.proofs.shards.empty_shards.Goals as goal

pub returns-clause-empty : goal.returns-clause-empty
returns-clause-empty g c place h =
    let none = empty_table c.args.limit c.args.key in
    let same : c.new.result ∷ c.new-2.result ∷ c.new-3.result ∷ c.new-4.result ∷ c.new-5.result ∷ c.new-6.result ∷ c.new-7.result ∷ c.new-8.result ∷ c.new-9.result ∷ c.new-10.result ∷ c.new-11.result ∷ c.new-12.result ∷ c.new-13.result ∷ c.new-14.result ∷ c.new-15.result ∷ c.new-16.result ∷ [] ≡ replicate 16 none =
    λ i. c.new.ensures i ∷ c.new-2.ensures i ∷ c.new-3.ensures i ∷ c.new-4.ensures i ∷ c.new-5.ensures i ∷ c.new-6.ensures i ∷ c.new-7.ensures i ∷ c.new-8.ensures i ∷ c.new-9.ensures i ∷ c.new-10.ensures i ∷ c.new-11.ensures i ∷ c.new-12.ensures i ∷ c.new-13.ensures i ∷ c.new-14.ensures i ∷ c.new-15.ensures i ∷ c.new-16.ensures i ∷ [] in
    let is = ap (λ (ts : List Table). table_at ts place) same ∙ get_or-replicate 16 place none no_table h in
    is ∙ ap (λ (key : Key). empty_table c.args.limit key) (sym (ap (λ (t : Table). t.key) is))

pub returns-clause-keyed : goal.returns-clause-keyed
returns-clause-keyed g c place h =
    let none = empty_table c.args.limit c.args.key in
    let same : c.new.result ∷ c.new-2.result ∷ c.new-3.result ∷ c.new-4.result ∷ c.new-5.result ∷ c.new-6.result ∷ c.new-7.result ∷ c.new-8.result ∷ c.new-9.result ∷ c.new-10.result ∷ c.new-11.result ∷ c.new-12.result ∷ c.new-13.result ∷ c.new-14.result ∷ c.new-15.result ∷ c.new-16.result ∷ [] ≡ replicate 16 none =
    λ i. c.new.ensures i ∷ c.new-2.ensures i ∷ c.new-3.ensures i ∷ c.new-4.ensures i ∷ c.new-5.ensures i ∷ c.new-6.ensures i ∷ c.new-7.ensures i ∷ c.new-8.ensures i ∷ c.new-9.ensures i ∷ c.new-10.ensures i ∷ c.new-11.ensures i ∷ c.new-12.ensures i ∷ c.new-13.ensures i ∷ c.new-14.ensures i ∷ c.new-15.ensures i ∷ c.new-16.ensures i ∷ [] in
    ap (λ (t : Table). t.key) (ap (λ (ts : List Table). table_at ts place) same ∙ get_or-replicate 16 place none no_table h)
