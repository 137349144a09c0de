use Rattle.std.proofs.Common.{◌≡◌, List, ℕ, map, ap, subst, ◌∙◌, Err}
use Rattle.std.specs.Arc.{arc_value}
use Rattle.std.proofs.lemmas.Result.{err_from_is_err_and}
use Rattle.spec.specs.Cid.{cid}
use Rattle.spec.specs.Car.{car_of}
use Rattle.car_writing.specs.Once.{Written, file_with}
use Rattle.car_writing.proofs.Putting.{file-begun}
use Rattle.event_writing.specs.Putting.{ArePut, IsTooLong}
use Rattle.event_writing.specs.Sources.{records_given}
use Rattle.event_writing.specs.Views.{untold_fault_of}
use Rattle.event_writing.proofs.EachOp.{gives-err}
use Rattle.event_writing.proofs.AtSource.{records-agree, told-left}
use Rattle.event_writing.proofs.LeftFile.{all-put, commit-fails, nodes-fail, records-fail, test-fails}
use Rattle.event_writing.proofs.file.left_file.Goals as goal

-- a file that was begun for a commit
begun : (digest : List ℕ → List ℕ) (w : Written) (root commit : List ℕ) → root ≡ cid digest commit
    → ((bs : List (List ℕ)) → file_with digest w bs ≡ car_of digest root bs) → (bs : List (List ℕ))
    → file_with digest w bs ≡ car_of digest (cid digest commit) bs
begun digest w root commit e h bs = h bs ∙ ap (λ (r : List ℕ). car_of digest r bs) e

pub returns-in_err-nodes-clause-file : goal.returns-in_err-nodes-clause-file
returns-in_err-nodes-clause-file g c =
    let p = err_from_is_err_and c.from_residual.result c.from_residual.ensures.1 in
    let e = c.in_err-nodes.field-0.0 in
    λ m has. gives-err _ e c.from_residual.result _ (p.1 ∙ ap Err p.2)
    (test-fails g.D.Digest.digest_of g.row.B m c.args.commit.now c.args.ops.now (untold_fault_of e) (c.in_err-nodes.ensures.told m has))

pub returns-in_err-put-clause-file : goal.returns-in_err-put-clause-file
returns-in_err-put-clause-file g c =
    let p = err_from_is_err_and c.from_residual-in_err-put.result c.from_residual-in_err-put.ensures.1 in
    let e = c.in_err-put.field-0.0 in
    let digest = g.D.Digest.digest_of in
    let w = c.in_ok-file.file in
    λ m has. gives-err _ e c.from_residual-in_err-put.result _ (p.1 ∙ ap Err p.2)
    (commit-fails digest g.row.B m c.args.commit.now c.args.ops.now (c.in_ok-nodes.ensures.told m has)
    (map arc_value c.in_ok-nodes.nodes.items) (c.in_ok-nodes.ensures.nodes m has) w
    (begun digest w c.cid.result c.args.commit.now c.cid.ensures
    (λ bs. file-begun digest w c.cid.result bs c.in_ok-file.ensures.bytes c.in_ok-file.ensures.cids))
    e c.in_err-put.ensures.fault)

pub returns-in_err-put_nodes-clause-file : goal.returns-in_err-put_nodes-clause-file
returns-in_err-put_nodes-clause-file g c =
    let p = err_from_is_err_and c.from_residual-in_err-put_nodes.result c.from_residual-in_err-put_nodes.ensures.1 in
    let e = c.in_err-put_nodes.field-0.0 in
    let digest = g.D.Digest.digest_of in
    let w = c.in_ok-file.file in
    λ m has. gives-err _ e c.from_residual-in_err-put_nodes.result _ (p.1 ∙ ap Err p.2)
    (nodes-fail digest g.row.B m c.args.commit.now c.args.ops.now (c.in_ok-nodes.ensures.told m has)
    (map arc_value c.deref.result.now) (ap (map arc_value) c.deref.ensures.value ∙ c.in_ok-nodes.ensures.nodes m has) w
    (begun digest w c.cid.result c.args.commit.now c.cid.ensures
    (λ bs. file-begun digest w c.cid.result bs c.in_ok-file.ensures.bytes c.in_ok-file.ensures.cids))
    c.put.new.file c.in_ok-put.ensures.put
    e c.in_err-put_nodes.ensures.fault)

pub returns-in_err-put_records-clause-file : goal.returns-in_err-put_records-clause-file
returns-in_err-put_records-clause-file g c =
    let p = err_from_is_err_and c.from_residual-in_err-put_records.result c.from_residual-in_err-put_records.ensures.1 in
    let e = c.in_err-put_records.field-0.0 in
    let digest = g.D.Digest.digest_of in
    let ops = c.args.ops.now in
    let w = c.in_ok-file.file in
    let same = c.in_ok-nodes.ensures.same in
    λ m has. let left = ap (λ f. records_given f ops) same
    ∙ records-agree digest (g.S.Source.gives c.args.src.now) m has.records ops (told-left digest m ops tt (c.in_ok-nodes.ensures.told m has)) in
    gives-err _ e c.from_residual-in_err-put_records.result _ (p.1 ∙ ap Err p.2)
    (records-fail digest g.row.B m c.args.commit.now ops (c.in_ok-nodes.ensures.told m has)
    (map arc_value c.deref.result.now) (ap (map arc_value) c.deref.ensures.value ∙ c.in_ok-nodes.ensures.nodes m has) w
    (begun digest w c.cid.result c.args.commit.now c.cid.ensures
    (λ bs. file-begun digest w c.cid.result bs c.in_ok-file.ensures.bytes c.in_ok-file.ensures.cids))
    c.put.new.file c.in_ok-put.ensures.put c.put_nodes.new.file c.in_ok-put_nodes.ensures.put
    e (subst (λ (bs : List (List ℕ)). IsTooLong digest bs c.put_nodes.new.file e) left c.in_err-put_records.ensures.fault))

pub returns-clause-file : goal.returns-clause-file
returns-clause-file g c =
    let digest = g.D.Digest.digest_of in
    let ops = c.args.ops.now in
    let w = c.in_ok-file.file in
    let same = c.in_ok-nodes.ensures.same in
    λ m has. let left = ap (λ f. records_given f ops) same
    ∙ records-agree digest (g.S.Source.gives c.args.src.now) m has.records ops (told-left digest m ops tt (c.in_ok-nodes.ensures.told m has)) in
    all-put digest g.row.B m c.args.commit.now ops (c.in_ok-nodes.ensures.told m has)
    (map arc_value c.deref.result.now) (ap (map arc_value) c.deref.ensures.value ∙ c.in_ok-nodes.ensures.nodes m has) w
    (begun digest w c.cid.result c.args.commit.now c.cid.ensures
    (λ bs. file-begun digest w c.cid.result bs c.in_ok-file.ensures.bytes c.in_ok-file.ensures.cids))
    c.put.new.file c.in_ok-put.ensures.put c.put_nodes.new.file c.in_ok-put_nodes.ensures.put
    c.put_records.new.file
    (subst (λ (bs : List (List ℕ)). ArePut digest bs c.put_nodes.new.file c.put_records.new.file) left c.in_ok-put_records.ensures.put)
    c.in_ok-put_records.ensures.short c.into_bytes.result.items c.into_bytes.ensures
